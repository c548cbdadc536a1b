-- What an election, a message and a cut ask for.
use Rattle.std.proofs.Common.{arith, ◌≡◌, ◌⊎◌, ℕ, ◌<◌, ◌≤◌, Bool, true, false, List, [], ◌∷◌, length, inl, inr, refl, ◌∙◌, ap, subst, ◌≢◌}
use Rattle.rex_msg.specs.declared.message.Message.{Message}
use Rattle.rex_syntax.specs.Service.{IsService}
use Rattle.rex_syntax.specs.Check.{IsChecked}
use Rattle.rex_event.specs.Cuts.{below}
use Rattle.rex_cut.specs.Greatest.{greatest_cut}
use Rattle.rex_cluster.specs.Records.{known}
use Rattle.rex_cluster.specs.Quorum.{is_majority, IsNode as IsThere}
use Rattle.rex_cluster.specs.Node.{Lead, Role, is_active}
use Rattle.rex_cluster.specs.Node.Role.{Follower, Leads}
use Rattle.rex_cluster.specs.Calls.{begin, elect, receive}
use Rattle.rex_cluster.specs.Values.{Value, service_of, values_fit}
use Rattle.rex_cluster.specs.Lanes.{Here, no_limits}
use Rattle.rex_log.specs.Messages.{content_in}
use Rattle.rex_node.specs.Calls.{CanBeCut}
use Rattle.rex_node.specs.Going.{RunsOn}
use Rattle.rex_processes.specs.Tested.{KnownFits, OwnReportsFit, MayBeHeard}
use Rattle.rex_processes.specs.Leading.{RunsInRange}
use Rattle.rex_processes.proofs.Ranging.{actives_in_range, one_can_cut}
use Rattle.rex_processes.proofs.Testing.{alone_fits, elect_fits, heard_fits}
use Rattle.rex_process.specs.Hearing.{IsHeard}
use Rattle.rex_process.specs.Process.{ProcessValue, IsProcess, here}
use Rattle.rex_process.proofs.Standing.{alone_or_not, none_live, up_is}

module _ {K : Type 0} (records : K → List (List ℕ)) (faults : K → ℕ) (p : ProcessValue K) (good : IsService p.service) (checked : IsChecked p.service) (process : IsProcess records faults p) (up : p.node.up ≡ true) where
  abbrev x : Here
  x = here records p

  fit : KnownFits p.service x
  fit = let u = up_is records p.service p.node process.node process.plain up in subst (λ (vs : List Value). values_fit p.service vs ≡ true) u.known u.fits

  few : length (known x.log) ≤ 65535
  few = (up_is records p.service p.node process.node process.plain up).numbers.log.few

  -- ---- elections

  pub election_runs : (p.node.nodes ≡ 1 → OwnReportsFit p.service x) → RunsOn p.service (elect p.node.nodes (service_of p.service p.node.seed) p.node.id) (begin x)
  election_runs own = by (alone_or_not p.node.nodes p.node.id process.node.id)
    where
      by : (p.node.nodes ≡ 1) ⊎ (is_majority p.node.nodes (p.node.id ∷ []) ≡ false) → RunsOn p.service (elect p.node.nodes (service_of p.service p.node.seed) p.node.id) (begin x)
      by (inl e) = alone_fits p.service p.node.seed p.node.nodes p.node.id (begin x) fit (own e)
      by (inr e) = elect_fits p.service p.node.seed p.node.nodes p.node.id (begin x) fit e

  -- ---- messages

  -- a message comes from another node, so this one is no majority by itself
  others : (m : Message) → IsHeard p.node.id p.node.nodes m → is_majority p.node.nodes (p.node.id ∷ []) ≡ false
  others m heard = by (alone_or_not p.node.nodes p.node.id process.node.id)
    where
      alone : (n a b : ℕ) → n ≡ 1 → IsThere n a → IsThere n b → a ≢ b → ⊥
      alone n a b e one other apart = apart (omega (arith, e, one.0, one.1, other.0, other.1))

      by : (p.node.nodes ≡ 1) ⊎ (is_majority p.node.nodes (p.node.id ∷ []) ≡ false) → is_majority p.node.nodes (p.node.id ∷ []) ≡ false
      by (inr e) = e
      by (inl e) = absurd (alone p.node.nodes m.from m.to e (heard.numbers []).from (heard.numbers []).to (heard.numbers []).apart)

  pub message_runs : (m : Message) → IsHeard p.node.id p.node.nodes m → MayBeHeard p.service x (content_in [] m.content) → RunsOn p.service (receive p.node.nodes (service_of p.service p.node.seed) p.node.id m.from (content_in [] m.content)) (begin x)
  message_runs m heard may = heard_fits p.service p.node.seed p.node.nodes p.node.id (others m heard) (begin x) fit m.from (content_in [] m.content) may

  -- ---- cuts

  none_to_cut : is_active x.role ≡ false → CanBeCut x (no_limits p.service x)
  none_to_cut e some = absurd (nothing some)
    where
      empty : below (greatest_cut (no_limits p.service x) x.work.live) x.work.live ≡ []
      empty = ap (below (greatest_cut (no_limits p.service x) x.work.live)) (none_live records p.service p.node process.node process.plain up e)

      nothing : 0 < length (below (greatest_cut (no_limits p.service x) x.work.live) x.work.live) → ⊥
      nothing some = absurd (omega (arith, some, ap length empty))

  pub can_be_cut : CanBeCut x (no_limits p.service x)
  can_be_cut = by x.role refl
    where
      acts : (l : Lead Value) → x.role ≡ Leads l → l.active ≡ true → CanBeCut x (no_limits p.service x)
      acts l r a some =
          let range : RunsInRange p.service x = actives_in_range p.service x l.proposal fit few ((process.up up).acts l r a fit) in
          let c = one_can_cut p.service good checked x range (no_limits p.service x) (inl refl) in
          record { delta = c.delta some; short = c.short some }

      leads : (l : Lead Value) (t : Bool) → x.role ≡ Leads l → l.active ≡ t → CanBeCut x (no_limits p.service x)
      leads l true r a = acts l r a
      leads l false r a = none_to_cut (ap is_active r ∙ a)

      by : (r : Role Value) → x.role ≡ r → CanBeCut x (no_limits p.service x)
      by Follower r = none_to_cut (ap is_active r)
      by (Leads l) r = leads l l.active r refl
