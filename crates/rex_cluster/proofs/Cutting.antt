-- What a cut keeps: whatever its proposal keeps, and the reports of why there is none.
use Rattle.std.proofs.Common.{◌≡◌, ℕ, ◌<◌, Bool, true, false, List, [], ◌∷◌, length, Option, Some, None, refl, leb-false}
use Rattle.std.specs.Prelude.{nat_le}
use Rattle.rex_syntax.specs.declared.service.Declarations.{Declarations}
use Rattle.rex_event.specs.declared.event.Event.{Event}
use Rattle.rex_event.specs.Cuts.{below}
use Rattle.rex_cut.specs.Greatest.{greatest_cut}
use Rattle.rex_report.specs.declared.effect.Effect.TheVariants as effect
use Rattle.rex_cluster.specs.Records.{Proposal, known}
use Rattle.rex_cluster.specs.Node.{Lead, Role, role_name}
use Rattle.rex_cluster.specs.Node.Role.{Follower, Leads}
use Rattle.rex_cluster.specs.Calls.{say}
use Rattle.rex_cluster.specs.Values.{Value}
use Rattle.rex_cluster.specs.Lanes.{CallHere, active_only, is_faithful, propose_cut, cut_live, cut_lead, cut_role, cut}
use Rattle.rex_cluster.proofs.Calls.{if_good}

-- a cut proposes what is faithful, or says why it doesn't
pub cut_keeps : (K : CallHere → Type 0) (service : Declarations) (seed n m : ℕ) (counts : List ℕ) (d : CallHere)
    → K (say effect.Nothing d) → ((i : ℕ) → K (say (effect.Open i) d)) → K (say effect.Ended d) → K (say (effect.NotActive (role_name d.node.role)) d)
    → ((l : Lead Value) → d.node.role ≡ Leads l → l.active ≡ true → l.proposal ≡ None → length (known d.node.log) < 65535
    → is_faithful service seed (known d.node.log) (greatest_cut counts d.node.work.live) d.node.work.live ≡ true → K (propose_cut service seed n m (greatest_cut counts d.node.work.live) l d))
    → K (cut service seed n m counts d)
cut_keeps K service seed n m counts d nothing opened ended passive proposes = by d.node.role refl
  where
    live : (l : Lead Value) → d.node.role ≡ Leads l → l.active ≡ true → l.proposal ≡ None → length (known d.node.log) < 65535 → (es : List Event) → K (cut_live service seed n m (greatest_cut counts d.node.work.live) l es d)
    live l r a p i [] = nothing
    live l r a p i (y ∷ ys) = if_good K (is_faithful service seed (known d.node.log) (greatest_cut counts d.node.work.live) d.node.work.live) (λ f. proposes l r a p i f) (λ _. nothing)

    led : (l : Lead Value) → d.node.role ≡ Leads l → l.active ≡ true → (o : Option (Proposal Value)) → l.proposal ≡ o → K (cut_lead service seed n m counts l o d)
    led l r a (Some p) e = opened p.instance
    led l r a None e =
        if_good K (nat_le 65535 (length (known d.node.log))) (λ _. ended)
        (λ i. live l r a e (leb-false 65535 (length (known d.node.log)) i) (below (greatest_cut counts d.node.work.live) d.node.work.live))

    active : (l : Lead Value) → d.node.role ≡ Leads l → (t : Bool) → l.active ≡ t → K (active_only t d (cut_lead service seed n m counts l l.proposal d))
    active l r true a = led l r a l.proposal refl
    active l r false a = passive

    by : (r : Role Value) → d.node.role ≡ r → K (cut_role service seed n m counts r d)
    by Follower r = passive
    by (Leads l) r = active l r l.active refl
