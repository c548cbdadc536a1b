-- A node of a running world is active, or has no live events.
use Rattle.rex_world.proofs.Common.{◌≡◌, ◌⊎◌, inl, inr, ℕ, ◌+◌, ◌-◌, ◌^◌, ◌<◌, ◌≤◌, true, List, [], ◌∷◌, ◌++◌, length, Option, Some, None, is_some, refl, sym, ◌∙◌, ap, subst, arith, unwrap_or, slice_index_or, list_all, and_parts, Declarations, IsNode, start_of, lane_of, known, Lead, Role, Leads, Value, spells, runs, trace_of, state_after, values_fit, Here, live_state, next_fits, ActingValue, IsActing, role_of, work_of, AreLimits, counts_for, World, Member, IsMember, here_at, nodes_of, IsRunning, node_in}
use Rattle.std.proofs.lemmas.List.{append-nil}
use Rattle.rex_event.specs.Cuts.{below}
use Rattle.rex_cut.specs.Greatest.{greatest_cut}
use Rattle.rex_paxos.specs.Acceptor.{AcceptorValue}
use Rattle.rex_paxos.specs.Proposer.{ProposerValue}
use Rattle.rex_cluster.specs.Node.{Work}
use Rattle.rex_cluster.specs.Lanes.{node_trace}
use Rattle.rex_safety.specs.Keeping.{AreCounts}
use Rattle.rex_cluster.proofs.Few.{counts_are_few}
use Rattle.rex_safety.proofs.Spelled.{kept_room, kept_cut}
use Rattle.rex_node.specs.Calls.{CanBeCut}
use Rattle.rex_cluster.proofs.Replies.{fits_run as fit_run}
use Rattle.rex_world.proofs.Placed.{here_is, member_is}

-- it is active, or has no live events
abbrev Works : Role Value → Work → Type 0
Works role work = ((l : Lead Value) × (role ≡ Leads l) × (l.active ≡ true)) ⊎ (work.live ≡ [])

parts_work : (service : Declarations) (values : List Value) (a : AcceptorValue) (p : Option ProposerValue) (x : Option ActingValue) → IsActing service values a p x → Works (role_of a p (is_some x)) (work_of x)
parts_work service values a p None h = inr refl
parts_work service values a None (Some x) h = absurd h
parts_work service values a (Some p) (Some x) h = inl (_, refl, refl)

member_works : {service : Declarations} {past : List Value} {seed nodes number : ℕ} {x : Member} → IsMember service past seed nodes number x → (here_at service past x).up ≡ true → Works (here_at service past x).role (here_at service past x).work
member_works {service} {past} {x} h up = parts_work service _ x.acceptor _ x.acting ((h.node.up up).acting)

-- one of some nodes
spare : (xs : List Member) → 0 < length xs → Member
spare [] l = absurd (omega arith)
spare (x ∷ xs) l = x

module _ {S : Type 0} (service : Declarations) (w : World S) (h : IsRunning service w) (m : ℕ) (there : IsNode (nodes_of w) m) where
  abbrev here : Here
  here = node_in service w m

  works : here.up ≡ true → Works here.role here.work
  works up =
      let d = spare w.nodes.items (omega (arith, there.0, there.1)) in
      let e : here ≡ here_at service w.agreed (slice_index_or w.nodes.items (m - 1) d) = here_is w.nodes.items there service w.agreed d in
      subst (λ x. Works x.role x.work) (sym e)
      (member_works (member_is w.nodes.items there service w.agreed d h.members) (subst (λ x. x.up ≡ true) e up))

  pub fit : values_fit service (known here.log) ≡ true
  fit = (next_fits service w.seed _ _ h.kept.world).known m there

  few : length (known here.log) ≤ 65535
  few = (h.kept.numbers.nodes m there).log.few

  -- the count of a lane has room
  abbrev HasRoom : ℕ → Here → Type 0
  HasRoom lane x = (lane_of (live_state service x) lane).done + 1 < 2 ^ 32

  known_room : (lane : ℕ) → here.work.live ≡ [] → HasRoom lane here
  known_room lane none =
      let r = fit_run service _ fit in
      let e : node_trace here ≡ trace_of (known here.log) = ap (λ es. trace_of (known here.log) ++ es) none ∙ append-nil (trace_of (known here.log)) in
      let s : live_state service here ≡ r.0 = ap (state_after service) e ∙ ap (λ o. unwrap_or o (start_of service)) r.1 in
      let most = counts_are_few service _ r.0 lane (and_parts (list_all (spells service) (known here.log)) (runs service (trace_of (known here.log))) fit).0 r.1 in
      subst (λ t. (lane_of t lane).done + 1 < 2 ^ 32) (sym s) (omega (arith, most, few))

  room_by : (lane : ℕ) → Works here.role here.work → HasRoom lane here
  room_by lane (inl a) = (kept_room service h.service_is h.checked w.seed _ _ h.kept m a.0 a.1 a.2 lane).room
  room_by lane (inr none) = known_room lane none

  pub room : (lane : ℕ) → here.up ≡ true → HasRoom lane here
  room lane up = room_by lane (works up)

  -- a cut can be made
  cut_with : {counts : List ℕ} → AreCounts service here counts → Works here.role here.work → CanBeCut here counts
  cut_with {counts} are (inl a) =
      let c = kept_cut service h.service_is h.checked w.seed _ _ h.kept m a.0 a.1 a.2 counts are in
      λ some. record { delta = c.delta some; short = c.short some }
  cut_with {counts} are (inr none) = λ some. absurd (nothing some)
    where
      empty : below (greatest_cut counts here.work.live) here.work.live ≡ []
      empty = ap (below (greatest_cut counts here.work.live)) none

      nothing : 0 < length (below (greatest_cut counts here.work.live) here.work.live) → ⊥
      nothing some = absurd (omega (arith, some, ap length empty))

  counts_are : (limits : Option (List ℕ)) → AreLimits service limits → AreCounts service here (counts_for service here limits)
  counts_are None l = inl refl
  counts_are (Some limits) l = inr (limits, l, refl)

  pub can_be_cut : (limits : Option (List ℕ)) → AreLimits service limits → here.up ≡ true → CanBeCut here (counts_for service here limits)
  can_be_cut limits l up = cut_with (counts_are limits l) (works up)
