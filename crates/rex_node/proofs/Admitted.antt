-- What a client is told that reads a variable at a node, or that a release gives.
use Rattle.rex_node.proofs.Common.{arith, ◌≡◌, ℕ, ◌≤◌, Bool, true, false, List, Option, Some, None, refl, sym, ap, ◌∙◌, ℤ, is_some, Declarations, answered, known, is_active, Value, state_after, trace_of, last_reply, value_in, state_is, ActingValue, IsResting, IsUp, NodeValue, here_of, state_of, last_held}
use Rattle.std.proofs.Common.{max}
use Rattle.std.specs.Prelude.{drop, take}
use Rattle.rex_cluster.specs.Reading.{read_at, stamp_at}
use Rattle.rex_node.proofs.Appended.{logged_of}
use Rattle.rex_node.proofs.Leaving.{role_active}
use Rattle.rex_node.proofs.Stamping.{held_last}

-- a node that is down or leads tells no value
told_same : (up leads : Bool) (replayed seen : ℕ) {v w : ℤ} → (up ≡ true → leads ≡ false → v ≡ w) → answered up leads replayed v seen ≡ answered up leads replayed w seen
told_same false leads replayed seen h = refl
told_same true true replayed seen h = refl
told_same true false replayed seen h = ap (λ z. answered true false replayed z seen) (h refl refl)

idle : (w : Option ActingValue) → is_some w ≡ false → w ≡ None
idle None e = refl
idle (Some a) e = absurd (cc)

module _ {K : Type 0} {records : K → List (List ℕ)} {service : Declarations} {past : List Value} {x : NodeValue K} (node : IsResting records service past x) where
  -- a node that isn't active has the state to which the values run that it has replayed
  value_is : (variable : ℕ) → x.up ≡ true → is_active (here_of records service past x).role ≡ false
      → value_in (state_of x) variable ≡ value_in (state_after service (trace_of (take x.replayed (known (here_of records service past x).log)))) variable
  value_is variable up follows =
      let u = node.up up in
      let none : x.acting ≡ None = idle x.acting (sym (role_active service x.known x.acceptor _ x.acting u.acting) ∙ follows) in
      ap (λ s. value_in s variable)
      (sym (state_is service _ _ (u.ahead none))
      ∙ ap (λ vs. state_after service (trace_of (take x.replayed vs))) u.known)

  pub read_is : (variable seen : ℕ) {leads : Bool} {v : ℤ} → leads ≡ is_active (here_of records service past x).role → v ≡ value_in (state_of x) variable
      → answered x.up leads x.replayed v seen ≡ read_at service (here_of records service past x) variable seen
  read_is variable seen {v} leads_is v_is =
      ap (λ t. answered x.up t x.replayed v seen) leads_is
      ∙ told_same x.up _ _ seen
      (λ up follows. v_is ∙ value_is variable up follows)

  -- ---- the number that a release of an active node gives its client

  module _ {client : ℕ} (up : x.up ≡ true) {a : ActingValue} (acts : x.acting ≡ Some a) (few : client ≤ 256) where
    u : IsUp service x (here_of records service past x)
    u = node.up up

    last : max (last_reply client 1 x.known) x.offset ≡ stamp_at (here_of records service past x) client
    last =
        ap (λ vs. max (last_reply client 1 vs) x.offset) u.known
        ∙ ap (λ o. max (last_reply client 1 (known (here_of records service past x).log)) o) u.offset

    -- where what is known of the clients has none, it is that of the last value that is held and has a reply to the client
    pub stamp_held : last_held x.offset (drop x.offset x.known) client ≡ stamp_at (here_of records service past x) client
    stamp_held = (let g = logged_of records service past x u in held_last x.known client (omega (arith, g.low, g.few))) ∙ last
