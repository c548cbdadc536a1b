-- The end lines of nodes.
use Rattle.rex_world.proofs.Common.{◌≡◌, ℕ, suc, ◌+◌, ◌-◌, ◌<◌, ◌≤◌, true, List, [], ◌∷◌, ◌++◌, length, take, Option, Some, None, is_some, refl, sym, ◌∙◌, ap, subst, arith, append_assoc, add-zero, add-one, slice_index_or, if◌then◌else◌, on_ok_weaker, take-suc, Declarations, StateValue, start_of, run, Up, promise, known, role_name, is_active, Value, trace_of, state_after, Here, KeeperValue, log_of, NodeValue, ActingValue, IsActing, here_of, role_of, work_of, Member, AreMembers, IsMember, here_at, heres, records_of, ends_text}
use Rattle.std.proofs.Common.{length-take}
use Rattle.std.specs.Prelude.{ℤ, Result, OnOk}
use Rattle.rex_state.proofs.Run.{run-then}
use Rattle.rex_cluster.proofs.Replies.{state_is}
use Rattle.rex_report.specs.declared.ends.End.{End}
use Rattle.rex_report.specs.declared.ends.End.TheVariants.{Down}
use Rattle.rex_report.specs.declared.ends.UpEnd.{UpEnd}
use Rattle.rex_report.specs.Ends.{end_text}
use Rattle.rex_node.specs.Parts.{IsNode, shown_of, shown_with}
use Rattle.rex_node.specs.Parts.{count_of as known_count}
use Rattle.rex_world.proofs.Knowing.{count_known}
use Rattle.rex_world.proofs.Placed.{many_here, member_is}
use Rattle.std.proofs.lemmas.List.{append-nil}
use Rattle.rex_world.specs.Report.{count_of, end_of, node_text, shown_state, up_end_of}

-- an end line that was told, in other terms
pub told_as : {E : Type 0} {end other : End} {service declared : Declarations} {values shown : List ℤ} {counts others : List ℕ} (r : Result (Unit {0}) E) (before after : List ℕ) → other ≡ end → declared ≡ service → shown ≡ values → others ≡ counts
    → OnOk r (after ≡ before ++ end_text other declared shown others) → OnOk r (after ≡ before ++ end_text end service values counts)
told_as {E} {end} {other} {service} {declared} {values} {shown} {counts} {others} r before after a b d c h =
    on_ok_weaker r
    (λ t.
    t ∙ ap (λ x. before ++ end_text x declared shown others) a
    ∙ ap (λ x. before ++ end_text end x shown others) b
    ∙ ap (λ x. before ++ end_text end service x others) d
    ∙ ap (λ x. before ++ end_text end service values x) c)
    h

-- the state that is shown, where it is active and where it isn't
shown_at : (service : Declarations) (values : List Value) (replayed : ℕ) (a : _) (proposer : Option _) (acting : Option ActingValue) {s : StateValue}
    → (acting ≡ None → run service (start_of service) (trace_of (take replayed values)) ≡ Some s) → IsActing service values a proposer acting
    → (if is_active (role_of a proposer (is_some acting)) then state_after service (trace_of values ++ (work_of acting).live) else state_after service (trace_of (take replayed values))) ≡ shown_with acting s
shown_at service values replayed a None None {s} ahead acts = state_is service _ _ (ahead refl)
shown_at service values replayed a (Some p) None {s} ahead acts = state_is service _ _ (ahead refl)
shown_at service values replayed a None (Some e) ahead acts = absurd acts
shown_at service values replayed a (Some p) (Some e) ahead acts =
    state_is service _ _ (run-then service (start_of service) _ (trace_of values) _ acts.executes.known ∙ acts.executes.recorder.runs)

few_live : (service : Declarations) (values : List Value) (a : _) (proposer : Option _) (acting : Option ActingValue) → IsActing service values a proposer acting → length (work_of acting).live ≤ 4096
few_live service values a p None acts = omega arith
few_live service values a None (Some e) acts = absurd acts
few_live service values a (Some p) (Some e) acts = acts.executes.recorder.few

-- what the node came to, with a promise and so many known values
abbrev end_at : NodeValue KeeperValue → ℕ → ℕ → UpEnd
end_at x promised many = record { node = x.id; role = role_name (role_of x.acceptor x.proposer (is_some x.acting)); promised = promised; known = many; count = count_of x }

module _ {service : Declarations} {past : List Value} (x : NodeValue KeeperValue) (node : IsNode records_of service past x) where
  -- the state that its parts show is that of the model's node
  pub shown_is : x.up ≡ true → shown_state service (here_of records_of service past x) ≡ shown_of x
  shown_is e =
      let up = node.up e in
      ap (λ vs. if is_active (role_of x.acceptor x.proposer (is_some x.acting)) then state_after service (trace_of vs ++ (work_of x.acting).live) else state_after service (trace_of (take x.replayed vs))) (sym up.known)
      ∙ shown_at service _ _ x.acceptor _ x.acting up.ahead up.acting

  pub end_is : x.up ≡ true → end_of x.id (here_of records_of service past x) ≡ Up (up_end_of x)
  end_is e =
      let up = node.up e in
      ap (λ u. if u then Up (end_at x (promise (log_of service past x.keeper.records)) (length (known (log_of service past x.keeper.records)))) else Down x.id) e
      ∙ ap (λ p. Up (end_at x p (length (known (log_of service past x.keeper.records))))) (sym up.promised)
      ∙ ap (λ n. Up (end_at x x.acceptor.promised n)) (sym (count_known x node e))

  pub is_few : x.up ≡ true → (length (work_of x.acting).live ≤ 4096) × (known_count x ≤ 65535)
  is_few e =
      let up = node.up e in
      (few_live service _ x.acceptor _ x.acting up.acting, subst (λ n. n ≤ 65535) (sym (count_known x node e)) up.numbers.log.few)

-- ---- one line after the other

pub heres_both : (service : Declarations) (past : List Value) (xs ys : List Member) → heres service past (xs ++ ys) ≡ heres service past xs ++ heres service past ys
heres_both service past [] ys = refl
heres_both service past (x ∷ xs) ys = ap (λ zs. here_at service past x ∷ zs) (heres_both service past xs ys)

-- the line of one more node
ends_more : (service : Declarations) (number : ℕ) (xs : List Here) (y : Here) → ends_text service number (xs ++ y ∷ []) ≡ ends_text service number xs ++ node_text service (number + length xs) y
ends_more service number [] y =
    append-nil (node_text service number y) ∙ ap (λ k. node_text service k y) (sym (add-zero number))
ends_more service number (x ∷ xs) y =
    let e : suc number + length xs ≡ number + suc (length xs) = omega arith in
    ap (λ t. node_text service number x ++ t)
    (ends_more service _ xs y ∙ ap (λ k. ends_text service (suc number) xs ++ node_text service k y) e)
    ∙ sym (append_assoc (node_text service number x) (ends_text service (suc number) xs) (node_text service (number + suc (length xs)) y))

-- the lines so far, and one more; which append of a node fails isn't told
pub ends_next : (service : Declarations) (past : List Value) (xs : List Member) {i : ℕ} {x : Member} (d : Member) (initial : List ℕ) {before after : List ℕ} → i < length xs → x ≡ slice_index_or xs i d → x.id ≡ i + 1
    → before ≡ initial ++ ends_text service 1 (heres service past (take i xs)) → after ≡ before ++ node_text service x.id (here_of records_of service past x)
    → after ≡ initial ++ ends_text service 1 (heres service past (take (i + 1) xs))
ends_next service past xs {i} {x} d initial l is e b h =
    let t : take (i + 1) xs ≡ take i xs ++ x ∷ [] = ap (λ k. take k xs) (add-one i) ∙ take-suc xs i d l ∙ ap (λ y. take i xs ++ y ∷ []) (sym is) in
    let n : 1 + length (heres service past (take i xs)) ≡ x.id = omega (arith, many_here service past (take i xs), length-take i xs, l, e) in
    let m : ends_text service 1 (heres service past (take (i + 1) xs)) ≡ ends_text service 1 (heres service past (take i xs)) ++ node_text service x.id (here_at service past x) =
    ap (λ ss. ends_text service 1 (heres service past ss)) t
    ∙ ap (λ ys. ends_text service 1 ys) (heres_both service past (take i xs) (x ∷ []))
    ∙ ends_more service 1 (heres service past (take i xs)) (here_at service past x)
    ∙ ap (λ k. ends_text service 1 (heres service past (take i xs)) ++ node_text service k (here_at service past x)) n in
    h ∙ ap (λ t. t ++ node_text service x.id (here_at service past x)) b
    ∙ append_assoc initial (ends_text service 1 (heres service past (take i xs))) (node_text service x.id (here_at service past x))
    ∙ ap (λ t. initial ++ t) (sym m)

-- a node at a place has the next number, and is kept
pub member_at : {service : Declarations} {past : List Value} {seed nodes : ℕ} (xs : List Member) {i : ℕ} {x : Member} (d : Member) → AreMembers service past seed nodes 1 xs → i < length xs → x ≡ slice_index_or xs i d → IsMember service past seed nodes (i + 1) x
member_at {service} {past} {seed} {nodes} xs {i} d all l is =
    let n : (i + 1) - 1 ≡ i = omega arith in
    subst (λ y. IsMember service past seed nodes (i + 1) y) (ap (λ k. slice_index_or xs k d) n ∙ sym is) (member_is xs (omega arith, omega (arith, l)) service past d all)
