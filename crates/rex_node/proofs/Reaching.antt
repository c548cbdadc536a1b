-- The state to which a node came last by replaying.
use Rattle.rex_node.proofs.Common.{le_trans, ◌≡◌, ◌≤◌, ℕ, zero, suc, List, length, take, Option, Some, None, inl, inr, refl, sym, ap, subst, ◌∙◌, ◌==◌, if◌then◌else◌, Declarations, StateValue, start_of, run, Value, trace_of, HasReached, NodeValue, ReachedValue, knows, reached_at, KeepsReached, Recovered, first}
use Rattle.std.specs.Prelude.{◌++◌, Bool, true, false}
use Rattle.rex_node.specs.Parts.{IsReached}
use Rattle.rex_node.specs.Restarting.{BeginAlike}

-- a node that keeps none
pub bare_reached : (service : Declarations) (offset : ℕ) (values : List Value) {o : Option ReachedValue} → o ≡ None → HasReached service offset values o
bare_reached service offset values none = subst (HasReached service offset values) (sym none) tt

-- the one after the first so many values
pub now_reached : (service : Declarations) (offset base : ℕ) (values : List Value) {count : ℕ} {state : StateValue} → count ≤ length values → run service (start_of service) (trace_of (take count values)) ≡ Some state
    → HasReached service offset values (reached_at offset base count state)
now_reached service zero base values {count} {state} among runs = by (base == count)
  where
    by : (t : Bool) → HasReached service zero values (if t then None else Some (record { count = count; state = state }))
    by true = tt
    by false = record { all_held = refl; among = among; runs = runs }
now_reached service (suc offset) base values among runs = tt

-- other values that begin with these
pub still_reached : (service : Declarations) (offset : ℕ) {values more : List Value} (o : Option ReachedValue) → length values ≤ length more → ((n : ℕ) → n ≤ length values → take n more ≡ take n values)
    → HasReached service offset values o → HasReached service offset more o
still_reached service offset None longer front h = tt
still_reached service offset (Some r) longer front h = record {
  all_held = h.all_held;
  among = le_trans h.among longer;
  runs = ap (λ vs. run service (start_of service) (trace_of vs)) (front r.count h.among) ∙ h.runs;
}

-- ---- a node that comes up again

-- a node that forgot none knows what it holds
all_known : (past : List Value) {offset : ℕ} {held : List Value} → offset ≡ 0 → first offset past ++ held ≡ held
all_known past {held} e = ap (λ n. first n past ++ held) e

pub again_reached : {K : Type 0} (service : Declarations) (past : List Value) (x : NodeValue K) (said : Recovered) {o : Option ReachedValue} → KeepsReached x said o → HasReached service x.offset (knows past x) x.reached
    → HasReached service said.offset (first said.offset past ++ said.known) o
again_reached service past x said {o} (inl none) h = bare_reached service _ _ none
again_reached service past x said (inr (same, alike)) h = subst (HasReached service said.offset (first said.offset past ++ said.known)) (sym same) (by x.reached alike h)
  where
    by : (r : Option ReachedValue) → BeginAlike r x.known said.offset said.known → HasReached service x.offset (knows past x) r → HasReached service said.offset (first said.offset past ++ said.known) r
    by None alike h = tt
    by (Some r) (zero_is, (among, front)) h =
        let here : first said.offset past ++ said.known ≡ said.known = all_known past zero_is in record {
          all_held = zero_is;
          among = subst (λ vs. r.count ≤ length vs) (sym here) among;
          runs =
              ap (λ vs. run service (start_of service) (trace_of (take r.count vs))) here
              ∙ ap (λ vs. run service (start_of service) (trace_of vs)) front
              ∙ ap (λ vs. run service (start_of service) (trace_of (take r.count vs))) (sym (all_known past h.all_held))
              ∙ h.runs;
        }

-- ---- beside other values

pub reached_beside : {K : Type 0} (service : Declarations) (past others : List Value) (x : NodeValue K) → HasReached service x.offset (knows past x) x.reached → HasReached service x.offset (knows others x) x.reached
reached_beside service past others x h = by x.reached h
  where
    by : (r : Option ReachedValue) → HasReached service x.offset (knows past x) r → HasReached service x.offset (knows others x) r
    by None h = tt
    by (Some r) h = subst (λ vs. IsReached service x.offset vs r) (all_known past h.all_held ∙ sym (all_known others h.all_held)) h
