-- What a node knows of values that it holds, and of those before them.
use Rattle.rex_node.proofs.Common.{◌≡◌, ℕ, ◌+◌, ◌-◌, ◌<◌, ◌≤◌, List, [], ◌∷◌, length, get_or, drop, Some, refl, ap, ◌∙◌, arith, length-append, slice_get, Value, first, first_length, Looks, NodeValue, count_of, knows}
use Rattle.std.proofs.Math.Seq.{drop-append-add}
use Rattle.std.proofs.lemmas.List.{get_or-append_right}
use Rattle.std.proofs.lemmas.Option.{get_or_from_slice_get}
use Rattle.rex_transfer.specs.declared.window.Look.{Look}
use Rattle.rex_transfer.specs.declared.window.Look.TheVariants as look
use Rattle.rex_transfer.specs.Window.{WindowValue, known_of}

-- a node knows as many values as it counts
pub many_known : {K : Type 0} (past : List Value) (x : NodeValue K) → length (knows past x) ≡ count_of x
many_known past x = length-append (first x.offset past) x.known ∙ ap (λ n. n + length x.known) (first_length x.offset past)

-- past the offset it knows what it holds
pub knows_after : {K : Type 0} (past : List Value) (x : NodeValue K) {n : ℕ} → x.offset ≤ n → drop n (knows past x) ≡ drop (n - x.offset) x.known
knows_after past x {n} le =
    let e : n ≡ length (first x.offset past) + (n - x.offset) = let l = first_length x.offset past in omega (arith, le, l) in
    ap (λ m. drop m (knows past x)) e ∙ drop-append-add (first x.offset past) x.known (n - x.offset)

-- those past the offset are those that it holds
pub held_are : {K : Type 0} (past : List Value) (x : NodeValue K) → drop x.offset (knows past x) ≡ x.known
held_are past x = knows_after past x {n = x.offset} (omega arith) ∙ ap (λ n. drop n x.known) (let n : x.offset - x.offset ≡ 0 = omega arith in n) ∙ all x.known
  where
    all : (vs : List Value) → drop 0 vs ≡ vs
    all [] = refl
    all (v ∷ vs) = refl

-- the value of an instance past the offset is one that it holds
pub value_at : {K : Type 0} (past : List Value) (x : NodeValue K) {place : ℕ} {value : Value} → x.offset ≤ place → slice_get x.known (place + 1 - x.offset - 1) ≡ Some value → get_or (knows past x) place [] ≡ value
value_at past x {place} {value} le e =
    get_or-append_right (first x.offset past) x.known x.offset place [] (first_length x.offset past) le
    ∙ ap (λ n. get_or x.known n []) (let n : place - x.offset ≡ place + 1 - x.offset - 1 = omega arith in n)
    ∙ get_or_from_slice_get x.known (place + 1 - x.offset - 1) value [] e

-- a window has the value of each instance past its offset that it knows
pub must_hold : (w : WindowValue) {instance : ℕ} (l : Look) → Looks w instance l → w.offset < instance → instance ≤ known_of w → ((v : _) → l ≡ look.Value v → ⊥) → ⊥
must_hold w (look.Value v) h late there none = none v refl
must_hold w (look.Gone offset) h late there none = let few = h.0 in omega arith
must_hold w (look.Beyond known) h late there none = let more = h.0 in omega arith
