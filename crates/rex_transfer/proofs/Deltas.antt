-- The values of a window that spell deltas, as it changes.
use Rattle.std.proofs.Common.{◌≡◌, ℕ, ◌+◌, ◌<◌, ◌≤◌, List, [], ◌∷◌, ◌++◌, length, get_or, sym, ap, subst, ◌∙◌, arith, length-take-le}
use Rattle.std.specs.Prelude.{◌-◌, take, drop, slice_get, Some, unwrap_or}
use Rattle.std.specs.List.{All}
use Rattle.std.proofs.lemmas.List.{get_or-drop, get_or-take, length-drop, length-take, length_push, take-append-le, take_all}
use Rattle.std.proofs.lemmas.List.Elements.{All-push}
use Rattle.std.proofs.Math.Seq.{take-append_seam}
use Rattle.std.proofs.lemmas.Option.{unwrap_or-slice_get}
use Rattle.rex_ballot.specs.declared.ballots.TheConstants.{INSTANCES}
use Rattle.rex_transfer.specs.Window.{IsWindow, SpellsDelta, WindowValue, known_of, pushed}

-- each of them
each_delta : (values : List (List ℕ)) (checked place : ℕ) (d : List ℕ) → checked ≤ length values → All SpellsDelta (take checked values) → place < checked → SpellsDelta (get_or values place d)
each_delta values checked place d there h within =
    let behind : place < length (take checked values) = omega (arith, within, length-take-le checked values there) in
    subst SpellsDelta (get_or-take checked values place d within) (h place d behind)

pub held_delta : (values : List (List ℕ)) (checked place : ℕ) (value : List ℕ) → checked ≤ length values → All SpellsDelta (take checked values) → place < checked → slice_get values place ≡ Some value → SpellsDelta value
held_delta values checked place value there h within e =
    subst SpellsDelta (sym (unwrap_or-slice_get values place []) ∙ ap (λ o. unwrap_or o []) e) (each_delta values checked place [] there h within)

-- those that are left once the window forgot some
after_drop : (values : List (List ℕ)) (checked gone : ℕ) → checked ≤ length values → All SpellsDelta (take checked values) → All SpellsDelta (take (checked - gone) (drop gone values))
after_drop values checked gone there h = λ place d within.
    let shorter : length (take (checked - gone) (drop gone values)) ≤ checked - gone = most (checked - gone) (drop gone values) in
    let left : place < checked - gone = omega (arith, within, shorter) in
    let was : gone + place < checked = omega (arith, left) in
    subst SpellsDelta (sym (get_or-take (checked - gone) (drop gone values) place d left ∙ get_or-drop gone values place d)) (each_delta values checked (gone + place) d there h was)
  where
    most : (n : ℕ) (vs : List (List ℕ)) → length (take n vs) ≤ n
    most n vs = omega (arith, length-take n vs)

-- a list whose front was moved behind the rest and cut off there
rest_of : (values : List (List ℕ)) (gone : ℕ) → gone ≤ length values → take (length values - gone) (drop gone values ++ take gone values) ≡ drop gone values
rest_of values gone few =
    ap (λ n. take n (drop gone values ++ take gone values)) (sym (length-drop gone values)) ∙ take-append_seam (drop gone values) (take gone values)

-- so the window is one still
pub drops : (w : WindowValue) (checked instance : ℕ) (left : List (List ℕ)) → w.offset ≤ instance → instance ≤ known_of w → IsWindow w checked
    → left ≡ take (length w.values - (instance - w.offset)) (drop (instance - w.offset) w.values ++ take (instance - w.offset) w.values)
    → IsWindow (record { offset = instance; values = left }) (checked - (instance - w.offset))
drops w checked instance left from to h e =
    let gone : ℕ = instance - w.offset in
    let few : gone ≤ length w.values = omega (arith, from, to) in
    let is : left ≡ drop gone w.values = e ∙ rest_of w.values gone few in
    let many : length left ≡ length w.values - gone = ap length is ∙ length-drop gone w.values in
    record {
      few = omega (arith, many, from, to, h.few);
      there = omega (arith, many, h.there);
      deltas = subst (λ vs. All SpellsDelta (take (checked - gone) vs)) (sym is) (after_drop w.values checked gone h.there h.deltas);
    }

-- with one value more it is one, too
module _ (w : WindowValue) (checked : ℕ) (v : List ℕ) (room : known_of w < INSTANCES) (h : IsWindow w checked) where
  unchecked : IsWindow (pushed w v) checked
  unchecked = record {
    few = let long = length_push w.values v in omega (arith, long, room);
    there = let long = length_push w.values v in omega (arith, long, h.there);
    deltas = subst (λ vs. All SpellsDelta vs) (sym (take-append-le checked w.values (v ∷ []) h.there)) h.deltas;
  }

  pub checked_too : checked ≡ length w.values → SpellsDelta v → IsWindow (pushed w v) (length w.values + 1)
  checked_too all delta = record {
    few = unchecked.few;
    there = let long = length_push w.values v in omega (arith, long);
    deltas =
        let before : All SpellsDelta w.values = subst (λ vs. All SpellsDelta vs) (ap (λ n. take n w.values) all ∙ take_all (length w.values) w.values (omega arith)) h.deltas in
        subst (λ vs. All SpellsDelta vs) (sym (ap (λ n. take n (w.values ++ v ∷ [])) (sym (length_push w.values v)) ∙ take_all (length (w.values ++ v ∷ [])) (w.values ++ v ∷ []) (omega arith))) (All-push SpellsDelta w.values v before delta);
  }
