-- Windows of a list, where the list or the window goes on.
use Rattle.std.proofs.Common.{◌≡◌, ℕ, zero, suc, ◌+◌, ◌≤◌, List, [], ◌∷◌, ◌++◌, length, Some, refl, sym, ◌∙◌, ap, subst, arith, append_assoc, append-nil, length-append}
use Rattle.std.specs.Prelude.{◌-◌, take, drop, slice_get}
use Rattle.std.proofs.lemmas.List.{take-append-drop}
use Rattle.rex_transfer.specs.Window.{WindowValue, known_of, pushed, dropped_to}
use Rattle.rex_transfer.specs.Laws.{IsWindowOf, WindowsStay, WindowsTell}

length_take : (k : ℕ) (xs : List (List ℕ)) → k ≤ length xs → length (take k xs) ≡ k
length_take zero [] l = refl
length_take zero (x ∷ xs) l = refl
length_take (suc k) [] l = absurd (omega arith)
length_take (suc k) (x ∷ xs) l = ap suc (length_take k xs (omega arith))

no_rest : (rest : List (List ℕ)) → length rest ≡ 0 → rest ≡ []
no_rest [] e = refl
no_rest (x ∷ rest) e = absurd (omega arith)

-- the list ends where the window does, and goes on with the value that it takes
after_push : (front : List (List ℕ)) (value : List ℕ) (rest : List (List ℕ)) (w : WindowValue) → IsWindowOf front w → length front ≡ known_of w → IsWindowOf (front ++ value ∷ rest) (pushed w value)
after_push front value rest w h e = record {
  front = h.front;
  rest = rest;
  offset = h.offset;
  parts =
      ap (λ xs. xs ++ value ∷ rest) (h.parts ∙ ap (λ xs. h.front ++ (w.values ++ xs)) ends ∙ ap (λ xs. h.front ++ xs) (append-nil w.values))
      ∙ append_assoc h.front w.values (value ∷ rest) ∙ ap (λ xs. h.front ++ xs) (sym (append_assoc w.values (value ∷ []) rest));
}
  where
    ends : h.rest ≡ []
    ends = no_rest h.rest (omega (arith, e, h.offset, ap length h.parts, length-append h.front (w.values ++ h.rest), length-append w.values h.rest))

after_drop : (values : List (List ℕ)) (w : WindowValue) (instance : ℕ) → w.offset ≤ instance → instance ≤ known_of w → IsWindowOf values w → IsWindowOf values (dropped_to w instance)
after_drop values w instance from to h = record {
  front = h.front ++ take (instance - w.offset) w.values;
  rest = h.rest;
  offset = omega (arith, h.offset, from, length-append h.front (take (instance - w.offset) w.values), length_take (instance - w.offset) w.values (omega (arith, to)));
  parts =
      h.parts
      ∙ ap (λ xs. h.front ++ (xs ++ h.rest)) (sym (take-append-drop (instance - w.offset) w.values))
      ∙ ap (λ xs. h.front ++ xs) (append_assoc (take (instance - w.offset) w.values) (drop (instance - w.offset) w.values) h.rest)
      ∙ sym (append_assoc h.front (take (instance - w.offset) w.values) (drop (instance - w.offset) w.values ++ h.rest));
}

after_jump : (values : List (List ℕ)) (instance : ℕ) → instance ≤ length values → IsWindowOf values (record { offset = instance; values = [] })
after_jump values instance l = record {
  front = take instance values;
  rest = drop instance values;
  offset = length_take instance values l;
  parts = sym (take-append-drop instance values);
}

pub windows_stay : WindowsStay
windows_stay = record { pushed = after_push; dropped = after_drop; jumped = after_jump }

-- a place behind a front, and in what stands before a rest
behind : (front xs : List (List ℕ)) (n k : ℕ) → n ≡ length front + k → slice_get (front ++ xs) n ≡ slice_get xs k
behind [] xs n k e = let f : n ≡ k = omega (arith, e) in ap (slice_get xs) f
behind (x ∷ front) xs zero k e = absurd (omega (arith, e))
behind (x ∷ front) xs (suc n) k e = behind front xs n k (omega (arith, e))

before : (xs rest : List (List ℕ)) (k : ℕ) (v : List ℕ) → slice_get xs k ≡ Some v → slice_get (xs ++ rest) k ≡ Some v
before [] rest k v e = absurd (cc)
before (x ∷ xs) rest zero v e = e
before (x ∷ xs) rest (suc k) v e = before xs rest k v e

pub windows_tell : WindowsTell
windows_tell values w instance value h l e =
    subst (λ xs. slice_get xs (instance - 1) ≡ Some value) (sym h.parts)
    (behind h.front (w.values ++ h.rest) (instance - 1) (instance - w.offset - 1) (omega (arith, h.offset, l)) ∙ before w.values h.rest (instance - w.offset - 1) value e)
