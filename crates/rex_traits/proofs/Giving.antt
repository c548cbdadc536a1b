-- A source in memory, whose place moves over its bytes.
use Rattle.std.proofs.Common.{◌≡◌, ℕ, ◌+◌, ◌<◌, List, [], ◌++◌, length, min, take, drop, sym, ap, ◌∙◌, arith, take-append-drop, length-drop}
use Rattle.std.proofs.Math.Seq.{take-add}
use Rattle.std.proofs.lemmas.List.{drop-drop, drop_all}

-- what it gave
pub given_more : (bs buf : List ℕ) (at n : ℕ) → take n buf ≡ take n (drop at bs) → take (at + n) bs ≡ take at bs ++ take n buf
given_more bs buf at n copied = take-add at n bs ∙ ap (λ (t : List ℕ). take at bs ++ t) (sym copied)

-- what it has left
pub left_less : (bs buf : List ℕ) (at n : ℕ) → take n buf ≡ take n (drop at bs) → drop at bs ≡ take n buf ++ drop (at + n) bs
left_less bs buf at n copied =
    sym (take-append-drop n (drop at bs)) ∙ ap (λ (t : List ℕ). t ++ drop n (drop at bs)) (sym copied) ∙ ap (λ (t : List ℕ). take n buf ++ t) (drop-drop n at bs)

-- where it gives nothing to a buffer with room, nothing is left
pub none_left : (bs buf : List ℕ) (at n : ℕ) → n ≡ min (length (drop at bs)) (length buf) → n ≡ 0 → 0 < length buf → drop (at + n) bs ≡ []
none_left bs buf at n count none room = drop_all (at + n) bs (omega (arith, length-drop at bs))
