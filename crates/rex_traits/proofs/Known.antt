-- Bytes that are moved in several calls.
use Rattle.std.proofs.Common.{◌≡◌, ℕ, ◌+◌, ◌-◌, List, [], ◌++◌, length, take, drop, sym, ap, subst, ◌∙◌, append_assoc}
use Rattle.std.proofs.Math.Seq.{take-add}
use Rattle.std.proofs.lemmas.List.{take_rest, append_cancel_left}
use Rattle.rex_traits.specs.Growth.{ForGrowth}

-- what grew twice
pub grows_more : (a b c x y : List ℕ) → b ≡ a ++ x → c ≡ b ++ y → c ≡ a ++ (x ++ y)
grows_more a b c x y p q = q ∙ ap (λ (t : List ℕ). t ++ y) p ∙ append_assoc a x y

-- a piece from the front of what is left
pub grows_piece : (a b c bs : List ℕ) (m n : ℕ) → b ≡ a ++ take m bs → c ≡ b ++ take n (take (length bs - m) (drop m bs)) → c ≡ a ++ take (m + n) bs
grows_piece a b c bs m n p q = rw take-add (grows_more a b c (take m bs) (take n (drop m bs)) p (rw (← take_rest bs m) q))

-- what holds of the bytes by which some grew
pub for_growth : (before now bytes : List ℕ) (P : List ℕ → Type 0) → now ≡ before ++ bytes → P bytes → ForGrowth before now P
for_growth before now bytes P grown holds = λ others same. subst P (append_cancel_left before bytes others (sym grown ∙ same)) holds
