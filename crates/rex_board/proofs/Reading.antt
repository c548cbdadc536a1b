-- Lists that are read at a place.
use Rattle.std.proofs.Common.{◌≡◌, ℕ, zero, suc, ◌<◌, ◌≤◌, ◌⊎◌, List, [], ◌∷◌, ◌++◌, ⊎_elim, length, get_or, set, sym, refl, ap, ◌∙◌, inl, inr, arith}
use mathlib.Core.Option.{some, some-injective, some-ne-none}
use lib.ListN.{get_elem?}
use Rattle.rex_event.specs.Order.{Has}

module _ {A : Type 0} where
  pub reads : (l : List A) (i : ℕ) (d : A) → i < length l → get_elem? l i ≡ some (get_or l i d)
  reads [] i d h = absurd (omega arith)
  reads (x ∷ xs) zero d h = refl
  reads (x ∷ xs) (suc i) d h = reads xs i d (omega arith)

  pub there : (l : List A) (i : ℕ) (a : A) → get_elem? l i ≡ some a → i < length l
  there [] i a e = absurd (some-ne-none a (sym e))
  there (x ∷ xs) zero a e = omega arith
  there (x ∷ xs) (suc i) a e = let h = there xs i a e in omega (arith, h)

  pub one_value : (l : List A) (i : ℕ) (a b : A) → get_elem? l i ≡ some a → get_elem? l i ≡ some b → a ≡ b
  one_value l i a b e f = some-injective a b (sym e ∙ f)

  pub at_end : (l : List A) (a b : A) (j : ℕ) → get_elem? (l ++ a ∷ []) j ≡ some b → (get_elem? l j ≡ some b) ⊎ ((j ≡ length l) × (a ≡ b))
  at_end [] a b zero e = inr (refl, some-injective a b e)
  at_end [] a b (suc j) e = absurd (some-ne-none b (sym e))
  at_end (x ∷ xs) a b zero e = inl e
  at_end (x ∷ xs) a b (suc j) e = ⊎_elim (λ (h : get_elem? xs j ≡ some b). inl h) (λ (h : (j ≡ length xs) × (a ≡ b)). inr (let k : suc j ≡ suc (length xs) = ap suc h.0 in (k, h.1))) (at_end xs a b j e)

  -- what stands at a place is among the items
  pub has_at : (l : List A) (i : ℕ) (d : A) → i < length l → Has (get_or l i d) l
  has_at [] i d h = absurd (omega arith)
  has_at (x ∷ xs) zero d h = inl refl
  has_at (x ∷ xs) (suc i) d h = inr (has_at xs i d (omega arith))

  pub has_there : (l : List A) (i : ℕ) (a : A) → get_elem? l i ≡ some a → Has a l
  has_there [] i a e = absurd (some-ne-none a (sym e))
  has_there (x ∷ xs) zero a e = inl (some-injective x a e)
  has_there (x ∷ xs) (suc i) a e = inr (has_there xs i a e)

  -- and the other way round
  pub at_has : (l : List A) (a : A) → Has a l → (i : ℕ) × (i < length l) × (get_or l i a ≡ a)
  at_has [] a h = absurd h
  at_has (x ∷ xs) a (inl e) = (0, omega arith, e)
  at_has (x ∷ xs) a (inr h) = let q = at_has xs a h in (suc q.0, omega (arith, q.1), q.2)

-- what is read at a place that is there doesn't depend on what stands for a missing one
pub same_value : {A : Type 0} (l : List A) (i : ℕ) (a d : A) → i < length l → a ≡ get_or l i a → a ≡ get_or l i d
same_value [] i a d h e = absurd (omega arith)
same_value (x ∷ xs) zero a d h e = e
same_value (x ∷ xs) (suc i) a d h e = same_value xs i a d (omega arith) e

-- a number is changed at a place: the others are as they were
pub set_most : (xs : List ℕ) (i n l b : ℕ) → get_or xs l 0 ≤ b → (l ≡ i → n ≤ b) → get_or (set xs i n) l 0 ≤ b
set_most [] i n l b h e = h
set_most (x ∷ xs) zero n zero b h e = e refl
set_most (x ∷ xs) zero n (suc l) b h e = h
set_most (x ∷ xs) (suc i) n zero b h e = h
set_most (x ∷ xs) (suc i) n (suc l) b h e = set_most xs i n l b h (λ q. e (ap suc q))

pub set_up : (xs : List ℕ) (i n l : ℕ) → get_or xs i 0 ≤ n → get_or xs l 0 ≤ get_or (set xs i n) l 0
set_up [] i n l h = omega arith
set_up (x ∷ xs) zero n zero h = h
set_up (x ∷ xs) zero n (suc l) h = omega arith
set_up (x ∷ xs) (suc i) n zero h = omega arith
set_up (x ∷ xs) (suc i) n (suc l) h = set_up xs i n l h
