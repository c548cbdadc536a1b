-- Counting what passes a test.
use Rattle.std.proofs.Common.{◌≡◌, inl, inr, ℕ, zero, suc, ◌+◌, ◌<◌, ◌≤◌, Bool, true, false, cond, List, [], ◌∷◌, length, get_or, refl, ap, sym, ◌∙◌, subst, arith, eqb, eq-eqb}
use Rattle.std.specs.List.{count_by, list_any}
use Rattle.std.proofs.lemmas.Bool.{or_left, or_right}
use Rattle.std.proofs.lemmas.List.Sums.{sum_by-cons}
use Rattle.std.proofs.lemmas.Map.Made.{length-le_from_is_member}
use Rattle.std.proofs.lemmas.Cmp.{nat_eq_equiv}
use Rattle.rex_event.specs.Order.{Has}
use Rattle.rex_state.specs.Sound.{IsOnce}
use Rattle.rex_state.proofs.Rooms.{distinct_from, has_any}

pub count_cons : {X : Type 0} (p : X → Bool) (x : X) (xs : List X) → count_by p (x ∷ xs) ≡ cond {A = ℕ} (p x) 1 0 + count_by p xs
count_cons p x xs = sum_by-cons (λ y. cond (p y) 1 0) x xs

pub count_yes : {X : Type 0} (p : X → Bool) (x : X) (xs : List X) → p x ≡ true → count_by p (x ∷ xs) ≡ suc (count_by p xs)
count_yes p x xs h = let one : cond {A = ℕ} (p x) 1 0 ≡ 1 = rw h refl in count_cons p x xs ∙ omega arith

pub count_no : {X : Type 0} (p : X → Bool) (x : X) (xs : List X) → p x ≡ false → count_by p (x ∷ xs) ≡ count_by p xs
count_no p x xs h = let none : cond {A = ℕ} (p x) 1 0 ≡ 0 = rw h refl in count_cons p x xs ∙ omega arith

-- one that passes counts
pub count_some : {X : Type 0} (p : X → Bool) (xs : List X) (i : ℕ) (d : X) → i < length xs → p (get_or xs i d) ≡ true → 1 ≤ count_by p xs
count_some p [] i d h e = absurd (omega arith)
count_some p (x ∷ xs) zero d h e = omega (arith, count_yes p x xs e)
count_some p (x ∷ xs) (suc i) d h e = omega (arith, count_cons p x xs, count_some p xs i d (omega arith) e)

-- what passes a stronger test is fewer
pub count_fewer : {X : Type 0} (p q : X → Bool) → ((x : X) → p x ≡ true → q x ≡ true) → (xs : List X) → count_by p xs ≤ count_by q xs
count_fewer p q more [] = omega arith
count_fewer p q more (x ∷ xs) = by (p x) refl (count_fewer p q more xs)
  where
    by : (b : Bool) → p x ≡ b → count_by p xs ≤ count_by q xs → count_by p (x ∷ xs) ≤ count_by q (x ∷ xs)
    by true e h = omega (arith, count_yes p x xs e, count_yes q x xs (more x e))
    by false e h = omega (arith, count_no p x xs e, count_cons q x xs)

-- ---- numbers of those that pass

abbrev pub passing : {X : Type 0} → (X → Bool) → ℕ → List X → List ℕ
passing p n [] = []
passing p n (x ∷ xs) = cond (p x) (n ∷ passing p (n + 1) xs) (passing p (n + 1) xs)

pub length-passing : {X : Type 0} (p : X → Bool) (n : ℕ) (xs : List X) → length (passing p n xs) ≡ count_by p xs
length-passing p n [] = refl
length-passing p n (x ∷ xs) = by (p x) refl (length-passing p (n + 1) xs)
  where
    by : (b : Bool) → p x ≡ b → length (passing p (n + 1) xs) ≡ count_by p xs → length (passing p n (x ∷ xs)) ≡ count_by p (x ∷ xs)
    by true e h =
        let is : passing p n (x ∷ xs) ≡ n ∷ passing p (n + 1) xs = rw e refl in
        ap length is ∙ ap suc h ∙ sym (count_yes p x xs e)
    by false e h =
        let is : passing p n (x ∷ xs) ≡ passing p (n + 1) xs = rw e refl in
        ap length is ∙ h ∙ sym (count_no p x xs e)

pub has_passing : {X : Type 0} (p : X → Bool) (n : ℕ) (xs : List X) (i : ℕ) (d : X) → i < length xs → p (get_or xs i d) ≡ true → Has (n + i) (passing p n xs)
has_passing p n [] i d h e = absurd (omega arith)
has_passing p n (x ∷ xs) zero d h e = let z : n + 0 ≡ n = omega arith in rw (e, z) (inl refl)
has_passing p n (x ∷ xs) (suc i) d h e = by (p x) refl (subst (λ (m : ℕ). Has m (passing p (n + 1) xs)) z (has_passing p (n + 1) xs i d (omega arith) e))
  where
    z : n + 1 + i ≡ n + suc i
    z = omega arith

    by : (b : Bool) → p x ≡ b → Has (n + suc i) (passing p (n + 1) xs) → Has (n + suc i) (passing p n (x ∷ xs))
    by true e h = rw e (inr h)
    by false e h = rw e h

-- ---- lists without repetition

any_has : (q : ℕ) (xs : List ℕ) → Has q xs → list_any (eqb q) xs ≡ true
any_has q [] h = absurd h
any_has q (x ∷ xs) (inl e) = or_left _ _ (eq-eqb q x (sym e))
any_has q (x ∷ xs) (inr h) = or_right _ _ (any_has q xs h)

-- numbers without repetition, all among others, are at most as many
pub once_within : (xs ys : List ℕ) → IsOnce xs → ((x : ℕ) → Has x xs → Has x ys) → length xs ≤ length ys
once_within xs ys once within = length-le_from_is_member nat_eq_equiv xs ys (distinct_from xs once) (λ q h. any_has q ys (within q (has_any q xs h)))
