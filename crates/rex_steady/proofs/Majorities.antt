-- The nodes from 1 to k are a majority once they are more than half.
use Rattle.std.proofs.Common.{◌≡◌, ℕ, zero, suc, ◌<◌, ◌≤◌, Bool, true, false, cond, ◌⊎◌, List, [], ◌∷◌, ◌++◌, eqb, refl, sym, ◌∙◌, ap, subst, inl, inr, arith, eq-eqb}
use Rattle.std.specs.Prelude.{◌*◌, ◌||◌, nat_lt}
use Rattle.std.proofs.lemmas.Bool.{cases_eq, ne_eqb}
use Rattle.rex_cluster.specs.Quorum.{count, is_in, is_majority}

-- the numbers from 1 to k
abbrev pub up_to : ℕ → List ℕ
up_to zero = []
up_to (suc k) = up_to k ++ suc k ∷ []

or_same : (t p q b : Bool) → (p ≡ b → q ≡ b) → (t || p) ≡ b → (t || q) ≡ b
or_same true p q b f h = h
or_same false p q b f h = f h

in_both : (q : ℕ) (xs ys : List ℕ) → is_in q xs ≡ true → is_in q (xs ++ ys) ≡ true
in_both q [] ys h = absurd (cc)
in_both q (x ∷ xs) ys h = or_same (eqb q x) (is_in q xs) (is_in q (xs ++ ys)) true (in_both q xs ys) h

or_true : (t p : Bool) → p ≡ true → (t || p) ≡ true
or_true true p h = refl
or_true false p h = h

in_last : (q : ℕ) (xs : List ℕ) → is_in q (xs ++ q ∷ []) ≡ true
in_last q [] = ap (λ (t : Bool). t || false) (eq-eqb q q refl)
in_last q (x ∷ xs) = or_true (eqb q x) (is_in q (xs ++ q ∷ [])) (in_last q xs)

out_push : (q : ℕ) (xs : List ℕ) (y : ℕ) → (q ≡ y → ⊥) → is_in q xs ≡ false → is_in q (xs ++ y ∷ []) ≡ false
out_push q [] y d h = ap (λ (t : Bool). t || false) (ne_eqb q y d)
out_push q (x ∷ xs) y d h = or_same (eqb q x) (is_in q xs) (is_in q (xs ++ y ∷ [])) false (out_push q xs y d) h

-- those from 1 to k are in it, and later ones aren't
is_within : (q k : ℕ) → 0 < q → q ≤ k → is_in q (up_to k) ≡ true
is_within q zero h l = absurd (omega (arith, h, l))
is_within q (suc k) h l = go (cases_eq q (suc k)) (is_within q k h)
  where
    go : (q ≡ suc k) ⊎ (q ≡ suc k → ⊥) → (q ≤ k → is_in q (up_to k) ≡ true) → is_in q (up_to k ++ suc k ∷ []) ≡ true
    go (inl e) ih = subst (λ (j : ℕ). is_in q (up_to k ++ j ∷ []) ≡ true) e (in_last q (up_to k))
    go (inr d) ih = in_both q (up_to k) (suc k ∷ []) (ih (omega (arith, d, l)))

pub is_later : (q k : ℕ) → k < q → is_in q (up_to k) ≡ false
is_later q zero l = refl
is_later q (suc k) l = out_push q (up_to k) (suc k) (λ e. omega (arith, e, l)) (is_later q k (omega (arith, l)))

count_within : (k n : ℕ) → n ≤ k → count (λ q. is_in q (up_to k)) n ≡ n
count_within k zero l = refl
count_within k (suc n) l =
    ap (λ (t : Bool). cond t (suc (count (λ q. is_in q (up_to k)) n)) (count (λ q. is_in q (up_to k)) n)) (is_within (suc n) k (omega arith) l)
    ∙ ap suc (count_within k n (omega (arith, l)))

-- so many of the nodes are in it
counts : (k n : ℕ) → k ≤ n → count (λ q. is_in q (up_to k)) n ≡ k
counts k zero l = omega (arith, l)
counts k (suc n) l = go (cases_eq k (suc n)) (counts k n)
  where
    go : (k ≡ suc n) ⊎ (k ≡ suc n → ⊥) → (k ≤ n → count (λ q. is_in q (up_to k)) n ≡ k) → count (λ q. is_in q (up_to k)) (suc n) ≡ k
    go (inl e) ih = count_within k (suc n) (omega (arith, e)) ∙ sym e
    go (inr d) ih =
        ap (λ (t : Bool). cond t (suc (count (λ q. is_in q (up_to k)) n)) (count (λ q. is_in q (up_to k)) n)) (is_later (suc n) k (omega (arith, d, l)))
        ∙ ih (omega (arith, d, l))

pub majority_is : (n k : ℕ) → k ≤ n → is_majority n (up_to k) ≡ nat_lt n (2 * k)
majority_is n k l = ap (λ (c : ℕ). nat_lt n (2 * c)) (counts k n l)
