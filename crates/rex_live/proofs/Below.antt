-- What is so below a number and at it is so below the next one.
use Rattle.std.proofs.Common.{arith, ◌≡◌, ◌+◌, ◌<◌, ◌≤◌, ℕ, subst, ⊎_elim}
use Rattle.std.proofs.lemmas.Bool.{cases_lt}

pub one_more : (P : ℕ → Type 0) (n : ℕ) → ((k : ℕ) → k < n → P k) → P n → (k : ℕ) → k < n + 1 → P k
one_more P n before at k below =
    ⊎_elim (λ (q : k < n). before k q)
    (λ (q : n ≤ k).
    let same : n ≡ k = omega arith in
    subst P same at)
    (cases_lt k n)
