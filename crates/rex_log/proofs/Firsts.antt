-- The first values of the past.
use Rattle.std.proofs.Common.{◌≡◌, ℕ, zero, suc, ◌≤◌, List, [], ◌∷◌, ◌++◌, length, take, refl, ap, arith}
use Rattle.rex_cluster.specs.Values.{Value}
use Rattle.rex_log.specs.Log.{first}

pub first_length : (k : ℕ) (past : List Value) → length (first k past) ≡ k
first_length zero past = refl
first_length (suc k) [] = ap suc (first_length k [])
first_length (suc k) (v ∷ past) = ap suc (first_length k past)

pub first_longer : (k : ℕ) (past more : List Value) → k ≤ length past → first k (past ++ more) ≡ first k past
first_longer zero past more l = refl
first_longer (suc k) [] more l = absurd (omega arith)
first_longer (suc k) (v ∷ past) more l = ap (λ (vs : List Value). v ∷ vs) (first_longer k past more (omega arith))

pub first_take : (k : ℕ) (past : List Value) → k ≤ length past → first k past ≡ take k past
first_take zero [] l = refl
first_take zero (v ∷ past) l = refl
first_take (suc k) [] l = absurd (omega arith)
first_take (suc k) (v ∷ past) l = ap (λ (vs : List Value). v ∷ vs) (first_take k past (omega arith))
