-- Appends to a keeper, one after the other.
use Rattle.std.specs.Prelude.{◌≡◌, ℕ, List, [], ◌∷◌, ◌++◌, Result, Ok, Err, MatchResult}
use Rattle.rex_traits.specs.declared.keeper.KeepFault.{KeepFault}

-- What is answered to an append.
abbrev pub Answer : Type 0
Answer = Result (Unit {0}) KeepFault

-- These records are appended in turn, up to the first that isn't answered with Ok; the answer is that of the last append that was made.
abbrev pub AppendsInTurn : {K : Type 0} → (K → List ℕ → Answer → K → Type 0) → K → List (List ℕ) → Answer → K → Type 0
AppendsInTurn gives old [] result new = (result ≡ Ok tt) × (new ≡ old)
AppendsInTurn {K} gives old (bytes ∷ later) result new =
    (answer : Answer) × (between : K) × gives old bytes answer between
    × MatchResult answer (λ _. AppendsInTurn gives between later result new) (λ e. (result ≡ Err e) × (new ≡ between))

-- One append is a chain. Where all of one chain are answered with Ok, the appends after it continue the chain; where one isn't, none comes after it.
pub record AreChained {K : Type 0} (gives : K → List ℕ → Answer → K → Type 0) : Type 0 where
  pub one : (old new : K) (bytes : List ℕ) (result : Answer) → gives old bytes result new → AppendsInTurn gives old (bytes ∷ []) result new
  pub more : (old between new : K) (first later : List (List ℕ)) (result : Answer) → AppendsInTurn gives old first (Ok tt) between → AppendsInTurn gives between later result new → AppendsInTurn gives old (first ++ later) result new
  pub ended : (old new : K) (first later : List (List ℕ)) (fault : KeepFault) → AppendsInTurn gives old first (Err fault) new → AppendsInTurn gives old (first ++ later) (Err fault) new
