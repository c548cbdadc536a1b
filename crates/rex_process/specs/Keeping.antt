-- What becomes of a process's keeper: appends and flushes alone, each as the keeper says of it.
use Rattle.std.specs.Prelude.{◌≡◌, ◌⊎◌, ℕ, List, [], ◌∷◌}
use Rattle.rex_traits.specs.Chains.{Answer}

-- ---- steps

module _ {K : Type 0} (Step : K → K → Type 0) where
  -- a step leads to the first of these, one more from each to the next, and the last one is the new one
  abbrev pub LeadsThrough : K → List K → K → Type 0
  LeadsThrough old [] new = new ≡ old
  LeadsThrough old (next ∷ later) new = Step old next × LeadsThrough next later new

  -- steps lead from one to the other, if they aren't the same
  pub record Leads (old new : K) : Type 0 where
    pub through : List K
    pub steps : LeadsThrough old through new

-- ---- appends and flushes

-- an append of some bytes, whatever was answered
pub record IsAppend {K : Type 0} (gives : K → List ℕ → Answer → K → Type 0) (old new : K) : Type 0 where
  pub bytes : List ℕ
  pub answer : Answer
  pub appended : gives old bytes answer new

-- a flush, whatever was answered
pub record IsFlush {K : Type 0} (flush_gives : K → Answer → K → Type 0) (old new : K) : Type 0 where
  pub answer : Answer
  pub flushed : flush_gives old answer new

-- one keeper became the other by appends alone
abbrev pub ByAppends : {K : Type 0} → (K → List ℕ → Answer → K → Type 0) → K → K → Type 0
ByAppends gives = Leads (IsAppend gives)

-- one of both
abbrev pub IsAppendOrFlush : {K : Type 0} → (K → List ℕ → Answer → K → Type 0) → (K → Answer → K → Type 0) → K → K → Type 0
IsAppendOrFlush gives flush_gives old new = IsAppend gives old new ⊎ IsFlush flush_gives old new

-- by appends and flushes alone
abbrev pub ByAppendsAndFlushes : {K : Type 0} → (K → List ℕ → Answer → K → Type 0) → (K → Answer → K → Type 0) → K → K → Type 0
ByAppendsAndFlushes gives flush_gives = Leads (IsAppendOrFlush gives flush_gives)
