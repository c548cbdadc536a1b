-- What a claim makes of a keeper, and why it is refused.
use Rattle.std.specs.Prelude.{◌≡◌, ◌≢◌, ◌⊎◌, ◌<◌, ◌^◌, ◌∷◌, [], ℕ, List, Err, drop}
use Rattle.rex_traits.specs.Causes.{Rose}
use Rattle.rex_traits.specs.Chains.{Answer}
use Rattle.rex_traits.specs.declared.keeper.KeepFault.TheVariants as keep_fault
use Rattle.rex_identity.specs.Identity.{IdentityValue}
use Rattle.rex_identity.specs.declared.fault.ClaimFault.{ClaimFault}
use Rattle.rex_identity.specs.declared.fault.ClaimFault.TheVariants.{Foreign, Failed, OutOfMemory}

-- A keeper, and whose it is.
pub record OwnedValue (K : Type 0) : Type 0 where
  pub keeper : K
  pub identity : IdentityValue

-- The first of the records has these bytes.
abbrev pub IsFirst : List ℕ → List (List ℕ) → Type 0
IsFirst bytes records = records ≡ bytes ∷ drop 1 records

-- There is a first record, and it has other bytes.
abbrev pub IsForeign : List ℕ → List (List ℕ) → Type 0
IsForeign bytes [] = ⊥
IsForeign bytes (first ∷ later) = first ≢ bytes

-- Why a keeper of these records isn't claimed: its first one is foreign; or it has none, and failed. Memory may always run out.
abbrev pub IsCause : List ℕ → List (List ℕ) → ClaimFault → Type 0
IsCause bytes records Foreign = IsForeign bytes records
IsCause bytes records Failed = records ≡ []
IsCause bytes records OutOfMemory = Unit {0}

-- What a refusal leaves of the records: all as they were, but that after a failure the one that was to be the first may be there.
abbrev pub Leaves : List ℕ → List (List ℕ) → List (List ℕ) → ClaimFault → Type 0
Leaves bytes before now Foreign = now ≡ before
Leaves bytes before now Failed = (now ≡ before) ⊎ (now ≡ bytes ∷ [])
Leaves bytes before now OutOfMemory = now ≡ before

-- The count of faults rose where the keeper is said to have failed, and stands elsewhere.
abbrev pub CountsAs : ℕ → ℕ → ClaimFault → Type 0
CountsAs before now Foreign = now ≡ before
CountsAs before now Failed = Rose before now × (now < 2 ^ 64)
CountsAs before now OutOfMemory = now ≡ before

-- What the keeper says of an append that is answered so; a keeper without records is never foreign.
abbrev pub GivesFault : {K : Type 0} → (K → List ℕ → Answer → K → Type 0) → K → List ℕ → ClaimFault → K → Type 0
GivesFault gives old bytes Foreign new = ⊥
GivesFault gives old bytes Failed new = gives old bytes (Err keep_fault.Failed) new
GivesFault gives old bytes OutOfMemory new = gives old bytes (Err keep_fault.OutOfMemory) new

-- An append by such a keeper is one by the keeper below; whose it is stays so.
pub record AppendsBelow {K : Type 0} (gives : K → List ℕ → Answer → K → Type 0) (old : OwnedValue K) (bytes : List ℕ) (answer : Answer) (new : OwnedValue K) : Type 0 where
  pub below : gives old.keeper bytes answer new.keeper
  pub identity : new.identity ≡ old.identity
