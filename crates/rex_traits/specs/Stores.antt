-- What an append does to a store whose failures are armed.
use Rattle.std.specs.Prelude.{◌≡◌, ◌+◌, ℕ, Bool, true, false, List, [], ◌∷◌, ◌++◌, Result, Ok, Err, Option, Some, None, IsSome, IsNone}
use Rattle.rex_traits.specs.declared.keeper.KeepFault.{KeepFault}
use Rattle.rex_traits.specs.declared.keeper.KeepFault.TheVariants.{Failed, OutOfMemory}
use Rattle.rex_traits.specs.declared.mem_keeper.Fate.{Fate}
use Rattle.rex_traits.specs.declared.mem_keeper.Fate.TheVariants.{Kept, Lost}

-- What contracts see of a store: its records, whether and how its next append is to fail, how often one has failed, whether it has to be reopened since one failed, and whether it fails only as it is armed.
pub record StoreValue : Type 0 where
  pub records : List (List ℕ)
  pub armed : Option Fate
  pub faults : ℕ
  pub broken : Bool
  pub as_armed : Bool

-- The next append is to fail so, whatever was armed before.
abbrev pub armed_to : Fate → StoreValue → StoreValue
armed_to fate k = record k { armed = Some fate }

-- With one record more.
abbrev pub with_record : List ℕ → StoreValue → StoreValue
with_record bytes k = record k { records = k.records ++ bytes ∷ [] }

-- One fault more, and no longer armed; it may have to be reopened.
abbrev pub after_fault : Bool → StoreValue → StoreValue
after_fault broken k = record k { armed = None; faults = k.faults + 1; broken = broken }

-- What the failure of an append that was armed so does: the record is kept or lost.
abbrev pub failed_as : Option Fate → List ℕ → Bool → StoreValue → StoreValue
failed_as None bytes broken k = after_fault broken k
failed_as (Some Kept) bytes broken k = after_fault broken (with_record bytes k)
failed_as (Some Lost) bytes broken k = after_fault broken k

-- An append fails just where the store is armed; where memory ran out nothing has changed.
abbrev pub Obeys : {T : Type 0} → StoreValue → StoreValue → List ℕ → Result T KeepFault → Type 0
Obeys old new bytes (Ok x) = IsNone old.armed × (new ≡ with_record bytes old)
Obeys old new bytes (Err Failed) = IsSome old.armed × (new ≡ failed_as old.armed bytes new.broken old)
Obeys old new bytes (Err OutOfMemory) = new ≡ old

-- What contracts see of any store.
abbrev pub value_by : {K : Type 0} → (K → List (List ℕ)) → (K → ℕ) → (K → Option Fate) → (K → Bool) → (K → Bool) → K → StoreValue
value_by records faults armed broken as_armed k = record { records = records k; armed = armed k; faults = faults k; broken = broken k; as_armed = as_armed k }

-- A store without records, unarmed, of which no append has failed, that needn't be reopened, and that fails only as it is armed.
abbrev pub fresh_store : StoreValue
fresh_store = record { records = []; armed = None; faults = 0; broken = false; as_armed = true }

-- Reopened, and nothing else.
abbrev pub reopened : StoreValue → StoreValue
reopened k = record k { broken = false }

-- It has to be reopened or not, and nothing else has changed.
abbrev pub broken_as : Bool → StoreValue → StoreValue
broken_as broken k = record k { broken = broken }
