-- What a flush does to a keeper that puts records off.
use Rattle.std.specs.Prelude.{◌≡◌, ◌⊎◌, ℕ, List, Result, Ok, Err}
use Rattle.rex_traits.specs.declared.keeper.KeepFault.{KeepFault}
use Rattle.rex_traits.specs.declared.keeper.KeepFault.TheVariants.{Failed, OutOfMemory}

-- After a flush all records are kept for good; where it failed, all are, or those that were before; and where memory ran out, those that were before.
abbrev pub Flushes : {T : Type 0} → List (List ℕ) → List (List ℕ) → List (List ℕ) → Result T KeepFault → Type 0
Flushes before now records (Ok x) = now ≡ records
Flushes before now records (Err Failed) = (now ≡ before) ⊎ (now ≡ records)
Flushes before now records (Err OutOfMemory) = now ≡ before
