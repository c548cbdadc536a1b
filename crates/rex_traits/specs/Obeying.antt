-- A store as a keeper in memory.
use Rattle.std.specs.Prelude.{◌≡◌, List, ℕ, Bool, Result, Ok, Err, IsSome, IsNone}
use Rattle.rex_traits.specs.Keeping.{KeeperValue, appended_as}
use Rattle.rex_traits.specs.Stores.{StoreValue}
use Rattle.rex_traits.specs.declared.keeper.KeepFault.{KeepFault}
use Rattle.rex_traits.specs.declared.keeper.KeepFault.TheVariants.{Failed, OutOfMemory}

-- its records, its arming, its count, and whether it has to be reopened
abbrev pub kept_value : StoreValue → KeeperValue
kept_value s = record { records = s.records; armed = s.armed; faults = s.faults; broken = s.broken }

-- An append does what one to a keeper in memory does, and where it failed the store may have to be reopened: it has to be, or not, as before where it didn't fail.
abbrev pub ObeysArming : {T : Type 0} → KeeperValue → KeeperValue → List ℕ → Result T KeepFault → Type 0
ObeysArming old new bytes (Ok x) = IsNone old.armed × (new ≡ appended_as old.armed bytes old)
ObeysArming old new bytes (Err Failed) = IsSome old.armed × (new ≡ record (appended_as old.armed bytes old) { broken = new.broken })
ObeysArming old new bytes (Err OutOfMemory) = new ≡ old
