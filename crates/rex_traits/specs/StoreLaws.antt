-- A keeper in memory obeys its arming.
use Rattle.std.specs.Prelude.{◌≡◌, ◌≤◌, ◌+◌, ℕ, Bool, true, false, List, Result, Ok, Err, Option, Some, None, IsSome, refl}
use Rattle.std.proofs.Common.{ap, ◌∙◌, sym, subst, arith}
use Rattle.rex_traits.specs.Keeping.{KeeperValue, FollowsArming, appended_as}
use Rattle.rex_traits.specs.Stores.{StoreValue, Obeys, failed_as}
use Rattle.rex_traits.specs.declared.keeper.KeepFault.{KeepFault}
use Rattle.rex_traits.specs.declared.keeper.KeepFault.TheVariants.{Failed, OutOfMemory}
use Rattle.rex_traits.specs.declared.mem_keeper.Fate.{Fate}
use Rattle.rex_traits.specs.declared.mem_keeper.Fate.TheVariants.{Kept, Lost}

-- what contracts see of it as a store
abbrev pub memory_value : KeeperValue → StoreValue
memory_value k = record { records = k.records; armed = k.armed; faults = k.faults; broken = false; as_armed = true }

added : (armed : Option Fate) (bytes : List ℕ) (k : KeeperValue) → Rattle.std.specs.Prelude.IsNone armed → memory_value (appended_as armed bytes k) ≡ Rattle.rex_traits.specs.Stores.with_record bytes (memory_value k)
added None bytes k none = refl
added (Some Kept) bytes k none = absurd (let untrue : true ≡ false = none in cc)
added (Some Lost) bytes k none = absurd (let untrue : true ≡ false = none in cc)

failed : (armed : Option Fate) (bytes : List ℕ) (k : KeeperValue) → IsSome armed → memory_value (appended_as armed bytes k) ≡ failed_as armed bytes false (memory_value k)
failed None bytes k some = absurd (let untrue : false ≡ true = some in cc)
failed (Some Kept) bytes k some = refl
failed (Some Lost) bytes k some = refl

pub memory_obeys : (old new : KeeperValue) (bytes : List ℕ) (result : Result (Unit {0}) KeepFault) → FollowsArming old new bytes result → Obeys (memory_value old) (memory_value new) bytes result
memory_obeys old new bytes (Ok x) f = (f.0, ap memory_value f.1 ∙ added old.armed bytes old f.0)
memory_obeys old new bytes (Err Failed) f = (f.0, ap memory_value f.1 ∙ failed old.armed bytes old f.0)
memory_obeys old new bytes (Err OutOfMemory) f = ap memory_value f

counted : (armed : Option Fate) (bytes : List ℕ) (old : KeeperValue) → (appended_as armed bytes old).faults ≤ old.faults + 1
counted None bytes old = Prim.omega arith
counted (Some Kept) bytes old = Prim.omega arith
counted (Some Lost) bytes old = Prim.omega arith

pub memory_counts : (old new : KeeperValue) (bytes : List ℕ) (result : Result (Unit {0}) KeepFault) → FollowsArming old new bytes result → new.faults ≤ old.faults + 1
memory_counts old new bytes (Ok x) f = subst (λ (k : KeeperValue). k.faults ≤ old.faults + 1) (sym f.1) (counted old.armed bytes old)
memory_counts old new bytes (Err Failed) f = subst (λ (k : KeeperValue). k.faults ≤ old.faults + 1) (sym f.1) (counted old.armed bytes old)
memory_counts old new bytes (Err OutOfMemory) f = let e = ap (λ (k : KeeperValue). k.faults) f in Prim.omega arith
