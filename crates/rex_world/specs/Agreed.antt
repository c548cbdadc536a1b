-- How the agreed values grow.
use Rattle.std.specs.Int.{w32, from_be_bytes}
use Rattle.std.specs.Prelude.{◌==◌, ◌&&◌, ◌+◌, ℕ, Bool, List, [], ◌∷◌, ◌++◌, drop, fold, get_or, length, nat_le, take, if◌then◌else◌}
use Rattle.rex_cluster.specs.Values.{Value}

-- in the bytes of a known value's record its instance stands behind the kind, in 4 bytes; and the value behind its length, in 4 bytes more
abbrev pub instance_in : List ℕ → ℕ
instance_in bytes = from_be_bytes w32 (take 4 (drop 1 bytes))

abbrev pub value_in : List ℕ → Value
value_in bytes = drop 9 bytes

-- a record is of a known value, and of the instance after so many
abbrev pub gives_next : ℕ → List ℕ → Bool
gives_next count bytes = nat_le 9 (length bytes) && (get_or bytes 0 0 == 3 && instance_in bytes == count + 1)

-- the agreed values, with the one that a record gives to the next instance, if it gives one to that
abbrev pub learned_in : List Value → List ℕ → List Value
learned_in values bytes = if gives_next (length values) bytes then values ++ value_in bytes ∷ [] else values

-- so they grow by records, one after the other
abbrev pub learned : List Value → List (List ℕ) → List Value
learned values lists = fold learned_in values lists
