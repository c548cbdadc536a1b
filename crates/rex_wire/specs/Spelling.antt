-- How numbers and values are spelled: the most significant byte first.
use Rattle.std.specs.Prelude.{ℕ, ℤ, List, [], ◌∷◌, ◌++◌, length}
use Rattle.std.specs.Int.{w32, w64, to_be_bytes, cast_unsigned}

-- a number below 256
abbrev pub byte : ℕ → List ℕ
byte n = n ∷ []

-- a signed number of 64 bits, in two's complement
abbrev pub signed : ℤ → List ℕ
signed v = to_be_bytes w64 (cast_unsigned w64 v)

-- a value: its length, and its bytes as they are
abbrev pub value_bytes : List ℕ → List ℕ
value_bytes value = to_be_bytes w32 (length value) ++ value
