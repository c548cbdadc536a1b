-- Numbers as words: the decimal spelling, and no other.
use Rattle.std.specs.Prelude.{◌^◌, ◌&&◌, ℕ, ℤ, pos, negsuc, Bool, List, nat_lt, if◌then◌else◌}
use Rattle.std.specs.Prelude.{Option, Some, None}
use Rattle.std.specs.Fmt.{decimal, signed_decimal}
use Rattle.std.specs.Str.{bytes_eq}
use Rattle.std.specs.Str.Parse.{digits_value, signed_digits_value}

-- The number below 2^64 of which the word is the spelling.
abbrev pub u64_at : List ℕ → Option ℕ
u64_at word = let n = digits_value 10 word in
    if bytes_eq (decimal n) word && nat_lt n (2 ^ 64) then Some n else None

-- A signed number fits 64 bits if it is from -2^63 to 2^63 - 1.
abbrev pub fits_i64 : ℤ → Bool
fits_i64 (pos n) = nat_lt n (2 ^ 63)
fits_i64 (negsuc n) = nat_lt n (2 ^ 63)

-- The number that fits 64 bits of which the word is the spelling.
abbrev pub i64_at : List ℕ → Option ℤ
i64_at word = let z = signed_digits_value 10 word in
    if bytes_eq (signed_decimal z) word && fits_i64 z then Some z else None
