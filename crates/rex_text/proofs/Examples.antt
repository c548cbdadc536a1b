-- Words that spell numbers, and words that do not.
use Rattle.std.proofs.Common.{◌≡◌, Some, None, pos, negsuc, refl}
use Rattle.std.specs.Prelude.{codes}
use Rattle.std.specs.Fmt.{digits}
use Rattle.rex_text.specs.Numbers.{i64_at, u64_at}

least : u64_at (codes "0") ≡ Some 0
unfolding digits
least = refl

greatest : u64_at (codes "18446744073709551615") ≡ Some 18446744073709551615
unfolding digits
greatest = refl

above_greatest : u64_at (codes "18446744073709551616") ≡ None
unfolding digits
above_greatest = refl

leading_zero : u64_at (codes "05") ≡ None
unfolding digits
leading_zero = refl

two_zeros : u64_at (codes "00") ≡ None
unfolding digits
two_zeros = refl

with_plus : u64_at (codes "+5") ≡ None
unfolding digits
with_plus = refl

no_digits : u64_at (codes "") ≡ None
unfolding digits
no_digits = refl

signed_zero : i64_at (codes "0") ≡ Some (pos 0)
unfolding digits
signed_zero = refl

minus_zero : i64_at (codes "-0") ≡ None
unfolding digits
minus_zero = refl

minus_alone : i64_at (codes "-") ≡ None
unfolding digits
minus_alone = refl

signed_plus : i64_at (codes "+5") ≡ None
unfolding digits
signed_plus = refl

minus_leading_zero : i64_at (codes "-05") ≡ None
unfolding digits
minus_leading_zero = refl

-- negsuc n is -(n + 1)
signed_least : i64_at (codes "-9223372036854775808") ≡ Some (negsuc 9223372036854775807)
unfolding digits
signed_least = refl

below_signed_least : i64_at (codes "-9223372036854775809") ≡ None
unfolding digits
below_signed_least = refl

signed_greatest : i64_at (codes "9223372036854775807") ≡ Some (pos 9223372036854775807)
unfolding digits
signed_greatest = refl

above_signed_greatest : i64_at (codes "9223372036854775808") ≡ None
unfolding digits
above_signed_greatest = refl
