-- The arguments of a request are of 64 bits.
use Rattle.std.proofs.Common.{◌≡◌, ◌^◌, ℤ, pos, negsuc, Bool, true, false, List, [], ◌∷◌, length, Option, Some, None, refl, subst, w64}
use Rattle.std.specs.Prelude.{◌&&◌, FitsSigned, nat_le, if◌then◌else◌}
use Rattle.std.specs.List.{All}
use Rattle.std.specs.Fmt.{signed_decimal}
use Rattle.std.specs.Str.{bytes_eq}
use Rattle.std.specs.Str.Parse.{signed_digits_value}
use Rattle.std.proofs.lemmas.Bool.{ltb-true}
use Rattle.std.proofs.lemmas.List.Elements.{All-nil, All-cons}
use Rattle.rex_text.specs.Text.{Word}
use Rattle.rex_text.specs.Numbers.{fits_i64, i64_at}
use Rattle.rex_frames.specs.Requests.{numbers_of, arguments_of, ◌>>=◌}

tested : (z : ℤ) → fits_i64 z ≡ true → FitsSigned w64 z
tested (pos n) e = record { sfits = ltb-true n (2 ^ 63) e }
tested (negsuc n) e = record { sfits = ltb-true n (2 ^ 63) e }

picked : (spelled fits : Bool) (z v : ℤ) → (fits ≡ true → FitsSigned w64 z) → (if spelled && fits then Some z else None) ≡ Some v → FitsSigned w64 v
picked true true z v f e = let same : z ≡ v = cc in subst (FitsSigned w64) same (f refl)
picked true false z v f e = absurd cc
picked false fits z v f e = absurd cc

number_fits : (word : Word) (v : ℤ) → i64_at word ≡ Some v → FitsSigned w64 v
number_fits word v e = let z : ℤ = signed_digits_value 10 word in picked (bytes_eq (signed_decimal z) word) (fits_i64 z) z v (tested z) e

more_fit : (v : Option ℤ) (rest : Option (List ℤ)) (xs : List ℤ) → (v >>= λ first. rest >>= λ ns. Some (first ∷ ns)) ≡ Some xs
    → ((first : ℤ) → v ≡ Some first → FitsSigned w64 first) → ((ns : List ℤ) → rest ≡ Some ns → All (FitsSigned w64) ns) → All (FitsSigned w64) xs
more_fit None rest xs e f g = absurd cc
more_fit (Some v) None xs e f g = absurd cc
more_fit (Some v) (Some ns) xs e f g =
    let same : v ∷ ns ≡ xs = cc in
    subst (All (FitsSigned w64)) same (All-cons (FitsSigned w64) v ns (f v refl) (g ns refl))

numbers_fit : (words : List Word) (xs : List ℤ) → numbers_of words ≡ Some xs → All (FitsSigned w64) xs
numbers_fit [] xs e = let same : [] ≡ xs = cc in subst (All (FitsSigned w64)) same (All-nil (FitsSigned w64))
numbers_fit (word ∷ words) xs e = more_fit (i64_at word) (numbers_of words) xs e (λ v. number_fits word v) (λ ns. numbers_fit words ns)

few_fit : (b : Bool) (words : List Word) (xs : List ℤ) → (if b then numbers_of words else None) ≡ Some xs → All (FitsSigned w64) xs
few_fit true words xs e = numbers_fit words xs e
few_fit false words xs e = absurd cc

pub arguments_fit : (words : List Word) (xs : List ℤ) → arguments_of words ≡ Some xs → All (FitsSigned w64) xs
arguments_fit words xs e = few_fit (nat_le (length words) 4) words xs e
