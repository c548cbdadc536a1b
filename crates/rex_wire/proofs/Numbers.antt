-- Numbers that are read are those that were written, and those that were written are read again.
use Rattle.std.proofs.Common.{◌≡◌, ℕ, ℤ, ◌^◌, ◌<◌, ◌≤◌, Bool, true, false, cond, ltb, List, [], ◌∷◌, ◌++◌, length, take, Ok, Err, refl, sym, subst, arith, length-append}
use Rattle.std.specs.Prelude.{FitsSigned}
use Rattle.std.specs.Int.{Width, w8, w16, w32, w64, byte_len, from_be_bytes, to_be_bytes, cast_signed, cast_unsigned}
use Rattle.std.proofs.lemmas.Bool.{ltb-false, le-ltb}
use Rattle.std.proofs.lemmas.Int.{ints, of_z-to_z, to_z-of_z}
use Rattle.std.proofs.lemmas.List.{take_at, drop_at, take-append-drop, length-take}
use Rattle.std.proofs.lemmas.Nat.{be_bytes_2, be_bytes_4, be_bytes_8, from_be_bytes-to_be_bytes_2, from_be_bytes-to_be_bytes_4, from_be_bytes-to_be_bytes_8}
use Rattle.rex_wire.specs.Reading.{Left, past, number_at, signed_at, allowed_at}
use Rattle.rex_wire.specs.Spelling.{byte, signed}
use Rattle.rex_wire.proofs.Fields.{IsBytes, IsBytes-take, IsBytes-drop, guard_ok, test_ok, is_taken, Takes, IsSpelled, step, IsRead}

-- numbers below the limit are spelled with as many bytes as the width has, and known from them
pub record IsWide (w : Width) (limit : ℕ) (spell : ℕ → List ℕ) : Type 0 where
  pub long : (n : ℕ) → length (spell n) ≡ byte_len w
  pub back : (bytes : List ℕ) → length bytes ≡ byte_len w → IsBytes bytes → spell (from_be_bytes w bytes) ≡ bytes
  pub again : (n : ℕ) → n < limit → from_be_bytes w (spell n) ≡ n
  pub below : (bytes : List ℕ) → IsBytes bytes → from_be_bytes w bytes < limit

one_byte : (bytes : List ℕ) → length bytes ≡ 1 → byte (from_be_bytes w8 bytes) ≡ bytes
one_byte [] e = absurd (omega arith)
one_byte (b ∷ []) e = refl
one_byte (b ∷ c ∷ bytes) e = absurd (omega arith)

pub wide8 : IsWide w8 256 byte
wide8 = record {
  long = λ n. refl;
  back = λ bytes long fits. one_byte bytes long;
  again = λ n lt. refl;
  below = λ bytes fits. omega (arith, fits 0);
}

pub wide16 : IsWide w16 (2 ^ 16) (to_be_bytes w16)
wide16 = record {
  long = λ n. refl;
  back = λ bytes long fits. be_bytes_2 bytes _ long fits refl;
  again = λ n lt. from_be_bytes-to_be_bytes_2 n lt;
  below = λ bytes fits. omega (arith, fits 0, fits 1);
}

pub wide32 : IsWide w32 (2 ^ 32) (to_be_bytes w32)
wide32 = record {
  long = λ n. refl;
  back = λ bytes long fits. be_bytes_4 bytes _ long fits refl;
  again = λ n lt. from_be_bytes-to_be_bytes_4 n lt;
  below = λ bytes fits. omega (arith, fits 0, fits 1, fits 2, fits 3);
}

pub wide64 : IsWide w64 (2 ^ 64) (to_be_bytes w64)
wide64 = record {
  long = λ n. refl;
  back = λ bytes long fits. be_bytes_8 bytes _ long fits refl;
  again = λ n lt. from_be_bytes-to_be_bytes_8 n lt;
  below = λ bytes fits. omega (arith, fits 0, fits 1, fits 2, fits 3, fits 4, fits 5, fits 6, fits 7);
}

-- ---- numbers

pub number_spelled : {w : Width} {limit : ℕ} {spell : ℕ → List ℕ} → IsWide w limit spell → IsSpelled (number_at w) spell (λ n. n < limit)
number_spelled {w} {limit} {spell} wide = record {
  takes = λ l x bytes e.
      let n = byte_len w in
      let g = guard_ok (ltb (length l.rest) n) l.at (from_be_bytes w (take n l.rest), past n l) x e in
      let long : n ≤ length l.rest = ltb-false _ _ g.0 in
      let front-bytes = IsBytes-take n l.rest bytes in
      let front : spell (from_be_bytes w (take n l.rest)) ≡ take n l.rest = wide.back (take n l.rest) (omega (arith, length-take n l.rest)) front-bytes in
      subst (λ (y : ℕ × Left). Takes l (spell y.0) y.1 × (y.0 < limit)) g.1
      (record { parts = rw front (sym (take-append-drop n l.rest)); bytes = IsBytes-drop n l.rest bytes }, wide.below (take n l.rest) front-bytes);
}

pub number_again : {w : Width} {limit : ℕ} {spell : ℕ → List ℕ} → IsWide w limit spell → (n : ℕ) → n < limit → IsRead (number_at w) (spell n) n
number_again {w} {limit} {spell} wide n lt = record {
  again = λ at rest.
      let len = wide.long n in
      let long : ltb (length (spell n ++ rest)) (byte_len w) ≡ false = le-ltb _ _ (omega (arith, length-append (spell n) rest)) in
      rw (long, take_at (spell n) rest (byte_len w) len, drop_at (spell n) rest (byte_len w) len, wide.again n lt, len) refl;
}

-- ---- numbers that are allowed

pub allowed_spelled : {w : Width} {limit : ℕ} {spell : ℕ → List ℕ} → IsWide w limit spell → (may : ℕ → Bool) → IsSpelled (allowed_at w may) spell (λ n. may n ≡ true)
allowed_spelled {w} {limit} {spell} wide may = record {
  takes = λ l x bytes e.
      let s = step (number_spelled wide) l (λ n. cond (may n.0) (Ok n) (Err l.at)) x bytes e in
      let g = test_ok (may s.value) l.at (s.value, s.left) x s.next in
      subst (λ (y : ℕ × Left). Takes l (spell y.0) y.1 × (may y.0 ≡ true)) g.1 (s.takes, g.0);
}

pub allowed_again : {w : Width} {limit : ℕ} {spell : ℕ → List ℕ} → IsWide w limit spell → (may : ℕ → Bool) (n : ℕ) → n < limit → may n ≡ true → IsRead (allowed_at w may) (spell n) n
allowed_again {w} {limit} {spell} wide may n lt holds = record {
  again = λ at rest. rw ((number_again wide n lt).again at rest, holds) refl;
}

-- ---- signed numbers

below_bits : (v : ℤ) → FitsSigned w64 v → cast_unsigned w64 v < 2 ^ 64
below_bits v fits = omega (arith, ints)

pub signed_spelled : IsSpelled signed_at signed (FitsSigned w64)
signed_spelled = record {
  takes = λ l x bytes e.
      let s = step (number_spelled wide64) l (λ n. Ok (cast_signed w64 n.0, n.1)) x bytes e in
      let bits : cast_unsigned w64 (cast_signed w64 s.value) ≡ s.value = of_z-to_z w64 s.value s.may in
      let spelled : Takes l (signed (cast_signed w64 s.value)) s.left = subst (λ (n : ℕ). Takes l (to_be_bytes w64 n) s.left) (sym bits) s.takes in
      let fits : FitsSigned w64 (cast_signed w64 s.value) = omega (arith, ints) in
      is_taken signed (FitsSigned w64) l (cast_signed w64 s.value, s.left) x s.next (spelled, fits);
}

pub signed_again : (v : ℤ) → FitsSigned w64 v → IsRead signed_at (signed v) v
signed_again v fits = record {
  again = λ at rest. rw ((number_again wide64 (cast_unsigned w64 v) (below_bits v fits)).again at rest, to_z-of_z w64 v fits) refl;
}
