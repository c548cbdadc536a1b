-- Numbers that are bytes, and few.
use Rattle.std.proofs.Common.{◌≡◌, ℕ, zero, suc, ◌+◌, ◌*◌, ◌/◌, ◌^◌, ◌<◌, ◌≤◌, true, List, [], ◌∷◌, ◌++◌, length, refl, ◌∙◌, sym, subst, arith, length-append, lt-ltb, le_trans}
use Rattle.std.specs.Prelude.{ℤ}
use Rattle.std.specs.List.{All, list_all, flat_map}
use Rattle.std.specs.Int.{w16, w32, w64, cast_unsigned, to_be_bytes, byte_at, bytes_high_first}
use Rattle.std.proofs.Math.Nat.{mod-lt}
use Rattle.std.proofs.lemmas.Bool.{and_from}
use Rattle.std.proofs.lemmas.List.Concat.{flat_map-cons}
use Rattle.std.proofs.lemmas.List.Elements.{All-head, All-tail}
use Rattle.std.proofs.lemmas.List.Folds.{list_all-append}
use Rattle.rex_wire.specs.Ranges.{is_byte}

-- each number is a byte, and there are at most so many
pub record AreBytes (most : ℕ) (bytes : List ℕ) : Type 0 where
  pub each : list_all is_byte bytes ≡ true
  pub few : length bytes ≤ most

pub more : (a b : ℕ) (xs : List ℕ) → a ≤ b → AreBytes a xs → AreBytes b xs
more a b xs l h = record { each = h.each; few = le_trans h.few l }

pub both : (a b : ℕ) (xs ys : List ℕ) → AreBytes a xs → AreBytes b ys → AreBytes (a + b) (xs ++ ys)
both a b xs ys h k = record { each = list_all-append is_byte xs ys ∙ and_from _ _ h.each k.each; few = omega (arith, length-append xs ys, h.few, k.few) }

pub one : (n : ℕ) → n < 256 → AreBytes 1 (n ∷ [])
one n l = record { each = and_from _ _ (lt-ltb n 256 l) refl; few = omega arith }

high : (k n : ℕ) → AreBytes k (bytes_high_first k n)
high zero n = record { each = refl; few = omega arith }
high (suc k) n = let h = high k n in record { each = and_from _ _ (lt-ltb (byte_at k n) 256 (below k)) h.each; few = omega (arith, h.few) }
  where
    below : (i : ℕ) → byte_at i n < 256
    below zero = mod-lt n (omega arith)
    below (suc i) = mod-lt (n / 256 ^ suc i) (omega arith)

-- ---- lists of pieces

pub each_piece : {A : Type 0} (f : A → List ℕ) (k : ℕ) (xs : List A) → All (λ x. AreBytes k (f x)) xs → AreBytes (k * length xs) (flat_map f xs)
each_piece f k [] h = record { each = refl; few = omega arith }
each_piece {A} f k (x ∷ xs) h =
    subst (AreBytes (k * suc (length xs))) (sym (flat_map-cons f x xs))
    (more (k + k * length xs) (k * suc (length xs)) (f x ++ flat_map f xs) (omega arith)
    (both k (k * length xs) (f x) (flat_map f xs) (All-head (λ (x : A). AreBytes k (f x)) x xs h) (each_piece f k xs (All-tail (λ (x : A). AreBytes k (f x)) x xs h))))

-- ---- numbers

pub number16 : (n : ℕ) → AreBytes 2 (to_be_bytes w16 n)
number16 n = high 2 n

pub number32 : (n : ℕ) → AreBytes 4 (to_be_bytes w32 n)
number32 n = high 4 n

pub number64 : (n : ℕ) → AreBytes 8 (to_be_bytes w64 n)
number64 n = high 8 n

pub signed64 : (x : ℤ) → AreBytes 8 (to_be_bytes w64 (cast_unsigned w64 x))
signed64 x = number64 (cast_unsigned w64 x)
