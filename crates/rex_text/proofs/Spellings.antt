-- A word is read as the number of which it is the spelling.
use Rattle.std.proofs.Common.{◌≡◌, ℕ, suc, ◌+◌, ◌-◌, ◌*◌, ◌<◌, ◌≤◌, ◌^◌, Bool, true, false, cond, ltb, ◌&&◌, ◌⊎◌, ℤ, pos, negsuc, neg_ℤ, w64}
use Rattle.std.proofs.Common.{List, [], ◌∷◌, length, get_or, drop, take, Option, Some, None, Result, Ok, Err, refl, sym, ap, subst, ◌∙◌, arith, inl, inr}
use Rattle.std.specs.Bool.{Decides}
use Rattle.std.specs.Fmt.{decimal, signed_decimal}
use Rattle.std.specs.Result.{OkIff, result_ok}
use Rattle.std.specs.Char.{IsAsciiDigit, digit_value}
use Rattle.std.specs.Str.{bytes_eq}
use Rattle.std.specs.Str.Parse.{AllDigits, IsNumeral, digits_value, digits_value_after, signed_digits_value}
use Rattle.std.proofs.lemmas.Bool.{cases_lt, ltb-true, lt-ltb, ne_eqb}
use Rattle.std.proofs.lemmas.Bool.Decides.{Decides-and, Decides-ltb}
use Rattle.std.proofs.lemmas.Fmt.{decimal_digit, decimal-digits_value, decimal_is_IsNumeral, decimal_nonempty, first_decimal}
use Rattle.std.proofs.lemmas.List.{drop_all, drop_more, take_rest}
use Rattle.std.proofs.lemmas.Slice.Eq.{bytes_eq-Decides}
use Rattle.std.proofs.lemmas.Str.{digit_value_digit}
use Rattle.std.proofs.lemmas.Str.Parse.{IsNumeralModel, digit_at}
use Rattle.rex_text.specs.Numbers.{fits_i64, i64_at, u64_at}
use mir.Val.{SFits}

-- ---- what a test picks

picked : {A : Type 0} (b : Bool) (x : A) → b ≡ true → cond b (Some x) None ≡ Some x
picked b x e = rw e refl

dropped : {A : Type 0} (b : Bool) (x : A) → (b ≡ true → ⊥) → cond b (Some x) None ≡ None
dropped true x stop = absurd (stop refl)
dropped false x stop = refl

taken : {A : Type 0} (b : Bool) (x y : A) → cond b (Some x) None ≡ Some y → (b ≡ true) × (x ≡ y)
taken true x y e = (refl, cc)
taken false x y e = absurd cc

-- ---- the law of `u64_at`: it gives n just where the word is the spelling of n

tested : (w : List ℕ) → Decides (bytes_eq (decimal (digits_value 10 w)) w && ltb (digits_value 10 w) (2 ^ 64)) ((decimal (digits_value 10 w) ≡ w) × (digits_value 10 w < 2 ^ 64))
tested w = Decides-and _ _ (bytes_eq-Decides (decimal (digits_value 10 w)) w) (Decides-ltb (digits_value 10 w) (2 ^ 64))

pub u64_is : (w : List ℕ) (n : ℕ) → n < 2 ^ 64 → w ≡ decimal n → u64_at w ≡ Some n
u64_is w n lt e =
    let v : digits_value 10 w ≡ n = rw e ((decimal_is_IsNumeral n lt).1) in
    picked _ (digits_value 10 w) ((tested w).1 (rw (v, e) refl, rw v lt)) ∙ rw v refl

pub u64_is_none : (w : List ℕ) → ((n : ℕ) → n < 2 ^ 64 → w ≡ decimal n → ⊥) → u64_at w ≡ None
u64_is_none w stop = dropped _ (digits_value 10 w) (λ t. let h = (tested w).0 t in stop (digits_value 10 w) h.1 (sym h.0))

pub u64_spelling : (w : List ℕ) (n : ℕ) → u64_at w ≡ Some n → (w ≡ decimal n) × (n < 2 ^ 64)
u64_spelling w n e =
    let t = taken _ (digits_value 10 w) n e in
    let h = (tested w).0 t.0 in
    (rw (← t.1) (sym h.0), rw (← t.1) h.1)

-- ---- the law of `i64_at`: it gives z just where the word is the spelling of z

-- a spelling begins with a digit, which is 0 in that of 0 alone
first_is : (n : ℕ) → n < 2 ^ 64 → (48 ≤ get_or (decimal n) 0 0) × (get_or (decimal n) 0 0 ≡ 48 → length (decimal n) ≡ 1)
first_is n lt = elim (cases_lt 0 n) [
  | inl some ↦ let h = first_decimal n some lt in (omega arith, λ e. absurd (omega arith))
  | inr none ↦ let z : n ≡ 0 = omega arith in rw (z, decimal_digit 0 (omega arith)) (omega arith, λ e. refl)
]

signed_value : (z : ℤ) → fits_i64 z ≡ true → signed_digits_value 10 (signed_decimal z) ≡ z
signed_value (pos n) fits =
    let lt : n < 2 ^ 64 = omega (arith, ltb-true n (2 ^ 63) fits) in
    let first : 48 ≤ get_or (decimal n) 0 0 = (first_is n lt).0 in
    rw (ne_eqb (get_or (decimal n) 0 0) 45 (λ e. omega arith)) (rw (ne_eqb (get_or (decimal n) 0 0) 43 (λ e. omega arith)) (ap pos ((decimal_is_IsNumeral n lt).1)))
signed_value (negsuc n) fits =
    let lt : suc n < 2 ^ 64 = omega (arith, ltb-true n (2 ^ 63) fits) in
    ap (λ m. neg_ℤ (pos m)) ((decimal_is_IsNumeral (suc n) lt).1)

same : (b : Bool) → Decides b (b ≡ true)
same b = (λ e. e, λ e. e)

tested_signed : (w : List ℕ) → Decides (bytes_eq (signed_decimal (signed_digits_value 10 w)) w && fits_i64 (signed_digits_value 10 w)) ((signed_decimal (signed_digits_value 10 w) ≡ w) × (fits_i64 (signed_digits_value 10 w) ≡ true))
tested_signed w = Decides-and _ _ (bytes_eq-Decides (signed_decimal (signed_digits_value 10 w)) w) (same (fits_i64 (signed_digits_value 10 w)))

pub i64_is : (w : List ℕ) (z : ℤ) → fits_i64 z ≡ true → w ≡ signed_decimal z → i64_at w ≡ Some z
i64_is w z fits e =
    let v : signed_digits_value 10 w ≡ z = rw e (signed_value z fits) in
    picked _ (signed_digits_value 10 w) ((tested_signed w).1 (rw (v, e) refl, rw v fits)) ∙ rw v refl

pub i64_is_none : (w : List ℕ) → ((z : ℤ) → fits_i64 z ≡ true → w ≡ signed_decimal z → ⊥) → i64_at w ≡ None
i64_is_none w stop = dropped _ (signed_digits_value 10 w) (λ t. let h = (tested_signed w).0 t in stop (signed_digits_value 10 w) h.1 (sym h.0))

-- ---- what `read_u64` reads

own : IsNumeralModel (AllDigits 10) (digits_value 10)
own = record { to = λ ds h. h; from = λ ds h. h; same = λ ds h. refl }

-- the digits behind a number only make it larger
after_is_at_least : (n : ℕ) (ds : List ℕ) → n ≤ digits_value_after 10 n ds
after_is_at_least n [] = omega arith
after_is_at_least n (c ∷ cs) = omega (arith, after_is_at_least (n * 10 + digit_value c) cs)

-- the bytes of w before i are digits, and write n
pub record HasRead (w : List ℕ) (i n : ℕ) : Type 0 where
  pub digits : AllDigits 10 (drop i w) → AllDigits 10 w
  pub value : digits_value_after 10 n (drop i w) ≡ digits_value 10 w

pub read_none : (w : List ℕ) → HasRead w 0 0
read_none w = record { digits = λ h. h; value = refl }

pub read_more : (w : List ℕ) (i n : ℕ) → i < length w → IsAsciiDigit (get_or w i 0) → HasRead w i n → HasRead w (i + 1) (n * 10 + digit_value (get_or w i 0))
read_more w i n lt digit h =
    let front : drop i w ≡ get_or w i 0 ∷ drop (i + 1) w = drop_more w i 0 lt in
    let small : digit_value (get_or w i 0) < 10 = omega (arith, digit_value_digit (get_or w i 0) digit) in
    record {
      digits = λ rest. h.digits (subst (λ l. AllDigits 10 l) (sym front) (small, rest));
      value = subst (λ l. digits_value_after 10 n l ≡ digits_value 10 w) front h.value;
    }

-- all bytes were read
pub all_read : (w : List ℕ) (n : ℕ) → n < 2 ^ 64 → 0 < length w → (get_or w 0 0 ≡ 48 → length w ≡ 1) → HasRead w (length w) n → Some n ≡ u64_at w
all_read w n fits some zero_alone h =
    let gone : drop (length w) w ≡ [] = drop_all (length w) w (omega arith) in
    let all : AllDigits 10 w = h.digits (subst (λ l. AllDigits 10 l) (sym gone) tt) in
    let value : n ≡ digits_value 10 w = subst (λ l. digits_value_after 10 n l ≡ digits_value 10 w) gone h.value in
    let below : digits_value 10 w < 2 ^ 64 = subst (λ m. m < 2 ^ 64) value fits in
    let spelling : decimal (digits_value 10 w) ≡ w = decimal-digits_value own w all some zero_alone below in
    sym (u64_is w n fits (subst (λ m. w ≡ decimal m) (sym value) (sym spelling)))

-- a byte is no digit, or its digit makes the number too large
pub not_read : (w : List ℕ) (i n : ℕ) → i < length w → HasRead w i n → ¬ (IsAsciiDigit (get_or w i 0) × (n * 10 + digit_value (get_or w i 0) < 2 ^ 64)) → None ≡ u64_at w
not_read w i n lt h stop = sym (u64_is_none w (λ m small e.
    let spelled : IsNumeral 10 w × (digits_value 10 w ≡ m) = rw e (decimal_is_IsNumeral m small) in
    let digit = digit_at w i spelled.0.1 lt in
    let more = read_more w i n lt digit h in
    let least = after_is_at_least (n * 10 + digit_value (get_or w i 0)) (drop (i + 1) w) in
    stop (digit, omega (arith, least, more.value, spelled.1))))

-- no spelling is empty, or begins with a zero and goes on
pub not_begun : (w : List ℕ) → (length w ≡ 0) ⊎ ((get_or w 0 0 ≡ 48) × (1 < length w)) → None ≡ u64_at w
not_begun w why = sym (u64_is_none w (λ n lt e.
    let f = first_is n lt in
    let some = decimal_nonempty n lt in
    let g : (48 ≤ get_or w 0 0) × (get_or w 0 0 ≡ 48 → length w ≡ 1) = rw e f in
    let len : 0 < length w = rw e some in
    elim why [ inl z ↦ omega arith | inr two ↦ omega (arith, g.1 two.0, two.1) ]))

-- ---- what `read_i64` reads

-- a word that begins with a minus spells no number where the rest spells none from 1 to 2^63
minus_stops : (w : List ℕ) (z : ℤ) → get_or w 0 0 ≡ 45 → ((n : ℕ) → n < 2 ^ 63 → u64_at (drop 1 w) ≡ Some (suc n) → ⊥) → fits_i64 z ≡ true → w ≡ signed_decimal z → ⊥
minus_stops w (pos n) minus stop fits e =
    let lt : n < 2 ^ 64 = omega (arith, ltb-true n (2 ^ 63) fits) in
    let first : 48 ≤ get_or w 0 0 = rw e ((first_is n lt).0) in
    omega arith
minus_stops w (negsuc n) minus stop fits e =
    let lt : n < 2 ^ 63 = ltb-true n (2 ^ 63) fits in
    stop n lt (u64_is (drop 1 w) (suc n) (omega arith) (rw e refl))

-- another word spells no number where it spells none below 2^63
plain_stops : (w : List ℕ) (z : ℤ) → (get_or w 0 0 ≡ 45 → ⊥) → ((n : ℕ) → n < 2 ^ 63 → u64_at w ≡ Some n → ⊥) → fits_i64 z ≡ true → w ≡ signed_decimal z → ⊥
plain_stops w (pos n) plain stop fits e =
    let lt : n < 2 ^ 63 = ltb-true n (2 ^ 63) fits in
    stop n lt (u64_is w n (omega arith) e)
plain_stops w (negsuc n) plain stop fits e = plain (rw e refl)

-- no number stands behind the minus
pub minus_unread : (w : List ℕ) (distance : Option ℕ) → get_or w 0 0 ≡ 45 → distance ≡ u64_at (take (length w - 1) (drop 1 w)) → distance ≡ None → i64_at w ≡ None
minus_unread w distance minus read none =
    let rest : u64_at (drop 1 w) ≡ None = rw (← take_rest w 1) (sym read ∙ none) in
    i64_is_none w (λ z fits e. minus_stops w z minus (λ n lt some. cc) fits e)

-- no number was read
pub plain_unread : (w : List ℕ) (number : Option ℕ) → (get_or w 0 0 ≡ 45 → ⊥) → number ≡ u64_at w → number ≡ None → i64_at w ≡ None
plain_unread w number plain read none = i64_is_none w (λ z fits e. plain_stops w z plain (λ n lt some. cc) fits e)

-- a number was read, and then cast
pub plain_cast : {E : Type 0} (w : List ℕ) (n : ℕ) (r : Result ℤ E) → (get_or w 0 0 ≡ 45 → ⊥) → u64_at w ≡ Some n → OkIff r (SFits w64 (pos n)) (pos n) → i64_at w ≡ result_ok r
plain_cast w n (Ok z) plain read cast =
    i64_is w (pos n) (lt-ltb n (2 ^ 63) cast.0.sfits) ((u64_spelling w n read).0) ∙ ap Some (sym cast.1)
plain_cast w n (Err e) plain read cast =
    i64_is_none w (λ z fits s. plain_stops w z plain (λ m lt again. let same : m ≡ n = cc in cast (record { sfits = omega arith })) fits s)

pub not_minus : (w : List ℕ) → length w ≡ 0 → get_or w 0 0 ≡ 45 → ⊥
not_minus [] none e = omega arith
not_minus (x ∷ xs) none e = omega arith
