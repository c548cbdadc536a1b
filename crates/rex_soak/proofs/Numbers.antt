-- Decimal numbers as words.
use Rattle.std.proofs.Common.{◌≡◌, ℕ, ◌+◌, ◌<◌, ◌≤◌, ◌^◌, ◌%◌, true, [], ◌∷◌, length, refl, arith}
use Rattle.std.specs.Prelude.{Some, pos}
use Rattle.std.specs.List.{list_all}
use Rattle.std.specs.Fmt.{decimal}
use Rattle.std.proofs.lemmas.Bool.{lt-ltb}
use Rattle.std.proofs.lemmas.Fmt.{decimal_by_steps, decimal_nonempty, length-decimal-le}
use Rattle.std.proofs.lemmas.List.Folds.{list_all-append}
use Rattle.rex_text.specs.Numbers.{u64_at, i64_at}
use Rattle.rex_text.proofs.Spellings.{u64_is, i64_is}
use Rattle.rex_soak.proofs.Lines.{is_visible, IsWord, in_range}

visible_digits : (n : ℕ) → n < 2 ^ 64 → list_all is_visible (decimal n) ≡ true
visible_digits n lt =
    decimal_by_steps (λ n ds. list_all is_visible ds ≡ true)
    (λ k low. rw (in_range 33 126 (48 + k) (omega arith) (omega arith)) refl)
    (λ k ds low e. rw (list_all-append is_visible ds ((48 + k % 10) ∷ []), e, in_range 33 126 (48 + k % 10) (omega arith) (omega arith)) refl)
    n lt

pub decimal_word : (n : ℕ) → n < 2 ^ 64 → IsWord (decimal n)
decimal_word n lt = record { some = decimal_nonempty n lt; visible = visible_digits n lt }

-- a number below 2^64 has at most 20 digits
pub short : (n : ℕ) → n < 2 ^ 64 → length (decimal n) ≤ 20
short n lt = length-decimal-le 20 n (omega arith) (omega arith) lt

pub short_six : (n : ℕ) → n < 1000000 → length (decimal n) ≤ 6
short_six n lt = length-decimal-le 6 n (omega arith) (omega arith) (omega arith)

pub read_u64 : (n : ℕ) → n < 2 ^ 64 → u64_at (decimal n) ≡ Some n
read_u64 n lt = u64_is (decimal n) n lt refl

pub read_i64 : (n : ℕ) → n < 2 ^ 63 → i64_at (decimal n) ≡ Some (pos n)
read_i64 n lt = i64_is (decimal n) (pos n) (lt-ltb n (2 ^ 63) lt) refl
