-- The words of a report line, without its number and its line feed.
use Rattle.std.proofs.Common.{◌≡◌, ℕ, ◌-◌, List, [], ◌∷◌, ◌++◌, length, take, drop, refl, ap, ◌∙◌, arith, length-append}
use Rattle.std.specs.Fmt.{decimal, digits}
use Rattle.std.proofs.lemmas.List.{take_at}
use Rattle.rex_syntax.specs.declared.service.Declarations.{Declarations}
use Rattle.rex_report.specs.declared.effect.Effect.{Effect}
use Rattle.rex_report.specs.Pieces.{spaced}
use Rattle.rex_report.specs.Rows.{effect_words, row_text}
use Rattle.rex_frames.specs.Answering.{effect_text}

zero_is : decimal 0 ≡ 48 ∷ []
unfolding digits
zero_is = refl

-- the bytes from the second on, but for the last, of a number of one digit, spaced words and a line feed
middle : (words : List (List ℕ)) (n : ℕ) → n ≡ length (48 ∷ (spaced words ++ 10 ∷ [])) → take (n - 1 - 2) (drop 2 (48 ∷ (spaced words ++ 10 ∷ []))) ≡ drop 1 (spaced words)
middle [] n e = rw e refl
middle (w ∷ words) n e =
    let rest : List ℕ = w ++ spaced words in
    let len : n - 1 - 2 ≡ length rest = omega (arith, e, length-append rest (10 ∷ [])) in
    rw len (take_at rest (10 ∷ []) (length rest) refl)

pub text_is : (service : Declarations) (effect : Effect) (row : List ℕ) (n : ℕ) → row ≡ row_text service 0 effect → n ≡ length row → take (n - 1 - 2) (drop 2 row) ≡ effect_text service effect
text_is service effect row n e k =
    let whole : row ≡ 48 ∷ (spaced (effect_words service effect) ++ 10 ∷ []) = e ∙ ap (λ (number : List ℕ). number ++ (spaced (effect_words service effect) ++ 10 ∷ [])) zero_is in
    ap (λ (r : List ℕ). take (n - 1 - 2) (drop 2 r)) whole ∙ middle (effect_words service effect) n (k ∙ ap length whole)
