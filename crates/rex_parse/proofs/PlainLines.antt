-- The words of a `wait`, and what a `clock` or a `random` declares.
use Rattle.std.proofs.Common.{◌≡◌, ℕ, ◌<◌, ◌≤◌, true, false, List, [], ◌∷◌, length, get_or, None, refl, arith}
use Rattle.std.specs.Borrow.{Bor}
use Rattle.rex_text.specs.Text.{Word}
use Rattle.rex_syntax.specs.declared.line.Line.{Line}
use Rattle.rex_syntax.specs.declared.line.Line.TheVariants as line
use Rattle.rex_parse.specs.Above.{local_place}
use Rattle.rex_parse.specs.After.{after_form, with_local, with_line}
use Rattle.rex_parse.specs.Answers.{texts}
use Rattle.rex_parse.specs.Table.{form_code, is_misshapen, slots}
use Rattle.rex_parse.specs.declared.language.Above.{Above}
use Rattle.rex_parse.specs.declared.language.Form.TheVariants as form
use Rattle.rex_parse.proofs.Fine.{fine_line}

pub wait_shape : (ws : List (Bor Word)) → length ws < 2 → is_misshapen (slots form.Wait) (texts ws) ≡ true
wait_shape [] lt = refl
wait_shape (w ∷ []) lt = refl
wait_shape (w ∷ v ∷ ws) lt = absurd (omega arith)

pub wait_words : (a : Above) (ws : List (Bor Word)) → length ws < 2 → form_code a form.Wait (texts ws) ≡ None → ⊥
wait_words a ws lt e = let h : is_misshapen (slots form.Wait) (texts ws) ≡ false = (fine_line a form.Wait (texts ws) e).shaped in let k = wait_shape ws lt in cc

recorded : (a b new : Above) (w : Word) (number place : ℕ) (made_line : ℕ → Line) → b ≡ with_local a w → place ≡ local_place b w
    → new ≡ with_line b number (made_line place) → new ≡ with_line (with_local a w) number (made_line (local_place (with_local a w) w))
recorded a b new w number place made_line made at e = rw (← made, ← at) e

pub clock_after : (a b new : Above) (ws : List (Bor Word)) (d : Bor Word) (number place : ℕ) → 1 ≤ length ws → b ≡ with_local a (get_or ws 0 d).now
    → place ≡ local_place b (get_or ws 0 d).now → new ≡ with_line b number (line.Clock place) → new ≡ after_form a number form.Clock (texts ws)
clock_after a b new [] d number place one made at e = absurd (omega arith)
clock_after a b new (w ∷ ws) d number place one made at e = recorded a b new w.now number place (λ p. line.Clock p) made at e

pub random_after : (a b new : Above) (ws : List (Bor Word)) (d : Bor Word) (number place : ℕ) → 1 ≤ length ws → b ≡ with_local a (get_or ws 0 d).now
    → place ≡ local_place b (get_or ws 0 d).now → new ≡ with_line b number (line.Random place) → new ≡ after_form a number form.Random (texts ws)
random_after a b new [] d number place one made at e = absurd (omega arith)
random_after a b new (w ∷ ws) d number place one made at e = recorded a b new w.now number place (λ p. line.Random p) made at e
