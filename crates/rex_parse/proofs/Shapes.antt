-- The words of a line that no code fits.
use Rattle.std.proofs.Common.{◌≡◌, ℕ, ◌<◌, ◌≤◌, Bool, true, false, ◌||◌, List, [], ◌∷◌, length, get_or, drop, None, refl, ap, ◌∙◌, arith}
use Rattle.std.specs.Borrow.{Bor}
use Rattle.rex_text.specs.Text.{Word}
use Rattle.rex_syntax.specs.declared.expr.Expr.{Expr}
use Rattle.rex_syntax.specs.declared.line.Line.TheVariants as line
use Rattle.rex_parse.specs.Above.{local_place}
use Rattle.rex_parse.specs.After.{after_form, expr_of, with_local, with_line}
use Rattle.rex_parse.specs.Answers.{texts}
use Rattle.rex_parse.specs.Table.{form_code, is_misshapen, slots}
use Rattle.rex_parse.specs.declared.language.Above.{Above}
use Rattle.rex_parse.specs.declared.language.Form.TheVariants as form
use Rattle.rex_parse.proofs.Fine.{fine_line}

pub or_true : (b : Bool) → (b || true) ≡ true
or_true true = refl
or_true false = refl

or_or_true : (b c : Bool) → (b || (c || true)) ≡ true
or_or_true true c = refl
or_or_true false c = or_true c

pub set_shape : (ws : List (Bor Word)) → length ws < 2 → is_misshapen (slots form.Set) (texts ws) ≡ true
set_shape [] lt = refl
set_shape (w ∷ []) lt = refl
set_shape (w ∷ v ∷ ws) lt = absurd (omega arith)

pub let_shape : (ws : List (Bor Word)) → length ws < 2 → is_misshapen (slots form.Let) (texts ws) ≡ true
let_shape [] lt = refl
let_shape (w ∷ []) lt = refl
let_shape (w ∷ v ∷ ws) lt = absurd (omega arith)

var_shape : (ws : List (Bor Word)) → length ws < 5 → is_misshapen (slots form.Var) (texts ws) ≡ true
var_shape [] lt = refl
var_shape (w ∷ []) lt = refl
var_shape (w ∷ o ∷ []) lt = or_true _
var_shape (w ∷ o ∷ l ∷ []) lt = or_true _
var_shape (w ∷ o ∷ l ∷ e ∷ []) lt = or_or_true _ _
var_shape (w ∷ o ∷ l ∷ e ∷ v ∷ ws) lt = absurd (omega arith)

sem_shape : (ws : List (Bor Word)) → length ws < 3 → is_misshapen (slots form.Sem) (texts ws) ≡ true
sem_shape [] lt = refl
sem_shape (w ∷ []) lt = refl
sem_shape (w ∷ e ∷ []) lt = or_true _
sem_shape (w ∷ e ∷ v ∷ ws) lt = absurd (omega arith)

pub sem_words : (a : Above) (ws : List (Bor Word)) → length ws < 3 → form_code a form.Sem (texts ws) ≡ None → ⊥
sem_words a ws lt e = let h : is_misshapen (slots form.Sem) (texts ws) ≡ false = (fine_line a form.Sem (texts ws) e).shaped in let k = sem_shape ws lt in cc

pub set_words : (a : Above) (ws : List (Bor Word)) → length ws < 2 → form_code a form.Set (texts ws) ≡ None → ⊥
set_words a ws lt e = let h : is_misshapen (slots form.Set) (texts ws) ≡ false = (fine_line a form.Set (texts ws) e).shaped in let k = set_shape ws lt in cc

pub let_words : (a : Above) (ws : List (Bor Word)) → length ws < 2 → form_code a form.Let (texts ws) ≡ None → ⊥
let_words a ws lt e = let h : is_misshapen (slots form.Let) (texts ws) ≡ false = (fine_line a form.Let (texts ws) e).shaped in let k = let_shape ws lt in cc

pub var_words : (a : Above) (ws : List (Bor Word)) → length ws < 5 → form_code a form.Var (texts ws) ≡ None → ⊥
var_words a ws lt e = let h : is_misshapen (slots form.Var) (texts ws) ≡ false = (fine_line a form.Var (texts ws) e).shaped in let k = var_shape ws lt in cc

-- ---- what `let` declares

let_now : (a b new : Above) (w : Word) (ws : List Word) (number place : ℕ) (value : Expr) → b ≡ with_local a w → place ≡ local_place b w → value ≡ expr_of a ws
    → new ≡ with_line b number (line.Let place value) → new ≡ with_line (with_local a w) number (line.Let (local_place (with_local a w) w) (expr_of a ws))
let_now a b new w ws number place value made at is e = rw (← made, ← at, ← is) e

pub let_after : (a b new : Above) (ws : List (Bor Word)) (d : Bor Word) (number place : ℕ) (rest : List Word) (value : Expr) → 2 ≤ length ws → rest ≡ drop 2 (texts ws)
    → b ≡ with_local a (get_or ws 0 d).now → place ≡ local_place b (get_or ws 0 d).now → value ≡ expr_of a rest
    → new ≡ with_line b number (line.Let place value) → new ≡ after_form a number form.Let (texts ws)
let_after a b new [] d number place rest value two r made at is e = absurd (omega arith)
let_after a b new (w ∷ []) d number place rest value two r made at is e = absurd (omega arith)
let_after a b new (w ∷ v ∷ ws) d number place rest value two r made at is e = let_now a b new w.now (texts ws) number place value made at (is ∙ ap (expr_of a) r) e
