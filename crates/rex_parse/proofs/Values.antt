-- Lines that have an expression.
use Rattle.std.proofs.Common.{◌≡◌, ℕ, ◌-◌, ◌<◌, ◌≤◌, Bool, true, false, not, ◌&&◌, ◌||◌, cond, List, [], ◌∷◌, length, get_or, take, drop, Option, Some, None, codes, refl, sym, ap, ap₂, ◌∙◌, arith}
use Rattle.std.specs.Borrow.{Bor}
use Rattle.std.specs.Str.{bytes_eq}
use Rattle.rex_text.specs.Text.{Word}
use Rattle.rex_syntax.specs.declared.expr.Expr.{Expr}
use Rattle.rex_syntax.specs.declared.line.Line.TheVariants as line
use Rattle.rex_parse.specs.Above.{meaning_of, is_open, innermost}
use Rattle.rex_parse.specs.After.{after_form, condition_number, expr_of, variable_number, with_line}
use Rattle.rex_parse.specs.Answers.{texts}
use Rattle.rex_parse.specs.Table.{condition_code, form_code, full_code, is_inside, is_misshapen, limit_code, local_code, locals_code, order_code, same, slots, slots_code, suits, variable_code, whole_expr_code}
use Rattle.rex_parse.specs.Words.{least}
use Rattle.rex_parse.specs.declared.language.Above.{Above}
use Rattle.rex_parse.specs.declared.language.Form.{Form}
use Rattle.rex_parse.specs.declared.language.Form.TheVariants as form
use Rattle.rex_parse.specs.declared.language.ServiceCode.{ServiceCode}
use Rattle.rex_parse.specs.declared.language.ServiceCode.TheVariants.{BadForm, Misplaced}
use Rattle.rex_parse.proofs.Fine.{fine_line, least_both}
use Rattle.rex_parse.proofs.Shapes.{or_true}
use Rattle.rex_parse.proofs.Weighing.{least_none}

-- ---- the code of a line

by_tests : (b c m : Bool) (x : Option ServiceCode) → b ≡ true → c ≡ true → m ≡ false → cond (not (b && c)) (Some Misplaced) (cond m (Some BadForm) x) ≡ x
by_tests true true false x p q r = refl
by_tests true true true x p q r = absurd cc
by_tests true false m x p q r = absurd cc
by_tests false c m x p q r = absurd cc

-- a line that stands where it may and has its words
whole_line : (a : Above) (f : Form) (ws : List Word) → same (is_inside f) (is_open a) ≡ true → suits f (innermost a) ≡ true → is_misshapen (slots f) ws ≡ false
    → form_code a f ws ≡ least (slots_code a (slots f) ws) (least (limit_code a f ws) (order_code a f))
whole_line a f ws placed suited shaped =
    by_tests (same (is_inside f) (is_open a)) (suits f (innermost a)) (is_misshapen (slots f) ws) (least (slots_code a (slots f) ws) (least (limit_code a f ws) (order_code a f))) placed suited shaped

by_misshape : (b c m : Bool) (x : Option ServiceCode) → b ≡ true → c ≡ true → m ≡ true → cond (not (b && c)) (Some Misplaced) (cond m (Some BadForm) x) ≡ Some BadForm
by_misshape true true true x p q r = refl
by_misshape true true false x p q r = absurd cc
by_misshape true false m x p q r = absurd cc
by_misshape false c m x p q r = absurd cc

-- a line of a handler without an expression
pub too_few : (a : Above) (f : Form) (ws : List Word) → same (is_inside f) (is_open a) ≡ true → suits f (innermost a) ≡ true → is_misshapen (slots f) ws ≡ true → Some BadForm ≡ form_code a f ws
too_few a f ws placed suited shaped =
    sym (by_misshape (same (is_inside f) (is_open a)) (suits f (innermost a)) (is_misshapen (slots f) ws) (least (slots_code a (slots f) ws) (least (limit_code a f ws) (order_code a f))) placed suited shaped)

fixed_fits : (b : Bool) → b ≡ true → (not b || false) ≡ false
fixed_fits true e = refl
fixed_fits false e = absurd cc

pub set_code_is : (a : Above) (ws : List (Bor Word)) (d : Bor Word) (value limits found : Option ServiceCode) → is_open a ≡ true → 2 ≤ length ws
    → 0 < length (take (length ws - 2) (drop 2 ws)) → bytes_eq (get_or ws 1 d).now (codes "=") ≡ true → value ≡ whole_expr_code a (drop 2 (texts ws))
    → limits ≡ least (full_code a) (order_code a form.Set) → found ≡ least (least (variable_code a (get_or ws 0 d).now) value) limits → found ≡ form_code a form.Set (texts ws)
set_code_is a [] d value limits found inside two some same v l f = absurd (omega arith)
set_code_is a (w ∷ []) d value limits found inside two some same v l f = absurd (omega arith)
set_code_is a (w ∷ e ∷ []) d value limits found inside two some same v l f = absurd (omega arith)
set_code_is a (w ∷ e ∷ x ∷ xs) d value limits found inside two some same v l f =
    f ∙ ap₂ (λ (y z : Option ServiceCode). least (least (variable_code a w.now) y) z) (v ∙ sym (least_none (whole_expr_code a (texts (x ∷ xs))))) l
    ∙ sym (whole_line a form.Set (texts (w ∷ e ∷ x ∷ xs)) inside refl (fixed_fits (bytes_eq e.now (codes "=")) same))

pub let_code_is : (a : Above) (ws : List (Bor Word)) (d : Bor Word) (value limits found : Option ServiceCode) → is_open a ≡ true → 2 ≤ length ws
    → 0 < length (take (length ws - 2) (drop 2 ws)) → bytes_eq (get_or ws 1 d).now (codes "=") ≡ true → value ≡ whole_expr_code a (drop 2 (texts ws))
    → limits ≡ least (least (locals_code a ((get_or ws 0 d).now ∷ [])) (full_code a)) (order_code a form.Let) → found ≡ least (least (local_code a (get_or ws 0 d).now) value) limits
    → found ≡ form_code a form.Let (texts ws)
let_code_is a [] d value limits found inside two some same v l f = absurd (omega arith)
let_code_is a (w ∷ []) d value limits found inside two some same v l f = absurd (omega arith)
let_code_is a (w ∷ e ∷ []) d value limits found inside two some same v l f = absurd (omega arith)
let_code_is a (w ∷ e ∷ x ∷ xs) d value limits found inside two some same v l f =
    f ∙ ap₂ (λ (y z : Option ServiceCode). least (least (local_code a w.now) y) z) (v ∙ sym (least_none (whole_expr_code a (texts (x ∷ xs))))) l
    ∙ sym (whole_line a form.Let (texts (w ∷ e ∷ x ∷ xs)) inside refl (fixed_fits (bytes_eq e.now (codes "=")) same))

pub wait_code_is : (a : Above) (ws : List (Bor Word)) (d : Bor Word) (value limits found : Option ServiceCode) → is_open a ≡ true → 2 ≤ length ws
    → 0 < length (take (length ws - 2) (drop 2 ws)) → bytes_eq (get_or ws 1 d).now (codes "while") ≡ true → value ≡ whole_expr_code a (drop 2 (texts ws))
    → limits ≡ least (full_code a) (order_code a form.Wait) → found ≡ least (least (condition_code a (get_or ws 0 d).now) value) limits → found ≡ form_code a form.Wait (texts ws)
wait_code_is a [] d value limits found inside two some same v l f = absurd (omega arith)
wait_code_is a (w ∷ []) d value limits found inside two some same v l f = absurd (omega arith)
wait_code_is a (w ∷ e ∷ []) d value limits found inside two some same v l f = absurd (omega arith)
wait_code_is a (w ∷ e ∷ x ∷ xs) d value limits found inside two some same v l f =
    f ∙ ap₂ (λ (y z : Option ServiceCode). least (least (condition_code a w.now) y) z) (v ∙ sym (least_none (whole_expr_code a (texts (x ∷ xs))))) l
    ∙ sym (whole_line a form.Wait (texts (w ∷ e ∷ x ∷ xs)) inside refl (fixed_fits (bytes_eq e.now (codes "while")) same))

-- ---- the expression of a line that no code fits

expr_place : (x y : Option ServiceCode) → least x (least y None) ≡ None → y ≡ None
expr_place x y e = (least_both y None (least_both x (least y None) e).1).0

pub set_value : (a : Above) (ws : List (Bor Word)) → form_code a form.Set (texts ws) ≡ None → whole_expr_code a (drop 2 (texts ws)) ≡ None
set_value a [] h = absurd (let s = (fine_line a form.Set [] h).shaped in cc)
set_value a (w ∷ []) h = absurd (let s = (fine_line a form.Set (w.now ∷ []) h).shaped in cc)
set_value a (w ∷ e ∷ []) h = absurd (let s = (fine_line a form.Set (w.now ∷ e.now ∷ []) h).shaped in let k = or_true (not (bytes_eq e.now (codes "="))) in let z = sym k ∙ s in cc)
set_value a (w ∷ e ∷ x ∷ xs) h = expr_place (variable_code a w.now) (whole_expr_code a (texts (x ∷ xs))) (fine_line a form.Set (texts (w ∷ e ∷ x ∷ xs)) h).places

pub let_value : (a : Above) (ws : List (Bor Word)) → form_code a form.Let (texts ws) ≡ None → whole_expr_code a (drop 2 (texts ws)) ≡ None
let_value a [] h = absurd (let s = (fine_line a form.Let [] h).shaped in cc)
let_value a (w ∷ []) h = absurd (let s = (fine_line a form.Let (w.now ∷ []) h).shaped in cc)
let_value a (w ∷ e ∷ []) h = absurd (let s = (fine_line a form.Let (w.now ∷ e.now ∷ []) h).shaped in let k = or_true (not (bytes_eq e.now (codes "="))) in let z = sym k ∙ s in cc)
let_value a (w ∷ e ∷ x ∷ xs) h = expr_place (local_code a w.now) (whole_expr_code a (texts (x ∷ xs))) (fine_line a form.Let (texts (w ∷ e ∷ x ∷ xs)) h).places

pub wait_value : (a : Above) (ws : List (Bor Word)) → form_code a form.Wait (texts ws) ≡ None → whole_expr_code a (drop 2 (texts ws)) ≡ None
wait_value a [] h = absurd (let s = (fine_line a form.Wait [] h).shaped in cc)
wait_value a (w ∷ []) h = absurd (let s = (fine_line a form.Wait (w.now ∷ []) h).shaped in cc)
wait_value a (w ∷ e ∷ []) h = absurd (let s = (fine_line a form.Wait (w.now ∷ e.now ∷ []) h).shaped in let k = or_true (not (bytes_eq e.now (codes "while"))) in let z = sym k ∙ s in cc)
wait_value a (w ∷ e ∷ x ∷ xs) h = expr_place (condition_code a w.now) (whole_expr_code a (texts (x ∷ xs))) (fine_line a form.Wait (texts (w ∷ e ∷ x ∷ xs)) h).places

pub if_value : (a : Above) (ws : List Word) → form_code a form.If ws ≡ None → whole_expr_code a ws ≡ None
if_value a [] h = absurd (let s = (fine_line a form.If [] h).shaped in cc)
if_value a (w ∷ ws) h = (least_both (whole_expr_code a (w ∷ ws)) None (fine_line a form.If (w ∷ ws) h).places).0

pub reply_value : (a : Above) (ws : List Word) → form_code a form.Reply ws ≡ None → whole_expr_code a ws ≡ None
reply_value a [] h = absurd (let s = (fine_line a form.Reply [] h).shaped in cc)
reply_value a (w ∷ ws) h = (least_both (whole_expr_code a (w ∷ ws)) None (fine_line a form.Reply (w ∷ ws) h).places).0

-- ---- what such a line declares

pub set_after : (a new : Above) (ws : List (Bor Word)) (d : Bor Word) (number variable : ℕ) (rest : List Word) (value : Expr) → 2 ≤ length ws → rest ≡ drop 2 (texts ws)
    → variable ≡ variable_number (meaning_of a (get_or ws 0 d).now) → value ≡ expr_of a rest → new ≡ with_line a number (line.Set variable value) → new ≡ after_form a number form.Set (texts ws)
set_after a new [] d number variable rest value two r v e n = absurd (omega arith)
set_after a new (w ∷ []) d number variable rest value two r v e n = absurd (omega arith)
set_after a new (w ∷ x ∷ xs) d number variable rest value two r v e n = n ∙ ap₂ (λ (i : ℕ) (y : Expr). with_line a number (line.Set i y)) v (e ∙ ap (expr_of a) r)

pub wait_after : (a new : Above) (ws : List (Bor Word)) (d : Bor Word) (number condition : ℕ) (rest : List Word) (value : Expr) → 2 ≤ length ws → rest ≡ drop 2 (texts ws)
    → condition ≡ condition_number (meaning_of a (get_or ws 0 d).now) → value ≡ expr_of a rest → new ≡ with_line a number (line.Wait condition value) → new ≡ after_form a number form.Wait (texts ws)
wait_after a new [] d number condition rest value two r v e n = absurd (omega arith)
wait_after a new (w ∷ []) d number condition rest value two r v e n = absurd (omega arith)
wait_after a new (w ∷ x ∷ xs) d number condition rest value two r v e n = n ∙ ap₂ (λ (i : ℕ) (y : Expr). with_line a number (line.Wait i y)) v (e ∙ ap (expr_of a) r)
