-- Each number that a text declares is one of 64 bits: a word spells it, or it is 0.
use Rattle.std.proofs.Common.{◌≡◌, ℕ, zero, suc, ◌+◌, ◌^◌, ℤ, pos, negsuc, ◌&&◌, Bool, true, false, List, [], ◌∷◌, ◌++◌, length, get_or, Option, Some, None, Result, Ok, refl, subst, w64}
use Rattle.std.specs.Prelude.{FitsSigned, IfSome, unwrap_or, option_map, if◌then◌else◌}
use Rattle.std.specs.List.{All}
use Rattle.std.specs.Fmt.{signed_decimal}
use Rattle.std.specs.Str.{bytes_eq}
use Rattle.std.specs.Str.Parse.{signed_digits_value}
use Rattle.std.proofs.lemmas.Bool.{ltb-true}
use Rattle.std.proofs.lemmas.List.Elements.{All-nil, All-cons, All-head, All-tail, All-push, All-set}
use Rattle.rex_text.specs.Text.{Word, words_of, lines_of, numbered, is_skipped}
use Rattle.rex_text.specs.Numbers.{fits_i64, i64_at}
use Rattle.rex_syntax.specs.declared.expr.Operand.TheVariants.{Number, Local, Variable as OfVariable}
use Rattle.rex_syntax.specs.declared.line.Line.{Line}
use Rattle.rex_syntax.specs.declared.line.Line.TheVariants as line
use Rattle.rex_syntax.specs.declared.service.Variable.{Variable}
use Rattle.rex_syntax.specs.declared.service.Handler.{Handler}
use Rattle.rex_syntax.specs.Typed.{NumbersAreTyped, OperandIsTyped, TermIsTyped, ExprIsTyped, LineIsTyped, HandlerIsTyped, VariableIsTyped, ServiceIsTyped}
use Rattle.rex_parse.specs.Above.{nothing, meaning_of, is_local, local_place}
use Rattle.rex_parse.specs.Table.{form_of, begins_number}
use Rattle.rex_parse.specs.After.{service_of, variable_number, operand_of, terms_of, expr_of, more_lines, with_line, led_to, with_block_target, block_opens, block_ends, opening, dividing, closing, with_open, with_local, with_handler, closed, after_form, after_found, after}
use Rattle.rex_parse.specs.Reading.{raw_code, raw_after, end_code, or_next, answer_from}
use Rattle.rex_parse.specs.Law.{ServicesAreTyped}
use Rattle.rex_parse.specs.declared.language.Above.{Above}
use Rattle.rex_parse.specs.declared.language.OpenHandler.{OpenHandler}
use Rattle.rex_parse.specs.declared.language.ServiceCode.{ServiceCode}
use Rattle.rex_parse.specs.declared.blocks.BlockKind.{BlockKind}
use Rattle.rex_parse.specs.declared.blocks.BlockKind.TheVariants as block
use Rattle.rex_parse.specs.declared.blocks.OpenBlock.{OpenBlock}
use Rattle.rex_parse.specs.declared.language.Form.{Form}
use Rattle.rex_parse.specs.declared.language.Form.TheVariants as form

-- ---- a number that a word spells

zero_fits : FitsSigned w64 (pos 0)
zero_fits = record { sfits = ltb-true 0 (2 ^ 63) refl }

tested : (z : ℤ) → fits_i64 z ≡ true → FitsSigned w64 z
tested (pos n) e = record { sfits = ltb-true n (2 ^ 63) e }
tested (negsuc n) e = record { sfits = ltb-true n (2 ^ 63) e }

picked : (spelled fits : Bool) (z : ℤ) → (fits ≡ true → FitsSigned w64 z) → FitsSigned w64 (unwrap_or (if spelled && fits then Some z else None) (pos 0))
picked true true z f = f refl
picked true false z f = zero_fits
picked false fits z f = zero_fits

-- the number that a word spells, or 0
pub number_fits : (w : Word) → FitsSigned w64 (unwrap_or (i64_at w) (pos 0))
number_fits w = picked (bytes_eq (signed_decimal (signed_digits_value 10 w)) w) (fits_i64 (signed_digits_value 10 w)) (signed_digits_value 10 w) (tested (signed_digits_value 10 w))

-- ---- expressions

operand_by : (number named : Bool) (w : Word) (place variable : ℕ) → OperandIsTyped (if number then Number (unwrap_or (i64_at w) (pos 0)) else if named then Local place else OfVariable variable)
operand_by true named w place variable = number_fits w
operand_by false true w place variable = tt
operand_by false false w place variable = tt

operand_typed : (a : Above) (w : Word) → OperandIsTyped (operand_of a w)
operand_typed a w = operand_by (begins_number w) (is_local a w) w (local_place a w) (variable_number (meaning_of a w))

terms_typed : (a : Above) (ws : List Word) → All TermIsTyped (terms_of a ws)
terms_typed a [] = All-nil TermIsTyped
terms_typed a (o ∷ []) = All-nil TermIsTyped
terms_typed a (o ∷ w ∷ ws) = All-cons TermIsTyped _ (terms_of a ws) (record { operand = operand_typed a w }) (terms_typed a ws)

expr_typed : (a : Above) (ws : List Word) → ExprIsTyped (expr_of a ws)
expr_typed a [] = record { first = zero_fits; rest = All-nil TermIsTyped }
expr_typed a (w ∷ ws) = record { first = operand_typed a w; rest = terms_typed a ws }

-- ---- what was declared

abbrev OpenIsTyped : OpenHandler → Type 0
OpenIsTyped h = All LineIsTyped h.lines

-- each number of variables, of handlers and of the open one is of 64 bits
pub record AreTyped (variables : List Variable) (handlers : List Handler) (open_handler : Option OpenHandler) : Type 0 where
  pub first : All VariableIsTyped variables
  pub whole : All HandlerIsTyped handlers
  pub opened : IfSome open_handler OpenIsTyped

abbrev pub AboveIsTyped : Above → Type 0
AboveIsTyped a = AreTyped a.variables a.handlers a.open_handler

-- ---- lines of the open handler

opened_change : (change : OpenHandler → OpenHandler) (o : Option OpenHandler) → ((h : OpenHandler) → OpenIsTyped h → OpenIsTyped (change h)) → IfSome o OpenIsTyped → IfSome (option_map change o) OpenIsTyped
opened_change change None keep t = tt
opened_change change (Some h) keep t = keep h t

change_typed : (a : Above) (change : OpenHandler → OpenHandler) → ((h : OpenHandler) → OpenIsTyped h → OpenIsTyped (change h)) → AboveIsTyped a → AboveIsTyped (with_open a change)
change_typed a change keep t = record { first = t.first; whole = t.whole; opened = opened_change change a.open_handler keep t.opened }

more_typed : (number : ℕ) (l : Line) (h : OpenHandler) → LineIsTyped l → OpenIsTyped h → OpenIsTyped (more_lines number l h)
more_typed number l h t o = All-push LineIsTyped h.lines l o t

led_typed : (target : ℕ) (l : Line) → LineIsTyped l → LineIsTyped (led_to target l)
led_typed target (line.If test otherwise) t = record { numbers = t.numbers }
led_typed target (line.Else end) t = record { numbers = tt }
led_typed target (line.Try lock busy) t = record { numbers = tt }
led_typed target (line.Busy end) t = record { numbers = tt }
led_typed target (line.Repeat turns after) t = record { numbers = tt }
led_typed target l t = t

at_typed : (lines : List Line) (place : ℕ) → All LineIsTyped lines → LineIsTyped (get_or lines place line.EndIf)
at_typed [] place t = record { numbers = tt }
at_typed (l ∷ lines) zero t = All-head LineIsTyped l lines t
at_typed (l ∷ lines) (suc place) t = at_typed lines place (All-tail LineIsTyped l lines t)

target_typed : (lines : List Line) (blocks : List OpenBlock) (target : ℕ) → All LineIsTyped lines → All LineIsTyped (with_block_target lines blocks target)
target_typed lines [] target t = t
target_typed lines (b ∷ rest) target t = All-set LineIsTyped lines b.line _ (led_typed target (get_or lines b.line line.EndIf) (at_typed lines b.line t)) t

line_typed : (a : Above) (number : ℕ) (l : Line) → LineIsTyped l → AboveIsTyped a → AboveIsTyped (with_line a number l)
line_typed a number l t = change_typed a (more_lines number l) (λ h o. more_typed number l h t o)

plain_typed : (a : Above) (number : ℕ) (l : Line) → NumbersAreTyped l → AboveIsTyped a → AboveIsTyped (with_line a number l)
plain_typed a number l n t = line_typed a number l (record { numbers = n }) t

opening_typed : (a : Above) (kind : BlockKind) (number : ℕ) (l : Line) → LineIsTyped l → AboveIsTyped a → AboveIsTyped (with_open a (opening kind number l))
opening_typed a kind number l t = change_typed a (opening kind number l) (λ h o. more_typed number l (block_opens kind h) t o)

dividing_typed : (a : Above) (kind : BlockKind) (number : ℕ) (l : Line) → LineIsTyped l → AboveIsTyped a → AboveIsTyped (with_open a (dividing kind number l))
dividing_typed a kind number l t =
    change_typed a (dividing kind number l) (λ h o. more_typed number l (block_opens kind (block_ends (length h.lines + 1) h)) t (target_typed h.lines h.blocks (length h.lines + 1) o))

closing_typed : (a : Above) (further number : ℕ) (l : Line) → LineIsTyped l → AboveIsTyped a → AboveIsTyped (with_open a (closing further number l))
closing_typed a further number l t =
    change_typed a (closing further number l) (λ h o. more_typed number l (block_ends (length h.lines + further) h) t (target_typed h.lines h.blocks (length h.lines + further) o))

-- ---- locals, and whole handlers

local_by : (a : Above) (w : Word) (there : Bool) → AboveIsTyped a → AboveIsTyped (if there then a else record a { locals = a.locals ++ w ∷ [] })
local_by a w true t = t
local_by a w false t = record { first = t.first; whole = t.whole; opened = t.opened }

local_typed : (a : Above) (w : Word) → AboveIsTyped a → AboveIsTyped (with_local a w)
local_typed a w t = local_by a w (is_local a w) t

handler_typed : (a : Above) (o : Option OpenHandler) → IfSome o OpenIsTyped → AboveIsTyped a → AboveIsTyped (with_handler a o)
handler_typed a None opened t = t
handler_typed a (Some h) opened t = record { first = t.first; whole = All-push HandlerIsTyped a.handlers _ t.whole (record { lines = opened }); opened = tt }

closed_typed : (a : Above) → AboveIsTyped a → AboveIsTyped (closed a)
closed_typed a t = handler_typed a a.open_handler t.opened t

-- ---- each form

form_typed : (a : Above) (number : ℕ) (f : Form) (ws : List Word) → AboveIsTyped a → AboveIsTyped (after_form a number f ws)
form_typed a number form.Lanes (w ∷ ws) t = t
form_typed a number form.Lock (w ∷ ws) t = t
form_typed a number form.RwLock (w ∷ ws) t = t
form_typed a number form.Sem (w ∷ e ∷ v ∷ ws) t = t
form_typed a number form.Cond (w ∷ o ∷ l ∷ ws) t = t
form_typed a number form.Var (w ∷ o ∷ l ∷ e ∷ v ∷ ws) t = record { first = All-push VariableIsTyped a.variables _ t.first (record { first = number_fits v }); whole = t.whole; opened = t.opened }
form_typed a number form.Handler (w ∷ ws) t = record { first = t.first; whole = t.whole; opened = All-nil LineIsTyped }
form_typed a number form.Try (w ∷ ws) t = opening_typed a block.Got number _ (record { numbers = tt }) t
form_typed a number form.Busy [] t = dividing_typed a block.Missed number _ (record { numbers = tt }) t
form_typed a number form.EndTry [] t = closing_typed a 0 number _ (record { numbers = tt }) t
form_typed a number form.Wait (w ∷ e ∷ ws) t = line_typed a number _ (record { numbers = expr_typed a ws }) t
form_typed a number form.Set (w ∷ e ∷ ws) t = line_typed a number _ (record { numbers = expr_typed a ws }) t
form_typed a number form.Let (w ∷ e ∷ ws) t = line_typed (with_local a w) number _ (record { numbers = expr_typed a ws }) (local_typed a w t)
form_typed a number form.Clock (w ∷ ws) t = line_typed (with_local a w) number _ (record { numbers = tt }) (local_typed a w t)
form_typed a number form.Random (w ∷ ws) t = line_typed (with_local a w) number _ (record { numbers = tt }) (local_typed a w t)
form_typed a number form.If ws t = opening_typed a block.Then number _ (record { numbers = expr_typed a ws }) t
form_typed a number form.Else [] t = dividing_typed a block.Otherwise number _ (record { numbers = tt }) t
form_typed a number form.EndIf [] t = closing_typed a 0 number _ (record { numbers = tt }) t
form_typed a number form.Repeat (w ∷ ws) t = opening_typed a block.Loop number _ (record { numbers = tt }) t
form_typed a number form.EndRepeat [] t = closing_typed a 1 number _ (record { numbers = tt }) t
form_typed a number form.Reply ws t = closed_typed (with_line a number (line.Reply (expr_of a ws))) (line_typed a number (line.Reply (expr_of a ws)) (record { numbers = expr_typed a ws }) t)
form_typed a number f (w ∷ ws) t = first_of (assumption t, search (plain_typed, t))
form_typed a number f ws t = t

-- ---- whole texts

found_typed : (a : Above) (number : ℕ) (o : Option Form) (ws : List Word) → AboveIsTyped a → AboveIsTyped (after_found a number o ws)
found_typed a number None ws t = t
found_typed a number (Some f) ws t = form_typed a number f ws t

words_typed : (a : Above) (number : ℕ) (ws : List Word) → AboveIsTyped a → AboveIsTyped (after a number ws)
words_typed a number [] t = t
words_typed a number (w ∷ ws) t = found_typed a number (form_of w) ws t

raw_by : (a : Above) (number : ℕ) (ws : List Word) (skipped : Bool) → AboveIsTyped a → AboveIsTyped (if skipped then a else after a number ws)
raw_by a number ws true t = t
raw_by a number ws false t = words_typed a number ws t

-- what a line as it stands declares
pub raw_typed : (a : Above) (number : ℕ) (bytes : List ℕ) → AboveIsTyped a → AboveIsTyped (raw_after a number bytes)
raw_typed a number bytes t = raw_by a number (words_of bytes) (is_skipped (words_of bytes)) t

-- before the first line
pub nothing_typed : AboveIsTyped nothing
nothing_typed = record { first = All-nil VariableIsTyped; whole = All-nil HandlerIsTyped; opened = tt }

good_next : (o : Option ServiceCode) (number : ℕ) (next : Result Above (ℕ × ServiceCode)) (b : Above) → or_next o number next ≡ Ok b → next ≡ Ok b
good_next (Some c) number next b e = absurd cc
good_next None number next b e = e

answer_typed : (a b : Above) (next : ℕ) (lines : List (ℕ × List ℕ)) → AboveIsTyped a → answer_from a next lines ≡ Ok b → AboveIsTyped b
unfolding answer_from
answer_typed a b next [] t e =
    let ok : (let r : Result Above (ℕ × ServiceCode) = Ok a in r) ≡ Ok b = good_next (end_code a) next (Ok a) b e in
    let same : a ≡ b = cc in
    subst AboveIsTyped same t
answer_typed a b next (l ∷ rest) t e =
    answer_typed (raw_after a l.0 l.1) b (l.0 + 1) rest (raw_typed a l.0 l.1 t) (good_next (raw_code a l.1) l.0 (answer_from (raw_after a l.0 l.1) (l.0 + 1) rest) b e)

-- the service that was declared
pub service_typed : (a : Above) → AboveIsTyped a → ServiceIsTyped (service_of a)
service_typed a t = record { variables = t.first; handlers = t.whole }

pub services_typed : ServicesAreTyped
services_typed bytes a e = service_typed a (answer_typed nothing a 1 (numbered 1 (lines_of bytes)) nothing_typed e)
