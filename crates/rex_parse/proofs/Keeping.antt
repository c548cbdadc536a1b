-- Good lines keep what they keep, and a text that ends well declares a service.
use Rattle.std.proofs.Common.{◌≡◌, ℕ, ◌<◌, ◌≤◌, Bool, true, false, cond, not, ◌||◌, eqb, leb, List, [], ◌∷◌, length, Option, Some, None, Result, Ok, Err, OnOk, refl, ap, ◌∙◌, arith}
use Rattle.std.specs.Prelude.{is_some, option_and_then, unwrap_or, IfSome, MatchOption, count_by}
use Rattle.std.specs.List.{list_all}
use Rattle.std.proofs.lemmas.Bool.{eqb-false, leb-true, leb-false, not-false, and_parts}
use Rattle.rex_text.specs.Numbers.{u64_at}
use Rattle.rex_text.specs.Text.{Word, words_of, is_skipped, is_allowed}
use Rattle.rex_syntax.specs.declared.line.Line.TheVariants as line
use Rattle.rex_syntax.specs.declared.service.LockKind.TheVariants.{Plain, ReadersWriter}
use Rattle.rex_event.specs.Limits.{most_lanes}
use Rattle.rex_syntax.specs.Limits.{most_first}
use Rattle.rex_syntax.specs.Service.{IsService}
use Rattle.rex_parse.specs.Words.{least, fits}
use Rattle.rex_parse.specs.Above.{nothing, meaning_of, is_open, local_place, blocks_in, blocks_of}
use Rattle.rex_parse.specs.Table.{form_of, found_code, line_code, full_code, lines_of_open, locals_code, whole_expr_code, is_loop, loops_code, inside_code, in_range, count_of, count_code}
use Rattle.rex_parse.specs.After.{service_of, lock_number, first_of, condition_number, variable_number, with_open, opening, with_line, with_local, expr_of, after_form, after_found, after}
use Rattle.rex_parse.specs.Reading.{raw_code, raw_after, end_code}
use Rattle.rex_parse.specs.Good.{IsOpen, IsGood}
use Rattle.rex_parse.specs.Answers.{Takes}
use Rattle.rex_parse.specs.declared.language.Fault.{Fault}
use Rattle.rex_parse.specs.declared.blocks.BlockKind.TheVariants as block
use Rattle.rex_parse.specs.declared.language.OpenHandler.{OpenHandler}
use Rattle.rex_parse.specs.declared.language.Above.{Above}
use Rattle.rex_parse.specs.declared.language.Form.{Form}
use Rattle.rex_parse.specs.declared.language.Form.TheVariants as form
use Rattle.rex_parse.specs.declared.language.ServiceCode.{ServiceCode}
use Rattle.rex_parse.specs.declared.language.ServiceCode.TheVariants.{BadByte, TooMany, Unended}
use Rattle.rex_parse.proofs.Fine.{IsFine, fine_line, fits_not, least_both}
use Rattle.rex_parse.proofs.Extends.{expr_more}
use Rattle.rex_parse.proofs.Named.{lock_there, lock_of_there, semaphore_there, condition_there, variable_there, made_there, whole_expr_fits}
use Rattle.rex_parse.proofs.Keeps.{began, closed_by, good_lanes, good_lock, good_sem, good_cond, good_var, good_heading}
use Rattle.rex_parse.proofs.KeepsLines.{LeavesRest, good_line, good_local, good_opening, good_dividing, good_closing, good_loop_end, good_reply}
use Rattle.rex_parse.proofs.LineRoles.{if_opens, try_opens, repeat_opens, else_suits, busy_suits, endif_suits, endtry_suits}
use Rattle.rex_parse.proofs.Nesting.{loops_counted}

unshaped : (b : Bool) → (b || true) ≡ false → ⊥
unshaped true e = absurd cc
unshaped false e = absurd cc

-- what the making of a local leaves of what a line needs
record IsMade (a b : Above) : Type 0 where
  rest : LeavesRest a b
  full : full_code b ≡ None
  begun : is_some b.lanes ≡ true

made : (a : Above) (w : Word) → least (locals_code a (w ∷ [])) (full_code a) ≡ None → is_some a.lanes ≡ true → IsGood a → IsMade a (with_local a w)
made a w limits begun good =
    let both = least_both (locals_code a (w ∷ [])) (full_code a) limits in
    let k : LeavesRest a (with_local a w) = good_local a w both.0 begun good in
    record { rest = k; full = ap (λ o. fits (leb 256 (lines_of_open o)) TooMany) k.open_handler ∙ both.1; begun = ap is_some k.lanes ∙ begun }

good_let : (a : Above) (number : ℕ) (w e v : Word) (ws : List Word) → IsFine a form.Let (w ∷ e ∷ v ∷ ws) → IsGood a
    → IsGood (with_line (with_local a w) number (line.Let (local_place (with_local a w) w) (expr_of a (v ∷ ws))))
good_let a number w e v ws fine good =
    let b : Above = with_local a w in
    let m : IsMade a b = made a w fine.limits (began a form.Let refl fine.order) good in
    let less : length a.variables ≤ length b.variables = omega (arith, ap length m.rest.variables) in
    let whole : whole_expr_code a (v ∷ ws) ≡ None = (least_both _ _ (least_both _ _ fine.places).1).0 in
    good_line b number (line.Let (local_place b w) (expr_of a (v ∷ ws))) refl
    (made_there a w, expr_more (length a.locals) (length b.locals) (length a.variables) (length b.variables) m.rest.more less (expr_of a (v ∷ ws)) (whole_expr_fits a (v ∷ ws) good whole))
    m.full m.begun m.rest.good

good_clock : (a : Above) (number : ℕ) (w : Word) (ws : List Word) → IsFine a form.Clock (w ∷ ws) → IsGood a → IsGood (with_line (with_local a w) number (line.Clock (local_place (with_local a w) w)))
good_clock a number w ws fine good =
    let m : IsMade a (with_local a w) = made a w fine.limits (began a form.Clock refl fine.order) good in
    good_line (with_local a w) number (line.Clock (local_place (with_local a w) w)) refl (made_there a w) m.full m.begun m.rest.good

good_random : (a : Above) (number : ℕ) (w : Word) (ws : List Word) → IsFine a form.Random (w ∷ ws) → IsGood a → IsGood (with_line (with_local a w) number (line.Random (local_place (with_local a w) w)))
good_random a number w ws fine good =
    let m : IsMade a (with_local a w) = made a w fine.limits (began a form.Random refl fine.order) good in
    good_line (with_local a w) number (line.Random (local_place (with_local a w) w)) refl (made_there a w) m.full m.begun m.rest.good

-- ---- blocks

few_loops : (a : Above) → loops_code a ≡ None → count_by is_loop (blocks_of a) < 4
few_loops a e = leb-false 4 (count_by is_loop (blocks_of a)) (fits_not _ _ e)

few_always : (a : Above) → IsGood a → count_by is_loop (blocks_of a) ≤ 4
few_always a good = few_by a.open_handler good.opened where
  few_by : (o : Option OpenHandler) → IfSome o (IsOpen (service_of a) (length a.locals)) → count_by is_loop (blocks_in o) ≤ 4
  few_by None h = omega arith
  few_by (Some open_handler) h = omega (arith, h.growing.few, loops_counted open_handler.blocks)

turns_by : (n : ℕ) (b : Bool) → in_range 1 1000 n ≡ b → is_some (cond b (Some n) None) ≡ true → (0 < unwrap_or (cond b (Some n) None) 0) × (unwrap_or (cond b (Some n) None) 0 ≤ 1000)
turns_by n true is e = let both = and_parts (leb 1 n) (leb n 1000) is in (omega (arith, leb-true 1 n both.0), leb-true n 1000 both.1)
turns_by n false is e = absurd cc

turns_fit : (o : Option ℕ) → is_some (option_and_then (λ n. cond (in_range 1 1000 n) (Some n) None) o) ≡ true
    → (0 < unwrap_or (option_and_then (λ n. cond (in_range 1 1000 n) (Some n) None) o) 0) × (unwrap_or (option_and_then (λ n. cond (in_range 1 1000 n) (Some n) None) o) 0 ≤ 1000)
turns_fit None e = absurd cc
turns_fit (Some n) e = turns_by n (in_range 1 1000 n) refl e

turns_there : (w : Word) → count_code 1 1000 w ≡ None → (0 < unwrap_or (count_of 1 1000 w) 0) × (unwrap_or (count_of 1 1000 w) 0 ≤ 1000)
turns_there w e = turns_fit (u64_at w) (not-false (is_some (count_of 1 1000 w)) (fits_not _ _ e))

good_repeat : (a : Above) (number : ℕ) (w : Word) (ws : List Word) → IsFine a form.Repeat (w ∷ ws) → IsGood a → IsGood (with_open a (opening block.Loop number (line.Repeat (unwrap_or (count_of 1 1000 w) 0) 0)))
good_repeat a number w ws fine good =
    let limits = least_both (loops_code a) (full_code a) fine.limits in
    let turns : (0 < unwrap_or (count_of 1 1000 w) 0) × (unwrap_or (count_of 1 1000 w) 0 ≤ 1000) = turns_there w (least_both _ _ fine.places).0 in
    good_opening a block.Loop number (line.Repeat (unwrap_or (count_of 1 1000 w) 0) 0) (repeat_opens (unwrap_or (count_of 1 1000 w) 0) turns.0) (omega (arith, few_loops a limits.0)) turns limits.1
    (began a form.Repeat refl fine.order) good

-- ---- first values

first_by : (n : ℕ) (b : Bool) → in_range 0 most_first n ≡ b → unwrap_or (cond b (Some n) None) 0 ≤ most_first
first_by n true is = leb-true n most_first (and_parts (leb 0 n) (leb n most_first) is).1
first_by n false is = omega arith

first_found : (o : Option ℕ) → unwrap_or (option_and_then (λ n. cond (in_range 0 most_first n) (Some n) None) o) 0 ≤ most_first
first_found None = omega arith
first_found (Some n) = first_by n (in_range 0 most_first n) refl

-- a first value is within its range
first_fits : (w : Word) → first_of w ≤ most_first
first_fits w = first_found (u64_at w)

-- ---- each form

first_none : (c d : Option ServiceCode) → least c d ≡ None → c ≡ None
first_none c d e = (least_both c d e).0

good_form : (a : Above) (number : ℕ) (f : Form) (ws : List Word) → IsFine a f ws → IsGood a → IsGood (after_form a number f ws)
good_form a number form.Lanes (w ∷ ws) fine good = good_lanes a w ws fine good
good_form a number form.Lock (w ∷ ws) fine good = good_lock a Plain w (closed_by _ fine.placed) fine.limits (began a form.Lock refl fine.order) good
good_form a number form.RwLock (w ∷ ws) fine good = good_lock a ReadersWriter w (closed_by _ fine.placed) fine.limits (began a form.RwLock refl fine.order) good
good_form a number form.Sem (w ∷ []) fine good = good
good_form a number form.Sem (w ∷ e ∷ []) fine good = good
good_form a number form.Sem (w ∷ e ∷ v ∷ ws) fine good = good_sem a w (first_of v) (w ∷ e ∷ v ∷ ws) fine (first_fits v) good
good_form a number form.Cond (w ∷ []) fine good = good
good_form a number form.Cond (w ∷ o ∷ []) fine good = good
good_form a number form.Cond (w ∷ o ∷ l ∷ ws) fine good =
    good_cond a w _ (w ∷ o ∷ l ∷ ws) fine (lock_of_there a Plain l (least_both _ _ (least_both _ _ fine.places).1).0) good
good_form a number form.Var (w ∷ []) fine good = good
good_form a number form.Var (w ∷ o ∷ []) fine good = good
good_form a number form.Var (w ∷ o ∷ l ∷ []) fine good = good
good_form a number form.Var (w ∷ o ∷ l ∷ e ∷ []) fine good = good
good_form a number form.Var (w ∷ o ∷ l ∷ e ∷ v ∷ ws) fine good =
    good_var a w _ _ (w ∷ o ∷ l ∷ e ∷ v ∷ ws) fine (lock_there a l good (least_both _ _ (least_both _ _ fine.places).1).0) good
good_form a number form.Handler (w ∷ ws) fine good = good_heading a number w ws fine good
good_form a number form.Try (w ∷ ws) fine good =
    good_opening a block.Got number (line.Try (lock_number (meaning_of a w)) 0) (try_opens (lock_number (meaning_of a w))) (omega (arith, few_always a good)) (lock_of_there a Plain w (least_both _ _ fine.places).0) fine.limits
    (began a form.Try refl fine.order) good
good_form a number form.Busy [] fine good = good_dividing a form.Busy block.Missed number (line.Busy 0) busy_suits refl fine.suited tt fine.limits (began a form.Busy refl fine.order) good
good_form a number form.Busy (w ∷ ws) fine good = good
good_form a number form.EndTry [] fine good = good_closing a form.EndTry number line.EndTry endtry_suits refl fine.suited tt fine.limits (began a form.EndTry refl fine.order) good
good_form a number form.EndTry (w ∷ ws) fine good = good
good_form a number form.Wait (w ∷ []) fine good = good
good_form a number form.Wait (w ∷ e ∷ []) fine good = absurd (unshaped _ fine.shaped)
good_form a number form.Wait (w ∷ e ∷ v ∷ ws) fine good =
    let places = least_both _ _ fine.places in
    good_line a number (line.Wait (condition_number (meaning_of a w)) (expr_of a (v ∷ ws))) refl
    (condition_there a w good places.0, whole_expr_fits a (v ∷ ws) good (least_both _ _ places.1).0) fine.limits (began a form.Wait refl fine.order) good
good_form a number form.Set (w ∷ []) fine good = good
good_form a number form.Set (w ∷ e ∷ []) fine good = absurd (unshaped _ fine.shaped)
good_form a number form.Set (w ∷ e ∷ v ∷ ws) fine good =
    let places = least_both _ _ fine.places in
    good_line a number (line.Set (variable_number (meaning_of a w)) (expr_of a (v ∷ ws))) refl
    (variable_there a w good places.0, whole_expr_fits a (v ∷ ws) good (least_both _ _ places.1).0) fine.limits (began a form.Set refl fine.order) good
good_form a number form.Let (w ∷ []) fine good = good
good_form a number form.Let (w ∷ e ∷ []) fine good = absurd (unshaped _ fine.shaped)
good_form a number form.Let (w ∷ e ∷ v ∷ ws) fine good = good_let a number w e v ws fine good
good_form a number form.Clock (w ∷ ws) fine good = good_clock a number w ws fine good
good_form a number form.Random (w ∷ ws) fine good = good_random a number w ws fine good
good_form a number form.If [] fine good = let h : true ≡ false = fine.shaped in absurd cc
good_form a number form.If (w ∷ ws) fine good =
    good_opening a block.Then number (line.If (expr_of a (w ∷ ws)) 0) (if_opens (expr_of a (w ∷ ws))) (omega (arith, few_always a good)) (whole_expr_fits a (w ∷ ws) good (least_both _ _ fine.places).0) fine.limits
    (began a form.If refl fine.order) good
good_form a number form.Else [] fine good = good_dividing a form.Else block.Otherwise number (line.Else 0) else_suits refl fine.suited tt fine.limits (began a form.Else refl fine.order) good
good_form a number form.Else (w ∷ ws) fine good = good
good_form a number form.EndIf [] fine good = good_closing a form.EndIf number line.EndIf endif_suits refl fine.suited tt fine.limits (began a form.EndIf refl fine.order) good
good_form a number form.EndIf (w ∷ ws) fine good = good
good_form a number form.Repeat (w ∷ ws) fine good = good_repeat a number w ws fine good
good_form a number form.EndRepeat [] fine good = good_loop_end a number fine.suited fine.limits (began a form.EndRepeat refl fine.order) good
good_form a number form.EndRepeat (w ∷ ws) fine good = good
good_form a number form.Reply [] fine good = let h : true ≡ false = fine.shaped in absurd cc
good_form a number form.Reply (w ∷ ws) fine good =
    let limits = least_both (full_code a) (inside_code a) fine.limits in
    good_reply a number (expr_of a (w ∷ ws)) fine.placed limits.1 limits.0 (whole_expr_fits a (w ∷ ws) good (least_both _ _ fine.places).0) (began a form.Reply refl fine.order) good
good_form a number f [] fine good = good
good_form a number f (w ∷ ws) fine good =
    good_line a number _ refl (search (lock_there, semaphore_there, condition_there, lock_of_there, first_none, good, fine.places)) fine.limits (began a f refl fine.order) good

good_found : (a : Above) (number : ℕ) (o : Option Form) (ws : List Word) → found_code a o ws ≡ None → IsGood a → IsGood (after_found a number o ws)
good_found a number None ws e good = good
good_found a number (Some f) ws e good = good_form a number f ws (fine_line a f ws e) good

good_words : (a : Above) (number : ℕ) (ws : List Word) → line_code a ws ≡ None → IsGood a → IsGood (after a number ws)
good_words a number [] e good = good
good_words a number (w ∷ ws) e good = good_found a number (form_of w) ws e good

raw_by : (a b : Above) (allowed skipped : Bool) (code : Option ServiceCode) → (code ≡ None → IsGood b) → IsGood a → cond (not allowed) (Some BadByte) (cond skipped None code) ≡ None → IsGood (cond skipped a b)
raw_by a b false skipped code taken good e = absurd cc
raw_by a b true true code taken good e = good
raw_by a b true false code taken good e = taken e

-- a good line keeps what good lines keep
pub good_raw : (a : Above) (number : ℕ) (line : List ℕ) → raw_code a line ≡ None → IsGood a → IsGood (raw_after a number line)
good_raw a number line e good =
    raw_by a (after a number (words_of line)) (list_all is_allowed line) (is_skipped (words_of line)) (line_code a (words_of line)) (λ q. good_words a number (words_of line) q good) good e

pub taken_good : (old inside new : Above) (number : ℕ) (line : List ℕ) (r : Result (Unit {0}) Fault) → inside ≡ old → Takes r (raw_code inside line) (raw_after inside number line) new → IsGood old → OnOk r (IsGood new)
taken_good old inside new number line (Ok x) same takes good = rw takes.1 (good_raw inside number line takes.0 (rw same good))
taken_good old inside new number line (Err e) same takes good = tt

-- ---- the end

lanes_by : (o : Option ℕ) (P : Type 0) → MatchOption o P (λ n. (0 < n) × (n ≤ most_lanes)) → unwrap_or o 0 ≤ most_lanes
lanes_by None P h = omega arith
lanes_by (Some n) P h = h.1

pub few_lanes : (a : Above) → IsGood a → unwrap_or a.lanes 0 ≤ most_lanes
few_lanes a good = lanes_by a.lanes (a ≡ nothing) good.begun

some_by : (o : Option ℕ) (P : Type 0) → (P → ⊥) → MatchOption o P (λ n. (0 < n) × (n ≤ most_lanes)) → 0 < unwrap_or o 0
some_by None P stop h = absurd (stop h)
some_by (Some n) P stop h = h.0

end_by : (open_handler none : Bool) → cond (open_handler || none) (Some Unended) None ≡ None → none ≡ false
end_by true none e = absurd cc
end_by false true e = absurd cc
end_by false false e = refl

pos_from : (n : ℕ) → eqb n 0 ≡ false → 0 < n
pos_from n e = let ne : n ≡ 0 → ⊥ = eqb-false n 0 e in omega arith

pub ends_in_service : (a : Above) → IsGood a → end_code a ≡ None → IsService (service_of a)
ends_in_service a good e =
    let some : 0 < length a.handlers = pos_from (length a.handlers) (end_by (is_open a) (eqb (length a.handlers) 0) e) in
    record {
      some_lanes = some_by a.lanes (a ≡ nothing) (λ (q : a ≡ nothing). let none : length a.handlers ≡ 0 = ap (λ (b : Above). length b.handlers) q in omega arith) good.begun;
      lanes = few_lanes a good;
      locks = good.locks;
      few_semaphores = good.few_semaphores;
      few_conditions = good.few_conditions;
      few_variables = good.few_variables;
      few_handlers = good.few_handlers;
      some_handlers = some;
      semaphores = good.semaphores;
      conditions = good.conditions;
      variables = good.variables;
      handlers = good.handlers;
    }
