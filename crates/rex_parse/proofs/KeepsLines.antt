-- Each good line of a handler keeps what good lines keep.
use Rattle.std.proofs.Common.{◌≡◌, ℕ, ◌+◌, ◌<◌, ◌≤◌, Bool, true, false, cond, not, ◌&&◌, leb, [], ◌∷◌, ◌++◌, length, Option, Some, None, refl, ap, subst, arith, length-append}
use Rattle.std.specs.Prelude.{option_map, is_some, IfSome, List, count_by}
use Rattle.std.specs.List.{All}
use Rattle.std.proofs.lemmas.Bool.{leb-false}
use Rattle.std.proofs.lemmas.List.Elements.{All-push, All-weaker}
use Rattle.rex_text.specs.Text.{Word}
use Rattle.rex_syntax.specs.declared.expr.Expr.{Expr}
use Rattle.rex_syntax.specs.declared.line.Line.{Line}
use Rattle.rex_syntax.specs.declared.line.Line.TheVariants as line
use Rattle.rex_syntax.specs.declared.service.LockKind.TheVariants.{Plain}
use Rattle.rex_syntax.specs.declared.service.Condition.{Condition}
use Rattle.rex_syntax.specs.declared.service.Handler.{Handler}
use Rattle.rex_syntax.specs.declared.service.Declarations.{Declarations}
use Rattle.rex_syntax.specs.Expr.{ExprFits}
use Rattle.rex_syntax.specs.Service.{IsLock, LineNames, IsHandler}
use Rattle.rex_parse.specs.Above.{nothing, is_open, is_local, blocks_in, blocks_of, first_kind, innermost}
use Rattle.rex_parse.specs.Table.{same, suits, is_loop, inside_code, full_code, lines_of_open, locals_code}
use Rattle.rex_parse.specs.After.{service_of, with_open, with_line, with_local, with_block_target, more_lines, opening, dividing, closing, closed, ended}
use Rattle.rex_parse.specs.Growing.{loop_of, loops_of, IsGrowing}
use Rattle.rex_parse.specs.Good.{MeaningFits, IsOpen, IsGood}
use Rattle.rex_parse.specs.declared.blocks.BlockKind.{BlockKind}
use Rattle.rex_parse.specs.declared.blocks.OpenBlock.{OpenBlock}
use Rattle.rex_parse.specs.declared.language.Form.{Form}
use Rattle.rex_parse.specs.declared.language.Form.TheVariants as form
use Rattle.rex_parse.specs.declared.language.Above.{Above}
use Rattle.rex_parse.specs.declared.language.OpenHandler.{OpenHandler}
use Rattle.rex_parse.specs.declared.language.Entry.{Entry}
use Rattle.rex_parse.proofs.Fine.{fits_not}
use Rattle.rex_parse.proofs.Extends.{Extends, IsLock-more, lines_more, handler_more}
use Rattle.rex_parse.proofs.LineRoles.{is_plain, straight, Opens, Divides, Closes}
use Rattle.rex_parse.proofs.Nesting.{plain_grows, opening_grows, divided_grows, closed_grows, loop_closed_grows, target_length, target_names, loops_counted, loop_length}
use Rattle.rex_parse.proofs.Whole.{matched, shaped, branches}
use Rattle.rex_parse.proofs.Keeps.{still, names_more}

-- ---- a changed open handler

opened_change : (s : Declarations) (locals : ℕ) (change : OpenHandler → OpenHandler) (o : Option OpenHandler) → ((h : OpenHandler) → o ≡ Some h → IsOpen s locals h → IsOpen s locals (change h)) → IfSome o (IsOpen s locals)
    → IfSome (option_map change o) (IsOpen s locals)
opened_change s locals change None keep h = tt
opened_change s locals change (Some open_handler) keep h = keep open_handler refl h

good_change : (a : Above) (change : OpenHandler → OpenHandler) → ((h : OpenHandler) → a.open_handler ≡ Some h → IsOpen (service_of a) (length a.locals) h → IsOpen (service_of a) (length a.locals) (change h)) → is_some a.lanes ≡ true → IsGood a
    → IsGood (with_open a change)
good_change a change keep begun good =
    let b : Above = with_open a change in
    record {
      begun = still a.lanes (a ≡ nothing) (b ≡ nothing) _ begun good.begun;
      locks = good.locks;
      few_semaphores = good.few_semaphores;
      few_conditions = good.few_conditions;
      few_variables = good.few_variables;
      few_handlers = good.few_handlers;
      locals = good.locals;
      names = All-weaker (λ (e : Entry). MeaningFits a e.meaning) (λ (e : Entry). MeaningFits b e.meaning) (λ e q. names_more a b (omega arith) (omega arith) (omega arith) (omega arith) (omega arith) e.meaning q) a.names good.names;
      semaphores = good.semaphores;
      conditions = good.conditions;
      variables = good.variables;
      handlers = good.handlers;
      opened = opened_change (service_of a) (length a.locals) change a.open_handler keep good.opened;
    }

pub room_for_line : (a : Above) → full_code a ≡ None → lines_of_open a.open_handler < 256
room_for_line a e = leb-false 256 (lines_of_open a.open_handler) (fits_not _ _ e)

room_in : (a : Above) (h : OpenHandler) → full_code a ≡ None → a.open_handler ≡ Some h → length h.lines < 256
room_in a h full is = omega (arith, room_for_line a full, ap lines_of_open is)

suited_in : (a : Above) (f : Form) (h : OpenHandler) → suits f (innermost a) ≡ true → a.open_handler ≡ Some h → suits f (first_kind h.blocks) ≡ true
suited_in a f h suited is = subst (λ (o : Option OpenHandler). suits f (first_kind (blocks_in o)) ≡ true) is suited

-- ---- one more line

opens_more : (s : Declarations) (locals number : ℕ) (l : Line) (h : OpenHandler) (lines : List Line) (blocks : List OpenBlock) → length lines ≡ length h.lines → length h.lines < 256 → IsGrowing (lines ++ l ∷ []) blocks
    → All (LineNames s locals) lines → LineNames s locals l → IsOpen s locals h → IsOpen s locals (more_lines number l (record h { lines = lines; blocks = blocks }))
opens_more s locals number l h lines blocks long few growing names named open_handler = record {
  room = open_handler.room;
  parameters = open_handler.parameters;
  fewer = open_handler.fewer;
  short = omega (arith, few, long, length-append lines (l ∷ []));
  numbered = omega (arith, open_handler.numbered, long, length-append lines (l ∷ []), length-append h.line_numbers (number ∷ []));
  growing = growing;
  names = All-push (LineNames s locals) lines l names named;
}

pub good_line : (a : Above) (number : ℕ) (l : Line) → is_plain l ≡ true → LineNames (service_of a) (length a.locals) l → full_code a ≡ None → is_some a.lanes ≡ true → IsGood a → IsGood (with_line a number l)
good_line a number l plain names full begun good =
    good_change a (more_lines number l)
    (λ h is q. opens_more (service_of a) (length a.locals) number l h h.lines h.blocks refl (room_in a h full is) (plain_grows h.lines h.blocks l (straight l plain) q.growing) q.names names q) begun good

-- ---- a line that opens, divides or closes a block

pub good_opening : (a : Above) (kind : BlockKind) (number : ℕ) (l : Line) → Opens kind l → count_by is_loop (blocks_of a) + length (loop_of kind 0) ≤ 4 → LineNames (service_of a) (length a.locals) l → full_code a ≡ None → is_some a.lanes ≡ true → IsGood a
    → IsGood (with_open a (opening kind number l))
good_opening a kind number l o room names full begun good =
    good_change a (opening kind number l)
    (λ h is q. opens_more (service_of a) (length a.locals) number l h h.lines ((record { kind = kind; line = length h.lines }) ∷ h.blocks) refl (room_in a h full is)
    (opening_grows h.lines h.blocks kind l o (room_at h is q) q.growing) q.names names q) begun good where
      room_at : (h : OpenHandler) → a.open_handler ≡ Some h → IsOpen (service_of a) (length a.locals) h → length (loops_of h.blocks) + length (loop_of kind (length h.lines)) ≤ 4
      room_at h is q = omega (arith, loops_counted h.blocks, loop_length kind 0 (length h.lines), ap (λ (p : Option OpenHandler). count_by is_loop (blocks_in p)) is)

pub good_dividing : (a : Above) (f : Form) (kind : BlockKind) (number : ℕ) (l : Line) → ((k : BlockKind) → suits f (Some k) ≡ true → Divides k kind l) → suits f None ≡ false → suits f (innermost a) ≡ true
    → LineNames (service_of a) (length a.locals) l → full_code a ≡ None → is_some a.lanes ≡ true → IsGood a → IsGood (with_open a (dividing kind number l))
good_dividing a f kind number l divides outside suited names full begun good =
    good_change a (dividing kind number l)
    (λ h is q. opens_more (service_of a) (length a.locals) number l h (with_block_target h.lines h.blocks (length h.lines + 1)) _ (target_length h.lines h.blocks (length h.lines + 1)) (room_in a h full is)
    (divided_grows f kind l divides outside h.lines h.blocks (suited_in a f h suited is) q.growing) (target_names (service_of a) (length a.locals) h.lines h.blocks (length h.lines + 1) q.growing q.names) names q) begun good

pub good_closing : (a : Above) (f : Form) (number : ℕ) (l : Line) → ((k : BlockKind) → suits f (Some k) ≡ true → Closes k l) → suits f None ≡ false → suits f (innermost a) ≡ true
    → LineNames (service_of a) (length a.locals) l → full_code a ≡ None → is_some a.lanes ≡ true → IsGood a → IsGood (with_open a (closing 0 number l))
good_closing a f number l closes outside suited names full begun good =
    good_change a (closing 0 number l)
    (λ h is q. opens_more (service_of a) (length a.locals) number l h (with_block_target h.lines h.blocks (length h.lines + 0)) _ (target_length h.lines h.blocks (length h.lines + 0)) (room_in a h full is)
    (closed_grows f l closes outside h.lines h.blocks (suited_in a f h suited is) q.growing) (target_names (service_of a) (length a.locals) h.lines h.blocks (length h.lines + 0) q.growing q.names) names q) begun good

pub good_loop_end : (a : Above) (number : ℕ) → suits form.EndRepeat (innermost a) ≡ true → full_code a ≡ None → is_some a.lanes ≡ true → IsGood a → IsGood (with_open a (closing 1 number line.EndRepeat))
good_loop_end a number suited full begun good =
    good_change a (closing 1 number line.EndRepeat)
    (λ h is q. opens_more (service_of a) (length a.locals) number line.EndRepeat h (with_block_target h.lines h.blocks (length h.lines + 1)) _ (target_length h.lines h.blocks (length h.lines + 1)) (room_in a h full is)
    (loop_closed_grows h.lines h.blocks (suited_in a form.EndRepeat h suited is) q.growing) (target_names (service_of a) (length a.locals) h.lines h.blocks (length h.lines + 1) q.growing q.names) tt q) begun good

-- ---- one more local

opened_local : (s : Declarations) (old new : ℕ) (o : Option OpenHandler) → Extends s s → old ≤ new → IfSome o (IsOpen s old) → IfSome o (IsOpen s new)
opened_local s old new None x more h = tt
opened_local s old new (Some open_handler) x more h = record {
  room = h.room;
  parameters = h.parameters;
  fewer = omega (arith, more, h.fewer);
  short = h.short;
  numbered = h.numbered;
  growing = h.growing;
  names = lines_more s s x old new more open_handler.lines h.names;
}

pub itself : (s : Declarations) → Extends s s
itself s = record { locks = λ n l e. e; more_locks = omega arith; more_semaphores = omega arith; more_conditions = omega arith; more_variables = omega arith }

with_more : (a : Above) (w : Word) → length a.locals < 16 → is_some a.lanes ≡ true → IsGood a → IsGood (record a { locals = a.locals ++ w ∷ [] })
with_more a w room begun good =
    let b : Above = record a { locals = a.locals ++ w ∷ [] } in
    let more : length b.locals ≡ length a.locals + 1 = length-append a.locals (w ∷ []) in
    record {
      begun = still a.lanes (a ≡ nothing) (b ≡ nothing) _ begun good.begun;
      locks = good.locks;
      few_semaphores = good.few_semaphores;
      few_conditions = good.few_conditions;
      few_variables = good.few_variables;
      few_handlers = good.few_handlers;
      locals = omega (arith, room, more);
      names = All-weaker (λ (e : Entry). MeaningFits a e.meaning) (λ (e : Entry). MeaningFits b e.meaning) (λ e q. names_more a b (omega arith) (omega arith) (omega arith) (omega arith) (omega arith) e.meaning q) a.names good.names;
      semaphores = good.semaphores;
      conditions = good.conditions;
      variables = good.variables;
      handlers = good.handlers;
      opened = opened_local (service_of a) (length a.locals) (length b.locals) a.open_handler (itself (service_of a)) (omega (arith, more)) good.opened;
    }

-- what the making of a local leaves
pub record LeavesRest (a b : Above) : Type 0 where
  pub good : IsGood b
  pub lanes : b.lanes ≡ a.lanes
  pub variables : b.variables ≡ a.variables
  pub open_handler : b.open_handler ≡ a.open_handler
  pub more : length a.locals ≤ length b.locals

local_by : (a : Above) (w : Word) (b : Bool) → (b ≡ false → length a.locals < 16) → is_some a.lanes ≡ true → IsGood a → LeavesRest a (cond b a (record a { locals = a.locals ++ w ∷ [] }))
local_by a w true room begun good = record { good = good; lanes = refl; variables = refl; open_handler = refl; more = omega arith }
local_by a w false room begun good = record { good = with_more a w (room refl) begun good; lanes = refl; variables = refl; open_handler = refl; more = omega (arith, length-append a.locals (w ∷ [])) }

room_by : (b : Bool) (n : ℕ) → (not b && leb 16 n) ≡ false → b ≡ false → n < 16
room_by true n e is = absurd cc
room_by false n e is = leb-false 16 n e

pub good_local : (a : Above) (w : Word) → locals_code a (w ∷ []) ≡ None → is_some a.lanes ≡ true → IsGood a → LeavesRest a (with_local a w)
good_local a w room begun good = local_by a w (is_local a w) (room_by (is_local a w) (length a.locals) (fits_not _ _ room)) begun good

-- ---- a whole handler

handler_is : (a : Above) (number : ℕ) (value : Expr) (h : OpenHandler) → h.blocks ≡ [] → length a.locals ≤ 16 → length h.lines < 256 → ExprFits (length a.locals) (length a.variables) value → IsOpen (service_of a) (length a.locals) h
    → IsHandler (service_of a) (ended a (more_lines number (line.Reply value) h))
handler_is a number value h none locals few names open_handler =
    let growing : IsGrowing h.lines [] = subst (λ (bs : List OpenBlock). IsGrowing h.lines bs) none open_handler.growing in
    record {
      parameters = open_handler.parameters;
      fewer = open_handler.fewer;
      locals = locals;
      some = omega (arith, length-append h.lines (line.Reply value ∷ []));
      short = omega (arith, few, length-append h.lines (line.Reply value ∷ []));
      numbered = omega (arith, open_handler.numbered, length-append h.lines (line.Reply value ∷ []), length-append h.line_numbers (number ∷ []));
      matched = matched h.lines value growing;
      shaped = shaped h.lines value growing;
      branches = branches h.lines value growing;
      names = All-push (LineNames (service_of a) (length a.locals)) h.lines (line.Reply value) open_handler.names names;
    }

handler_extends : (a : Above) (h : Handler) → Extends (service_of a) (service_of (record a { handlers = a.handlers ++ h ∷ []; locals = []; open_handler = None }))
handler_extends a h = record { locks = λ n l e. e; more_locks = omega arith; more_semaphores = omega arith; more_conditions = omega arith; more_variables = omega arith }

good_ended : (a : Above) (h : Handler) → IsHandler (service_of a) h → length a.handlers < 64 → is_some a.lanes ≡ true → IsGood a → IsGood (record a { handlers = a.handlers ++ h ∷ []; locals = []; open_handler = None })
good_ended a h is room begun good =
    let b : Above = record a { handlers = a.handlers ++ h ∷ []; locals = []; open_handler = None } in
    let x : Extends (service_of a) (service_of b) = handler_extends a h in
    let more : length b.handlers ≡ length a.handlers + 1 = length-append a.handlers (h ∷ []) in
    record {
      begun = still a.lanes (a ≡ nothing) (b ≡ nothing) _ begun good.begun;
      locks = good.locks;
      few_semaphores = good.few_semaphores;
      few_conditions = good.few_conditions;
      few_variables = good.few_variables;
      few_handlers = omega (arith, room, more);
      locals = omega arith;
      names = All-weaker (λ (e : Entry). MeaningFits a e.meaning) (λ (e : Entry). MeaningFits b e.meaning) (λ e q. names_more a b (omega arith) (omega arith) (omega arith) (omega arith) (omega (arith, more)) e.meaning q) a.names good.names;
      semaphores = good.semaphores;
      conditions = All-weaker (λ (c : Condition). IsLock (service_of a) Plain c.lock) (λ (c : Condition). IsLock (service_of b) Plain c.lock) (λ c q. IsLock-more _ _ x Plain c.lock q) a.conditions good.conditions;
      variables = good.variables;
      handlers = All-push (IsHandler (service_of b)) a.handlers h (All-weaker (IsHandler (service_of a)) (IsHandler (service_of b)) (λ g q. handler_more _ _ x g q) a.handlers good.handlers) (handler_more _ _ x h is);
      opened = tt;
    }

no_blocks : (blocks : List OpenBlock) → is_some (first_kind blocks) ≡ false → blocks ≡ []
no_blocks [] e = refl
no_blocks (b ∷ rest) e = absurd cc

reply_by : (a : Above) (number : ℕ) (value : Expr) (o : Option OpenHandler) → a.open_handler ≡ o → is_some o ≡ true → is_some (first_kind (blocks_in o)) ≡ false → lines_of_open o < 256 → ExprFits (length a.locals) (length a.variables) value
    → IfSome o (IsOpen (service_of a) (length a.locals)) → is_some a.lanes ≡ true → IsGood a → IsGood (closed (with_line a number (line.Reply value)))
reply_by a number value None is some none few names open_handler begun good = absurd cc
reply_by a number value (Some h) is some none few names open_handler begun good =
    rw is (good_ended a (ended a (more_lines number (line.Reply value) h)) (handler_is a number value h (no_blocks h.blocks none) good.locals few names open_handler) open_handler.room begun good)

opened_by : (b : Bool) → same true b ≡ true → b ≡ true
opened_by b e = e

pub good_reply : (a : Above) (number : ℕ) (value : Expr) → same true (is_open a) ≡ true → inside_code a ≡ None → full_code a ≡ None → ExprFits (length a.locals) (length a.variables) value → is_some a.lanes ≡ true → IsGood a
    → IsGood (closed (with_line a number (line.Reply value)))
good_reply a number value placed inside full names begun good = reply_by a number value a.open_handler refl (opened_by _ placed) (fits_not _ _ inside) (room_for_line a full) names good.opened begun good
