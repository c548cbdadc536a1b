-- Each good line keeps what good lines keep.
use Rattle.std.proofs.Common.{◌≡◌, ℕ, ℤ, ◌+◌, ◌<◌, ◌≤◌, Bool, true, false, cond, not, ◌&&◌, ◌||◌, leb, List, [], ◌∷◌, length, Option, Some, None, refl, sym, subst, arith, length-append}
use Rattle.std.specs.Prelude.{slice_get, option_and_then, is_some, IfSome, MatchOption}
use Rattle.std.proofs.lemmas.Bool.{leb-false, leb-true, ltb-false}
use Rattle.std.proofs.lemmas.List.Elements.{All-nil, All-push, All-weaker}
use Rattle.rex_text.specs.Text.{Word}
use Rattle.rex_text.specs.Numbers.{u64_at}
use Rattle.rex_syntax.specs.declared.line.Line.{Line}
use Rattle.rex_syntax.specs.declared.service.LockKind.{LockKind}
use Rattle.rex_syntax.specs.declared.service.LockKind.TheVariants.{Plain}
use Rattle.rex_event.specs.Limits.{most_lanes}
use Rattle.rex_syntax.specs.Limits.{most_variables, most_first}
use Rattle.rex_syntax.specs.declared.service.Semaphore.{Semaphore}
use Rattle.rex_syntax.specs.declared.service.Condition.{Condition}
use Rattle.rex_syntax.specs.declared.service.Variable.{Variable}
use Rattle.rex_syntax.specs.Service.{IsLock, LineNames, IsHandler}
use Rattle.rex_parse.specs.Words.{fits}
use Rattle.rex_parse.specs.Above.{nothing, is_open}
use Rattle.rex_parse.specs.Table.{count_of, in_range, order_code, is_lanes, same}
use Rattle.rex_parse.specs.After.{service_of, with_lock, with_semaphore, with_condition, with_variable, with_heading}
use Rattle.rex_parse.specs.Growing.{IsGrowing}
use Rattle.rex_parse.specs.Good.{MeaningFits, IsOpen, IsGood}
use Rattle.rex_parse.specs.declared.language.Above.{Above}
use Rattle.rex_parse.specs.declared.language.OpenHandler.{OpenHandler}
use Rattle.rex_parse.specs.declared.language.Entry.{Entry}
use Rattle.rex_parse.specs.declared.language.Meaning.{Meaning}
use Rattle.rex_parse.specs.declared.language.Meaning.TheVariants as meaning
use Rattle.rex_parse.specs.declared.language.ServiceCode.TheVariants.{TooMany}
use Rattle.rex_parse.specs.declared.language.Form.{Form}
use Rattle.rex_parse.specs.declared.language.Form.TheVariants as form
use Rattle.rex_parse.proofs.Fine.{IsFine, fits_not, least_both}
use Rattle.rex_parse.proofs.Extends.{Extends, slice_get-push, IsLock-more, handler_more}

-- ---- what order and place say

began_by : (set lanes : Bool) → lanes ≡ false → (not set && not lanes || set && lanes) ≡ false → set ≡ true
began_by true lanes e h = refl
began_by false true e h = absurd cc
began_by false false e h = absurd cc

pub began : (a : Above) (f : Form) → is_lanes f ≡ false → order_code a f ≡ None → is_some a.lanes ≡ true
began a f e h = began_by (is_some a.lanes) (is_lanes f) e (fits_not _ _ h)

pub still : (o : Option ℕ) (P Q : Type 0) (R : ℕ → Type 0) → is_some o ≡ true → MatchOption o P R → MatchOption o Q R
still None P Q R e h = absurd cc
still (Some n) P Q R e h = h

pub closed_by : (b : Bool) → same false b ≡ true → b ≡ false
closed_by true e = absurd cc
closed_by false e = refl

pub no_open : (o : Option OpenHandler) (P : OpenHandler → Type 0) → is_some o ≡ false → IfSome o P
no_open None P e = tt
no_open (Some h) P e = absurd cc

-- ---- names

pub names_more : (a b : Above) → length a.locks ≤ length b.locks → length a.semaphores ≤ length b.semaphores → length a.conditions ≤ length b.conditions → length a.variables ≤ length b.variables → length a.handlers ≤ length b.handlers
    → (m : Meaning) → MeaningFits a m → MeaningFits b m
names_more a b locks semaphores conditions variables handlers (meaning.Lock n) h = omega arith
names_more a b locks semaphores conditions variables handlers (meaning.Semaphore n) h = omega arith
names_more a b locks semaphores conditions variables handlers (meaning.Condition n) h = omega arith
names_more a b locks semaphores conditions variables handlers (meaning.Variable n) h = omega arith
names_more a b locks semaphores conditions variables handlers (meaning.Handler n) h = omega arith

abbrev Fit : Above → Entry → Type 0
Fit a e = MeaningFits a e.meaning

abbrev Guarded : Above → Variable → Type 0
Guarded a v = v.guard < length a.locks

abbrev pub IsSmall : Semaphore → Type 0
IsSmall x = x.first ≤ most_first

abbrev OfPlain : Above → Condition → Type 0
OfPlain a c = IsLock (service_of a) Plain c.lock

-- ---- `lock` and `rwlock`

lock_extends : (a : Above) (kind : LockKind) (w : Word) → Extends (service_of a) (service_of (with_lock a kind w))
lock_extends a kind w = record {
  locks = λ n l e. slice_get-push a.locks _ n l e;
  more_locks = omega (arith, length-append a.locks ((record { name = w; kind = kind }) ∷ []));
  more_semaphores = omega arith;
  more_conditions = omega arith;
  more_variables = omega arith;
}

pub good_lock : (a : Above) (kind : LockKind) (w : Word) → is_open a ≡ false → fits (leb 64 (length a.locks)) TooMany ≡ None → is_some a.lanes ≡ true → IsGood a → IsGood (with_lock a kind w)
good_lock a kind w outside limits begun good =
    let b : Above = with_lock a kind w in
    let x : Extends (service_of a) (service_of b) = lock_extends a kind w in
    let room : length a.locks < 64 = leb-false 64 (length a.locks) (fits_not _ _ limits) in
    let more : length b.locks ≡ length a.locks + 1 = length-append a.locks ((record { name = w; kind = kind }) ∷ []) in
    record {
      begun = still a.lanes (a ≡ nothing) (b ≡ nothing) _ begun good.begun;
      locks = omega (arith, room, more);
      few_semaphores = good.few_semaphores;
      few_conditions = good.few_conditions;
      few_variables = good.few_variables;
      few_handlers = good.few_handlers;
      locals = good.locals;
      names = All-push (Fit b) a.names _ (All-weaker (Fit a) (Fit b) (λ e q. names_more a b x.more_locks x.more_semaphores x.more_conditions x.more_variables (omega arith) e.meaning q) a.names good.names) (omega (arith, more));
      semaphores = good.semaphores;
      conditions = All-weaker (OfPlain a) (OfPlain b) (λ c q. IsLock-more _ _ x Plain c.lock q) a.conditions good.conditions;
      variables = All-weaker (Guarded a) (Guarded b) (λ v q. omega (arith, q, more)) a.variables good.variables;
      handlers = All-weaker (IsHandler (service_of a)) (IsHandler (service_of b)) (λ h q. handler_more _ _ x h q) a.handlers good.handlers;
      opened = no_open a.open_handler _ outside;
    }

-- ---- `lanes`

unset_by : (set : Bool) → (not set && false || set && true) ≡ false → set ≡ false
unset_by true e = absurd cc
unset_by false e = refl

unset : (o : Option ℕ) (P : Type 0) (R : ℕ → Type 0) → is_some o ≡ false → MatchOption o P R → P
unset None P R e h = h
unset (Some n) P R e h = absurd cc

both_true : (b c : Bool) → (b && c) ≡ true → (b ≡ true) × (c ≡ true)
both_true true true e = (refl, refl)
both_true true false e = absurd cc
both_true false c e = absurd cc

count_by : (n : ℕ) (b : Bool) (P : Type 0) → in_range 1 most_lanes n ≡ b → is_some (cond b (Some n) None) ≡ true → MatchOption (cond b (Some n) None) P (λ m. (0 < m) × (m ≤ most_lanes))
count_by n true P is e = let both = both_true (leb 1 n) (leb n most_lanes) is in (omega (arith, leb-true 1 n both.0), leb-true n most_lanes both.1)
count_by n false P is e = absurd cc

count_fits : (o : Option ℕ) (P : Type 0) → is_some (option_and_then (λ n. cond (in_range 1 most_lanes n) (Some n) None) o) ≡ true
    → MatchOption (option_and_then (λ n. cond (in_range 1 most_lanes n) (Some n) None) o) P (λ m. (0 < m) × (m ≤ most_lanes))
count_fits None P e = absurd cc
count_fits (Some n) P e = count_by n (in_range 1 most_lanes n) P refl e

not_false : (b : Bool) → not b ≡ false → b ≡ true
not_false true e = refl
not_false false e = absurd cc

first_lanes : (w : Word) → is_some (count_of 1 most_lanes w) ≡ true → IsGood (record nothing { lanes = count_of 1 most_lanes w })
first_lanes w some =
    let b : Above = record nothing { lanes = count_of 1 most_lanes w } in
    record {
      begun = count_fits (u64_at w) (b ≡ nothing) some;
      locks = omega arith;
      few_semaphores = omega arith;
      few_conditions = omega arith;
      few_variables = omega arith;
      few_handlers = omega arith;
      locals = omega arith;
      names = All-nil (Fit b);
      semaphores = All-nil IsSmall;
      conditions = All-nil (OfPlain b);
      variables = All-nil (Guarded b);
      handlers = All-nil (IsHandler (service_of b));
      opened = tt;
    }

pub good_lanes : (a : Above) (w : Word) (ws : List Word) → IsFine a form.Lanes (w ∷ ws) → IsGood a → IsGood (record a { lanes = count_of 1 most_lanes w })
good_lanes a w ws fine good =
    let none : a ≡ nothing = unset a.lanes (a ≡ nothing) _ (unset_by (is_some a.lanes) (fits_not _ _ fine.order)) good.begun in
    let some : is_some (count_of 1 most_lanes w) ≡ true = not_false (is_some (count_of 1 most_lanes w)) (fits_not _ _ (least_both _ _ fine.places).0) in
    let P : Above → Type 0 = λ b. IsGood (record b { lanes = count_of 1 most_lanes w }) in
    subst P (sym none) (first_lanes w some)

-- ---- `var`

variable_extends : (a : Above) (w : Word) (guard : ℕ) (first : ℤ) → Extends (service_of a) (service_of (with_variable a w guard first))
variable_extends a w guard first = record {
  locks = λ n l e. e;
  more_locks = omega arith;
  more_semaphores = omega arith;
  more_conditions = omega arith;
  more_variables = omega (arith, length-append a.variables ((record { name = w; guard = guard; first = first }) ∷ []));
}

pub good_var : (a : Above) (w : Word) (guard : ℕ) (first : ℤ) (ws : List Word) → IsFine a form.Var ws → guard < length a.locks → IsGood a → IsGood (with_variable a w guard first)
good_var a w guard first ws fine there good =
    let b : Above = with_variable a w guard first in
    let x : Extends (service_of a) (service_of b) = variable_extends a w guard first in
    let room : length a.variables < most_variables = leb-false most_variables (length a.variables) (fits_not _ _ fine.limits) in
    let more : length b.variables ≡ length a.variables + 1 = length-append a.variables ((record { name = w; guard = guard; first = first }) ∷ []) in
    record {
      begun = still a.lanes (a ≡ nothing) (b ≡ nothing) _ (began a form.Var refl fine.order) good.begun;
      locks = good.locks;
      few_semaphores = good.few_semaphores;
      few_conditions = good.few_conditions;
      few_variables = omega (arith, room, more);
      few_handlers = good.few_handlers;
      locals = good.locals;
      names = All-push (Fit b) a.names _ (All-weaker (Fit a) (Fit b) (λ e q. names_more a b x.more_locks x.more_semaphores x.more_conditions x.more_variables (omega arith) e.meaning q) a.names good.names) (omega (arith, more));
      semaphores = good.semaphores;
      conditions = All-weaker (OfPlain a) (OfPlain b) (λ c q. IsLock-more _ _ x Plain c.lock q) a.conditions good.conditions;
      variables = All-push (Guarded b) a.variables _ (All-weaker (Guarded a) (Guarded b) (λ v q. q) a.variables good.variables) there;
      handlers = All-weaker (IsHandler (service_of a)) (IsHandler (service_of b)) (λ h q. handler_more _ _ x h q) a.handlers good.handlers;
      opened = no_open a.open_handler _ (closed_by _ fine.placed);
    }

-- ---- `sem`

semaphore_extends : (a : Above) (w : Word) (first : ℕ) → Extends (service_of a) (service_of (with_semaphore a w first))
semaphore_extends a w first = record {
  locks = λ n l e. e;
  more_locks = omega arith;
  more_semaphores = omega (arith, length-append a.semaphores ((record { name = w; first = first }) ∷ []));
  more_conditions = omega arith;
  more_variables = omega arith;
}

pub good_sem : (a : Above) (w : Word) (first : ℕ) (ws : List Word) → IsFine a form.Sem ws → first ≤ most_first → IsGood a → IsGood (with_semaphore a w first)
good_sem a w first ws fine few good =
    let b : Above = with_semaphore a w first in
    let x : Extends (service_of a) (service_of b) = semaphore_extends a w first in
    let room : length a.semaphores < 64 = leb-false 64 (length a.semaphores) (fits_not _ _ fine.limits) in
    let more : length b.semaphores ≡ length a.semaphores + 1 = length-append a.semaphores ((record { name = w; first = first }) ∷ []) in
    record {
      begun = still a.lanes (a ≡ nothing) (b ≡ nothing) _ (began a form.Sem refl fine.order) good.begun;
      locks = good.locks;
      few_semaphores = omega (arith, room, more);
      few_conditions = good.few_conditions;
      few_variables = good.few_variables;
      few_handlers = good.few_handlers;
      locals = good.locals;
      names = All-push (Fit b) a.names _ (All-weaker (Fit a) (Fit b) (λ e q. names_more a b x.more_locks x.more_semaphores x.more_conditions x.more_variables (omega arith) e.meaning q) a.names good.names) (omega (arith, more));
      semaphores = All-push IsSmall a.semaphores _ good.semaphores few;
      conditions = All-weaker (OfPlain a) (OfPlain b) (λ c q. IsLock-more _ _ x Plain c.lock q) a.conditions good.conditions;
      variables = good.variables;
      handlers = All-weaker (IsHandler (service_of a)) (IsHandler (service_of b)) (λ h q. handler_more _ _ x h q) a.handlers good.handlers;
      opened = no_open a.open_handler _ (closed_by _ fine.placed);
    }

-- ---- `cond`

condition_extends : (a : Above) (w : Word) (lock : ℕ) → Extends (service_of a) (service_of (with_condition a w lock))
condition_extends a w lock = record {
  locks = λ n l e. e;
  more_locks = omega arith;
  more_semaphores = omega arith;
  more_conditions = omega (arith, length-append a.conditions ((record { name = w; lock = lock }) ∷ []));
  more_variables = omega arith;
}

pub good_cond : (a : Above) (w : Word) (lock : ℕ) (ws : List Word) → IsFine a form.Cond ws → IsLock (service_of a) Plain lock → IsGood a → IsGood (with_condition a w lock)
good_cond a w lock ws fine there good =
    let b : Above = with_condition a w lock in
    let x : Extends (service_of a) (service_of b) = condition_extends a w lock in
    let room : length a.conditions < 64 = leb-false 64 (length a.conditions) (fits_not _ _ fine.limits) in
    let more : length b.conditions ≡ length a.conditions + 1 = length-append a.conditions ((record { name = w; lock = lock }) ∷ []) in
    record {
      begun = still a.lanes (a ≡ nothing) (b ≡ nothing) _ (began a form.Cond refl fine.order) good.begun;
      locks = good.locks;
      few_semaphores = good.few_semaphores;
      few_conditions = omega (arith, room, more);
      few_variables = good.few_variables;
      few_handlers = good.few_handlers;
      locals = good.locals;
      names = All-push (Fit b) a.names _ (All-weaker (Fit a) (Fit b) (λ e q. names_more a b x.more_locks x.more_semaphores x.more_conditions x.more_variables (omega arith) e.meaning q) a.names good.names) (omega (arith, more));
      semaphores = good.semaphores;
      conditions = All-push (OfPlain b) a.conditions _ (All-weaker (OfPlain a) (OfPlain b) (λ c q. IsLock-more _ _ x Plain c.lock q) a.conditions good.conditions) (IsLock-more _ _ x Plain lock there);
      variables = good.variables;
      handlers = All-weaker (IsHandler (service_of a)) (IsHandler (service_of b)) (λ h q. handler_more _ _ x h q) a.handlers good.handlers;
      opened = no_open a.open_handler _ (closed_by _ fine.placed);
    }

-- ---- `handler`

no_lines : IsGrowing [] []
no_lines = record {
  matched = refl;
  loops = refl;
  few = omega arith;
  begun = tt;
  lead = λ next place line there other. absurd (stop place line there);
  branches = record { each = λ place line there divides. absurd (stop place line there) };
} where
  stop : (place : ℕ) (line : Line) → slice_get [] place ≡ Some line → ⊥
  stop place line there = cc

heading_opens : (a : Above) (number : ℕ) (w : Word) (ws : List Word) → length ws ≤ 4 → length a.handlers < 64
    → IsOpen (service_of a) (length ws) (record { name = w; line_number = number; parameters = length ws; lines = []; line_numbers = []; blocks = [] })
heading_opens a number w ws few room = record {
  room = room;
  parameters = few;
  fewer = omega arith;
  short = omega arith;
  numbered = refl;
  growing = no_lines;
  names = All-nil (LineNames (service_of a) (length ws));
}

pub good_heading : (a : Above) (number : ℕ) (w : Word) (ws : List Word) → IsFine a form.Handler (w ∷ ws) → IsGood a → IsGood (with_heading a number w ws)
good_heading a number w ws fine good =
    let b : Above = with_heading a number w ws in
    let room : length a.handlers < 64 = leb-false 64 (length a.handlers) (fits_not _ _ fine.limits) in
    let few : length ws ≤ 4 = ltb-false 4 (length ws) fine.shaped in
    record {
      begun = still a.lanes (a ≡ nothing) (b ≡ nothing) _ (began a form.Handler refl fine.order) good.begun;
      locks = good.locks;
      few_semaphores = good.few_semaphores;
      few_conditions = good.few_conditions;
      few_variables = good.few_variables;
      few_handlers = good.few_handlers;
      locals = omega arith;
      names = All-push (Fit b) a.names _ (All-weaker (Fit a) (Fit b) (λ e q. names_more a b (omega arith) (omega arith) (omega arith) (omega arith) (omega arith) e.meaning q) a.names good.names) (omega arith);
      semaphores = good.semaphores;
      conditions = good.conditions;
      variables = good.variables;
      handlers = good.handlers;
      opened = heading_opens a number w ws few room;
    }
