-- Where a line leads with what is held, and why it is refused.
use Rattle.std.specs.Prelude.{pos, [], ℕ, ◌-◌, ◌&&◌, Bool, true, false, not, Some, None, Result, Ok, Err, slice_index_or, if◌then◌else◌}
use Rattle.std.specs.List.{list_all}
use Rattle.rex_syntax.specs.declared.expr.Operand.{Operand}
use Rattle.rex_syntax.specs.declared.expr.Operand.TheVariants.{Variable}
use Rattle.rex_syntax.specs.declared.expr.Expr.{Expr}
use Rattle.rex_syntax.specs.declared.line.Line.{Line}
use Rattle.rex_syntax.specs.declared.line.Line.TheVariants.{Acquire, Share, Release, Try, Busy, EndTry, Wait, Signal, Broadcast, Down, Up, Set, Let, Clock, Random, If, Else, EndIf, Repeat, EndRepeat, Reply}
use Rattle.rex_syntax.specs.declared.locks.Mode.TheVariants.{Free, Shared, Exclusive}
use Rattle.rex_syntax.specs.declared.locks.Lockset.{Lockset}
use Rattle.rex_syntax.specs.declared.service.Declarations.{Declarations}
use Rattle.rex_syntax.specs.declared.service.Variable.{Variable as VariableOf}
use Rattle.rex_syntax.specs.declared.service.Condition.{Condition}
use Rattle.rex_syntax.specs.Locks.{mode_of, with_mode, is_free, is_exclusive, is_above, is_empty, is_only}
use Rattle.rex_syntax.specs.declared.flow.CheckCode.{CheckCode}
use Rattle.rex_syntax.specs.declared.flow.CheckCode.TheVariants.{UnguardedRead, UnguardedWrite, NotHeld, OutOfOrder, HeldAtReply, ConditionLock, HeldAtDown}
use Rattle.rex_syntax.specs.declared.flow.Leads.{Leads}

-- no variable, and no condition: what a number that is not there stands for
abbrev pub no_variable : VariableOf
no_variable = record { name = []; guard = 0; first = pos 0 }

abbrev pub no_condition : Condition
no_condition = record { name = []; lock = 0 }

-- the lock that guards a variable
abbrev pub guard_of : Declarations → ℕ → ℕ
guard_of service variable = (slice_index_or service.variables variable no_variable).guard

-- the lock of a condition
abbrev pub lock_of : Declarations → ℕ → ℕ
lock_of service condition = (slice_index_or service.conditions condition no_condition).lock

-- what is read may be read
abbrev pub operand_is_held : Declarations → Lockset → Operand → Bool
operand_is_held service held (Variable i) = not (is_free (mode_of held (guard_of service i)))
operand_is_held service held _ = true

-- every variable that is read may be read
abbrev pub expr_is_held : Declarations → Lockset → Expr → Bool
expr_is_held service held e =
    operand_is_held service held e.first && list_all (λ t. operand_is_held service held t.operand) e.rest

-- it leads to the next line alone
abbrev pub on : Lockset → Leads
on held = record { next = Some held; other = record { line = 0; held = None } }

-- it leads to the next line, and to another one
abbrev pub fork : Lockset → ℕ → Lockset → Leads
fork held line other = record { next = Some held; other = record { line = line; held = Some other } }

-- it leads on where the test holds, and is refused otherwise
abbrev pub only_if : Bool → Leads → CheckCode → Result Leads CheckCode
only_if true leads code = Ok leads
only_if false leads code = Err code

-- it leads to another line alone
abbrev pub jump : Lockset → ℕ → Leads
jump held line = record { next = None; other = record { line = line; held = Some held } }

-- it leads nowhere
abbrev pub nowhere : Leads
nowhere = record { next = None; other = record { line = 0; held = None } }

-- where a line leads with what is held, or why it is refused: the tests of a line in their order
abbrev pub leads_of : Declarations → Line → Lockset → Result Leads CheckCode
leads_of service (Acquire lock) held = only_if (is_above held lock) (on (with_mode held lock Exclusive)) OutOfOrder
leads_of service (Share lock) held = only_if (is_above held lock) (on (with_mode held lock Shared)) OutOfOrder
leads_of service (Release lock) held = only_if (not (is_free (mode_of held lock))) (on (with_mode held lock Free)) NotHeld
leads_of service (Try lock busy) held = only_if (is_free (mode_of held lock)) (fork (with_mode held lock Exclusive) busy held) OutOfOrder
leads_of service (Wait condition test) held =
    if is_only held (lock_of service condition) then only_if (expr_is_held service held test) (on held) UnguardedRead else Err ConditionLock
leads_of service (Signal condition) held = only_if (is_exclusive (mode_of held (lock_of service condition))) (on held) ConditionLock
leads_of service (Broadcast condition) held = only_if (is_exclusive (mode_of held (lock_of service condition))) (on held) ConditionLock
leads_of service (Down semaphore) held = only_if (is_empty held) (on held) HeldAtDown
leads_of service (Up semaphore) held = Ok (on held)
leads_of service (Set variable value) held =
    if expr_is_held service held value then only_if (is_exclusive (mode_of held (guard_of service variable))) (on held) UnguardedWrite else Err UnguardedRead
leads_of service (Let local value) held = only_if (expr_is_held service held value) (on held) UnguardedRead
leads_of service (If test otherwise) held = only_if (expr_is_held service held test) (fork held otherwise held) UnguardedRead
leads_of service (Else end) held = Ok (jump held end)
leads_of service (Busy end) held = Ok (jump held end)
leads_of service (Repeat turns after) held = Ok (fork held (after - 1) held)
leads_of service (Clock local) held = Ok (on held)
leads_of service (Random local) held = Ok (on held)
leads_of service EndIf held = Ok (on held)
leads_of service EndTry held = Ok (on held)
leads_of service EndRepeat held = Ok (on held)
leads_of service (Reply value) held =
    if expr_is_held service held value then only_if (is_empty held) nowhere HeldAtReply else Err UnguardedRead
