-- Services of one handler each, and what is refused in them, by computation.
use Rattle.std.proofs.Common.{◌≡◌, ℕ, List, [], ◌∷◌, ◌++◌, length, replicate, refl}
use Rattle.std.specs.Prelude.{Option, Some, None, pos}
use Rattle.rex_syntax.specs.declared.expr.Operand.TheVariants.{Number, Local, Variable}
use Rattle.rex_syntax.specs.declared.expr.Expr.{Expr}
use Rattle.rex_syntax.specs.declared.flow.CheckCode.{CheckCode}
use Rattle.rex_syntax.specs.declared.flow.CheckCode.TheVariants.{UnguardedRead, UnguardedWrite, NotHeld, OutOfOrder, BranchesDiffer, LoopDiffers, HeldAtReply, ConditionLock, TooLong, HeldAtDown}
use Rattle.rex_syntax.specs.declared.line.Line.{Line}
use Rattle.rex_syntax.specs.declared.line.Line.TheVariants.{Acquire, Share, Release, Try, Busy, EndTry, Wait, Down, Up, Set, Let, If, Else, EndIf, Repeat, EndRepeat, Reply}
use Rattle.rex_syntax.specs.declared.service.LockKind.TheVariants.{Plain, ReadersWriter}
use Rattle.rex_syntax.specs.declared.service.Handler.{Handler}
use Rattle.rex_syntax.specs.declared.service.Declarations.{Declarations}
use Rattle.rex_syntax.specs.Check.{step_bound}
use Rattle.rex_lockset.specs.declared.refusal.Refused.{Refused}
use Rattle.rex_lockset.specs.Counter.{just, counter}
use Rattle.rex_lockset.specs.Refusal.{refusal_of}

-- ---- a service

-- two locks, a plain one and a readers-writer one, a semaphore, a condition of the first lock, and a variable that each of them guards
abbrev service_with : List Handler → Declarations
service_with handlers = record {
  lanes = 2;
  locks = record { name = []; kind = Plain } ∷ record { name = []; kind = ReadersWriter } ∷ [];
  semaphores = record { name = []; first = 0 } ∷ [];
  conditions = record { name = []; lock = 0 } ∷ [];
  variables = record { name = []; guard = 0; first = pos 0 } ∷ record { name = []; guard = 1; first = pos 0 } ∷ [];
  handlers = handlers;
}

-- a handler with an argument, one more local and these lines
abbrev handler_of : List Line → Handler
handler_of lines = record { name = []; line_number = 1; parameters = 1; locals = 2; lines = lines; line_numbers = replicate (length lines) 2 }

abbrev service_of : List Line → Declarations
service_of lines = service_with (handler_of lines ∷ [])

abbrev zero_value : Expr
zero_value = just (Number (pos 0))

abbrev argument : Expr
argument = just (Local 0)

-- the line of the service's handler that is refused
abbrev refused_at : ℕ → CheckCode → Option Refused
refused_at line code = Some (record { handler = 0; line = Some line; code = code })

-- ---- what passes

-- the counter: the guard is held at the write and at the read
counter_passes : refusal_of (counter (Acquire 0)) ≡ None
counter_passes = refl

-- both branches of a try end with nothing held
tried : refusal_of (service_of (Try 0 3 ∷ Release 0 ∷ Busy 4 ∷ Let 1 zero_value ∷ EndTry ∷ Reply zero_value ∷ [])) ≡ None
tried = refl

-- what is held when a wait begins is held when it ends
waiting : refusal_of (service_of (Acquire 0 ∷ Wait 0 (just (Variable 0)) ∷ Set 0 argument ∷ Release 0 ∷ Reply zero_value ∷ [])) ≡ None
waiting = refl

-- a semaphore is taken down while no lock is held, and put up at any time
counted : refusal_of (service_of (Down 0 ∷ Acquire 0 ∷ Up 0 ∷ Release 0 ∷ Reply zero_value ∷ [])) ≡ None
counted = refl

-- ---- one service for each code

unguarded_read : refusal_of (service_of (Let 1 (just (Variable 0)) ∷ Reply zero_value ∷ [])) ≡ refused_at 0 UnguardedRead
unguarded_read = refl

-- a share of the guard is enough to read, and not to write
unguarded_write : refusal_of (service_of (Share 1 ∷ Let 1 (just (Variable 1)) ∷ Set 1 argument ∷ Release 1 ∷ Reply zero_value ∷ [])) ≡ refused_at 2 UnguardedWrite
unguarded_write = refl

not_held : refusal_of (service_of (Release 0 ∷ Reply zero_value ∷ [])) ≡ refused_at 0 NotHeld
not_held = refl

out_of_order : refusal_of (service_of (Acquire 1 ∷ Acquire 0 ∷ Release 0 ∷ Release 1 ∷ Reply zero_value ∷ [])) ≡ refused_at 1 OutOfOrder
out_of_order = refl

-- a lock isn't taken twice
twice : refusal_of (service_of (Share 1 ∷ Acquire 1 ∷ Release 1 ∷ Reply zero_value ∷ [])) ≡ refused_at 1 OutOfOrder
twice = refl

branches_differ : refusal_of (service_of (If argument 3 ∷ Acquire 0 ∷ Else 3 ∷ EndIf ∷ Reply zero_value ∷ [])) ≡ refused_at 3 BranchesDiffer
branches_differ = refl

-- an absent else ends as it began
no_else : refusal_of (service_of (If argument 2 ∷ Acquire 0 ∷ EndIf ∷ Reply zero_value ∷ [])) ≡ refused_at 2 BranchesDiffer
no_else = refl

loop_differs : refusal_of (service_of (Repeat 2 3 ∷ Acquire 0 ∷ EndRepeat ∷ Reply zero_value ∷ [])) ≡ refused_at 2 LoopDiffers
loop_differs = refl

held_at_reply : refusal_of (service_of (Acquire 0 ∷ Reply zero_value ∷ [])) ≡ refused_at 1 HeldAtReply
held_at_reply = refl

condition_lock : refusal_of (service_of (Wait 0 argument ∷ Reply zero_value ∷ [])) ≡ refused_at 0 ConditionLock
condition_lock = refl

held_at_down : refusal_of (service_of (Acquire 0 ∷ Down 0 ∷ Release 0 ∷ Reply zero_value ∷ [])) ≡ refused_at 1 HeldAtDown
held_at_down = refl

-- two loops of a thousand turns, one inside the other
abbrev long_lines : List Line
long_lines = Repeat 1000 5 ∷ Repeat 1000 4 ∷ Let 1 zero_value ∷ EndRepeat ∷ EndRepeat ∷ Reply zero_value ∷ []

long_bound : step_bound long_lines ≡ 2002002
long_bound = refl

too_long : refusal_of (service_of long_lines) ≡ Some (record { handler = 0; line = None; code = TooLong })
too_long = refl

-- ---- the limit on steps

-- 999 turns of 99 lines, then so many lines more, and a reply
abbrev lines_with : ℕ → List Line
lines_with more = Repeat 999 101 ∷ replicate 99 (Let 1 zero_value) ++ EndRepeat ∷ replicate more (Let 1 zero_value) ++ Reply zero_value ∷ []

most_steps : step_bound (lines_with 98) ≡ 100000
most_steps = refl

at_the_limit : refusal_of (service_of (lines_with 98)) ≡ None
at_the_limit = refl

past_the_limit : refusal_of (service_of (lines_with 99)) ≡ Some (record { handler = 0; line = None; code = TooLong })
past_the_limit = refl

-- ---- which refusal is the first

abbrev unguarded_lines : List Line
unguarded_lines = Let 1 (just (Variable 0)) ∷ Reply zero_value ∷ []

-- a handler that is too long is refused before the lines of the next one
handlers_in_order : refusal_of (service_with (handler_of long_lines ∷ handler_of unguarded_lines ∷ [])) ≡ Some (record { handler = 0; line = None; code = TooLong })
handlers_in_order = refl

-- a line is refused before its handler
lines_first : refusal_of (service_with (handler_of (Reply zero_value ∷ []) ∷ handler_of (Repeat 1000 5 ∷ Repeat 1000 4 ∷ Let 1 (just (Variable 0)) ∷ EndRepeat ∷ EndRepeat ∷ Reply zero_value ∷ []) ∷ [])) ≡ Some (record { handler = 1; line = Some 2; code = UnguardedRead })
lines_first = refl
