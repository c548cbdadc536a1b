-- What a good line declares.
use Rattle.std.specs.Prelude.{ℕ, ◌+◌, ℤ, pos, List, [], ◌∷◌, ◌++◌, length, drop, Option, Some, None, if◌then◌else◌, option_map, unwrap_or, slice_set, slice_index_or}
use Rattle.rex_text.specs.Text.{Word}
use Rattle.rex_text.specs.Numbers.{i64_at}
use Rattle.rex_syntax.specs.declared.expr.Operator.TheVariants.{Add}
use Rattle.rex_syntax.specs.declared.expr.Operand.{Operand}
use Rattle.rex_syntax.specs.declared.expr.Operand.TheVariants.{Number, Local, Variable}
use Rattle.rex_syntax.specs.declared.expr.Term.{Term}
use Rattle.rex_syntax.specs.declared.expr.Expr.{Expr}
use Rattle.rex_syntax.specs.declared.line.Line.{Line}
use Rattle.rex_syntax.specs.declared.line.Line.TheVariants as line
use Rattle.rex_syntax.specs.declared.service.LockKind.{LockKind}
use Rattle.rex_syntax.specs.declared.service.LockKind.TheVariants.{Plain, ReadersWriter}
use Rattle.rex_syntax.specs.declared.service.Handler.{Handler}
use Rattle.rex_syntax.specs.declared.service.Declarations.{Declarations}
use Rattle.rex_event.specs.Limits.{most_lanes}
use Rattle.rex_syntax.specs.Limits.{most_first}
use Rattle.rex_syntax.specs.declared.service.TheConstants.{TURNS}
use Rattle.rex_parse.specs.Above.{meaning_of, is_local, local_place}
use Rattle.rex_parse.specs.Table.{form_of, count_of, begins_number, operator_of}
use Rattle.rex_parse.specs.declared.language.Above.{Above}
use Rattle.rex_parse.specs.declared.language.OpenHandler.{OpenHandler}
use Rattle.rex_parse.specs.declared.blocks.BlockKind.{BlockKind}
use Rattle.rex_parse.specs.declared.blocks.BlockKind.TheVariants as block
use Rattle.rex_parse.specs.declared.blocks.OpenBlock.{OpenBlock}
use Rattle.rex_parse.specs.declared.language.Form.{Form}
use Rattle.rex_parse.specs.declared.language.Form.TheVariants as form
use Rattle.rex_parse.specs.declared.language.Meaning.{Meaning}
use Rattle.rex_parse.specs.declared.language.Meaning.TheVariants as meaning

-- the number of a lock
abbrev pub lock_number : Option Meaning → ℕ
lock_number (Some (meaning.Lock n)) = n
lock_number _ = 0

-- the number of a semaphore
abbrev pub semaphore_number : Option Meaning → ℕ
semaphore_number (Some (meaning.Semaphore n)) = n
semaphore_number _ = 0

-- the first value that a word gives a semaphore
abbrev pub first_of : Word → ℕ
first_of w = unwrap_or (count_of 0 most_first w) 0

-- the number of a condition
abbrev pub condition_number : Option Meaning → ℕ
condition_number (Some (meaning.Condition n)) = n
condition_number _ = 0

-- the number of a variable
abbrev pub variable_number : Option Meaning → ℕ
variable_number (Some (meaning.Variable n)) = n
variable_number _ = 0

-- an operand as a line has it
abbrev pub operand_of : Above → Word → Operand
operand_of a w =
    if begins_number w then Number (unwrap_or (i64_at w) (pos 0))
    else if is_local a w then Local (local_place a w)
    else Variable (variable_number (meaning_of a w))

-- an operator and the operand after it, and so on
abbrev pub terms_of : Above → List Word → List Term
terms_of a [] = []
terms_of a (o ∷ []) = []
terms_of a (o ∷ w ∷ ws) = (record { operator = unwrap_or (operator_of o) Add; operand = operand_of a w }) ∷ terms_of a ws

-- the expression that words spell
abbrev pub expr_of : Above → List Word → Expr
expr_of a [] = record { first = Number (pos 0); rest = [] }
expr_of a (w ∷ ws) = record { first = operand_of a w; rest = terms_of a ws }

-- the open handler with one more line
abbrev pub more_lines : ℕ → Line → OpenHandler → OpenHandler
more_lines number l h = record h { lines = h.lines ++ l ∷ []; line_numbers = h.line_numbers ++ number ∷ [] }

-- the open handler has one more line
abbrev pub with_line : Above → ℕ → Line → Above
with_line a number l = record a { open_handler = option_map (more_lines number l) a.open_handler }

-- a line that leads elsewhere than to the next line leads to this one now
abbrev pub led_to : ℕ → Line → Line
led_to target (line.If test otherwise) = line.If test target
led_to target (line.Else end) = line.Else target
led_to target (line.Try lock busy) = line.Try lock target
led_to target (line.Busy end) = line.Busy target
led_to target (line.Repeat turns after) = line.Repeat turns target
led_to target l = l

-- the lines where the one at a place leads to the target
abbrev pub with_target : List Line → ℕ → ℕ → List Line
with_target lines place target = slice_set lines place (led_to target (slice_index_or lines place line.EndIf))

-- the lines where the line of the first block leads to the target
abbrev pub with_block_target : List Line → List OpenBlock → ℕ → List Line
with_block_target lines [] target = lines
with_block_target lines (b ∷ rest) target = with_target lines b.line target

-- the next line opens a block
abbrev pub block_opens : BlockKind → OpenHandler → OpenHandler
block_opens kind h = record h { blocks = (record { kind = kind; line = length h.lines }) ∷ h.blocks }

-- the innermost open block ends, and its line leads to the target
abbrev pub block_ends : ℕ → OpenHandler → OpenHandler
block_ends target h = record h { lines = with_block_target h.lines h.blocks target; blocks = drop 1 h.blocks }

-- a line that opens a block
abbrev pub opening : BlockKind → ℕ → Line → OpenHandler → OpenHandler
opening kind number l h = more_lines number l (block_opens kind h)

-- a line that divides the innermost open block: what was open leads to the line after it, and a block of another kind begins
abbrev pub dividing : BlockKind → ℕ → Line → OpenHandler → OpenHandler
dividing kind number l h = more_lines number l (block_opens kind (block_ends (length h.lines + 1) h))

-- a line that closes the innermost open block, which leads to this line, or so many lines further on
abbrev pub closing : ℕ → ℕ → Line → OpenHandler → OpenHandler
closing further number l h = more_lines number l (block_ends (length h.lines + further) h)

-- the open handler is this one now
abbrev pub with_open : Above → (OpenHandler → OpenHandler) → Above
with_open a change = record a { open_handler = option_map change a.open_handler }

-- a local that is new is made
abbrev pub with_local : Above → Word → Above
with_local a w = if is_local a w then a else record a { locals = a.locals ++ w ∷ [] }

-- a handler with as many locals as were made in it
abbrev pub ended : Above → OpenHandler → Handler
ended a h = record { name = h.name; line_number = h.line_number; parameters = h.parameters; locals = length a.locals; lines = h.lines; line_numbers = h.line_numbers }

-- an open handler is whole, if there is one
abbrev pub with_handler : Above → Option OpenHandler → Above
with_handler a None = a
with_handler a (Some h) = record a { handlers = a.handlers ++ ended a h ∷ []; locals = []; open_handler = None }

-- the handler whose lines are read is whole
abbrev pub closed : Above → Above
closed a = with_handler a a.open_handler

-- a further name
abbrev pub with_name : Above → Word → Meaning → Above
with_name a w m = record a { names = a.names ++ (record { name = w; meaning = m }) ∷ [] }

-- a further lock of a kind
abbrev pub with_lock : Above → LockKind → Word → Above
with_lock a kind w = record (with_name a w (meaning.Lock (length a.locks))) { locks = a.locks ++ (record { name = w; kind = kind }) ∷ [] }

-- a further semaphore, with its first value
abbrev pub with_semaphore : Above → Word → ℕ → Above
with_semaphore a w first = record (with_name a w (meaning.Semaphore (length a.semaphores))) { semaphores = a.semaphores ++ (record { name = w; first = first }) ∷ [] }

-- a further condition, with its lock
abbrev pub with_condition : Above → Word → ℕ → Above
with_condition a w lock = record (with_name a w (meaning.Condition (length a.conditions))) { conditions = a.conditions ++ (record { name = w; lock = lock }) ∷ [] }

-- a further variable, with its guard and its first value
abbrev pub with_variable : Above → Word → ℕ → ℤ → Above
with_variable a w guard first =
    record (with_name a w (meaning.Variable (length a.variables))) { variables = a.variables ++ (record { name = w; guard = guard; first = first }) ∷ [] }

-- a further handler, which is open and has these parameters
abbrev pub with_heading : Above → ℕ → Word → List Word → Above
with_heading a number w ws =
    record (with_name a w (meaning.Handler (length a.handlers))) {
      locals = ws;
      open_handler = Some (record { name = w; line_number = number; parameters = length ws; lines = []; line_numbers = []; blocks = [] });
    }

-- what is declared after a good line of a form, which has this number in its text
abbrev pub after_form : Above → ℕ → Form → List Word → Above
after_form a number form.Lanes (w ∷ ws) = record a { lanes = count_of 1 most_lanes w }
after_form a number form.Lock (w ∷ ws) = with_lock a Plain w
after_form a number form.RwLock (w ∷ ws) = with_lock a ReadersWriter w
after_form a number form.Sem (w ∷ e ∷ v ∷ ws) = with_semaphore a w (first_of v)
after_form a number form.Cond (w ∷ o ∷ l ∷ ws) = with_condition a w (lock_number (meaning_of a l))
after_form a number form.Var (w ∷ o ∷ l ∷ e ∷ v ∷ ws) = with_variable a w (lock_number (meaning_of a l)) (unwrap_or (i64_at v) (pos 0))
after_form a number form.Handler (w ∷ ws) = with_heading a number w ws
after_form a number form.Acquire (w ∷ ws) = with_line a number (line.Acquire (lock_number (meaning_of a w)))
after_form a number form.Share (w ∷ ws) = with_line a number (line.Share (lock_number (meaning_of a w)))
after_form a number form.Release (w ∷ ws) = with_line a number (line.Release (lock_number (meaning_of a w)))
after_form a number form.Try (w ∷ ws) = with_open a (opening block.Got number (line.Try (lock_number (meaning_of a w)) 0))
after_form a number form.Busy [] = with_open a (dividing block.Missed number (line.Busy 0))
after_form a number form.EndTry [] = with_open a (closing 0 number line.EndTry)
after_form a number form.Wait (w ∷ e ∷ ws) = with_line a number (line.Wait (condition_number (meaning_of a w)) (expr_of a ws))
after_form a number form.Signal (w ∷ ws) = with_line a number (line.Signal (condition_number (meaning_of a w)))
after_form a number form.Broadcast (w ∷ ws) = with_line a number (line.Broadcast (condition_number (meaning_of a w)))
after_form a number form.Down (w ∷ ws) = with_line a number (line.Down (semaphore_number (meaning_of a w)))
after_form a number form.Up (w ∷ ws) = with_line a number (line.Up (semaphore_number (meaning_of a w)))
after_form a number form.Set (w ∷ e ∷ ws) = with_line a number (line.Set (variable_number (meaning_of a w)) (expr_of a ws))
after_form a number form.Let (w ∷ e ∷ ws) = with_line (with_local a w) number (line.Let (local_place (with_local a w) w) (expr_of a ws))
after_form a number form.Clock (w ∷ ws) = with_line (with_local a w) number (line.Clock (local_place (with_local a w) w))
after_form a number form.Random (w ∷ ws) = with_line (with_local a w) number (line.Random (local_place (with_local a w) w))
after_form a number form.If ws = with_open a (opening block.Then number (line.If (expr_of a ws) 0))
after_form a number form.Else [] = with_open a (dividing block.Otherwise number (line.Else 0))
after_form a number form.EndIf [] = with_open a (closing 0 number line.EndIf)
after_form a number form.Repeat (w ∷ ws) = with_open a (opening block.Loop number (line.Repeat (unwrap_or (count_of 1 TURNS w) 0) 0))
after_form a number form.EndRepeat [] = with_open a (closing 1 number line.EndRepeat)
after_form a number form.Reply ws = closed (with_line a number (line.Reply (expr_of a ws)))
after_form a number _ ws = a

-- the same where no form may have been found
abbrev pub after_found : Above → ℕ → Option Form → List Word → Above
after_found a number None ws = a
after_found a number (Some f) ws = after_form a number f ws

-- what is declared after a good line
abbrev pub after : Above → ℕ → List Word → Above
after a number [] = a
after a number (w ∷ ws) = after_found a number (form_of w) ws

-- the service that a good text declares
abbrev pub service_of : Above → Declarations
service_of a = record { lanes = unwrap_or a.lanes 0; locks = a.locks; semaphores = a.semaphores; conditions = a.conditions; variables = a.variables; handlers = a.handlers }
