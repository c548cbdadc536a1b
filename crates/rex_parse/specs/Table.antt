-- The table of lines: which words a line has, and which codes fit.
use Rattle.std.specs.Prelude.{◌==◌, ◌&&◌, ◌||◌, ℕ, Bool, true, false, not, List, [], ◌∷◌, ◌++◌, length, nat_lt, nat_le, Option, Some, None, is_some, codes, find, if◌then◌else◌, option_map, option_and_then, slice_get, count_by}
use Rattle.std.specs.Option.{option_or}
use Rattle.std.specs.Str.{bytes_eq}
use Rattle.std.specs.List.{list_any}
use Rattle.rex_text.specs.Text.{Word}
use Rattle.rex_text.specs.Numbers.{u64_at, i64_at}
use Rattle.rex_syntax.specs.declared.expr.Operator.{Operator}
use Rattle.rex_syntax.specs.declared.expr.Operator.TheVariants.{Add, Sub, Mul, Div, Rem, Equal, NotEqual, Less, LessEqual, Greater, GreaterEqual}
use Rattle.rex_syntax.specs.declared.service.Lock.{Lock}
use Rattle.rex_syntax.specs.declared.service.LockKind.{LockKind}
use Rattle.rex_syntax.specs.declared.service.LockKind.TheVariants.{Plain, ReadersWriter}
use Rattle.rex_event.specs.Limits.{most_lanes}
use Rattle.rex_syntax.specs.Limits.{most_variables, most_first}
use Rattle.rex_syntax.specs.declared.locks.TheConstants.{LOCKS}
use Rattle.rex_syntax.specs.declared.service.TheConstants.{SEMAPHORES, CONDITIONS, HANDLERS, LINES, LOCALS, TURNS, PARAMETERS, LOOPS}
use Rattle.rex_parse.specs.Words.{is_name, is_digit, least, fits}
use Rattle.rex_parse.specs.Above.{meaning_of, is_declared, is_local, is_open, blocks_of, innermost}
use Rattle.rex_parse.specs.declared.language.Above.{Above}
use Rattle.rex_parse.specs.declared.language.OpenHandler.{OpenHandler}
use Rattle.rex_parse.specs.declared.blocks.BlockKind.{BlockKind}
use Rattle.rex_parse.specs.declared.blocks.BlockKind.TheVariants as block
use Rattle.rex_parse.specs.declared.blocks.OpenBlock.{OpenBlock}
use Rattle.rex_parse.specs.declared.language.ServiceCode.{ServiceCode}
use Rattle.rex_parse.specs.declared.language.ServiceCode.TheVariants.{Misplaced, BadForm, NoName, NoNumber, BadExpression, Undeclared, WrongKind, Taken, TooDeep, TooMany, LanesFirst, ReplyInBlock}
use Rattle.rex_parse.specs.declared.language.Form.{Form}
use Rattle.rex_parse.specs.declared.language.Form.TheVariants as form
use Rattle.rex_parse.specs.declared.language.Meaning.{Meaning}
use Rattle.rex_parse.specs.declared.language.Meaning.TheVariants as meaning
use Rattle.rex_parse.specs.declared.codes.TheConstants.{EXPRESSION_WORDS}

-- the first words of lines
abbrev pub forms : List (Word × Form)
forms =
    (codes "lanes", form.Lanes) ∷ (codes "lock", form.Lock) ∷ (codes "rwlock", form.RwLock) ∷ (codes "sem", form.Sem) ∷ (codes "cond", form.Cond) ∷ (codes "var", form.Var) ∷ (codes "handler", form.Handler)
    ∷ (codes "acquire", form.Acquire) ∷ (codes "share", form.Share) ∷ (codes "release", form.Release)
    ∷ (codes "try", form.Try) ∷ (codes "busy", form.Busy) ∷ (codes "endtry", form.EndTry)
    ∷ (codes "wait", form.Wait) ∷ (codes "signal", form.Signal) ∷ (codes "broadcast", form.Broadcast)
    ∷ (codes "down", form.Down) ∷ (codes "up", form.Up)
    ∷ (codes "set", form.Set) ∷ (codes "let", form.Let) ∷ (codes "clock", form.Clock) ∷ (codes "random", form.Random)
    ∷ (codes "if", form.If) ∷ (codes "else", form.Else) ∷ (codes "endif", form.EndIf)
    ∷ (codes "repeat", form.Repeat) ∷ (codes "endrepeat", form.EndRepeat) ∷ (codes "reply", form.Reply) ∷ []

-- the form of a line with this first word
abbrev pub form_of : Word → Option Form
form_of w = option_map (λ f. f.1) (find (λ f. bytes_eq w f.0) forms)

-- a line of a handler, and no declaration
abbrev pub is_inside : Form → Bool
is_inside form.Lanes = false
is_inside form.Lock = false
is_inside form.RwLock = false
is_inside form.Sem = false
is_inside form.Cond = false
is_inside form.Var = false
is_inside form.Handler = false
is_inside _ = true

-- a line of this form may stand where this block is the innermost open one: each word that divides or closes a block does so to its own kind
abbrev pub suits : Form → Option BlockKind → Bool
suits form.Else (Some block.Then) = true
suits form.Else _ = false
suits form.EndIf (Some block.Then) = true
suits form.EndIf (Some block.Otherwise) = true
suits form.EndIf _ = false
suits form.Busy (Some block.Got) = true
suits form.Busy _ = false
suits form.EndTry (Some block.Missed) = true
suits form.EndTry _ = false
suits form.EndRepeat (Some block.Loop) = true
suits form.EndRepeat _ = false
suits _ innermost_one = true

-- what may stand in a place of a line
pub data Slot : Type 0 where
  -- this very word
  Fixed : Word → Slot
  -- an unsigned number of this range
  Count : ℕ → ℕ → Slot
  -- a signed 64-bit number
  Number : Slot
  -- a name that the line declares
  New : Slot
  -- a handler's name and its parameters, to the end of the line
  Heading : Slot
  -- a lock of either kind
  LockName : Slot
  -- a lock of this kind
  LockOf : LockKind → Slot
  -- a semaphore
  SemaphoreName : Slot
  -- a condition
  ConditionName : Slot
  -- a variable
  VariableName : Slot
  -- a local, made if new
  LocalName : Slot
  -- one to eight operands with an operator between each two, to the end of the line
  Expression : Slot

-- the places of a line after its first word
abbrev pub slots : Form → List Slot
slots form.Lanes = Count 1 most_lanes ∷ []
slots form.Lock = New ∷ []
slots form.RwLock = New ∷ []
slots form.Sem = New ∷ Fixed (codes "=") ∷ Count 0 most_first ∷ []
slots form.Cond = New ∷ Fixed (codes "on") ∷ LockOf Plain ∷ []
slots form.Var = New ∷ Fixed (codes "on") ∷ LockName ∷ Fixed (codes "=") ∷ Number ∷ []
slots form.Handler = Heading ∷ []
slots form.Acquire = LockName ∷ []
slots form.Share = LockOf ReadersWriter ∷ []
slots form.Release = LockName ∷ []
slots form.Try = LockOf Plain ∷ []
slots form.Busy = []
slots form.EndTry = []
slots form.Wait = ConditionName ∷ Fixed (codes "while") ∷ Expression ∷ []
slots form.Signal = ConditionName ∷ []
slots form.Broadcast = ConditionName ∷ []
slots form.Down = SemaphoreName ∷ []
slots form.Up = SemaphoreName ∷ []
slots form.Set = VariableName ∷ Fixed (codes "=") ∷ Expression ∷ []
slots form.Let = LocalName ∷ Fixed (codes "=") ∷ Expression ∷ []
slots form.Clock = LocalName ∷ []
slots form.Random = LocalName ∷ []
slots form.If = Expression ∷ []
slots form.Else = []
slots form.EndIf = []
slots form.Repeat = Count 1 TURNS ∷ []
slots form.EndRepeat = []
slots form.Reply = Expression ∷ []

-- the number of words or a fixed word is wrong
abbrev pub is_misshapen : List Slot → List Word → Bool
is_misshapen [] [] = false
is_misshapen [] (w ∷ ws) = true
is_misshapen (s ∷ ss) [] = true
is_misshapen (Expression ∷ ss) (w ∷ ws) = false
is_misshapen (Heading ∷ ss) (w ∷ ws) = nat_lt PARAMETERS (length ws)
is_misshapen (Fixed f ∷ ss) (w ∷ ws) = not (bytes_eq w f) || is_misshapen ss ws
is_misshapen (Count lo hi ∷ ss) (w ∷ ws) = is_misshapen ss ws
is_misshapen (Number ∷ ss) (w ∷ ws) = is_misshapen ss ws
is_misshapen (New ∷ ss) (w ∷ ws) = is_misshapen ss ws
is_misshapen (LockName ∷ ss) (w ∷ ws) = is_misshapen ss ws
is_misshapen (LockOf kind ∷ ss) (w ∷ ws) = is_misshapen ss ws
is_misshapen (SemaphoreName ∷ ss) (w ∷ ws) = is_misshapen ss ws
is_misshapen (ConditionName ∷ ss) (w ∷ ws) = is_misshapen ss ws
is_misshapen (VariableName ∷ ss) (w ∷ ws) = is_misshapen ss ws
is_misshapen (LocalName ∷ ss) (w ∷ ws) = is_misshapen ss ws

-- a number lies from lo to hi
abbrev pub in_range : ℕ → ℕ → ℕ → Bool
in_range lo hi n = nat_le lo n && nat_le n hi

-- the number of a range that a word spells
abbrev pub count_of : ℕ → ℕ → Word → Option ℕ
count_of lo hi w = option_and_then (λ n. if in_range lo hi n then Some n else None) (u64_at w)

-- a number of this range
abbrev pub count_code : ℕ → ℕ → Word → Option ServiceCode
count_code lo hi w = fits (not (is_some (count_of lo hi w))) NoNumber

-- a name that a line declares
unfoldable pub new_code : Above → Word → Option ServiceCode
new_code a w = if is_name w then fits (is_declared a w) Taken else Some NoName

-- a parameter: a name that nothing above has, nor the handler or a parameter before
abbrev pub parameter_code : Above → List Word → Word → Option ServiceCode
parameter_code a before w = if is_name w then fits (is_declared a w || list_any (λ b. bytes_eq b w) before) Taken else Some NoName

-- the least code that fits parameters after these words
abbrev pub parameters_code : Above → List Word → List Word → Option ServiceCode
parameters_code a before [] = None
parameters_code a before (w ∷ ws) = least (parameter_code a before w) (parameters_code a (before ++ w ∷ []) ws)

-- a handler's name and its parameters
abbrev pub heading_code : Above → Word → List Word → Option ServiceCode
heading_code a w ws = least (new_code a w) (parameters_code a (w ∷ []) ws)

-- a word that is due to stand for something declared, whatever that is: a name, and no local
abbrev pub named_code : Above → Word → Option ServiceCode
named_code a w = if is_name w then fits (is_local a w) WrongKind else Some NoName

-- a name that is due to stand for something of a kind stands for this, which is of that kind or not
abbrev pub of_kind_code : Bool → Option Meaning → Option ServiceCode
of_kind_code is_of_it None = Some Undeclared
of_kind_code is_of_it (Some m) = fits (not is_of_it) WrongKind

-- a name stands for a lock
abbrev pub is_lock : Option Meaning → Bool
is_lock (Some (meaning.Lock n)) = true
is_lock _ = false

-- a name that is due to stand for a lock stands for this
abbrev pub lock_kind_code : Option Meaning → Option ServiceCode
lock_kind_code m = of_kind_code (is_lock m) m

-- a lock's name
unfoldable pub lock_code : Above → Word → Option ServiceCode
lock_code a w = option_or (named_code a w) (lock_kind_code (meaning_of a w))

-- both kinds are the same
abbrev pub is_same_kind : LockKind → LockKind → Bool
is_same_kind Plain Plain = true
is_same_kind ReadersWriter ReadersWriter = true
is_same_kind _ _ = false

-- there is a lock, and it is of the kind
abbrev pub is_of_kind : LockKind → Option Lock → Bool
is_of_kind kind None = false
is_of_kind kind (Some l) = is_same_kind kind l.kind

-- a name stands for a lock of a kind
abbrev pub is_lock_of : Above → LockKind → Option Meaning → Bool
is_lock_of a kind (Some (meaning.Lock n)) = is_of_kind kind (slice_get a.locks n)
is_lock_of a kind _ = false

-- a name that is due to stand for a lock of a kind stands for this
abbrev pub lock_of_kind_code : Above → LockKind → Option Meaning → Option ServiceCode
lock_of_kind_code a kind m = of_kind_code (is_lock_of a kind m) m

-- the name of a lock of a kind
unfoldable pub lock_of_code : Above → LockKind → Word → Option ServiceCode
lock_of_code a kind w = option_or (named_code a w) (lock_of_kind_code a kind (meaning_of a w))

-- a name stands for a semaphore
abbrev pub is_semaphore : Option Meaning → Bool
is_semaphore (Some (meaning.Semaphore n)) = true
is_semaphore _ = false

-- a name that is due to stand for a semaphore stands for this
abbrev pub semaphore_kind_code : Option Meaning → Option ServiceCode
semaphore_kind_code m = of_kind_code (is_semaphore m) m

-- a semaphore's name
unfoldable pub semaphore_code : Above → Word → Option ServiceCode
semaphore_code a w = option_or (named_code a w) (semaphore_kind_code (meaning_of a w))

-- a name stands for a condition
abbrev pub is_condition : Option Meaning → Bool
is_condition (Some (meaning.Condition n)) = true
is_condition _ = false

-- a name that is due to stand for a condition stands for this
abbrev pub condition_kind_code : Option Meaning → Option ServiceCode
condition_kind_code m = of_kind_code (is_condition m) m

-- a condition's name
unfoldable pub condition_code : Above → Word → Option ServiceCode
condition_code a w = option_or (named_code a w) (condition_kind_code (meaning_of a w))

-- a name stands for a variable
abbrev pub is_variable : Option Meaning → Bool
is_variable (Some (meaning.Variable n)) = true
is_variable _ = false

-- a name that is due to stand for a variable stands for this
abbrev pub variable_kind_code : Option Meaning → Option ServiceCode
variable_kind_code m = of_kind_code (is_variable m) m

-- a variable's name
unfoldable pub variable_code : Above → Word → Option ServiceCode
variable_code a w = option_or (named_code a w) (variable_kind_code (meaning_of a w))

-- a local's name, which may be new
unfoldable pub local_code : Above → Word → Option ServiceCode
local_code a w = if is_name w then fits (not (is_local a w) && is_declared a w) WrongKind else Some NoName

-- a word begins with a digit or `-`
abbrev pub begins_number : Word → Bool
begins_number [] = false
begins_number (b ∷ bs) = is_digit b || b == 45

-- a signed number
unfoldable pub number_code : Word → Option ServiceCode
number_code w = fits (not (is_some (i64_at w))) NoNumber

-- an operand: a number, a parameter or local, or a variable
abbrev pub operand_code : Above → Word → Option ServiceCode
operand_code a w =
    if begins_number w then number_code w
    else if not (is_name w) then Some BadExpression
    else if is_local a w then None
    else variable_kind_code (meaning_of a w)

-- the words of operators
abbrev pub operators : List (Word × Operator)
operators =
    (codes "+", Add) ∷ (codes "-", Sub) ∷ (codes "*", Mul) ∷ (codes "/", Div) ∷ (codes "%", Rem) ∷ (codes "==", Equal) ∷ (codes "!=", NotEqual)
    ∷ (codes "<", Less) ∷ (codes "<=", LessEqual) ∷ (codes ">", Greater) ∷ (codes ">=", GreaterEqual) ∷ []

-- the operator that a word is
abbrev pub operator_of : Word → Option Operator
operator_of w = option_map (λ o. o.1) (find (λ o. bytes_eq w o.0) operators)

-- an operator is one of eleven words
abbrev pub operator_code : Word → Option ServiceCode
operator_code w = fits (not (is_some (operator_of w))) BadExpression

-- operands at the first, third, fifth place and so on, operators at the others
unfoldable pub expr_code : Above → List Word → Option ServiceCode
expr_code a [] = Some BadExpression
expr_code a (w ∷ []) = operand_code a w
expr_code a (w ∷ o ∷ ws) = least (least (operand_code a w) (operator_code o)) (expr_code a ws)

-- the same with no more operands than there may be
abbrev pub whole_expr_code : Above → List Word → Option ServiceCode
whole_expr_code a ws = least (fits (nat_lt EXPRESSION_WORDS (length ws)) BadExpression) (expr_code a ws)

-- the least code that fits at a place
abbrev pub slot_code : Above → Slot → Word → List Word → Option ServiceCode
slot_code a (Fixed f) w ws = None
slot_code a (Count lo hi) w ws = count_code lo hi w
slot_code a Number w ws = number_code w
slot_code a New w ws = new_code a w
slot_code a Heading w ws = heading_code a w ws
slot_code a LockName w ws = lock_code a w
slot_code a (LockOf kind) w ws = lock_of_code a kind w
slot_code a SemaphoreName w ws = semaphore_code a w
slot_code a ConditionName w ws = condition_code a w
slot_code a VariableName w ws = variable_code a w
slot_code a LocalName w ws = local_code a w
slot_code a Expression w ws = whole_expr_code a (w ∷ ws)

-- the least code that fits at the places of a line
abbrev pub slots_code : Above → List Slot → List Word → Option ServiceCode
slots_code a [] ws = None
slots_code a (s ∷ ss) [] = None
slots_code a (s ∷ ss) (w ∷ ws) = least (slot_code a s w ws) (slots_code a ss ws)

-- how many lines the open handler has
abbrev pub lines_of_open : Option OpenHandler → ℕ
lines_of_open None = 0
lines_of_open (Some h) = length h.lines

-- a line of a handler past its last
abbrev pub full_code : Above → Option ServiceCode
full_code a = fits (nat_le LINES (lines_of_open a.open_handler)) TooMany

-- a local past the last
abbrev pub locals_code : Above → List Word → Option ServiceCode
locals_code a [] = None
locals_code a (w ∷ ws) = fits (not (is_local a w) && nat_le LOCALS (length a.locals)) TooMany

-- a block of this kind is a loop
abbrev pub is_loop_kind : BlockKind → Bool
is_loop_kind block.Loop = true
is_loop_kind _ = false

-- the block is a loop
abbrev pub is_loop : OpenBlock → Bool
is_loop b = is_loop_kind b.kind

-- a `repeat` inside as many open ones as there may be
abbrev pub loops_code : Above → Option ServiceCode
loops_code a = fits (nat_le LOOPS (count_by is_loop (blocks_of a))) TooDeep

-- a `reply` inside an open block
abbrev pub inside_code : Above → Option ServiceCode
inside_code a = fits (is_some (innermost a)) ReplyInBlock

-- a limit on counts is passed, or a `reply` stands inside a block
abbrev pub limit_code : Above → Form → List Word → Option ServiceCode
limit_code a form.Lanes ws = None
limit_code a form.Lock ws = fits (nat_le LOCKS (length a.locks)) TooMany
limit_code a form.RwLock ws = fits (nat_le LOCKS (length a.locks)) TooMany
limit_code a form.Sem ws = fits (nat_le SEMAPHORES (length a.semaphores)) TooMany
limit_code a form.Cond ws = fits (nat_le CONDITIONS (length a.conditions)) TooMany
limit_code a form.Var ws = fits (nat_le most_variables (length a.variables)) TooMany
limit_code a form.Handler ws = fits (nat_le HANDLERS (length a.handlers)) TooMany
limit_code a form.Let ws = least (locals_code a ws) (full_code a)
limit_code a form.Clock ws = least (locals_code a ws) (full_code a)
limit_code a form.Random ws = least (locals_code a ws) (full_code a)
limit_code a form.Repeat ws = least (loops_code a) (full_code a)
limit_code a form.Reply ws = least (full_code a) (inside_code a)
limit_code a _ ws = full_code a

-- a line of this form says how many lanes there are
abbrev pub is_lanes : Form → Bool
is_lanes form.Lanes = true
is_lanes _ = false

-- the first line isn't `lanes`, or `lanes` comes again
abbrev pub order_code : Above → Form → Option ServiceCode
order_code a f = fits (not (is_some a.lanes) && not (is_lanes f) || is_some a.lanes && is_lanes f) LanesFirst

-- two tests agree
abbrev pub same : Bool → Bool → Bool
same true b = b
same false b = not b

-- a line of a form may stand here: inside a handler or outside, and in its own kind of block
abbrev pub is_placed : Above → Form → Bool
is_placed a f = same (is_inside f) (is_open a) && suits f (innermost a)

-- the least code that fits a line of a form
abbrev pub form_code : Above → Form → List Word → Option ServiceCode
form_code a f ws =
    if not (is_placed a f) then Some Misplaced
    else if is_misshapen (slots f) ws then Some BadForm
    else least (slots_code a (slots f) ws) (least (limit_code a f ws) (order_code a f))

-- the least code that fits a line of a form without words, which has no limit but that on a handler's lines
abbrev pub wordless_code : Above → Form → List Word → Option ServiceCode
wordless_code a f ws =
    if not (is_placed a f) then Some Misplaced
    else if is_misshapen [] ws then Some BadForm
    else least (full_code a) (order_code a form.Busy)

-- the least code that fits a line where no form may have been found
abbrev pub found_code : Above → Option Form → List Word → Option ServiceCode
found_code a None ws = Some Misplaced
found_code a (Some f) ws = form_code a f ws

-- the least code that fits a line
abbrev pub line_code : Above → List Word → Option ServiceCode
line_code a [] = None
line_code a (w ∷ ws) = found_code a (form_of w) ws
