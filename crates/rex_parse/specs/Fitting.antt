-- Which codes fit a line, by what its words are, whichever of them is answered. P1, P2 and P3 fit alone; P4 to P13 fit side by side.
use Rattle.std.specs.Prelude.{◌≡◌, ◌≢◌, ◌+◌, ◌*◌, ◌<◌, ◌≤◌, ◌⊎◌, ◌++◌, ℕ, Bool, true, false, List, [], ◌∷◌, length, count_by, slice_get, Option, Some, None, IsTrue, IsSome, IsNone, option_map, if◌then◌else◌}
use Rattle.std.specs.Bool.{IsFalse}
use Rattle.std.specs.List.{AllPass, Any, Contains}
use Rattle.rex_text.specs.Text.{Word, words_of, is_skipped, is_allowed}
use Rattle.rex_text.specs.Numbers.{i64_at}
use Rattle.rex_syntax.specs.Limits.{most_variables}
use Rattle.rex_syntax.specs.declared.locks.TheConstants.{LOCKS}
use Rattle.rex_syntax.specs.declared.service.TheConstants.{SEMAPHORES, CONDITIONS, HANDLERS, LINES, LOCALS, LOOPS, PARAMETERS}
use Rattle.rex_syntax.specs.declared.service.LockKind.{LockKind}
use Rattle.rex_parse.specs.Words.{is_name}
use Rattle.rex_parse.specs.Above.{meaning_of, is_declared, is_local, is_open, blocks_of, innermost}
use Rattle.rex_parse.specs.Table.{Slot, Fixed, Count, Number, New, Heading, LockName, LockOf, SemaphoreName, ConditionName, VariableName, LocalName, Expression, form_of, is_inside, suits, slots, is_of_kind, count_of, begins_number, operator_of, is_loop, lines_of_open}
use Rattle.rex_parse.specs.declared.codes.TheConstants.{EXPRESSION_WORDS}
use Rattle.rex_parse.specs.declared.language.Above.{Above}
use Rattle.rex_parse.specs.declared.language.ServiceCode.{ServiceCode}
use Rattle.rex_parse.specs.declared.language.ServiceCode.TheVariants.{BadByte, Misplaced, BadForm, NoName, NoNumber, BadExpression, Undeclared, WrongKind, Taken, TooDeep, TooMany, LanesFirst, ReplyInBlock, Unended}
use Rattle.rex_parse.specs.declared.language.Form.{Form}
use Rattle.rex_parse.specs.declared.language.Form.TheVariants as form
use Rattle.rex_parse.specs.declared.language.Meaning.{Meaning}
use Rattle.rex_parse.specs.declared.language.Meaning.TheVariants as meaning

-- what a name stands for at a line
pub data Sense : Type 0 where
  -- a parameter or a local of the open handler
  OwnLocal : Sense
  -- what was declared above
  Declared : Meaning → Sense

-- what a name stands for at a line, if it stands for something: a local first
abbrev pub sense_of : Above → Word → Option Sense
sense_of a w = if is_local a w then Some OwnLocal else option_map Declared (meaning_of a w)

-- what a name may be due to stand for
pub data Kind : Type 0 where
  -- a lock of either kind
  AnyLock : Kind
  -- a lock of this kind
  LockOfKind : LockKind → Kind
  -- a semaphore
  ASemaphore : Kind
  -- a condition
  ACondition : Kind
  -- a variable
  AVariable : Kind
  -- a parameter or a local
  ALocal : Kind
  -- a parameter, a local or a variable
  AValue : Kind

-- what a name stands for is of a kind
abbrev pub is_of : Above → Kind → Sense → Bool
is_of a AnyLock (Declared (meaning.Lock n)) = true
is_of a (LockOfKind kind) (Declared (meaning.Lock n)) = is_of_kind kind (slice_get a.locks n)
is_of a ASemaphore (Declared (meaning.Semaphore n)) = true
is_of a ACondition (Declared (meaning.Condition n)) = true
is_of a AVariable (Declared (meaning.Variable n)) = true
is_of a ALocal OwnLocal = true
is_of a AValue OwnLocal = true
is_of a AValue (Declared (meaning.Variable n)) = true
is_of a _ _ = false

-- what is due at a place of a line
pub data Due : Type 0 where
  -- an unsigned number of this range
  NumberFrom : ℕ → ℕ → Due
  -- a signed 64-bit number
  SignedNumber : Due
  -- a name that the line makes, where it has made these before
  NewName : List Word → Due
  -- a name that stands for something of this kind; where that is a local, one that stands for nothing yet is made
  NameOf : Kind → Due
  -- an operand: a signed number, or the name of a value
  Operand : Due
  -- an operator
  Operator : Due

-- a place of a line
pub data Place : Type 0 where
  -- a word, at which this is due
  At : Due → Word → Place
  -- an expression of so many words
  Whole : ℕ → Place

-- the places of the words of an expression: operands are due at the first, third, fifth word and so on, operators at the others
abbrev pub term_places : List Word → List Place
term_places [] = []
term_places (w ∷ []) = At Operand w ∷ []
term_places (w ∷ o ∷ ws) = At Operand w ∷ At Operator o ∷ term_places ws

-- the places of names that a line makes, which has made these before
abbrev pub new_places : List Word → List Word → List Place
new_places before [] = []
new_places before (w ∷ ws) = At (NewName before) w ∷ new_places (before ++ w ∷ []) ws

-- the places of a slot that begins with a word, before others to the end of the line
abbrev pub slot_places : Slot → Word → List Word → List Place
slot_places (Fixed f) w ws = []
slot_places (Count low high) w ws = At (NumberFrom low high) w ∷ []
slot_places Number w ws = At SignedNumber w ∷ []
slot_places New w ws = At (NewName []) w ∷ []
slot_places Heading w ws = new_places [] (w ∷ ws)
slot_places LockName w ws = At (NameOf AnyLock) w ∷ []
slot_places (LockOf kind) w ws = At (NameOf (LockOfKind kind)) w ∷ []
slot_places SemaphoreName w ws = At (NameOf ASemaphore) w ∷ []
slot_places ConditionName w ws = At (NameOf ACondition) w ∷ []
slot_places VariableName w ws = At (NameOf AVariable) w ∷ []
slot_places LocalName w ws = At (NameOf ALocal) w ∷ []
slot_places Expression w ws = Whole (length (w ∷ ws)) ∷ term_places (w ∷ ws)

-- the places of slots that words fill
abbrev pub places : List Slot → List Word → List Place
places [] ws = []
places (s ∷ ss) [] = []
places (s ∷ ss) (w ∷ ws) = slot_places s w ws ++ places ss ws

-- the places of a line of a form, with these words after its first
abbrev pub places_of : Form → List Word → List Place
places_of f ws = places (slots f) ws

-- P4: a name is due here, and the word is none
abbrev pub LacksName : Place → Type 0
LacksName (At (NewName before) w) = IsFalse (is_name w)
LacksName (At (NameOf kind) w) = IsFalse (is_name w)
LacksName _ = ⊥

-- P5: a number is due here, and the word spells none in range; or an operand that begins as a number is none
abbrev pub LacksNumber : Place → Type 0
LacksNumber (At (NumberFrom low high) w) = IsNone (count_of low high w)
LacksNumber (At SignedNumber w) = IsNone (i64_at w)
LacksNumber (At Operand w) = IsTrue (begins_number w) × IsNone (i64_at w)
LacksNumber _ = ⊥

-- a number of words is even
abbrev pub IsEven : ℕ → Type 0
IsEven n = (k : ℕ) × (n ≡ 2 * k)

-- P6: an operand neither begins as a number nor is a name, a word is no operator where one is due, or an expression has an even number of words or too many
abbrev pub SpoilsExpression : Place → Type 0
SpoilsExpression (At Operand w) = IsFalse (begins_number w) × IsFalse (is_name w)
SpoilsExpression (At Operator w) = IsNone (operator_of w)
SpoilsExpression (Whole n) = IsEven n ⊎ (EXPRESSION_WORDS < n)
SpoilsExpression _ = ⊥

-- a word is a name, and stands for nothing
abbrev pub IsUnknown : Above → Word → Type 0
IsUnknown a w = IsTrue (is_name w) × (sense_of a w ≡ None)

-- P7: a name that stands for nothing is due to stand for something, unless it makes a local
abbrev pub IsUndeclared : Above → Place → Type 0
IsUndeclared a (At (NameOf ALocal) w) = ⊥
IsUndeclared a (At (NameOf kind) w) = IsUnknown a w
IsUndeclared a (At Operand w) = IsUnknown a w
IsUndeclared a _ = ⊥

-- a word is a name, and stands for something of no such kind
abbrev pub IsOther : Above → Kind → Word → Type 0
IsOther a kind w = IsTrue (is_name w) × (s : Sense) × (sense_of a w ≡ Some s) × IsFalse (is_of a kind s)

-- P8: a name stands for something, but for nothing of the kind that is due
abbrev pub IsOfWrongKind : Above → Place → Type 0
IsOfWrongKind a (At (NameOf kind) w) = IsOther a kind w
IsOfWrongKind a (At Operand w) = IsOther a AValue w
IsOfWrongKind a _ = ⊥

-- P9: a name that the line makes is declared above, or the line has made it before
abbrev pub IsTaken : Above → Place → Type 0
IsTaken a (At (NewName before) w) = IsTrue (is_name w) × (IsTrue (is_declared a w) ⊎ Contains before w)
IsTaken a _ = ⊥

-- P10: a `repeat` stands inside as many open ones as may be
abbrev pub IsTooDeep : Above → Form → Type 0
IsTooDeep a f = (f ≡ form.Repeat) × (LOOPS ≤ count_by is_loop (blocks_of a))

-- P11: as many are there as may be of what a line of a form adds one to
abbrev pub IsFull : Above → Form → Type 0
IsFull a form.Lanes = ⊥
IsFull a form.Lock = LOCKS ≤ length a.locks
IsFull a form.RwLock = LOCKS ≤ length a.locks
IsFull a form.Sem = SEMAPHORES ≤ length a.semaphores
IsFull a form.Cond = CONDITIONS ≤ length a.conditions
IsFull a form.Var = most_variables ≤ length a.variables
IsFull a form.Handler = HANDLERS ≤ length a.handlers
IsFull a _ = LINES ≤ lines_of_open a.open_handler

-- a place makes a local
abbrev pub MakesLocal : Above → Place → Type 0
MakesLocal a (At (NameOf ALocal) w) = IsFalse (is_local a w)
MakesLocal a _ = ⊥

-- P11, too: a line makes a local, where sixteen are there
abbrev pub MakesTooMany : Above → List Place → Type 0
MakesTooMany a spots = Any (MakesLocal a) spots × (LOCALS ≤ length a.locals)

-- P12: no number of lanes is declared and the line declares none, or one is and the line declares one again
abbrev pub IsOutOfOrder : Above → Form → Type 0
IsOutOfOrder a f = (IsNone a.lanes × (f ≢ form.Lanes)) ⊎ (IsSome a.lanes × (f ≡ form.Lanes))

-- P13: a `reply` stands inside an open block
abbrev pub RepliesInside : Above → Form → Type 0
RepliesInside a f = (f ≡ form.Reply) × IsSome (innermost a)

-- a code fits a line of a form that stands where it may and has its form's shape
abbrev pub FitsForm : Above → Form → List Word → ServiceCode → Type 0
FitsForm a f ws NoName = Any LacksName (places_of f ws)
FitsForm a f ws NoNumber = Any LacksNumber (places_of f ws)
FitsForm a f ws BadExpression = Any SpoilsExpression (places_of f ws)
FitsForm a f ws Undeclared = Any (IsUndeclared a) (places_of f ws)
FitsForm a f ws WrongKind = Any (IsOfWrongKind a) (places_of f ws)
FitsForm a f ws Taken = Any (IsTaken a) (places_of f ws)
FitsForm a f ws TooDeep = IsTooDeep a f
FitsForm a f ws TooMany = IsFull a f ⊎ MakesTooMany a (places_of f ws)
FitsForm a f ws LanesFirst = IsOutOfOrder a f
FitsForm a f ws ReplyInBlock = RepliesInside a f
FitsForm a f ws _ = ⊥

-- the first word of a line gives it this form, which may stand there: a handler's line just where a handler is open, and each word that divides or closes a block in such a one
pub record StandsAs (a : Above) (w : Word) (f : Form) : Type 0 where
  pub known : form_of w ≡ Some f
  pub side : is_inside f ≡ is_open a
  pub block : IsTrue (suits f (innermost a))

-- words fill slots: a fixed word its own, an expression one or more to the end, a heading one to five, and each other slot a word
abbrev pub Fill : List Slot → List Word → Type 0
Fill [] ws = ws ≡ []
Fill (Expression ∷ ss) ws = 0 < length ws
Fill (Heading ∷ ss) ws = (0 < length ws) × (length ws ≤ PARAMETERS + 1)
Fill (Fixed f ∷ ss) ws = (rest : List Word) × (ws ≡ f ∷ rest) × Fill ss rest
Fill (s ∷ ss) ws = (w : Word) × (rest : List Word) × (ws ≡ w ∷ rest) × Fill ss rest

-- P2: the first word gives the line no form that may stand there
abbrev pub IsMisplaced : Above → Word → Type 0
IsMisplaced a w = (f : Form) → ¬ (StandsAs a w f)

-- P3: the line has a form that may stand there, but its words don't fill the form's slots
abbrev pub IsBadForm : Above → Word → List Word → Type 0
IsBadForm a w ws = (f : Form) × StandsAs a w f × ¬ (Fill (slots f) ws)

-- a code fits the words of a line: P2 or P3 alone, or each that fits a line of its form
abbrev pub FitsWords : Above → Word → List Word → ServiceCode → Type 0
FitsWords a w ws Misplaced = IsMisplaced a w
FitsWords a w ws BadForm = IsBadForm a w ws
FitsWords a w ws c = (f : Form) × StandsAs a w f × Fill (slots f) ws × FitsForm a f ws c

-- a line's bytes are all allowed, it is no comment, and these are its words
pub record HasWords (line : List ℕ) (w : Word) (ws : List Word) : Type 0 where
  pub allowed : AllPass is_allowed line
  pub meant : IsFalse (is_skipped (words_of line))
  pub words : words_of line ≡ w ∷ ws

-- a code fits a line: P1 where a byte isn't allowed, and else those that fit its words
abbrev pub Fits : Above → List ℕ → ServiceCode → Type 0
Fits a line BadByte = Any (λ b. IsFalse (is_allowed b)) line
Fits a line c = (w : Word) × (ws : List Word) × HasWords line w ws × FitsWords a w ws c

-- P14: a text ends inside a handler, or has none
abbrev pub FitsEnd : Above → ServiceCode → Type 0
FitsEnd a Unended = IsTrue (is_open a) ⊎ (length a.handlers ≡ 0)
FitsEnd a _ = ⊥
