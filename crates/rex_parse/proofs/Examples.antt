-- Services that are read, with where their blocks lead, a refusal of each code, and lines that several codes fit.
use Rattle.std.proofs.Common.{◌≡◌, ℕ, pos, negsuc, List, [], ◌∷◌, ◌++◌, Option, Some, None, Result, Ok, Err, refl, true, false, sym, subst, arith, inl}
use Rattle.std.specs.Prelude.{codes}
use Rattle.std.specs.Fmt.{digits}
use Rattle.std.proofs.lemmas.List.Sums.{AllPass-from_list_all}
use Rattle.rex_text.specs.Text.{Word, is_allowed}
use Rattle.rex_syntax.specs.declared.expr.Operator.TheVariants.{Add, Sub, Equal, Greater}
use Rattle.rex_syntax.specs.declared.expr.Operand.TheVariants.{Number, Local, Variable}
use Rattle.rex_syntax.specs.declared.line.Line.TheVariants as line
use Rattle.rex_syntax.specs.declared.service.LockKind.TheVariants.{Plain, ReadersWriter}
use Rattle.rex_syntax.specs.declared.service.Declarations.{Declarations}
use Rattle.rex_parse.specs.Words.{is_name, rank}
use Rattle.rex_parse.specs.Above.{nothing}
use Rattle.rex_parse.specs.Table.{is_inside, slots, expr_code, new_code, lock_code, lock_of_code, semaphore_code, condition_code, variable_code, local_code, number_code}
use Rattle.rex_parse.specs.After.{service_of}
use Rattle.rex_parse.specs.Reading.{raw_code, answer_from, answer_of}
use Rattle.rex_parse.specs.Law.{above_from}
use Rattle.rex_parse.specs.Fitting.{Declared, AVariable, Operand, NameOf, NewName, At, Whole, StandsAs, Fill, HasWords, Fits}
use Rattle.rex_parse.specs.LeastCode.{IsLeast}
use Rattle.rex_parse.specs.declared.language.Form.{Form}
use Rattle.rex_parse.specs.declared.language.Form.TheVariants as form
use Rattle.rex_parse.specs.declared.language.Meaning.TheVariants as meaning
use Rattle.rex_parse.specs.declared.language.Above.{Above}
use Rattle.rex_parse.specs.declared.language.ServiceCode.{ServiceCode}
use Rattle.rex_parse.specs.declared.language.ServiceCode.TheVariants.{BadByte, Misplaced, BadForm, NoName, NoNumber, BadExpression, Undeclared, WrongKind, Taken, TooDeep, TooMany, LanesFirst, ReplyInBlock, Unended}
use Rattle.rex_parse.proofs.FitsLeast.{lines_get_the_least}
use Rattle.rex_parse.proofs.Alone.{alone}

-- lines, each with its end
abbrev text_of : List (List ℕ) → List ℕ
text_of [] = []
text_of (line ∷ lines) = line ++ 10 ∷ text_of lines

counter_text : List ℕ
counter_text =
    text_of (codes "lanes 2" ∷ codes "lock L" ∷ codes "var a on L = 0" ∷ codes "handler add x" ∷ codes "acquire L" ∷ codes "set a = a + x" ∷ codes "let r = a" ∷ codes "release L" ∷ codes "reply r" ∷ [])

counter : Declarations
counter = record {
  lanes = 2;
  locks = (record { name = codes "L"; kind = Plain }) ∷ [];
  semaphores = [];
  conditions = [];
  variables = (record { name = codes "a"; guard = 0; first = pos 0 }) ∷ [];
  handlers = (record {
    name = codes "add";
    line_number = 4;
    parameters = 1;
    locals = 2;
    lines =
        line.Acquire 0
        ∷ line.Set 0 (record { first = Variable 0; rest = (record { operator = Add; operand = Local 0 }) ∷ [] })
        ∷ line.Let 1 (record { first = Variable 0; rest = [] })
        ∷ line.Release 0
        ∷ line.Reply (record { first = Local 1; rest = [] })
        ∷ [];
    line_numbers = 5 ∷ 6 ∷ 7 ∷ 8 ∷ 9 ∷ [];
  }) ∷ [];
}

abbrev declared : Result Above (ℕ × ServiceCode) → Option Declarations
declared (Ok a) = Some (service_of a)
declared (Err e) = None

-- the counter's text declares the counter
counter_is_read : declared (answer_of counter_text) ≡ Some counter
unfolding counter_text counter answer_from is_name expr_code new_code lock_code lock_of_code semaphore_code condition_code variable_code local_code number_code digits
counter_is_read = refl

-- ---- blocks

-- a branch inside a loop
branches_text : List ℕ
branches_text =
    text_of (codes "lanes 2" ∷ codes "handler sum x" ∷ codes "let s = 0" ∷ codes "repeat 3" ∷ codes "if x > 1" ∷ codes "let s = s + x" ∷ codes "else" ∷ codes "let s = s - 1" ∷ codes "endif" ∷ codes "endrepeat" ∷ codes "reply s" ∷ [])

-- the `if` goes on after the `else`, that at the `endif`, and the loop after the `endrepeat`
branches : Declarations
branches = record {
  lanes = 2;
  locks = [];
  semaphores = [];
  conditions = [];
  variables = [];
  handlers = (record {
    name = codes "sum";
    line_number = 2;
    parameters = 1;
    locals = 2;
    lines =
        line.Let 1 (record { first = Number (pos 0); rest = [] })
        ∷ line.Repeat 3 8
        ∷ line.If (record { first = Local 0; rest = (record { operator = Greater; operand = Number (pos 1) }) ∷ [] }) 5
        ∷ line.Let 1 (record { first = Local 1; rest = (record { operator = Add; operand = Local 0 }) ∷ [] })
        ∷ line.Else 6
        ∷ line.Let 1 (record { first = Local 1; rest = (record { operator = Sub; operand = Number (pos 1) }) ∷ [] })
        ∷ line.EndIf
        ∷ line.EndRepeat
        ∷ line.Reply (record { first = Local 1; rest = [] })
        ∷ [];
    line_numbers = 3 ∷ 4 ∷ 5 ∷ 6 ∷ 7 ∷ 8 ∷ 9 ∷ 10 ∷ 11 ∷ [];
  }) ∷ [];
}

branches_are_read : declared (answer_of branches_text) ≡ Some branches
unfolding branches_text branches answer_from is_name expr_code new_code lock_code lock_of_code semaphore_code condition_code variable_code local_code number_code digits
branches_are_read = refl

-- a lock that is tried
tries_text : List ℕ
tries_text =
    text_of (codes "lanes 1" ∷ codes "lock L" ∷ codes "var a on L = -1" ∷ codes "handler grab" ∷ codes "try L" ∷ codes "set a = a + 1" ∷ codes "release L" ∷ codes "busy" ∷ codes "random r" ∷ codes "endtry" ∷ codes "reply 0" ∷ [])

-- the `try` goes on after the `busy`, and that at the `endtry`
tries : Declarations
tries = record {
  lanes = 1;
  locks = (record { name = codes "L"; kind = Plain }) ∷ [];
  semaphores = [];
  conditions = [];
  variables = (record { name = codes "a"; guard = 0; first = negsuc 0 }) ∷ [];
  handlers = (record {
    name = codes "grab";
    line_number = 4;
    parameters = 0;
    locals = 1;
    lines =
        line.Try 0 4
        ∷ line.Set 0 (record { first = Variable 0; rest = (record { operator = Add; operand = Number (pos 1) }) ∷ [] })
        ∷ line.Release 0
        ∷ line.Busy 5
        ∷ line.Random 0
        ∷ line.EndTry
        ∷ line.Reply (record { first = Number (pos 0); rest = [] })
        ∷ [];
    line_numbers = 5 ∷ 6 ∷ 7 ∷ 8 ∷ 9 ∷ 10 ∷ 11 ∷ [];
  }) ∷ [];
}

tries_are_read : declared (answer_of tries_text) ≡ Some tries
unfolding tries_text tries answer_from is_name expr_code new_code lock_code lock_of_code semaphore_code condition_code variable_code local_code number_code digits
tries_are_read = refl

-- ---- conditions and readers

-- lanes that wait for one another
waits_text : List ℕ
waits_text =
    text_of (codes "lanes 2" ∷ codes "lock L" ∷ codes "cond C on L" ∷ codes "cond D on L" ∷ codes "var n on L = 0" ∷ codes "handler take" ∷ codes "acquire L" ∷ codes "wait D while n == 0" ∷ codes "set n = n - 1" ∷ codes "signal C" ∷ codes "broadcast D" ∷ codes "release L" ∷ codes "reply 1" ∷ [])

waits : Declarations
waits = record {
  lanes = 2;
  locks = (record { name = codes "L"; kind = Plain }) ∷ [];
  semaphores = [];
  conditions = (record { name = codes "C"; lock = 0 }) ∷ (record { name = codes "D"; lock = 0 }) ∷ [];
  variables = (record { name = codes "n"; guard = 0; first = pos 0 }) ∷ [];
  handlers = (record {
    name = codes "take";
    line_number = 6;
    parameters = 0;
    locals = 0;
    lines =
        line.Acquire 0
        ∷ line.Wait 1 (record { first = Variable 0; rest = (record { operator = Equal; operand = Number (pos 0) }) ∷ [] })
        ∷ line.Set 0 (record { first = Variable 0; rest = (record { operator = Sub; operand = Number (pos 1) }) ∷ [] })
        ∷ line.Signal 0
        ∷ line.Broadcast 1
        ∷ line.Release 0
        ∷ line.Reply (record { first = Number (pos 1); rest = [] })
        ∷ [];
    line_numbers = 7 ∷ 8 ∷ 9 ∷ 10 ∷ 11 ∷ 12 ∷ 13 ∷ [];
  }) ∷ [];
}

waits_are_read : declared (answer_of waits_text) ≡ Some waits
unfolding waits_text waits answer_from is_name expr_code new_code lock_code lock_of_code semaphore_code condition_code variable_code local_code number_code digits
waits_are_read = refl

-- a share of a readers-writer lock
shares_text : List ℕ
shares_text =
    text_of (codes "lanes 2" ∷ codes "lock L" ∷ codes "rwlock R" ∷ codes "var a on R = 7" ∷ codes "handler get" ∷ codes "share R" ∷ codes "let v = a" ∷ codes "release R" ∷ codes "clock t" ∷ codes "reply v" ∷ [])

shares : Declarations
shares = record {
  lanes = 2;
  locks = (record { name = codes "L"; kind = Plain }) ∷ (record { name = codes "R"; kind = ReadersWriter }) ∷ [];
  semaphores = [];
  conditions = [];
  variables = (record { name = codes "a"; guard = 1; first = pos 7 }) ∷ [];
  handlers = (record {
    name = codes "get";
    line_number = 5;
    parameters = 0;
    locals = 2;
    lines =
        line.Share 1
        ∷ line.Let 0 (record { first = Variable 0; rest = [] })
        ∷ line.Release 1
        ∷ line.Clock 1
        ∷ line.Reply (record { first = Local 0; rest = [] })
        ∷ [];
    line_numbers = 6 ∷ 7 ∷ 8 ∷ 9 ∷ 10 ∷ [];
  }) ∷ [];
}

shares_are_read : declared (answer_of shares_text) ≡ Some shares
unfolding shares_text shares answer_from is_name expr_code new_code lock_code lock_of_code semaphore_code condition_code variable_code local_code number_code digits
shares_are_read = refl

-- ---- semaphores

-- two lanes that pass one a token
tokens_text : List ℕ
tokens_text =
    text_of (codes "lanes 2" ∷ codes "sem S = 0" ∷ codes "sem T = 1000000" ∷ codes "handler take" ∷ codes "down S" ∷ codes "reply 1" ∷ codes "handler give" ∷ codes "up S" ∷ codes "up T" ∷ codes "reply 2" ∷ [])

tokens : Declarations
tokens = record {
  lanes = 2;
  locks = [];
  semaphores = (record { name = codes "S"; first = 0 }) ∷ (record { name = codes "T"; first = 1000000 }) ∷ [];
  conditions = [];
  variables = [];
  handlers = (record {
    name = codes "take";
    line_number = 4;
    parameters = 0;
    locals = 0;
    lines = line.Down 0 ∷ line.Reply (record { first = Number (pos 1); rest = [] }) ∷ [];
    line_numbers = 5 ∷ 6 ∷ [];
  }) ∷ (record {
    name = codes "give";
    line_number = 7;
    parameters = 0;
    locals = 0;
    lines = line.Up 0 ∷ line.Up 1 ∷ line.Reply (record { first = Number (pos 2); rest = [] }) ∷ [];
    line_numbers = 8 ∷ 9 ∷ 10 ∷ [];
  }) ∷ [];
}

tokens_are_read : declared (answer_of tokens_text) ≡ Some tokens
unfolding tokens_text tokens answer_from is_name expr_code new_code lock_code lock_of_code semaphore_code condition_code variable_code local_code number_code digits
tokens_are_read = refl

-- ---- refusals

-- a comment's bytes must be allowed, too
bad_byte : answer_of (text_of (codes "lanes 1" ∷ (35 ∷ 127 ∷ []) ∷ [])) ≡ Err (2, BadByte)
unfolding answer_from is_name expr_code new_code lock_code lock_of_code semaphore_code condition_code variable_code local_code number_code digits
bad_byte = refl

-- `set` may not stand outside a handler
misplaced : answer_of (text_of (codes "lanes 1" ∷ codes "lock L" ∷ codes "var a on L = 0" ∷ codes "set a = 1" ∷ [])) ≡ Err (4, Misplaced)
unfolding answer_from is_name expr_code new_code lock_code lock_of_code semaphore_code condition_code variable_code local_code number_code digits
misplaced = refl

-- a variable has a guard
bad_form : answer_of (text_of (codes "lanes 1" ∷ codes "lock L" ∷ codes "var a on L" ∷ [])) ≡ Err (3, BadForm)
unfolding answer_from is_name expr_code new_code lock_code lock_of_code semaphore_code condition_code variable_code local_code number_code digits
bad_form = refl

-- a word of the language names nothing
no_name : answer_of (text_of (codes "lanes 1" ∷ codes "lock set" ∷ [])) ≡ Err (2, NoName)
unfolding answer_from is_name expr_code new_code lock_code lock_of_code semaphore_code condition_code variable_code local_code number_code digits
no_name = refl

-- there are at most 64 lanes
no_number : answer_of (text_of (codes "lanes 65" ∷ [])) ≡ Err (1, NoNumber)
unfolding answer_from is_name expr_code new_code lock_code lock_of_code semaphore_code condition_code variable_code local_code number_code digits
no_number = refl

-- operands stand with an operator between each two
bad_expression : answer_of (text_of (codes "lanes 1" ∷ codes "handler h" ∷ codes "reply 5 6" ∷ [])) ≡ Err (3, BadExpression)
unfolding answer_from is_name expr_code new_code lock_code lock_of_code semaphore_code condition_code variable_code local_code number_code digits
bad_expression = refl

-- a local is new on the line after the one that makes it
undeclared : answer_of (text_of (codes "lanes 1" ∷ codes "handler h" ∷ codes "let x = x" ∷ [])) ≡ Err (3, Undeclared)
unfolding answer_from is_name expr_code new_code lock_code lock_of_code semaphore_code condition_code variable_code local_code number_code digits
undeclared = refl

-- a lock is no variable
wrong_kind : answer_of (text_of (codes "lanes 1" ∷ codes "lock L" ∷ codes "handler h" ∷ codes "reply L" ∷ [])) ≡ Err (4, WrongKind)
unfolding answer_from is_name expr_code new_code lock_code lock_of_code semaphore_code condition_code variable_code local_code number_code digits
wrong_kind = refl

-- a handler's parameter doesn't have its name
taken : answer_of (text_of (codes "lanes 1" ∷ codes "handler h h" ∷ [])) ≡ Err (2, Taken)
unfolding answer_from is_name expr_code new_code lock_code lock_of_code semaphore_code condition_code variable_code local_code number_code digits
taken = refl

-- there are at most 16 parameters and locals
too_many : answer_of (text_of (codes "lanes 1" ∷ codes "handler own a b c d" ∷ codes "let e = 0" ∷ codes "let f = 0" ∷ codes "let g = 0" ∷ codes "let h = 0" ∷ codes "let i = 0" ∷ codes "let j = 0" ∷ codes "let k = 0" ∷ codes "let l = 0" ∷ codes "let m = 0" ∷ codes "let n = 0" ∷ codes "let o = 0" ∷ codes "let p = 0" ∷ codes "let q = 0" ∷ [])) ≡ Err (15, TooMany)
unfolding answer_from is_name expr_code new_code lock_code lock_of_code semaphore_code condition_code variable_code local_code number_code digits
too_many = refl

-- `lanes` comes once
lanes_again : answer_of (text_of (codes "lanes 1" ∷ codes "lanes 1" ∷ [])) ≡ Err (2, LanesFirst)
unfolding answer_from is_name expr_code new_code lock_code lock_of_code semaphore_code condition_code variable_code local_code number_code digits
lanes_again = refl

-- `lanes` comes first
lanes_first : answer_of (text_of (codes "lock L" ∷ [])) ≡ Err (1, LanesFirst)
unfolding answer_from is_name expr_code new_code lock_code lock_of_code semaphore_code condition_code variable_code local_code number_code digits
lanes_first = refl

-- a text ends after a handler
unended : answer_of (text_of (codes "lanes 1" ∷ codes "handler h" ∷ [])) ≡ Err (3, Unended)
unfolding answer_from is_name expr_code new_code lock_code lock_of_code semaphore_code condition_code variable_code local_code number_code digits
unended = refl

-- a word closes the innermost open block alone
closes_another : answer_of (text_of (codes "lanes 1" ∷ codes "handler h" ∷ codes "if 1" ∷ codes "repeat 2" ∷ codes "endif" ∷ [])) ≡ Err (5, Misplaced)
unfolding answer_from is_name expr_code new_code lock_code lock_of_code semaphore_code condition_code variable_code local_code number_code digits
closes_another = refl

-- a second `else` divides nothing
second_else : answer_of (text_of (codes "lanes 1" ∷ codes "handler h" ∷ codes "if 1" ∷ codes "else" ∷ codes "else" ∷ [])) ≡ Err (5, Misplaced)
unfolding answer_from is_name expr_code new_code lock_code lock_of_code semaphore_code condition_code variable_code local_code number_code digits
second_else = refl

-- a `try` has a `busy`
endtry_first : answer_of (text_of (codes "lanes 1" ∷ codes "lock L" ∷ codes "handler h" ∷ codes "try L" ∷ codes "endtry" ∷ [])) ≡ Err (5, Misplaced)
unfolding answer_from is_name expr_code new_code lock_code lock_of_code semaphore_code condition_code variable_code local_code number_code digits
endtry_first = refl

-- outside all blocks nothing is divided
busy_alone : answer_of (text_of (codes "lanes 1" ∷ codes "handler h" ∷ codes "busy" ∷ [])) ≡ Err (3, Misplaced)
unfolding answer_from is_name expr_code new_code lock_code lock_of_code semaphore_code condition_code variable_code local_code number_code digits
busy_alone = refl

-- a fifth loop is too deep, also inside a branch
too_deep : answer_of (text_of (codes "lanes 1" ∷ codes "handler h" ∷ codes "repeat 1" ∷ codes "repeat 1" ∷ codes "repeat 1" ∷ codes "repeat 1" ∷ codes "if 1" ∷ codes "repeat 1" ∷ [])) ≡ Err (8, TooDeep)
unfolding answer_from is_name expr_code new_code lock_code lock_of_code semaphore_code condition_code variable_code local_code number_code digits
too_deep = refl

-- a `reply` stands outside all blocks
reply_in_block : answer_of (text_of (codes "lanes 1" ∷ codes "handler h" ∷ codes "if 1" ∷ codes "reply 0" ∷ [])) ≡ Err (4, ReplyInBlock)
unfolding answer_from is_name expr_code new_code lock_code lock_of_code semaphore_code condition_code variable_code local_code number_code digits
reply_in_block = refl

-- a plain lock has no shares
plain_share : answer_of (text_of (codes "lanes 1" ∷ codes "lock L" ∷ codes "handler h" ∷ codes "share L" ∷ [])) ≡ Err (4, WrongKind)
unfolding answer_from is_name expr_code new_code lock_code lock_of_code semaphore_code condition_code variable_code local_code number_code digits
plain_share = refl

-- a readers-writer lock isn't tried
try_readers : answer_of (text_of (codes "lanes 1" ∷ codes "rwlock R" ∷ codes "handler h" ∷ codes "try R" ∷ [])) ≡ Err (4, WrongKind)
unfolding answer_from is_name expr_code new_code lock_code lock_of_code semaphore_code condition_code variable_code local_code number_code digits
try_readers = refl

-- a condition isn't declared above itself
condition_of_itself : answer_of (text_of (codes "lanes 1" ∷ codes "cond C on C" ∷ [])) ≡ Err (2, Undeclared)
unfolding answer_from is_name expr_code new_code lock_code lock_of_code semaphore_code condition_code variable_code local_code number_code digits
condition_of_itself = refl

-- a loop has 1 to 1,000 turns
no_turns : answer_of (text_of (codes "lanes 1" ∷ codes "handler h" ∷ codes "repeat 1001" ∷ [])) ≡ Err (3, NoNumber)
unfolding answer_from is_name expr_code new_code lock_code lock_of_code semaphore_code condition_code variable_code local_code number_code digits
no_turns = refl

-- a semaphore's first value is at most 1,000,000
first_too_great : answer_of (text_of (codes "lanes 1" ∷ codes "sem S = 1000001" ∷ [])) ≡ Err (2, NoNumber)
unfolding answer_from is_name expr_code new_code lock_code lock_of_code semaphore_code condition_code variable_code local_code number_code digits
first_too_great = refl

-- a lock is no semaphore
lock_down : answer_of (text_of (codes "lanes 1" ∷ codes "lock L" ∷ codes "handler h" ∷ codes "down L" ∷ [])) ≡ Err (4, WrongKind)
unfolding answer_from is_name expr_code new_code lock_code lock_of_code semaphore_code condition_code variable_code local_code number_code digits
lock_down = refl

-- ---- the codes that fit a line

-- one lane, a lock, and a handler that is open
begun : Above
begun = above_from nothing 1 (codes "lanes 1" ∷ codes "lock L" ∷ codes "handler h x" ∷ [])

-- a lock that is set, to an expression of two words, of which the first is declared nowhere
thrice_bad : List ℕ
thrice_bad = codes "set L = q +"

thrice_bad_words : List Word
thrice_bad_words = codes "L" ∷ codes "=" ∷ codes "q" ∷ codes "+" ∷ []

thrice_bad_has : HasWords thrice_bad (codes "set") thrice_bad_words
unfolding thrice_bad thrice_bad_words
thrice_bad_has = record { allowed = AllPass-from_list_all is_allowed thrice_bad refl; meant = refl; words = refl }

thrice_bad_stands : StandsAs begun (codes "set") form.Set
unfolding begun above_from is_name new_code
thrice_bad_stands = record { known = refl; side = refl; block = refl }

thrice_bad_fills : Fill (slots form.Set) thrice_bad_words
unfolding thrice_bad_words
thrice_bad_fills = (codes "L", codes "=" ∷ codes "q" ∷ codes "+" ∷ [], refl, (codes "q" ∷ codes "+" ∷ [], refl, omega arith))

-- P6 fits it, for the number of words
even_fits : Fits begun thrice_bad BadExpression
unfolding thrice_bad_words
even_fits = (codes "set", thrice_bad_words, thrice_bad_has, (form.Set, thrice_bad_stands, thrice_bad_fills, (1, Whole 2, omega arith, refl, inl (1, refl))))

-- so does P7, for `q`
unknown_fits : Fits begun thrice_bad Undeclared
unfolding thrice_bad_words begun above_from is_name new_code
unknown_fits = (codes "set", thrice_bad_words, thrice_bad_has, (form.Set, thrice_bad_stands, thrice_bad_fills, (2, At Operand (codes "q"), omega arith, refl, (refl, refl))))

-- and P8, for `L`
lock_fits : Fits begun thrice_bad WrongKind
unfolding thrice_bad_words begun above_from is_name new_code
lock_fits = (codes "set", thrice_bad_words, thrice_bad_has, (form.Set, thrice_bad_stands, thrice_bad_fills, (0, At (NameOf AVariable) (codes "L"), omega arith, refl, (refl, Declared (meaning.Lock 0), refl, refl))))

-- P6 is answered
even_answered : raw_code begun thrice_bad ≡ Some BadExpression
unfolding thrice_bad begun above_from is_name expr_code new_code lock_code lock_of_code semaphore_code condition_code variable_code local_code number_code digits
even_answered = refl

-- P7 and P8 would be wrong answers, though they fit
unknown_is_wrong : ¬ (IsLeast rank (Fits begun thrice_bad) Undeclared)
unknown_is_wrong l = l.least BadExpression (omega arith) even_fits

kind_is_wrong : ¬ (IsLeast rank (Fits begun thrice_bad) WrongKind)
kind_is_wrong l = l.least BadExpression (omega arith) even_fits

-- a first line that declares a lock with no name
nameless : List ℕ
nameless = codes "lock set"

nameless_has : HasWords nameless (codes "lock") (codes "set" ∷ [])
unfolding nameless
nameless_has = record { allowed = AllPass-from_list_all is_allowed nameless refl; meant = refl; words = refl }

nameless_stands : StandsAs nothing (codes "lock") form.Lock
nameless_stands = record { known = refl; side = refl; block = refl }

-- P4 fits it, for the name
name_fits : Fits nothing nameless NoName
unfolding is_name
name_fits = (codes "lock", codes "set" ∷ [], nameless_has, (form.Lock, nameless_stands, (codes "set", [], refl, refl), (0, At (NewName []) (codes "set"), omega arith, refl, refl)))

-- and P12, for no lanes are declared
order_fits : Fits nothing nameless LanesFirst
order_fits = (codes "lock", codes "set" ∷ [], nameless_has, (form.Lock, nameless_stands, (codes "set", [], refl, refl), inl (refl, λ e. absurd cc)))

-- P12 would be a wrong answer
order_is_wrong : ¬ (IsLeast rank (Fits nothing nameless) LanesFirst)
order_is_wrong l = l.least NoName (omega arith) name_fits

-- so would none
none_is_wrong : raw_code nothing nameless ≡ None → ⊥
none_is_wrong e = (lines_get_the_least nothing nameless).none.0 e NoName name_fits

-- a line that stands where it may not fits P2, and then not P5
outside : List ℕ
outside = codes "repeat 0"

outside_has : HasWords outside (codes "repeat") (codes "0" ∷ [])
unfolding outside
outside_has = record { allowed = AllPass-from_list_all is_allowed outside refl; meant = refl; words = refl }

-- a `repeat` stands inside a handler
no_repeat : (f : Form) → ¬ (StandsAs nothing (codes "repeat") f)
no_repeat f s = let is : form.Repeat ≡ f = let e : Some form.Repeat ≡ Some f = s.known in cc in let side : true ≡ false = subst (λ (g : Form). is_inside g ≡ false) (sym is) s.side in cc

outside_fits : Fits nothing outside Misplaced
outside_fits = (codes "repeat", codes "0" ∷ [], outside_has, no_repeat)

number_hidden : ¬ (Fits nothing outside NoNumber)
number_hidden h = let same : NoNumber ≡ Misplaced = alone nothing outside Misplaced NoNumber (omega arith) outside_fits h in cc
