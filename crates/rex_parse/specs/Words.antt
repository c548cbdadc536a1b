-- Names, and the least of several codes.
use Rattle.std.specs.Prelude.{◌==◌, ◌&&◌, ◌||◌, ℕ, Bool, false, List, [], ◌∷◌, nat_le, Option, Some, None, codes, length, if◌then◌else◌, not}
use Rattle.std.specs.List.{list_all, list_any}
use Rattle.std.specs.Str.{bytes_eq}
use Rattle.rex_text.specs.Text.{Word}
use Rattle.rex_parse.specs.declared.language.ServiceCode.{ServiceCode}
use Rattle.rex_parse.specs.declared.language.ServiceCode.TheVariants.{BadByte, Misplaced, BadForm, NoName, NoNumber, BadExpression, Undeclared, WrongKind, Taken, TooDeep, TooMany, LanesFirst, ReplyInBlock, Unended}
use Rattle.rex_syntax.specs.declared.service.TheConstants.{NAME_BYTES}

-- an ASCII letter
abbrev pub is_letter : ℕ → Bool
is_letter b = (nat_le 65 b && nat_le b 90) || (nat_le 97 b && nat_le b 122)

-- an ASCII digit
abbrev pub is_digit : ℕ → Bool
is_digit b = nat_le 48 b && nat_le b 57

-- a word begins with a letter
abbrev pub begins_letter : Word → Bool
begins_letter [] = false
begins_letter (b ∷ bs) = is_letter b

-- a letter, a digit or `_`
abbrev pub is_name_byte : ℕ → Bool
is_name_byte b = is_letter b || (is_digit b || b == 95)

-- the words of the language, which name nothing
abbrev pub reserved : List Word
reserved =
    codes "lanes" ∷ codes "lock" ∷ codes "rwlock" ∷ codes "sem" ∷ codes "cond" ∷ codes "on" ∷ codes "var" ∷ codes "handler" ∷ codes "acquire" ∷ codes "share" ∷ codes "release"
    ∷ codes "try" ∷ codes "busy" ∷ codes "endtry" ∷ codes "wait" ∷ codes "while" ∷ codes "signal" ∷ codes "broadcast" ∷ codes "down" ∷ codes "up" ∷ codes "set" ∷ codes "let" ∷ codes "clock" ∷ codes "random"
    ∷ codes "if" ∷ codes "else" ∷ codes "endif" ∷ codes "repeat" ∷ codes "endrepeat" ∷ codes "reply" ∷ []

-- one of the words of the language
abbrev pub is_reserved : Word → Bool
is_reserved w = list_any (λ r. bytes_eq r w) reserved

-- a letter, then letters, digits and `_`, not too many, and no word of the language
unfoldable pub is_name : Word → Bool
is_name w = begins_letter w && (list_all is_name_byte w && (nat_le (length w) NAME_BYTES && not (is_reserved w)))

-- the number of a code
abbrev pub rank : ServiceCode → ℕ
rank BadByte = 1
rank Misplaced = 2
rank BadForm = 3
rank NoName = 4
rank NoNumber = 5
rank BadExpression = 6
rank Undeclared = 7
rank WrongKind = 8
rank Taken = 9
rank TooDeep = 10
rank TooMany = 11
rank LanesFirst = 12
rank ReplyInBlock = 13
rank Unended = 14

-- the code with the lesser number
abbrev pub lesser : ServiceCode → ServiceCode → ServiceCode
lesser a b = if nat_le (rank a) (rank b) then a else b

-- the lesser of two codes that fit
abbrev pub least : Option ServiceCode → Option ServiceCode → Option ServiceCode
least None b = b
least (Some a) None = Some a
least (Some a) (Some b) = Some (lesser a b)

-- a code that fits where the test holds
abbrev pub fits : Bool → ServiceCode → Option ServiceCode
fits b c = if b then Some c else None
