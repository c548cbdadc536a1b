-- What clients name: the request that a line spells, and the number of a variable.
use Rattle.std.specs.Prelude.{◌==◌, ◌&&◌, ℕ, ℤ, Bool, List, [], ◌∷◌, length, nat_le, Option, Some, None, position, if◌then◌else◌}
use Rattle.std.specs.Str.{bytes_eq}
use Rattle.rex_text.specs.Text.{Word, words_of}
use Rattle.rex_text.specs.Numbers.{u64_at, i64_at}
use Rattle.rex_wire.specs.Ranges.{is_between}
use Rattle.rex_list.specs.declared.arguments.TheConstants.{ARGUMENTS}
use Rattle.rex_event.specs.declared.event.TheConstants.{CLIENTS, SEQUENCES}
use Rattle.rex_syntax.specs.declared.request.Request.{Request}
use Rattle.rex_syntax.specs.declared.service.Handler.{Handler}
use Rattle.rex_syntax.specs.declared.service.Variable.{Variable}
use Rattle.rex_syntax.specs.declared.service.Declarations.{Declarations}

-- a value, where there is one, and then what comes of it
infixl 10 ◌>>=◌
abbrev pub ◌>>=◌ : {A B : Type 0} → Option A → (A → Option B) → Option B
(Some x) >>= f = f x
None >>= f = None

-- ---- the words of a request

-- the number of this range that a word spells
abbrev pub count_of : ℕ → ℕ → Word → Option ℕ
count_of least most word = u64_at word >>= λ n. if is_between least most n then Some n else None

-- a client's number
abbrev pub client_of : Word → Option ℕ
client_of word = count_of 1 CLIENTS word

-- a place among a client's requests
abbrev pub sequence_of : Word → Option ℕ
sequence_of word = count_of 1 SEQUENCES word

-- the numbers that words spell, where each spells one of 64 bits
abbrev pub numbers_of : List Word → Option (List ℤ)
numbers_of [] = Some []
numbers_of (word ∷ words) = do
  first ← i64_at word
  others ← numbers_of words
  Some (first ∷ others)

-- the same where a request may have so many arguments
abbrev pub arguments_of : List Word → Option (List ℤ)
arguments_of words = if nat_le (length words) ARGUMENTS then numbers_of words else None

-- the handler has the name, and takes so many arguments
abbrev pub is_taking : List ℕ → ℕ → Handler → Bool
is_taking name count handler = bytes_eq handler.name name && (handler.parameters == count)

-- the number of the first such handler
abbrev pub handler_taking : Declarations → List ℕ → ℕ → Option ℕ
handler_taking service name count = position (is_taking name count) service.handlers

-- ---- what is named

-- the request that words spell: a client, a sequence, a handler's name, and as many arguments as the handler takes
abbrev pub request_of : Declarations → List Word → Option Request
request_of service (c ∷ s ∷ name ∷ words) = do
  client ← client_of c
  sequence ← sequence_of s
  arguments ← arguments_of words
  handler ← handler_taking service name (length arguments)
  Some (record { client = client; sequence = sequence; handler = handler; arguments = arguments })
request_of service _ = None

-- the request that a line spells
abbrev pub request_in : Declarations → List ℕ → Option Request
request_in service line = request_of service (words_of line)

-- the variable has the name
abbrev pub is_named : List ℕ → Variable → Bool
is_named name variable = bytes_eq variable.name name

-- the number of the first such variable
abbrev pub variable_named : Declarations → List ℕ → Option ℕ
variable_named service name = position (is_named name) service.variables
