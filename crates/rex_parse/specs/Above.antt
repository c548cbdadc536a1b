-- What the lines above a line have declared.
use Rattle.std.specs.Prelude.{ℕ, Bool, List, [], ◌∷◌, Option, Some, None, is_some, find, option_map}
use Rattle.std.specs.List.{list_any, position_or_len}
use Rattle.std.specs.Str.{bytes_eq}
use Rattle.rex_text.specs.Text.{Word}
use Rattle.rex_parse.specs.declared.language.Above.{Above}
use Rattle.rex_parse.specs.declared.language.Entry.{Entry}
use Rattle.rex_parse.specs.declared.language.Meaning.{Meaning}
use Rattle.rex_parse.specs.declared.language.OpenHandler.{OpenHandler}
use Rattle.rex_parse.specs.declared.blocks.BlockKind.{BlockKind}
use Rattle.rex_parse.specs.declared.blocks.OpenBlock.{OpenBlock}

-- before the first line
abbrev pub nothing : Above
nothing = record { lanes = None; names = []; locks = []; semaphores = []; conditions = []; variables = []; handlers = []; locals = []; open_handler = None }

-- what the name of an entry stands for
abbrev pub meaning_in : Entry → Meaning
meaning_in e = e.meaning

-- what a declared name stands for
abbrev pub meaning_of : Above → Word → Option Meaning
meaning_of a w = option_map meaning_in (find (λ (e : Entry). bytes_eq e.name w) a.names)

-- a name that is declared above
abbrev pub is_declared : Above → Word → Bool
is_declared a w = is_some (meaning_of a w)

-- a parameter or a local of the open handler
abbrev pub is_local : Above → Word → Bool
is_local a w = list_any (λ l. bytes_eq l w) a.locals

-- its number, from 0
abbrev pub local_place : Above → Word → ℕ
local_place a w = position_or_len (λ l. bytes_eq l w) a.locals

-- a handler's lines are being read
abbrev pub is_open : Above → Bool
is_open a = is_some a.open_handler

-- the open blocks of a handler whose lines may be being read, innermost first
abbrev pub blocks_in : Option OpenHandler → List OpenBlock
blocks_in None = []
blocks_in (Some h) = h.blocks

-- the open blocks, innermost first
abbrev pub blocks_of : Above → List OpenBlock
blocks_of a = blocks_in a.open_handler

-- the kind of the first of some blocks
abbrev pub first_kind : List OpenBlock → Option BlockKind
first_kind [] = None
first_kind (b ∷ rest) = Some b.kind

-- the kind of the innermost open block
abbrev pub innermost : Above → Option BlockKind
innermost a = first_kind (blocks_of a)
