-- Blocks: each line that divides or closes a block does so to the innermost open one.
use Rattle.std.specs.Prelude.{Bool, true, false, List, [], ◌∷◌, Option, Some, None}
use Rattle.rex_syntax.specs.declared.line.Line.{Line}
use Rattle.rex_syntax.specs.declared.line.Line.TheVariants.{Try, Busy, EndTry, If, Else, EndIf, Repeat, EndRepeat, Reply}

-- an open block: a branch of an `if` or a `try`, or a loop
pub data Block : Type 0 where
  Then : Block
  Otherwise : Block
  Got : Block
  Missed : Block
  Loop : Block

-- the open blocks after a line, innermost first, where the line may stand inside these
abbrev pub blocks_after : Line → List Block → Option (List Block)
blocks_after (If test otherwise) open_blocks = Some (Then ∷ open_blocks)
blocks_after (Try lock busy) open_blocks = Some (Got ∷ open_blocks)
blocks_after (Repeat turns after) open_blocks = Some (Loop ∷ open_blocks)
blocks_after (Else end) (Then ∷ rest) = Some (Otherwise ∷ rest)
blocks_after (Else end) _ = None
blocks_after (Busy end) (Got ∷ rest) = Some (Missed ∷ rest)
blocks_after (Busy end) _ = None
blocks_after EndIf (Then ∷ rest) = Some rest
blocks_after EndIf (Otherwise ∷ rest) = Some rest
blocks_after EndIf _ = None
blocks_after EndTry (Missed ∷ rest) = Some rest
blocks_after EndTry _ = None
blocks_after EndRepeat (Loop ∷ rest) = Some rest
blocks_after EndRepeat _ = None
blocks_after (Reply value) [] = Some []
blocks_after (Reply value) _ = None
blocks_after _ open_blocks = Some open_blocks

-- it ends a handler
abbrev pub is_reply_line : Line → Bool
is_reply_line (Reply value) = true
is_reply_line _ = false

-- the lines are matched inside these open blocks, and end with the first reply
abbrev pub is_matched_in : Option (List Block) → List Line → Bool
is_matched_in None lines = false
is_matched_in (Some open_blocks) [] = false
is_matched_in (Some open_blocks) (line ∷ []) = elim (blocks_after line open_blocks) [ None ↦ false | Some blocks ↦ is_reply_line line ]
is_matched_in (Some open_blocks) (line ∷ next ∷ lines) = elim (is_reply_line line) [ true ↦ false | false ↦ is_matched_in (blocks_after line open_blocks) (next ∷ lines) ]

-- the blocks of a handler's lines are matched, and its one reply is its last line
abbrev pub is_matched : List Line → Bool
is_matched lines = is_matched_in (Some []) lines
