-- The lines of an open handler: which blocks are open after them, and that all but the lines that began those lead on.
use Rattle.std.specs.Prelude.{◌≡◌, ℕ, ◌+◌, ◌<◌, ◌≤◌, Bool, false, cond, List, [], ◌∷◌, ◌++◌, length, eqb, Option, Some, None, slice_get}
use Rattle.std.specs.List.{list_any}
use Rattle.rex_syntax.specs.declared.line.Line.{Line}
use Rattle.rex_syntax.specs.declared.line.Line.TheVariants.{Try, Busy, If, Else, Repeat}
use Rattle.rex_syntax.specs.Blocks.{Block, Then, Otherwise, Got, Missed, Loop, blocks_after, is_reply_line}
use Rattle.rex_syntax.specs.Shape.{open_at, LeadsOn, HasBranches}
use Rattle.rex_syntax.specs.declared.service.TheConstants.{LOOPS}
use Rattle.rex_parse.specs.declared.blocks.BlockKind.{BlockKind}
use Rattle.rex_parse.specs.declared.blocks.BlockKind.TheVariants as block
use Rattle.rex_parse.specs.declared.blocks.OpenBlock.{OpenBlock}

-- what an open block is
abbrev pub block_of : BlockKind → Block
block_of block.Then = Then
block_of block.Otherwise = Otherwise
block_of block.Got = Got
block_of block.Missed = Missed
block_of block.Loop = Loop

-- what open blocks are
abbrev pub kinds_of : List OpenBlock → List Block
kinds_of [] = []
kinds_of (b ∷ rest) = block_of b.kind ∷ kinds_of rest

-- the open blocks after lines none of which is a reply, where the lines may stand inside these
abbrev pub blocks_from : Option (List Block) → List Line → Option (List Block)
blocks_from None lines = None
blocks_from (Some blocks) [] = Some blocks
blocks_from (Some blocks) (line ∷ lines) = blocks_from (cond (is_reply_line line) None (blocks_after line blocks)) lines

-- the loop that a block is, if it is one, by the first line of its body
abbrev pub loop_of : BlockKind → ℕ → List ℕ
loop_of block.Loop line = (line + 1) ∷ []
loop_of _ line = []

-- the loops among open blocks, outermost first
abbrev pub loops_of : List OpenBlock → List ℕ
loops_of [] = []
loops_of (b ∷ rest) = loops_of rest ++ loop_of b.kind b.line

-- a line that begins a block of a kind, and doesn't know yet where that block leads
abbrev pub Begins : BlockKind → Line → Type 0
Begins block.Then (If test otherwise) = otherwise ≡ 0
Begins block.Otherwise (Else end) = end ≡ 0
Begins block.Got (Try lock busy) = busy ≡ 0
Begins block.Missed (Busy end) = end ≡ 0
Begins block.Loop (Repeat turns after) = (0 < turns) × (after ≡ 0)
Begins kind line = ⊥

-- an open block inside others: an earlier line than this one began it, inside their loops
pub record IsBegun (lines : List Line) (bound : ℕ) (b : OpenBlock) (others : List OpenBlock) : Type 0 where
  pub earlier : b.line < bound
  pub line : Line
  pub there : slice_get lines b.line ≡ Some line
  pub begins : Begins b.kind line
  pub inside : open_at lines b.line ≡ loops_of others

-- each block was begun, the inner ones after the outer ones
abbrev pub AreBegun : List Line → ℕ → List OpenBlock → Type 0
AreBegun lines bound [] = Unit {0}
AreBegun lines bound (b ∷ others) = IsBegun lines bound b others × AreBegun lines b.line others

-- the line at this place began an open block
abbrev pub is_begin : List OpenBlock → ℕ → Bool
is_begin blocks place = list_any (λ (b : OpenBlock). eqb b.line place) blocks

-- lines after which these blocks are open, no more loops among them than may be open: whichever line comes next, all others than those that began these blocks lead on
pub record IsGrowing (lines : List Line) (blocks : List OpenBlock) : Type 0 where
  pub matched : blocks_from (Some []) lines ≡ Some (kinds_of blocks)
  pub loops : open_at lines (length lines) ≡ loops_of blocks
  pub few : length (loops_of blocks) ≤ LOOPS
  pub begun : AreBegun lines (length lines) blocks
  pub lead : (next : Line) (place : ℕ) (line : Line) → slice_get lines place ≡ Some line → is_begin blocks place ≡ false → LeadsOn (lines ++ next ∷ []) place line
  pub branches : HasBranches lines
