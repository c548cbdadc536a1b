-- What a line does to the blocks around it.
use Rattle.std.proofs.Common.{◌≡◌, ℕ, ◌<◌, Bool, true, false, List, [], ◌∷◌, ◌++◌, Some, refl, sym, append-nil}
use Rattle.rex_syntax.specs.declared.line.Line.{Line}
use Rattle.rex_syntax.specs.declared.line.Line.TheVariants.{Try, Busy, EndTry, If, Else, EndIf, Repeat, EndRepeat, Reply}
use Rattle.rex_syntax.specs.declared.expr.Expr.{Expr}
use Rattle.rex_syntax.specs.Blocks.{Block, blocks_after, is_reply_line}
use Rattle.rex_syntax.specs.Shape.{open_after, HasNext, LeadsOn, is_divider, branch_of}
use Rattle.rex_parse.specs.Table.{suits}
use Rattle.rex_parse.specs.After.{led_to}
use Rattle.rex_parse.specs.declared.language.Form.TheVariants as form
use Rattle.rex_parse.specs.Growing.{block_of, loop_of, Begins}
use Rattle.rex_parse.specs.declared.blocks.BlockKind.{BlockKind}
use Rattle.rex_parse.specs.declared.blocks.BlockKind.TheVariants as block

-- ---- plain lines

-- a line that leads to the next one alone, and opens and closes nothing
abbrev pub is_plain : Line → Bool
is_plain (Try lock busy) = false
is_plain (Busy end) = false
is_plain EndTry = false
is_plain (If test otherwise) = false
is_plain (Else end) = false
is_plain EndIf = false
is_plain (Repeat turns after) = false
is_plain EndRepeat = false
is_plain (Reply value) = false
is_plain _ = true

-- what a plain line does
pub record IsStraight (l : Line) : Type 0 where
  pub no_reply : is_reply_line l ≡ false
  pub undivided : is_divider l ≡ false
  pub blocks : (blocks : List Block) → blocks_after l blocks ≡ Some blocks
  pub loops : (place : ℕ) (loops : List ℕ) → open_after l place loops ≡ loops
  pub leads : (lines : List Line) (place : ℕ) → HasNext lines place → LeadsOn lines place l

pub straight : (l : Line) → is_plain l ≡ true → IsStraight l
straight (Try lock busy) e = absurd cc
straight (Busy end) e = absurd cc
straight EndTry e = absurd cc
straight (If test otherwise) e = absurd cc
straight (Else end) e = absurd cc
straight EndIf e = absurd cc
straight (Repeat turns after) e = absurd cc
straight EndRepeat e = absurd cc
straight (Reply value) e = absurd cc
straight _ e = record { no_reply = refl; undivided = refl; blocks = λ bs. refl; loops = λ p ls. refl; leads = λ ls p h. h }

-- ---- lines that open a block

-- what a line that opens a block of a kind does
pub record Opens (kind : BlockKind) (l : Line) : Type 0 where
  pub begins : Begins kind l
  pub no_reply : is_reply_line l ≡ false
  pub undivided : is_divider l ≡ false
  pub blocks : (blocks : List Block) → blocks_after l blocks ≡ Some (block_of kind ∷ blocks)
  pub loops : (place : ℕ) (loops : List ℕ) → open_after l place loops ≡ loops ++ loop_of kind place

pub if_opens : (test : Expr) → Opens block.Then (If test 0)
if_opens test = record { begins = refl; no_reply = refl; undivided = refl; blocks = λ bs. refl; loops = λ p ls. sym (append-nil ls) }

pub try_opens : (lock : ℕ) → Opens block.Got (Try lock 0)
try_opens lock = record { begins = refl; no_reply = refl; undivided = refl; blocks = λ bs. refl; loops = λ p ls. sym (append-nil ls) }

pub repeat_opens : (turns : ℕ) → 0 < turns → Opens block.Loop (Repeat turns 0)
repeat_opens turns some = record { begins = (some, refl); no_reply = refl; undivided = refl; blocks = λ bs. refl; loops = λ p ls. refl }

-- ---- lines that end a block of a kind and begin one of another

-- what a line that divides a block does
pub record Divides (old new : BlockKind) (l : Line) : Type 0 where
  pub begins : Begins new l
  pub no_reply : is_reply_line l ≡ false
  pub blocks : (blocks : List Block) → blocks_after l (block_of old ∷ blocks) ≡ Some (block_of new ∷ blocks)
  pub loops : (place : ℕ) (loops : List ℕ) → open_after l place loops ≡ loops
  pub no_loop : (place : ℕ) → loop_of old place ≡ []
  pub still_none : (place : ℕ) → loop_of new place ≡ []
  pub fork : (x : Line) (target : ℕ) → Begins old x → branch_of (led_to target x) ≡ Some target

then_forks : (x : Line) (target : ℕ) → Begins block.Then x → branch_of (led_to target x) ≡ Some target
then_forks (If test otherwise) target h = refl
then_forks x target h = absurd h

got_forks : (x : Line) (target : ℕ) → Begins block.Got x → branch_of (led_to target x) ≡ Some target
got_forks (Try lock busy) target h = refl
got_forks x target h = absurd h

else_divides : Divides block.Then block.Otherwise (Else 0)
else_divides = record { begins = refl; no_reply = refl; blocks = λ bs. refl; loops = λ p ls. refl; no_loop = λ p. refl; still_none = λ p. refl; fork = then_forks }

busy_divides : Divides block.Got block.Missed (Busy 0)
busy_divides = record { begins = refl; no_reply = refl; blocks = λ bs. refl; loops = λ p ls. refl; no_loop = λ p. refl; still_none = λ p. refl; fork = got_forks }

pub else_suits : (k : BlockKind) → suits form.Else (Some k) ≡ true → Divides k block.Otherwise (Else 0)
else_suits block.Then e = else_divides
else_suits k e = absurd cc

pub busy_suits : (k : BlockKind) → suits form.Busy (Some k) ≡ true → Divides k block.Missed (Busy 0)
busy_suits block.Got e = busy_divides
busy_suits k e = absurd cc

-- ---- lines that close a block that is no loop

-- what a line that closes a block does
pub record Closes (kind : BlockKind) (l : Line) : Type 0 where
  pub no_reply : is_reply_line l ≡ false
  pub undivided : is_divider l ≡ false
  pub blocks : (blocks : List Block) → blocks_after l (block_of kind ∷ blocks) ≡ Some blocks
  pub loops : (place : ℕ) (loops : List ℕ) → open_after l place loops ≡ loops
  pub no_loop : (place : ℕ) → loop_of kind place ≡ []
  pub leads : (lines : List Line) (place : ℕ) → HasNext lines place → LeadsOn lines place l

endif_closes_then : Closes block.Then EndIf
endif_closes_then = record { no_reply = refl; undivided = refl; blocks = λ bs. refl; loops = λ p ls. refl; no_loop = λ p. refl; leads = λ ls p h. h }

endif_closes_otherwise : Closes block.Otherwise EndIf
endif_closes_otherwise = record { no_reply = refl; undivided = refl; blocks = λ bs. refl; loops = λ p ls. refl; no_loop = λ p. refl; leads = λ ls p h. h }

endtry_closes : Closes block.Missed EndTry
endtry_closes = record { no_reply = refl; undivided = refl; blocks = λ bs. refl; loops = λ p ls. refl; no_loop = λ p. refl; leads = λ ls p h. h }

pub endif_suits : (k : BlockKind) → suits form.EndIf (Some k) ≡ true → Closes k EndIf
endif_suits block.Then e = endif_closes_then
endif_suits block.Otherwise e = endif_closes_otherwise
endif_suits k e = absurd cc

pub endtry_suits : (k : BlockKind) → suits form.EndTry (Some k) ≡ true → Closes k EndTry
endtry_suits block.Missed e = endtry_closes
endtry_suits k e = absurd cc
