-- A handler's reply is its last line.
use Rattle.std.proofs.Common.{◌≡◌, ℕ, zero, suc, ◌+◌, List, [], ◌∷◌, length, arith, refl, Bool, true, false}
use Rattle.std.specs.Prelude.{Option, Some, None, slice_get}
use Rattle.rex_syntax.specs.declared.line.Line.{Line}
use Rattle.rex_syntax.specs.Blocks.{Block, blocks_after, is_reply_line, is_matched_in}

matched_by : (b rest : Bool) → (elim b [ true ↦ false | false ↦ rest ]) ≡ true → (b ≡ false) × (rest ≡ true)
matched_by true rest m = absurd (cc)
matched_by false rest m = (refl, m)

matched_rest : (line next : Line) (open_blocks : List Block) (lines : List Line) → is_matched_in (Some open_blocks) (line ∷ next ∷ lines) ≡ true → (is_reply_line line ≡ false) × (is_matched_in (blocks_after line open_blocks) (next ∷ lines) ≡ true)
matched_rest line next open_blocks lines m = matched_by (is_reply_line line) (is_matched_in (blocks_after line open_blocks) (next ∷ lines)) m

-- a reply is the last line
pub reply_last : (blocks : Option (List Block)) (lines : List Line) (place : ℕ) (line : Line) → is_matched_in blocks lines ≡ true → slice_get lines place ≡ Some line → is_reply_line line ≡ true → place + 1 ≡ length lines
reply_last None lines place line m e r = absurd (cc)
reply_last (Some open_blocks) [] place line m e r = absurd (cc)
reply_last (Some open_blocks) (l ∷ []) zero line m e r = omega arith
reply_last (Some open_blocks) (l ∷ []) (suc place) line m e r = absurd (cc)
reply_last (Some open_blocks) (l ∷ next ∷ lines) zero line m e r =
    let same : l ≡ line = cc in
    absurd (let f : is_reply_line l ≡ false = (matched_rest l next open_blocks lines m).0 in let g : is_reply_line l ≡ true = rw same r in cc)
reply_last (Some open_blocks) (l ∷ next ∷ lines) (suc place) line m e r =
    omega (arith, reply_last (blocks_after l open_blocks) (next ∷ lines) place line (matched_rest l next open_blocks lines m).1 e r)
