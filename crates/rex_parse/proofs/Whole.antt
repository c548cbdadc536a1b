-- Lines that grew and a reply make a handler, where no block is open.
use Rattle.std.proofs.Common.{◌≡◌, ℕ, Bool, true, false, cond, List, [], ◌∷◌, ◌++◌, length, Option, Some, None, refl, sym, ◌∙◌, arith, inl, inr, ◌⊎◌}
use Rattle.std.specs.Prelude.{slice_get}
use Rattle.std.proofs.lemmas.Bool.{true≢false}
use Rattle.std.proofs.lemmas.Option.{same_Some}
use Rattle.rex_syntax.specs.declared.expr.Expr.{Expr}
use Rattle.rex_syntax.specs.declared.line.Line.{Line}
use Rattle.rex_syntax.specs.declared.line.Line.TheVariants.{Reply}
use Rattle.rex_syntax.specs.Blocks.{Block, blocks_after, is_reply_line, is_matched_in, is_matched}
use Rattle.rex_syntax.specs.Shape.{LeadsOn, IsShaped, HasBranches}
use Rattle.rex_parse.specs.Growing.{blocks_from, IsGrowing}
use Rattle.rex_parse.proofs.GoesOn.{more_go_on}
use Rattle.rex_parse.proofs.Grows.{last_or_before, branches_more}

-- ---- blocks

parts : (reply : Bool) (o : Option (List Block)) (ls : List Line) (blocks : List Block) → blocks_from (cond reply None o) ls ≡ Some blocks → (reply ≡ false) × (blocks_from o ls ≡ Some blocks)
parts true o ls blocks e = absurd cc
parts false o ls blocks e = (refl, e)

pass : (blocks : List Block) (l next : Line) (ls : List Line) → is_reply_line l ≡ false → is_matched_in (blocks_after l blocks) (next ∷ ls) ≡ true → is_matched_in (Some blocks) (l ∷ next ∷ ls) ≡ true
pass blocks l next ls no_reply e = rw (is_matched_in, no_reply) e

matched_from : (o : Option (List Block)) (ls : List Line) (value : Expr) → blocks_from o ls ≡ Some [] → is_matched_in o (ls ++ Reply value ∷ []) ≡ true
matched_from None ls value e = absurd cc
matched_from (Some blocks) [] value e = rw (same_Some blocks [] e) refl
matched_from (Some blocks) (l ∷ []) value e =
    let p : (is_reply_line l ≡ false) × (blocks_from (blocks_after l blocks) [] ≡ Some []) = parts (is_reply_line l) (blocks_after l blocks) [] [] e in
    pass blocks l (Reply value) [] p.0 (matched_from (blocks_after l blocks) [] value p.1)
matched_from (Some blocks) (l ∷ m ∷ ls) value e =
    let p : (is_reply_line l ≡ false) × (blocks_from (blocks_after l blocks) (m ∷ ls) ≡ Some []) = parts (is_reply_line l) (blocks_after l blocks) (m ∷ ls) [] e in
    pass blocks l m (ls ++ Reply value ∷ []) p.0 (matched_from (blocks_after l blocks) (m ∷ ls) value p.1)

pub matched : (ls : List Line) (value : Expr) → IsGrowing ls [] → is_matched (ls ++ Reply value ∷ []) ≡ true
matched ls value g = matched_from (Some []) ls value g.matched

-- ---- where lines lead

leads_at : (ls : List Line) (value : Expr) (place : ℕ) (line : Line) → IsGrowing ls [] → (slice_get ls place ≡ Some line) ⊎ ((Reply value ≡ line) × (place ≡ length ls)) → LeadsOn (ls ++ Reply value ∷ []) place line
leads_at ls value place line g (inl there) = g.lead (Reply value) place line there refl
leads_at ls value place line g (inr q) = rw (← q.0, q.1) ((more_go_on ls (Reply value ∷ [])).loops (length ls) (omega arith) ∙ g.loops)

pub shaped : (ls : List Line) (value : Expr) → IsGrowing ls [] → IsShaped (ls ++ Reply value ∷ [])
shaped ls value g = record { each = λ place line there. leads_at ls value place line g (last_or_before ls (Reply value) place line there) }

-- ---- second branches

pub branches : (ls : List Line) (value : Expr) → IsGrowing ls [] → HasBranches (ls ++ Reply value ∷ [])
branches ls value g = branches_more ls (Reply value) g.branches (λ e. absurd (true≢false (sym e)))
