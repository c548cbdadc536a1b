-- Lines that grow by one stay lines whose done ones lead on.
use Rattle.std.proofs.Common.{◌≡◌, ℕ, zero, suc, ◌+◌, ◌<◌, ◌≤◌, Bool, true, false, cond, ◌||◌, eqb, List, [], ◌∷◌, ◌++◌, length, Option, Some, None, refl, sym, ap, subst, ◌∙◌, arith, inl, inr, ◌⊎◌, length-append}
use Rattle.std.specs.Prelude.{slice_get, slice_set}
use Rattle.std.proofs.lemmas.Bool.{eqb-true, eqb-false, both_ways}
use Rattle.std.proofs.lemmas.List.{length-set}
use Rattle.std.proofs.lemmas.Option.{same_Some, slice_get_within}
use Rattle.rex_syntax.specs.declared.line.Line.{Line}
use Rattle.rex_syntax.specs.Blocks.{Block, blocks_after, is_reply_line}
use Rattle.rex_syntax.specs.Shape.{open_after, open_from, open_at, LeadsOn, is_divider, IsBranch, HasBranches}
use Rattle.rex_parse.specs.Growing.{block_of, kinds_of, blocks_from, loop_of, loops_of, Begins, IsBegun, AreBegun, is_begin, IsGrowing}
use Rattle.rex_parse.specs.declared.blocks.BlockKind.{BlockKind}
use Rattle.rex_parse.specs.declared.blocks.OpenBlock.{OpenBlock}
use Rattle.rex_parse.proofs.GoesOn.{IsLike, target_of, GoesOn, more_go_on, set_goes_on, set_more_goes_on, slice_get-set_same, slice_get-set_other, leads_on, branch_on}

-- ---- one more line

pub slice_get-last : (xs : List Line) (l : Line) → slice_get (xs ++ l ∷ []) (length xs) ≡ Some l
slice_get-last [] l = refl
slice_get-last (x ∷ xs) l = slice_get-last xs l

-- a line of lines and one more is one of them, or is the one more
pub last_or_before : (xs : List Line) (l : Line) (place : ℕ) (line : Line) → slice_get (xs ++ l ∷ []) place ≡ Some line → (slice_get xs place ≡ Some line) ⊎ ((l ≡ line) × (place ≡ length xs))
last_or_before [] l zero line e = inr (same_Some l line e, refl)
last_or_before [] l (suc place) line e = absurd cc
last_or_before (x ∷ xs) l zero line e = inl e
last_or_before (x ∷ xs) l (suc place) line e = elim (last_or_before xs l place line e) [
  | inl q ↦ inl q
  | inr q ↦ inr (q.0, ap suc q.1)
]

open_step_from : (start : ℕ) (loops : List ℕ) (xs : List Line) (i : ℕ) (l : Line) → slice_get xs i ≡ Some l → open_from start loops xs (suc i) ≡ open_after l (start + i) (open_from start loops xs i)
open_step_from start loops [] i l e = absurd cc
open_step_from start loops (x ∷ []) zero l e = let at : start + 0 ≡ start = omega arith in rw (same_Some x l e, at) refl
open_step_from start loops (x ∷ y ∷ xs) zero l e = let at : start + 0 ≡ start = omega arith in rw (same_Some x l e, at) refl
open_step_from start loops (x ∷ xs) (suc i) l e =
    let at : start + suc i ≡ start + 1 + i = omega arith in
    rw at (open_step_from (start + 1) (open_after x start loops) xs i l e)

-- the loops that are open after a line
pub open_step : (xs : List Line) (i : ℕ) (l : Line) → slice_get xs i ≡ Some l → open_at xs (i + 1) ≡ open_after l i (open_at xs i)
open_step xs i l e =
    let one : i + 1 ≡ suc i = omega arith in
    let at : 0 + i ≡ i = omega arith in
    let step = open_step_from 0 [] xs i l e in
    rw one (rw at at step)

-- the same of the last line
pub open_last : (xs : List Line) (l : Line) → open_at (xs ++ l ∷ []) (length xs + 1) ≡ open_after l (length xs) (open_at xs (length xs))
open_last xs l = open_step (xs ++ l ∷ []) (length xs) l (slice_get-last xs l) ∙ ap (open_after l (length xs)) ((more_go_on xs (l ∷ [])).loops (length xs) (omega arith))

open_end : (xs : List Line) (l : Line) → open_at (xs ++ l ∷ []) (length (xs ++ l ∷ [])) ≡ open_after l (length xs) (open_at xs (length xs))
open_end xs l = let more : length (xs ++ l ∷ []) ≡ length xs + 1 = length-append xs (l ∷ []) in rw more (open_last xs l)

blocks_from_push : (o : Option (List Block)) (xs ys : List Line) → blocks_from o (xs ++ ys) ≡ blocks_from (blocks_from o xs) ys
blocks_from_push None [] ys = refl
blocks_from_push None (x ∷ xs) ys = refl
blocks_from_push (Some blocks) [] ys = refl
blocks_from_push (Some blocks) (x ∷ xs) ys = blocks_from_push (cond (is_reply_line x) None (blocks_after x blocks)) xs ys

-- a line that learns where it leads changes no block
pub blocks_from_set : (o : Option (List Block)) (xs : List Line) (k : ℕ) (x y : Line) → slice_get xs k ≡ Some x → IsLike x y → blocks_from o (slice_set xs k y) ≡ blocks_from o xs
blocks_from_set None xs k x y e like = refl
blocks_from_set (Some blocks) [] k x y e like = absurd cc
blocks_from_set (Some blocks) (z ∷ xs) zero x y e like =
    let same : cond (is_reply_line y) None (blocks_after y blocks) ≡ cond (is_reply_line z) None (blocks_after z blocks) = rw (same_Some z x e, like.reply, like.blocks blocks) refl in
    ap (λ o. blocks_from o xs) same
blocks_from_set (Some blocks) (z ∷ xs) (suc k) x y e like = blocks_from_set (cond (is_reply_line z) None (blocks_after z blocks)) xs k x y e like

-- the blocks after lines and one more, which is no reply
pub blocks_more : (o : Option (List Block)) (xs : List Line) (l : Line) (blocks more : List Block) → blocks_from o xs ≡ Some blocks → is_reply_line l ≡ false → blocks_after l blocks ≡ Some more → blocks_from o (xs ++ l ∷ []) ≡ Some more
blocks_more o xs l blocks more was no_reply is =
    let same : cond (is_reply_line l) None (blocks_after l blocks) ≡ Some more = rw no_reply is in
    blocks_from_push o xs (l ∷ []) ∙ ap (λ p. blocks_from p (l ∷ [])) was ∙ ap (λ p. blocks_from p []) same

-- ---- open blocks

-- blocks stay open over lines that are the same up to a bound
begun_by : (old new : List Line) (bound : ℕ) (blocks : List OpenBlock) → ((i : ℕ) → i < bound → slice_get new i ≡ slice_get old i) → ((i : ℕ) → i < bound → open_at new i ≡ open_at old i) → AreBegun old bound blocks → AreBegun new bound blocks
begun_by old new bound [] same loops h = tt
begun_by old new bound (b ∷ rest) same loops h =
    let first : IsBegun old bound b rest = h.0 in (
      record {
        earlier = first.earlier;
        line = first.line;
        there = same b.line first.earlier ∙ first.there;
        begins = first.begins;
        inside = loops b.line first.earlier ∙ first.inside;
      },
      begun_by old new b.line rest (λ i lt. same i (omega (arith, first.earlier))) (λ i lt. loops i (omega (arith, first.earlier))) h.1,
    )

-- what was begun before a line was begun before a later one
begun_later : (lines : List Line) (m n : ℕ) (blocks : List OpenBlock) → m ≤ n → AreBegun lines m blocks → AreBegun lines n blocks
begun_later lines m n [] le h = tt
begun_later lines m n (b ∷ rest) le h =
    let first : IsBegun lines m b rest = h.0 in
    (record { earlier = omega (arith, first.earlier); line = first.line; there = first.there; begins = first.begins; inside = first.inside }, h.1)

-- ---- before a line

-- lines to which this one comes: those that began open blocks are waiting, and the others lead on
pub record IsReady (lines : List Line) (blocks : List OpenBlock) (l : Line) : Type 0 where
  pub begun : AreBegun lines (length lines) blocks
  pub lead : (next : Line) (place : ℕ) (line : Line) → slice_get lines place ≡ Some line → is_begin blocks place ≡ false → LeadsOn ((lines ++ l ∷ []) ++ next ∷ []) place line
  pub branches : HasBranches lines

within_more : (xs : List Line) (l : Line) (place : ℕ) (line : Line) → slice_get xs place ≡ Some line → place < length (xs ++ l ∷ [])
within_more xs l place line there = let lt : place < length xs = slice_get_within xs place line there in omega (arith, length-append xs (l ∷ []))

-- lines that grow are ready for any line
pub ready : (lines : List Line) (blocks : List OpenBlock) (l : Line) → IsGrowing lines blocks → IsReady lines blocks l
ready lines blocks l g = record {
  begun = g.begun;
  lead = λ next place line there other. leads_on (lines ++ l ∷ []) ((lines ++ l ∷ []) ++ next ∷ []) (more_go_on (lines ++ l ∷ []) (next ∷ [])) place line (within_more lines l place line there) (g.lead l place line there other);
  branches = g.branches;
}

-- ---- the innermost block's line learns where it leads

module _ (lines : List Line) (k : ℕ) (x y : Line) (there : slice_get lines k ≡ Some x) (like : IsLike x y) (unknown : target_of x ≡ 0) where
  branches_set : HasBranches lines → HasBranches (slice_set lines k y)
  branches_set old = record { each = λ place line at divides. branch_on lines (slice_set lines k y) (set_goes_on lines k x y there like unknown) (place + 1) (omega arith) (before place line at divides (eqb k place) refl) } where
    before : (place : ℕ) (line : Line) → slice_get (slice_set lines k y) place ≡ Some line → is_divider line ≡ true → (b : Bool) → eqb k place ≡ b → IsBranch lines (place + 1)
    before place line at divides true is =
        let same : k ≡ place = eqb-true k place is in
        let line_is : y ≡ line = same_Some y line (sym (slice_get-set_same lines k x y there) ∙ ap (slice_get (slice_set lines k y)) same ∙ at) in
        old.each place x (rw (← same) there) (sym like.divider ∙ ap is_divider line_is ∙ divides)
    before place line at divides false is = old.each place line (sym (slice_get-set_other lines k place y (eqb-false k place is)) ∙ at) divides

or_parts : (b c : Bool) → (b || c) ≡ false → (b ≡ false) × (c ≡ false)
or_parts true c e = absurd cc
or_parts false c e = (refl, e)

-- the block's line leads to where the block ends, and the lines around it are ready for the line that comes
pub ready_set : (lines : List Line) (b : OpenBlock) (rest : List OpenBlock) (x y l : Line) → slice_get lines b.line ≡ Some x → IsLike x y → target_of x ≡ 0 → IsGrowing lines (b ∷ rest)
    → ((next : Line) → LeadsOn ((slice_set lines b.line y ++ l ∷ []) ++ next ∷ []) b.line y) → IsReady (slice_set lines b.line y) rest l
ready_set lines b rest x y l there like unknown g to = record {
  begun = begun_later new b.line (length new) rest (omega (arith, g.begun.0.earlier, length-set lines b.line y))
      (begun_by lines new b.line rest (λ i lt. slice_get-set_other lines b.line i y (λ e. omega (arith, e))) (λ i lt. same.loops i (omega (arith, g.begun.0.earlier))) g.begun.1);
  lead = λ next place line at other. lead_at next place line at other (eqb b.line place) refl;
  branches = branches_set lines b.line x y there like unknown g.branches;
} where
  new : List Line
  new = slice_set lines b.line y

  same : GoesOn lines new
  same = set_goes_on lines b.line x y there like unknown

  lead_at : (next : Line) (place : ℕ) (line : Line) → slice_get new place ≡ Some line → is_begin rest place ≡ false → (e : Bool) → eqb b.line place ≡ e → LeadsOn ((new ++ l ∷ []) ++ next ∷ []) place line
  lead_at next place line at other true is =
      let place_is : b.line ≡ place = eqb-true b.line place is in
      let line_is : y ≡ line = same_Some y line (sym (slice_get-set_same lines b.line x y there) ∙ ap (slice_get new) place_is ∙ at) in
      subst (λ (q : ℕ). LeadsOn ((new ++ l ∷ []) ++ next ∷ []) q line) place_is (subst (λ (m : Line). LeadsOn ((new ++ l ∷ []) ++ next ∷ []) b.line m) line_is (to next))
  lead_at next place line at other false is =
      let was : slice_get lines place ≡ Some line = sym (slice_get-set_other lines b.line place y (eqb-false b.line place is)) ∙ at in
      let none : (eqb b.line place || is_begin rest place) ≡ false = rw is other in
      let old : LeadsOn (new ++ l ∷ []) place line =
      leads_on (lines ++ l ∷ []) (new ++ l ∷ []) (set_more_goes_on lines (l ∷ []) b.line x y there like unknown) place line (within_more lines l place line was) (g.lead l place line was none) in
      leads_on (new ++ l ∷ []) ((new ++ l ∷ []) ++ next ∷ []) (more_go_on (new ++ l ∷ []) (next ∷ [])) place line (within_more new l place line at) old

-- ---- after a line

slice_get-before : (xs ys : List Line) (i : ℕ) → i < length xs → slice_get (xs ++ ys) i ≡ slice_get xs i
slice_get-before [] ys i lt = absurd (omega arith)
slice_get-before (x ∷ xs) ys zero lt = refl
slice_get-before (x ∷ xs) ys (suc i) lt = slice_get-before xs ys i (omega arith)

begun_more : (lines : List Line) (l : Line) (blocks : List OpenBlock) → AreBegun lines (length lines) blocks → AreBegun (lines ++ l ∷ []) (length lines) blocks
begun_more lines l blocks h =
    begun_by lines (lines ++ l ∷ []) (length lines) blocks (λ i lt. slice_get-before lines (l ∷ []) i lt) (λ i lt. (more_go_on lines (l ∷ [])).loops i (omega arith)) h

-- second branches stay, and the line may be one that divides
pub branches_more : (lines : List Line) (l : Line) → HasBranches lines → (is_divider l ≡ true → IsBranch lines (length lines + 1)) → HasBranches (lines ++ l ∷ [])
branches_more lines l old last = record { each = λ place line at divides. branch_on lines (lines ++ l ∷ []) (more_go_on lines (l ∷ [])) (place + 1) (omega arith) (branch_at place line divides (last_or_before lines l place line at)) } where
  branch_at : (place : ℕ) (line : Line) → is_divider line ≡ true → (slice_get lines place ≡ Some line) ⊎ ((l ≡ line) × (place ≡ length lines)) → IsBranch lines (place + 1)
  branch_at place line divides (inl there) = old.each place line there divides
  branch_at place line divides (inr q) = rw q.1 (last (ap is_divider q.0 ∙ divides))

-- a line that opens nothing and leads on
pub grows_on : (lines : List Line) (blocks : List OpenBlock) (l : Line) → IsReady lines blocks l → blocks_from (Some []) (lines ++ l ∷ []) ≡ Some (kinds_of blocks)
    → open_after l (length lines) (open_at lines (length lines)) ≡ loops_of blocks → length (loops_of blocks) ≤ 4 → ((next : Line) → LeadsOn ((lines ++ l ∷ []) ++ next ∷ []) (length lines) l) → is_divider l ≡ false
    → IsGrowing (lines ++ l ∷ []) blocks
grows_on lines blocks l r matched loops few leads undivided = record {
  matched = matched;
  loops = open_end lines l ∙ loops;
  few = few;
  begun = begun_later (lines ++ l ∷ []) (length lines) (length (lines ++ l ∷ [])) blocks (omega (arith, length-append lines (l ∷ []))) (begun_more lines l blocks r.begun);
  lead = λ next place line at other. lead_at next place line other (last_or_before lines l place line at);
  branches = branches_more lines l r.branches (λ e. absurd (both_ways (is_divider l) undivided e));
} where
  lead_at : (next : Line) (place : ℕ) (line : Line) → is_begin blocks place ≡ false → (slice_get lines place ≡ Some line) ⊎ ((l ≡ line) × (place ≡ length lines)) → LeadsOn ((lines ++ l ∷ []) ++ next ∷ []) place line
  lead_at next place line other (inl there) = r.lead next place line there other
  lead_at next place line other (inr q) =
      subst (λ (p : ℕ). LeadsOn ((lines ++ l ∷ []) ++ next ∷ []) p line) (sym q.1) (subst (λ (m : Line). LeadsOn ((lines ++ l ∷ []) ++ next ∷ []) (length lines) m) q.0 (leads next))

-- a line that begins a block
pub grows_in : (lines : List Line) (rest : List OpenBlock) (kind : BlockKind) (l : Line) → IsReady lines rest l → blocks_from (Some []) (lines ++ l ∷ []) ≡ Some (block_of kind ∷ kinds_of rest)
    → open_at lines (length lines) ≡ loops_of rest → open_after l (length lines) (loops_of rest) ≡ loops_of rest ++ loop_of kind (length lines) → length (loops_of rest ++ loop_of kind (length lines)) ≤ 4
    → Begins kind l → (is_divider l ≡ true → IsBranch lines (length lines + 1)) → IsGrowing (lines ++ l ∷ []) ((record { kind = kind; line = length lines }) ∷ rest)
grows_in lines rest kind l r matched inside loops few begins branch = record {
  matched = matched;
  loops = open_end lines l ∙ ap (open_after l (length lines)) inside ∙ loops;
  few = few;
  begun = (
    record {
      earlier = omega (arith, length-append lines (l ∷ []));
      line = l;
      there = slice_get-last lines l;
      begins = begins;
      inside = (more_go_on lines (l ∷ [])).loops (length lines) (omega arith) ∙ inside;
    },
    begun_more lines l rest r.begun,
  );
  lead = λ next place line at other. lead_at next place line (or_parts (eqb (length lines) place) (is_begin rest place) other) (last_or_before lines l place line at);
  branches = branches_more lines l r.branches branch;
} where
  lead_at : (next : Line) (place : ℕ) (line : Line) → (eqb (length lines) place ≡ false) × (is_begin rest place ≡ false) → (slice_get lines place ≡ Some line) ⊎ ((l ≡ line) × (place ≡ length lines))
      → LeadsOn ((lines ++ l ∷ []) ++ next ∷ []) place line
  lead_at next place line other (inl there) = r.lead next place line there other.1
  lead_at next place line other (inr q) = absurd (eqb-false (length lines) place other.0 (sym q.1))
