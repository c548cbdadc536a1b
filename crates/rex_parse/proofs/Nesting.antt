-- Lines stay lines whose done ones lead on where a block opens, is divided or closes.
use Rattle.std.proofs.Common.{◌≡◌, ℕ, ◌+◌, ◌-◌, ◌<◌, ◌≤◌, true, false, cond, List, [], ◌∷◌, ◌++◌, length, take, Some, None, refl, sym, ap, subst, ◌∙◌, arith, length-append, append-nil}
use Rattle.std.specs.Prelude.{drop, count_by, slice_get, slice_set, slice_index, slice_index_or}
use Rattle.std.specs.List.{All}
use Rattle.std.proofs.lemmas.List.Elements.{All-set}
use Rattle.std.proofs.lemmas.Bool.{both_ways}
use Rattle.std.proofs.lemmas.List.Sums.{sum_by-cons}
use Rattle.std.proofs.lemmas.List.{length-set}
use Rattle.std.proofs.Math.Seq.{take-append_seam, get_or-append_seam}
use Rattle.std.proofs.lemmas.Option.{get_or_from_slice_get}
use Rattle.rex_syntax.specs.declared.line.Line.{Line}
use Rattle.rex_syntax.specs.declared.line.Line.TheVariants.{Try, Busy, If, Else, EndIf, Repeat, EndRepeat}
use Rattle.rex_syntax.specs.declared.service.Declarations.{Declarations}
use Rattle.rex_syntax.specs.Service.{LineNames}
use Rattle.rex_syntax.specs.Blocks.{blocks_after}
use Rattle.rex_syntax.specs.Shape.{open_after, open_at, IsForward, HasNext, EndsLoop, LeadsOn}
use Rattle.rex_parse.specs.After.{led_to, with_block_target}
use Rattle.rex_parse.specs.Above.{first_kind}
use Rattle.rex_parse.specs.Table.{suits, is_loop_kind, is_loop}
use Rattle.rex_parse.specs.declared.language.Form.{Form}
use Rattle.rex_parse.specs.declared.language.Form.TheVariants as form
use Rattle.rex_parse.specs.Growing.{block_of, kinds_of, blocks_from, loop_of, loops_of, Begins, IsGrowing}
use Rattle.rex_parse.specs.declared.blocks.BlockKind.{BlockKind}
use Rattle.rex_parse.specs.declared.blocks.BlockKind.TheVariants as block
use Rattle.rex_parse.specs.declared.blocks.OpenBlock.{OpenBlock}
use Rattle.rex_parse.proofs.Extends.{slice_get-push}
use Rattle.rex_parse.proofs.GoesOn.{IsLike, like_led, target_of, GoesOn, more_go_on, set_goes_on, both_go_on, slice_get-set_same}
use Rattle.rex_parse.proofs.Grows.{IsReady, ready, ready_set, grows_on, grows_in, blocks_more, blocks_from_set, open_step, open_last}
use Rattle.rex_parse.proofs.LineRoles.{IsStraight, Opens, Divides, Closes}

-- ---- nothing ends

-- a plain line comes
pub plain_grows : (lines : List Line) (blocks : List OpenBlock) (l : Line) → IsStraight l → IsGrowing lines blocks → IsGrowing (lines ++ l ∷ []) blocks
plain_grows lines blocks l s g =
    grows_on lines blocks l (ready lines blocks l g) (blocks_more (Some []) lines l (kinds_of blocks) (kinds_of blocks) g.matched s.no_reply (s.blocks (kinds_of blocks)))
    (s.loops (length lines) (open_at lines (length lines)) ∙ g.loops) g.few (λ next. s.leads _ (length lines) (omega (arith, length-append (lines ++ l ∷ []) (next ∷ []), length-append lines (l ∷ [])))) s.undivided

-- a line comes that opens a block
pub opening_grows : (lines : List Line) (blocks : List OpenBlock) (kind : BlockKind) (l : Line) → Opens kind l → length (loops_of blocks) + length (loop_of kind (length lines)) ≤ 4 → IsGrowing lines blocks
    → IsGrowing (lines ++ l ∷ []) ((record { kind = kind; line = length lines }) ∷ blocks)
opening_grows lines blocks kind l o room g =
    grows_in lines blocks kind l (ready lines blocks l g) (blocks_more (Some []) lines l (kinds_of blocks) _ g.matched o.no_reply (o.blocks (kinds_of blocks)))
    g.loops (o.loops (length lines) (loops_of blocks)) (omega (arith, room, length-append (loops_of blocks) (loop_of kind (length lines)))) o.begins (λ e. absurd (both_ways _ o.undivided e))

-- how many loops are open
pub loop_length : (kind : BlockKind) (m n : ℕ) → length (loop_of kind m) ≡ length (loop_of kind n)
loop_length block.Loop m n = refl
loop_length kind m n = refl

loop_counted : (kind : BlockKind) (n : ℕ) → length (loop_of kind n) ≡ cond (is_loop_kind kind) 1 0
loop_counted block.Loop n = refl
loop_counted kind n = refl

pub loops_counted : (blocks : List OpenBlock) → length (loops_of blocks) ≡ count_by is_loop blocks
loops_counted [] = refl
loops_counted (b ∷ rest) =
    omega (arith, length-append (loops_of rest) (loop_of b.kind b.line), loop_counted b.kind b.line, loops_counted rest, sum_by-cons (λ (x : OpenBlock). cond (is_loop x) 1 0) b rest)

-- ---- the line of a block that ends

-- the line of an open block doesn't know where it leads
unknown : (kind : BlockKind) (x : Line) → Begins kind x → target_of x ≡ 0
unknown block.Then (If test otherwise) h = h
unknown block.Otherwise (Else end) h = h
unknown block.Got (Try lock busy) h = h
unknown block.Missed (Busy end) h = h
unknown block.Loop (Repeat turns after) h = h.1
unknown kind x h = absurd h

-- it leads on where its target is further on, inside the same loops
begun_leads : (kind : BlockKind) (x : Line) (all : List Line) (place target : ℕ) → Begins kind x → HasNext all place → IsForward all place target → length (open_at all place) + length (loop_of kind place) ≤ 4
    → LeadsOn all place (led_to target x)
begun_leads block.Then (If test otherwise) all place target h next forward room = (next, forward)
begun_leads block.Otherwise (Else end) all place target h next forward room = forward
begun_leads block.Got (Try lock busy) all place target h next forward room = (next, forward)
begun_leads block.Missed (Busy end) all place target h next forward room = forward
begun_leads block.Loop (Repeat turns after) all place target h next forward room = record { next = next; some = h.0; room = omega arith; over = forward }
begun_leads kind x all place target h next forward room = absurd h

module _ (lines : List Line) (b : OpenBlock) (rest : List OpenBlock) (x y l : Line) (g : IsGrowing lines (b ∷ rest)) (there : slice_get lines b.line ≡ Some x) (none : target_of x ≡ 0) (like : IsLike x y) where
  new_on : GoesOn lines (slice_set lines b.line y)
  new_on = set_goes_on lines b.line x y there like none

  all_on : (next : Line) → GoesOn lines ((slice_set lines b.line y ++ l ∷ []) ++ next ∷ [])
  all_on next =
      both_go_on lines _ _ new_on
      (both_go_on (slice_set lines b.line y) _ _ (more_go_on (slice_set lines b.line y) (l ∷ [])) (more_go_on (slice_set lines b.line y ++ l ∷ []) (next ∷ [])))

  all_length : (next : Line) → length ((slice_set lines b.line y ++ l ∷ []) ++ next ∷ []) ≡ length lines + 2
  all_length next = omega (arith, length-set lines b.line y, length-append (slice_set lines b.line y) (l ∷ []), length-append (slice_set lines b.line y ++ l ∷ []) (next ∷ []))

  open_begin : (next : Line) → open_at ((slice_set lines b.line y ++ l ∷ []) ++ next ∷ []) b.line ≡ loops_of rest
  open_begin next = (all_on next).loops b.line (omega (arith, g.begun.0.earlier)) ∙ g.begun.0.inside

  open_here : (next : Line) → open_at ((slice_set lines b.line y ++ l ∷ []) ++ next ∷ []) (length lines) ≡ loops_of rest ++ loop_of b.kind b.line
  open_here next = (all_on next).loops (length lines) (omega arith) ∙ g.loops

  open_new : open_at (slice_set lines b.line y) (length lines) ≡ loops_of rest ++ loop_of b.kind b.line
  open_new = new_on.loops (length lines) (omega arith) ∙ g.loops

  open_next : (next : Line) → open_at ((slice_set lines b.line y ++ l ∷ []) ++ next ∷ []) (length lines + 1) ≡ open_after l (length lines) (loops_of rest ++ loop_of b.kind b.line)
  open_next next =
      let long : length (slice_set lines b.line y) ≡ length lines = length-set lines b.line y in
      let last = open_last (slice_set lines b.line y) l in
      (more_go_on (slice_set lines b.line y ++ l ∷ []) (next ∷ [])).loops (length lines + 1) (omega (arith, long, length-append (slice_set lines b.line y) (l ∷ []))) ∙ rw long at last
      ∙ ap (open_after l (length lines)) open_new

  matched_new : blocks_from (Some []) (slice_set lines b.line y) ≡ Some (kinds_of (b ∷ rest))
  matched_new = blocks_from_set (Some []) lines b.line x y there like ∙ g.matched

-- its lines are ready once it knows its target
ending : (lines : List Line) (b : OpenBlock) (rest : List OpenBlock) (x l : Line) (target : ℕ) → IsGrowing lines (b ∷ rest) → slice_get lines b.line ≡ Some x → Begins b.kind x → b.line < target → target < length lines + 2
    → ((next : Line) → open_at ((slice_set lines b.line (led_to target x) ++ l ∷ []) ++ next ∷ []) target ≡ loops_of rest) → IsReady (slice_set lines b.line (led_to target x)) rest l
ending lines b rest x l target g there begins later inside same_loops =
    let none : target_of x ≡ 0 = unknown b.kind x begins in
    let like : IsLike x (led_to target x) = like_led target x in
    ready_set lines b rest x (led_to target x) l there like none g (λ next.
    let long : length ((slice_set lines b.line (led_to target x) ++ l ∷ []) ++ next ∷ []) ≡ length lines + 2 = all_length lines b rest x (led_to target x) l g there none like next in
    let at : open_at ((slice_set lines b.line (led_to target x) ++ l ∷ []) ++ next ∷ []) b.line ≡ loops_of rest = open_begin lines b rest x (led_to target x) l g there none like next in
    begun_leads b.kind x ((slice_set lines b.line (led_to target x) ++ l ∷ []) ++ next ∷ []) b.line target begins (omega (arith, long, g.begun.0.earlier))
    (record { later = later; inside = omega (arith, long, inside); same = same_loops next ∙ sym at })
    (omega (arith, ap length at, g.few, length-append (loops_of rest) (loop_of b.kind b.line))))

-- ---- a block ends, and another begins

no_loop_left : (xs ys : List ℕ) → ys ≡ [] → xs ++ ys ≡ xs
no_loop_left xs ys none = ap (λ (zs : List ℕ). xs ++ zs) none ∙ append-nil xs

divide : (lines : List Line) (b : OpenBlock) (rest : List OpenBlock) (kind : BlockKind) (x l : Line) (target : ℕ) → Divides b.kind kind l → target ≡ length lines + 1 → IsGrowing lines (b ∷ rest)
    → slice_get lines b.line ≡ Some x → Begins b.kind x → IsGrowing (slice_set lines b.line (led_to target x) ++ l ∷ []) ((record { kind = kind; line = length (slice_set lines b.line (led_to target x)) }) ∷ rest)
divide lines b rest kind x l target d is g there begins =
    let y : Line = led_to target x in
    let like : IsLike x y = like_led target x in
    let none : target_of x ≡ 0 = unknown b.kind x begins in
    let new : List Line = slice_set lines b.line y in
    let long : length new ≡ length lines = length-set lines b.line y in
    let bare : loops_of rest ++ loop_of b.kind b.line ≡ loops_of rest = no_loop_left (loops_of rest) (loop_of b.kind b.line) (d.no_loop b.line) in
    let still : loops_of rest ++ loop_of kind (length new) ≡ loops_of rest = no_loop_left (loops_of rest) (loop_of kind (length new)) (d.still_none (length new)) in
    let before : open_at new (length new) ≡ loops_of rest = ap (open_at new) long ∙ open_new lines b rest x y l g there none like ∙ bare in
    grows_in new rest kind l
    (ending lines b rest x l target g there begins (omega (arith, g.begun.0.earlier)) (omega arith) (λ next.
    ap (open_at ((new ++ l ∷ []) ++ next ∷ [])) is ∙ open_next lines b rest x y l g there none like next ∙ d.loops (length lines) (loops_of rest ++ loop_of b.kind b.line) ∙ bare))
    (blocks_more (Some []) new l (kinds_of (b ∷ rest)) _ (matched_new lines b rest x y l g there none like) d.no_reply (d.blocks (kinds_of rest)))
    before (d.loops (length new) (loops_of rest) ∙ sym still) (omega (arith, ap length still, g.few, length-append (loops_of rest) (loop_of b.kind b.line))) d.begins
    (λ e. record { from = b.line; fork = y; there = slice_get-set_same lines b.line x y there; earlier = omega (arith, g.begun.0.earlier); leads = d.fork x target begins ∙ ap Some is ∙ ap (λ (n : ℕ). Some (n + 1)) (sym long) })

-- ---- a block ends that is no loop

close : (lines : List Line) (b : OpenBlock) (rest : List OpenBlock) (x l : Line) (target : ℕ) → Closes b.kind l → target ≡ length lines → IsGrowing lines (b ∷ rest) → slice_get lines b.line ≡ Some x → Begins b.kind x
    → IsGrowing (slice_set lines b.line (led_to target x) ++ l ∷ []) rest
close lines b rest x l target d is g there begins =
    let y : Line = led_to target x in
    let like : IsLike x y = like_led target x in
    let none : target_of x ≡ 0 = unknown b.kind x begins in
    let new : List Line = slice_set lines b.line y in
    let long : length new ≡ length lines = length-set lines b.line y in
    let bare : loops_of rest ++ loop_of b.kind b.line ≡ loops_of rest = no_loop_left (loops_of rest) (loop_of b.kind b.line) (d.no_loop b.line) in
    let before : open_at new (length new) ≡ loops_of rest = ap (open_at new) long ∙ open_new lines b rest x y l g there none like ∙ bare in
    grows_on new rest l
    (ending lines b rest x l target g there begins (omega (arith, g.begun.0.earlier)) (omega arith) (λ next.
    ap (open_at ((new ++ l ∷ []) ++ next ∷ [])) is ∙ open_here lines b rest x y l g there none like next ∙ bare))
    (blocks_more (Some []) new l (kinds_of (b ∷ rest)) _ (matched_new lines b rest x y l g there none like) d.no_reply (d.blocks (kinds_of rest)))
    (d.loops (length new) (open_at new (length new)) ∙ before) (omega (arith, g.few, length-append (loops_of rest) (loop_of b.kind b.line)))
    (λ next. d.leads ((new ++ l ∷ []) ++ next ∷ []) (length new) (omega (arith, length-append new (l ∷ []), length-append (new ++ l ∷ []) (next ∷ [])))) d.undivided

-- ---- a loop ends

take_last : (xs : List ℕ) (x : ℕ) → take (length (xs ++ x ∷ []) - 1) (xs ++ x ∷ []) ≡ xs
take_last xs x = let n : length (xs ++ x ∷ []) - 1 ≡ length xs = omega (arith, length-append xs (x ∷ [])) in rw n (take-append_seam xs (x ∷ []))

last_is : (xs : List ℕ) (x : ℕ) → slice_index (xs ++ x ∷ []) (length (xs ++ x ∷ []) - 1) ≡ x
last_is xs x = let n : length (xs ++ x ∷ []) - 1 ≡ length xs = omega (arith, length-append xs (x ∷ [])) in rw n (get_or-append_seam xs x [] 0)

-- a loop's last line leads back to its first one
ends_loop : (all : List Line) (place line turns : ℕ) (outer : List ℕ) → line < place → place + 1 < length all → slice_get all line ≡ Some (Repeat turns (place + 1)) → open_at all line ≡ outer → open_at all place ≡ outer ++ (line + 1) ∷ []
    → EndsLoop all place
ends_loop all place line turns outer lt next there begin here =
    let body : slice_index (open_at all place) (length (open_at all place) - 1) ≡ line + 1 = rw here (last_is outer (line + 1)) in
    let minus : line + 1 - 1 ≡ line = omega arith in
    record {
      next = next;
      some = omega (arith, ap length here, length-append outer ((line + 1) ∷ []));
      first = omega (arith, body);
      after = rw (body, minus, there) refl;
      back = omega (arith, body);
      again = ap (open_at all) body ∙ open_step all line (Repeat turns (place + 1)) there ∙ ap (λ (ls : List ℕ). ls ++ (line + 1) ∷ []) begin ∙ sym here;
    }

repeat_begins : (x : Line) → Begins block.Loop x → (turns : ℕ) × (x ≡ Repeat turns 0)
repeat_begins (Repeat turns after) h = (turns, ap (Repeat turns) h.1)
repeat_begins x h = absurd h

close_loop : (lines : List Line) (b : OpenBlock) (rest : List OpenBlock) (x : Line) (target : ℕ) → b.kind ≡ block.Loop → target ≡ length lines + 1 → IsGrowing lines (b ∷ rest) → slice_get lines b.line ≡ Some x → Begins b.kind x
    → IsGrowing (slice_set lines b.line (led_to target x) ++ EndRepeat ∷ []) rest
close_loop lines b rest x target loop is g there begins =
    let y : Line = led_to target x in
    let l : Line = EndRepeat in
    let like : IsLike x y = like_led target x in
    let none : target_of x ≡ 0 = unknown b.kind x begins in
    let new : List Line = slice_set lines b.line y in
    let long : length new ≡ length lines = length-set lines b.line y in
    let turns : (turns : ℕ) × (x ≡ Repeat turns 0) = repeat_begins x (subst (λ (k : BlockKind). Begins k x) loop begins) in
    let y_is : y ≡ Repeat turns.0 (length new + 1) = ap (led_to target) turns.1 ∙ ap (Repeat turns.0) (is ∙ ap (λ (n : ℕ). n + 1) (sym long)) in
    let here : loops_of rest ++ loop_of b.kind b.line ≡ loops_of rest ++ (b.line + 1) ∷ [] = ap (λ (k : BlockKind). loops_of rest ++ loop_of k b.line) loop in
    let without : take (length (loops_of rest ++ loop_of b.kind b.line) - 1) (loops_of rest ++ loop_of b.kind b.line) ≡ loops_of rest =
    ap (λ (ls : List ℕ). take (length ls - 1) ls) here ∙ take_last (loops_of rest) (b.line + 1) in
    grows_on new rest l
    (ending lines b rest x l target g there begins (omega (arith, g.begun.0.earlier)) (omega arith) (λ next.
    ap (open_at ((new ++ l ∷ []) ++ next ∷ [])) is ∙ open_next lines b rest x y l g there none like next ∙ without))
    (blocks_more (Some []) new l (kinds_of (b ∷ rest)) _ (matched_new lines b rest x y l g there none like) refl (ap (λ (k : BlockKind). blocks_after l (block_of k ∷ kinds_of rest)) loop))
    (ap (λ (n : ℕ). open_after l (length new) (open_at new n)) long ∙ ap (open_after l (length new)) (open_new lines b rest x y l g there none like) ∙ without)
    (omega (arith, g.few, length-append (loops_of rest) (loop_of b.kind b.line)))
    (λ next. ends_loop ((new ++ l ∷ []) ++ next ∷ []) (length new) b.line turns.0 (loops_of rest) (omega (arith, g.begun.0.earlier)) (omega (arith, length-append new (l ∷ []), length-append (new ++ l ∷ []) (next ∷ [])))
    (slice_get-push (new ++ l ∷ []) (next ∷ []) b.line _ (slice_get-push new (l ∷ []) b.line _ (slice_get-set_same lines b.line x y there ∙ ap Some y_is)))
    (open_begin lines b rest x y l g there none like next)
    (ap (open_at ((new ++ l ∷ []) ++ next ∷ [])) long ∙ open_here lines b rest x y l g there none like next ∙ here)) refl

-- ---- the lines as they stand

-- the line that began the innermost block
record IsFound (lines : List Line) (b : OpenBlock) : Type 0 where
  there : slice_get lines b.line ≡ Some (slice_index_or lines b.line EndIf)
  begins : Begins b.kind (slice_index_or lines b.line EndIf)

found : (lines : List Line) (b : OpenBlock) (rest : List OpenBlock) → IsGrowing lines (b ∷ rest) → IsFound lines b
found lines b rest g =
    let same : slice_index_or lines b.line EndIf ≡ g.begun.0.line = get_or_from_slice_get lines b.line g.begun.0.line EndIf g.begun.0.there in
    record { there = g.begun.0.there ∙ ap Some (sym same); begins = subst (λ (l : Line). Begins b.kind l) (sym same) g.begun.0.begins }

-- a line comes that divides a block
pub divided_grows : (f : Form) (kind : BlockKind) (l : Line) → ((k : BlockKind) → suits f (Some k) ≡ true → Divides k kind l) → suits f None ≡ false → (lines : List Line) (blocks : List OpenBlock) → suits f (first_kind blocks) ≡ true
    → IsGrowing lines blocks → IsGrowing (with_block_target lines blocks (length lines + 1) ++ l ∷ []) ((record { kind = kind; line = length (with_block_target lines blocks (length lines + 1)) }) ∷ drop 1 blocks)
divided_grows f kind l divides outside lines [] suited g = absurd (both_ways _ outside suited)
divided_grows f kind l divides outside lines (b ∷ rest) suited g =
    let at : IsFound lines b = found lines b rest g in divide lines b rest kind _ l (length lines + 1) (divides b.kind suited) refl g at.there at.begins

-- a line comes that closes a block that is no loop
pub closed_grows : (f : Form) (l : Line) → ((k : BlockKind) → suits f (Some k) ≡ true → Closes k l) → suits f None ≡ false → (lines : List Line) (blocks : List OpenBlock) → suits f (first_kind blocks) ≡ true
    → IsGrowing lines blocks → IsGrowing (with_block_target lines blocks (length lines + 0) ++ l ∷ []) (drop 1 blocks)
closed_grows f l closes outside lines [] suited g = absurd (both_ways _ outside suited)
closed_grows f l closes outside lines (b ∷ rest) suited g =
    let at : IsFound lines b = found lines b rest g in close lines b rest _ l (length lines + 0) (closes b.kind suited) (omega arith) g at.there at.begins

loop_suits : (k : BlockKind) → suits form.EndRepeat (Some k) ≡ true → k ≡ block.Loop
loop_suits block.Loop e = refl
loop_suits block.Then e = absurd cc
loop_suits block.Otherwise e = absurd cc
loop_suits block.Got e = absurd cc
loop_suits block.Missed e = absurd cc

-- a line comes that closes a loop
pub loop_closed_grows : (lines : List Line) (blocks : List OpenBlock) → suits form.EndRepeat (first_kind blocks) ≡ true → IsGrowing lines blocks → IsGrowing (with_block_target lines blocks (length lines + 1) ++ EndRepeat ∷ []) (drop 1 blocks)
loop_closed_grows lines [] suited g = absurd cc
loop_closed_grows lines (b ∷ rest) suited g =
    let at : IsFound lines b = found lines b rest g in close_loop lines b rest _ (length lines + 1) (loop_suits b.kind suited) refl g at.there at.begins

-- ---- what an ending block leaves

pub target_length : (lines : List Line) (blocks : List OpenBlock) (target : ℕ) → length (with_block_target lines blocks target) ≡ length lines
target_length lines [] target = refl
target_length lines (b ∷ rest) target = length-set lines b.line _

pub target_names : (service : Declarations) (locals : ℕ) (lines : List Line) (blocks : List OpenBlock) (target : ℕ) → IsGrowing lines blocks → All (LineNames service locals) lines → All (LineNames service locals) (with_block_target lines blocks target)
target_names service locals lines [] target g names = names
target_names service locals lines (b ∷ rest) target g names =
    All-set (LineNames service locals) lines b.line _ ((like_led target (slice_index_or lines b.line EndIf)).names service locals (names b.line EndIf g.begun.0.earlier)) names
