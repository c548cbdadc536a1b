-- Lines that go on from others keep where lines lead.
use Rattle.std.proofs.Common.{◌≡◌, ℕ, zero, suc, ◌+◌, ◌-◌, ◌<◌, ◌≤◌, List, [], ◌∷◌, ◌++◌, length, Option, Some, None, refl, sym, ap, ◌∙◌, arith, length-append}
use Rattle.std.specs.Prelude.{slice_get, slice_set, slice_index}
use Rattle.std.proofs.lemmas.List.{length-set, set-append_left}
use Rattle.std.proofs.lemmas.Option.{same_Some, slice_get_within}
use Rattle.rex_syntax.specs.declared.line.Line.{Line}
use Rattle.rex_syntax.specs.declared.line.Line.TheVariants.{Try, Busy, If, Else, Repeat, EndRepeat, Reply}
use Rattle.rex_syntax.specs.declared.service.Declarations.{Declarations}
use Rattle.rex_syntax.specs.Service.{LineNames}
use Rattle.rex_syntax.specs.Blocks.{Block, blocks_after, is_reply_line}
use Rattle.rex_syntax.specs.Shape.{open_after, open_from, open_at, after_repeat, after_loop, IsForward, EndsLoop, LeadsOn, branch_of, is_divider, IsBranch}
use Rattle.rex_parse.specs.After.{led_to}
use Rattle.rex_parse.proofs.Extends.{slice_get-push}

-- ---- lines of one kind

-- a line that has the place of another, of which it differs at most in where it leads
pub record IsLike (old new : Line) : Type 0 where
  pub loops : (place : ℕ) (loops : List ℕ) → open_after new place loops ≡ open_after old place loops
  pub blocks : (blocks : List Block) → blocks_after new blocks ≡ blocks_after old blocks
  pub reply : is_reply_line new ≡ is_reply_line old
  pub divider : is_divider new ≡ is_divider old
  pub names : (service : Declarations) (locals : ℕ) → LineNames service locals old → LineNames service locals new

same_line : (l : Line) → IsLike l l
same_line l = record { loops = λ p ls. refl; blocks = λ bs. refl; reply = refl; divider = refl; names = λ s n h. h }

-- it stays so where it learns where it leads
pub like_led : (target : ℕ) (l : Line) → IsLike l (led_to target l)
like_led t (If test otherwise) = record { loops = λ p ls. refl; blocks = λ bs. refl; reply = refl; divider = refl; names = λ s n h. h }
like_led t (Else end) = record { loops = λ p ls. refl; blocks = λ bs. refl; reply = refl; divider = refl; names = λ s n h. h }
like_led t (Try lock busy) = record { loops = λ p ls. refl; blocks = λ bs. refl; reply = refl; divider = refl; names = λ s n h. h }
like_led t (Busy end) = record { loops = λ p ls. refl; blocks = λ bs. refl; reply = refl; divider = refl; names = λ s n h. h }
like_led t (Repeat turns after) = record { loops = λ p ls. refl; blocks = λ bs. refl; reply = refl; divider = refl; names = λ s n h. h }
like_led t l = same_line _

-- where a line leads beside the next one, and 0 for a line that doesn't
abbrev pub target_of : Line → ℕ
target_of (If test otherwise) = otherwise
target_of (Else end) = end
target_of (Try lock busy) = busy
target_of (Busy end) = end
target_of (Repeat turns after) = after
target_of l = 0

-- ---- lines that go on from others

-- there are as many lines at least, the same loops are open, and lines whose target is known stay
pub record GoesOn (old new : List Line) : Type 0 where
  pub longer : length old ≤ length new
  pub loops : (i : ℕ) → i ≤ length old → open_at new i ≡ open_at old i
  pub stays : (i : ℕ) (l : Line) → slice_get old i ≡ Some l → 0 < target_of l → slice_get new i ≡ Some l

open_from_push : (place : ℕ) (loops : List ℕ) (xs ys : List Line) (i : ℕ) → i ≤ length xs → open_from place loops (xs ++ ys) i ≡ open_from place loops xs i
open_from_push place loops [] [] zero le = refl
open_from_push place loops [] (y ∷ ys) zero le = refl
open_from_push place loops [] ys (suc i) le = absurd (omega arith)
open_from_push place loops (x ∷ xs) ys zero le = refl
open_from_push place loops (x ∷ xs) ys (suc i) le = open_from_push (place + 1) (open_after x place loops) xs ys i (omega arith)

-- further lines go on from lines
pub more_go_on : (xs ys : List Line) → GoesOn xs (xs ++ ys)
more_go_on xs ys = record {
  longer = omega (arith, length-append xs ys);
  loops = λ i le. open_from_push 0 [] xs ys i le;
  stays = λ i l there known. slice_get-push xs ys i l there;
}

pub slice_get-set_same : (xs : List Line) (i : ℕ) (x y : Line) → slice_get xs i ≡ Some x → slice_get (slice_set xs i y) i ≡ Some y
slice_get-set_same [] i x y e = absurd cc
slice_get-set_same (z ∷ xs) zero x y e = refl
slice_get-set_same (z ∷ xs) (suc i) x y e = slice_get-set_same xs i x y e

pub slice_get-set_other : (xs : List Line) (i j : ℕ) (y : Line) → (i ≡ j → ⊥) → slice_get (slice_set xs i y) j ≡ slice_get xs j
slice_get-set_other [] i j y ne = refl
slice_get-set_other (z ∷ xs) zero zero y ne = absurd (ne refl)
slice_get-set_other (z ∷ xs) zero (suc j) y ne = refl
slice_get-set_other (z ∷ xs) (suc i) zero y ne = refl
slice_get-set_other (z ∷ xs) (suc i) (suc j) y ne = slice_get-set_other xs i j y (λ e. ne (ap suc e))

open_from_set : (place : ℕ) (loops : List ℕ) (xs : List Line) (k : ℕ) (x y : Line) (i : ℕ) → slice_get xs k ≡ Some x → IsLike x y → open_from place loops (slice_set xs k y) i ≡ open_from place loops xs i
open_from_set place loops [] k x y i e like = absurd cc
open_from_set place loops (z ∷ xs) zero x y zero e like = refl
open_from_set place loops (z ∷ xs) zero x y (suc i) e like = let same : z ≡ x = same_Some z x e in rw (same, like.loops place loops) refl
open_from_set place loops (z ∷ xs) (suc k) x y zero e like = refl
open_from_set place loops (z ∷ xs) (suc k) x y (suc i) e like = open_from_set (place + 1) (open_after z place loops) xs k x y i e like

stays_by : (xs : List Line) (k : ℕ) (x y : Line) (i : ℕ) (l : Line) → slice_get xs k ≡ Some x → target_of x ≡ 0 → slice_get xs i ≡ Some l → 0 < target_of l → slice_get (slice_set xs k y) i ≡ Some l
stays_by [] k x y i l e unknown there known = absurd cc
stays_by (z ∷ xs) zero x y zero l e unknown there known =
    let same : x ≡ l = same_Some x l (sym e ∙ there) in
    let none : target_of l ≡ 0 = ap target_of (sym same) ∙ unknown in
    absurd (omega arith)
stays_by (z ∷ xs) zero x y (suc i) l e unknown there known = there
stays_by (z ∷ xs) (suc k) x y zero l e unknown there known = there
stays_by (z ∷ xs) (suc k) x y (suc i) l e unknown there known = stays_by xs k x y i l e unknown there known

-- a line that doesn't know where it leads may learn it
pub set_goes_on : (xs : List Line) (k : ℕ) (x y : Line) → slice_get xs k ≡ Some x → IsLike x y → target_of x ≡ 0 → GoesOn xs (slice_set xs k y)
set_goes_on xs k x y there like unknown = record {
  longer = omega (arith, length-set xs k y);
  loops = λ i le. open_from_set 0 [] xs k x y i there like;
  stays = λ i l at known. stays_by xs k x y i l there unknown at known;
}

-- the same where further lines follow
pub set_more_goes_on : (xs ys : List Line) (k : ℕ) (x y : Line) → slice_get xs k ≡ Some x → IsLike x y → target_of x ≡ 0 → GoesOn (xs ++ ys) (slice_set xs k y ++ ys)
set_more_goes_on xs ys k x y there like unknown =
    let within : k < length xs = slice_get_within xs k x there in
    rw (← set-append_left xs ys k y within) (set_goes_on (xs ++ ys) k x y (slice_get-push xs ys k x there) like unknown)

-- ---- where lines lead

module _ (old new : List Line) (on : GoesOn old new) where
  forward_on : (place target : ℕ) → IsForward old place target → IsForward new place target
  forward_on place target h = record {
    later = h.later;
    inside = omega (arith, on.longer, h.inside);
    same = on.loops target (omega (arith, h.inside)) ∙ h.same ∙ sym (on.loops place (omega (arith, h.inside, h.later)));
  }

  repeat_stays : (i : ℕ) (o : Option Line) → slice_get old i ≡ o → 0 < after_repeat o → after_repeat (slice_get new i) ≡ after_repeat o
  repeat_stays i None e known = absurd (omega arith)
  repeat_stays i (Some (Repeat turns after)) e known = rw (on.stays i (Repeat turns after) e known) refl
  repeat_stays i (Some _) e known = absurd (omega arith)

  loop_stays : (place body : ℕ) (loops : List ℕ) → open_at old place ≡ loops → open_at new place ≡ loops → EndsLoop old place → slice_index loops (length loops - 1) ≡ body → EndsLoop new place
  loop_stays place body loops was is h at =
      let body_was : slice_index (open_at old place) (length (open_at old place) - 1) ≡ body = rw was at in
      let body_is : slice_index (open_at new place) (length (open_at new place) - 1) ≡ body = rw is at in
      let back : body < length old = rw (← body_was) h.back in
      let after : after_loop old body ≡ place + 1 = rw (← body_was) h.after in
      let known : 0 < after_loop old body = omega (arith, after) in
      record {
        next = omega (arith, on.longer, h.next);
        some = rw (is, ← was) h.some;
        first = rw (body_is, ← body_was) h.first;
        after = rw body_is (repeat_stays (body - 1) (slice_get old (body - 1)) refl known ∙ after);
        back = rw body_is (omega (arith, on.longer, back));
        again = rw body_is (on.loops body (omega arith) ∙ rw (← body_was) (h.again ∙ was) ∙ sym is);
      }

  -- a line leads on where its lines go on
  pub leads_on : (place : ℕ) (l : Line) → place < length old → LeadsOn old place l → LeadsOn new place l
  leads_on place (If test otherwise) lt h = (omega (arith, on.longer, h.0), forward_on place otherwise h.1)
  leads_on place (Try lock busy) lt h = (omega (arith, on.longer, h.0), forward_on place busy h.1)
  leads_on place (Else end) lt h = forward_on place end h
  leads_on place (Busy end) lt h = forward_on place end h
  leads_on place (Repeat turns after) lt h = record {
    next = omega (arith, on.longer, h.next);
    some = h.some;
    room = rw (on.loops place (omega arith)) h.room;
    over = forward_on place after h.over;
  }
  leads_on place EndRepeat lt h = loop_stays place _ (open_at old place) refl (on.loops place (omega arith)) h refl
  leads_on place (Reply value) lt h = on.loops place (omega arith) ∙ h
  leads_on place _ lt h = omega (arith, on.longer)

  fork_known : (l : Line) (n : ℕ) → branch_of l ≡ Some n → target_of l ≡ n
  fork_known (If test otherwise) n e = same_Some otherwise n e
  fork_known (Try lock busy) n e = same_Some busy n e
  fork_known l n e = absurd cc

  -- a second branch is led to where its lines go on
  pub branch_on : (place : ℕ) → 0 < place → IsBranch old place → IsBranch new place
  branch_on place some h = record {
    from = h.from;
    fork = h.fork;
    there = on.stays h.from h.fork h.there (omega (arith, fork_known h.fork place h.leads));
    earlier = h.earlier;
    leads = h.leads;
  }

-- one after the other
pub both_go_on : (a b c : List Line) → GoesOn a b → GoesOn b c → GoesOn a c
both_go_on a b c first second = record {
  longer = omega (arith, first.longer, second.longer);
  loops = λ i le. second.loops i (omega (arith, first.longer)) ∙ first.loops i le;
  stays = λ i l there known. second.stays i l (first.stays i l there known) known;
}
