-- A lane makes no more events than its handler's bound on steps.
use Rattle.std.proofs.Common.{◌≡◌, ◌⊎◌, inl, inr, ⊎_elim, ℕ, zero, suc, ◌+◌, ◌-◌, ◌*◌, ◌<◌, ◌≤◌, Bool, true, false, List, [], ◌∷◌, ◌++◌, length, take, set, refl, ap, sym, ◌∙◌, subst, arith, get_or}
use Rattle.std.specs.Prelude.{Option, Some, None, slice_get, ℤ, pos, nat_le, if◌then◌else◌}
use Rattle.std.specs.Ordering.{int_eq}
use Rattle.std.specs.List.{sum_by}
use Rattle.std.proofs.lemmas.Bool.{and_parts, eqb-true}
use Rattle.std.proofs.lemmas.Bool.Decides.{nat_tests}
use Rattle.std.proofs.lemmas.List.{take_more, take_all, length-map}
use Rattle.std.proofs.lemmas.List.Sums.{sum_by-set, sum_by_push}
use Rattle.std.proofs.lemmas.Option.{slice_get-get_or}
use Rattle.rex_syntax.specs.declared.expr.Expr.{Expr}
use Rattle.rex_syntax.specs.declared.line.Line.{Line}
use Rattle.rex_syntax.specs.declared.line.Line.TheVariants.{Acquire, Release, Try, Busy, EndTry, Wait, Set, Let, Clock, Random, If, Else, EndIf, Repeat, EndRepeat, Reply}
use Rattle.rex_syntax.specs.declared.service.Declarations.{Declarations}
use Rattle.rex_syntax.specs.declared.service.Handler.{Handler}
use Rattle.rex_syntax.specs.Check.{step_bound, IsChecked}
use Rattle.rex_syntax.specs.Shape.{open_at, after_loop, after_repeat, IsShaped, LeadsOn, IsForward, OpensLoop, EndsLoop}
use Rattle.rex_frame.specs.declared.frame.Frame.{Frame}
use Rattle.rex_frame.specs.declared.frame.Turn.{Turn}
use Rattle.rex_frame.specs.Phases.{is_running}
use Rattle.rex_frame.specs.Step.{does_stand, frame_after, turned_by, innermost, no_turn, at_line, value_in, variables_after}
use Rattle.rex_frame.specs.Weights.{steps_left, body_of, IsInside}
use Rattle.rex_frame.specs.Segment.{line_at, walk, segment}
use Rattle.rex_frame.proofs.Steps.{innermost_body}
use Rattle.rex_frame.proofs.Walk.{goes_on, walk-stands, walk-goes}
use Rattle.rex_event.specs.declared.event.Kind.{Kind}
use Rattle.rex_event.specs.declared.event.Kind.TheVariants as kind
use Rattle.rex_state.specs.Lines.{lines_of, line_of, lines_in, is_acquire, is_release, is_try, is_clock, is_random, is_reply}
use Rattle.rex_state.specs.Own.{fresh, moved, started, run_frame, ran, own_after}
use Rattle.rex_state.specs.Machine.{can_go, own_can}
use Rattle.rex_state.specs.Flows.{CheckedFlows}
use Rattle.rex_state.specs.Sound.{FrameFits, Fits}
use Rattle.rex_state.proofs.Fits.{IsRight, right_at, starts_fit}
use Rattle.rex_state.proofs.Modes.{frame_walked}
use Rattle.rex_words.specs.Recorded.{is_plain}
use Rattle.rex_words.specs.Budget.{bound, turns_bound, steps_in, left_at}
use Rattle.rex_words.proofs.Bounding.{bound-at}

-- ---- a line at which no lane stands

-- a line that leaves the open loops as they are
same_loops : (lines : List Line) (f g : Frame) → g.turns.items ≡ f.turns.items → bound lines g.place ≤ bound lines f.place → steps_in lines g ≤ steps_in lines f
same_loops lines f g t w = let u : sum_by (turns_bound lines) g.turns.items ≡ sum_by (turns_bound lines) f.turns.items = ap (sum_by (turns_bound lines)) t in omega arith

chooses : (lines : List Line) (f : Frame) (test : Expr) (otherwise : ℕ) → slice_get lines f.place ≡ Some (If test otherwise) → IsForward lines f.place otherwise → (b : Bool) → steps_in lines (at_line (if b then otherwise else (f.place + 1)) f) ≤ steps_in lines f
chooses lines f test otherwise e h true = same_loops lines f (at_line otherwise f) refl (omega (arith, bound-at lines f.place (If test otherwise) e h.later))
chooses lines f test otherwise e h false = same_loops lines f (at_line (f.place + 1) f) refl (omega (arith, bound-at lines f.place (If test otherwise) e h.later))

mul_one_more : (m n w : ℕ) → n ≡ m + 1 → m * w + w ≡ n * w
mul_one_more m n w h = rw h (omega arith)

mul_less_one : (n w : ℕ) → 0 < n → (n - 1) * w + w ≡ n * w
mul_less_one n w h = mul_one_more (n - 1) n w (omega arith)

opens : (lines : List Line) (f g : Frame) (turns after : ℕ) → slice_get lines f.place ≡ Some (Repeat turns after) → OpensLoop lines f.place turns after → g.turns.items ≡ f.turns.items ++ (record { body = f.place + 1; left = turns }) ∷ [] → g.place ≡ f.place + 1
    → steps_in lines g ≤ steps_in lines f
opens lines f g turns after e h t p =
    let next : ℕ = bound lines (f.place + 1) in
    let w : bound lines f.place ≡ 1 + turns * (next + 1) + bound lines after = bound-at lines f.place (Repeat turns after) e h.over.later in
    let back : f.place + 1 - 1 ≡ f.place = omega arith in
    let a : after_loop lines (f.place + 1) ≡ after = rw back (ap after_repeat e) in
    let u : sum_by (turns_bound lines) g.turns.items ≡ sum_by (turns_bound lines) f.turns.items + ((turns - 1) * (next + 1) + bound lines (after_loop lines (f.place + 1))) =
    ap (sum_by (turns_bound lines)) t ∙ sum_by_push (turns_bound lines) f.turns.items _ in
    omega (arith, ap (bound lines) p, ap (bound lines) a, mul_less_one turns (next + 1) h.some)

split_last : (ts : List Turn) (d : Turn) → 0 < length ts → ts ≡ take (length ts - 1) ts ++ get_or ts (length ts - 1) d ∷ []
split_last ts d h =
    let e : length ts - 1 + 1 ≡ length ts = omega arith in
    sym (take_all (length ts) ts (omega arith)) ∙ ap (λ m. take m ts) (sym e) ∙ take_more ts (length ts - 1) d (omega arith)

turned : (lines : List Line) (f : Frame) → IsInside lines f → slice_get lines f.place ≡ Some EndRepeat → EndsLoop lines f.place → (last : Bool) → nat_le (innermost f).left 1 ≡ last → steps_in lines (turned_by last f) ≤ steps_in lines f
turned lines f i e h true l =
    let long : length (open_at lines f.place) ≡ length f.turns.items = ap length (sym i.turns) ∙ length-map f.turns.items body_of in
    let n : ℕ = length f.turns.items - 1 in
    let w : bound lines f.place ≡ 0 = bound-at lines f.place EndRepeat e (omega arith) in
    let sums : sum_by (turns_bound lines) f.turns.items ≡ sum_by (turns_bound lines) (take n f.turns.items) + turns_bound lines (innermost f) =
    ap (sum_by (turns_bound lines)) (split_last f.turns.items no_turn (omega (arith, h.some))) ∙ sum_by_push (turns_bound lines) (take n f.turns.items) (innermost f) in
    let after : after_loop lines (innermost f).body ≡ f.place + 1 = ap (after_loop lines) (sym (innermost_body lines f i h)) ∙ h.after in
    omega (arith, ap (bound lines) after)
turned lines f i e h false l =
    let long : length (open_at lines f.place) ≡ length f.turns.items = ap length (sym i.turns) ∙ length-map f.turns.items body_of in
    let n : ℕ = length f.turns.items - 1 in
    let some : n < length f.turns.items = omega (arith, h.some) in
    let new : Turn = record { body = (innermost f).body; left = (innermost f).left - 1 } in
    let more : 1 < (innermost f).left = grind (arith, nat_tests) in
    let w : bound lines f.place ≡ 0 = bound-at lines f.place EndRepeat e (omega arith) in
    let sums : sum_by (turns_bound lines) (set f.turns.items n new) + turns_bound lines (innermost f) ≡ sum_by (turns_bound lines) f.turns.items + turns_bound lines new =
    sum_by-set (turns_bound lines) f.turns.items n new no_turn some in
    let product : ((innermost f).left - 1 - 1) * (bound lines (innermost f).body + 1) + (bound lines (innermost f).body + 1) ≡ ((innermost f).left - 1) * (bound lines (innermost f).body + 1) = mul_less_one ((innermost f).left - 1) _ (omega arith) in
    omega arith

steps_keep : (lines : List Line) (f : Frame) (variables : List ℤ) (line : Line) → slice_get lines f.place ≡ Some line → LeadsOn lines f.place line → IsInside lines f → does_stand line f variables ≡ false → steps_in lines (frame_after line f variables) ≤ steps_in lines f
steps_keep lines f variables (Wait condition test) e h i s = same_loops lines f (frame_after (Wait condition test) f variables) refl (omega (arith, bound-at lines f.place (Wait condition test) e (omega arith)))
steps_keep lines f variables EndTry e h i s = same_loops lines f (frame_after EndTry f variables) refl (omega (arith, bound-at lines f.place EndTry e (omega arith)))
steps_keep lines f variables EndIf e h i s = same_loops lines f (frame_after EndIf f variables) refl (omega (arith, bound-at lines f.place EndIf e (omega arith)))
steps_keep lines f variables (Set variable value) e h i s = same_loops lines f (frame_after (Set variable value) f variables) refl (omega (arith, bound-at lines f.place (Set variable value) e (omega arith)))
steps_keep lines f variables (Let local value) e h i s = same_loops lines f (frame_after (Let local value) f variables) refl (omega (arith, bound-at lines f.place (Let local value) e (omega arith)))
steps_keep lines f variables (Else end) e h i s = same_loops lines f (frame_after (Else end) f variables) refl (omega (arith, bound-at lines f.place (Else end) e h.later))
steps_keep lines f variables (Busy end) e h i s = same_loops lines f (frame_after (Busy end) f variables) refl (omega (arith, bound-at lines f.place (Busy end) e h.later))
steps_keep lines f variables (If test otherwise) e h i s = chooses lines f test otherwise e h.1 (int_eq (value_in test f variables) (pos 0))
steps_keep lines f variables (Repeat turns after) e h i s = opens lines f (frame_after (Repeat turns after) f variables) turns after e h refl refl
steps_keep lines f variables EndRepeat e h i s = turned lines f i e h (nat_le (innermost f).left 1) refl
steps_keep lines f variables _ e h i s = absurd (cc)

-- the lines up to the next event
walk_keeps : (lines : List Line) → IsShaped lines → (n : ℕ) (b : Bool) (f : Frame) (variables : List ℤ) → IsInside lines f → does_stand (line_at lines f) f variables ≡ b → steps_in lines (walk lines n f variables).0 ≤ steps_in lines f
walk_keeps lines shaped zero b f variables i s = omega arith
walk_keeps lines shaped (suc n) true f variables i s = rw (walk-stands lines (suc n) f variables s) (omega arith)
walk_keeps lines shaped (suc n) false f variables i s =
    let e : slice_get lines f.place ≡ Some (line_at lines f) = slice_get-get_or lines f.place EndIf i.place in
    let o = goes_on lines shaped f variables i s in
    let one = steps_keep lines f variables (line_at lines f) e (shaped.each f.place (line_at lines f) e) i s in
    let rest = walk_keeps lines shaped n _ (frame_after (line_at lines f) f variables) (variables_after (line_at lines f) f variables) o.inside refl in
    rw (walk-goes lines n f variables s) (omega (arith, one, rest))

-- ---- an event

pub acquire_is : (line : Line) (lock : ℕ) → is_acquire line lock ≡ true → line ≡ Acquire lock
acquire_is (Acquire l) lock h = ap (λ (x : ℕ). Acquire x) (eqb-true l lock h)
acquire_is _ lock h = absurd (cc)

pub release_is : (line : Line) (lock : ℕ) → is_release line lock ≡ true → line ≡ Release lock
release_is (Release l) lock h = ap (λ (x : ℕ). Release x) (eqb-true l lock h)
release_is _ lock h = absurd (cc)

pub try_is : (line : Line) (lock : ℕ) → is_try line lock ≡ true → (busy : ℕ) × (line ≡ Try lock busy)
try_is (Try l busy) lock h = (busy, ap (λ (x : ℕ). Try x busy) (eqb-true l lock h))
try_is _ lock h = absurd (cc)

-- it is a reply
abbrev is_reply_kind : Kind → Bool
is_reply_kind (kind.Reply client value) = true
is_reply_kind _ = false

-- the bound falls by one at a line that an event is for
stands_less : (lines : List Line) (f g : Frame) (line : Line) → slice_get lines f.place ≡ Some line → g.turns.items ≡ f.turns.items → bound lines g.place + 1 ≤ bound lines f.place → steps_in lines g + 1 ≤ steps_in lines f
stands_less lines f g line e t w = let u : sum_by (turns_bound lines) g.turns.items ≡ sum_by (turns_bound lines) f.turns.items = ap (sum_by (turns_bound lines)) t in omega arith

module _ (lines : List Line) (f : Frame) where
  try_less : (line : Line) (lock : ℕ) → is_try line lock ≡ true → slice_get lines f.place ≡ Some line → LeadsOn lines f.place line → (steps_in lines (moved (kind.TryOk lock) line f) + 1 ≤ steps_in lines f) × (steps_in lines (moved (kind.TryBusy lock) line f) + 1 ≤ steps_in lines f)
  try_less (Try l busy) lock h e on = (
    stands_less lines f (moved (kind.TryOk lock) (Try l busy) f) (Try l busy) e refl (omega (arith, bound-at lines f.place (Try l busy) e on.1.later)),
    stands_less lines f (moved (kind.TryBusy lock) (Try l busy) f) (Try l busy) e refl (omega (arith, bound-at lines f.place (Try l busy) e on.1.later)),
  )
  try_less _ lock h e on = absurd (cc)

  acquire_less : (line : Line) (lock : ℕ) → is_acquire line lock ≡ true → slice_get lines f.place ≡ Some line → steps_in lines (moved (kind.AcqEx lock) line f) + 1 ≤ steps_in lines f
  acquire_less (Acquire l) lock h e = stands_less lines f (moved (kind.AcqEx lock) (Acquire l) f) (Acquire l) e refl (omega (arith, bound-at lines f.place (Acquire l) e (omega arith)))
  acquire_less _ lock h e = absurd (cc)

  release_less : (line : Line) (lock : ℕ) → is_release line lock ≡ true → slice_get lines f.place ≡ Some line → steps_in lines (moved (kind.RelEx lock) line f) + 1 ≤ steps_in lines f
  release_less (Release l) lock h e = stands_less lines f (moved (kind.RelEx lock) (Release l) f) (Release l) e refl (omega (arith, bound-at lines f.place (Release l) e (omega arith)))
  release_less _ lock h e = absurd (cc)

  clock_less : (line : Line) (value : ℤ) → is_clock line ≡ true → slice_get lines f.place ≡ Some line → steps_in lines (moved (kind.Clock value) line f) + 1 ≤ steps_in lines f
  clock_less (Clock l) value h e = stands_less lines f (moved (kind.Clock value) (Clock l) f) (Clock l) e refl (omega (arith, bound-at lines f.place (Clock l) e (omega arith)))
  clock_less _ value h e = absurd (cc)

  random_less : (line : Line) (value : ℕ) → is_random line ≡ true → slice_get lines f.place ≡ Some line → steps_in lines (moved (kind.Random value) line f) + 1 ≤ steps_in lines f
  random_less (Random l) value h e = stands_less lines f (moved (kind.Random value) (Random l) f) (Random l) e refl (omega (arith, bound-at lines f.place (Random l) e (omega arith)))
  random_less _ value h e = absurd (cc)

  reply_some : (line : Line) (value : ℤ) (vs : List ℤ) → is_reply line value f vs ≡ true → slice_get lines f.place ≡ Some line → 1 ≤ steps_in lines f
  reply_some (Reply v) value vs h e = omega (arith, bound-at lines f.place (Reply v) e (omega arith))
  reply_some _ value vs h e = absurd (cc)

  -- an event that a busy lane can make, but the reply
  moved_less : (service : Declarations) (k : Kind) (line : Line) (vs : List ℤ) → is_plain k ≡ true → can_go service k line f vs ≡ true → slice_get lines f.place ≡ Some line → LeadsOn lines f.place line → (is_reply_kind k ≡ true) ⊎ (steps_in lines (moved k line f) + 1 ≤ steps_in lines f)
  moved_less service (kind.AcqEx lock) line vs plain h e on = inr (acquire_less line lock (and_parts _ _ h).1 e)
  moved_less service (kind.RelEx lock) line vs plain h e on = inr (release_less line lock (and_parts _ _ (and_parts _ _ h).1).0 e)
  moved_less service (kind.TryOk lock) line vs plain h e on = inr (try_less line lock (and_parts _ _ h).1 e on).0
  moved_less service (kind.TryBusy lock) line vs plain h e on = inr (try_less line lock (and_parts _ _ h).1 e on).1
  moved_less service (kind.Clock value) line vs plain h e on = inr (clock_less line value (and_parts _ _ h).1 e)
  moved_less service (kind.Random value) line vs plain h e on = inr (random_less line value (and_parts _ _ h).1 e)
  moved_less service (kind.Reply client value) line vs plain h e on = inl refl
  moved_less service _ line vs plain h e on = absurd (cc)

module _ (p : CheckedFlows) (chk : IsRight p) where
  ran_keeps : (b : Bool) (f : Frame) (vs : List ℤ) → is_running f.phase ≡ b → FrameFits p f → left_at p.service (Some (run_frame b (lines_of p.service f.handler) f vs).0) ≤ steps_in (lines_of p.service f.handler) f
  ran_keeps false f vs run fits = omega arith
  ran_keeps true f vs run fits =
      let w = frame_walked p chk f vs fits run in
      let lines : List Line = lines_of p.service f.handler in
      let same : lines_of p.service (segment lines f vs).0.handler ≡ lines = ap (lines_of p.service) w.stays.handler in
      let k = walk_keeps lines (right_at p chk f.handler fits.handler).shaped (steps_left lines f) _ f vs fits.inside refl in
      subst (λ (ls : List Line). steps_in ls (segment lines f vs).0 ≤ steps_in lines f) (sym same) k

  pub begins_few : (client sequence handler : ℕ) (arguments : List ℤ) (vs : List ℤ) → IsChecked p.service → own_can p.service (kind.Begin client sequence handler arguments) None vs ≡ true
      → left_at p.service (own_after p.service (kind.Begin client sequence handler arguments) None vs).0 ≤ 100000
  begins_few client sequence handler arguments vs checked can =
      let fits : FrameFits p (fresh p.service client sequence handler arguments) = starts_fit p chk (kind.Begin client sequence handler arguments) None vs tt can in
      let kept = ran_keeps _ (fresh p.service client sequence handler arguments) vs refl fits in
      let r = right_at p chk handler fits.handler in
      let d : Handler = record { name = []; line_number = 0; parameters = 0; locals = 0; lines = []; line_numbers = [] } in
      let short : step_bound (get_or p.service.handlers handler d).lines ≤ 100000 = (checked.handlers handler d fits.handler).short in
      let same : lines_of p.service handler ≡ (get_or p.service.handlers handler d).lines = ap lines_in (slice_get-get_or p.service.handlers handler d fits.handler) in
      let b : bound (lines_of p.service handler) 0 ≡ step_bound (get_or p.service.handlers handler d).lines = ap step_bound same in
      omega arith

  -- a busy lane's event
  on_less : (k : Kind) (f : Frame) (vs : List ℤ) → FrameFits p f → is_plain k ≡ true → own_can p.service k (Some f) vs ≡ true → left_at p.service (own_after p.service k (Some f) vs).0 + 1 ≤ steps_in (lines_of p.service f.handler) f
  on_less k f vs fits plain can = by k plain can (starts_fit p chk k (Some f) vs fits can)
    where
      lines : List Line
      lines = lines_of p.service f.handler

      there : slice_get lines f.place ≡ Some (line_of p.service f)
      there = slice_get-get_or lines f.place EndIf fits.inside.place

      on : LeadsOn lines f.place (line_of p.service f)
      on = (right_at p chk f.handler fits.handler).shaped.each f.place (line_of p.service f) there

      less : (k : Kind) → is_plain k ≡ true → can_go p.service k (line_of p.service f) f vs ≡ true → (is_reply_kind k ≡ true → ⊥) → FrameFits p (moved k (line_of p.service f) f) → lines_of p.service (moved k (line_of p.service f) f).handler ≡ lines
          → left_at p.service (Some (ran p.service (moved k (line_of p.service f) f) vs).0) + 1 ≤ steps_in lines f
      less k plain can other fits' same =
          let one : steps_in lines (moved k (line_of p.service f) f) + 1 ≤ steps_in lines f = ⊎_elim (λ (z : is_reply_kind k ≡ true). absurd (other z)) (λ h. h) (moved_less lines f p.service k (line_of p.service f) vs plain can there on) in
          let kept : left_at p.service (Some (ran p.service (moved k (line_of p.service f) f) vs).0) ≤ steps_in lines (moved k (line_of p.service f) f) =
          subst (λ (ls : List Line). left_at p.service (Some (ran p.service (moved k (line_of p.service f) f) vs).0) ≤ steps_in ls (moved k (line_of p.service f) f)) same (ran_keeps _ (moved k (line_of p.service f) f) vs refl fits') in
          omega (arith, one, kept)

      by : (k : Kind) → is_plain k ≡ true → own_can p.service k (Some f) vs ≡ true → Fits p (started p.service k (Some f)) → left_at p.service (own_after p.service k (Some f) vs).0 + 1 ≤ steps_in lines f
      by (kind.AcqEx lock) plain can fits' = less (kind.AcqEx lock) plain can (λ z. absurd (cc)) fits' refl
      by (kind.RelEx lock) plain can fits' = less (kind.RelEx lock) plain can (λ z. absurd (cc)) fits' refl
      by (kind.TryOk lock) plain can fits' = less (kind.TryOk lock) plain can (λ z. absurd (cc)) fits' refl
      by (kind.TryBusy lock) plain can fits' = less (kind.TryBusy lock) plain can (λ z. absurd (cc)) fits' refl
      by (kind.Clock value) plain can fits' = less (kind.Clock value) plain can (λ z. absurd (cc)) fits' refl
      by (kind.Random value) plain can fits' = less (kind.Random value) plain can (λ z. absurd (cc)) fits' refl
      by (kind.Reply client value) plain can fits' = reply_some lines f (line_of p.service f) value vs (and_parts _ _ (and_parts _ _ can).1).1 there
      by (kind.Begin client sequence handler arguments) plain can fits' = absurd (cc)
      by _ plain can fits' = absurd (cc)

  -- a lane's event: a busy lane may make one less after it, and one that begins a request at most 100,000
  pub events_spend : (k : Kind) (o : Option Frame) (vs : List ℤ) → IsChecked p.service → Fits p o → is_plain k ≡ true → own_can p.service k o vs ≡ true
      → (left_at p.service (own_after p.service k o vs).0 + 1 ≤ left_at p.service o) ⊎ ((o ≡ None) × (left_at p.service (own_after p.service k o vs).0 ≤ 100000))
  events_spend k (Some f) vs checked fits plain can = inl (on_less k f vs fits plain can)
  events_spend (kind.Begin client sequence handler arguments) None vs checked fits plain can = inr (refl, begins_few client sequence handler arguments vs checked can)
  events_spend _ None vs checked fits plain can = absurd (cc)
