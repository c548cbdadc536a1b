-- A state of parts that were read is sound.
use Rattle.std.proofs.Common.{◌≡◌, ◌≢◌, ◌⊎◌, inl, inr, ℕ, zero, suc, ◌+◌, ◌<◌, ◌≤◌, Bool, true, false, List, [], ◌∷◌, ◌++◌, length, map, take, drop, get_or, refl, ap, sym, ◌∙◌, subst, arith, append_assoc, length-set}
use Rattle.std.specs.Prelude.{Option, Some, None}
use Rattle.std.specs.List.{list_all}
use Rattle.std.proofs.lemmas.Bool.{true≢false, and_parts, not-true, cases_lt, cases_order, eq-eqb}
use Rattle.std.proofs.lemmas.List.{append-nil, get_or_past, get_or_default, get_or-take, get_or-set_same, get_or-set_other, same_lists, length-take}
use Rattle.std.proofs.lemmas.List.Folds.{list_any_at}
use Rattle.std.proofs.lemmas.List.Sums.{AllPass-from_list_all}
use Rattle.std.proofs.lemmas.Option.{same_Some}
use Rattle.rex_syntax.specs.declared.line.Line.{Line}
use Rattle.rex_syntax.specs.declared.line.Line.TheVariants.{Wait}
use Rattle.rex_syntax.specs.declared.expr.Expr.{Expr}
use Rattle.rex_syntax.specs.declared.locks.Mode.{Mode}
use Rattle.rex_syntax.specs.declared.locks.Mode.TheVariants.{Free, Shared, Exclusive}
use Rattle.rex_syntax.specs.declared.locks.Lockset.{Lockset}
use Rattle.rex_syntax.specs.declared.service.Declarations.{Declarations}
use Rattle.rex_syntax.specs.Service.{IsService}
use Rattle.rex_syntax.specs.Locks.{mode_of, with_mode, no_locks, is_free as is_free_mode, is_only}
use Rattle.rex_syntax.specs.Leads.{lock_of}
use Rattle.rex_syntax.specs.Flow.{entry}
use Rattle.rex_frame.specs.declared.frame.Phase.TheVariants.{Running}
use Rattle.rex_frame.specs.declared.frame.Frame.{Frame}
use Rattle.rex_frame.specs.Phases.{is_running}
use Rattle.rex_frame.specs.Handlers.{lines_of, FitsIn}
use Rattle.rex_frame.proofs.Held.{if_true}
use Rattle.rex_state.specs.Lines.{line_of}
use Rattle.rex_state.specs.Locks.{mode_in_frame}
use Rattle.rex_state.specs.Machine.{no_lane}
use Rattle.rex_state.specs.Flows.{flow_of, IsFlows}
use Rattle.rex_state.specs.Touched.{held_in}
use Rattle.rex_state.specs.Sound.{FrameFits, FramePlaced, wait_lock, with_flows}
use Rattle.rex_state.proofs.Events.{exclusive_mode}
use Rattle.rex_state.proofs.Fits.{may_line}
use Rattle.rex_state.proofs.Modes.{all_free, free_mode, no_mode}
use Rattle.rex_state.proofs.Placed.{drop_free}
use Rattle.rex_wire.proofs.Ranges.{is_between-true}
use Rattle.rex_snapshot.specs.declared.parts.Seat.{Seat}
use Rattle.rex_snapshot.specs.Parts.{lane_in}
use Rattle.rex_snapshot.specs.Locksets.{lockset_at, may_share, is_apart}
use Rattle.rex_snapshot.specs.Allowed.{no_seat, condition_of, is_wait_line, may_be_line, serves, is_served}
use Rattle.rex_snapshot.specs.Reading.{with_last}
use Rattle.rex_snapshot.proofs.LineLocks.{LineHolds, line_holds, apart_at}
use Rattle.rex_wire.proofs.Lists.{AreEach}
use Rattle.rex_snapshot.proofs.LaneLaws.{IsFrame, IsBusy, IsPlaced, IsSeat, stands}

-- ---- lanes by number

-- the lane of a seat
pub seat_lane : (seats : List Seat) (lane : ℕ) → get_or (map lane_in seats) lane no_lane ≡ (get_or seats lane no_seat).lane
seat_lane [] lane = refl
seat_lane (s ∷ ss) zero = refl
seat_lane (s ∷ ss) (suc lane) = seat_lane ss lane

-- each seat after those before it
pub each_at : {A : Type 0} (May : List A → A → Type 0) (earlier xs : List A) (i : ℕ) (d : A) → AreEach with_last May earlier xs → i < length xs → May (earlier ++ take i xs) (get_or xs i d)
each_at {A} May earlier [] i d each h = absurd (omega arith)
each_at {A} May earlier (x ∷ xs) zero d each h = subst (λ (ys : List A). May ys x) (sym (append-nil earlier)) each.0
each_at {A} May earlier (x ∷ xs) (suc i) d each h = subst (λ (ys : List A). May ys (get_or xs i d)) (append_assoc earlier (x ∷ []) (take i xs)) (each_at May (earlier ++ x ∷ []) xs i d each.1 (omega arith))

-- the frame of a seat
abbrev pub frame_in : List Seat → ℕ → Option Frame
frame_in seats lane = (get_or seats lane no_seat).lane.frame

busy_there : (seats : List Seat) (lane : ℕ) (f : Frame) → frame_in seats lane ≡ Some f → lane < length seats
busy_there [] lane f h = absurd (cc)
busy_there (s ∷ ss) zero f h = omega arith
busy_there (s ∷ ss) (suc lane) f h = let r : lane < length ss = busy_there ss lane f h in omega arith

-- a busy seat
pub record BusyAt (service : Declarations) (seats : List Seat) (lane : ℕ) (f : Frame) : Type 0 where
  pub there : lane < length seats
  pub busy : IsBusy service (take lane seats) f (get_or seats lane no_seat).waits

pub busy_seat_at : (service : Declarations) (seats : List Seat) (lane : ℕ) (f : Frame) → AreEach with_last (IsSeat service) [] seats → frame_in seats lane ≡ Some f → BusyAt service seats lane f
busy_seat_at service seats lane f each h =
    let there = busy_there seats lane f h in
    let seat = each_at (IsSeat service) [] seats lane no_seat each there in
    record { there = there; busy = subst (λ (o : Option Frame). IsPlaced service (take lane seats) o (get_or seats lane no_seat).waits) h seat.placed }

-- ---- a frame fits

-- a wait line's condition
pub line_waits : (line : Line) (condition : ℕ) → condition_of line ≡ Some condition → (test : Expr) × (line ≡ Wait condition test)
line_waits (Wait c test) condition h = (test, ap (λ (n : ℕ). Wait n test) (same_Some c condition h))
line_waits _ condition h = absurd (cc)

waiting_line : (line : Line) → is_wait_line line ≡ true → (condition : ℕ) × (test : Expr) × (line ≡ Wait condition test)
waiting_line (Wait condition test) h = (condition, test, refl)
waiting_line _ h = absurd (true≢false (sym h))

-- the only lock that is held
pub only_is : (held : Lockset) (lock : ℕ) → length held.modes ≡ 64 → is_only held lock ≡ true → held ≡ with_mode no_locks lock Exclusive
only_is held lock long h =
    let a = and_parts _ _ h in
    let b = and_parts _ _ a.1 in
    let mine : mode_of held lock ≡ Exclusive = exclusive_mode (mode_of held lock) a.0 in
    let wide : length (with_mode no_locks lock Exclusive).modes ≡ 64 = length-set no_locks.modes lock Exclusive in
    let same : held.modes ≡ (with_mode no_locks lock Exclusive).modes = same_lists held.modes (with_mode no_locks lock Exclusive).modes (long ∙ sym wide)
    (λ k d lt. get_or_default held.modes k d Free lt ∙ at k mine b.0 b.1 (omega (arith, lt)) (cases_order k lock) ∙ get_or_default (with_mode no_locks lock Exclusive).modes k Free d (omega (arith, lt, long, wide))) in
    ap (λ (ms : List Mode). let x : Lockset = record { modes = ms } in x) same
  where
    at : (k : ℕ) → mode_of held lock ≡ Exclusive → list_all is_free_mode (take lock held.modes) ≡ true → list_all is_free_mode (drop (lock + 1) held.modes) ≡ true → k < 64 → (k ≡ lock) ⊎ ((k < lock) ⊎ (lock < k)) → get_or held.modes k Free ≡ get_or (with_mode no_locks lock Exclusive).modes k Free
    at k mine below above lt (inl e) = subst (λ (n : ℕ). get_or held.modes n Free ≡ get_or (with_mode no_locks lock Exclusive).modes n Free) (sym e) (mine ∙ sym (get_or-set_same no_locks.modes lock Exclusive Free (let z : length no_locks.modes ≡ 64 = refl in omega (arith, e, lt))))
    at k mine below above lt (inr (inl less)) =
        sym (get_or-take lock held.modes k Free less) ∙ all_free (take lock held.modes) k below ∙ sym (no_mode k) ∙ sym (get_or-set_other no_locks.modes lock k Exclusive Free (λ e. absurd (omega (arith, e, less))))
    at k mine below above lt (inr (inr more)) =
        drop_free held.modes (lock + 1) k above (omega (arith, more)) ∙ sym (no_mode k) ∙ sym (get_or-set_other no_locks.modes lock k Exclusive Free (λ e. absurd (omega (arith, e, more))))

-- a frame that was read is in its handler
pub frame_inside_any : (service : Declarations) (earlier : List Seat) (runs : Bool) (f : Frame) → IsFrame service earlier runs f → FitsIn service f
frame_inside_any service earlier runs f h = record {
  handler = h.handler;
  inside = record { place = place h.line; turns = h.turns.bodies_are; left = h.turns.left; most = h.turns.most };
  locals = h.locals.long;
}
  where
    place : may_be_line service earlier runs f.handler (f.place + 1) ≡ true → f.place < length (lines_of service f.handler)
    place line = omega (arith, (is_between-true 1 (length (lines_of service f.handler)) (f.place + 1) (and_parts _ _ line).0).1)

module _ (service : Declarations) (flows : List (List (Option Lockset))) (good : IsService service) (right : IsFlows (with_flows service flows)) where
  -- what is held at a frame's line
  pub holds_at : (f : Frame) → f.handler < length service.handlers → f.place < length (lines_of service f.handler) → LineHolds service good (flow_of (with_flows service flows) f.handler) f.handler f.place
  holds_at f handler place = line_holds service good f.handler f.place (flow_of (with_flows service flows) f.handler) handler place (right.each f.handler handler)

  -- at a `wait` line only the condition's lock is held
  pub wait_holds : (f : Frame) (condition : ℕ) (test : Expr) → FitsIn service f → line_of service f ≡ Wait condition test → lockset_at service f.handler f.place ≡ with_mode no_locks (lock_of service condition) Exclusive
  wait_holds f condition test fits line =
      let p = with_flows service flows in
      let k = holds_at f fits.handler fits.inside.place in
      let g : Frame = record f { held = lockset_at service f.handler f.place; phase = Running } in
      let g_fits : FrameFits p g = record {
        handler = fits.handler;
        inside = record { place = fits.inside.place; turns = fits.inside.turns; left = fits.inside.left; most = fits.inside.most };
        locals = fits.locals;
        held = k.is;
      } in
      let may = may_line p (record { service = good; flows = right }) g (Wait condition test) g_fits refl line in
      only_is (lockset_at service f.handler f.place) (lock_of service condition) k.long (if_true _ _ _ may.0 may.1)

  frame_inside : (earlier : List Seat) (runs : Bool) (f : Frame) → IsFrame service earlier runs f → FitsIn service f
  frame_inside earlier runs f h = frame_inside_any service earlier runs f h

  -- it fits, and stands at a line that it may stand at
  pub record FrameSound (f : Frame) : Type 0 where
    pub fits : FrameFits (with_flows service flows) f
    pub placed : FramePlaced service f

  runs_sound : (earlier : List Seat) (f : Frame) → IsFrame service earlier true f → is_running f.phase ≡ true → FrameSound f
  runs_sound earlier f h run =
      let inside = frame_inside earlier true f h in
      let k = holds_at f inside.handler inside.inside.place in
      let held : entry (flow_of (with_flows service flows) f.handler) f.place ≡ Some f.held = k.is ∙ ap (λ (x : Lockset). let o : Option Lockset = Some x in o) (sym h.held) in
      record {
        fits = record { handler = inside.handler; inside = inside.inside; locals = inside.locals; held = rw run held };
        placed = record { stands = λ _. (and_parts _ _ (stands service earlier true f.handler f.place h.line)).0; waits = λ q. absurd (true≢false (sym run ∙ q)) };
      }

  waits_sound : (earlier : List Seat) (f : Frame) → IsFrame service earlier false f → is_running f.phase ≡ false → FrameSound f
  waits_sound earlier f h wait =
      let inside = frame_inside earlier false f h in
      let k = holds_at f inside.handler inside.inside.place in
      let w = waiting_line (line_of service f) (stands service earlier false f.handler f.place h.line) in
      let only = wait_holds f w.0 w.1 inside w.2 in
      let lock : wait_lock service (line_of service f) ≡ lock_of service w.0 = ap (wait_lock service) w.2 in
      let again : with_mode f.held (wait_lock service (line_of service f)) Exclusive ≡ lockset_at service f.handler f.place = rw (h.held, lock) (sym only) in
      let held : entry (flow_of (with_flows service flows) f.handler) f.place ≡ Some (with_mode f.held (wait_lock service (line_of service f)) Exclusive) = k.is ∙ ap (λ (x : Lockset). let o : Option Lockset = Some x in o) (sym again) in
      record {
        fits = record { handler = inside.handler; inside = inside.inside; locals = inside.locals; held = rw wait held };
        placed = record {
          stands = λ q. absurd (true≢false (sym q ∙ wait));
          waits = λ _. record { condition = w.0; test = w.1; line = w.2; nothing = λ n. ap (λ (x : Lockset). mode_of x n) h.held ∙ no_mode n };
        };
      }

  frame_sound_by : (earlier : List Seat) (b : Bool) (f : Frame) → is_running f.phase ≡ b → IsFrame service earlier b f → FrameSound f
  frame_sound_by earlier true f run h = runs_sound earlier f h run
  frame_sound_by earlier false f run h = waits_sound earlier f h run

  pub frame_sound : (earlier : List Seat) (f : Frame) → IsFrame service earlier (is_running f.phase) f → FrameSound f
  frame_sound earlier f h = frame_sound_by earlier (is_running f.phase) f refl h

  -- ---- two lanes

  share_free : (m : Mode) → may_share m Free ≡ true
  share_free Free = refl
  share_free Shared = refl
  share_free Exclusive = refl

  held_mode : (o : Option Frame) (lock : ℕ) → mode_of (held_in o) lock ≡ mode_in_frame o lock
  held_mode None lock = no_mode lock
  held_mode (Some f) lock = refl

  -- an earlier lane and a busy lane after it
  shares_by : (seats : List Seat) (l m : ℕ) (g : Frame) (lock : ℕ) (b : Bool) → l < m → m < length seats → is_running g.phase ≡ b → IsFrame service (take m seats) b g → may_share (mode_in_frame (frame_in seats l) lock) (mode_of g.held lock) ≡ true
  shares_by seats l m g lock false less there run h =
      let none : mode_of g.held lock ≡ Free = ap (λ (x : Lockset). mode_of x lock) h.held ∙ no_mode lock in
      rw none (share_free (mode_in_frame (frame_in seats l) lock))
  shares_by seats l m g lock true less there run h = by (cases_lt lock 64)
    where
      inside : FitsIn service g
      inside = frame_inside (take m seats) true g h

      by : (lock < 64) ⊎ (64 ≤ lock) → may_share (mode_in_frame (frame_in seats l) lock) (mode_of g.held lock) ≡ true
      by (inl lt) =
          let all = (and_parts _ _ (stands service (take m seats) true g.handler g.place h.line)).1 in
          let long : l < length (take m seats) = omega (arith, length-take m seats) in
          let one = AllPass-from_list_all (λ s. is_apart (held_in s.lane.frame) (lockset_at service g.handler g.place)) (take m seats) all l no_seat long in
          let same : get_or (take m seats) l no_seat ≡ get_or seats l no_seat = get_or-take m seats l no_seat less in
          let two : is_apart (held_in (frame_in seats l)) (lockset_at service g.handler g.place) ≡ true = subst (λ (s : Seat). is_apart (held_in s.lane.frame) (lockset_at service g.handler g.place) ≡ true) same one in
          let three = apart_at 64 (held_in (frame_in seats l)) (lockset_at service g.handler g.place) lock lt two in
          subst (λ (x : Lockset). may_share (mode_in_frame (frame_in seats l) lock) (mode_of x lock) ≡ true) (sym h.held) (rw (held_mode (frame_in seats l) lock) at three)
      by (inr le) =
          let k = holds_at g inside.handler inside.inside.place in
          let none : mode_of g.held lock ≡ Free = ap (λ (x : Lockset). mode_of x lock) h.held ∙ get_or_past (lockset_at service g.handler g.place).modes lock Free (omega (arith, k.long)) in
          rw none (share_free (mode_in_frame (frame_in seats l) lock))

  shares_option : (seats : List Seat) (l m : ℕ) (o : Option Frame) (lock : ℕ) → AreEach with_last (IsSeat service) [] seats → l < m → frame_in seats m ≡ o → may_share (mode_in_frame (frame_in seats l) lock) (mode_in_frame o lock) ≡ true
  shares_option seats l m None lock each less e = share_free (mode_in_frame (frame_in seats l) lock)
  shares_option seats l m (Some g) lock each less e =
      let b = busy_seat_at service seats m g each e in
      shares_by seats l m g lock (is_running g.phase) less b.there refl b.busy.frame

  -- two lanes share each lock as they hold it
  pub shares : (seats : List Seat) (l m lock : ℕ) → AreEach with_last (IsSeat service) [] seats → l < m → may_share (mode_in_frame (frame_in seats l) lock) (mode_in_frame (frame_in seats m) lock) ≡ true
  shares seats l m lock each less = shares_option seats l m (frame_in seats m) lock each less refl

  left_alone : (x y : Mode) → may_share x y ≡ true → x ≡ Exclusive → y ≡ Free
  left_alone x y h e = free_mode y (subst (λ (m : Mode). may_share m y ≡ true) e h)

  right_alone : (x y : Mode) → may_share x y ≡ true → y ≡ Exclusive → x ≡ Free
  right_alone Free y h e = refl
  right_alone Shared y h e = absurd (true≢false (sym (subst (λ (m : Mode). may_share Shared m ≡ true) e h)))
  right_alone Exclusive y h e = absurd (true≢false (sym (subst (λ (m : Mode). may_share Exclusive m ≡ true) e h)))

  pub alone : (seats : List Seat) (l m lock : ℕ) → AreEach with_last (IsSeat service) [] seats → l ≢ m → mode_in_frame (frame_in seats l) lock ≡ Exclusive → mode_in_frame (frame_in seats m) lock ≡ Free
  alone seats l m lock each other e = by (cases_order l m)
    where
      by : (l ≡ m) ⊎ ((l < m) ⊎ (m < l)) → mode_in_frame (frame_in seats m) lock ≡ Free
      by (inl same) = absurd (other same)
      by (inr (inl less)) = left_alone _ _ (shares seats l m lock each less) e
      by (inr (inr more)) = right_alone _ _ (shares seats m l lock each more) e

  -- an earlier lane has another client
  apart_clients : (seats : List Seat) (l m : ℕ) (f g : Frame) → AreEach with_last (IsSeat service) [] seats → l < m → frame_in seats l ≡ Some f → frame_in seats m ≡ Some g → f.client ≡ g.client → ⊥
  apart_clients seats l m f g each less e k same =
      let b = busy_seat_at service seats m g each k in
      let none : is_served (take m seats) g.client ≡ false = not-true _ (and_parts _ _ b.busy.frame.client).1 in
      let long : l < length (take m seats) = omega (arith, length-take m seats, b.there) in
      let at : get_or (take m seats) l no_seat ≡ get_or seats l no_seat = get_or-take m seats l no_seat less in
      let serving : serves g.client (get_or (take m seats) l no_seat).lane.frame ≡ true = subst (λ (s : Seat). serves g.client s.lane.frame ≡ true) (sym at) (subst (λ (o : Option Frame). serves g.client o ≡ true) (sym e) (eq-eqb f.client g.client same)) in
      true≢false (sym (list_any_at (λ s. serves g.client s.lane.frame) (take m seats) l no_seat long serving) ∙ none)

  pub clients_apart : (seats : List Seat) (l m : ℕ) (f g : Frame) → AreEach with_last (IsSeat service) [] seats → l ≢ m → frame_in seats l ≡ Some f → frame_in seats m ≡ Some g → f.client ≢ g.client
  clients_apart seats l m f g each other e k = λ same. by same (cases_order l m)
    where
      by : f.client ≡ g.client → (l ≡ m) ⊎ ((l < m) ⊎ (m < l)) → ⊥
      by same (inl q) = other q
      by same (inr (inl less)) = apart_clients seats l m f g each less e k same
      by same (inr (inr more)) = apart_clients seats m l g f each more k e (sym same)
