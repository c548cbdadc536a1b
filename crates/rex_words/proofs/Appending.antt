-- A lane's seat after one more event.
use Rattle.std.proofs.Common.{◌≡◌, ◌≢◌, ◌⊎◌, inl, inr, ⊎_elim, ℕ, zero, suc, ◌+◌, ◌<◌, ◌≤◌, arith, Bool, true, false, List, [], ◌∷◌, ◌++◌, length, refl, ap, sym, ◌∙◌, subst, length-append}
use Rattle.std.specs.Prelude.{Option, Some, None, ℤ, slice_index_or, if◌then◌else◌}
use Rattle.std.specs.List.{filter}
use Rattle.std.proofs.lemmas.Bool.{cases_eq, cases_lt}
use Rattle.std.proofs.lemmas.Option.{same_Some}
use Rattle.rand_pcg.specs.Lcg.{Lcg}
use Rattle.rand_pcg.specs.Pcg.{pcg32}
use Rattle.rex_syntax.specs.declared.line.Line.{Line}
use Rattle.rex_syntax.specs.declared.locks.Mode.{Mode}
use Rattle.rex_syntax.specs.declared.locks.Mode.TheVariants.{Free, Exclusive}
use Rattle.rex_frame.specs.declared.frame.Frame.{Frame}
use Rattle.rex_frame.specs.Phases.{is_running}
use Rattle.rex_frame.proofs.Guarded.{Stays, same_frame}
use Rattle.rex_event.specs.declared.event.Event.{Event}
use Rattle.rex_event.specs.declared.event.Kind.{Kind}
use Rattle.rex_event.specs.declared.event.Kind.TheVariants as kind
use Rattle.rex_event.specs.Conflict.{named_lock, named_client}
use Rattle.rex_state.specs.declared.lane.Lane.{Lane}
use Rattle.rex_state.specs.Lines.{lines_of, line_of}
use Rattle.rex_state.specs.Own.{fresh, moved, started, run_frame, ran, own_after}
use Rattle.rex_state.specs.Machine.{lane_of, frame_at, own_can, after}
use Rattle.rex_state.specs.Flows.{CheckedFlows}
use Rattle.rex_state.specs.Sound.{FrameFits, Fits, with_flows, mode_at}
use Rattle.rex_state.specs.Touched.{held_at}
use Rattle.rex_state.proofs.Fits.{IsRight, starts_fit}
use Rattle.rex_state.proofs.Keep.{next_is, lane_own}
use Rattle.rex_state.proofs.Local.{events_are_local}
use Rattle.rex_state.proofs.Modes.{frame_walked}
use Rattle.rex_state.proofs.Sounds.{right_flows}
use Rattle.rex_state.proofs.Touched.{mode_held}
use Rattle.rex_record.specs.Turn.{event_at}
use Rattle.rex_record.specs.Value.{is_begin}
use Rattle.rex_words.specs.declared.assignment.Assignment.{Assignment}
use Rattle.rex_words.specs.declared.stamped.Stamped.{Stamped}
use Rattle.rex_words.specs.declared.seat.WordSeat.{WordSeat}
use Rattle.rex_words.specs.Stamps.{greatest_stamp}
use Rattle.rex_words.specs.Recorded.{is_plain, lane_for, IsDealt}
use Rattle.rex_words.specs.Alone.{service_of, lane_requests, dice_of, rolled, drawn, is_draw, begun_in, draws_in, IsTold, AreTold}
use Rattle.rex_words.specs.Budget.{left_at}
use Rattle.rex_words.specs.Moment.{IsAssignment}
use Rattle.rex_words.specs.Seats.{IsLaneOf, IsAppended}
use Rattle.rex_words.proofs.Bounds.{stamp_last}
use Rattle.rex_words.proofs.Budget.{events_spend}
use Rattle.rex_words.proofs.Keeping.{other_modes}
use Rattle.rex_words.proofs.Modes.{full_after, taken_mode, given_mode}

-- ---- lists with one more event

pub count_more : (p : Stamped → Bool) (xs : List Stamped) (x : Stamped) → length (filter p (xs ++ x ∷ [])) ≡ (if p x then length (filter p xs) + 1 else length (filter p xs))
count_more p [] x = by (p x)
  where
    by : (b : Bool) → length (if b then x ∷ [] else []) ≡ (if b then 0 + 1 else 0)
    by true = omega arith
    by false = refl
count_more p (y ∷ ys) x = by (p y) (p x) (count_more p ys x)
  where
    by : (b c : Bool) → length (filter p (ys ++ x ∷ [])) ≡ (if c then length (filter p ys) + 1 else length (filter p ys)) → length (if b then y ∷ filter p (ys ++ x ∷ []) else filter p (ys ++ x ∷ [])) ≡ (if c then length (if b then y ∷ filter p ys else filter p ys) + 1 else length (if b then y ∷ filter p ys else filter p ys))
    by true true h = omega arith
    by true false h = omega arith
    by false true h = h
    by false false h = h

empty_not : {A : Type 0} (bs : List A) (y : A) (rest : List A) → [] ≡ bs ++ y ∷ rest → ⊥
empty_not [] y rest h = cc
empty_not (b ∷ bs) y rest h = cc

pub split_last : {A : Type 0} (xs : List A) (x : A) (before : List A) (y : A) (rest : List A) → xs ++ x ∷ [] ≡ before ++ y ∷ rest → ((xs ≡ before) × (x ≡ y)) ⊎ ((rest' : List A) × (xs ≡ before ++ y ∷ rest'))
split_last [] x [] y rest h = inl (refl, cc)
split_last [] x (b ∷ bs) y rest h = absurd (empty_not bs y rest (cc))
split_last (a ∷ xs) x [] y rest h = inr (xs, let e : a ≡ y = cc in ap (λ z. z ∷ xs) e)
split_last (a ∷ xs) x (b ∷ bs) y rest h =
    let e : a ≡ b = cc in
    let t : xs ++ x ∷ [] ≡ bs ++ y ∷ rest = cc in
    ⊎_elim (λ (q : (xs ≡ bs) × (x ≡ y)). inl (cc, q.1)) (λ (q : (rest' : _) × (xs ≡ bs ++ y ∷ rest')). inr (q.0, cc)) (split_last xs x bs y rest t)

pub told_more : (r : Assignment) (lane : ℕ) (xs : List Stamped) (x : Stamped) → AreTold r lane xs → IsTold r lane xs x.event.kind → AreTold r lane (xs ++ x ∷ [])
told_more r lane xs x told now = record {
  each = λ before rest y h. ⊎_elim (λ (q : (xs ≡ before) × (x ≡ y)). subst (λ (z : List Stamped × Stamped). IsTold r lane z.0 z.1.event.kind) (λ i. (q.0 i, q.1 i)) now)
      (λ (q : (rest' : List Stamped) × (xs ≡ before ++ y ∷ rest')). told.each before q.0 y q.1) (split_last xs x before y rest h);
}

-- ---- random numbers

pub rolled_more : (dice : Lcg) (n : ℕ) → rolled dice (n + 1) ≡ (pcg32 (rolled dice n)).1
rolled_more dice n = let e : n + 1 ≡ suc n = omega arith in ap (rolled dice) e

-- ---- the client of a lane's frame

module _ (p : CheckedFlows) (chk : IsRight p) where
  ran_stays : (b : Bool) (f : Frame) (vs : List ℤ) → is_running f.phase ≡ b → FrameFits p f → Stays f (run_frame b (lines_of p.service f.handler) f vs).0
  ran_stays false f vs run fits = same_frame f
  ran_stays true f vs run fits = (frame_walked p chk f vs fits run).stays

  moved_client : (k : Kind) (line : Line) (f : Frame) → is_plain k ≡ true → (moved k line f).client ≡ f.client
  moved_client (kind.AcqEx lock) line f h = refl
  moved_client (kind.RelEx lock) line f h = refl
  moved_client (kind.TryOk lock) line f h = refl
  moved_client (kind.TryBusy lock) line f h = refl
  moved_client (kind.Clock value) line f h = refl
  moved_client (kind.Random value) line f h = refl
  moved_client (kind.Begin client sequence handler arguments) line f h = refl
  moved_client (kind.Reply client value) line f h = refl
  moved_client _ line f h = absurd (cc)

  stays_client : (k : Kind) (f : Frame) (vs : List ℤ) (g : Frame) → is_plain k ≡ true → FrameFits p (moved k (line_of p.service f) f) → Some (ran p.service (moved k (line_of p.service f) f) vs).0 ≡ Some g → g.client ≡ f.client
  stays_client k f vs g plain fits e = ap (λ (x : Frame). x.client) (sym (same_Some (ran p.service (moved k (line_of p.service f) f) vs).0 g e)) ∙ ((ran_stays _ (moved k (line_of p.service f) f) vs refl fits).client ∙ moved_client k (line_of p.service f) f plain)

  -- the lane serves its frame's client
  mine_after : (lane : ℕ) (k : Kind) (o : Option Frame) (vs : List ℤ) (g : Frame) → is_plain k ≡ true → ((client : ℕ) → named_client k ≡ Some client → lane ≡ lane_for p.service.lanes client) → ((f : Frame) → o ≡ Some f → lane_for p.service.lanes f.client ≡ lane)
      → Fits p (started p.service k o) → (own_after p.service k o vs).0 ≡ Some g → lane_for p.service.lanes g.client ≡ lane
  mine_after lane (kind.Begin client sequence handler arguments) o vs g plain dealt old fits e =
      let f : Frame = fresh p.service client sequence handler arguments in
      let s = ran_stays _ f vs refl fits in
      let same : g.client ≡ client = ap (λ (x : Frame). x.client) (sym (same_Some (ran p.service f vs).0 g e)) ∙ s.client in
      ap (lane_for p.service.lanes) same ∙ sym (dealt client refl)
  mine_after lane (kind.Reply client value) o vs g plain dealt old fits e = absurd (cc)
  mine_after lane (kind.AcqEx lock) None vs g plain dealt old fits e = absurd (cc)
  mine_after lane (kind.AcqEx lock) (Some f) vs g plain dealt old fits e = ap (lane_for p.service.lanes) (stays_client (kind.AcqEx lock) f vs g plain fits e) ∙ old f refl
  mine_after lane (kind.RelEx lock) None vs g plain dealt old fits e = absurd (cc)
  mine_after lane (kind.RelEx lock) (Some f) vs g plain dealt old fits e = ap (lane_for p.service.lanes) (stays_client (kind.RelEx lock) f vs g plain fits e) ∙ old f refl
  mine_after lane (kind.TryOk lock) None vs g plain dealt old fits e = absurd (cc)
  mine_after lane (kind.TryOk lock) (Some f) vs g plain dealt old fits e = ap (lane_for p.service.lanes) (stays_client (kind.TryOk lock) f vs g plain fits e) ∙ old f refl
  mine_after lane (kind.TryBusy lock) None vs g plain dealt old fits e = absurd (cc)
  mine_after lane (kind.TryBusy lock) (Some f) vs g plain dealt old fits e = ap (lane_for p.service.lanes) (stays_client (kind.TryBusy lock) f vs g plain fits e) ∙ old f refl
  mine_after lane (kind.Clock value) None vs g plain dealt old fits e = absurd (cc)
  mine_after lane (kind.Clock value) (Some f) vs g plain dealt old fits e = ap (lane_for p.service.lanes) (stays_client (kind.Clock value) f vs g plain fits e) ∙ old f refl
  mine_after lane (kind.Random value) None vs g plain dealt old fits e = absurd (cc)
  mine_after lane (kind.Random value) (Some f) vs g plain dealt old fits e = ap (lane_for p.service.lanes) (stays_client (kind.Random value) f vs g plain fits e) ∙ old f refl
  mine_after lane _ o vs g plain dealt old fits e = absurd (cc)

-- ---- modes

none_past : (modes : List Mode) (lock : ℕ) → length modes ≤ lock → slice_index_or modes lock Free ≡ Free
none_past [] lock h = refl
none_past (x ∷ xs) zero h = absurd (omega arith)
none_past (x ∷ xs) (suc lock) h = none_past xs lock (omega arith)

-- ---- one more event

module _ (r : Assignment) (a : IsAssignment r) (m m' : WordSeat) (l : IsLaneOf r m) (k : Kind) (stamp : ℕ) (p : IsAppended (service_of r) m m' (event_at m.state m.lane k) stamp) (dealt : IsDealt (service_of r) (event_at m.state m.lane k))
    (told : IsTold r m.lane m.events.items k) (later : m.stamp < stamp) (low : stamp ≤ length m.events.items + 63000001) (begins : frame_at m.state m.lane ≡ None → length m.events.items ≤ 899999) where
  abbrev e : Event
  e = event_at m.state m.lane k

  abbrev flows : CheckedFlows
  flows = with_flows (service_of r) l.sound.flows

  chk : IsRight flows
  chk = right_flows (service_of r) m.state a.good l.sound

  inside : m.lane < length m.state.lanes
  inside = let t = l.there in omega (arith, l.sound.by.complete.lanes)

  after_is : after (service_of r) m.lane k m.state ≡ m'.state
  after_is = (next_is (service_of r) m.state e m'.state p.next).is

  can : own_can (service_of r) k (frame_at m.state m.lane) m.state.variables ≡ true
  can = (next_is (service_of r) m.state e m'.state p.next).enabled.own

  lane_is : lane_of m'.state m'.lane ≡ record { done = (lane_of m.state m.lane).done + 1; frame = (own_after (service_of r) k (frame_at m.state m.lane) m.state.variables).0 }
  lane_is = (λ i. lane_of (sym after_is i) (p.lane i)) ∙ lane_own (service_of r) m.lane k m.state inside

  frame_is : frame_at m'.state m'.lane ≡ (own_after (service_of r) k (frame_at m.state m.lane) m.state.variables).0
  frame_is = ap (λ (x : Lane). x.frame) lane_is

  long : length m'.events.items ≡ length m.events.items + 1
  long = ap (λ (xs : List Stamped). length xs) p.events ∙ length-append m.events.items _

  whole : (lane : ℕ) → length (held_at m'.state lane).modes ≡ 64
  whole = full_after (service_of r) a.good m.state m'.state e l.sound p.next l.whole

  other_idle : (other : ℕ) → other ≢ m'.lane → frame_at m'.state other ≡ None
  other_idle other n = (events_are_local (service_of r) m.state m'.state e a.good l.sound p.next).others other (λ z. n (z ∙ sym p.lane)) ∙ l.idle other (λ z. n (z ∙ sym p.lane))

  -- ---- modes

  unnamed : (lock : ℕ) → (named_lock k ≡ Some lock → ⊥) → mode_at m'.state m.lane lock ≢ Free → mode_at m'.state m.lane lock ≡ Exclusive
  unnamed lock n h =
      let same = other_modes (service_of r) m.state m'.state e m.lane lock a.good l.sound p.next n in
      same ∙ l.exclusive lock (λ z. h (same ∙ z))

  module _ (lock : ℕ) (held : mode_at m'.state m.lane lock ≢ Free) where
    small : lock < 64
    small = ⊎_elim (λ (h : lock < 64). h) (λ (h : 64 ≤ lock). absurd (held (mode_held (frame_at m'.state m.lane) lock ∙ none_past (held_at m'.state m.lane).modes lock (let w = whole m.lane in omega arith)))) (cases_lt lock 64)

    taken : (k ≡ kind.AcqEx lock) ⊎ (k ≡ kind.TryOk lock) → mode_at m'.state m.lane lock ≡ Exclusive
    taken h = taken_mode (service_of r) a.good m.state m'.state e lock l.sound p.next l.whole small h

    given : k ≡ kind.RelEx lock → ⊥
    given h = held (given_mode (service_of r) a.good m.state m'.state e lock l.sound p.next l.whole small h)

    by_name : (j : Kind) → is_plain j ≡ true → k ≡ j → mode_at m'.state m.lane lock ≡ Exclusive
    by_name (kind.AcqEx x) plain q = ⊎_elim (λ (z : x ≡ lock). taken (inl (q ∙ ap (λ (n : ℕ). kind.AcqEx n) z))) (λ n. unnamed lock (λ z. n (same_Some x lock (sym (ap named_lock q) ∙ z))) held) (cases_eq x lock)
    by_name (kind.TryOk x) plain q = ⊎_elim (λ (z : x ≡ lock). taken (inr (q ∙ ap (λ (n : ℕ). kind.TryOk n) z))) (λ n. unnamed lock (λ z. n (same_Some x lock (sym (ap named_lock q) ∙ z))) held) (cases_eq x lock)
    by_name (kind.RelEx x) plain q = ⊎_elim (λ (z : x ≡ lock). absurd (given (q ∙ ap (λ (n : ℕ). kind.RelEx n) z))) (λ n. unnamed lock (λ z. n (same_Some x lock (sym (ap named_lock q) ∙ z))) held) (cases_eq x lock)
    by_name (kind.TryBusy x) plain q = unnamed lock (λ z. let w : None ≡ Some lock = sym (ap named_lock q) ∙ z in cc) held
    by_name (kind.Clock x) plain q = unnamed lock (λ z. let w : None ≡ Some lock = sym (ap named_lock q) ∙ z in cc) held
    by_name (kind.Random x) plain q = unnamed lock (λ z. let w : None ≡ Some lock = sym (ap named_lock q) ∙ z in cc) held
    by_name (kind.Begin x y z w) plain q = unnamed lock (λ o. let u : None ≡ Some lock = sym (ap named_lock q) ∙ o in cc) held
    by_name (kind.Reply x y) plain q = unnamed lock (λ z. let w : None ≡ Some lock = sym (ap named_lock q) ∙ z in cc) held
    by_name _ plain q = absurd (cc)

  exclusive_now : (lock : ℕ) → mode_at m'.state m'.lane lock ≢ Free → mode_at m'.state m'.lane lock ≡ Exclusive
  exclusive_now lock h = subst (λ (x : ℕ). mode_at m'.state x lock ≡ Exclusive) (sym p.lane) (by_name lock (λ z. h (ap (λ (x : ℕ). mode_at m'.state x lock) p.lane ∙ z)) k dealt.plain refl)

  -- ---- counts

  fits_now : Fits flows (started (service_of r) k (frame_at m.state m.lane))
  fits_now = starts_fit flows chk k (frame_at m.state m.lane) m.state.variables (l.sound.by.fits m.lane) can

  mine_now : (g : Frame) → frame_at m'.state m'.lane ≡ Some g → lane_for (service_of r).lanes g.client ≡ m'.lane
  mine_now g h = mine_after flows chk m.lane k (frame_at m.state m.lane) m.state.variables g dealt.plain dealt.mine l.mine fits_now (sym frame_is ∙ h) ∙ sym p.lane

  few_now : length m'.events.items + left_at (service_of r) (frame_at m'.state m'.lane) ≤ 1000000
  few_now =
      let old = l.few in
      let long' = long in
      let left : left_at (service_of r) (frame_at m'.state m'.lane) ≡ left_at (service_of r) (own_after (service_of r) k (frame_at m.state m.lane) m.state.variables).0 = ap (left_at (service_of r)) frame_is in
      ⊎_elim (λ (h : left_at (service_of r) (own_after (service_of r) k (frame_at m.state m.lane) m.state.variables).0 + 1 ≤ left_at (service_of r) (frame_at m.state m.lane)). omega (arith, h, old, long', left))
      (λ (h : (frame_at m.state m.lane ≡ None) × (left_at (service_of r) (own_after (service_of r) k (frame_at m.state m.lane) m.state.variables).0 ≤ 100000)). let b = begins h.0 in omega (arith, h.1, b, long', left))
      (events_spend flows chk k (frame_at m.state m.lane) m.state.variables a.checked (l.sound.by.fits m.lane) dealt.plain can)

  stamp_now : m'.stamp ≡ greatest_stamp m'.events.items
  stamp_now = let g = l.stamp in let s = stamp_last m.events.items (record { stamp = stamp; event = e }) in p.stamp_is ∙ (omega arith) ∙ sym (ap greatest_stamp p.events)

  begun_now : m'.begun ≡ begun_in m'.events.items
  begun_now = p.begun ∙ by (is_begin k) refl ∙ sym (ap begun_in p.events ∙ count_more (λ (x : Stamped). is_begin x.event.kind) m.events.items (record { stamp = stamp; event = e }))
    where
      by : (b : Bool) → is_begin k ≡ b → (if b then m.begun + 1 else m.begun) ≡ (if b then begun_in m.events.items + 1 else begun_in m.events.items)
      by true h = ap (λ (n : ℕ). n + 1) l.begun
      by false h = l.begun

  draws_now : draws_in m'.events.items ≡ (if is_draw k then draws_in m.events.items + 1 else draws_in m.events.items)
  draws_now = ap draws_in p.events ∙ count_more (λ (x : Stamped). is_draw x.event.kind) m.events.items (record { stamp = stamp; event = e })

  dice_now : (m'.random ≡ drawn (dice_of r m.lane) (draws_in m'.events.items)) × (m'.dice ≡ rolled (dice_of r m.lane) (draws_in m'.events.items + 1))
  dice_now = by (is_draw k) p.dice draws_now
    where
      by : (b : Bool) → (m'.random, m'.dice) ≡ (if b then pcg32 m.dice else (m.random, m.dice)) → draws_in m'.events.items ≡ (if b then draws_in m.events.items + 1 else draws_in m.events.items)
          → (m'.random ≡ drawn (dice_of r m.lane) (draws_in m'.events.items)) × (m'.dice ≡ rolled (dice_of r m.lane) (draws_in m'.events.items + 1))
      by true d n = (
        ap (λ (x : ℕ × Lcg). x.0) d ∙ ap (λ (x : Lcg). (pcg32 x).0) l.dice ∙ ap (drawn (dice_of r m.lane)) (sym n),
        ap (λ (x : ℕ × Lcg). x.1) d ∙ ap (λ (x : Lcg). (pcg32 x).1) l.dice ∙ sym (rolled_more (dice_of r m.lane) (draws_in m.events.items + 1)) ∙ ap (λ (x : ℕ). rolled (dice_of r m.lane) (x + 1)) (sym n),
      )
      by false d n = (
        ap (λ (x : ℕ × Lcg). x.0) d ∙ l.random ∙ ap (drawn (dice_of r m.lane)) (sym n),
        ap (λ (x : ℕ × Lcg). x.1) d ∙ l.dice ∙ ap (λ (x : ℕ). rolled (dice_of r m.lane) (x + 1)) (sym n),
      )

  pub lane_after : IsLaneOf r m'
  lane_after = record {
    there = subst (λ (x : ℕ). x < (service_of r).lanes) (sym p.lane) l.there;
    sound = p.sound;
    idle = other_idle;
    whole = whole;
    exclusive = exclusive_now;
    count = ap (λ (x : Lane). x.done) lane_is ∙ (ap (λ (n : ℕ). n + 1) l.count ∙ sym long);
    mine = mine_now;
    few = few_now;
    room = subst (λ (n : ℕ). 1000000 ≤ n) (sym p.room) l.room;
    stamp = stamp_now;
    low = let s = p.stamp_is in let n = long in omega arith;
    requests = ap (λ v. v.items) p.requests ∙ (l.requests ∙ ap (lane_requests r) (sym p.lane));
    begun = begun_now;
    random = dice_now.0 ∙ ap (λ (x : ℕ). drawn (dice_of r x) (draws_in m'.events.items)) (sym p.lane);
    dice = dice_now.1 ∙ ap (λ (x : ℕ). rolled (dice_of r x) (draws_in m'.events.items + 1)) (sym p.lane);
    told = subst (λ (x : ℕ × List Stamped). AreTold r x.0 x.1) (λ i. (sym p.lane i, sym p.events i)) (told_more r m.lane m.events.items (record { stamp = stamp; event = e }) l.told told);
  }
