-- What comes of a step.
use Rattle.std.proofs.Common.{◌≡◌, ◌⊎◌, inl, inr, ⊎_elim, ℕ, zero, suc, ◌+◌, ◌<◌, ◌≤◌, arith, Bool, true, false, List, [], ◌∷◌, ◌++◌, length, refl, ap, sym, ◌∙◌, subst}
use Rattle.std.specs.Prelude.{Option, Some, None, ℤ, pos, nat_lt, nat_eq, slice_get, if◌then◌else◌}
use Rattle.std.specs.List.{filter}
use Rattle.std.specs.Ordering.{int_eq}
use Rattle.std.proofs.lemmas.Bool.Decides.{Decides-int_eq}
use Rattle.std.proofs.lemmas.Bool.{and_from, eq-eqb, eqb-true, ltb-false, true≢false}
use Rattle.std.proofs.lemmas.Option.{same_Some}
use Rattle.atomic_table.specs.Seated.{TableId}
use Rattle.rex_syntax.specs.declared.service.Declarations.{Declarations}
use Rattle.rex_syntax.specs.declared.request.Request.{Request}
use Rattle.rex_syntax.specs.declared.line.Line.{Line}
use Rattle.rex_syntax.specs.declared.line.Line.TheVariants as line
use Rattle.rex_frame.specs.declared.frame.Frame.{Frame}
use Rattle.rex_frame.specs.Step.{value_in}
use Rattle.rex_event.specs.declared.event.Event.{Event}
use Rattle.rex_event.specs.declared.event.Kind.{Kind}
use Rattle.rex_event.specs.declared.event.Kind.TheVariants as kind
use Rattle.rex_event.specs.Conflict.{named_lock, named_client}
use Rattle.rex_event.specs.Order.{Has}
use Rattle.rex_state.specs.Value.{StateValue}
use Rattle.rex_state.specs.Lines.{line_of, is_clock, is_random, is_reply}
use Rattle.rex_state.specs.Own.{own_after}
use Rattle.rex_state.specs.Machine.{lane_of, frame_at, own_can, enabled, after, next}
use Rattle.rex_state.specs.Sound.{with_flows}
use Rattle.rex_state.proofs.Keep.{next_is}
use Rattle.rex_state.proofs.Sounds.{right_flows}
use Rattle.rex_record.specs.Turn.{begin_of, event_at}
use Rattle.rex_record.specs.Value.{is_begin}
use Rattle.rex_words.specs.declared.assignment.Assignment.{Assignment}
use Rattle.rex_words.specs.declared.stamped.Stamped.{Stamped}
use Rattle.rex_words.specs.declared.seat.WordSeat.{WordSeat}
use Rattle.rex_words.specs.declared.choice.Choice.TheVariants.{Full, Alone}
use Rattle.rex_words.specs.declared.view.Knowledge.{Knowledge}
use Rattle.rex_words.specs.Stamps.{greatest_stamp}
use Rattle.rex_words.specs.Recorded.{is_plain, lane_for, IsDealt}
use Rattle.rex_words.specs.Alone.{service_of, requests_of, lane_requests, dice_of, drawn, begun_in, draws_in, begin_next, does_at, alone_in, alone, own_event, with_event, DoesAlone, DoAlone, IsQuiet, IsTold}
use Rattle.rex_words.specs.Budget.{left_at}
use Rattle.rex_words.specs.Choice.{idle_choice, busy_choice, choice_of}
use Rattle.rex_words.specs.Moment.{IsAssignment}
use Rattle.rex_words.specs.Seats.{IsLaneOf, IsSeatOf, IsAppended}
use Rattle.atomic_table.specs.declared.shared.Seat.{Seat}
use Rattle.rex_words.specs.declared.view.View.{View}
use Rattle.rex_words.specs.Turns.{IsAhead, is_on_lock, GoesOn, IsDone}
use Rattle.rex_words.proofs.Appending.{lane_after}
use Rattle.rex_words.proofs.Budget.{events_spend}
use Rattle.rex_words.proofs.Entering.{alone_more}
use Rattle.rex_words.proofs.Standing.{does, running}

-- ---- room

filter_few : (p : Stamped → Bool) (xs : List Stamped) → length (filter p xs) ≤ length xs
filter_few p [] = omega arith
filter_few p (x ∷ xs) = by (p x) (filter_few p xs)
  where
    by : (b : Bool) → length (filter p xs) ≤ length xs → length (if b then x ∷ filter p xs else filter p xs) ≤ suc (length xs)
    by true h = omega arith
    by false h = omega arith

module _ (r : Assignment) (a : IsAssignment r) (m : WordSeat) (l : IsLaneOf r m) where
  -- a lane that can make an event has room for it
  pub room_next : (k : Kind) (s : StateValue) → is_plain k ≡ true → next (service_of r) m.state (event_at m.state m.lane k) ≡ Some s → (frame_at m.state m.lane ≡ None → length m.events.items ≤ 899999) → length m.events.items + 1 ≤ 1000000
  room_next k s plain leads begins =
      let few = l.few in
      ⊎_elim (λ (h : left_at (service_of r) (own_after (service_of r) k (frame_at m.state m.lane) m.state.variables).0 + 1 ≤ left_at (service_of r) (frame_at m.state m.lane)). omega (arith, h, few))
      (λ (h : (frame_at m.state m.lane ≡ None) × (left_at (service_of r) (own_after (service_of r) k (frame_at m.state m.lane) m.state.variables).0 ≤ 100000)). let b = begins h.0 in omega (arith, b))
      (events_spend (with_flows (service_of r) l.sound.flows) (right_flows (service_of r) m.state a.good l.sound) k (frame_at m.state m.lane) m.state.variables a.checked (l.sound.by.fits m.lane) plain
      (next_is (service_of r) m.state (event_at m.state m.lane k) s leads).enabled.own)

  pub begun_small : m.begun + 1 < 18446744073709551616
  begun_small = let b = l.begun in let f = filter_few (λ (x : Stamped). is_begin x.event.kind) m.events.items in let n = l.few in omega arith

-- ---- an event on a lock

plain_on_lock : (k : Kind) → is_on_lock k ≡ true → is_plain k ≡ true
plain_on_lock (kind.AcqEx lock) h = refl
plain_on_lock (kind.RelEx lock) h = refl
plain_on_lock (kind.TryOk lock) h = refl
plain_on_lock (kind.TryBusy lock) h = refl
plain_on_lock _ h = absurd (cc)

none_on_lock : (k : Kind) (client : ℕ) → is_on_lock k ≡ true → named_client k ≡ Some client → ⊥
none_on_lock (kind.AcqEx lock) client h n = cc
none_on_lock (kind.RelEx lock) client h n = cc
none_on_lock (kind.TryOk lock) client h n = cc
none_on_lock (kind.TryBusy lock) client h n = cc
none_on_lock _ client h n = absurd (true≢false (sym h))

told_on_lock : (r : Assignment) (lane : ℕ) (xs : List Stamped) (k : Kind) → is_on_lock k ≡ true → IsTold r lane xs k
told_on_lock r lane xs (kind.AcqEx lock) h = tt
told_on_lock r lane xs (kind.RelEx lock) h = tt
told_on_lock r lane xs (kind.TryOk lock) h = tt
told_on_lock r lane xs (kind.TryBusy lock) h = tt
told_on_lock r lane xs _ h = absurd (cc)

idle_on_lock : (service : Declarations) (k : Kind) (vs : List ℤ) → is_on_lock k ≡ true → own_can service k None vs ≡ true → ⊥
idle_on_lock service (kind.AcqEx lock) vs h n = cc
idle_on_lock service (kind.RelEx lock) vs h n = cc
idle_on_lock service (kind.TryOk lock) vs h n = cc
idle_on_lock service (kind.TryBusy lock) vs h n = cc
idle_on_lock service _ vs h n = absurd (true≢false (sym h))

module _ (r : Assignment) (a : IsAssignment r) (z : TableId) (m : WordSeat) (k : Kind) (stamp : ℕ) (h : IsAhead r z m k stamp) where
  never_idle : frame_at m.state m.lane ≡ None → ⊥
  never_idle none = idle_on_lock (service_of r) k m.state.variables h.on_lock (subst (λ (o : Option Frame). own_can (service_of r) k o m.state.variables ≡ true) none (next_is (service_of r) m.state (event_at m.state m.lane k) m.seat.me.0.knows.own h.leads).enabled.own)

  pub room_ahead : length m.events.items + 1 ≤ 1000000
  room_ahead = room_next r a m h.lane k m.seat.me.0.knows.own (plain_on_lock k h.on_lock) h.leads (λ none. absurd (never_idle none))

  pub caught_up : (m' : WordSeat) → IsAppended (service_of r) m m' (event_at m.state m.lane k) stamp → IsSeatOf r z m'
  caught_up m' p = record {
    table = ap (λ (s : Seat (Unit {0}) View). s.table_id) p.seat ∙ h.table;
    key = ap (λ (s : Seat (Unit {0}) View). s.me.0.key) p.seat ∙ h.key;
    role = ap (λ (s : Seat (Unit {0}) View). s.me.0.role) p.seat ∙ h.role;
    lane_is = ap (λ (s : Seat (Unit {0}) View). s.me.0.lane) p.seat ∙ (h.lane_is ∙ sym p.lane);
    empty = ap (λ (s : Seat (Unit {0}) View). s.me.1) p.seat ∙ h.empty;
    lane = lane_after r a m m' h.lane k stamp p (record { plain = plain_on_lock k h.on_lock; mine = λ client n. absurd (none_on_lock k client h.on_lock n) }) (told_on_lock r m.lane m.events.items k h.on_lock) h.later h.low (λ none. absurd (never_idle none));
    held = [];
    now = m'.seat.me.0.knows;
    does = refl;
    quiet = λ e none. absurd none;
    list = ap (λ (s : Seat (Unit {0}) View). s.me.0.knows.list) p.seat ∙ (h.list ∙ sym p.events);
    own = ap (λ (s : Seat (Unit {0}) View). s.me.0.knows.own) p.seat ∙ same_Some m.seat.me.0.knows.own m'.state (sym h.leads ∙ p.next);
  }

-- ---- an event of the lane's own

-- the lane does this by itself
pub record DoesThis (r : Assignment) (m : WordSeat) (now : Knowledge) (k : Kind) : Type 0 where
  pub alone : alone r m.lane now ≡ Some k
  pub state : StateValue
  pub leads : next (service_of r) m.state (event_at m.state m.lane k) ≡ Some state
  pub dealt : IsDealt (service_of r) (event_at m.state m.lane k)
  pub unlocked : named_lock k ≡ None
  pub not_busy : (lock : ℕ) → k ≡ kind.TryBusy lock → ⊥
  pub told : IsTold r m.lane m.events.items k
  pub begins : frame_at m.state m.lane ≡ None → length m.events.items ≤ 899999
  pub goes : GoesOn r m

-- an idle lane begins a request
idle_alone : (count : ℕ) (begin : Option Kind) (k : Kind) → idle_choice count begin ≡ Alone k → (begin ≡ Some k) × (nat_lt 899999 count ≡ false)
idle_alone count None k h = absurd (cc)
idle_alone count (Some begin) k h = by (nat_lt 899999 count) refl h
  where
    by : (b : Bool) → nat_lt 899999 count ≡ b → (if b then Full else Alone begin) ≡ Alone k → (Some begin ≡ Some k) × (nat_lt 899999 count ≡ false)
    by true e q = absurd (cc)
    by false e q = (cc, e)

begin_parts : (service : Declarations) (lane : ℕ) (s : StateValue) (o : Option Request) (k : Kind) → begin_next service lane s o ≡ Some k → (q : Request) × (o ≡ Some q) × (k ≡ begin_of q) × (enabled service lane (begin_of q) s ≡ true)
begin_parts service lane s None k h = absurd (cc)
begin_parts service lane s (Some q) k h = by (enabled service lane (begin_of q) s) refl h
  where
    by : (b : Bool) → enabled service lane (begin_of q) s ≡ b → (if b then Some (begin_of q) else None) ≡ Some k → (q' : Request) × (Some q ≡ Some q') × (k ≡ begin_of q') × (enabled service lane (begin_of q') s ≡ true)
    by true e n = (q, refl, cc, e)
    by false e n = absurd (cc)

next_by : (service : Declarations) (s : StateValue) (lane : ℕ) (k : Kind) → enabled service lane k s ≡ true → next service s (event_at s lane k) ≡ Some (after service lane k s)
next_by service s lane k h = rw (eq-eqb (lane_of s lane).done (lane_of s lane).done refl, h) refl

pub filtered : (p : Request → Bool) (qs : List Request) (i : ℕ) (q : Request) → slice_get (filter p qs) i ≡ Some q → p q ≡ true
filtered p [] i q h = absurd (cc)
filtered p (x ∷ xs) i q h = by (p x) refl i h (λ j g. filtered p xs j q g)
  where
    by : (b : Bool) → p x ≡ b → (j : ℕ) → slice_get (if b then x ∷ filter p xs else filter p xs) j ≡ Some q → ((l : ℕ) → slice_get (filter p xs) l ≡ Some q → p q ≡ true) → p q ≡ true
    by true e zero g rest = let same : x ≡ q = cc in subst (λ (y : Request). p y ≡ true) same e
    by true e (suc j) g rest = rest j g
    by false e j g rest = rest j g

module _ (r : Assignment) (a : IsAssignment r) (m : WordSeat) (l : IsLaneOf r m) (now : Knowledge) (list : now.list ≡ m.events.items) (own : now.own ≡ m.state) where
  alone_is : alone r m.lane now ≡ alone_in r m.lane now (frame_at m.state m.lane)
  alone_is = ap (λ (s : StateValue). alone_in r m.lane now (frame_at s m.lane)) own

  next_request : Option Request
  next_request = slice_get (lane_requests r m.lane) (begun_in m.events.items)

  same_request : slice_get m.requests.items m.begun ≡ slice_get (lane_requests r m.lane) (begun_in m.events.items)
  same_request = λ i. slice_get (l.requests i) (l.begun i)

  begins_this : (k : Kind) → frame_at m.state m.lane ≡ None → idle_choice (length m.events.items) (begin_next (service_of r) m.lane m.state (slice_get m.requests.items m.begun)) ≡ Alone k → DoesThis r m now k
  begins_this k idle h =
      let c = idle_alone (length m.events.items) (begin_next (service_of r) m.lane m.state (slice_get m.requests.items m.begun)) k h in
      let parts = begin_parts (service_of r) m.lane m.state (slice_get m.requests.items m.begun) k c.0 in
      let q : Request = parts.0 in
      let told : slice_get (lane_requests r m.lane) (begun_in m.events.items) ≡ Some q = sym same_request ∙ parts.1 in
      let few : length m.events.items ≤ 899999 = few_by (nat_lt 899999 (length m.events.items)) refl c.1 in
      let mine : m.lane ≡ lane_for (service_of r).lanes q.client = sym (eqb-true _ _ (filtered (λ (x : Request). nat_eq (lane_for (service_of r).lanes x.client) m.lane) (requests_of r) (begun_in m.events.items) q told)) in
      let begin : begin_next (service_of r) m.lane now.own (slice_get (lane_requests r m.lane) (begun_in now.list)) ≡ Some k = (λ i. begin_next (service_of r) m.lane (own i) (slice_get (lane_requests r m.lane) (begun_in (list i)))) ∙ (ap (begin_next (service_of r) m.lane m.state) (sym same_request) ∙ c.0) in
      subst (λ (j : Kind). alone r m.lane now ≡ Some j → DoesThis r m now j) (sym parts.2)
      (λ alone'. record {
        alone = alone';
        state = after (service_of r) m.lane (begin_of q) m.state;
        leads = next_by (service_of r) m.state m.lane (begin_of q) parts.3;
        dealt = record { plain = refl; mine = λ client n. mine ∙ ap (lane_for (service_of r).lanes) (same_Some q.client client n) };
        unlocked = refl;
        not_busy = λ lock e. cc;
        told = told;
        begins = λ _. few;
        goes = record { not_idle = λ i. none_some (sym i.none ∙ c.0); not_full = λ f. absurd (let n = f.many in omega arith) };
      })
      (alone_is ∙ (ap (alone_in r m.lane now) idle ∙ (λ i. if nat_lt 899999 (length (list i)) then None else begin_next (service_of r) m.lane now.own (slice_get (lane_requests r m.lane) (begun_in now.list))) ∙ (rw c.1 begin)))
    where
      few_by : (b : Bool) → nat_lt 899999 (length m.events.items) ≡ b → b ≡ false → length m.events.items ≤ 899999
      few_by b e f = omega (arith, ltb-false _ _ (e ∙ f))

      none_some : None ≡ Some k → ⊥
      none_some e = cc

  busy_goes : (f : Frame) → frame_at m.state m.lane ≡ Some f → GoesOn r m
  busy_goes f busy = record { not_idle = λ i. absurd (some_none (sym busy ∙ i.idle)); not_full = λ i. absurd (some_none (sym busy ∙ i.idle)) }
    where
      some_none : Some f ≡ None → ⊥
      some_none e = cc

  int_same : (x : ℤ) → int_eq x x ≡ true
  int_same x = (Decides-int_eq x x).1 refl

  module _ (f : Frame) (busy : frame_at m.state m.lane ≡ Some f) where
    -- a kind that the lane's line gives
    busy_this : (k : Kind) (line : Line) → line_of (service_of r) f ≡ line → does_at r m.lane now f line ≡ Some k → next (service_of r) m.state (event_at m.state m.lane k) ≡ Some (after (service_of r) m.lane k m.state) → IsDealt (service_of r) (event_at m.state m.lane k)
        → named_lock k ≡ None → ((lock : ℕ) → k ≡ kind.TryBusy lock → ⊥) → IsTold r m.lane m.events.items k → DoesThis r m now k
    busy_this k line i does leads dealt unlocked not_busy told = record {
      alone = alone_is ∙ (ap (alone_in r m.lane now) busy ∙ (ap (does_at r m.lane now f) i ∙ does));
      state = after (service_of r) m.lane k m.state;
      leads = leads;
      dealt = dealt;
      unlocked = unlocked;
      not_busy = not_busy;
      told = told;
      begins = λ none. absurd (let e : Some f ≡ None = sym busy ∙ none in cc);
      goes = busy_goes f busy;
    }

    clock_is : (lane_of now.own m.lane).done ≡ length m.events.items
    clock_is = ap (λ (s : StateValue). (lane_of s m.lane).done) own ∙ l.count

    busy_does : (k : Kind) (at : Line) → line_of (service_of r) f ≡ at → busy_choice f m.state.variables (length m.events.items) m.random at ≡ Alone k → DoesThis r m now k
    busy_does k (line.Clock local) i h =
        let same : kind.Clock (pos (length m.events.items)) ≡ k = cc in
        subst (DoesThis r m now) same
        (busy_this (kind.Clock (pos (length m.events.items))) (line.Clock local) i (ap (λ (n : ℕ). Some (kind.Clock (pos n))) clock_is)
        (does r a m l f busy (kind.Clock (pos (length m.events.items))) (and_from _ _ (running r a m l f busy) (ap is_clock i)) refl refl refl refl)
        (record { plain = refl; mine = λ client n. absurd (let w : None ≡ Some client = n in cc) }) refl (λ lock e. cc) refl)
    busy_does k (line.Random local) i h =
        let same : kind.Random m.random ≡ k = cc in
        subst (DoesThis r m now) same
        (busy_this (kind.Random m.random) (line.Random local) i (ap (λ (n : ℕ). Some (kind.Random n)) (ap (λ (xs : List Stamped). drawn (dice_of r m.lane) (draws_in xs)) list ∙ sym l.random))
        (does r a m l f busy (kind.Random m.random) (and_from _ _ (running r a m l f busy) (ap is_random i)) refl refl refl refl)
        (record { plain = refl; mine = λ client n. absurd (let w : None ≡ Some client = n in cc) }) refl (λ lock e. cc) l.random)
    busy_does k (line.Reply value) i h =
        let v : ℤ = value_in value f m.state.variables in
        let same : kind.Reply f.client v ≡ k = cc in
        subst (DoesThis r m now) same
        (busy_this (kind.Reply f.client v) (line.Reply value) i (ap (λ (s : StateValue). Some (kind.Reply f.client (value_in value f s.variables))) own)
        (does r a m l f busy (kind.Reply f.client v) (and_from _ _ (running r a m l f busy) (and_from _ _ (eq-eqb f.client f.client refl) (ap (λ (x : Line). is_reply x v f m.state.variables) i ∙ int_same v))) refl refl refl refl)
        (record { plain = refl; mine = λ client n. sym (l.mine f busy) ∙ ap (lane_for (service_of r).lanes) (same_Some f.client client n) }) refl (λ lock e. cc) tt)
    busy_does k _ i h = absurd (cc)

  pub does_this : (k : Kind) → choice_of (service_of r) m (frame_at m.state m.lane) ≡ Alone k → DoesThis r m now k
  does_this k h = by (frame_at m.state m.lane) refl h
    where
      by : (o : Option Frame) → frame_at m.state m.lane ≡ o → choice_of (service_of r) m o ≡ Alone k → DoesThis r m now k
      by None idle q = begins_this k idle q
      by (Some f) busy q = busy_does f busy k (line_of (service_of r) f) refl q

-- ---- the seat after it

pub chosen : (r : Assignment) (service : Declarations) (m : WordSeat) (k : Kind) → service ≡ service_of r → choice_of service m (frame_at m.state m.lane) ≡ Alone k → choice_of (service_of r) m (frame_at m.state m.lane) ≡ Alone k
chosen r service m k same h = subst (λ (d : Declarations). choice_of d m (frame_at m.state m.lane) ≡ Alone k) same h

has_parts : {A : Type 0} (x : A) (xs ys : List A) → Has x (xs ++ ys) → Has x xs ⊎ Has x ys
has_parts x [] ys h = inr h
has_parts x (y ∷ xs) ys (inl e) = inl (inl e)
has_parts x (y ∷ xs) ys (inr h) = ⊎_elim (λ q. inl (inr q)) (λ q. inr q) (has_parts x xs ys h)

module _ (r : Assignment) (a : IsAssignment r) (z : TableId) (m : WordSeat) (q : IsSeatOf r z m) (k : Kind) (choice : choice_of (service_of r) m (frame_at m.state m.lane) ≡ Alone k) where
  pub this : DoesThis r m q.now k
  this = does_this r a m q.lane q.now q.list q.own k choice

  pub room_alone : length m.events.items + 1 ≤ 1000000
  room_alone = room_next r a m q.lane k this.state this.dealt.plain this.leads this.begins

  pub done_alone : (m' : WordSeat) → IsAppended (service_of r) m m' (event_at m.state m.lane k) (m.stamp + 1) → IsSeatOf r z m'
  done_alone m' p =
      let e : Event = event_at m.state m.lane k in
      let low = q.lane.low in
      let known : Knowledge = with_event q.now (m.stamp + 1) e m'.state in
      let event : e ≡ own_event m.lane q.now k = ap (λ (s : StateValue). event_at s m.lane k) (sym q.own) in
      let stamp : greatest_stamp q.now.list + 1 ≡ m.stamp + 1 = ap (λ (xs : List Stamped). greatest_stamp xs + 1) q.list ∙ ap (λ (n : ℕ). n + 1) (sym q.lane.stamp) in
      let one : DoesAlone r m.lane q.now e known = record {
        kind = k;
        alone_is = this.alone;
        event = event;
        own = m'.state;
        leads = ap (λ (s : StateValue). next (service_of r) s e) q.own ∙ p.next;
        known = ap (λ (n : ℕ). with_event q.now n e m'.state) (sym stamp);
      } in
      record {
        table = ap (λ (s : Seat (Unit {0}) View). s.table_id) p.seat ∙ q.table;
        key = ap (λ (s : Seat (Unit {0}) View). s.me.0.key) p.seat ∙ q.key;
        role = ap (λ (s : Seat (Unit {0}) View). s.me.0.role) p.seat ∙ q.role;
        lane_is = ap (λ (s : Seat (Unit {0}) View). s.me.0.lane) p.seat ∙ (q.lane_is ∙ sym p.lane);
        empty = ap (λ (s : Seat (Unit {0}) View). s.me.1) p.seat ∙ q.empty;
        lane = lane_after r a m m' q.lane k (m.stamp + 1) p this.dealt this.told (omega arith) (omega arith) this.begins;
        held = q.held ++ e ∷ [];
        now = known;
        does = subst (λ (x : ℕ × Knowledge). DoAlone r x.0 x.1 (q.held ++ e ∷ []) known) (λ i. (sym p.lane i, sym (ap (λ (s : Seat (Unit {0}) View). s.me.0.knows) p.seat) i)) (alone_more r m.lane q.held m.seat.me.0.knows q.now known e q.does one);
        quiet = λ x h. ⊎_elim (λ (o : Has x q.held). q.quiet x o) (λ (o : Has x (e ∷ [])). ⊎_elim (λ (s : e ≡ x). subst (IsQuiet (service_of r)) s (record { dealt = this.dealt; unlocked = this.unlocked })) (λ (none : ⊥). absurd none) o) (has_parts x q.held (e ∷ []) h);
        list = (λ i. q.list i ++ (record { stamp = m.stamp + 1; event = e }) ∷ []) ∙ sym p.events;
        own = refl;
      }

  pub is_done : (m' : WordSeat) (x : Event) → x ≡ event_at m.state m.lane k → IsAppended (service_of r) m m' x (m.stamp + 1) → IsDone r m m' x
  is_done m' x is p = record {
    goes = this.goes;
    lane = ap (λ (y : Event). y.lane) is;
    index = ap (λ (y : Event). y.index) is ∙ q.lane.count;
    stamp = m.stamp + 1;
    later = omega arith;
    events = p.events;
    busy = λ lock e. absurd (this.not_busy lock (sym (ap (λ (y : Event). y.kind) is) ∙ e));
  }
