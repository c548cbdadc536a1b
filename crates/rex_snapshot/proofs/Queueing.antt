-- Queues of parts that were read: their lanes wait at them, each once, and all that wait are there.
use Rattle.std.proofs.Common.{◌≡◌, ◌⊎◌, inl, inr, ℕ, zero, suc, ◌+◌, ◌-◌, ◌<◌, ◌≤◌, Bool, true, false, List, [], ◌∷◌, ◌++◌, length, map, take, get_or, refl, ap, sym, ◌∙◌, subst, arith, eqb, eqb-true, eq-eqb}
use Rattle.std.specs.Prelude.{Option, Some, None, ◌||◌, ◌==◌}
use Rattle.std.specs.List.{position_or_len}
use Rattle.std.proofs.lemmas.Bool.{true≢false, and_parts, or_parts, or_left, or_right, or_cases, not-true, eqb-false, lt-ltb, le-ltb, false_from_ne_true, cases_lt}
use Rattle.std.proofs.lemmas.List.{get_or_past}
use Rattle.std.proofs.lemmas.List.Sums.{position_or_len_is}
use Rattle.std.proofs.lemmas.Option.{same_Some}
use Rattle.rex_syntax.specs.declared.line.Line.TheVariants.{Wait}
use Rattle.rex_syntax.specs.declared.service.Declarations.{Declarations}
use Rattle.rex_syntax.specs.Service.{IsService}
use Rattle.rex_event.specs.Order.{Has}
use Rattle.rex_frame.specs.declared.frame.Phase.{Phase}
use Rattle.rex_frame.specs.declared.frame.Phase.TheVariants.{Running, Waiting}
use Rattle.rex_frame.specs.declared.frame.Frame.{Frame}
use Rattle.rex_frame.specs.Phases.{is_running}
use Rattle.rex_state.specs.declared.lane.Queue.{Queue}
use Rattle.rex_state.specs.Machine.{is_in, no_queue}
use Rattle.rex_state.specs.Sound.{IsOnce}
use Rattle.rex_state.proofs.Names.{names_line}
use Rattle.rex_wire.specs.Ranges.{is_between}
use Rattle.rex_wire.proofs.Ranges.{is_between-true}
use Rattle.rex_snapshot.specs.declared.parts.Seat.{Seat}
use Rattle.rex_snapshot.specs.Parts.{waits_in, seat_of, seats_from, lane_in}
use Rattle.rex_snapshot.specs.Allowed.{no_seat, is_condition}
use Rattle.rex_snapshot.specs.Reading.{with_last, counted}
use Rattle.rex_snapshot.specs.Writing.{are_empty}
use Rattle.rex_snapshot.proofs.Counting.{passing, length-passing, has_passing, once_within}
use Rattle.rex_wire.proofs.Lists.{AreEach}
use Rattle.rex_snapshot.proofs.LaneLaws.{IsBusy, IsPlaced, IsSeat, WaitsFit, frame_condition}
use Rattle.rex_snapshot.proofs.PartLaws.{MayWait, IsQueueOf}
use Rattle.rex_snapshot.proofs.Sounding.{each_at, line_waits, frame_inside_any}

-- ---- lists of lanes

pub in_has : (x : ℕ) (xs : List ℕ) → is_in x xs ≡ true → Has x xs
in_has x [] h = absurd (true≢false (sym h))
in_has x (y ∷ ys) h = by (or_cases (eqb y x) (is_in x ys) h) (λ q. in_has x ys q)
  where
    by : (eqb y x ≡ true) ⊎ (is_in x ys ≡ true) → (is_in x ys ≡ true → Has x ys) → Has x (y ∷ ys)
    by (inl e) later = inl (eqb-true y x e)
    by (inr q) later = inr (later q)

pub has_in : (x : ℕ) (xs : List ℕ) → Has x xs → is_in x xs ≡ true
has_in x [] h = absurd h
has_in x (y ∷ ys) (inl e) = or_left _ _ (eq-eqb y x e)
has_in x (y ∷ ys) (inr h) = or_right _ _ (has_in x ys h)

or_none : (b : Bool) → (b || false) ≡ b
or_none true = refl
or_none false = refl

or_assoc : (a b c : Bool) → (a || (b || c)) ≡ ((a || b) || c)
or_assoc true b c = refl
or_assoc false b c = refl

pub in_last : (x y : ℕ) (xs : List ℕ) → is_in x (xs ++ y ∷ []) ≡ (is_in x xs || eqb y x)
in_last x y [] = or_none (eqb y x)
in_last x y (z ∷ zs) = ap (λ (b : Bool). eqb z x || b) (in_last x y zs) ∙ or_assoc (eqb z x) (is_in x zs) (eqb y x)

-- each value by its number
pub each_counted : {A : Type 0} (May : ℕ → A → Type 0) (n : ℕ) (xs : List A) (i : ℕ) (d : A) → AreEach counted May n xs → i < length xs → May (n + i) (get_or xs i d)
each_counted {A} May n [] i d each h = absurd (omega arith)
each_counted {A} May n (x ∷ xs) zero d each h = let z : n ≡ n + 0 = omega arith in subst (λ (m : ℕ). May m x) z each.0
each_counted {A} May n (x ∷ xs) (suc i) d each h = let z : n + 1 + i ≡ n + suc i = omega arith in subst (λ (m : ℕ). May m (get_or xs i d)) z (each_counted May (n + 1) xs i d each.1 (omega arith))

-- ---- a queue's lanes

pub is_condition_of : (condition : ℕ) (w : Option ℕ) → is_condition condition w ≡ true → w ≡ Some condition
is_condition_of condition None h = absurd (true≢false (sym h))
is_condition_of condition (Some other) h = ap (λ (n : ℕ). let o : Option ℕ = Some n in o) (eqb-true other condition h)

pub condition_is : (condition : ℕ) (w : Option ℕ) → w ≡ Some condition → is_condition condition w ≡ true
condition_is condition None e = absurd (cc)
condition_is condition (Some other) e = eq-eqb other condition (same_Some other condition e)

-- a lane that is there and waits at the condition
pub record Waits (seats : List Seat) (condition lane : ℕ) : Type 0 where
  pub there : lane < length seats
  pub at_it : (get_or seats lane no_seat).waits ≡ Some condition

waits_one : (seats : List Seat) (condition : ℕ) (earlier : List ℕ) (lane : ℕ) → MayWait seats condition earlier lane → Waits seats condition lane × (is_in lane earlier ≡ false)
waits_one seats condition earlier lane h =
    let a = and_parts (is_between 1 (length seats) (lane + 1)) _ h in
    let b = and_parts (is_condition condition (get_or seats (lane + 1 - 1) no_seat).waits) _ a.1 in
    let back : lane + 1 - 1 ≡ lane = omega arith in
    let at : is_condition condition (get_or seats lane no_seat).waits ≡ true = subst (λ (n : ℕ). is_condition condition (get_or seats n no_seat).waits ≡ true) back b.0 in
    let fresh : is_in (lane + 1 - 1) earlier ≡ false = not-true _ b.1 in
    (record { there = omega (arith, (is_between-true 1 (length seats) (lane + 1) a.0).1); at_it = is_condition_of condition (get_or seats lane no_seat).waits at }, subst (λ (n : ℕ). is_in n earlier ≡ false) back fresh)

module _ (seats : List Seat) (condition : ℕ) where
  pub waits_each : (earlier xs : List ℕ) (lane : ℕ) → AreEach with_last (MayWait seats condition) earlier xs → Has lane xs → Waits seats condition lane
  waits_each earlier [] lane each h = absurd h
  waits_each earlier (x ∷ xs) lane each (inl e) = subst (Waits seats condition) e (waits_one seats condition earlier x each.0).0
  waits_each earlier (x ∷ xs) lane each (inr h) = waits_each (earlier ++ x ∷ []) xs lane each.1 h

  fresh_each : (earlier xs : List ℕ) (lane : ℕ) → AreEach with_last (MayWait seats condition) earlier xs → Has lane xs → is_in lane earlier ≡ false
  fresh_each earlier [] lane each h = absurd h
  fresh_each earlier (x ∷ xs) lane each (inl e) = subst (λ (n : ℕ). is_in n earlier ≡ false) e (waits_one seats condition earlier x each.0).1
  fresh_each earlier (x ∷ xs) lane each (inr h) = (or_parts _ _ (sym (in_last lane x earlier) ∙ fresh_each (earlier ++ x ∷ []) xs lane each.1 h)).0

  pub once_each : (earlier xs : List ℕ) → AreEach with_last (MayWait seats condition) earlier xs → IsOnce xs
  once_each earlier [] each = tt
  once_each earlier (x ∷ xs) each = (λ h. eqb-false x x (or_parts _ _ (sym (in_last x x earlier) ∙ fresh_each (earlier ++ x ∷ []) xs x each.1 h)).1 refl, once_each (earlier ++ x ∷ []) xs each.1)

  -- all lanes that wait at the condition are in its queue
  pub all_wait : (q : Queue) (lane : ℕ) → IsQueueOf seats condition q → Waits seats condition lane → is_in lane q.lanes.items ≡ true
  all_wait q lane is w = by (is_in lane q.lanes.items) refl
    where
      p : Seat → Bool
      p s = is_condition condition s.waits

      by : (b : Bool) → is_in lane q.lanes.items ≡ b → is_in lane q.lanes.items ≡ true
      by true e = e
      by false e =
          let once : IsOnce (lane ∷ q.lanes.items) = (λ h. true≢false (sym (has_in lane q.lanes.items h) ∙ e), once_each [] q.lanes.items is.lanes) in
          let few : length (lane ∷ q.lanes.items) ≤ length (passing (λ s. is_condition condition s.waits) 0 seats) = once_within (lane ∷ q.lanes.items) (passing (λ s. is_condition condition s.waits) 0 seats) once within in
          absurd (omega (arith, few, length-passing (λ s. is_condition condition s.waits) 0 seats, is.long))
        where
          there : (x : ℕ) → Waits seats condition x → Has x (passing (λ s. is_condition condition s.waits) 0 seats)
          there x v =
              let z : 0 + x ≡ x = omega arith in
              subst (λ (n : ℕ). Has n (passing (λ s. is_condition condition s.waits) 0 seats)) z (has_passing (λ s. is_condition condition s.waits) 0 seats x no_seat v.there (condition_is condition (get_or seats x no_seat).waits v.at_it))

          within : (x : ℕ) → Has x (lane ∷ q.lanes.items) → Has x (passing (λ s. is_condition condition s.waits) 0 seats)
          within x (inl e) = there x (subst (Waits seats condition) e w)
          within x (inr h) = there x (waits_each [] q.lanes.items x is.lanes h)

-- ---- a lane that waits

-- the frame of a lane that waits at a condition
pub record WaitingFrame (service : Declarations) (earlier : List Seat) (o : Option Frame) (condition : ℕ) : Type 0 where
  pub frame : Frame
  pub is : o ≡ Some frame
  pub busy : IsBusy service earlier frame (Some condition)
  pub stays : is_running frame.phase ≡ false
  pub line : frame_condition service frame ≡ Some condition

waiting_phase : (service : Declarations) (earlier : List Seat) (f : Frame) (condition : ℕ) (ph : Phase) → f.phase ≡ ph → IsBusy service earlier f (Some condition) → WaitingFrame service earlier (Some f) condition
waiting_phase service earlier f condition Running e busy = absurd (let fit : WaitsFit Running (Some condition) (frame_condition service f) = subst (λ (x : Phase). WaitsFit x (Some condition) (frame_condition service f)) e busy.waits_fit in cc)
waiting_phase service earlier f condition Waiting e busy = record {
  frame = f;
  is = refl;
  busy = busy;
  stays = ap is_running e;
  line = subst (λ (x : Phase). WaitsFit x (Some condition) (frame_condition service f)) e busy.waits_fit;
}

waiting_by : (service : Declarations) (earlier : List Seat) (o : Option Frame) (condition : ℕ) → IsPlaced service earlier o (Some condition) → WaitingFrame service earlier o condition
waiting_by service earlier None condition placed = absurd (cc)
waiting_by service earlier (Some f) condition placed = waiting_phase service earlier f condition f.phase refl placed

pub waiting_frame : (service : Declarations) (seats : List Seat) (condition lane : ℕ) → AreEach with_last (IsSeat service) [] seats → Waits seats condition lane → WaitingFrame service (take lane seats) (get_or seats lane no_seat).lane.frame condition
waiting_frame service seats condition lane each w =
    let seat = each_at (IsSeat service) [] seats lane no_seat each w.there in
    waiting_by service (take lane seats) (get_or seats lane no_seat).lane.frame condition (subst (IsPlaced service (take lane seats) (get_or seats lane no_seat).lane.frame) w.at_it seat.placed)

-- ---- the queues tell who waits

seats_back : (queues : List Queue) (n : ℕ) (xs : List Seat) → ((i : ℕ) → i < length xs → waits_in queues (n + i) ≡ (get_or xs i no_seat).waits) → seats_from queues n (map lane_in xs) ≡ xs
seats_back queues n [] h = refl
seats_back queues n (x ∷ xs) h =
    let z : n + 0 ≡ n = omega arith in
    let first : waits_in queues n ≡ x.waits = ap (waits_in queues) (sym z) ∙ h 0 (omega arith) in
    let rest = seats_back queues (n + 1) xs (λ i lt. let more : n + 1 + i ≡ n + suc i = omega arith in ap (waits_in queues) more ∙ h (suc i) (omega arith)) in
    ap (λ (w : Option ℕ). seat_of x.lane w ∷ seats_from queues (n + 1) (map lane_in xs)) first ∙ ap (λ (ss : List Seat). x ∷ ss) rest

abbrev has_lane : ℕ → Queue → Bool
has_lane lane q = is_in lane q.lanes.items

position_at : (queues : List Queue) (lane n : ℕ) → position_or_len (has_lane lane) queues ≡ n → n < length queues → waits_in queues lane ≡ Some n
position_at queues lane n e lt = rw (e, lt-ltb n (length queues) lt) refl

position_none : (queues : List Queue) (lane : ℕ) → position_or_len (has_lane lane) queues ≡ length queues → waits_in queues lane ≡ None
position_none queues lane e = rw (e, le-ltb (length queues) (length queues) (omega arith)) refl

-- ---- where all queues are empty

in_none : (lanes : List ℕ) (lane : ℕ) → (length lanes == 0) ≡ true → is_in lane lanes ≡ false
in_none [] lane h = refl
in_none (x ∷ lanes) lane h = absurd (omega (arith, eqb-true (length (x ∷ lanes)) 0 h))

first_none : (queues : List Queue) (lane : ℕ) → are_empty queues ≡ true → position_or_len (has_lane lane) queues ≡ length queues
first_none [] lane h = refl
first_none (q ∷ queues) lane h =
    let p = and_parts _ _ h in
    let one_more : 1 + length queues ≡ suc (length queues) = omega arith in
    rw (in_none q.lanes.items lane p.0) (ap (λ (n : ℕ). 1 + n) (first_none queues lane p.1) ∙ one_more)

pub none_waits : (queues : List Queue) (lane : ℕ) → are_empty queues ≡ true → waits_in queues lane ≡ None
none_waits queues lane h = position_none queues lane (first_none queues lane h)

module _ (service : Declarations) (good : IsService service) (seats : List Seat) (queues : List Queue) (each : AreEach with_last (IsSeat service) [] seats) (are : AreEach counted (IsQueueOf seats) 0 queues) (long : length queues ≡ length service.conditions) where
  pub queue_is : (condition : ℕ) → condition < length queues → IsQueueOf seats condition (get_or queues condition no_queue)
  queue_is condition h = let z : 0 + condition ≡ condition = omega arith in subst (λ (n : ℕ). IsQueueOf seats n (get_or queues condition no_queue)) z (each_counted (IsQueueOf seats) 0 queues condition no_queue are h)

  -- a lane in a queue waits at its condition
  pub queued_waits : (condition lane : ℕ) → Has lane (get_or queues condition no_queue).lanes.items → Waits seats condition lane
  queued_waits condition lane h = by (cases_lt condition (length queues))
    where
      by : (condition < length queues) ⊎ (length queues ≤ condition) → Waits seats condition lane
      by (inl lt) = waits_each seats condition [] (get_or queues condition no_queue).lanes.items lane (queue_is condition lt).lanes h
      by (inr le) = absurd (subst (λ (q : Queue). Has lane q.lanes.items) (get_or_past queues condition no_queue le) h)

  pub queued_once : (condition : ℕ) → IsOnce (get_or queues condition no_queue).lanes.items
  queued_once condition = by (cases_lt condition (length queues))
    where
      by : (condition < length queues) ⊎ (length queues ≤ condition) → IsOnce (get_or queues condition no_queue).lanes.items
      by (inl lt) = once_each seats condition [] (get_or queues condition no_queue).lanes.items (queue_is condition lt).lanes
      by (inr le) = subst (λ (q : Queue). IsOnce q.lanes.items) (sym (get_or_past queues condition no_queue le)) tt

  waits_is : (lane : ℕ) (w : Option ℕ) → lane < length seats → (get_or seats lane no_seat).waits ≡ w → waits_in queues lane ≡ w
  waits_is lane None there e = position_none queues lane (position_or_len_is (has_lane lane) queues (length queues) no_queue (omega arith) none (λ lt. absurd (omega arith)))
    where
      none : (k : ℕ) → k < length queues → is_in lane (get_or queues k no_queue).lanes.items ≡ false
      none k lt = false_from_ne_true _ (λ h. absurd (let w : (get_or seats lane no_seat).waits ≡ Some k = (queued_waits k lane (in_has lane _ h)).at_it in cc))
  waits_is lane (Some condition) there e = position_at queues lane condition (position_or_len_is (has_lane lane) queues condition no_queue (omega (arith, inside)) none at) inside
    where
      w : Waits seats condition lane
      w = record { there = there; at_it = e }

      f : WaitingFrame service (take lane seats) (get_or seats lane no_seat).lane.frame condition
      f = waiting_frame service seats condition lane each w

      inside : condition < length queues
      inside =
          let l = line_waits _ condition f.line in
          let named = names_line service good f.frame (Wait condition l.0) (frame_inside_any service (take lane seats) (is_running f.frame.phase) f.frame f.busy.frame) l.1 in
          omega (arith, named.0, long)

      none : (k : ℕ) → k < condition → is_in lane (get_or queues k no_queue).lanes.items ≡ false
      none k lt = false_from_ne_true _ (λ h. absurd (omega (arith, lt, same_Some k condition (sym (queued_waits k lane (in_has lane _ h)).at_it ∙ e))))

      at : condition < length queues → is_in lane (get_or queues condition no_queue).lanes.items ≡ true
      at lt = all_wait seats condition (get_or queues condition no_queue) lane (queue_is condition lt) w

  -- the seats are those of the lanes and the queues
  pub seats_again : seats_from queues 0 (map lane_in seats) ≡ seats
  seats_again = seats_back queues 0 seats (λ i lt. let z : 0 + i ≡ i = omega arith in ap (waits_in queues) z ∙ waits_is i (get_or seats i no_seat).waits lt refl)
