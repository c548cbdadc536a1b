-- Lanes: what is read is spelled so.
use Rattle.std.proofs.Common.{◌≡◌, ℕ, zero, suc, ◌+◌, ◌-◌, ◌<◌, ◌≤◌, Bool, true, false, ℤ, List, [], ◌∷◌, ◌++◌, length, map, drop, get_or, Ok, refl, sym, ap, subst, ◌∙◌, arith, FitsSigned, w64, eqb}
use Rattle.std.specs.Prelude.{◌==◌, Option, Some, None, nat_le}
use Rattle.std.specs.Int.{w16, w32, to_be_bytes}
use Rattle.std.specs.List.{All, flat_map}
use Rattle.std.proofs.lemmas.Bool.{leb-true, eqb-true, and_parts, true≢false}
use Rattle.std.proofs.lemmas.List.{drop_more, drop_all}
use Rattle.std.proofs.lemmas.List.Elements.{All-nil, All-cons}
use Rattle.rex_syntax.specs.declared.line.Line.{Line}
use Rattle.rex_syntax.specs.declared.line.Line.TheVariants.{Wait}
use Rattle.rex_syntax.specs.declared.service.Declarations.{Declarations}
use Rattle.rex_syntax.specs.Shape.{open_at}
use Rattle.arrayvec.specs.ArrayVec.{ArrayVec}
use Rattle.rex_frame.specs.declared.frame.Phase.{Phase}
use Rattle.rex_frame.specs.declared.frame.Phase.TheVariants.{Running, Waiting}
use Rattle.rex_frame.specs.declared.frame.Turn.{Turn}
use Rattle.rex_frame.specs.declared.frame.Frame.{Frame}
use Rattle.rex_frame.specs.Phases.{is_running}
use Rattle.rex_frame.specs.Handlers.{lines_of, locals_of}
use Rattle.rex_frame.specs.Weights.{turns_of, body_of}
use Rattle.rex_wire.specs.Reading.{Left}
use Rattle.rex_wire.specs.Spelling.{byte, signed}
use Rattle.rex_wire.proofs.Fields.{is_taken, Takes, Takes-none, Takes-then, IsSpelled, IsSpelled-either, step}
use Rattle.rex_wire.proofs.Numbers.{wide8, wide16, wide32, allowed_spelled, signed_spelled}
use Rattle.rex_wire.specs.Ranges.{is_between, IsBetween}
use Rattle.rex_wire.proofs.Ranges.{is_between-true}
use Rattle.rex_snapshot.specs.declared.parts.Seat.{Seat}
use Rattle.rex_snapshot.specs.Locksets.{line_in}
use Rattle.rex_snapshot.specs.Spelling.{greatest_count, turn_bytes, frame_bytes, status_of, busy_bytes, seat_bytes}
use Rattle.rex_snapshot.specs.Allowed.{may_be_new_client, may_stand, may_be_line, condition_of, is_wait_line}
use Rattle.rex_snapshot.specs.Reading.{alike, with_last, counted, value_at, values_at, turn_at, turn_of_at, turns_at, phase_of, held_by, handler_at, line_at, frame_at, waits_by, busy_at, idle_seat, placed_at, seat_at, seats_at}
use Rattle.rex_wire.proofs.Lists.{AreEach, AreEach-to_all}
use Rattle.rex_snapshot.proofs.ListLaws.{list_spelled, array_spelled}

-- ---- values

pub value_spelled : (s : Unit {0}) → IsSpelled (value_at s) signed (FitsSigned w64)
value_spelled s = record { takes = signed_spelled.takes }

-- as many values of their type
pub record AreValues (n : ℕ) (vs : List ℤ) : Type 0 where
  pub typed : All (FitsSigned w64) vs
  pub long : length vs ≡ n

pub values_spelled : (n : ℕ) → IsSpelled (values_at n) (flat_map signed) (AreValues n)
values_spelled n = record {
  takes = λ l x bytes e.
      let t = (list_spelled value_at alike signed (λ _. FitsSigned w64) value_spelled n tt).takes l x bytes e in
      (t.0, record { typed = AreEach-to_all (FitsSigned w64) tt x.0 t.1.0; long = t.1.1 });
}

-- ---- turns

-- some turns are left of the loop with this body, at most all
pub record IsTurn (lines : List Line) (body : ℕ) (t : Turn) : Type 0 where
  pub body_is : t.body ≡ body
  pub some : 1 ≤ t.left
  pub most : t.left ≤ turns_of lines body

turn_spelled : (lines : List Line) (body : ℕ) → IsSpelled (turn_at lines body) turn_bytes (IsTurn lines body)
unfolding turn_at
turn_spelled lines body = record {
  takes = λ l x bytes e.
      let left = step (allowed_spelled wide16 (is_between 1 (turns_of lines body))) l _ x bytes e in
      let range = is_between-true 1 (turns_of lines body) left.value left.may in
      let t : Turn = record { body = body; left = left.value } in
      is_taken turn_bytes (IsTurn lines body) l (t, left.left) x left.next (left.takes, record { body_is = refl; some = range.0; most = range.1 });
}

abbrev pub MayTurn : List Line → List ℕ → ℕ → Turn → Type 0
MayTurn lines bodies n t = IsTurn lines (get_or bodies n 0) t

-- turns of all the loops with these bodies
pub record AreTurns (lines : List Line) (bodies : List ℕ) (ts : List Turn) : Type 0 where
  pub bodies_are : map body_of ts ≡ bodies
  pub left : All (λ t. 0 < t.left) ts
  pub most : All (λ t. t.left ≤ turns_of lines t.body) ts

some_turn : (lines : List Line) (bodies : List ℕ) (n : ℕ) (t : Turn) → MayTurn lines bodies n t → 0 < t.left
some_turn lines bodies n t h = omega (arith, h.some)

most_turns : (lines : List Line) (bodies : List ℕ) (n : ℕ) (t : Turn) → MayTurn lines bodies n t → t.left ≤ turns_of lines t.body
most_turns lines bodies n t h = rw h.body_is h.most

bodies_from : (lines : List Line) (bodies : List ℕ) (n : ℕ) (ts : List Turn) → n + length ts ≡ length bodies → AreEach counted (MayTurn lines bodies) n ts → map body_of ts ≡ drop n bodies
bodies_from lines bodies n [] long each = sym (drop_all n bodies (omega arith))
bodies_from lines bodies n (t ∷ ts) long each =
    let rest = bodies_from lines bodies (n + 1) ts (omega arith) each.1 in
    let first : t.body ≡ get_or bodies n 0 = each.0.body_is in
    rw (first, rest) (sym (drop_more bodies n 0 (omega arith)))

left_from : (lines : List Line) (bodies : List ℕ) (n : ℕ) (ts : List Turn) → AreEach counted (MayTurn lines bodies) n ts → All (λ t. 0 < t.left) ts
left_from lines bodies n [] each = All-nil (λ t. 0 < t.left)
left_from lines bodies n (t ∷ ts) each = All-cons (λ t. 0 < t.left) t ts (some_turn lines bodies n t each.0) (left_from lines bodies (n + 1) ts each.1)

most_from : (lines : List Line) (bodies : List ℕ) (n : ℕ) (ts : List Turn) → AreEach counted (MayTurn lines bodies) n ts → All (λ t. t.left ≤ turns_of lines t.body) ts
most_from lines bodies n [] each = All-nil (λ t. t.left ≤ turns_of lines t.body)
most_from lines bodies n (t ∷ ts) each = All-cons (λ t. t.left ≤ turns_of lines t.body) t ts (most_turns lines bodies n t each.0) (most_from lines bodies (n + 1) ts each.1)

pub turns_spelled : (lines : List Line) (bodies : List ℕ) → IsSpelled (turns_at lines bodies) (flat_map turn_bytes) (AreTurns lines bodies)
turns_spelled lines bodies = record {
  takes = λ l x bytes e.
      let t = (list_spelled (turn_of_at lines bodies) counted turn_bytes (MayTurn lines bodies) (λ n. turn_spelled lines (get_or bodies n 0)) (length bodies) 0).takes l x bytes e in (
        t.0,
        record {
          bodies_are = bodies_from lines bodies 0 x.0 (omega (arith, t.1.1)) t.1.0;
          left = left_from lines bodies 0 x.0 t.1.0;
          most = most_from lines bodies 0 x.0 t.1.0;
        },
      );
}

-- ---- frames

abbrev pub handler_text : ℕ → List ℕ
handler_text n = byte (n + 1)

abbrev pub place_text : ℕ → List ℕ
place_text n = to_be_bytes w16 (n + 1)

pub handler_spelled : (service : Declarations) → IsSpelled (handler_at service) handler_text (λ h. h < length service.handlers)
unfolding handler_at
handler_spelled service = record {
  takes = λ l x bytes e.
      let a = step (allowed_spelled wide8 (is_between 1 (length service.handlers))) l _ x bytes e in
      let range = is_between-true 1 (length service.handlers) a.value a.may in
      let back : (a.value - 1) + 1 ≡ a.value = omega (arith, range.0) in
      let spelled : Takes l (byte ((a.value - 1) + 1)) a.left = rw back a.takes in
      is_taken handler_text (λ h. h < length service.handlers) l (a.value - 1, a.left) x a.next (spelled, omega (arith, range.0, range.1));
}

abbrev pub MayLine : Declarations → List Seat → Bool → ℕ → ℕ → Type 0
MayLine service earlier runs handler place = may_be_line service earlier runs handler (place + 1) ≡ true

pub line_spelled : (service : Declarations) (earlier : List Seat) (runs : Bool) (handler : ℕ) → IsSpelled (line_at service earlier runs handler) place_text (MayLine service earlier runs handler)
unfolding line_at
line_spelled service earlier runs handler = record {
  takes = λ l x bytes e.
      let a = step (allowed_spelled wide16 (may_be_line service earlier runs handler)) l _ x bytes e in
      let range = is_between-true 1 (length (lines_of service handler)) a.value (and_parts _ _ a.may).0 in
      let back : (a.value - 1) + 1 ≡ a.value = omega (arith, range.0) in
      let spelled : Takes l (to_be_bytes w16 ((a.value - 1) + 1)) a.left = rw back a.takes in
      let may : MayLine service earlier runs handler (a.value - 1) = rw back a.may in
      is_taken place_text (MayLine service earlier runs handler) l (a.value - 1, a.left) x a.next (spelled, may);
}

-- a frame that was read after these lanes, of a lane that runs or doesn't
pub record IsFrame (service : Declarations) (earlier : List Seat) (runs : Bool) (f : Frame) : Type 0 where
  pub client : may_be_new_client earlier f.client ≡ true
  pub sequence : IsBetween 1 1000000 f.sequence
  pub handler : f.handler < length service.handlers
  pub line : MayLine service earlier runs f.handler f.place
  pub locals : AreValues (locals_of service f.handler) f.locals.items
  pub turns : AreTurns (lines_of service f.handler) (open_at (lines_of service f.handler) f.place) f.turns.items
  pub held : f.held ≡ held_by service runs f.handler f.place
  pub phase : f.phase ≡ phase_of runs

-- a frame of what was read
abbrev pub frame_of : Declarations → Bool → ℕ → ℕ → ℕ → ℕ → ArrayVec ℤ → ArrayVec Turn → Frame
frame_of service runs client sequence handler place locals turns = record {
  client = client;
  sequence = sequence;
  handler = handler;
  place = place;
  locals = locals;
  turns = turns;
  held = held_by service runs handler place;
  phase = phase_of runs;
}

frame_taken : (service : Declarations) (runs : Bool) (l a b c d e g : Left) (client sequence handler place : ℕ) (locals : ArrayVec ℤ) (turns : ArrayVec Turn) → Takes l (to_be_bytes w16 client) a → Takes a (to_be_bytes w32 sequence) b → Takes b (byte (handler + 1)) c → Takes c (to_be_bytes w16 (place + 1)) d
    → Takes d (flat_map signed locals.items) e → Takes e (flat_map turn_bytes turns.items) g → Takes l (frame_bytes (frame_of service runs client sequence handler place locals turns)) g
frame_taken service runs l a b c d e g client sequence handler place locals turns t1 t2 t3 t4 t5 t6 =
    Takes-then l a g (to_be_bytes w16 client) _ t1
    (Takes-then a b g (to_be_bytes w32 sequence) _ t2
    (Takes-then b c g (byte (handler + 1)) _ t3
    (Takes-then c d g (to_be_bytes w16 (place + 1)) _ t4
    (Takes-then d e g (flat_map signed locals.items) (flat_map turn_bytes turns.items) t5 t6))))

frame_is : (service : Declarations) (earlier : List Seat) (runs : Bool) (client sequence handler place : ℕ) (locals : ArrayVec ℤ) (turns : ArrayVec Turn) → may_be_new_client earlier client ≡ true → is_between 1 1000000 sequence ≡ true → handler < length service.handlers → MayLine service earlier runs handler place
    → AreValues (locals_of service handler) locals.items → AreTurns (lines_of service handler) (open_at (lines_of service handler) place) turns.items → IsFrame service earlier runs (frame_of service runs client sequence handler place locals turns)
frame_is service earlier runs client sequence handler place locals turns h1 h2 h3 h4 h5 h6 = record {
  client = h1;
  sequence = is_between-true 1 1000000 sequence h2;
  handler = h3;
  line = h4;
  locals = h5;
  turns = h6;
  held = refl;
  phase = refl;
}

pub frame_spelled : (service : Declarations) (earlier : List Seat) (runs : Bool) → IsSpelled (frame_at service earlier runs) frame_bytes (IsFrame service earlier runs)
unfolding frame_at
frame_spelled service earlier runs = record {
  takes = λ l x bytes e.
      let client = step (allowed_spelled wide16 (may_be_new_client earlier)) l _ x bytes e in
      let sequence = step (allowed_spelled wide32 (is_between 1 1000000)) client.left _ x client.takes.bytes client.next in
      let handler = step (handler_spelled service) sequence.left _ x sequence.takes.bytes sequence.next in
      let place = step (line_spelled service earlier runs handler.value) handler.left _ x handler.takes.bytes handler.next in
      let locals = step (array_spelled (values_spelled (locals_of service handler.value))) place.left _ x place.takes.bytes place.next in
      let turns = step (array_spelled (turns_spelled (lines_of service handler.value) (open_at (lines_of service handler.value) place.value))) locals.left _ x locals.takes.bytes locals.next in
      is_taken frame_bytes (IsFrame service earlier runs) l (frame_of service runs client.value sequence.value handler.value place.value locals.value turns.value, turns.left) x turns.next (
        frame_taken service runs l client.left sequence.left handler.left place.left locals.left turns.left client.value sequence.value handler.value place.value locals.value turns.value client.takes sequence.takes handler.takes place.takes locals.takes turns.takes,
        frame_is service earlier runs client.value sequence.value handler.value place.value locals.value turns.value client.may sequence.may handler.may place.may locals.may turns.may,
      );
}

-- ---- lanes

-- a lane waits at its line's condition if it waits in a queue, and only if it doesn't run
abbrev pub WaitsFit : Phase → Option ℕ → Option ℕ → Type 0
WaitsFit Running waits condition = waits ≡ None
WaitsFit Waiting None condition = Unit {0}
WaitsFit Waiting (Some c) condition = condition ≡ Some c

-- the condition of a frame's line
abbrev pub frame_condition : Declarations → Frame → Option ℕ
frame_condition service f = condition_of (line_in (lines_of service f.handler) f.place)

-- a busy lane that was read after these lanes
pub record IsBusy (service : Declarations) (earlier : List Seat) (f : Frame) (waits : Option ℕ) : Type 0 where
  pub frame : IsFrame service earlier (is_running f.phase) f
  pub waits_fit : WaitsFit f.phase waits (frame_condition service f)

-- the same for a lane, which may be idle
abbrev pub IsPlaced : Declarations → List Seat → Option Frame → Option ℕ → Type 0
IsPlaced service earlier None waits = waits ≡ None
IsPlaced service earlier (Some f) waits = IsBusy service earlier f waits

-- a lane that was read after these lanes
pub record IsSeat (service : Declarations) (earlier : List Seat) (s : Seat) : Type 0 where
  pub few : s.lane.done ≤ greatest_count
  pub placed : IsPlaced service earlier s.lane.frame s.waits

-- what follows a lane's status
abbrev pub frame_text : Option Frame → List ℕ
frame_text None = []
frame_text (Some f) = frame_bytes f

-- a lane's status
abbrev pub number_in : Option Frame → Option ℕ → ℕ
number_in None waits = 0
number_in (Some f) waits = status_of f.phase waits

pub busy_parts : (o : Option Frame) (waits : Option ℕ) → busy_bytes o waits ≡ byte (number_in o waits) ++ frame_text o
busy_parts None waits = refl
busy_parts (Some f) waits = refl

pub running_is : (runs : Bool) → is_running (phase_of runs) ≡ runs
running_is true = refl
running_is false = refl

pub wait_condition : (line : Line) → is_wait_line line ≡ true → (condition : ℕ) × (condition_of line ≡ Some condition)
wait_condition (Wait condition test) h = (condition, refl)
wait_condition _ h = absurd (true≢false (sym h))

-- a lane after these lanes may stand at the line
pub stands : (service : Declarations) (earlier : List Seat) (runs : Bool) (handler place : ℕ) → MayLine service earlier runs handler place → may_stand service earlier runs handler place ≡ true
stands service earlier runs handler place h =
    let back : place + 1 - 1 ≡ place = omega arith in
    subst (λ (n : ℕ). may_stand service earlier runs handler n ≡ true) back (and_parts (is_between 1 (length (lines_of service handler)) (place + 1)) (may_stand service earlier runs handler (place + 1 - 1)) h).1

-- the status that was read is that of what was read
waits_read : (service : Declarations) (earlier : List Seat) (status : ℕ) (f : Frame) → status ≤ 3 → eqb status 0 ≡ false → IsFrame service earlier (eqb status 1) f → WaitsFit f.phase (waits_by service status f) (frame_condition service f) × (status_of f.phase (waits_by service status f) ≡ status)
waits_read service earlier zero f few busy h = absurd (true≢false busy)
waits_read service earlier (suc zero) f few busy h = rw h.phase (refl, refl)
waits_read service earlier (suc (suc zero)) f few busy h =
    let c = wait_condition (line_in (lines_of service f.handler) f.place) (stands service earlier false f.handler f.place h.line) in
    rw (h.phase, c.1) (refl, refl)
waits_read service earlier (suc (suc (suc zero))) f few busy h = rw h.phase (tt, refl)
waits_read service earlier (suc (suc (suc (suc n)))) f few busy h = absurd (omega arith)

-- a lane that was read after its count and its status
pub record IsPlacedSeat (service : Declarations) (earlier : List Seat) (done status : ℕ) (s : Seat) : Type 0 where
  pub seat : IsSeat service earlier s
  pub done_is : s.lane.done ≡ done
  pub status_is : number_in s.lane.frame s.waits ≡ status

abbrev pub seat_text : Seat → List ℕ
seat_text s = frame_text s.lane.frame

abbrev pub busy_seat : Declarations → ℕ → ℕ → Frame → Seat
busy_seat service done status f = record { lane = record { done = done; frame = Some f }; waits = waits_by service status f }

busy_is : (service : Declarations) (earlier : List Seat) (done status : ℕ) (f : Frame) → done ≤ greatest_count → status ≤ 3 → eqb status 0 ≡ false → IsFrame service earlier (eqb status 1) f → IsPlacedSeat service earlier done status (busy_seat service done status f)
busy_is service earlier done status f few most busy h =
    let w = waits_read service earlier status f most busy h in
    let runs : eqb status 1 ≡ is_running f.phase = sym (running_is (eqb status 1)) ∙ ap is_running (sym h.phase) in
    record {
      seat = record { few = few; placed = record { frame = subst (λ (b : Bool). IsFrame service earlier b f) runs h; waits_fit = w.0 } };
      done_is = refl;
      status_is = w.1;
    }

busy_spelled : (service : Declarations) (earlier : List Seat) (done status : ℕ) → done ≤ greatest_count → status ≤ 3 → eqb status 0 ≡ false → IsSpelled (busy_at service earlier done status) seat_text (IsPlacedSeat service earlier done status)
unfolding busy_at
busy_spelled service earlier done status few most busy = record {
  takes = λ l x bytes e.
      let f = step (frame_spelled service earlier (status == 1)) l _ x bytes e in
      is_taken seat_text (IsPlacedSeat service earlier done status) l (busy_seat service done status f.value, f.left) x f.next (f.takes, busy_is service earlier done status f.value few most busy f.may);
}

idle_spelled : (service : Declarations) (earlier : List Seat) (done status : ℕ) → done ≤ greatest_count → eqb status 0 ≡ true → IsSpelled (λ l. Ok (idle_seat done, l)) seat_text (IsPlacedSeat service earlier done status)
idle_spelled service earlier done status few idle = record {
  takes = λ l x bytes e.
      let is : IsPlacedSeat service earlier done status (idle_seat done) = record { seat = record { few = few; placed = refl }; done_is = refl; status_is = sym (eqb-true status 0 idle) } in
      is_taken seat_text (IsPlacedSeat service earlier done status) l (idle_seat done, l) x e (Takes-none l bytes, is);
}

placed_spelled : (service : Declarations) (earlier : List Seat) (done status : ℕ) → done ≤ greatest_count → status ≤ 3 → IsSpelled (placed_at service earlier done status) seat_text (IsPlacedSeat service earlier done status)
placed_spelled service earlier done status few most =
    IsSpelled-either (status == 0) (λ l. Ok (idle_seat done, l)) (busy_at service earlier done status) seat_text (IsPlacedSeat service earlier done status)
    (λ idle. idle_spelled service earlier done status few idle) (λ busy. busy_spelled service earlier done status few most busy)

seat_taken : (l a b c : Left) (done status : ℕ) (s : Seat) → Takes l (to_be_bytes w32 done) a → Takes a (byte status) b → Takes b (seat_text s) c → s.lane.done ≡ done → number_in s.lane.frame s.waits ≡ status → Takes l (seat_bytes s) c
seat_taken l a b c done status s first second third e f =
    let one : Takes l (to_be_bytes w32 s.lane.done) a = rw e first in
    let two : Takes a (byte (number_in s.lane.frame s.waits)) b = rw f second in
    let both : Takes a (busy_bytes s.lane.frame s.waits) c = subst (λ (text : List ℕ). Takes a text c) (sym (busy_parts s.lane.frame s.waits)) (Takes-then a b c (byte (number_in s.lane.frame s.waits)) (seat_text s) two third) in
    Takes-then l a c (to_be_bytes w32 s.lane.done) (busy_bytes s.lane.frame s.waits) one both

pub seat_spelled : (service : Declarations) (earlier : List Seat) → IsSpelled (seat_at service earlier) seat_bytes (IsSeat service earlier)
unfolding seat_at
seat_spelled service earlier = record {
  takes = λ l x bytes e.
      let done = step (allowed_spelled wide32 (λ n. nat_le n greatest_count)) l _ x bytes e in
      let status = step (allowed_spelled wide8 (λ n. nat_le n 3)) done.left _ x done.takes.bytes done.next in
      let t = (placed_spelled service earlier done.value status.value (leb-true done.value greatest_count done.may) (leb-true status.value 3 status.may)).takes status.left x status.takes.bytes status.next in
      (seat_taken l done.left status.left x.1 done.value status.value x.0 done.takes status.takes t.0 t.1.done_is t.1.status_is, t.1.seat);
}

pub seats_spelled : (service : Declarations) (n : ℕ) → IsSpelled (seats_at service n) (flat_map seat_bytes) (λ seats. AreEach with_last (IsSeat service) [] seats × (length seats ≡ n))
seats_spelled service n = list_spelled (seat_at service) with_last seat_bytes (IsSeat service) (seat_spelled service) n []
