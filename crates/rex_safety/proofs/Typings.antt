-- Events that are recorded are typed, and states to which typed events run are.
use Rattle.std.proofs.Common.{◌≡◌, ℕ, zero, suc, ◌-◌, ◌*◌, ◌/◌, ◌%◌, ◌^◌, ◌<◌, Bool, true, false, cond, List, [], ◌∷◌, replicate, get_or, drop, Option, Some, None, refl, subst, arith, lt_of_le_of_lt, div-le_self, mod-lt}
use Rattle.std.specs.Prelude.{ℤ, pos, FitsSigned, nat_le, bit_xor, slice_get}
use Rattle.std.specs.List.{All}
use Rattle.std.specs.Int.{w64}
use Rattle.std.proofs.lemmas.Nat.{or_of_32}
use Rattle.std.proofs.lemmas.List.Elements.{All-nil, All-head, All-tail, All-set, All-push, All-append, All-replicate, All-map, All-drop}
use Rattle.rand_pcg.specs.Pcg.{output_xsh_rr}
use Rattle.rex_syntax.specs.declared.line.Line.{Line}
use Rattle.rex_syntax.specs.declared.line.Line.TheVariants as line
use Rattle.rex_syntax.specs.declared.request.Request.{Request}
use Rattle.rex_syntax.specs.declared.service.Handler.{Handler}
use Rattle.rex_syntax.specs.declared.service.Declarations.{Declarations}
use Rattle.rex_syntax.specs.Locks.{mode_of, is_exclusive}
use Rattle.rex_syntax.specs.Leads.{lock_of}
use Rattle.std.proofs.lemmas.Option.{same_Some}
use Rattle.rex_frame.specs.declared.frame.Frame.{Frame}
use Rattle.rex_frame.specs.Phases.{is_running}
use Rattle.rex_event.specs.declared.event.Event.{Event}
use Rattle.rex_event.specs.declared.event.Kind.{Kind}
use Rattle.rex_event.specs.declared.event.Kind.TheVariants as kind
use Rattle.rex_delta.specs.Spelling.{IsTyped, HasTypedKind}
use Rattle.rex_state.specs.declared.lane.Lane.{Lane}
use Rattle.rex_state.specs.Value.{StateValue}
use Rattle.rex_state.specs.Lines.{lines_in, lines_of, line_of, local_of}
use Rattle.rex_state.specs.Locks.{is_free}
use Rattle.rex_state.specs.Own.{fresh, reading, moved, started, run_frame, run_on}
use Rattle.rex_state.specs.Start.{first_of, start_of}
use Rattle.rex_state.specs.Machine.{no_lane, frame_at, queue_at, is_in, after, next, run_from, run}
use Rattle.rex_state.proofs.Keep.{next_is}
use Rattle.rex_record.specs.declared.turns.Turn.{Turn}
use Rattle.rex_record.specs.declared.turns.Turn.TheVariants as turn
use Rattle.rex_record.specs.Turn.{wanted, held_by, zero_at, event_at, done_unless, turn_for, waiting_turn, busy_turn, idle_turn, lane_turn, turn_of}
use Rattle.rex_record.specs.Value.{live_after, queue_after, is_begin}
use Rattle.rex_syntax.specs.Typed.{NumbersAreTyped, LineIsTyped, HandlerIsTyped, ServiceIsTyped, RequestIsTyped}
use Rattle.rex_safety.proofs.Typing.{AreTyped, FrameIsTyped, zero_fits, value_fits, walk_typed, line_typed}

-- ---- random numbers

pub word_fits : (state : ℕ) → output_xsh_rr state < 2 ^ 32
word_fits state =
    let x = bit_xor (state / 2 ^ 18) state / 2 ^ 27 % 2 ^ 32 in
    let small : x < 2 ^ 32 = mod-lt (bit_xor (state / 2 ^ 18) state / 2 ^ 27) (omega arith) in
    or_of_32 (x / 2 ^ (state / 2 ^ 59 % 32)) ((x * 2 ^ ((32 - state / 2 ^ 59 % 32) % 32)) % 2 ^ 32)
    (lt_of_le_of_lt (div-le_self x (2 ^ (state / 2 ^ 59 % 32))) small) (mod-lt (x * 2 ^ ((32 - state / 2 ^ 59 % 32) % 32)) (omega arith))

random_fits : (n : ℕ) → n < 2 ^ 32 → FitsSigned w64 (pos n)
random_fits n h = record { sfits = omega (arith, h) }

-- ---- states

abbrev pub LocalsAreTyped : Option Frame → Type 0
LocalsAreTyped None = Unit {0}
LocalsAreTyped (Some f) = FrameIsTyped f

pub record LaneIsTyped (lane : Lane) : Type 0 where
  pub frame : LocalsAreTyped lane.frame

-- the variables and each frame's locals are
pub record StateIsTyped (s : StateValue) : Type 0 where
  pub variables : AreTyped s.variables
  pub lanes : All LaneIsTyped s.lanes

no_lane_typed : LaneIsTyped no_lane
no_lane_typed = record { frame = tt }

lane_at : (lanes : List Lane) → All LaneIsTyped lanes → (i : ℕ) → LaneIsTyped (get_or lanes i no_lane)
lane_at [] h i = no_lane_typed
lane_at (x ∷ xs) h zero = All-head LaneIsTyped x xs h
lane_at (x ∷ xs) h (suc i) = lane_at xs (All-tail LaneIsTyped x xs h) i

frame_typed_at : (s : StateValue) → StateIsTyped s → (lane : ℕ) → LocalsAreTyped (frame_at s lane)
frame_typed_at s h lane = (lane_at s.lanes h.lanes lane).frame

module _ (service : Declarations) (typed : ServiceIsTyped service) where
  handler_lines : (hs : List Handler) → All HandlerIsTyped hs → (i : ℕ) → All LineIsTyped (lines_in (slice_get hs i))
  handler_lines [] h i = All-nil LineIsTyped
  handler_lines (x ∷ xs) h zero = (All-head HandlerIsTyped x xs h).lines
  handler_lines (x ∷ xs) h (suc i) = handler_lines xs (All-tail HandlerIsTyped x xs h) i

  lines_typed : (handler : ℕ) → All LineIsTyped (lines_of service handler)
  lines_typed handler = handler_lines service.handlers typed.handlers handler

  read_typed : (f : Frame) (l : Line) (value : ℤ) → FrameIsTyped f → FitsSigned w64 value → FrameIsTyped (reading l value f)
  read_typed f l value h v = record { locals = All-set (FitsSigned w64) f.locals.items (local_of l) value v h.locals }

  moved_typed : (k : Kind) (l : Line) (f : Frame) → IsTyped k → FrameIsTyped f → FrameIsTyped (moved k l f)
  moved_typed (kind.Clock value) l f t h = read_typed f l value h t
  moved_typed (kind.Random value) l f t h = read_typed f l (pos value) h (random_fits value t)
  moved_typed _ l f t h = record { locals = h.locals }

  fresh_typed : (client sequence handler : ℕ) (arguments : List ℤ) → AreTyped arguments → FrameIsTyped (fresh service client sequence handler arguments)
  fresh_typed client sequence handler arguments t = record { locals = All-append (FitsSigned w64) arguments (replicate _ (pos 0)) t (All-replicate (FitsSigned w64) _ (pos 0) zero_fits) }

  busy_started : (k : Kind) (f : Frame) → IsTyped k → FrameIsTyped f → LocalsAreTyped (started service k (Some f))
  busy_started (kind.Begin client sequence handler arguments) f t h = fresh_typed client sequence handler arguments t
  busy_started (kind.Reply client value) f t h = tt
  busy_started k f t h = moved_typed k (line_of service f) f t h

  idle_started : (k : Kind) → IsTyped k → LocalsAreTyped (started service k None)
  idle_started (kind.Begin client sequence handler arguments) t = fresh_typed client sequence handler arguments t
  idle_started _ t = tt

  starts_typed : (k : Kind) (o : Option Frame) → IsTyped k → LocalsAreTyped o → LocalsAreTyped (started service k o)
  starts_typed k None t h = idle_started k t
  starts_typed k (Some f) t h = busy_started k f t h

  pub record OwnIsTyped (r : Option Frame × List ℤ) : Type 0 where
    pub frame : LocalsAreTyped r.0
    pub variables : AreTyped r.1

  ran_typed : (o : Option Frame) (variables : List ℤ) → LocalsAreTyped o → AreTyped variables → OwnIsTyped (run_on service o variables)
  ran_typed None variables h v = record { frame = tt; variables = v }
  ran_typed (Some f) variables h v = go (is_running f.phase)
    where
      go : (t : Bool) → OwnIsTyped (Some (run_frame t (lines_of service f.handler) f variables).0, (run_frame t (lines_of service f.handler) f variables).1)
      go true = let r = walk_typed (lines_of service f.handler) (lines_typed f.handler) _ f variables h v in record { frame = r.frame; variables = r.variables }
      go false = record { frame = h; variables = v }

  after_typed : (lane : ℕ) (k : Kind) (s : StateValue) → IsTyped k → StateIsTyped s → StateIsTyped (after service lane k s)
  after_typed lane k s t h =
      let r = ran_typed (started service k (frame_at s lane)) s.variables (starts_typed k (frame_at s lane) t (frame_typed_at s h lane)) h.variables in
      record { variables = r.variables; lanes = All-set LaneIsTyped s.lanes lane _ (record { frame = r.frame }) h.lanes }

  pub next_typed : (s u : StateValue) (e : Event) → HasTypedKind e → StateIsTyped s → next service s e ≡ Some u → StateIsTyped u
  next_typed s u e t h n = subst StateIsTyped (next_is service s e u n).is (after_typed e.lane e.kind s t.kind h)

  pub run_typed : (es : List Event) (s u : StateValue) → All HasTypedKind es → StateIsTyped s → run service s es ≡ Some u → StateIsTyped u
  run_typed [] s u t h r = subst StateIsTyped (same_Some s u r) h
  run_typed (e ∷ es) s u t h r = go (next service s e) refl r (λ v g k. run_typed es v u (All-tail HasTypedKind e es t) g k)
    where
      go : (o : Option StateValue) → next service s e ≡ o → run_from service o es ≡ Some u → ((v : StateValue) → StateIsTyped v → run service v es ≡ Some u → StateIsTyped u) → StateIsTyped u
      go None n k again = absurd (cc)
      go (Some v) n k again = again v (next_typed s v e (All-head HasTypedKind e es t) h n) k

  pub start_typed : StateIsTyped (start_of service)
  start_typed = record {
    variables = All-map (FitsSigned w64) first_of service.variables (λ i d l. (typed.variables i d l).first);
    lanes = All-replicate LaneIsTyped service.lanes no_lane no_lane_typed;
  }

  -- ---- turns

  -- an event that a turn does is typed
  abbrev pub TurnIsTyped : Turn → Type 0
  TurnIsTyped (turn.Done e) = HasTypedKind e
  TurnIsTyped _ = Unit {0}

  module _ (s : StateValue) (h : StateIsTyped s) (clock : ℤ) (random : ℕ) (ticks : FitsSigned w64 clock) (word : random < 2 ^ 32) where
    done_typed : (o z : Option ℕ) (e : Event) → HasTypedKind e → TurnIsTyped (done_unless o z e)
    done_typed (Some lane) z e t = tt
    done_typed None (Some semaphore) e t = tt
    done_typed None None e t = t

    for_typed : (lane : ℕ) (k : Kind) → IsTyped k → TurnIsTyped (turn_for s lane k)
    for_typed lane k t = done_typed (held_by k s.lanes) (zero_at k s.semaphores) (event_at s lane k) (record { kind = t })

    if_typed : (b : Bool) (j k : Kind) → IsTyped j → IsTyped k → IsTyped (cond b j k)
    if_typed true j k t u = t
    if_typed false j k t u = u

    wanted_typed : (f : Frame) → FrameIsTyped f → (l : Line) → NumbersAreTyped l → IsTyped (wanted service s f clock random l)
    wanted_typed f t (line.Release lock) n = if_typed (is_exclusive (mode_of f.held lock)) (kind.RelEx lock) (kind.RelSh lock) tt tt
    wanted_typed f t (line.Try lock busy) n = if_typed (is_free lock s.lanes) (kind.TryOk lock) (kind.TryBusy lock) tt tt
    wanted_typed f t (line.Clock local) n = ticks
    wanted_typed f t (line.Random local) n = word
    wanted_typed f t (line.Reply value) n = value_fits f s.variables t h.variables value n
    wanted_typed f t _ n = search zero_fits

    waiting_typed : (lane : ℕ) (l : Line) → TurnIsTyped (waiting_turn service s lane l)
    waiting_typed lane (line.Wait condition test) = go (is_in lane (queue_at s.queues condition))
      where
        go : (t : Bool) → TurnIsTyped (cond t turn.Unsignalled (turn_for s lane (kind.Wake condition (lock_of service condition))))
        go true = tt
        go false = for_typed lane (kind.Wake condition (lock_of service condition)) tt
    waiting_typed lane _ = tt

    busy_typed : (lane : ℕ) (f : Frame) → FrameIsTyped f → (t : Bool) → TurnIsTyped (busy_turn service s lane f clock random t)
    busy_typed lane f t true = for_typed lane (wanted service s f clock random (line_of service f)) (wanted_typed f t (line_of service f) (line_typed (lines_of service f.handler) (lines_typed f.handler) f.place))
    busy_typed lane f t false = waiting_typed lane (line_of service f)

    idle_typed : (queue : List Request) → All RequestIsTyped queue → (lane : ℕ) → TurnIsTyped (idle_turn s queue lane)
    idle_typed [] q lane = tt
    idle_typed (r ∷ rest) q lane = record { kind = (All-head RequestIsTyped r rest q).arguments }

    lane_typed : (queue : List Request) → All RequestIsTyped queue → (lane : ℕ) (o : Option Frame) → LocalsAreTyped o → TurnIsTyped (lane_turn service s queue lane clock random o)
    lane_typed queue q lane None t = idle_typed queue q lane
    lane_typed queue q lane (Some f) t = busy_typed lane f t (is_running f.phase)

    pub turn_typed : (queue : List Request) → All RequestIsTyped queue → (live lane : ℕ) → TurnIsTyped (turn_of service s queue live lane clock random)
    turn_typed queue q live lane = go (nat_le 4096 live)
      where
        go : (t : Bool) → TurnIsTyped (cond t turn.Full (lane_turn service s queue lane clock random (frame_at s lane)))
        go true = tt
        go false = lane_typed queue q lane (frame_at s lane) (frame_typed_at s h lane)

  pub live_typed : (live : List Event) (t : Turn) → All HasTypedKind live → TurnIsTyped t → All HasTypedKind (live_after live t)
  live_typed live (turn.Done e) h t = All-push HasTypedKind live e h t
  live_typed live turn.Full h t = h
  live_typed live turn.Idle h t = h
  live_typed live (turn.Held by) h t = h
  live_typed live turn.Unsignalled h t = h
  live_typed live (turn.Zero semaphore) h t = h
  live_typed live turn.Unfit h t = h

pub queue_typed : (queue : List Request) (t : Turn) → All RequestIsTyped queue → All RequestIsTyped (queue_after queue t)
queue_typed queue (turn.Done e) h = go (is_begin e.kind)
  where
    go : (t : Bool) → All RequestIsTyped (cond t (drop 1 queue) queue)
    go true = All-drop RequestIsTyped 1 queue h
    go false = h
queue_typed queue turn.Full h = h
queue_typed queue turn.Idle h = h
queue_typed queue (turn.Held by) h = h
queue_typed queue turn.Unsignalled h = h
queue_typed queue (turn.Zero semaphore) h = h
queue_typed queue turn.Unfit h = h
