-- What comes of a lane's turn.
use Rattle.std.proofs.Common.{arith, ℤ, ◌≤ℤ◌, ◌≡◌, ℕ, Bool, true, false, List, [], ◌∷◌, ◌++◌, Option, Some, None, refl, subst, append_assoc}
use Rattle.std.specs.Prelude.{nat_le, if◌then◌else◌}
use Rattle.std.proofs.lemmas.Int.{ints}
use Rattle.std.proofs.lemmas.List.Elements.{All-nil, All-cons, All-append}
use Rattle.rex_syntax.specs.declared.line.Line.{Line}
use Rattle.rex_syntax.specs.declared.line.Line.TheVariants as line
use Rattle.rex_syntax.specs.declared.request.Request.{Request}
use Rattle.rex_syntax.specs.declared.service.Declarations.{Declarations}
use Rattle.rex_syntax.specs.Locks.{mode_of, is_exclusive}
use Rattle.rex_syntax.specs.Leads.{lock_of}
use Rattle.rex_frame.specs.declared.frame.Frame.{Frame}
use Rattle.rex_frame.specs.Phases.{is_running}
use Rattle.rex_event.specs.declared.event.Event.{Event}
use Rattle.rex_event.specs.declared.event.Kind.{Kind}
use Rattle.rex_event.specs.declared.event.Kind.TheVariants as kind
use Rattle.rex_state.specs.Value.{StateValue}
use Rattle.rex_state.specs.Lines.{line_of}
use Rattle.rex_state.specs.Locks.{is_free}
use Rattle.rex_state.specs.Machine.{frame_at, queue_at, is_in}
use Rattle.rex_record.specs.declared.turns.Turn.{Turn}
use Rattle.rex_record.specs.declared.turns.Turn.TheVariants as turn
use Rattle.rex_record.specs.Turn.{busy_turn, does_draw, done_unless, draws_at, event_at, held_by, idle_turn, is_random_line, lane_turn, turn_for, turn_of, waiting_turn, wanted, zero_at}
use Rattle.rex_record.specs.Value.{live_after}
use Rattle.rex_fits.specs.Applied.{IsNoLater, ShowNoLater, shown_by}
use Rattle.rex_process.specs.Going.{events_in}

-- a clock is no greater than itself
at_most_same : (c : ℤ) → c ≤ℤ c
at_most_same c = omega (arith, ints)

module _ (c : ℤ) where
  -- the event of a turn, if it made one, shows no greater clock
  abbrev pub TurnShows : Turn → Type 0
  TurnShows (turn.Done e) = IsNoLater c (shown_by e.kind)
  TurnShows _ = Unit {0}

  -- so it is of an event that nothing may be in the way of
  done_shows : (holder zero : Option ℕ) (e : Event) → IsNoLater c (shown_by e.kind) → TurnShows (done_unless holder zero e)
  done_shows (Some lane) zero e h = tt
  done_shows None (Some semaphore) e h = tt
  done_shows None None e h = h

  -- what is so of two kinds is so of either
  either_shows : (t : Bool) (a b : Kind) → IsNoLater c (shown_by a) → IsNoLater c (shown_by b) → IsNoLater c (shown_by (if t then a else b))
  either_shows true a b h k = h
  either_shows false a b h k = k

  module _ (service : Declarations) (s : StateValue) (lane random : ℕ) where
    -- what a lane wants shows no clock but the one that it reads
    wanted_shows : (f : Frame) (l : Line) → IsNoLater c (shown_by (wanted service s f c random l))
    wanted_shows f (line.Release lock) = either_shows (is_exclusive (mode_of f.held lock)) (kind.RelEx lock) (kind.RelSh lock) tt tt
    wanted_shows f (line.Try lock busy) = either_shows (is_free lock s.lanes) (kind.TryOk lock) (kind.TryBusy lock) tt tt
    wanted_shows f (line.Clock local) = at_most_same c
    wanted_shows f _ = tt

    -- so it is of the turn for an event of a kind
    for_shows : (k : Kind) → IsNoLater c (shown_by k) → TurnShows (turn_for s lane k)
    for_shows k h = done_shows (held_by k s.lanes) (zero_at k s.semaphores) (event_at s lane k) h

    -- a waiting lane makes an event that shows no clock, if it makes one
    waiting_shows : (l : Line) → TurnShows (waiting_turn service s lane l)
    waiting_shows (line.Wait condition test) = by (is_in lane (queue_at s.queues condition))
      where
        by : (t : Bool) → TurnShows (if t then turn.Unsignalled else turn_for s lane (kind.Wake condition (lock_of service condition)))
        by true = tt
        by false = for_shows (kind.Wake condition (lock_of service condition)) tt
    waiting_shows _ = tt

    -- a busy one shows no clock but the one that it reads
    busy_shows : (f : Frame) (t : Bool) → TurnShows (busy_turn service s lane f c random t)
    busy_shows f true = for_shows (wanted service s f c random (line_of service f)) (wanted_shows f (line_of service f))
    busy_shows f false = waiting_shows (line_of service f)

    -- an idle one begins a request
    idle_shows : (queue : List Request) → TurnShows (idle_turn s queue lane)
    idle_shows [] = tt
    idle_shows (r ∷ rest) = tt

    -- so it is of any lane
    lane_shows : (queue : List Request) (o : Option Frame) → TurnShows (lane_turn service s queue lane c random o)
    lane_shows queue None = idle_shows queue
    lane_shows queue (Some f) = busy_shows f (is_running f.phase)

    -- the event that a turn makes shows no greater clock than the lane reads
    pub turn_shows : (queue : List Request) (live : ℕ) → TurnShows (turn_of service s queue live lane c random)
    turn_shows queue live = by (nat_le 4096 live)
      where
        by : (t : Bool) → TurnShows (if t then turn.Full else lane_turn service s queue lane c random (frame_at s lane))
        by true = tt
        by false = lane_shows queue (frame_at s lane)

  -- so it is of the live events with that one
  pub more_shows : (before live : List Event) (t : Turn) → TurnShows t → ShowNoLater c (before ++ live) → ShowNoLater c (before ++ live_after live t)
  more_shows before live (turn.Done e) h shown =
      subst (ShowNoLater c) (append_assoc before live (e ∷ []))
      (All-append (λ (e : Event). IsNoLater c (shown_by e.kind)) (before ++ live) (e ∷ []) shown
      (All-cons (λ (e : Event). IsNoLater c (shown_by e.kind)) e [] h (All-nil (λ (e : Event). IsNoLater c (shown_by e.kind)))))
  more_shows before live turn.Full h shown = shown
  more_shows before live turn.Idle h shown = shown
  more_shows before live (turn.Held holder) h shown = shown
  more_shows before live turn.Unsignalled h shown = shown
  more_shows before live (turn.Zero semaphore) h shown = shown
  more_shows before live turn.Unfit h shown = shown

module _ (service : Declarations) (s : StateValue) (queue : List Request) (lane : ℕ) (clock : ℤ) (random : ℕ) where
  -- a lane that makes no event doesn't stand at a line that draws
  line_draws : (f : Frame) (l : Line) → events_in (turn_for s lane (wanted service s f clock random l)) ≡ 0 → is_random_line l ≡ false
  line_draws f (line.Random local) h = absurd (omega (arith, h))
  line_draws f _ h = refl

  -- so it is of a busy lane
  busy_draws : (f : Frame) (t : Bool) → events_in (busy_turn service s lane f clock random t) ≡ 0 → (if t then is_random_line (line_of service f) else false) ≡ false
  busy_draws f true h = line_draws f (line_of service f) h
  busy_draws f false h = refl

  -- and of one that may be idle
  frame_draws : (o : Option Frame) → events_in (lane_turn service s queue lane clock random o) ≡ 0 → draws_at service o ≡ false
  frame_draws None h = refl
  frame_draws (Some f) h = busy_draws f (is_running f.phase) h

  -- a turn that makes no event draws no random number
  pub draws_none : (live : ℕ) → events_in (turn_of service s queue live lane clock random) ≡ 0 → does_draw service s live lane ≡ false
  draws_none live = by (nat_le 4096 live)
    where
      by : (t : Bool) → events_in (if t then turn.Full else lane_turn service s queue lane clock random (frame_at s lane)) ≡ 0 → (if t then false else draws_at service (frame_at s lane)) ≡ false
      by true h = refl
      by false h = frame_draws (frame_at s lane) h
