-- What a lane does next, read off what its seat keeps.
use Rattle.std.specs.Prelude.{ℕ, ℤ, pos, List, length, nat_lt, slice_get, Option, Some, None, if◌then◌else◌}
use Rattle.rex_syntax.specs.declared.service.Declarations.{Declarations}
use Rattle.rex_syntax.specs.declared.line.Line.{Line}
use Rattle.rex_syntax.specs.declared.line.Line.TheVariants as line
use Rattle.rex_frame.specs.declared.frame.Frame.{Frame}
use Rattle.rex_frame.specs.Step.{value_in}
use Rattle.rex_event.specs.declared.event.Kind.{Kind}
use Rattle.rex_event.specs.declared.event.Kind.TheVariants as kind
use Rattle.rex_state.specs.Lines.{line_of}
use Rattle.rex_words.specs.declared.seat.WordSeat.{WordSeat}
use Rattle.rex_words.specs.declared.choice.Choice.{Choice}
use Rattle.rex_words.specs.declared.choice.Choice.TheVariants.{Idle, Full, Alone, Acquire, Try, Release}
use Rattle.rex_words.specs.Alone.{begin_next}
use Rattle.rex_words.specs.declared.limits.TheConstants.{IDLE_EVENTS}

-- an idle lane, after so many events, by the begin of its next request
abbrev pub idle_choice : ℕ → Option Kind → Choice
idle_choice count None = Idle
idle_choice count (Some begin) = if nat_lt IDLE_EVENTS count then Full else Alone begin

-- a busy lane at a line; a lane of plain locks stands at no other line
abbrev pub busy_choice : Frame → List ℤ → ℕ → ℕ → Line → Choice
busy_choice f variables count random (line.Acquire lock) = Acquire lock
busy_choice f variables count random (line.Try lock busy) = Try lock
busy_choice f variables count random (line.Release lock) = Release lock
busy_choice f variables count random (line.Clock local) = Alone (kind.Clock (pos count))
busy_choice f variables count random (line.Random local) = Alone (kind.Random random)
busy_choice f variables count random (line.Reply value) = Alone (kind.Reply f.client (value_in value f variables))
busy_choice f variables count random _ = Idle

-- the lane of a seat, by its frame
abbrev pub choice_of : Declarations → WordSeat → Option Frame → Choice
choice_of service m None = idle_choice (length m.events.items) (begin_next service m.lane m.state (slice_get m.requests.items m.begun))
choice_of service m (Some f) = busy_choice f m.state.variables (length m.events.items) m.random (line_of service f)
