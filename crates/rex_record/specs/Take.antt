-- Events that a recorder is handed.
use Rattle.std.specs.Prelude.{ℕ, ◌&&◌, Bool, false, not, List, nat_eq, nat_le, is_some, if◌then◌else◌}
use Rattle.rex_syntax.specs.declared.request.Request.{Request}
use Rattle.rex_syntax.specs.declared.service.Declarations.{Declarations}
use Rattle.rex_event.specs.declared.event.Event.{Event}
use Rattle.rex_event.specs.declared.event.Kind.{Kind}
use Rattle.rex_event.specs.declared.event.Kind.TheVariants.{Begin}
use Rattle.rex_state.specs.Value.{StateValue}
use Rattle.rex_state.specs.Machine.{lane_of, enabled}
use Rattle.rex_record.specs.declared.turns.Turn.{Turn}
use Rattle.rex_record.specs.declared.turns.Turn.TheVariants.{Done, Full, Unfit}
use Rattle.rex_record.specs.Value.{RecorderValue, queued_in, live_after, state_after}
use Rattle.rex_record.specs.declared.recorder.TheConstants.{LIVE_EVENTS}

-- the event begins a request of a client that has one queued
abbrev pub begins_queued : Kind → List Request → Bool
begins_queued (Begin client sequence handler arguments) queue = is_some (queued_in queue client)
begins_queued _ queue = false

-- the event's index is its lane's next one, the state allows it, and it begins no request of a client that has one queued
abbrev pub is_fit : Declarations → StateValue → List Request → Event → Bool
is_fit service s queue e = nat_eq (lane_of s e.lane).done e.index && (enabled service e.lane e.kind s && not (begins_queued e.kind queue))

-- what comes of an event that is handed in, where so many events are live
abbrev pub taken_turn : Declarations → StateValue → List Request → ℕ → Event → Turn
taken_turn service s queue live e = if nat_le LIVE_EVENTS live then Full else if is_fit service s queue e then Done e else Unfit

-- the recorder after that: its queue stays as it is
abbrev pub taken : Declarations → RecorderValue → Turn → RecorderValue
taken service r t = record r { live = live_after r.live t; state = state_after service r.state t }
