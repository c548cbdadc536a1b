-- What is kept of a recorder.
pub use Rattle.rex_state.specs.Counts.{AreCounted}
use Rattle.std.specs.Prelude.{◌≡◌, ◌+◌, ◌^◌, ◌<◌, ◌≤◌, true, List, [], ◌∷◌, length, Some, None, IsSome}
use Rattle.rex_event.specs.declared.event.Event.{Event}
use Rattle.rex_syntax.specs.declared.request.Request.{Request}
use Rattle.rex_syntax.specs.declared.service.Declarations.{Declarations}
use Rattle.rex_state.specs.Value.{StateValue}
use Rattle.rex_state.specs.Machine.{can_begin, client_allows, next, run}
use Rattle.rex_state.specs.Sound.{IsSound}
use Rattle.rex_record.specs.Turn.{begin_of}
use Rattle.rex_record.specs.declared.turns.Turn.{Turn}
use Rattle.rex_record.specs.declared.turns.Turn.TheVariants.{Done}
use Rattle.rex_record.specs.Value.{RecorderValue, queued_in}
use Rattle.rex_record.specs.declared.recorder.TheConstants.{LIVE_EVENTS}

-- an idle lane could begin the request
pub record CanBegin (service : Declarations) (s : StateValue) (r : Request) : Type 0 where
  pub handler : can_begin service (begin_of r) ≡ true
  pub client : client_allows (begin_of r) s.clients ≡ true

-- an idle lane could begin each queued request, and no two are of one client
abbrev pub AreQueued : Declarations → StateValue → List Request → Type 0
AreQueued service s [] = Unit {0}
AreQueued service s (r ∷ rest) = CanBegin service s r × (queued_in rest r.client ≡ None) × AreQueued service s rest

-- the live events run from a sound state to the state
pub record IsRecorder (service : Declarations) (r : RecorderValue) : Type 0 where
  pub sound : IsSound service r.start
  pub runs : run service r.start r.live ≡ Some r.state
  pub few : length r.live ≤ LIVE_EVENTS
  pub queue : AreQueued service r.state r.queue

-- the event of a turn is next, and its index leaves room for the next one
abbrev pub CanFollow : Declarations → StateValue → Turn → Type 0
CanFollow service s (Done e) = IsSome (next service s e) × (e.index + 1 < 2 ^ 32)
CanFollow service s _ = Unit {0}

-- the events run from the state, and their indices leave room for the next ones
pub record CanAdvance (service : Declarations) (s : StateValue) (es : List Event) : Type 0 where
  pub sound : IsSound service s
  pub runs : IsSome (run service s es)
  pub counted : AreCounted es
