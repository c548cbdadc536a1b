-- What a board keeps beside its words.
use Rattle.std.specs.Prelude.{◌≡◌, ◌+◌, List, []}
use Rattle.atomic_table.specs.Seated.{TableId}
use Rattle.rex_syntax.specs.declared.service.Declarations.{Declarations}
use Rattle.rex_event.specs.Limits.{most_lanes}
use Rattle.rex_event.specs.declared.event.Event.{Event}
use Rattle.rex_event.specs.declared.delta.Cause.{Cause}
use Rattle.rex_state.specs.Value.{StateValue}
use Rattle.rex_board.specs.declared.recording.Recording.{Recording}
use Rattle.rex_board.specs.declared.view.Role.TheVariants.{Host}
use Rattle.rex_board.specs.declared.board.Board.{Board}
use Rattle.rex_board.specs.Seated.{BoardSeat}
use Rattle.rex_board.specs.Places.{lanes_in}
use Rattle.rex_board.specs.Recorded.{IsRight, service_of, start_of, events_of, causes_of, variables_in}

-- the board replays the recording: its service, its state, its events and their causes are those of the recording, and it has a word for each of the most lanes and for each variable
pub record IsBoardOf (r : Recording) (z : TableId) (service : Declarations) (state : StateValue) (es : List Event) (causes : List (List Cause)) : Type 0 where
  pub right : IsRight r
  pub words : z.words ≡ most_lanes + variables_in r
  pub slots : z.slots ≡ 0
  pub service_is : service ≡ service_of r
  pub state_is : state ≡ start_of r
  pub events_are : es ≡ events_of r
  pub causes_are : causes ≡ causes_of r

-- the host has taken in no lane yet
pub record IsHosting (r : Recording) (z : TableId) (s : BoardSeat) : Type 0 where
  pub table : s.table_id ≡ z
  pub role : s.me.0.role ≡ Host
  pub key : s.me.0.key ≡ r
  pub gathered : s.me.0.gathered ≡ []
  pub empty : s.me.1 ≡ []

-- the board is as it was made: it replays its recording, and has the lane of each event
pub record IsBoard (b : Board) : Type 0 where
  pub event_lanes : b.event_lanes.items ≡ lanes_in b.events.now
  pub replays : IsBoardOf b.table.shared.key b.table.shared.table_id b.svc.now b.state b.events.now b.causes.now

-- what it replays
abbrev pub recording_of : Board → Recording
recording_of b = b.table.shared.key

-- which one it is
abbrev pub table_of : Board → TableId
table_of b = b.table.shared.table_id
