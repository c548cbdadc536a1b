-- Blocks of events, and the values that they become.
use Rattle.std.specs.Prelude.{◌<◌, ◌≤◌, List, [], ◌∷◌, ◌++◌, length}
use Rattle.std.specs.List.{All}
use Rattle.rex_syntax.specs.declared.service.Declarations.{Declarations}
use Rattle.rex_event.specs.declared.event.Event.{Event}
use Rattle.rex_event.specs.declared.delta.TheConstants.{DELTA_EVENTS}
use Rattle.rex_delta.specs.Spelling.{HasTypedKind}
use Rattle.rex_state.specs.Counts.{counts_of}
use Rattle.rex_cluster.specs.Values.{Value, state_after}
use Rattle.rex_cluster.specs.Lanes.{value_at}
use Rattle.rex_cluster.specs.Takes.{BeginsInRange}

-- blocks, one after the other
abbrev pub joined : List (List Event) → List Event
joined [] = []
joined (block ∷ blocks) = block ++ joined blocks

-- a block has some events and no more than a delta, whose requests and numbers are in their ranges
pub record IsBlock (block : List Event) : Type 0 where
  pub some : 0 < length block
  pub few : length block ≤ DELTA_EVENTS
  pub begins : All BeginsInRange block
  pub typed : All HasTypedKind block

-- the value that each block becomes, where these events were agreed before: the bytes of all its events
abbrev pub values_after : Declarations → List Event → List (List Event) → List Value
values_after service before [] = []
values_after service before (block ∷ blocks) = value_at (counts_of (state_after service (before ++ block))) block ∷ values_after service (before ++ block) blocks

-- the same from the beginning on
abbrev pub values_of : Declarations → List (List Event) → List Value
values_of service blocks = values_after service [] blocks
