-- What an event and its causes have to be for their bytes to be written.
use Rattle.std.specs.Prelude.{◌<◌, ◌≤◌, List, [], ◌∷◌, length}
use Rattle.std.specs.List.{All}
use Rattle.rex_event.specs.declared.event.Event.{Event}
use Rattle.rex_event.specs.declared.delta.Cause.{Cause}
use Rattle.rex_event.specs.Limits.{most_lanes}
use Rattle.rex_delta.specs.Spelling.{KindFits}

-- the cause's lane is one of the most lanes
pub record HasLane (c : Cause) : Type 0 where
  pub lane : c.lane < most_lanes

-- the numbers of the event and of its causes fit their fields, with the most lanes
pub record CanBeWritten (e : Event) (causes : List Cause) : Type 0 where
  pub lane : e.lane < most_lanes
  pub kind : KindFits most_lanes e.kind
  pub few : length causes ≤ most_lanes
  pub each : All HasLane causes

-- each event can be written with its causes
abbrev pub CanAllBeWritten : List Event → List (List Cause) → Type 0
CanAllBeWritten [] [] = Unit {0}
CanAllBeWritten [] (causes ∷ lists) = ⊥
CanAllBeWritten (e ∷ es) [] = ⊥
CanAllBeWritten (e ∷ es) (causes ∷ lists) = CanBeWritten e causes × CanAllBeWritten es lists
