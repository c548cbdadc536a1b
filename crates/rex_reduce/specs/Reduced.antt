-- The least causes that are right for a trace.
use Rattle.std.specs.Prelude.{ℕ, ◌<◌, ◌≤◌, List, length}
use Rattle.std.specs.List.{All, AllZip}
use Rattle.rex_event.specs.declared.event.Event.{Event}
use Rattle.rex_event.specs.declared.delta.Cause.{Cause}
use Rattle.rex_event.specs.Order.{Has}
use Rattle.rex_event.specs.Cuts.{AreNumbered}
use Rattle.rex_event.specs.Causes.{AreRight}
use Rattle.rex_event.specs.declared.event.TheConstants.{LANES}
use Rattle.rex_event.specs.Pieces.{AreRising, AllCausesFit}

-- each of these causes is one of those
pub record AreAmong (causes others : List Cause) : Type 0 where
  pub each : (c : Cause) → Has c causes → Has c others

-- the causes of an event rise by lane, at most one a lane
pub record RiseByLane (causes : List Cause) : Type 0 where
  pub rising : AreRising 0 causes

-- causes are the least that are right for a list, each event's rising by lane: whatever causes are right for it, those of each event
-- have these among them
pub record AreLeast (es : List Event) (causes : List (List Cause)) : Type 0 where
  pub right : AreRight es causes
  pub least : (others : List (List Cause)) → AreRight es others → AllZip AreAmong causes others
  pub rising : All RiseByLane causes

-- they fit a piece of these events, from whatever counts the events are numbered on
pub record FitPieces (es : List Event) (causes : List (List Cause)) : Type 0 where
  pub fit : (bases : List ℕ) → length bases ≤ LANES → AreNumbered bases es → AllCausesFit bases bases es causes

-- the lanes are no more than a clock counts, and events are numbered on from what each lane did before them
pub record IsTrace (es : List Event) : Type 0 where
  pub bases : List ℕ
  pub few : length bases ≤ LANES
  pub numbered : AreNumbered bases es

-- an event's index leaves one for the next event of its lane
pub record HasNext (e : Event) : Type 0 where
  pub index : e.index < 4294967295
