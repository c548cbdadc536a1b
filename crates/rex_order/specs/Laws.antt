-- What every order that a trace allows comes to. (The events of a run are numbered: so says a law of `rex_state`.)
use Rattle.std.specs.Prelude.{◌≡◌, ◌≢◌, ℕ, ◌<◌, List, [], length, Some}
use Rattle.rex_syntax.specs.declared.service.Declarations.{Declarations}
use Rattle.rex_syntax.specs.Service.{IsService}
use Rattle.rex_event.specs.declared.event.Event.{Event}
use Rattle.rex_event.specs.declared.delta.Cause.{Cause}
use Rattle.rex_event.specs.declared.delta.Delta.{Delta}
use Rattle.rex_event.specs.Cuts.{AreNumbered, below, beyond, IsConsistent}
use Rattle.rex_event.specs.Causes.{StepsTo, AreRight}
use Rattle.rex_state.specs.Value.{StateValue}
use Rattle.rex_state.specs.Machine.{run}
use Rattle.rex_state.specs.Sound.{IsSound}
use Rattle.rex_order.specs.Extensions.{IsLinearExtension}
use Rattle.rex_order.specs.Edges.{KeepsEdges, joined, HasEdge, AllRight}
use Rattle.rex_order.specs.Enabled.{IsStateAt, IsEnabledAt, GoesOn}

-- each linear extension of events that run from a sound state runs from it to the same state
abbrev pub ExtensionsRunAlike : Type 0
ExtensionsRunAlike =
    (service : Declarations) (s t : StateValue) (es fs : List Event) → IsService service → IsSound service s → run service s es ≡ Some t
    → IsLinearExtension es fs → run service s fs ≡ Some t

-- there is a state at a cut, and each linear extension of the events below the cut leads to it
pub record CutRunsAlike (service : Declarations) (s : StateValue) (es : List Event) (cut : List ℕ) : Type 0 where
  pub state : StateValue
  pub at : IsStateAt service s es cut state
  pub alike : (fs : List Event) → IsLinearExtension (below cut es) fs → run service s fs ≡ Some state

-- so it is at each consistent cut of events that run from a sound state
abbrev pub CutsRunAlike : Type 0
CutsRunAlike =
    (service : Declarations) (s t : StateValue) (es : List Event) (cut : List ℕ) → IsService service → IsSound service s → run service s es ≡ Some t
    → IsConsistent es cut → CutRunsAlike service s es cut

-- the orders of a cut's events that edges allow are exactly their linear extensions
pub record AllowExtensions (Edge : Event → Event → Type 0) (es : List Event) (cut : List ℕ) : Type 0 where
  pub only : (fs : List Event) → KeepsEdges Edge es cut fs → IsLinearExtension (below cut es) fs
  pub each : (fs : List Event) → IsLinearExtension (below cut es) fs → KeepsEdges Edge es cut fs

-- so it is at each consistent cut of numbered events, for the order of each lane with causes that are right
abbrev pub EdgesAllowExtensions : Type 0
EdgesAllowExtensions =
    (counts : List ℕ) (es : List Event) (causes : List (List Cause)) (cut : List ℕ) → AreNumbered counts es → AreRight es causes
    → IsConsistent es cut → AllowExtensions (StepsTo es causes) es cut

-- and of numbered events of deltas, each with causes that are right, for the edges of these deltas
abbrev pub DeltasAllowExtensions : Type 0
DeltasAllowExtensions =
    (counts : List ℕ) (deltas : List Delta) (cut : List ℕ) → AreNumbered counts (joined deltas) → AllRight deltas
    → IsConsistent (joined deltas) cut → AllowExtensions (HasEdge deltas) (joined deltas) cut

-- at each cut of numbered events that isn't the end, consistent or not, some event is enabled
abbrev pub SomeEventIsEnabled : Type 0
SomeEventIsEnabled =
    (counts : List ℕ) (es : List Event) (causes : List (List Cause)) (cut : List ℕ) → AreNumbered counts es → AreRight es causes
    → beyond cut es ≢ [] → (e : Event) × IsEnabledAt es causes cut e

-- each event that is enabled at a consistent cut, with a count for its lane, is next in the state there, and leads to the state at the cut with it
abbrev pub EnabledEventsGoOn : Type 0
EnabledEventsGoOn =
    (service : Declarations) (s t m : StateValue) (es : List Event) (causes : List (List Cause)) (cut : List ℕ) (e : Event) → IsService service → IsSound service s
    → run service s es ≡ Some t → AreRight es causes → IsConsistent es cut → IsStateAt service s es cut m → e.lane < length cut
    → IsEnabledAt es causes cut e → GoesOn service s es cut m e
