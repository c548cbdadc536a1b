-- Edges between events, and the orders that they allow.
use Rattle.std.specs.Prelude.{◌≡◌, ◌⊎◌, ℕ, true, List, [], ◌∷◌, ◌++◌, IsPermutation}
use Rattle.rex_event.specs.declared.event.Event.{Event}
use Rattle.rex_event.specs.declared.delta.Delta.{Delta}
use Rattle.rex_event.specs.Conflict.{conflict}
use Rattle.rex_event.specs.Order.{Has, Precedes}
use Rattle.rex_event.specs.Cuts.{is_below, below}
use Rattle.rex_event.specs.Causes.{StepsTo, AreRight}

-- the second list has the events below a cut in some order, and where an edge leads from an event to one that is below the cut, the one stands before the other
pub record KeepsEdges (Edge : Event → Event → Type 0) (es : List Event) (cut : List ℕ) (fs : List Event) : Type 0 where
  pub rearranged : IsPermutation (below cut es) fs
  pub kept : (d e : Event) → Edge d e → is_below cut e ≡ true → Precedes d e fs

-- ---- deltas

-- the events of deltas, one delta after the other
abbrev pub joined : List Delta → List Event
joined [] = []
joined (delta ∷ deltas) = delta.events ++ joined deltas

-- one event is of a delta, and conflicts with an event of one of the deltas after it
pub record MeetsLater (delta : Delta) (deltas : List Delta) (d e : Event) : Type 0 where
  pub here : Has d delta.events
  pub later : Has e (joined deltas)
  pub meets : conflict d e ≡ true

-- in one of the deltas one event stands before another of its lane, or is among its causes; or it conflicts with an event of a later delta
abbrev pub HasEdge : List Delta → Event → Event → Type 0
HasEdge [] d e = ⊥
HasEdge (delta ∷ deltas) d e = StepsTo delta.events delta.causes d e ⊎ (MeetsLater delta deltas d e ⊎ HasEdge deltas d e)

-- the causes of each delta are right for its events
abbrev pub AllRight : List Delta → Type 0
AllRight [] = Unit {0}
AllRight (delta ∷ deltas) = AreRight delta.events delta.causes × AllRight deltas
