-- Causes of events, and what they tell of the order.
use Rattle.std.specs.Prelude.{◌≡◌, ◌⊎◌, List, [], ◌∷◌, length}
use Rattle.rex_event.specs.declared.event.Event.{Event}
use Rattle.rex_event.specs.declared.delta.Cause.{Cause}
use Rattle.rex_event.specs.Order.{Has, Precedes, IsLed, IsOrdered}

-- the cause that an event is
abbrev pub cause_of : Event → Cause
cause_of e = record { lane = e.lane; index = e.index }

-- the event stands in the list with these causes
abbrev pub HasCauses : Event → List Cause → List Event → List (List Cause) → Type 0
HasCauses e list [] causes = ⊥
HasCauses e list (y ∷ ys) [] = ⊥
HasCauses e list (y ∷ ys) (c ∷ cs) = ((y ≡ e) × (c ≡ list)) ⊎ HasCauses e list ys cs

-- one event of the list is among the causes of another
pub record IsCauseOf (es : List Event) (causes : List (List Cause)) (d e : Event) : Type 0 where
  pub there : Has d es
  pub list : List Cause
  pub is : HasCauses e list es causes
  pub named : Has (cause_of d) list

-- one event stands before another of its lane, or is among its causes
abbrev pub StepsTo : List Event → List (List Cause) → Event → Event → Type 0
StepsTo es causes d e = (Precedes d e es × (d.lane ≡ e.lane)) ⊎ IsCauseOf es causes d e

-- causes are right for a list: with the order of each lane they lead from one event to another exactly where that one has to come before
pub record AreRight (es : List Event) (causes : List (List Cause)) : Type 0 where
  pub long : length causes ≡ length es
  pub sound : (d e : Event) → IsLed (StepsTo es causes) d e → IsOrdered es d e
  pub complete : (d e : Event) → IsOrdered es d e → IsLed (StepsTo es causes) d e
