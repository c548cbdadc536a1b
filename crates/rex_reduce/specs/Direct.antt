-- Events with nothing between them.
use Rattle.std.specs.Prelude.{◌≡◌, ◌≢◌, List}
use Rattle.rex_event.specs.declared.event.Event.{Event}
use Rattle.rex_event.specs.declared.delta.Cause.{Cause}
use Rattle.rex_event.specs.Order.{Has, IsOrdered}
use Rattle.rex_event.specs.Causes.{cause_of}

-- one event has to come before another, and no event between them
pub record IsDirect (es : List Event) (d e : Event) : Type 0 where
  pub before : IsOrdered es d e
  pub next : (m : Event) → IsOrdered es d m → IsOrdered es m e → ⊥

-- a cause is an event of another lane, with nothing between the two
pub record IsFrom (es : List Event) (e : Event) (c : Cause) : Type 0 where
  pub event : Event
  pub is : cause_of event ≡ c
  pub other : event.lane ≢ e.lane
  pub direct : IsDirect es event e

-- an event's causes are the events of other lanes with nothing between
pub record AreDirect (es : List Event) (e : Event) (causes : List Cause) : Type 0 where
  pub only : (c : Cause) → Has c causes → IsFrom es e c
  pub all : (d : Event) → IsDirect es d e → d.lane ≢ e.lane → Has (cause_of d) causes
