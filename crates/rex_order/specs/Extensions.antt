-- Linear extensions of the order of a list of events.
use Rattle.std.specs.Prelude.{List, IsPermutation}
use Rattle.rex_event.specs.declared.event.Event.{Event}
use Rattle.rex_event.specs.Order.{Precedes, IsOrdered}

-- the second list has the events of the first in some order, and an event that has to come before another one stands before it
pub record IsLinearExtension (es fs : List Event) : Type 0 where
  pub rearranged : IsPermutation es fs
  pub kept : (d e : Event) → IsOrdered es d e → Precedes d e fs
