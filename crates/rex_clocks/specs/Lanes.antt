-- The lanes of events.
use Rattle.std.specs.Prelude.{ℕ, ◌<◌}
use Rattle.rex_event.specs.declared.event.Event.{Event}

-- the event's lane is one of so many
pub record HasLane (lanes : ℕ) (e : Event) : Type 0 where
  pub below : e.lane < lanes
