-- The limits of a trace.
use Rattle.std.specs.Prelude.{ℕ}
use Rattle.rex_event.specs.declared.event.TheConstants.{LANES}

-- the most lanes
abbrev pub most_lanes : ℕ
most_lanes = LANES
