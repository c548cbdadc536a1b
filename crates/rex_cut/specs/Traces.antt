-- Small traces that examples and tests read. Each client's first request is to handler 0, with no arguments.
pub use Rattle.rex_reduce.specs.Traces.{at, begin}
use Rattle.std.specs.Prelude.{List, [], ◌∷◌}
use Rattle.rex_event.specs.declared.event.Event.{Event}
use Rattle.rex_event.specs.declared.event.Kind.TheVariants.{AcqEx, AcqSh, RelEx, RelSh}

-- a lane takes a lock and releases it, and another takes it
abbrev pub locked : List Event
locked = at 0 0 (begin 1) ∷ at 0 1 (AcqEx 0) ∷ at 1 0 (begin 2) ∷ at 0 2 (RelEx 0) ∷ at 1 1 (AcqEx 0) ∷ []

-- two lanes share a lock and release it, and a third takes it
abbrev pub shared : List Event
shared =
    at 0 0 (begin 1) ∷ at 0 1 (AcqSh 0) ∷ at 1 0 (begin 2) ∷ at 1 1 (AcqSh 0) ∷ at 0 2 (RelSh 0) ∷ at 1 2 (RelSh 0) ∷ at 2 0 (begin 3) ∷ at 2 1 (AcqEx 0) ∷ []

-- a lane that did 4 events releases a lock, and another that did 7 takes it
abbrev pub handed : List Event
handed = at 0 4 (RelEx 0) ∷ at 1 7 (AcqEx 0) ∷ []
