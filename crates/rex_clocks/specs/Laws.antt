-- What the clocks of events tell.
use Rattle.std.specs.Prelude.{◌≡◌, ◌⊎◌, ℕ, ◌+◌, ◌≤◌, true, List, ◌∷◌, ◌++◌, length, reverse}
use Rattle.rex_event.specs.declared.event.Event.{Event}
use Rattle.rex_event.specs.Order.{IsOrdered}
use Rattle.rex_event.specs.Cuts.{count_at, AreNumbered}
use Rattle.rex_event.specs.declared.event.TheConstants.{LANES}
use Rattle.rex_clocks.specs.Counts.{covers}
use Rattle.rex_clocks.specs.Clocks.{clock_of}

-- where lanes did so many events before a list, a clock covers one of its events, those that have to come before it, and nothing else
pub record IsClockOf (bases : List ℕ) (es : List Event) (e : Event) (clock : List ℕ) : Type 0 where
  pub all : (d : Event) (place : ℕ) → (d ≡ e) ⊎ IsOrdered es d e → d.index ≡ count_at bases d.lane + place → covers clock d.lane place ≡ true
  pub only :
      (lane place : ℕ) → covers clock lane place ≡ true
      → (d : Event) × (d.lane ≡ lane) × (d.index ≡ count_at bases lane + place) × ((d ≡ e) ⊎ IsOrdered es d e)

-- the clock of an event that stands between its past and the rest of a list of no more lanes than a clock counts
abbrev pub ClocksAreOrder : Type 0
ClocksAreOrder =
    (bases : List ℕ) (past : List Event) (e : Event) (rest : List Event) → length bases ≤ LANES
    → AreNumbered bases (reverse past ++ e ∷ rest) → IsClockOf bases (reverse past ++ e ∷ rest) e (clock_of past e)
