-- What greatest cuts and deltas are.
use Rattle.std.specs.Prelude.{ℕ, List}
use Rattle.rex_event.specs.declared.event.Event.{Event}
use Rattle.rex_event.specs.Cuts.{AreNumbered, IsGreatestCut}
use Rattle.rex_event.specs.Causes.{AreRight}
use Rattle.rex_event.specs.Pieces.{AllCausesFit}
use Rattle.rex_reduce.specs.Reduced.{AreLeast}
use Rattle.rex_cut.specs.Greatest.{greatest_cut, IsCutOf}
use Rattle.rex_cut.specs.Delta.{delta_at}

-- the cut that lowering a trace's limits leaves is the greatest consistent one, and a cut of the trace
abbrev pub GreatestCutsAreGreatest : Type 0
GreatestCutsAreGreatest = (limits : List ℕ) (es : List Event) → IsCutOf es limits → IsGreatestCut limits es (greatest_cut limits es) × IsCutOf es (greatest_cut limits es)

-- the causes in the delta below a cut are right for its events
abbrev pub CausesAreRight : Type 0
CausesAreRight = (cut : List ℕ) (es : List Event) → IsCutOf es cut → AreRight (delta_at cut es).events (delta_at cut es).causes

-- and the least that are right for them
abbrev pub CausesAreLeast : Type 0
CausesAreLeast = (cut : List ℕ) (es : List Event) → IsCutOf es cut → AreLeast (delta_at cut es).events (delta_at cut es).causes

-- the events of the delta below a cut are numbered on from its bases, and their causes fit
abbrev pub DeltasFit : Type 0
DeltasFit =
    (cut : List ℕ) (es : List Event) → IsCutOf es cut
    → AreNumbered (delta_at cut es).bases (delta_at cut es).events × AllCausesFit (delta_at cut es).bases (delta_at cut es).bases (delta_at cut es).events (delta_at cut es).causes
