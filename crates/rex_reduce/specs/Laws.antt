-- What least causes are, and that reduced causes are these.
use Rattle.std.specs.Prelude.{◌≡◌, List}
use Rattle.rex_event.specs.declared.event.Event.{Event}
use Rattle.rex_event.specs.declared.delta.Cause.{Cause}
use Rattle.rex_event.specs.Causes.{HasCauses}
use Rattle.rex_reduce.specs.Direct.{AreDirect}
use Rattle.rex_reduce.specs.Reduced.{AreLeast, FitPieces, IsTrace}
use Rattle.rex_reduce.specs.Reduction.{reduced}

-- a list has one family of least causes
abbrev pub LeastCausesAreOne : Type 0
LeastCausesAreOne = (es : List Event) (causes others : List (List Cause)) → AreLeast es causes → AreLeast es others → causes ≡ others

-- the reduced causes of a trace are the least that are right for it, and fit a piece
abbrev pub ReducedCausesAreLeast : Type 0
ReducedCausesAreLeast = (es : List Event) → IsTrace es → AreLeast es (reduced es) × FitPieces es (reduced es)

-- each event's reduced causes are the events of other lanes that have to come before it, with nothing between
abbrev pub ReducedCausesAreDirect : Type 0
ReducedCausesAreDirect = (es : List Event) → IsTrace es → (e : Event) (causes : List Cause) → HasCauses e causes es (reduced es) → AreDirect es e causes
