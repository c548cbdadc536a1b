-- Which events may be done at a cut.
use Rattle.std.specs.Prelude.{◌≡◌, ℕ, true, false, List, Some}
use Rattle.rex_syntax.specs.declared.service.Declarations.{Declarations}
use Rattle.rex_event.specs.declared.event.Event.{Event}
use Rattle.rex_event.specs.declared.delta.Cause.{Cause}
use Rattle.rex_event.specs.Order.{Has, Precedes}
use Rattle.rex_event.specs.Cuts.{is_below, below, counted, IsConsistent}
use Rattle.rex_event.specs.Causes.{IsCauseOf}
use Rattle.rex_state.specs.Value.{StateValue}
use Rattle.rex_state.specs.Machine.{next, run}

-- the state at a cut: the one to which the events below it, in recorded order, run
abbrev pub IsStateAt : Declarations → StateValue → List Event → List ℕ → StateValue → Type 0
IsStateAt service s es cut m = run service s (below cut es) ≡ Some m

-- an event is enabled at a cut: it is its lane's first that isn't below it, and all its causes are below it
pub record IsEnabledAt (es : List Event) (causes : List (List Cause)) (cut : List ℕ) (e : Event) : Type 0 where
  pub there : Has e es
  pub outside : is_below cut e ≡ false
  pub first : (d : Event) → Precedes d e es → d.lane ≡ e.lane → is_below cut d ≡ true
  pub caused : (d : Event) → IsCauseOf es causes d e → is_below cut d ≡ true

-- an event is next in the state of a cut, and leads to the state of the cut with one event more, which is consistent
pub record GoesOn (service : Declarations) (s : StateValue) (es : List Event) (cut : List ℕ) (m : StateValue) (e : Event) : Type 0 where
  pub state : StateValue
  pub next : next service m e ≡ Some state
  pub at : IsStateAt service s es (counted cut e) state
  pub consistent : IsConsistent es (counted cut e)
