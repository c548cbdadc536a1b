-- Calls that replay events.
use Rattle.std.specs.Prelude.{◌≡◌, List, Some, IsSome, Result, IfOk}
use Rattle.std.specs.Borrow.{Bor}
use Rattle.rex_syntax.specs.declared.service.Declarations.{Declarations}
use Rattle.rex_event.specs.declared.event.Event.{Event}
use Rattle.rex_state.specs.Value.{StateValue}
use Rattle.rex_state.specs.Machine.{run}
use Rattle.rex_state.specs.Sound.{IsSound}
use Rattle.rex_state.specs.Counts.{AreCounted}

-- a call may be made wherever events run from a sound state, and answers the state to which they lead
pub record ReplaysEvents (A E : Type 0) (may : A → Bor Declarations → Bor StateValue → Bor (List Event) → Type 0) (gives : A → Bor Declarations → Bor StateValue → Bor (List Event) → Result StateValue E → Type 0) : Type 0 where
  pub may_be_made : (alloc : A) (service : Bor Declarations) (from : Bor StateValue) (events : Bor (List Event)) → IsSound service.now from.now → IsSome (run service.now from.now events.now) → AreCounted events.now → may alloc service from events
  pub runs : (alloc : A) (service : Bor Declarations) (from : Bor StateValue) (events : Bor (List Event)) (answer : Result StateValue E) → gives alloc service from events answer → IfOk answer (λ s. run service.now from.now events.now ≡ Some s)
  pub sound : (alloc : A) (service : Bor Declarations) (from : Bor StateValue) (events : Bor (List Event)) (answer : Result StateValue E) → gives alloc service from events answer → IfOk answer (λ s. IsSound service.now s)
