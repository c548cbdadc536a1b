-- The order of the events of a list.
use Rattle.std.specs.Prelude.{◌≡◌, ◌⊎◌, true, List, [], ◌∷◌}
use Rattle.rex_event.specs.declared.event.Event.{Event}
use Rattle.rex_event.specs.Conflict.{conflict}

-- it is among these
abbrev pub Has : {X : Type 0} → X → List X → Type 0
Has x [] = ⊥
Has x (y ∷ ys) = (y ≡ x) ⊎ Has x ys

-- one stands before the other in the list
abbrev pub Precedes : {X : Type 0} → X → X → List X → Type 0
Precedes d e [] = ⊥
Precedes d e (y ∷ ys) = ((y ≡ d) × Has e ys) ⊎ Precedes d e ys

-- one event stands before another with which it conflicts
pub record ConflictsBefore (es : List Event) (d e : Event) : Type 0 where
  pub before : Precedes d e es
  pub meets : conflict d e ≡ true

-- steps lead from one to the other by way of these
abbrev pub Chain : {X : Type 0} → (X → X → Type 0) → X → List X → X → Type 0
Chain Step d [] e = Step d e
Chain Step d (y ∷ ys) e = Step d y × Chain Step y ys e

-- steps lead from one to the other
abbrev pub IsLed : {X : Type 0} → (X → X → Type 0) → X → X → Type 0
IsLed {X = X} Step d e = (via : List X) × Chain Step d via e

-- one event has to come before another: conflicts in the list's order lead from the one to the other
abbrev pub IsOrdered : List Event → Event → Event → Type 0
IsOrdered es d e = IsLed (ConflictsBefore es) d e
