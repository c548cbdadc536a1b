-- Which variables have other values than their first ones.
use Rattle.std.specs.Prelude.{ℕ, ◌+◌, ◌<◌, ℤ, List, [], ◌∷◌, ◌++◌, map, slice_set, if◌then◌else◌}
use Rattle.std.specs.Ordering.{int_eq}
use Rattle.rex_syntax.specs.declared.service.Declarations.{Declarations}
use Rattle.rex_state.specs.Start.{first_of}
use Rattle.rex_snapshot.specs.declared.parts.Change.{Change}

-- the variables' first values
abbrev pub firsts : Declarations → List ℤ
firsts service = map first_of service.variables

-- a variable with its value
abbrev pub change_of : ℕ → ℤ → Change
change_of variable value = record { variable = variable; value = value }

-- the variable if its value isn't the first
abbrev pub change_if : ℕ → ℤ → ℤ → List Change
change_if n first value = if int_eq value first then [] else change_of n value ∷ []

-- the variables from this number on, by their first values and their values, whose values aren't the first
abbrev pub changes_from : ℕ → List ℤ → List ℤ → List Change
changes_from n [] values = []
changes_from n (f ∷ fs) [] = []
changes_from n (f ∷ fs) (v ∷ vs) = change_if n f v ++ changes_from (n + 1) fs vs

-- the variables whose values aren't the first
abbrev pub changes_of : Declarations → List ℤ → List Change
changes_of service values = changes_from 0 (firsts service) values

-- the values with those of these variables in their places
abbrev pub changed : List ℤ → List Change → List ℤ
changed values [] = values
changed values (c ∷ cs) = changed (slice_set values c.variable c.value) cs

-- the variable is one of so many
pub record IsWithin (count : ℕ) (c : Change) : Type 0 where
  pub inside : c.variable < count
