-- Counts of events by lane, of which each covers the first events of its lane.
use Rattle.std.specs.Prelude.{ℕ, ◌+◌, ◌-◌, Bool, nat_lt, max, List, [], ◌∷◌, replicate, slice_set}
use Rattle.rex_event.specs.Cuts.{count_at}
use Rattle.rex_event.specs.declared.event.TheConstants.{LANES}

-- counts that cover nothing
abbrev pub none : List ℕ
none = replicate LANES 0

-- one more event of a lane is covered
abbrev pub ticked : List ℕ → ℕ → List ℕ
ticked counts lane = slice_set counts lane (count_at counts lane + 1)

-- the last event of a lane is not covered
abbrev pub unticked : List ℕ → ℕ → List ℕ
unticked counts lane = slice_set counts lane (count_at counts lane - 1)

-- what either covers is covered
abbrev pub merged : List ℕ → List ℕ → List ℕ
merged [] others = others
merged (count ∷ counts) [] = count ∷ counts
merged (count ∷ counts) (other ∷ others) = max count other ∷ merged counts others

-- the event of a lane before which the lane had so many is covered
abbrev pub covers : List ℕ → ℕ → ℕ → Bool
covers counts lane place = nat_lt place (count_at counts lane)
