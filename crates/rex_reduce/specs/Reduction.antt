-- The reduced causes of a trace.
use Rattle.std.specs.Prelude.{ℕ, zero, suc, ◌+◌, ◌-◌, ◌&&◌, not, nat_eq, nat_lt, List, [], ◌∷◌, ◌++◌, slice_set, if◌then◌else◌}
use Rattle.rex_event.specs.declared.event.Event.{Event}
use Rattle.rex_event.specs.declared.delta.Cause.{Cause}
use Rattle.rex_event.specs.Cuts.{count_at}
use Rattle.rex_event.specs.declared.event.TheConstants.{LANES}
use Rattle.rex_clocks.specs.Counts.{none}
use Rattle.rex_clocks.specs.Clocks.{clock_before}
use Rattle.rex_reduce.specs.Clocks.{clock_beneath}

-- the index of each lane's first event; 0 for a lane without one
abbrev pub first_indices : List Event → List ℕ
first_indices [] = none
first_indices (e ∷ es) = slice_set (first_indices es) e.lane e.index

-- the last event of a lane that is covered
abbrev pub last_covered : List ℕ → List ℕ → ℕ → Cause
last_covered bases clock lane = record { lane = lane; index = count_at bases lane + (count_at clock lane - 1) }

-- for each of the first so many lanes but for the own one, the last event that the one clock covers, unless the other one covers it, too
abbrev pub uncovered : List ℕ → List ℕ → List ℕ → ℕ → ℕ → List Cause
uncovered bases clock beneath own zero = []
uncovered bases clock beneath own (suc lane) =
    uncovered bases clock beneath own lane
    ++ (if nat_lt (count_at beneath lane) (count_at clock lane) && not (nat_eq lane own) then last_covered bases clock lane ∷ [] else [])

-- the causes of an event with this past: in each other lane the last event before it, unless another event is between the two
abbrev pub reduced_causes : List ℕ → List Event → Event → List Cause
reduced_causes bases past e = uncovered bases (clock_before past e) (clock_beneath past e) e.lane LANES

-- the same for each event of a list that follows on a past
abbrev pub reduced_from : List ℕ → List Event → List Event → List (List Cause)
reduced_from bases past [] = []
reduced_from bases past (e ∷ es) = reduced_causes bases past e ∷ reduced_from bases (e ∷ past) es

-- the reduced causes of each event of a trace
abbrev pub reduced : List Event → List (List Cause)
reduced es = reduced_from (first_indices es) [] es
