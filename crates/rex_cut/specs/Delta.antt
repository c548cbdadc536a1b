-- The piece of a trace below a cut.
use Rattle.std.specs.Prelude.{◌==◌, ℕ, ◌+◌, List, [], ◌∷◌, if◌then◌else◌}
use Rattle.rex_event.specs.declared.event.Event.{Event}
use Rattle.rex_event.specs.declared.delta.Delta.{Delta}
use Rattle.rex_event.specs.Cuts.{below}
use Rattle.rex_reduce.specs.Reduction.{reduced}

-- ---- bases

-- how many events a lane did before a list: the index of its first event there, or where it has none its count at the cut
abbrev pub base_of : ℕ → ℕ → List Event → ℕ
base_of count lane [] = count
base_of count lane (e ∷ es) = if e.lane == lane then e.index else base_of count lane es

-- the same for each lane from this one on
abbrev pub bases_from : List Event → ℕ → List ℕ → List ℕ
bases_from es lane [] = []
bases_from es lane (count ∷ counts) = base_of count lane es ∷ bases_from es (lane + 1) counts

-- ---- the delta

-- the events below a cut in recorded order, with the least causes that are right for them
abbrev pub delta_at : List ℕ → List Event → Delta
delta_at cut es = record { bases = bases_from es 0 cut; events = below cut es; causes = reduced (below cut es) }
