-- The trace of what a process knows.
use Rattle.std.specs.Prelude.{ℕ, List}
use Rattle.rex_cluster.specs.Records.{known}
use Rattle.rex_steps.specs.Tracing.{values_text}
use Rattle.rex_process.specs.Process.{ProcessValue, here}

-- the lines of the values that its records say are known
abbrev pub known_text : {K : Type 0} → (K → List (List ℕ)) → ProcessValue K → List ℕ
known_text records p = values_text p.service 1 (known (here records p).log)
