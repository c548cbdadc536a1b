-- What a migration leaves as it was.
use Rattle.std.specs.Prelude.{◌≡◌, ℕ, false, List, take, Some, None}
use Rattle.rex_syntax.specs.declared.service.Declarations.{Declarations}
use Rattle.rex_state.specs.Value.{StateValue}
use Rattle.rex_cluster.specs.Records.{Rec, promise, accepted, known, base, has_old_base}
use Rattle.rex_cluster.specs.Calls.{Call, migrate}
use Rattle.rex_cluster.specs.Values.{Value, service_of, trace_of, state_after}
use Rattle.rex_cluster.specs.Agreed.{base_state}

-- two lists of records say the same of what outlives a node: what it promised, accepted and knows, and how many values its last checkpoint is after
pub record SayTheSame (one other : List (Rec Value StateValue)) : Type 0 where
  pub promises : promise one ≡ promise other
  pub acceptances : accepted one ≡ accepted other
  pub values : known one ≡ known other
  pub bases : base one ≡ base other

-- a migration changes nothing of that, whether its append goes well, or fails and keeps or loses its record
abbrev pub MigrationsSayTheSame : Type 0
MigrationsSayTheSame = (service : Declarations) (seed me : ℕ) (d : Call Value StateValue) → SayTheSame (migrate (service_of service seed) me d).node.log d.node.log

-- where the last checkpoint is of the state to which the values up to it run, the last one after a migration is of the same state
abbrev pub MigrationsKeepStates : Type 0
MigrationsKeepStates =
    (service : Declarations) (seed me : ℕ) (d : Call Value StateValue) (s : StateValue) → base_state d.node.log ≡ Some s → s ≡ state_after service (trace_of (take (base d.node.log) (known d.node.log)))
    → base_state (migrate (service_of service seed) me d).node.log ≡ Some s

-- after a migration whose append goes well the last checkpoint is no longer in the old version, so that the next one writes down nothing
abbrev pub MigrationsHappenOnce : Type 0
MigrationsHappenOnce = (service : Declarations) (seed me : ℕ) (d : Call Value StateValue) → d.node.armed ≡ None → has_old_base (migrate (service_of service seed) me d).node.log ≡ false
