-- What holds of every run of what clients read.
use Rattle.std.specs.Prelude.{◌≡◌, ℕ, ℤ, ◌≤◌, List, ◌∷◌, ◌++◌, length, get_or}
use Rattle.std.specs.List.{All}
use Rattle.rex_ballot.specs.Limits.{most_nodes}
use Rattle.rex_syntax.specs.declared.request.Request.{Request}
use Rattle.rex_syntax.specs.declared.service.Declarations.{Declarations}
use Rattle.rex_syntax.specs.Service.{IsService}
use Rattle.rex_syntax.specs.Check.{IsChecked}
use Rattle.rex_report.specs.declared.effect.Effect.TheVariants.{Released, Read}
use Rattle.rex_reads.specs.declared.seen.Read.TheVariants as answer
use Rattle.rex_schedule.specs.declared.scenario.ScheduleLine.{ScheduleLine}
use Rattle.rex_schedule.specs.declared.scenario.ScheduleLine.TheVariants.{ReadVariable}
use Rattle.rex_schedule.specs.Fits.{RequestFits}
use Rattle.rex_cluster.specs.Values.{state_after}
use Rattle.rex_cluster.specs.World.{World, node_at, beginning, row, effects_of}
use Rattle.rex_cluster.specs.Reading.{read_at, value_in}
use Rattle.rex_cluster.specs.Agreed.{world_after, agreed, trace_at}
use Rattle.rex_cluster.specs.Stands.{Stands}
use Rattle.rex_cluster.specs.Releases.{IsAmong}
use Rattle.rex_safety.specs.Laws.{AfterAnyLines}
use Rattle.rex_event.specs.declared.event.TheConstants.{CLIENTS}

-- a client that reads the variable at the node is told this value, after so many deltas
pub record IsTold (service : Declarations) (w : World) (m client variable : ℕ) (value : ℤ) (number : ℕ) : Type 0 where
  pub answer : read_at service (node_at w.nodes m) variable (get_or w.seen client 0) ≡ answer.Value value number

-- a line that reads reports what its client is told, and no other value
pub record ReportsWhatIsTold (service : Declarations) (n : ℕ) (w : World) : Type 0 where
  pub told : (requests : List Request) (seed m client variable : ℕ) (value : ℤ) (number : ℕ) → IsTold service w m client variable value number
      → IsAmong (Read client variable value number) (row service requests seed n w (ReadVariable m client variable)).effects
  pub only : (requests : List Request) (seed m client variable : ℕ) (value : ℤ) (number : ℕ) → IsAmong (Read client variable value number) (row service requests seed n w (ReadVariable m client variable)).effects
      → IsTold service w m client variable value number

abbrev pub ReadsAreReported : Type 0
ReadsAreReported = AfterAnyLines ReportsWhatIsTold

-- what is told is the variable's value in the state after the first so many agreed deltas, of which there are as many
pub record TellsAgreed (service : Declarations) (n : ℕ) (w : World) : Type 0 where
  pub agreed : (m client variable : ℕ) (value : ℤ) (number : ℕ) → IsTold service w m client variable value number → number ≤ length (agreed w)
  pub value : (m client variable : ℕ) (value : ℤ) (number : ℕ) → IsTold service w m client variable value number → value ≡ value_in (state_after service (trace_at w number)) variable

abbrev pub ReadsAreOfTheAgreed : Type 0
ReadsAreOfTheAgreed = AfterAnyLines TellsAgreed

-- the number of deltas that a client is told never falls: where it reads later, at whatever node, it is told as many or more
abbrev pub ReadsNeverGoBack : Type 0
ReadsNeverGoBack =
    (service : Declarations) (requests : List Request) (seed n : ℕ) (lines more : List ScheduleLine) → n ≤ most_nodes → (m client variable : ℕ) (value : ℤ) (number : ℕ) → client ≤ CLIENTS
    → IsTold service (world_after service requests seed n lines) m client variable value number
    → (m_later variable_later : ℕ) (value_later : ℤ) (number_later : ℕ)
    → IsTold service (world_after service requests seed n (lines ++ ReadVariable m client variable ∷ more)) m_later client variable_later value_later number_later → number ≤ number_later

-- with a checked service and requests that fit it: each reply that these lines released to a client stands in the trace of as many agreed deltas as the client is told where it reads then
abbrev pub ReadsShowReplies : Type 0
ReadsShowReplies =
    (service : Declarations) (requests : List Request) (seed n : ℕ) (lines : List ScheduleLine) → n ≤ most_nodes → IsService service → IsChecked service → All (RequestFits service) requests
    → (client sequence : ℕ) (reply : ℤ) → client ≤ CLIENTS → IsAmong (Released client sequence reply) (effects_of service requests seed n (beginning n) lines)
    → (m variable : ℕ) (value : ℤ) (number : ℕ) → IsTold service (world_after service requests seed n lines) m client variable value number
    → Stands (trace_at (world_after service requests seed n lines) number) client sequence reply
