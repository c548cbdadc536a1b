-- What holds of every run of a scenario.
use Rattle.std.specs.Prelude.{◌≡◌, ◌⊎◌, ℕ, ℤ, ◌^◌, ◌≤◌, List, ◌∷◌, ◌++◌, length, Some, slice_get, map, take}
use Rattle.std.specs.List.{All}
use Rattle.rex_ballot.specs.Limits.{most_nodes}
use Rattle.rex_syntax.specs.declared.request.Request.{Request}
use Rattle.rex_syntax.specs.declared.service.Declarations.{Declarations}
use Rattle.rex_syntax.specs.Service.{IsService}
use Rattle.rex_syntax.specs.Check.{IsChecked}
use Rattle.rex_syntax.specs.Typed.{ServiceIsTyped, RequestIsTyped}
use Rattle.rex_event.specs.Cuts.{IsConsistent}
use Rattle.rex_event.specs.declared.event.TheConstants.{CLIENTS}
use Rattle.rex_state.specs.Value.{StateValue}
use Rattle.rex_state.specs.Start.{start_of}
use Rattle.rex_state.specs.Machine.{run}
use Rattle.rex_state.specs.Commute.{GoesFirst}
use Rattle.rex_schedule.specs.declared.scenario.ScheduleLine.{ScheduleLine}
use Rattle.rex_schedule.specs.declared.scenario.ScheduleLine.TheVariants.{ReadVariable}
use Rattle.rex_schedule.specs.Fits.{RequestFits, LineFits}
use Rattle.rex_reduce.specs.Reduced.{AreLeast}
use Rattle.rex_order.specs.Laws.{CutRunsAlike, AllowExtensions}
use Rattle.rex_order.specs.Edges.{HasEdge}
use Rattle.rex_report.specs.declared.effect.Effect.TheVariants.{Released}
use Rattle.rex_cluster.specs.Quorum.{IsNode}
use Rattle.rex_safety.specs.Rounds.{greatest_round, NoneIsSpent}
use Rattle.rex_cluster.specs.Values.{Value, delta_of, trace_of}
use Rattle.rex_cluster.specs.Invariant.{IsIn, Begins}
use Rattle.rex_cluster.specs.World.{node_at, beginning, effects_of}
use Rattle.rex_cluster.specs.Agreed.{world_after, known_at, agreed, trace_at}
use Rattle.rex_cluster.specs.Lanes.{node_trace}
use Rattle.rex_safety.specs.Once.{IsOnce}
use Rattle.rex_cluster.specs.Releases.{Moment, moments, IsAmong, IsReleased, IsLeader, IsLater}
use Rattle.rex_cluster.specs.Stands.{Stands}
use Rattle.rex_safety.specs.Faithful.{EachCutIsFaithful}
use Rattle.rex_safety.specs.Seeing.{IsTold, ReportsWhatIsTold, TellsAgreed}

-- a front of the schedule is the world after it
abbrev pub AtFronts : List ScheduleLine → (List ScheduleLine → Type 0) → Type 0
AtFronts lines P = (front rest : List ScheduleLine) → lines ≡ front ++ rest → P front

-- of a run of these lines with n nodes: what two nodes know, the same or different ones, each at its moment, is one list a front of the other; each front of the agreed trace runs from the start on one thread; the events below each of its consistent cuts run too, in every order that keeps what has to come first, to one state, and the others lead on from there to the state of the whole; these orders are just those that the edges of the agreed deltas allow; the causes of each of these are the least that are right; each request begins at most once and is replied to at most once in the agreed trace; each reply that was released stands in the trace of every later leader, and in the agreed trace from then on; what a client that reads is told is the variable's value in the state after the first so many agreed deltas as it is told, and a line that reads reports just that; the number of deltas that a client is told never falls, at whatever nodes it reads; each reply that was released to a client stands in the trace of as many agreed deltas as it is told then; and no election of so many lines or fewer as there are rounds lacks one
pub record Headline (service : Declarations) (requests : List Request) (seed n : ℕ) (lines : List ScheduleLine) : Type 0 where
  pub prefix : (earlier later rest : List ScheduleLine) → lines ≡ (earlier ++ later) ++ rest → (a b : ℕ) → IsNode n a → IsNode n b
      → Begins (known_at (world_after service requests seed n earlier) a) (known_at (world_after service requests seed n (earlier ++ later)) b)
      ⊎ Begins (known_at (world_after service requests seed n (earlier ++ later)) b) (known_at (world_after service requests seed n earlier) a)
  pub runs : AtFronts lines (λ front. (k : ℕ) → (s : StateValue) × (run service (start_of service) (trace_at (world_after service requests seed n front) k) ≡ Some s))
  pub cuts : AtFronts lines (λ front. (k : ℕ) (cut : List ℕ) → IsConsistent (trace_at (world_after service requests seed n front) k) cut
      → (s : StateValue) × (run service (start_of service) (trace_at (world_after service requests seed n front) k) ≡ Some s) × GoesFirst service (start_of service) s cut (trace_at (world_after service requests seed n front) k))
  pub orders : AtFronts lines (λ front. (k : ℕ) (cut : List ℕ) → IsConsistent (trace_at (world_after service requests seed n front) k) cut
      → CutRunsAlike service (start_of service) (trace_at (world_after service requests seed n front) k) cut)
  pub edges : AtFronts lines (λ front. (k : ℕ) (cut : List ℕ) → IsConsistent (trace_at (world_after service requests seed n front) k) cut
      → AllowExtensions (HasEdge (map delta_of (take k (agreed (world_after service requests seed n front))))) (trace_at (world_after service requests seed n front) k) cut)
  pub causes : AtFronts lines (λ front. (v : Value) → IsIn v (agreed (world_after service requests seed n front)) → AreLeast (delta_of v).events (delta_of v).causes)
  pub once : AtFronts lines (λ front. IsOnce (trace_of (agreed (world_after service requests seed n front))))
  pub stands : AtFronts lines (λ front. (i j : ℕ) (release lead : Moment) → slice_get (moments service requests seed n (beginning n) front) i ≡ Some release → slice_get (moments service requests seed n (beginning n) front) j ≡ Some lead
      → (ballot client sequence : ℕ) (value : ℤ) → IsReleased release ballot client sequence value
      → (m later : ℕ) → IsLeader lead.world m later → IsLater i ballot j later
      → Stands (node_trace (node_at lead.world.nodes m)) client sequence value)
  pub released : AtFronts lines (λ front. (client sequence : ℕ) (value : ℤ) → IsAmong (Released client sequence value) (effects_of service requests seed n (beginning n) front)
      → Stands (trace_of (agreed (world_after service requests seed n front))) client sequence value)
  pub reads : AtFronts lines (λ front. TellsAgreed service n (world_after service requests seed n front))
  pub reported : AtFronts lines (λ front. ReportsWhatIsTold service n (world_after service requests seed n front))
  pub forward : (earlier later rest : List ScheduleLine) (m client variable : ℕ) → lines ≡ (earlier ++ ReadVariable m client variable ∷ later) ++ rest → client ≤ CLIENTS
      → (value : ℤ) (number : ℕ) → IsTold service (world_after service requests seed n earlier) m client variable value number
      → (m_later variable_later : ℕ) (value_later : ℤ) (number_later : ℕ)
      → IsTold service (world_after service requests seed n (earlier ++ ReadVariable m client variable ∷ later)) m_later client variable_later value_later number_later → number ≤ number_later
  pub shown : AtFronts lines (λ front. (client sequence : ℕ) (reply : ℤ) → client ≤ CLIENTS → IsAmong (Released client sequence reply) (effects_of service requests seed n (beginning n) front)
      → (m variable : ℕ) (value : ℤ) (number : ℕ) → IsTold service (world_after service requests seed n front) m client variable value number
      → Stands (trace_at (world_after service requests seed n front) number) client sequence reply)
  pub rounds : length lines ≤ greatest_round → NoneIsSpent (effects_of service requests seed n (beginning n) lines)

-- it holds for every checked service, whatever the schedule, for at most nine nodes
abbrev pub HeadlineHolds : Type 0
HeadlineHolds =
    (service : Declarations) (requests : List Request) (seed n : ℕ) (lines : List ScheduleLine) → n ≤ most_nodes → IsService service → IsChecked service
    → All (RequestFits service) requests → Headline service requests seed n lines

-- after each front of the lines, whatever an active node would cut is faithful wherever an event is below it: so the case of a cut that isn't never comes
pub record StaysFaithful (service : Declarations) (requests : List Request) (seed n : ℕ) (lines : List ScheduleLine) : Type 0 where
  pub cuts : AtFronts lines (λ front. EachCutIsFaithful service seed (world_after service requests seed n front))

-- so it is of a checked service, where the requests fit it, the lines name what is there and are at most 2^63, and the numbers of the service and of the requests are of 64 bits
abbrev pub RunsStayFaithful : Type 0
RunsStayFaithful =
    (service : Declarations) (requests : List Request) (seed n : ℕ) (lines : List ScheduleLine) → n ≤ most_nodes → IsService service → IsChecked service → ServiceIsTyped service
    → All (RequestFits service) requests → All RequestIsTyped requests → All (LineFits n (length requests) service.lanes) lines → length lines ≤ 2 ^ 63 → StaysFaithful service requests seed n lines
