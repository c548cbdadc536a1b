-- How a process comes up.
use Rattle.std.specs.Prelude.{◌≡◌, ◌⊎◌, ◌<◌, ◌≤◌, ◌+◌, ◌-◌, ◌^◌, ◌==◌, ◌||◌, ℕ, Bool, true, false, pos, List, [], ◌∷◌, take, length, slice_index_or, Option, Some, None}
use Rattle.rex_ballot.specs.declared.ballots.TheConstants.{INSTANCES}
use Rattle.rex_syntax.specs.declared.service.Declarations.{Declarations}
use Rattle.rex_state.specs.Start.{start_of}
use Rattle.rex_state.specs.Machine.{run}
use Rattle.rex_cluster.specs.Records.{known}
use Rattle.rex_cluster.specs.Calls.{begin, restart, start}
use Rattle.rex_cluster.specs.Node.{down_node}
use Rattle.rex_cluster.specs.Values.{Value, service_of, trace_of, values_fit}
use Rattle.rex_log.specs.Log.{log_of}
use Rattle.rex_node.specs.declared.restart.RestartFault.{RestartFault}
use Rattle.rex_node.specs.declared.restart.RestartFault.TheVariants as refused
use Rattle.rex_node.specs.Parts.{NodeValue, IsNode, here_of}
use Rattle.rex_node.specs.Restarting.{IsRestartFault}
use Rattle.rex_processes.specs.Plain.{IsPlain}
use Rattle.rex_fits.specs.Applied.{AppliedValue, clock_after}
use Rattle.rex_process.specs.declared.starting.StartFault.{StartFault}
use Rattle.rex_process.specs.declared.starting.StartFault.TheVariants.{BadRecord, Unfit, OutOfMemory}
use Rattle.rex_process.specs.Process.{ProcessValue, caught_up, here}

-- it is the node of this number, of so many, with this keeper, and it is what the model makes of one that comes up with its records and catches up;
-- its clock is the greatest that what it knows shows, or 0
pub record HasStarted {K : Type 0} (records : K → List (List ℕ)) (service : Declarations) (id nodes seed : ℕ) (keeper : K) (p : ProcessValue K) : Type 0 where
  pub service_is : p.service ≡ service
  pub id_is : p.node.id ≡ id
  pub nodes_are : p.node.nodes ≡ nodes
  pub seed_is : p.node.seed ≡ seed
  pub keeper_is : p.node.keeper ≡ keeper
  pub up : p.node.up ≡ true
  pub is : here records p ≡ (caught_up id (start (service_of service seed) id (begin (down_node (log_of service [] (records keeper)) None)))).node
  pub clock_is : p.clock ≡ clock_after (pos 0) (known (here records p).log)

-- ---- records

-- bytes begin as those of a promise, an acceptance or a known value: with the number of that kind
abbrev pub begins_plain : List ℕ → Bool
begins_plain [] = false
begins_plain (kind ∷ content) = (kind == 1 || kind == 2) || kind == 3

-- so many first lists of bytes begin so
abbrev pub FirstArePlain : List (List ℕ) → ℕ → Type 0
FirstArePlain kept many = (k : ℕ) → k < many → begins_plain (slice_index_or kept k []) ≡ true

-- the lists before this number, which counts from 1, begin so, and the one of this number doesn't
pub record HasOther (kept : List (List ℕ)) (number : ℕ) : Type 0 where
  pub place : ℕ
  pub numbered : number ≡ place + 1
  pub there : place < length kept
  pub before : FirstArePlain kept place
  pub other : begins_plain (slice_index_or kept place []) ≡ false

-- without such a one all begin so
abbrev pub IsFirstOther : List (List ℕ) → Option ℕ → Type 0
IsFirstOther kept None = FirstArePlain kept (length kept)
IsFirstOther kept (Some number) = HasOther kept number

-- ---- values

-- the values before this number, which counts from 1, fit, and with the one of this number they don't
pub record IsFirstUnfit (service : Declarations) (values : List Value) (number : ℕ) : Type 0 where
  pub before : ℕ
  pub numbered : number ≡ before + 1
  pub there : before < length values
  pub fit : values_fit service (take before values) ≡ true
  pub unfit : values_fit service (take (before + 1) values) ≡ false

-- the values fit, and this is what they come to: the state, and the greatest clock that they show
pub record AreApplied (service : Declarations) (values : List Value) (a : AppliedValue) : Type 0 where
  pub fit : values_fit service values ≡ true
  pub runs : run service (start_of service) (trace_of values) ≡ Some a.state
  pub clock_is : a.clock ≡ clock_after (pos 0) values

-- they don't fit, or memory was short
abbrev pub IsUnfit : Declarations → List Value → StartFault → Type 0
IsUnfit service values (BadRecord number) = ⊥
IsUnfit service values (Unfit instance) = IsFirstUnfit service values instance
IsUnfit service values OutOfMemory = Unit {0}

-- ---- faults

-- a bad record is one that no process writes, or that its node doesn't come up with; a value is unfit after the known ones before it
abbrev pub IsStartFault : Declarations → List (List ℕ) → StartFault → Type 0
IsStartFault service kept (BadRecord number) = HasOther kept number ⊎ ((at : ℕ) × IsRestartFault service kept (refused.BadRecord number at))
IsStartFault service kept (Unfit instance) = IsFirstUnfit service (known (log_of service [] kept)) instance
IsStartFault service kept OutOfMemory = Unit {0}

-- why a process doesn't come up where its node doesn't
abbrev pub fault_of : RestartFault → StartFault
fault_of (refused.BadRecord number at) = BadRecord number
fault_of refused.OutOfMemory = OutOfMemory

-- ---- its node

-- a node is up with plain records, as the model makes one that comes up with them: it holds all that it knows, and is kept as a node once that fits
pub record HasComeUp {K : Type 0} (records : K → List (List ℕ)) (faults : K → ℕ) (service : Declarations) (x : NodeValue K) : Type 0 where
  pub is : here_of records service [] x ≡ (restart x.id (begin (down_node (log_of service [] (records x.keeper)) None))).node
  pub plain : IsPlain (log_of service [] (records x.keeper))
  pub holds : x.offset ≡ 0
  pub known_is : x.known ≡ known (log_of service [] (records x.keeper))
  pub few : length x.known ≤ INSTANCES
  pub kept : values_fit service x.known ≡ true → IsNode records service [] x
  pub count : faults x.keeper < 2 ^ 64 - 1
