-- What holds of all processes that answer frames, and of all clusters of them.
use Rattle.std.specs.Prelude.{◌≡◌, ◌⊎◌, ℕ, ℤ, ◌≤◌, true, List, [], ◌∷◌, ◌++◌, length, map, take, None, Some, slice_get}
use Rattle.std.specs.List.{All, flat_map}
use Rattle.rex_traits.specs.Growth.{GrowsByFront}
use Rattle.rex_ballot.specs.Limits.{most_nodes}
use Rattle.rex_syntax.specs.declared.service.Declarations.{Declarations}
use Rattle.rex_syntax.specs.Service.{IsService}
use Rattle.rex_syntax.specs.Check.{IsChecked}
use Rattle.rex_reads.specs.declared.seen.Read.TheVariants as answer
use Rattle.rex_report.specs.declared.effect.Effect.TheVariants.{Released}
use Rattle.rex_msg.specs.declared.message.Message.{Message}
use Rattle.rex_log.specs.Log.{log_of}
use Rattle.rex_log.specs.Messages.{message_in}
use Rattle.rex_cluster.specs.Records.{known}
use Rattle.rex_cluster.specs.Quorum.{IsNode}
use Rattle.rex_cluster.specs.Node as model
use Rattle.rex_cluster.specs.Node.{Lead, down_node, own_ballot}
use Rattle.rex_cluster.specs.Node.Role.{Leads}
use Rattle.rex_cluster.specs.Invariant.{IsIn, Begins}
use Rattle.rex_cluster.specs.Values.{Value, state_after, trace_of, values_fit}
use Rattle.rex_cluster.specs.Lanes.{Here, node_trace}
use Rattle.rex_cluster.specs.World.{World, node_at, beginning as world_beginning}
use Rattle.rex_cluster.specs.Reading.{read_at, value_in}
use Rattle.rex_cluster.specs.Releases.{IsAmong, IsLater}
use Rattle.rex_cluster.specs.Stands.{Stands}
use Rattle.rex_safety.specs.Once.{IsOnce}
use Rattle.rex_processes.specs.Processes.{Happening, AreHonest, processes_after}
use Rattle.rex_processes.specs.Processes.Task.{Hear as ToHear}
use Rattle.rex_processes.specs.Plain.{ArePlain, EachTask, NamesAnother}
use Rattle.rex_process.specs.Process.{ProcessValue, HasToFit, IsSame, here}
use Rattle.rex_process.specs.Starting.{HasStarted}
use Rattle.rex_serve.specs.Answering.{AnswersFrame, BreaksOff, asked_of}
use Rattle.rex_frames.specs.Asking.{asked_in}
use Rattle.rex_serve.specs.declared.serving.Ended.{Ended}
use Rattle.rex_serve.specs.declared.serving.Ended.TheVariants as ended
use Rattle.rex_serve.specs.Serving.{AnswersFrames, BeginsWith, EndsAs, IsClean}
use Rattle.rex_serve.specs.Standing.{IsNodeOf, StandsIn, AreHonestBy, CarriesOneOf, HearsOneOf, HearsSent, step_to, world_after}
use Rattle.rex_serve.specs.Cluster.{Member, Cluster, Transition, Instant, AllMayHappen, after_transitions, beginning, cluster_after, instants, records_in}
use Rattle.rex_serve.specs.Cluster.Member.{Runs, Left}

-- ---- one process

-- honest happenings take the world of a process to one in which it stands as another one, and what they send are these messages
pub record LeadsTo {K : Type 0} (records : K → List (List ℕ)) (p q : ProcessValue K) (w : World) (sends : List Message) : Type 0 where
  pub happened : List Happening
  pub honest : AreHonestBy p w happened (map (message_in []) sends)
  pub stands : StandsIn records q (world_after p w happened)

-- so it is of what a process comes to that is up and answers a frame, whose message, if it has one, was sent before; what they send is what the answer sends
abbrev pub AnswersAreHappenings : {K : Type 0} → (K → List (List ℕ)) → (K → ℕ) → Type 0
AnswersAreHappenings {K} records faults =
    (p q : ProcessValue K) (w : World) (frame out : List ℕ) → StandsIn records p w → p.node.up ≡ true → HearsSent w (asked_of p frame)
    → (answers : AnswersFrame records faults p q frame out) → LeadsTo records p q w (step_to records faults p q frame out answers).sends

-- and of one that comes up with its records, where its node is down with these; they send nothing
abbrev pub StartsAreHappenings : {K : Type 0} → (K → List (List ℕ)) → Type 0
StartsAreHappenings {K} records =
    (service : Declarations) (id nodes seed : ℕ) (keeper : K) (p : ProcessValue K) (w : World)
    → HasStarted records service id nodes seed keeper p → length w.nodes ≡ nodes → IsNode nodes id
    → node_at w.nodes id ≡ down_node (log_of service [] (records keeper)) None → LeadsTo records p p w []

-- honest happenings take the world of a process to one in which its node is down with the records of another one
pub record LeavesRecords {K : Type 0} (records : K → List (List ℕ)) (p q : ProcessValue K) (w : World) : Type 0 where
  pub happened : List Happening
  pub sends : List (model.Message Value)
  pub honest : AreHonestBy p w happened sends
  pub down : node_at (world_after p w happened).nodes p.node.id ≡ down_node (here records q).log None

-- so it is where memory is short, or the process is killed, while it answers a frame
abbrev pub BreakingOffIsHappenings : {K : Type 0} → (K → List (List ℕ)) → (K → ℕ) → Type 0
BreakingOffIsHappenings {K} records faults =
    (p q : ProcessValue K) (w : World) (frame : List ℕ) → StandsIn records p w → p.node.up ≡ true → HearsSent w (asked_of p frame) → IsSame p q
    → BreaksOff records faults p q (asked_of p frame) → LeavesRecords records p q w

-- ---- frames

-- whoever is handed the bytes of a message that was told hears that one, or nothing
abbrev pub CarriedBytesAreHeard : Type 0
CarriedBytesAreHeard =
    (service : Declarations) (id nodes : ℕ) (told : List Message) (frame : List ℕ) → CarriesOneOf told frame → HearsOneOf told (asked_in service id nodes frame)

-- the frame that is answered, or at which a process breaks off
abbrev pub frame_in : {K : Type 0} → Transition K → List (List ℕ)
frame_in (Transition.ComesUp keeper p) = []
frame_in (Transition.Answers frame q step) = frame ∷ []
frame_in (Transition.Flushes q) = []
frame_in (Transition.BreaksOff frame q) = frame ∷ []
frame_in Transition.Ends = []

-- those of all of it, in their order
abbrev pub frames_in : {K : Type 0} → List (Transition K) → List (List ℕ)
frames_in ts = flat_map frame_in ts

-- ---- all processes of a cluster

-- it is the process of this number, of so many with this service and seed
pub record IsMember {K : Type 0} (service : Declarations) (seed n m : ℕ) (p : ProcessValue K) : Type 0 where
  pub service_is : p.service ≡ service
  pub id_is : p.node.id ≡ m
  pub nodes_are : p.node.nodes ≡ n
  pub seed_is : p.node.seed ≡ seed

module _ {K : Type 0} (records : K → List (List ℕ)) (faults : K → ℕ) where
  -- of a process that runs, which is the member of this number, a world has its node; and of one that doesn't run, a node that is down with the records
  -- that it left
  abbrev pub MemberStands : Declarations → ℕ → ℕ → ℕ → Member K → Here → Type 0
  MemberStands service seed n m (Runs p) x = IsMember service seed n m p × IsNodeOf (here records p) x
  MemberStands service seed n m (Left kept) x = x ≡ down_node (log_of service [] kept) None

  -- a cluster stands in a world of so many nodes: each process does, and what was told was sent
  pub record ClusterStands (service : Declarations) (seed n : ℕ) (c : Cluster K) (w : World) : Type 0 where
    pub many : length w.nodes ≡ n
    pub each : (m : ℕ) → IsNode n m → MemberStands service seed n m (c.members m) (node_at w.nodes m)
    pub told : (x : Message) → IsIn x c.told → IsIn (message_in [] x) w.messages

  -- ---- what they come to

  -- a fact of what at most nine processes come to that begin without records, whatever happens to them
  abbrev pub AfterAnyTransitions : ((service : Declarations) (seed n : ℕ) (c : Cluster K) → Type 0) → Type 0
  AfterAnyTransitions P =
      (service : Declarations) (seed n : ℕ) (ts : List (ℕ × Transition K)) → n ≤ most_nodes → AllMayHappen records faults service seed n beginning ts
      → P service seed n (cluster_after records faults ts)

  -- honest happenings to processes, none of which is told to write its state down and each of which names others, lead to a world in which the cluster stands
  pub record HasHappened (service : Declarations) (seed n : ℕ) (c : Cluster K) : Type 0 where
    pub happened : List (ℕ × Happening)
    pub honest : AreHonest service seed n (world_beginning n) happened
    pub plain : ArePlain happened
    pub named : EachTask (NamesAnother n) happened
    pub stands : ClusterStands service seed n c (processes_after service seed n happened)

  abbrev pub ClustersAreProcesses : Type 0
  ClustersAreProcesses = AfterAnyTransitions HasHappened

  -- ---- what they know

  -- what a process knows, also while it doesn't run
  abbrev pub known_in : Declarations → Cluster K → ℕ → List Value
  known_in service c m = known (log_of service [] (records_in records (c.members m)))

  -- of what two of them know, each at its moment, one list begins the other; and what one knows only grows
  pub record KnowOneList (service : Declarations) (n : ℕ) (earlier later : Cluster K) : Type 0 where
    pub one : (a b : ℕ) → IsNode n a → IsNode n b
        → Begins (known_in service earlier a) (known_in service later b) ⊎ Begins (known_in service later b) (known_in service earlier a)
    pub grows : (m : ℕ) → IsNode n m → Begins (known_in service earlier m) (known_in service later m)

  -- so it is at any two moments, the first of which is the earlier one or the same
  abbrev pub ClustersKnowOneList : Type 0
  ClustersKnowOneList =
      (service : Declarations) (seed n : ℕ) (ts more : List (ℕ × Transition K)) → n ≤ most_nodes
      → AllMayHappen records faults service seed n beginning (ts ++ more)
      → KnowOneList service n (cluster_after records faults ts) (cluster_after records faults (ts ++ more))

  -- what each of them knows are deltas whose trace runs from the start on one thread
  abbrev pub KnowWhatRuns : Declarations → ℕ → ℕ → Cluster K → Type 0
  KnowWhatRuns service seed n c = (m : ℕ) → IsNode n m → values_fit service (known_in service c m) ≡ true

  abbrev pub ClustersRun : Type 0
  ClustersRun = AfterAnyTransitions KnowWhatRuns

  -- with a checked service, each request has at most one begin and at most one reply in the trace of what one of them knows
  abbrev pub KnowEachOnce : Declarations → ℕ → ℕ → Cluster K → Type 0
  KnowEachOnce service seed n c = IsService service → IsChecked service → (m : ℕ) → IsNode n m → IsOnce (trace_of (known_in service c m))

  abbrev pub ClustersHappenOnce : Type 0
  ClustersHappenOnce = AfterAnyTransitions KnowEachOnce

  -- ---- what they tell readers

  -- a reader is told the variable's value after the first so many of these values, which are as many, and no fewer than it has seen
  pub record IsKnownRead (service : Declarations) (values : List Value) (variable seen : ℕ) (value : ℤ) (number : ℕ) : Type 0 where
    pub forward : seen ≤ number
    pub there : number ≤ length values
    pub shown : value ≡ value_in (state_after service (trace_of (take number values))) variable

  -- so it is of the values that a process knows where it tells a reader a value
  abbrev pub TellWhatIsKnown : Declarations → ℕ → ℕ → Cluster K → Type 0
  TellWhatIsKnown service seed n c =
      (m : ℕ) (p : ProcessValue K) → IsNode n m → c.members m ≡ Runs p
      → (variable seen : ℕ) (value : ℤ) (number : ℕ) → read_at p.service (here records p) variable seen ≡ answer.Value value number
      → IsKnownRead service (known_in service c m) variable seen value number

  abbrev pub ClustersTellKnown : Type 0
  ClustersTellKnown = AfterAnyTransitions TellWhatIsKnown

  -- ---- what they hear

  -- what a process that is up tests of a message that was told is so, whomever it was told to: none answers that a value doesn't fit
  abbrev pub FindsFit : Declarations → ℕ → ℕ → Cluster K → Type 0
  FindsFit service seed n c =
      (m : ℕ) (p : ProcessValue K) (x : Message) → IsNode n m → c.members m ≡ Runs p → p.node.up ≡ true → IsIn x c.told
      → HasToFit records p (ToHear (message_in [] x))

  abbrev pub ClustersRefuseNone : Type 0
  ClustersRefuseNone = AfterAnyTransitions FindsFit

  -- ---- replies

  -- a process told at this instant that a reply was released, and led with this ballot then
  pub record TellsReply (at : Instant K) (ballot client sequence : ℕ) (value : ℤ) : Type 0 where
    pub process : ProcessValue K
    pub runs : at.cluster.members at.member ≡ Runs process
    pub among : IsAmong (Released client sequence value) at.effects
    pub leader : own_ballot (here records process).role ≡ ballot

  -- a process is up and leads with this ballot: it is active
  pub record IsLeading (p : ProcessValue K) (ballot : ℕ) : Type 0 where
    pub up : p.node.up ≡ true
    pub lead : Lead Value
    pub role : (here records p).role ≡ Leads lead
    pub active : lead.active ≡ true
    pub ballot_is : lead.ballot ≡ ballot

  -- each reply that was told stands in the trace of every later leader, which is its known deltas and then its live events
  abbrev pub RepliesStand : ℕ → List (Instant K) → Type 0
  RepliesStand n run =
      (i j : ℕ) (release lead : Instant K) → slice_get run i ≡ Some release → slice_get run j ≡ Some lead
      → (ballot client sequence : ℕ) (value : ℤ) → TellsReply release ballot client sequence value
      → (m later : ℕ) (p : ProcessValue K) → IsNode n m → lead.cluster.members m ≡ Runs p → IsLeading p later → IsLater i ballot j later
      → Stands (node_trace (here records p)) client sequence value

  -- with a checked service it is so of whatever happens to them
  abbrev pub ClustersKeepReplies : Type 0
  ClustersKeepReplies =
      (service : Declarations) (seed n : ℕ) (ts : List (ℕ × Transition K)) → n ≤ most_nodes → IsService service → IsChecked service
      → AllMayHappen records faults service seed n beginning ts → RepliesStand n (instants records faults beginning ts)

  -- each reply that was told stands in the trace of what some process knows, then and at each later instant
  abbrev pub RepliesStay : Declarations → ℕ → List (Instant K) → Type 0
  RepliesStay service n run =
      (i j : ℕ) (release later : Instant K) → slice_get run i ≡ Some release → slice_get run j ≡ Some later → i ≤ j
      → (client sequence : ℕ) (value : ℤ) → IsAmong (Released client sequence value) release.effects
      → (m : ℕ) × IsNode n m × Stands (trace_of (known_in service later.cluster m)) client sequence value

  abbrev pub ClustersKeepAgreed : Type 0
  ClustersKeepAgreed =
      (service : Declarations) (seed n : ℕ) (ts : List (ℕ × Transition K)) → n ≤ most_nodes → IsService service → IsChecked service
      → AllMayHappen records faults service seed n beginning ts → RepliesStay service n (instants records faults beginning ts)

-- ---- serving

-- all of this happens to the process of this number
abbrev pub all_to : {K : Type 0} → ℕ → List (Transition K) → List (ℕ × Transition K)
all_to {K} m ts = map (λ (t : Transition K). (m, t)) ts

-- it happens while a process is served: it answers a frame, or its keeper flushes
abbrev pub IsServing : {K : Type 0} → Transition K → Type 0
IsServing (Transition.ComesUp keeper p) = ⊥
IsServing (Transition.Answers frame q step) = Unit {0}
IsServing (Transition.Flushes q) = Unit {0}
IsServing (Transition.BreaksOff frame q) = ⊥
IsServing Transition.Ends = ⊥

module _ {K : Type 0} (records kept : K → List (List ℕ)) (faults : K → ℕ) where
  -- these records may be found once serving has ended: those that are kept for good; or, where a flush failed, those before the frames whose answers weren't
  -- written, or all, whatever the keeper tells
  abbrev pub MayBeFound : (ended : Ended) (p q : ProcessValue K) (input before now : List ℕ) → EndsAs records kept faults ended p q input before now → List (List ℕ) → Type 0
  MayBeFound ended.Down p q input before now h found = (found ≡ records h.middle.node.keeper) ⊎ (found ≡ records q.node.keeper)
  MayBeFound end p q input before now h found = found ≡ kept q.node.keeper

  -- what may happen to one process of a cluster while it is served: it answers the frames that an input begins with, in their order, and runs then with just
  -- these records; a sink takes a front of these answers, and no others
  pub record Moves (service : Declarations) (seed n : ℕ) (c : Cluster K) (m : ℕ) (p q : ProcessValue K) (ended : Ended) (input before now : List ℕ) (found : List (List ℕ)) : Type 0 where
    pub moves : List (Transition K)
    pub left : List ℕ
    pub begins : BeginsWith input (frames_in moves) left
    pub each : All IsServing moves
    pub may : AllMayHappen records faults service seed n c (all_to m moves)
    pub last : ProcessValue K
    pub comes : (after_transitions records faults c (all_to m moves)).members m ≡ Runs last
    pub found_are : records last.node.keeper ≡ found
    pub clean : IsClean ended → last ≡ q
    pub out : List ℕ
    pub answers : AnswersFrames records faults p last (frames_in moves) out
    pub taken : GrowsByFront before now out

  -- so it is of what a process comes to that is served, however that ends, and whichever records are found then, where each message in a frame of the input
  -- was told before
  abbrev pub ServingIsTransitions : Type 0
  ServingIsTransitions =
      (service : Declarations) (seed n : ℕ) (c : Cluster K) (m : ℕ) (p q : ProcessValue K) (ended : Ended) (input before now : List ℕ)
      → IsNode n m → c.members m ≡ Runs p
      → ((frames : List (List ℕ)) (left : List ℕ) → BeginsWith input frames left → (frame : List ℕ) → IsIn frame frames → HearsOneOf c.told (asked_of p frame))
      → (ends : EndsAs records kept faults ended p q input before now) → (found : List (List ℕ)) → MayBeFound ended p q input before now ends found
      → Moves service seed n c m p q ended input before now found
