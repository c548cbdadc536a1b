-- What holds of every run of a world.
use Rattle.std.specs.Prelude.{◌≡◌, ℕ, suc, ◌-◌, ◌*◌, ℤ, ◌≤◌, ◌⊎◌, true, List, [], ◌∷◌, ◌++◌, length, take, drop, Option, Some, None, slice_get}
use Rattle.std.specs.List.{All, list_all}
use Rattle.rex_ballot.specs.Limits.{most_nodes}
use Rattle.rex_state.specs.Start.{start_of}
use Rattle.rex_state.specs.Machine.{lane_of, run}
use Rattle.rex_syntax.specs.declared.request.Request.{Request}
use Rattle.rex_syntax.specs.declared.service.Declarations.{Declarations}
use Rattle.rex_event.specs.Cuts.{IsConsistent}
use Rattle.rex_event.specs.declared.delta.TheConstants.{DELTA_EVENTS}
use Rattle.rex_state.specs.Commute.{GoesFirst}
use Rattle.rex_syntax.specs.Service.{IsService}
use Rattle.rex_syntax.specs.Check.{IsChecked}
use Rattle.rex_state.specs.Value.{StateValue}
use Rattle.rex_schedule.specs.declared.scenario.ScheduleLine.{ScheduleLine}
use Rattle.rex_schedule.specs.Fits.{RequestFits, LineFits}
use Rattle.rex_reduce.specs.Reduced.{AreLeast}
use Rattle.rex_cut.specs.Greatest.{greatest_cut, IsCutOf}
use Rattle.rex_cut.specs.Delta.{delta_at}
use Rattle.rex_delta.specs.Spelling.{HasSpelling}
use Rattle.rex_cluster.specs.Records.{Proposal, known, base, offset, held, HasAccepted, HasTransferred}
use Rattle.rex_cluster.specs.Quorum.{IsNode, Chosen}
use Rattle.rex_cluster.specs.Values.{Value, IsBytes, greatest_value, delta_of, spells, trace_of, runs, state_after, values_fit, service_of}
use Rattle.rex_cluster.specs.World.{World, node_at, logs, beginning, effects_of}
use Rattle.rex_cluster.specs.Node.{Service, Message, Lead, Work}
use Rattle.rex_cluster.specs.Node.Content.{Promise, Accept, Chosen as ToldChosen, Snapshot}
use Rattle.rex_cluster.specs.Node.Role.{Leads}
use Rattle.rex_cluster.specs.Lanes.{Here, CallHere, node_trace, is_faithful, value_at}
use Rattle.rex_cluster.specs.Calls.{turn, settle, enough}
use Rattle.rex_cluster.specs.Acting.{IsActing, HasLane}
use Rattle.rex_cluster.specs.Stands.{Stands}
use Rattle.rex_report.specs.declared.effect.Effect.TheVariants.{Released}
use Rattle.rex_cluster.specs.Releases.{Moment, moments, IsAmong, IsReleased, IsLeader, IsLater}
use Rattle.rex_cluster.specs.Agreed.{world_after, known_at, agreed, given, base_state, trace_at}
use Rattle.rex_cluster.specs.Invariant.{IsIn, Begins, AreRecords, IsReplayed}
use Rattle.rex_cluster.specs.Ranges.{MessageFits, NodeFits}
use Rattle.rex_safety.specs.Rules.{Rules}
use Rattle.rex_safety.specs.Once.{IsOnce}

-- a fact of the world after any lines, for at most nine nodes
abbrev pub AfterAnyLines : ((service : Declarations) (n : ℕ) (w : World) → Type 0) → Type 0
AfterAnyLines P = (service : Declarations) (requests : List Request) (seed n : ℕ) (lines : List ScheduleLine) → n ≤ most_nodes → P service n (world_after service requests seed n lines)

-- a fact of the worlds at two moments, the first of which is the earlier one or the same
abbrev pub AtTwoMoments : ((service : Declarations) (n : ℕ) (earlier later : World) → Type 0) → Type 0
AtTwoMoments P =
    (service : Declarations) (requests : List Request) (seed n : ℕ) (lines more : List ScheduleLine) → n ≤ most_nodes
    → P service n (world_after service requests seed n lines) (world_after service requests seed n (lines ++ more))

-- ---- agreement

-- two values that are chosen for one instance are equal
abbrev pub HasOneValue : Declarations → ℕ → World → Type 0
HasOneValue service n w = (i : ℕ) (v u : Value) → Chosen n (logs w) i v → Chosen n (logs w) i u → v ≡ u

abbrev pub ChosenValuesAgree : Type 0
ChosenValuesAgree = AfterAnyLines HasOneValue

-- ---- prefixes

-- what each node knows begins the agreed list
abbrev pub KnowsAgreed : Declarations → ℕ → World → Type 0
KnowsAgreed service n w = (m : ℕ) → IsNode n m → Begins (known_at w m) (agreed w)

abbrev pub KnownBeginsAgreed : Type 0
KnownBeginsAgreed = AfterAnyLines KnowsAgreed

-- the earlier list of what a node knows begins its later one, and so does the agreed list
pub record OnlyGrows (service : Declarations) (n : ℕ) (earlier later : World) : Type 0 where
  pub known : (m : ℕ) → Begins (known_at earlier m) (known_at later m)
  pub agreed : Begins (agreed earlier) (agreed later)

abbrev pub ListsOnlyGrow : Type 0
ListsOnlyGrow = AtTwoMoments OnlyGrows

-- of what two nodes know, the same or different ones, each at its moment, one begins the other
abbrev pub IsOneList : Declarations → ℕ → World → World → Type 0
IsOneList service n earlier later =
    (a b : ℕ) → IsNode n a → IsNode n b → Begins (known_at earlier a) (known_at later b) ⊎ Begins (known_at later b) (known_at earlier a)

abbrev pub KnownListsArePrefixes : Type 0
KnownListsArePrefixes = AtTwoMoments IsOneList

-- ---- states

-- each front of the agreed list is deltas whose trace runs from the start on one thread
abbrev pub AgreedRuns : Declarations → ℕ → World → Type 0
AgreedRuns service n w = (k : ℕ) → values_fit service (take k (agreed w)) ≡ true

abbrev pub AgreedTracesRun : Type 0
AgreedTracesRun = AfterAnyLines AgreedRuns

-- of each front of the agreed trace of a checked service the events below a consistent cut run from the start too, and the others lead on from there to the same state
abbrev pub CutsGoFirst : Declarations → ℕ → World → Type 0
CutsGoFirst service n w =
    IsService service → IsChecked service → (k : ℕ) (cut : List ℕ) → IsConsistent (trace_at w k) cut
    → (s : StateValue) × (run service (start_of service) (trace_at w k) ≡ Some s) × GoesFirst service (start_of service) s cut (trace_at w k)

abbrev pub AgreedCutsGoFirst : Type 0
AgreedCutsGoFirst = AfterAnyLines CutsGoFirst

-- the causes of each agreed delta of a checked service are the least that tell the order of its events
abbrev pub CausesAreLeast : Declarations → ℕ → World → Type 0
CausesAreLeast service n w = IsService service → IsChecked service → (v : Value) → IsIn v (agreed w) → AreLeast (delta_of v).events (delta_of v).causes

abbrev pub AgreedCausesAreLeast : Type 0
AgreedCausesAreLeast = AfterAnyLines CausesAreLeast

-- a checkpoint that a node has is of the state to which the known deltas up to its base run
abbrev pub BaseIsRight : Declarations → ℕ → World → Type 0
BaseIsRight service n w =
    (m : ℕ) (s : StateValue) → IsNode n m → base_state (logs w m) ≡ Some s
    → (base (logs w m) ≤ length (known_at w m)) × (s ≡ state_after service (trace_of (take (base (logs w m)) (known_at w m))))

abbrev pub BasesAreRight : Type 0
BasesAreRight = AfterAnyLines BaseIsRight

-- ---- values that are held, and states that are taken over

-- the agreed list is what records of any node give to instances 1, 2 and so on, up to the first instance to which none gives a value
abbrev pub AgreedIsGiven : Declarations → ℕ → World → Type 0
AgreedIsGiven service n w = agreed w ≡ given w

abbrev pub AgreedListsAreGiven : Type 0
AgreedListsAreGiven = AfterAnyLines AgreedIsGiven

-- the state at a node's base; without one, the start
abbrev pub state_at_base : Declarations → Option StateValue → StateValue
state_at_base service None = start_of service
state_at_base service (Some s) = s

-- a node knows as many agreed values as its offset says, and then the values that it holds, which are the agreed ones from there on; its offset is at most its base; and from the state at its base the values that it holds after that lead to the state after so many agreed values as it knows or fewer, those that it has replayed among them
pub record HoldsAgreed (service : Declarations) (n : ℕ) (w : World) : Type 0 where
  pub is_known : (m : ℕ) → IsNode n m → known_at w m ≡ take (offset (logs w m)) (agreed w) ++ held (logs w m)
  pub is_held : (m : ℕ) → IsNode n m → held (logs w m) ≡ take (length (held (logs w m))) (drop (offset (logs w m)) (agreed w))
  pub low : (m : ℕ) → IsNode n m → offset (logs w m) ≤ base (logs w m)
  pub leads : (m k : ℕ) → IsNode n m → base (logs w m) ≤ k → k ≤ length (known_at w m)
      → run service (state_at_base service (base_state (logs w m))) (trace_of (take (k - base (logs w m)) (drop (base (logs w m) - offset (logs w m)) (held (logs w m))))) ≡ Some (state_after service (trace_at w k))

abbrev pub NodesHoldAgreed : Type 0
NodesHoldAgreed = AfterAnyLines HoldsAgreed

-- the values whose state a message tells, or a record takes over, are the first agreed ones, and a record's state is the one after them
pub record TransfersAreRight (service : Declarations) (n : ℕ) (w : World) : Type 0 where
  pub told : (x : Message Value) (values : List Value) → IsIn x w.messages → x.content ≡ Snapshot values → Begins values (agreed w)
  pub taken : (m : ℕ) (values : List Value) (s : StateValue) → IsNode n m → HasTransferred values s (logs w m) → Begins values (agreed w) × (s ≡ state_after service (trace_of values))

abbrev pub TransfersStayRight : Type 0
TransfersStayRight = AfterAnyLines TransfersAreRight

-- ---- the rules of the cluster

abbrev pub RulesAreKept : Type 0
RulesAreKept =
    (service : Declarations) (requests : List Request) (seed n : ℕ) (lines : List ScheduleLine) → n ≤ most_nodes
    → Rules n (service_of service seed) (world_after service requests seed n lines)

-- ---- replies

-- each reply that is released at one of these moments stands in the trace of every later leader, which is its known deltas and then its live events
abbrev pub ReleasesStand : List Moment → Type 0
ReleasesStand run =
    (i j : ℕ) (release lead : Moment) → slice_get run i ≡ Some release → slice_get run j ≡ Some lead
    → (ballot client sequence : ℕ) (value : ℤ) → IsReleased release ballot client sequence value
    → (m later : ℕ) → IsLeader lead.world m later → IsLater i ballot j later
    → Stands (node_trace (node_at lead.world.nodes m)) client sequence value

-- it is so of every run with a checked service and requests that fit it
abbrev pub RepliesStand : Type 0
RepliesStand =
    (service : Declarations) (requests : List Request) (seed n : ℕ) (lines : List ScheduleLine) → n ≤ most_nodes → IsService service → IsChecked service → All (RequestFits service) requests
    → ReleasesStand (moments service requests seed n (beginning n) lines)

-- each reply that is released at one of these moments stands in the agreed trace then and at every later moment
abbrev pub ReleasesAreAgreed : List Moment → Type 0
ReleasesAreAgreed run =
    (i j : ℕ) (release later : Moment) → slice_get run i ≡ Some release → slice_get run j ≡ Some later → i ≤ j
    → (client sequence : ℕ) (value : ℤ) → IsAmong (Released client sequence value) release.effects → Stands (trace_of (agreed later.world)) client sequence value

-- of every run with a checked service and requests that fit it: each reply that its lines released stands in the agreed trace after them
abbrev pub RepliesAreAgreed : Type 0
RepliesAreAgreed =
    (service : Declarations) (requests : List Request) (seed n : ℕ) (lines : List ScheduleLine) → n ≤ most_nodes → IsService service → IsChecked service → All (RequestFits service) requests
    → (client sequence : ℕ) (value : ℤ) → IsAmong (Released client sequence value) (effects_of service requests seed n (beginning n) lines)
    → Stands (trace_of (agreed (world_after service requests seed n lines))) client sequence value

-- each request has at most one begin and at most one reply in the agreed trace
abbrev pub RequestsHappenOnce : Type 0
RequestsHappenOnce =
    (service : Declarations) (requests : List Request) (seed n : ℕ) (lines : List ScheduleLine) → n ≤ most_nodes → IsService service → IsChecked service
    → IsOnce (trace_of (agreed (world_after service requests seed n lines)))

-- of every run with a checked service, requests that fit it, and lanes that are there: an active node's known deltas and then its live events run from the start, and it works with a recorder
pub record ActsRightly (service : Declarations) (x : Here) (l : Lead Value) : Type 0 where
  pub acting : IsActing service (known x.log) l.proposal x.work
  pub trace_runs : runs service (node_trace x) ≡ true

abbrev pub ActiveTracesRun : Type 0
ActiveTracesRun =
    (service : Declarations) (requests : List Request) (seed n : ℕ) (lines : List ScheduleLine) → n ≤ most_nodes → IsService service → IsChecked service → All (RequestFits service) requests → All (HasLane service) lines
    → (m : ℕ) (l : Lead Value) → (node_at (world_after service requests seed n lines).nodes m).role ≡ Leads l → l.active ≡ true
    → ActsRightly service (node_at (world_after service requests seed n lines).nodes m) l

-- a cut of an active node is faithful wherever its delta has a spelling that isn't too long, which is where numbers are in their ranges
abbrev pub CutsAreFaithful : Type 0
CutsAreFaithful =
    (service : Declarations) (seed : ℕ) (known : List Value) (open_one : Option (Proposal Value)) (work : Work) (counts : List ℕ) → IsService service → IsChecked service
    → values_fit service known ≡ true → IsActing service known open_one work → IsCutOf work.live counts → length counts ≡ service.lanes → HasSpelling (delta_at (greatest_cut counts work.live) work.live)
    → length (value_at (greatest_cut counts work.live) work.live) ≤ greatest_value
    → is_faithful service seed known (greatest_cut counts work.live) work.live ≡ true

-- ---- going on

-- a node that leads goes on until it can't: where it was led to by enough turns, another one changes nothing
abbrev pub LeadersGoOnToTheEnd : Type 0
LeadersGoOnToTheEnd =
    (n : ℕ) (sv : Service Value StateValue) (me : ℕ) (d : CallHere) (l : Lead Value) → d.node.role ≡ Leads l
    → (k : CallHere → CallHere) → turn n sv me (settle (enough l.reported) n sv me d) (settle (enough l.reported) n sv me d).node.role k ≡ settle (enough l.reported) n sv me d

-- ---- what may be known next

-- of a world: what a node knows fits, and so does, after it, each value that is anywhere accepted, reported, open, or told as chosen for its next instance
pub record NextFits (service : Declarations) (n : ℕ) (w : World) : Type 0 where
  pub known : (m : ℕ) → IsNode n m → values_fit service (known_at w m) ≡ true
  pub accepted : (q m b : ℕ) (v : Value) → IsNode n q → IsNode n m → HasAccepted b (suc (length (known_at w m))) v (logs w q) → values_fit service (known_at w m ++ v ∷ []) ≡ true
  pub reported : (m : ℕ) (l : Lead Value) (p : Proposal Value) → IsNode n m → (node_at w.nodes m).role ≡ Leads l → IsIn p l.reported → p.instance ≡ suc (length (known_at w m)) → values_fit service (known_at w m ++ p.value ∷ []) ≡ true
  pub open_one : (m : ℕ) (l : Lead Value) (p : Proposal Value) → IsNode n m → (node_at w.nodes m).role ≡ Leads l → l.proposal ≡ Some p → (p.instance ≡ suc (length (known_at w m))) × (values_fit service (known_at w m ++ p.value ∷ []) ≡ true)
  pub promised : (m b : ℕ) (x : Message Value) (ps : List (Proposal Value)) (p : Proposal Value) → IsNode n m → IsIn x w.messages → x.content ≡ Promise b ps → IsIn p ps → p.instance ≡ suc (length (known_at w m)) → values_fit service (known_at w m ++ p.value ∷ []) ≡ true
  pub chosen : (m : ℕ) (x : Message Value) (v : Value) → IsNode n m → IsIn x w.messages → x.content ≡ ToldChosen (suc (length (known_at w m))) v → values_fit service (known_at w m ++ v ∷ []) ≡ true

abbrev pub NextValuesFit : Type 0
NextValuesFit = AfterAnyLines NextFits

-- ---- ranges

-- each node's records and role, and each message, have numbers in their ranges
pub record NumbersFit (n : ℕ) (w : World) : Type 0 where
  pub nodes : (m : ℕ) → IsNode n m → NodeFits (node_at w.nodes m)
  pub messages : (x : Message Value) → IsIn x w.messages → MessageFits n x

-- it is so after lines that name what is there
abbrev pub NumbersStayInRange : Type 0
NumbersStayInRange =
    (service : Declarations) (requests : List Request) (seed n : ℕ) (lines : List ScheduleLine) → n ≤ most_nodes → All (LineFits n (length requests) service.lanes) lines
    → NumbersFit n (world_after service requests seed n lines)

-- after values that fit, each lane did at most as many events as a delta has for each of them
abbrev pub CountsAreFew : Type 0
CountsAreFew =
    (service : Declarations) (values : List Value) (s : StateValue) (lane : ℕ) → list_all (spells service) values ≡ true
    → run service (start_of service) (trace_of values) ≡ Some s → (lane_of s lane).done ≤ DELTA_EVENTS * length values

-- no value that is accepted, known or in a message is too long
pub record ValuesAreShort (service : Declarations) (n : ℕ) (w : World) : Type 0 where
  pub accepted : (m b i : ℕ) (v : Value) → IsNode n m → HasAccepted b i v (logs w m) → length v ≤ greatest_value
  pub known : (m : ℕ) (v : Value) → IsNode n m → IsIn v (known_at w m) → length v ≤ greatest_value
  pub promised : (x : Message Value) (b : ℕ) (ps : List (Proposal Value)) (p : Proposal Value) → IsIn x w.messages → x.content ≡ Promise b ps → IsIn p ps → length p.value ≤ greatest_value
  pub asked : (x : Message Value) (b i : ℕ) (v : Value) → IsIn x w.messages → x.content ≡ Accept b i v → length v ≤ greatest_value
  pub told : (x : Message Value) (i : ℕ) (v : Value) → IsIn x w.messages → x.content ≡ ToldChosen i v → length v ≤ greatest_value

-- each value that is accepted, known, reported, open, or in a message is bytes
pub record ValuesAreBytes (service : Declarations) (n : ℕ) (w : World) : Type 0 where
  pub accepted : (m b i : ℕ) (v : Value) → IsNode n m → HasAccepted b i v (logs w m) → IsBytes v
  pub known : (m : ℕ) (v : Value) → IsNode n m → IsIn v (known_at w m) → IsBytes v
  pub reported : (m : ℕ) (l : Lead Value) (p : Proposal Value) → IsNode n m → (node_at w.nodes m).role ≡ Leads l → IsIn p l.reported → IsBytes p.value
  pub open_one : (m : ℕ) (l : Lead Value) (p : Proposal Value) → IsNode n m → (node_at w.nodes m).role ≡ Leads l → l.proposal ≡ Some p → IsBytes p.value
  pub promised : (x : Message Value) (b : ℕ) (ps : List (Proposal Value)) (p : Proposal Value) → IsIn x w.messages → x.content ≡ Promise b ps → IsIn p ps → IsBytes p.value
  pub asked : (x : Message Value) (b i : ℕ) (v : Value) → IsIn x w.messages → x.content ≡ Accept b i v → IsBytes v
  pub told : (x : Message Value) (i : ℕ) (v : Value) → IsIn x w.messages → x.content ≡ ToldChosen i v → IsBytes v

abbrev pub ValuesStayBytes : Type 0
ValuesStayBytes = AfterAnyLines ValuesAreBytes

abbrev pub ValuesStayShort : Type 0
ValuesStayShort = AfterAnyLines ValuesAreShort

-- ---- nodes

-- there are n nodes; each one's records are in order (the n-th known value is of instance n, a checkpoint of the state after known values), and it has replayed its base or more and no more than it knows
pub record NodesAreKept (service : Declarations) (seed n : ℕ) (w : World) : Type 0 where
  pub many : length w.nodes ≡ n
  pub records : (m : ℕ) → IsNode n m → AreRecords (service_of service seed) (logs w m)
  pub replayed : (m : ℕ) → IsNode n m → IsReplayed (node_at w.nodes m)

abbrev pub NodesStayKept : Type 0
NodesStayKept =
    (service : Declarations) (requests : List Request) (seed n : ℕ) (lines : List ScheduleLine) → n ≤ most_nodes
    → NodesAreKept service seed n (world_after service requests seed n lines)
