-- A node's parts, and the node of the cluster's model that they are.
use Rattle.std.specs.Prelude.{◌≡◌, ℕ, zero, suc, ◌<◌, ◌≤◌, ◌^◌, ◌-◌, ◌||◌, not, Bool, true, false, ◌+◌, List, [], ◌∷◌, ◌++◌, length, map, take, is_some, unwrap_or, Result, Ok, Err, Option, Some, None, option_map, ◌⊎◌, ◌==◌, if◌then◌else◌}
use Rattle.std.specs.List.{All}
use Rattle.rex_ballot.specs.Limits.{most_nodes}
use Rattle.rand_pcg.specs.Lcg.{Lcg}
use Rattle.rex_ballot.specs.declared.proposal.Proposal.{Proposal as Kept}
use Rattle.rex_ballot.specs.Ballot.{node_of}
use Rattle.rex_ballot.specs.Proposals.{IsValue, proposal_for}
use Rattle.rex_syntax.specs.declared.service.Declarations.{Declarations}
use Rattle.rex_snapshot.specs.Reading.{state_in}
use Rattle.rex_state.specs.Value.{StateValue}
use Rattle.rex_state.specs.Counts.{counts_of}
use Rattle.rex_state.specs.Start.{start_of}
use Rattle.rex_state.specs.Machine.{run}
use Rattle.rex_record.specs.Value.{RecorderValue}
use Rattle.rex_record.specs.Kept.{IsRecorder}
use Rattle.rex_paxos.specs.Acceptor.{AcceptorValue}
use Rattle.rex_paxos.specs.Proposer.{ProposerValue, CountsOnce, is_candidate}
use Rattle.rex_gate.specs.Noted.{AnswersValue, stamp_of}
use Rattle.rex_schedule.specs.Fits.{RequestFits}
use Rattle.rex_cluster.specs.Records.{Proposal, promise, accepted, offset, known, base, has_old_base}
use Rattle.rex_log.specs.Log.{first, log_of, proposal_in}
use Rattle.rex_cluster.specs.Node.{Lead, Role, Work, no_work}
use Rattle.rex_cluster.specs.Node.Role.{Follower, Leads}
use Rattle.rex_cluster.specs.Calls.{replayed_left}
use Rattle.rex_event.specs.Cuts.{IsConsistent, IsWithin, below, beyond}
use Rattle.rex_event.specs.declared.event.TheConstants.{CLIENTS, CLIENT_ENTRIES}
use Rattle.rex_cluster.specs.Values.{Value, events_of, trace_of, values_fit, still_live}
use Rattle.rex_cluster.specs.Ranges.{NodeFits}
use Rattle.rex_cluster.specs.Invariant.{Begins, IsReplayed}
use Rattle.rex_traits.specs.declared.keeper.KeepFault.{KeepFault}
use Rattle.rex_traits.specs.declared.keeper.KeepFault.TheVariants.{Failed, OutOfMemory}
use Rattle.rex_traits.specs.Chains.{Answer}
use Rattle.rex_cluster.specs.Lanes.{Here}
use Rattle.rex_cluster.specs.Reading.{last_reply}

-- ---- parts

-- what an active node executes: its recorder, its random generator, the cut of its live events that it proposed last, and what is known of its clients
pub record ActingValue : Type 0 where
  pub recorder : RecorderValue
  pub dice : Lcg
  pub proposed : List ℕ
  pub answers : AnswersValue

-- a state to which a node came by replaying, and after how many known values it is
pub record ReachedValue : Type 0 where
  pub count : ℕ
  pub state : StateValue

-- a snapshot that a node decoded when it came up, and the state that it spells
pub record DecodedValue : Type 0 where
  pub snapshot : List ℕ
  pub state : StateValue

-- the node's number and how many there are; the seed; its keeper; whether it is up; its acceptor; of how many instances it doesn't hold the values, and the known values after those; how many values its base is after, whether its last checkpoint is in the old version, and the state at the base; how many it has replayed, and the state then where that is another one and the node isn't active; the state to which it came last by replaying; the snapshot that it decoded last; its proposer where it has asked to lead; and what it executes where it is active
pub record NodeValue (K : Type 0) : Type 0 where
  pub id : ℕ
  pub nodes : ℕ
  pub seed : ℕ
  pub keeper : K
  pub up : Bool
  pub acceptor : AcceptorValue
  pub offset : ℕ
  pub known : List Value
  pub base : ℕ
  pub old_base : Bool
  pub start : StateValue
  pub replayed : ℕ
  pub ahead : Option StateValue
  pub reached : Option ReachedValue
  pub decoded : Option DecodedValue
  pub proposer : Option ProposerValue
  pub acting : Option ActingValue

-- ---- its role and its work

-- the open proposal is what the node itself accepted for the open instance
abbrev pub open_of : AcceptorValue → Option ℕ → Option (Proposal Value)
open_of a None = None
open_of a (Some i) = option_map proposal_in (proposal_for i a.accepted)

-- what a proposer leads with
abbrev pub lead_of : AcceptorValue → ProposerValue → Bool → Lead Value
lead_of a p active = record {
  ballot = p.ballot;
  counted = p.promised;
  reported = map proposal_in p.reported;
  proposal = open_of a p.open_instance;
  accepted_by = p.accepted;
  active = active;
}

abbrev pub role_of : AcceptorValue → Option ProposerValue → Bool → Role Value
role_of a None active = Follower
role_of a (Some p) active = Leads (lead_of a p active)

abbrev pub role_in : {K : Type 0} → NodeValue K → Role Value
role_in x = role_of x.acceptor x.proposer (is_some x.acting)

abbrev pub work_of : Option ActingValue → Work
work_of None = no_work
work_of (Some a) = record { queue = a.recorder.queue; live = a.recorder.live; dice = a.dice }

-- the value of an open proposal, if there is one
abbrev pub proposed_value : Option (Proposal Value) → Option Value
proposed_value o = option_map (λ (p : Proposal Value). p.value) o

-- the value that a node has open in its role, if there is one
abbrev pub open_value : Role Value → Option Value
open_value Follower = None
open_value (Leads l) = proposed_value l.proposal

-- ---- the node

-- all values that a node knows: before those that it holds stand the first ones of the past
abbrev pub knows : {K : Type 0} → List Value → NodeValue K → List Value
knows past x = first x.offset past ++ x.known

-- how many they are
abbrev pub count_of : {K : Type 0} → NodeValue K → ℕ
count_of x = x.offset + length x.known

-- the node as if it held all of them
abbrev pub whole : {K : Type 0} → List Value → NodeValue K → NodeValue K
whole past x = record x { known = knows past x }

-- the node that these parts are, where its keeper has these records beside the past; which append will fail is for its keeper to know
abbrev pub here_of : {K : Type 0} → (K → List (List ℕ)) → Declarations → List Value → NodeValue K → Here
here_of records service past x = record {
  log = log_of service past (records x.keeper);
  up = x.up;
  armed = None;
  role = role_in x;
  work = work_of x.acting;
  replayed = x.replayed;
}

-- ---- what is kept of a node

-- the state at the number of values that were replayed: that of the checkpoint where there is no other one
abbrev pub ahead_of : Option StateValue → StateValue → StateValue
ahead_of None s = s
ahead_of (Some t) s = t

abbrev pub state_of : {K : Type 0} → NodeValue K → StateValue
state_of x = ahead_of x.ahead x.start

-- the values of the variables in the state that is executed, or else in the one that was replayed
abbrev pub shown_with : Option ActingValue → StateValue → StateValue
shown_with None s = s
shown_with (Some a) s = a.recorder.state

abbrev pub shown_of : {K : Type 0} → NodeValue K → StateValue
shown_of x = shown_with x.acting (state_of x)

-- the recorder begins at the state after what the node knows, could begin each of its requests, whose numbers are in their ranges, and what is known of the clients is what that state says of them
pub record Executes (service : Declarations) (values : List Value) (a : ActingValue) : Type 0 where
  pub recorder : IsRecorder service a.recorder
  pub known : run service (start_of service) (trace_of values) ≡ Some a.recorder.start
  pub requests : All (RequestFits service) a.recorder.queue
  pub answers : a.answers.entries ≡ a.recorder.start.clients

-- an open proposal is the delta of the live events below the cut that was proposed last, which counts none but live events
pub record IsCutAt (service : Declarations) (values : List Value) (a : ActingValue) (value : Value) : Type 0 where
  pub consistent : IsConsistent a.recorder.live a.proposed
  pub within : IsWithin (counts_of a.recorder.state) a.proposed
  pub events : events_of value ≡ below a.proposed a.recorder.live
  pub others : still_live service (values ++ value ∷ []) a.recorder.live ≡ beyond a.proposed a.recorder.live

abbrev pub OpenIsCut : Declarations → List Value → ActingValue → Option (Proposal Value) → Type 0
OpenIsCut service values a None = Unit {0}
OpenIsCut service values a (Some p) = IsCutAt service values a p.value

-- what is executed is executed by a node that leads, and its open proposal is a cut of it
pub record ActsFor (service : Declarations) (values : List Value) (open_one : Option (Proposal Value)) (a : ActingValue) : Type 0 where
  pub executes : Executes service values a
  pub open_is_cut : OpenIsCut service values a open_one

abbrev pub IsActing : Declarations → List Value → AcceptorValue → Option ProposerValue → Option ActingValue → Type 0
IsActing service values acceptor proposer None = Unit {0}
IsActing service values acceptor None (Some a) = ⊥
IsActing service values acceptor (Some p) (Some a) = ActsFor service values (open_of acceptor p.open_instance) a

-- what is known of the clients counts all that the node knows, and the number that a client has there is that of the value with its last reply
pub record NumbersReplies (values : List Value) (a : AnswersValue) : Type 0 where
  pub clients : length a.numbers ≡ CLIENT_ENTRIES
  pub count : a.count ≡ length values
  pub stamps : (client : ℕ) → client ≤ CLIENTS → 0 < unwrap_or (stamp_of a client) 0 → unwrap_or (stamp_of a client) 0 ≡ last_reply client 1 values

abbrev pub HasStamps : List Value → Option ActingValue → Type 0
HasStamps values None = Unit {0}
HasStamps values (Some a) = NumbersReplies values a.answers

-- no value is too long to be written down
abbrev pub AreShort : List Kept → Type 0
AreShort ps = All (λ (p : Kept). IsValue p.value) ps

-- the node accepted a value itself for the open instance, at this ballot
abbrev pub HasOpen : AcceptorValue → ℕ → Option ℕ → Type 0
HasOpen a ballot None = Unit {0}
HasOpen a ballot (Some i) = (q : Kept) × (proposal_for i a.accepted ≡ Some q) × (q.ballot ≡ ballot)

-- a proposer is of the node's own ballot, which is its promise; it counts acceptances for an open proposal alone
pub record Proposes (nodes id : ℕ) (a : AcceptorValue) (p : ProposerValue) : Type 0 where
  pub nodes_are : p.nodes ≡ nodes
  pub own : node_of p.ballot ≡ id
  pub ballot : p.ballot ≡ a.promised
  pub once : CountsOnce p
  pub short : AreShort p.reported
  pub counted : p.open_instance ≡ None → p.accepted ≡ []
  pub open_one : HasOpen a p.ballot p.open_instance

abbrev pub IsProposer : ℕ → ℕ → AcceptorValue → Option ProposerValue → Type 0
IsProposer nodes id a None = Unit {0}
IsProposer nodes id a (Some p) = Proposes nodes id a p

-- the parts of a node that is up, as if it held all values that it knows, are what its records say, those that it doesn't hold being among the ones up to its base, and its states those after the values up to its base and that it has replayed; where it is active these are all that it knows
pub record IsUp {K : Type 0} (service : Declarations) (x : NodeValue K) (h : Here) : Type 0 where
  pub promised : x.acceptor.promised ≡ promise h.log
  pub accepted : map proposal_in x.acceptor.accepted ≡ accepted h.log
  pub offset : x.offset ≡ offset h.log
  pub low : x.offset ≤ x.base
  pub known : x.known ≡ known h.log
  pub base : x.base ≡ base h.log
  pub old_base : x.old_base ≡ has_old_base h.log
  pub start : run service (start_of service) (trace_of (take x.base x.known)) ≡ Some x.start
  pub replayed : IsReplayed h
  pub ahead : x.acting ≡ None → run service (start_of service) (trace_of (take x.replayed x.known)) ≡ Some (state_of x)
  pub caught_up : is_some x.acting ≡ true → x.replayed ≡ length x.known
  pub short : AreShort x.acceptor.accepted
  pub proposer : IsProposer x.nodes x.id x.acceptor x.proposer
  pub acting : IsActing service x.known x.acceptor x.proposer x.acting
  pub stamped : HasStamps x.known x.acting
  pub fits : values_fit service x.known ≡ true
  pub numbers : NodeFits h

-- a node that forgot no values came to this state by replaying so many of those that it knows
pub record IsReached (service : Declarations) (offset : ℕ) (values : List Value) (r : ReachedValue) : Type 0 where
  pub all_held : offset ≡ 0
  pub among : r.count ≤ length values
  pub runs : run service (start_of service) (trace_of (take r.count values)) ≡ Some r.state

abbrev pub HasReached : Declarations → ℕ → List Value → Option ReachedValue → Type 0
HasReached service offset values None = Unit {0}
HasReached service offset values (Some r) = IsReached service offset values r

-- what a node keeps of a state to which it came after so many values: nothing, where these are the ones up to its base, or once it forgot some
abbrev pub reached_at : (offset base count : ℕ) → StateValue → Option ReachedValue
reached_at zero base count state = if base == count then None else Some (record { count = count; state = state })
reached_at (suc offset) base count state = None

-- the state that a node has beside a snapshot is the one that it spells
abbrev pub HasDecoded : Declarations → Option DecodedValue → Type 0
HasDecoded service None = Unit {0}
HasDecoded service (Some d) = state_in service d.snapshot ≡ Ok d.state

-- what is kept of a node also within a call, as if it held all values that it knows
pub record IsKept {K : Type 0} (records : K → List (List ℕ)) (service : Declarations) (past : List Value) (x : NodeValue K) : Type 0 where
  pub id : (0 < x.id) × (x.id ≤ x.nodes)
  pub few : x.nodes ≤ most_nodes
  pub up : x.up ≡ true → IsUp service x (here_of records service past x)
  pub reached : HasReached service x.offset x.known x.reached
  pub decoded : HasDecoded service x.decoded

-- a node that leads has gone on as far as it can: where a majority promised, it is active or has an open proposal
abbrev pub HasGoneOn : Option ProposerValue → Bool → Type 0
HasGoneOn None active = Unit {0}
HasGoneOn (Some p) active = is_candidate p ≡ not (active || is_some p.open_instance)

-- what is kept of it between calls
pub record IsResting {K : Type 0} (records : K → List (List ℕ)) (service : Declarations) (past : List Value) (x : NodeValue K) : Type 0 where
  pub id : (0 < x.id) × (x.id ≤ x.nodes)
  pub few : x.nodes ≤ most_nodes
  pub up : x.up ≡ true → IsUp service x (here_of records service past x)
  pub reached : HasReached service x.offset x.known x.reached
  pub decoded : HasDecoded service x.decoded
  pub rests : x.up ≡ true → HasGoneOn x.proposer (is_some x.acting)

-- the same node of the same cluster, with the same decoded snapshot
pub record IsSame {K : Type 0} (before after : NodeValue K) : Type 0 where
  pub id : after.id ≡ before.id
  pub nodes : after.nodes ≡ before.nodes
  pub seed : after.seed ≡ before.seed
  pub decoded : after.decoded ≡ before.decoded

-- the same node of the same cluster, with the same keeper, base and decoded snapshot
pub record StaysPut {K : Type 0} (before after : NodeValue K) : Type 0 where
  pub id : after.id ≡ before.id
  pub nodes : after.nodes ≡ before.nodes
  pub seed : after.seed ≡ before.seed
  pub keeper : after.keeper ≡ before.keeper
  pub base : after.base ≡ before.base
  pub decoded : after.decoded ≡ before.decoded

-- the same node of the same cluster, and kept
pub record StaysResting {K : Type 0} (records : K → List (List ℕ)) (service : Declarations) (past : List Value) (before after : NodeValue K) : Type 0 where
  pub same : IsSame before after
  pub kept : IsResting records service past after

-- so it is of a node that holds but some of the values that it knows, the first others being those of the past
abbrev pub IsNode : {K : Type 0} → (K → List (List ℕ)) → Declarations → List Value → NodeValue K → Type 0
IsNode records service past x = IsResting records service past (whole past x)

abbrev pub StaysNode : {K : Type 0} → (K → List (List ℕ)) → Declarations → List Value → NodeValue K → NodeValue K → Type 0
StaysNode records service past before after = StaysResting records service past (whole past before) (whole past after)

-- what the node's records say that it knows is what the past begins with
abbrev pub IsPastOf : {K : Type 0} → (K → List (List ℕ)) → Declarations → List Value → NodeValue K → Type 0
IsPastOf records service past x = Begins (known (here_of records service past x).log) past

-- the node's keeper can count one more failure
abbrev pub CanFail : {K : Type 0} → (K → ℕ) → NodeValue K → Type 0
CanFail faults x = faults x.keeper < 2 ^ 64 - 1

-- what most parts of a call ask of a node: it is kept and up, and its keeper can count one more failure
pub record MayCall {K : Type 0} (records : K → List (List ℕ)) (faults : K → ℕ) (service : Declarations) (past : List Value) (x : NodeValue K) : Type 0 where
  pub node : IsNode records service past x
  pub up : x.up ≡ true
  pub count : CanFail faults x

-- ---- leaving a role

-- what was replayed past the checkpoint is forgotten by a node that was active
abbrev pub ahead_left : Bool → Option StateValue → Option StateValue
ahead_left true ahead = None
ahead_left false ahead = ahead

-- the node is a follower
abbrev pub leaving : {K : Type 0} → NodeValue K → NodeValue K
leaving x = record x {
  replayed = replayed_left (is_some x.acting) x.base x.replayed;
  ahead = ahead_left (is_some x.acting) x.ahead;
  proposer = None;
  acting = None;
}

-- ---- going down

-- a node that was stopped is down: it has its keeper, the state that it came to last by replaying and the snapshot that it decoded last, and nothing else that counts
abbrev pub stopped : {K : Type 0} → NodeValue K → NodeValue K
stopped x = record x { up = false; replayed = x.base; ahead = None; proposer = None; acting = None }

-- so is one whose append failed, but for the state that it came to
abbrev pub fallen : {K : Type 0} → NodeValue K → NodeValue K
fallen x = record (stopped x) { reached = None }

-- it is down, and has no such state
pub record IsDown {K : Type 0} (x : NodeValue K) : Type 0 where
  pub down : x.up ≡ false
  pub bare : x.reached ≡ None

-- ---- appending a record

-- the record is kept, and nothing else has changed
pub record Keeps {K : Type 0} (records_of : K → List (List ℕ)) (faults_of : K → ℕ) (gives : K → List ℕ → Answer → K → Type 0) (before after : NodeValue K) (bytes : List ℕ) : Type 0 where
  pub parts : after ≡ record before { keeper = after.keeper }
  pub records : records_of after.keeper ≡ records_of before.keeper ++ bytes ∷ []
  pub faults : faults_of after.keeper ≡ faults_of before.keeper
  pub answer : gives before.keeper bytes (Ok tt) after.keeper

-- the records after an append that failed: its record is kept or lost
abbrev pub failed_records : Bool → List (List ℕ) → List ℕ → List (List ℕ)
failed_records true records bytes = records ++ bytes ∷ []
failed_records false records bytes = records

-- the append failed, and the node is down
pub record Falls {K : Type 0} (records_of : K → List (List ℕ)) (faults_of : K → ℕ) (gives : K → List ℕ → Answer → K → Type 0) (before after : NodeValue K) (bytes : List ℕ) : Type 0 where
  pub parts : after ≡ record (fallen before) { keeper = after.keeper }
  pub kept : Bool
  pub records : records_of after.keeper ≡ failed_records kept (records_of before.keeper) bytes
  pub faults : faults_of before.keeper < faults_of after.keeper
  pub answer : gives before.keeper bytes (Err Failed) after.keeper

-- memory was short before an append, or the keeper answered so
abbrev pub RunsShort : {K : Type 0} → (K → List ℕ → Answer → K → Type 0) → K → K → Type 0
RunsShort gives old new = (new ≡ old) ⊎ ((bytes : List ℕ) × gives old bytes (Err OutOfMemory) new)

-- memory was short, and nothing has changed
pub record Stands {K : Type 0} (records_of : K → List (List ℕ)) (faults_of : K → ℕ) (gives : K → List ℕ → Answer → K → Type 0) (before after : NodeValue K) : Type 0 where
  pub parts : after ≡ record before { keeper = after.keeper }
  pub records : records_of after.keeper ≡ records_of before.keeper
  pub faults : faults_of after.keeper ≡ faults_of before.keeper
  pub short : RunsShort gives before.keeper after.keeper

abbrev pub Writes : {K : Type 0} → (K → List (List ℕ)) → (K → ℕ) → (K → List ℕ → Answer → K → Type 0) → NodeValue K → NodeValue K → List ℕ → Result (Unit {0}) KeepFault → Type 0
Writes records faults gives before after bytes (Ok x) = Keeps records faults gives before after bytes
Writes records faults gives before after bytes (Err Failed) = Falls records faults gives before after bytes
Writes records faults gives before after bytes (Err OutOfMemory) = Stands records faults gives before after
