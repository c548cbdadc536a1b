-- What a call of a node has to do: the same as its row of the cluster's model.
use Rattle.std.specs.Prelude.{◌≡◌, ◌⊎◌, ℕ, suc, ◌+◌, ◌<◌, ◌≤◌, ◌==◌, Bool, true, false, nat_lt, nat_le, ℤ, List, [], ◌∷◌, ◌++◌, length, map, Result, Ok, Err, Option, Some, None, IfOk, if◌then◌else◌}
use Rattle.rand_pcg.specs.Pcg.{pcg32}
use Rattle.rex_syntax.specs.declared.service.Declarations.{Declarations}
use Rattle.rex_state.specs.Value.{StateValue}
use Rattle.rex_cut.specs.Greatest.{greatest_cut}
use Rattle.rex_cut.specs.Delta.{delta_at}
use Rattle.rex_delta.specs.Spelling.{IsDelta}
use Rattle.rex_event.specs.Cuts.{below}
use Rattle.rex_event.specs.declared.event.Event.{Event}
use Rattle.rex_record.specs.declared.turns.Turn.{Turn}
use Rattle.rex_record.specs.Turn.{turn_of}
use Rattle.rex_report.specs.declared.effect.Effect.{Effect}
use Rattle.rex_report.specs.declared.effect.Effect.TheVariants as effect
use Rattle.rex_cluster.specs.Records.{Rec, Proposal, promise, offset, known, base, has_old_base}
use Rattle.rex_cluster.specs.Quorum.{ballot_above, round_of}
use Rattle.rex_traits.specs.Chains.{Answer, AppendsInTurn}
use Rattle.rex_traits.specs.declared.keeper.KeepFault.TheVariants.{Failed}
use Rattle.rex_cluster.specs.Node.{Failure, Role, role_name, is_active, down_node}
use Rattle.rex_cluster.specs.Node.Failure.{After}
use Rattle.rex_cluster.specs.Node.Role.{Follower, Leads}
use Rattle.rex_cluster.specs.Calls.{begin, checkpoint, elect, on_promise, on_snapshot, on_voted, receive}
use Rattle.rex_cluster.specs.Values.{Value, greatest_value, service_of}
use Rattle.rex_cluster.specs.Lanes.{Here, CallHere, cut as cut_here, live_state, no_limits, with_limits, value_at}
use Rattle.rex_node.specs.declared.refusal.Refusal.{Refusal}
use Rattle.rex_node.specs.declared.refusal.Refusal.TheVariants as why
use Rattle.rex_node.specs.declared.step.Step.{Step}
use Rattle.rex_ballot.specs.declared.proposal.Proposal.{Proposal as Kept}
use Rattle.rex_msg.specs.declared.message.Message.{Message}
use Rattle.rex_syntax.specs.declared.version.Version.{Version}
use Rattle.rex_log.specs.Log.{first, proposal_in}
use Rattle.rex_log.specs.Messages.{content_in, message_in}
use Rattle.rex_node.specs.Stated.{AreStated}
use Rattle.rex_node.specs.Parts.{NodeValue, RunsShort, Stands, failed_records, here_of}
use Rattle.rex_ballot.specs.declared.ballots.TheConstants.{INSTANCES, ROUNDS}

-- ---- the model's calls of this node

abbrev pub elect_call : {K : Type 0} → Declarations → NodeValue K → CallHere → CallHere
elect_call service x = elect x.nodes (service_of service x.seed) x.id

abbrev pub message_call : {K : Type 0} → Declarations → List Value → NodeValue K → Message → CallHere → CallHere
message_call service past x m = receive x.nodes (service_of service x.seed) x.id m.from (content_in past m.content)

abbrev pub promise_call : {K : Type 0} → Declarations → NodeValue K → ℕ → ℕ → List Kept → CallHere → CallHere
promise_call service x from ballot reported = λ d. on_promise x.nodes (service_of service x.seed) x.id from ballot (map proposal_in reported) d d.node.role

abbrev pub vote_call : {K : Type 0} → Declarations → NodeValue K → ℕ → ℕ → ℕ → CallHere → CallHere
vote_call service x from ballot instance = λ d. on_voted x.nodes (service_of service x.seed) x.id from ballot instance d d.node.role

abbrev pub snapshot_call : {K : Type 0} → Declarations → List Value → NodeValue K → ℕ → CallHere → CallHere
snapshot_call service past x deltas = on_snapshot (service_of service x.seed) x.id (first deltas past)

abbrev pub checkpoint_call : {K : Type 0} → Version → Declarations → NodeValue K → CallHere → CallHere
checkpoint_call version service x = checkpoint version (service_of service x.seed) x.id

abbrev pub cut_call : {K : Type 0} → Declarations → NodeValue K → List ℕ → CallHere → CallHere
cut_call service x counts = cut_here service x.seed x.nodes x.id counts

-- ---- steps

-- the call of the model that has come to this node, and has sent and reported what the step has
abbrev pub call_of : {K : Type 0} → (K → List (List ℕ)) → Declarations → List Value → NodeValue K → Step → CallHere
call_of records service past x step = record { node = here_of records service past x; sends = map (message_in past) step.sends; effects = step.effects }

-- the call where this append of its node will fail
abbrev pub armed_with : Option Failure → CallHere → CallHere
armed_with failure d = record d { node = record d.node { armed = failure } }

-- appends went well, one after the other, each state in them being spelled, and the model's call comes to the same, with as many records more
pub record GoesWell {K : Type 0} (records : K → List (List ℕ)) (gives : K → List ℕ → Answer → K → Type 0) (faults : K → ℕ) (service : Declarations) (call : CallHere → CallHere) (old new : K) (before after : CallHere) : Type 0 where
  pub written : List (List ℕ)
  pub grown : records new ≡ records old ++ written
  pub appends : AppendsInTurn gives old written (Ok tt) new
  pub counted : faults new ≡ faults old
  pub stated : AreStated service written
  pub many : length after.node.log ≡ length written + length before.node.log
  pub is : call before ≡ after

-- how many records are kept of so many that were appended and of one whose append failed
abbrev pub failed_many : Bool → ℕ → ℕ
failed_many true written = suc written
failed_many false written = written

-- appends went well, one after the other, and then one failed, which kept or lost its record; the model's call under that failure comes to the same, with as many records more
pub record FailsAfter {K : Type 0} (records : K → List (List ℕ)) (gives : K → List ℕ → Answer → K → Type 0) (faults : K → ℕ) (service : Declarations) (call : CallHere → CallHere) (old new : K) (before after : CallHere) : Type 0 where
  pub written : List (List ℕ)
  pub bytes : List ℕ
  pub kept : Bool
  pub between : K
  pub grown : records new ≡ failed_records kept (records old ++ written) bytes
  pub appends : AppendsInTurn gives old written (Ok tt) between
  pub fails : gives between bytes (Err Failed) new
  pub counted : faults old < faults new
  pub stated : AreStated service (written ++ bytes ∷ [])
  pub many : length after.node.log ≡ failed_many kept (length written) + length before.node.log
  pub is : call (armed_with (Some (After (length written) kept)) before) ≡ after

-- a call of a node is this one of the model, under a failure where the keeper's count rose, and under none where it didn't
abbrev pub Does : {K : Type 0} → (K → List (List ℕ)) → (K → List ℕ → Answer → K → Type 0) → (K → ℕ) → Declarations → List Value → (CallHere → CallHere) → NodeValue K → NodeValue K → Step → Type 0
Does records gives faults service past call old new step =
    GoesWell records gives faults service call old.keeper new.keeper (begin (here_of records service past old)) (call_of records service past new step)
    ⊎ FailsAfter records gives faults service call old.keeper new.keeper (begin (here_of records service past old)) (call_of records service past new step)

-- a call that appends nothing changes the node as this one of the model does
abbrev pub LeadsTo : (CallHere → CallHere) → Here → Here → Type 0
LeadsTo call before after = after ≡ (call (begin before)).node

-- so it is of the nodes that these parts are
abbrev pub LeadsNode : {K : Type 0} → (K → List (List ℕ)) → Declarations → List Value → (CallHere → CallHere) → (old new : NodeValue K) → Type 0
LeadsNode records service past call old new = LeadsTo call (here_of records service past old) (here_of records service past new)

-- the last effect
abbrev pub last_of : List Effect → Option Effect
last_of [] = None
last_of (e ∷ []) = Some e
last_of (e ∷ f ∷ es) = last_of (f ∷ es)

-- the step ends with its node down, and says so, just where the keeper has failed; then it sends nothing
pub record EndsDown (id before after : ℕ) (up : Bool) (step : Step) : Type 0 where
  pub down : before < after → last_of step.effects ≡ Some (effect.Down id)
  pub only : last_of step.effects ≡ Some (effect.Down id) → before < after
  pub quiet : before < after → step.sends ≡ []
  pub falls : before < after → up ≡ false

-- so a call ends, where it answers a step
abbrev pub TellsDown : {K : Type 0} → (K → ℕ) → (old new : NodeValue K) → Result Step Refusal → Type 0
TellsDown faults old new result = IfOk result (EndsDown old.id (faults old.keeper) (faults new.keeper) new.up)

-- ---- refusals

-- a call answers a refusal that is due, and else none but for want of memory
abbrev pub Refuses : {A : Type 0} → Option Refusal → Result A Refusal → Type 0
Refuses (Some refusal) result = result ≡ Err refusal
Refuses None (Ok x) = Unit {0}
Refuses None (Err refusal) = refusal ≡ why.OutOfMemory

-- a node that is down is refused first
abbrev pub if_up : Bool → Option Refusal → Option Refusal
if_up true refusal = refusal
if_up false refusal = Some why.Down

-- then one that isn't active
abbrev pub if_active : Role Value → Option Refusal → Option Refusal
if_active Follower refusal = Some (why.NotActive (role_name {V = Value} Follower))
if_active (Leads l) refusal = if l.active then refusal else Some (why.NotActive (role_name (Leads l)))

-- of a call that only a node that is up does
abbrev pub refusal_up : Here → Option Refusal
refusal_up h = if_up h.up None

-- of a call that only an active node does
abbrev pub refusal_active : Here → Option Refusal
refusal_active h = if_up h.up (if_active h.role None)

-- a node that isn't active refuses to
abbrev pub RefusesIdle : {K A : Type 0} → (K → List (List ℕ)) → Declarations → List Value → NodeValue K → Result A Refusal → Type 0
RefusesIdle records service past x result = Refuses (refusal_active (here_of records service past x)) result

-- of an election: no round is left
abbrev pub refusal_of_elect : ℕ → Here → Option Refusal
refusal_of_elect me h = if_up h.up (if nat_lt ROUNDS (round_of (ballot_above me (promise h.log))) then Some why.Spent else None)

-- of a replay: there is nothing to replay
abbrev pub refusal_of_replay : Here → Option Refusal
refusal_of_replay h = if_up h.up (if is_active h.role then Some why.UpToDate else if h.replayed == length (known h.log) then Some why.UpToDate else None)

-- of a checkpoint: there is nothing to write down, or events are live
abbrev pub refusal_of_checkpoint : Here → Option Refusal
refusal_of_checkpoint h = if_up h.up (if h.replayed == base h.log then Some why.Nothing else if nat_lt 0 (length h.work.live) then Some (why.Live (length h.work.live)) else None)

-- of dropping values: none up to the base is held
abbrev pub refusal_of_drop : Here → Option Refusal
refusal_of_drop h = if_up h.up (if base h.log == offset h.log then Some why.Nothing else None)

-- of writing down again: the last checkpoint isn't in the old version, or there is none
abbrev pub refusal_of_migrate : Here → Option Refusal
refusal_of_migrate h = if_up h.up (if has_old_base h.log then None else Some why.Nothing)

-- of a cut, from a node's role and how many values it knows: a proposal is open, or no instance is left
abbrev pub refusal_of_open : Option (Proposal Value) → ℕ → Option Refusal
refusal_of_open (Some p) many = Some (why.Open p.instance)
refusal_of_open None many = if nat_le INSTANCES many then Some why.Ended else None

abbrev pub refusal_of_lead : Role Value → ℕ → Option Refusal
refusal_of_lead Follower many = None
refusal_of_lead (Leads l) many = refusal_of_open l.proposal many

abbrev pub refusal_of_cut : Here → ℕ → Option Refusal
refusal_of_cut h many = if_up h.up (if_active h.role (refusal_of_lead h.role many))

-- of a cut too, once it is made: no live event is below it
abbrev pub refusal_of_none : List Event → Option Refusal
refusal_of_none [] = Some why.Nothing
refusal_of_none (e ∷ es) = None

abbrev pub refusal_of_piece : Here → List ℕ → Option Refusal
refusal_of_piece h counts = refusal_of_none (below (greatest_cut counts h.work.live) h.work.live)

-- a call answers the first refusal that is due; the second one takes memory to find, and yields to want of it
abbrev pub RefusesThen : {A : Type 0} → Option Refusal → Option Refusal → Result A Refusal → Type 0
RefusesThen (Some refusal) late result = result ≡ Err refusal
RefusesThen None late (Ok x) = late ≡ None
RefusesThen None late (Err why.OutOfMemory) = Unit {0}
RefusesThen None late (Err refusal) = late ≡ Some refusal

-- ---- what an error leaves

-- appends went well, one after the other, each state in them being spelled, and then memory was short; there are as many records more, which are those of the model's call where the next append fails and loses its record
pub record StopsShort {K : Type 0} (records : K → List (List ℕ)) (gives : K → List ℕ → Answer → K → Type 0) (faults : K → ℕ) (service : Declarations) (call : CallHere → CallHere) (old new : K) (before : CallHere) (log : List (Rec Value StateValue)) : Type 0 where
  pub written : List (List ℕ)
  pub some : 0 < length written
  pub between : K
  pub grown : records new ≡ records old ++ written
  pub appends : AppendsInTurn gives old written (Ok tt) between
  pub short : RunsShort gives between new
  pub counted : faults new ≡ faults old
  pub stated : AreStated service written
  pub many : length log ≡ length written + length before.node.log
  pub is : (call (armed_with (Some (After (length written) false)) before)).node.log ≡ log

-- the call has stopped short after appends, and the node is down with its records
pub record IsGivenUp {K : Type 0} (records : K → List (List ℕ)) (gives : K → List ℕ → Answer → K → Type 0) (faults : K → ℕ) (service : Declarations) (past : List Value) (call : CallHere → CallHere) (old new : NodeValue K) : Type 0 where
  pub stops : StopsShort records gives faults service call old.keeper new.keeper (begin (here_of records service past old)) (here_of records service past new).log
  pub down : here_of records service past new ≡ down_node (here_of records service past new).log None

-- where memory was short nothing has changed, or the node has given up this call
abbrev pub Leaves : {K A : Type 0} → (K → List (List ℕ)) → (K → List ℕ → Answer → K → Type 0) → (K → ℕ) → Declarations → List Value → (CallHere → CallHere) → Result A Refusal → NodeValue K → NodeValue K → Type 0
Leaves records gives faults service past call (Ok x) old new = Unit {0}
Leaves records gives faults service past call (Err why.OutOfMemory) old new = Stands records faults gives old new ⊎ IsGivenUp records gives faults service past call old new
Leaves records gives faults service past call (Err refusal) old new = Unit {0}

-- nothing has changed where memory was short in a call that makes its one append last
abbrev pub LeavesAll : {K A : Type 0} → (K → List (List ℕ)) → (K → List ℕ → Answer → K → Type 0) → (K → ℕ) → Result A Refusal → NodeValue K → NodeValue K → Type 0
LeavesAll records gives faults (Ok x) old new = Unit {0}
LeavesAll records gives faults (Err why.OutOfMemory) old new = Stands records faults gives old new
LeavesAll records gives faults (Err refusal) old new = Unit {0}

-- a node that refuses, but for want of memory, is as it was
abbrev pub IsSpared : {A B : Type 0} → Result A Refusal → B → B → Type 0
IsSpared (Ok x) before after = Unit {0}
IsSpared (Err why.OutOfMemory) before after = Unit {0}
IsSpared (Err refusal) before after = after ≡ before

-- ---- conditions

-- the counts below which a cut is made: all live events, or at most so many of each lane
abbrev pub counts_for : Declarations → Here → Option (List ℕ) → List ℕ
counts_for service h None = no_limits service h
counts_for service h (Some limits) = with_limits service h limits

-- limits, if there are some, are as many as the lanes
abbrev pub AreLimits : Declarations → Option (List ℕ) → Type 0
AreLimits service None = Unit {0}
AreLimits service (Some limits) = length limits ≡ service.lanes

-- the delta of a cut has a spelling, which isn't too long; so it is wherever numbers are in their ranges
pub record CutIsSpelled (live : List Event) (cut : List ℕ) : Type 0 where
  pub delta : IsDelta (delta_at cut live)
  pub short : length (value_at cut live) ≤ greatest_value

-- where a live event is below it
abbrev pub CanBeCut : Here → List ℕ → Type 0
CanBeCut h counts = 0 < length (below (greatest_cut counts h.work.live) h.work.live) → CutIsSpelled h.work.live (greatest_cut counts h.work.live)

-- ---- turns

-- a lane's turn where the clock reads this
abbrev pub turn_at : Declarations → Here → ℕ → ℤ → Turn
turn_at service h lane now = turn_of service (live_state service h) h.work.queue (length h.work.live) lane now (pcg32 h.work.dice).0
