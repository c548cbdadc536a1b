-- What a node does that serves a call.
use Rattle.std.specs.Prelude.{◌≡◌, ◌⊎◌, ℕ, ◌<◌, ◌+◌, ◌^◌, Bool, true, false, List, Option, Some}
use Rattle.std.specs.Option.{option_copied}
use Rattle.rex_syntax.specs.declared.service.Declarations.{Declarations}
use Rattle.rex_syntax.specs.Versions.{has_version}
use Rattle.rex_schedule.specs.Fits.{RequestFits}
use Rattle.rex_state.specs.Machine.{lane_of}
use Rattle.rex_msg.specs.declared.message.Message.{Message}
use Rattle.rex_msg.specs.Spelling.{HasSpelling}
use Rattle.rex_report.specs.declared.effect.Effect.TheVariants as effect
use Rattle.rex_traits.specs.Chains.{Answer}
use Rattle.rex_cluster.specs.Node.{is_active}
use Rattle.rex_cluster.specs.Records.{known}
use Rattle.rex_cluster.specs.Invariant.{Begins}
use Rattle.rex_cluster.specs.Ranges.{MessageFits}
use Rattle.rex_cluster.specs.Calls.{ask, begin, checkpoint, drop_known, elect, receive, replay}
use Rattle.rex_cluster.specs.Values.{Value, service_of}
use Rattle.rex_cluster.specs.Lanes.{Here, CallHere, active_only, cut, live_state, submit_request, turned}
use Rattle.rex_log.specs.Messages.{content_in, message_in}
use Rattle.rex_node.specs.declared.step.Step.{Step}
use Rattle.rex_node.specs.Parts.{NodeValue, RunsShort}
use Rattle.rex_node.specs.Going.{RunsOn}
use Rattle.rex_node.specs.Telling.{AreTold, IsTold}
use Rattle.rex_node.specs.Calls.{AreLimits, CanBeCut, Does, EndsDown, IsGivenUp, counts_for, turn_at}
use Rattle.rex_steps.specs.declared.serving.Call.{Call}
use Rattle.rex_steps.specs.declared.serving.Call.TheVariants.{Elect, Receive, Submit, Lane, Cut, Replay, Ask, Checkpoint, DropKnown}
use Rattle.rex_steps.specs.Steps.{IsTelling}

-- only a node that is active does this
abbrev pub if_active : (CallHere → CallHere) → CallHere → CallHere
if_active call d = active_only (is_active d.node.role) d (call d)

-- the call of the model that this one is, at a node with this seed and number among so many, which is this one before it
abbrev pub call_for : Declarations → List Value → (seed nodes id : ℕ) → Here → Call → CallHere → CallHere
call_for service past seed nodes id x Elect = elect nodes (service_of service seed) id
call_for service past seed nodes id x (Receive message) = receive nodes (service_of service seed) id message.now.from (content_in past message.now.content)
call_for service past seed nodes id x (Submit request) = if_active (submit_request service (Some request.now))
call_for service past seed nodes id x (Lane lane clock) = if_active (λ d. turned service lane (turn_at service d.node lane clock) d)
call_for service past seed nodes id x (Cut limits) = cut service seed nodes id (counts_for service x (option_copied limits))
call_for service past seed nodes id x Replay = replay id
call_for service past seed nodes id x (Ask other) = ask id other
call_for service past seed nodes id x (Checkpoint version) = checkpoint version (service_of service seed) id
call_for service past seed nodes id x DropKnown = drop_known id

-- ---- conditions

-- a message goes to the node, and has a spelling; a state that it tells is right; and what the node knows begins the past, and runs from the start after it
pub record MayReceive (service : Declarations) (past : List Value) (seed nodes id : ℕ) (x : Here) (message : Message) : Type 0 where
  pub fits : MessageFits nodes (message_in past message)
  pub spelling : HasSpelling message
  pub here : message.to ≡ id
  pub front : Begins (known x.log) past
  pub tells : IsTold service past message.content
  pub runs : RunsOn service (receive nodes (service_of service seed) id message.from (content_in past message.content)) (begin x)

-- there is the lane, and it can count one event more
pub record MayTurn (service : Declarations) (x : Here) (lane : ℕ) : Type 0 where
  pub there : lane < service.lanes
  pub count : x.up ≡ true → (lane_of (live_state service x) lane).done + 1 < 2 ^ 32

-- limits are as many as lanes, and the delta of the cut has a spelling
pub record MayCut (service : Declarations) (x : Here) (limits : Option (List ℕ)) : Type 0 where
  pub many : AreLimits service limits
  pub spelling : x.up ≡ true → CanBeCut x (counts_for service x limits)

-- so it has to be before a node serves a call
abbrev pub MayServe : Declarations → List Value → (seed nodes id : ℕ) → Here → Call → Type 0
MayServe service past seed nodes id x Elect = RunsOn service (elect nodes (service_of service seed) id) (begin x)
MayServe service past seed nodes id x (Receive message) = MayReceive service past seed nodes id x message.now
MayServe service past seed nodes id x (Submit request) = RequestFits service request.now
MayServe service past seed nodes id x (Lane lane clock) = MayTurn service x lane
MayServe service past seed nodes id x (Cut limits) = MayCut service x (option_copied limits)
MayServe service past seed nodes id x Replay = Unit {0}
MayServe service past seed nodes id x (Ask other) = Unit {0}
MayServe service past seed nodes id x (Checkpoint version) = has_version service version ≡ true
MayServe service past seed nodes id x DropKnown = Begins (known x.log) past

-- ---- what comes of it

-- a node that is up did the model's call, which may be to say why it refuses; where its keeper failed it is down, and says so last
pub record DoesCall {K : Type 0} (records : K → List (List ℕ)) (gives : K → List ℕ → Answer → K → Type 0) (faults : K → ℕ) (service : Declarations) (past : List Value) (call : CallHere → CallHere) (old new : NodeValue K) (step : Step) : Type 0 where
  pub does : Does records gives faults service past call old new step
  pub ends : EndsDown old.id (faults old.keeper) (faults new.keeper) new.up step

-- one that is down says so, and is as it was
pub record SaysDown {K : Type 0} (old new : NodeValue K) (step : Step) : Type 0 where
  pub same : new ≡ old
  pub tells : IsTelling (effect.IsDown old.id) step

abbrev pub ServesIf : {K : Type 0} → Bool → (K → List (List ℕ)) → (K → List ℕ → Answer → K → Type 0) → (K → ℕ) → Declarations → List Value → (CallHere → CallHere) → NodeValue K → NodeValue K → Step → Type 0
ServesIf true records gives faults service past call old new step = DoesCall records gives faults service past call old new step
ServesIf false records gives faults service past call old new step = SaysDown old new step

-- so a node served the call; and each message that tells a state tells it rightly
pub record Serves {K : Type 0} (records : K → List (List ℕ)) (gives : K → List ℕ → Answer → K → Type 0) (faults : K → ℕ) (service : Declarations) (past : List Value) (call : CallHere → CallHere) (old new : NodeValue K) (step : Step) : Type 0 where
  pub serves : ServesIf old.up records gives faults service past call old new step
  pub tells : AreTold service past step.sends

-- memory was short in the keeper, which has what it had, or beside it
pub record KeepsStill {K : Type 0} (records : K → List (List ℕ)) (gives : K → List ℕ → Answer → K → Type 0) (faults : K → ℕ) (old new : K) : Type 0 where
  pub records_are : records new ≡ records old
  pub faults_are : faults new ≡ faults old
  pub short : RunsShort gives old new

-- so it was, or the node has given up the call after appends
abbrev pub IsShort : {K : Type 0} → (K → List (List ℕ)) → (K → List ℕ → Answer → K → Type 0) → (K → ℕ) → Declarations → List Value → (CallHere → CallHere) → NodeValue K → NodeValue K → Type 0
IsShort records gives faults service past call old new = KeepsStill records gives faults old.keeper new.keeper ⊎ IsGivenUp records gives faults service past call old new

-- a client's request and a lane's turn leave the node's keeper as it was, and asking another node leaves all of the node so
abbrev pub Spares : {K : Type 0} → Call → NodeValue K → NodeValue K → Type 0
Spares (Submit request) old new = new.keeper ≡ old.keeper
Spares (Lane lane clock) old new = new.keeper ≡ old.keeper
Spares (Ask other) old new = new ≡ old
Spares _ old new = Unit {0}
