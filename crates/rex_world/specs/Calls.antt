-- What a call of a node comes to in a world.
use Rattle.std.specs.Prelude.{◌≡◌, ◌≢◌, ◌≤◌, ◌<◌, ℕ, ℤ, pos, suc, drop, Bool, true, false, List, [], ◌++◌, length, map, replicate, Result, Ok, Err, if◌then◌else◌}
use Rattle.std.specs.List.{All}
use Rattle.std.specs.Option.{option_copied}
use Rattle.std.specs.declared.alloc.AllocError.{AllocError}
use Rattle.rex_ballot.specs.Limits.{most_nodes}
use Rattle.rex_syntax.specs.declared.service.Declarations.{Declarations}
use Rattle.rex_syntax.specs.Versions.{has_version}
use Rattle.rex_schedule.specs.Fits.{IsNode, RequestFits}
use Rattle.rex_report.specs.declared.effect.Effect.{Effect}
use Rattle.rex_report.specs.declared.effect.Effect.TheVariants as effect
use Rattle.rex_state.specs.Value.{StateValue}
use Rattle.rex_cluster.specs.Records.{known}
use Rattle.rex_cluster.specs.Node.{Service, is_active}
use Rattle.rex_cluster.specs.Calls.{begin, say, start}
use Rattle.rex_cluster.specs.Values.{Value, values_fit}
use Rattle.rex_cluster.specs.Lanes.{Here, CallHere}
use Rattle.rex_syntax.specs.declared.request.Request.{Request}
use Rattle.rex_schedule.specs.declared.scenario.ScheduleLine.{ScheduleLine}
use Rattle.rex_schedule.specs.declared.scenario.ScheduleLine.TheVariants.{KeepFail}
use Rattle.rex_cluster.specs.World.{World as ModelWorld, Row, at_node, step, steps, steps_of, sent_from}
use Rattle.rex_cluster.specs.Reading.{seen_by_releases, stamp_at}
use Rattle.rex_cluster.specs.Releases.{IsAmong}
use Rattle.rex_msg.specs.declared.message.Message.{Message as Sent}
use Rattle.rex_msg.specs.Spelling.{HasSpelling, IsMessage, spelling_of}
use Rattle.rex_node.specs.declared.refusal.Refusal.{Refusal}
use Rattle.rex_node.specs.declared.refusal.Refusal.TheVariants as why
use Rattle.rex_node.specs.declared.step.Step.{Step}
use Rattle.rex_node.specs.Calls.{AreLimits}
use Rattle.rex_log.specs.Messages.{message_in}
use Rattle.rex_node.specs.Restarting.{HasForgotten, HasRightBase}
use Rattle.rex_steps.specs.declared.serving.Call.{Call}
use Rattle.rex_steps.specs.declared.serving.Call.TheVariants.{Receive, Submit, Lane, Cut, Ask, Checkpoint}
use Rattle.rex_steps.specs.Serving.{call_for}
use Rattle.rex_world.specs.declared.told.Told.{Told}
use Rattle.rex_world.specs.declared.world.World.{World}
use Rattle.rex_world.specs.Agreed.{learned}
use Rattle.rex_world.specs.Finding.{IsSent}
use Rattle.rex_world.specs.Members.{AreMembers, IsOwnMember, Member, StaysOwnMember, here_at, records_at}
use Rattle.rex_world.specs.World.{node_in, nodes_of, row_in, steps_in, world_of}
use Rattle.rex_world.specs.Kept.{IsRunning, IsSame}
use Rattle.rex_event.specs.declared.event.TheConstants.{CLIENT_ENTRIES}

-- ---- a node

-- a node that is up does the model's call; one that is down says so
abbrev pub served : ℕ → (CallHere → CallHere) → Here → CallHere
served number call x = if x.up then call (begin x) else say (effect.IsDown number) (begin x)

-- only one that is down starts
abbrev pub started : Service Value StateValue → ℕ → Here → CallHere
started sv number x = if x.up then say (effect.IsUp number) (begin x) else start sv number (begin x)

-- a node has come to this of the model, with the same messages and the same effects
pub record HasCome (past : List Value) (d : CallHere) (x : Here) (step : Step) : Type 0 where
  pub node : x ≡ d.node
  pub sends : map (message_in past) step.sends ≡ d.sends
  pub effects : step.effects ≡ d.effects

-- so it has, without messages, and stays a member
pub record ComesQuietly (service : Declarations) (past : List Value) (call : Here → CallHere) (before after : Member) (step : Step) : Type 0 where
  pub came : HasCome past (call (here_at service past before)) (here_at service past after) step
  pub quiet : step.sends ≡ []
  pub stays : StaysOwnMember service past before after

-- what the node knows are deltas that run from the start, of which it doesn't hold the first values of the past, and its last checkpoint is of the state to which they run up to it
pub record Starts (service : Declarations) (past : List Value) (x : Here) : Type 0 where
  pub fit : values_fit service (known x.log) ≡ true
  pub base : HasRightBase service x.log
  pub forgotten : HasForgotten past x.log

-- a member can be started
pub record CanStart (service : Declarations) (past : List Value) (x : Member) : Type 0 where
  pub member : IsOwnMember service past x
  pub runs : Starts service past (here_at service past x)

-- a member that is up
pub record IsUpMember (service : Declarations) (past : List Value) (x : Member) : Type 0 where
  pub member : IsOwnMember service past x
  pub up : x.up ≡ true

-- memory was not short
abbrev pub IsWhole : {A : Type 0} → Result A Refusal → Type 0
IsWhole (Ok x) = Unit {0}
IsWhole (Err why.OutOfMemory) = ⊥
IsWhole (Err refusal) = Unit {0}

-- ---- what a world may ask of a node

-- what a call names is there: a message was sent, and to this node; a request fits; the clock is the number of lines done; and the like
abbrev pub CanCall : {S : Type 0} → Declarations → World S → ℕ → Call → Type 0
CanCall service w number (Receive message) = ((sent : ℕ) × IsSent w.net sent message.now) × (message.now.to ≡ number)
CanCall service w number (Submit request) = RequestFits service request.now
CanCall service w number (Lane lane clock) = (lane < service.lanes) × (clock ≡ pos w.done)
CanCall service w number (Cut limits) = AreLimits service (option_copied limits)
CanCall service w number (Ask other) = IsNode (nodes_of w) other × (number ≢ other)
CanCall service w number (Checkpoint version) = has_version service version ≡ true
CanCall service w number _ = Unit {0}

-- a call may be made: the world runs, the node is there, and so is what the call names
pub record MayCall {S : Type 0} (service : Declarations) (w : World S) (number : ℕ) (call : Call) : Type 0 where
  pub running : IsRunning service w
  pub there : IsNode (nodes_of w) number
  pub may : CanCall service w number call

-- the call of the model that it is
abbrev pub call_at : {S : Type 0} → Declarations → World S → ℕ → Call → CallHere → CallHere
call_at service w number call = call_for service w.agreed w.seed (nodes_of w) number (node_in service w number) call

-- ---- telling

-- the world came to a row of the model: its effects were told behind those before, and what it sent beside them
pub record Did (before after : ModelWorld) (old new : Told) (r : Row) : Type 0 where
  pub world : after ≡ r.world
  pub effects : new.effects.items ≡ old.effects.items ++ r.effects
  pub sent : new.sent.items ≡ old.sent.items ++ sent_from (suc (length before.messages)) (drop (length before.messages) r.world.messages)

-- these messages were sent, under the next numbers: they have spellings, their bytes are kept, no line handed them over, and it is told of each, which is the same beside every past
pub record Sends (sends : List Sent) (before after : List (List ℕ)) (old_handed new_handed : List Bool) (old_sent new_sent : List Effect) : Type 0 where
  pub spelled : All HasSpelling sends
  pub net : after ≡ before ++ map spelling_of sends
  pub handed : new_handed ≡ old_handed ++ replicate (length sends) false
  pub sent : new_sent ≡ old_sent ++ sent_from (suc (length before)) (map (message_in []) sends)

-- a reply is among these effects only where the node is up and active
pub record AreReleased (x : Here) (effects : List Effect) : Type 0 where
  pub leads : (client sequence : ℕ) (value : ℤ) → IsAmong (effect.Released client sequence value) effects → (x.up ≡ true) × (is_active x.role ≡ true)

-- what a member's effects show to clients can be shown: it released its replies while it was up and active, and there is a number for each client
pub record CanShow (service : Declarations) (past : List Value) (x : Member) (seen : List ℕ) (effects : List Effect) : Type 0 where
  pub member : IsOwnMember service past x
  pub clients : length seen ≡ CLIENT_ENTRIES
  pub releases : AreReleased (here_at service past x) effects

-- the same of the node of this number in a world, whose nodes are kept
pub record CanShowIn {S : Type 0} (service : Declarations) (w : World S) (number : ℕ) (effects : List Effect) : Type 0 where
  pub there : IsNode (nodes_of w) number
  pub members : AreMembers service w.agreed w.seed (nodes_of w) 1 w.nodes.items
  pub clients : length w.seen.items ≡ CLIENT_ENTRIES
  pub releases : AreReleased (node_in service w number) effects

-- a step of the node of this number can be told: its messages have numbers in their ranges, and what its effects show can be shown
pub record CanBeTold {S : Type 0} (service : Declarations) (w : World S) (number : ℕ) (step : Step) : Type 0 where
  pub sends : All IsMessage step.sends
  pub few : nodes_of w ≤ most_nodes
  pub shows : CanShowIn service w number step.effects

-- a node's step was told and its messages were sent, clients have seen the replies that it released, and then what the node's records after so many say that it knows was agreed; nothing else of the world changed
pub record IsSettled {S : Type 0} (service : Declarations) (number count : ℕ) (before after : World S) (old new : Told) (step : Step) : Type 0 where
  pub sends : Sends step.sends before.net after.net before.handed.items after.handed.items old.sent.items new.sent.items
  pub effects : new.effects.items ≡ old.effects.items ++ step.effects
  pub seen : after.seen.items ≡ seen_by_releases (stamp_at (node_in service before number)) step.effects before.seen.items
  pub agreed : after.agreed ≡ learned before.agreed (drop count (records_at before.nodes.items number))
  pub rest : after ≡ record before { net = after.net; handed = after.handed; seen = after.seen; agreed = after.agreed }

-- ---- what comes of it

-- a world runs on, over the same nodes, requests and seed, and with the same count of lines
pub record GoesOn {S : Type 0} (service : Declarations) (before after : World S) : Type 0 where
  pub running : IsRunning service after
  pub same : IsSame before after
  pub done : after.done ≡ before.done

-- the world came to a row of the model, and runs on
pub record ComesTo {S : Type 0} (service : Declarations) (before after : World S) (old new : Told) (r : Row) : Type 0 where
  pub did : Did (world_of service before) (world_of service after) old new r
  pub goes : GoesOn service before after

-- a step of the model of the world
abbrev pub step_in : {S : Type 0} → Declarations → World S → ScheduleLine → Row
step_in service w line = step service w.requests w.seed (nodes_of w) (world_of service w) line

abbrev pub Comes : {S : Type 0} → Declarations → (before after : World S) → (old new : Told) → ScheduleLine → Type 0
Comes service before after old new line = ComesTo service before after old new (step_in service before line)

-- a call of a node comes to its row of the model
abbrev pub ComesAt : {S : Type 0} → Declarations → (before after : World S) → (old new : Told) → ℕ → Call → Type 0
ComesAt service before after old new number call = ComesTo service before after old new (at_node (world_of service before) number (call_at service before number call))

-- the same of steps one after the other
abbrev pub DidSteps : Declarations → List Request → (seed n : ℕ) → (before after : ModelWorld) → (old new : Told) → List ScheduleLine → Type 0
DidSteps service requests seed n before after old new lines = Did before after old new (steps service requests seed n before lines)

-- a schedule line was done by its steps
abbrev pub DidLine : {S : Type 0} → Declarations → (before after : World S) → (old new : Told) → ScheduleLine → Type 0
DidLine service before after old new line = Did (world_of service before) (world_of service after) old new (steps_in service before (steps_of (world_of service before) line))

-- the row of a schedule line was done and counted, and told by these effects, and the world runs on, over the same nodes, requests and seed
pub record DoesRow {S : Type 0} (service : Declarations) (before after : World S) (line : ScheduleLine) (told : List Effect) : Type 0 where
  pub effects : told ≡ (row_in service before line).effects
  pub world : world_of service after ≡ (row_in service before line).world
  pub running : IsRunning service after
  pub same : IsSame before after

-- how a schedule line ends: its row was done, or the world is broken
abbrev pub EndsRow : {S : Type 0} → Declarations → (before after : World S) → ScheduleLine → Result (List Effect) AllocError → Type 0
EndsRow service before after line (Ok told) = DoesRow service before after line told
EndsRow service before after line (Err e) = after.broken ≡ true

-- a line but one that arms a keeper
abbrev pub ArmsNone : ScheduleLine → Type 0
ArmsNone (KeepFail number kept) = ⊥
ArmsNone _ = Unit {0}
