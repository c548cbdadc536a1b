-- What a process has its node serve, and what comes of that.
use Rattle.std.specs.Prelude.{◌≡◌, ℕ, List, [], None}
use Rattle.std.specs.Int.RustNames.{unsigned_abs}
use Rattle.rex_schedule.specs.Fits.{RequestFits}
use Rattle.rex_log.specs.Messages.{content_in, message_in}
use Rattle.rex_fits.specs.Applied.{AppliedValue}
use Rattle.rex_steps.specs.declared.serving.Call.{Call}
use Rattle.rex_steps.specs.declared.serving.Call.TheVariants as call
use Rattle.rex_processes.specs.Processes.{Task}
use Rattle.rex_processes.specs.Processes.Task.{Elect, Submit, Turn, Cut, Hear, Ask, Replay, Save, Forget}
use Rattle.rex_processes.specs.Tested.{MayBeHeard, OwnReportsFit}
use Rattle.rex_process.specs.Hearing.{IsHeard, IsTestOfChosen}
use Rattle.rex_process.specs.Process.{ProcessValue, here}
use Rattle.rex_process.specs.Sending.{MayBeTold}

-- the task that a node's call is, of a process whose clock isn't below 0, and that cuts all that is live
abbrev pub task_of : Call → Task
task_of call.Elect = Elect
task_of (call.Receive message) = Hear (message_in [] message.now)
task_of (call.Submit request) = Submit request.now
task_of (call.Lane lane clock) = Turn lane (unsigned_abs clock)
task_of (call.Cut limits) = Cut
task_of call.Replay = Replay
task_of (call.Ask other) = Ask other
task_of (call.Checkpoint version) = Save version
task_of call.DropKnown = Forget

-- a process has its node ask to lead, where it is alone only if what it accepted itself fits; hear a message that may be heard; answer a request that fits; cut all that is live; and ask another node
abbrev pub CanCall : {K : Type 0} → (K → List (List ℕ)) → ProcessValue K → Call → Type 0
CanCall records p call.Elect = p.node.nodes ≡ 1 → OwnReportsFit p.service (here records p)
CanCall records p (call.Receive message) = IsHeard p.node.id p.node.nodes message.now × MayBeHeard p.service (here records p) (content_in [] message.now.content)
CanCall records p (call.Submit request) = RequestFits p.service request.now
CanCall records p (call.Cut None) = Unit {0}
CanCall records p (call.Ask other) = MayBeTold p.node.nodes p.node.id (Ask other)
CanCall records p _ = ⊥

-- what was tested is what there is after the value that a message tells for the next instance
abbrev pub IsTestFor : {K : Type 0} → (K → List (List ℕ)) → ProcessValue K → Call → AppliedValue → Type 0
IsTestFor records p (call.Receive message) a = IsTestOfChosen records p message.now.content a
IsTestFor records p _ a = ⊥

-- a request leaves the process' keeper as it was, and asking another node leaves all of the process so
abbrev pub Spares : {K : Type 0} → Call → ProcessValue K → ProcessValue K → Type 0
Spares (call.Submit request) p q = q.node.keeper ≡ p.node.keeper
Spares (call.Ask other) p q = q ≡ p
Spares _ p q = Unit {0}
