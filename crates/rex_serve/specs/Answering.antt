-- What a process comes to by a frame, and the bytes by which it answers.
use Rattle.std.specs.Prelude.{◌≡◌, ◌⊎◌, ℕ, List, [], ◌++◌, if◌then◌else◌}
use Rattle.std.specs.List.{flat_map}
use Rattle.rex_syntax.specs.declared.service.Declarations.{Declarations}
use Rattle.rex_cluster.specs.Reading as reading
use Rattle.rex_cluster.specs.Reading.{read_at}
use Rattle.rex_msg.specs.declared.message.Message.{Message}
use Rattle.rex_log.specs.Messages.{message_in}
use Rattle.rex_node.specs.declared.step.Step.{Step}
use Rattle.rex_processes.specs.Processes.Task.{Elect as ToElect, Submit as ToSubmit, Cut as ToCut, Hear as ToHear, Ask as ToAsk}
use Rattle.rex_processes.specs.Early.{early_replies}
use Rattle.rex_frames.specs.declared.asking.Asked.{Asked}
use Rattle.rex_frames.specs.declared.asking.Asked.TheVariants.{Elect, Submit, Run, Turn, Cut, Hear, Foretell, Ask, Read, Look, Nothing}
use Rattle.rex_frames.specs.declared.letters.TheConstants.{NOTHING, UNFIT}
use Rattle.rex_frames.specs.Asking.{asked_in}
use Rattle.rex_frames.specs.Answering.{count_frame, effect_frame, letter_frame, message_frame, status_frame}
use Rattle.rex_process.specs.declared.answers.Answer.{Answer}
use Rattle.rex_process.specs.declared.answers.Answer.TheVariants.{Did, Unfit}
use Rattle.rex_process.specs.declared.running.Ran.{Ran}
use Rattle.rex_process.specs.declared.running.Ran.TheVariants.{Made, Refused}
use Rattle.rex_process.specs.Process.{ProcessValue, Answers, ComesTo, HasTurn, IsLeft, IsSame, here}
use Rattle.rex_process.specs.Running.{HasRun}
use Rattle.rex_process.specs.Status.{status_of}

-- ---- the bytes of what came

-- what a step reports, and then the messages that it sends
abbrev pub step_frames : Declarations → Step → List ℕ
step_frames service step = flat_map (effect_frame service) step.effects ++ flat_map message_frame step.sends

-- a step, or that a value doesn't fit
abbrev pub answer_frames : Declarations → Answer → List ℕ
answer_frames service (Did step) = step_frames service step
answer_frames service Unfit = letter_frame UNFIT

-- how many events the lanes made, or why the node refused
abbrev pub ran_frames : Declarations → Ran → List ℕ
ran_frames service (Made events) = count_frame events
ran_frames service (Refused effect) = effect_frame service effect

-- what a client is told that reads a variable
abbrev pub read_frame : {K : Type 0} → (K → List (List ℕ)) → ProcessValue K → ℕ → ℕ → ℕ → List ℕ
read_frame records p client variable seen = effect_frame p.service (reading.read_effect p.node.id client variable (read_at p.service (here records p) variable seen))

-- the replies that hearing a message would release
abbrev pub early_frames : {K : Type 0} → (K → List (List ℕ)) → ProcessValue K → Message → List ℕ
early_frames records p message = flat_map (effect_frame p.service) (early_replies p.service p.node.nodes (here records p) (message_in [] message))

-- what the node is, while it is up
abbrev pub standing_frame : {K : Type 0} → (K → List (List ℕ)) → ProcessValue K → List ℕ
standing_frame records p = if p.node.up then status_frame (status_of (here records p)) else []

-- ---- what is answered

-- bytes tell what came
pub record Tells {A : Type 0} (Came : A → Type 0) (frames : A → List ℕ) (out : List ℕ) : Type 0 where
  pub outcome : A
  pub came : Came outcome
  pub told : out ≡ frames outcome

-- bytes tell this of a process that stays as it is
pub record Stays {K : Type 0} (p q : ProcessValue K) (frames out : List ℕ) : Type 0 where
  pub same : q ≡ p
  pub told : out ≡ frames

-- a process did what it was asked for, and bytes tell what came of it
abbrev pub Answered : {K : Type 0} → (K → List (List ℕ)) → (K → ℕ) → ProcessValue K → ProcessValue K → Asked → List ℕ → Type 0
Answered records faults p q Elect out = Tells (Answers records faults p q ToElect) (answer_frames p.service) out
Answered records faults p q (Submit request) out = Tells (ComesTo records faults p q (ToSubmit request)) (step_frames p.service) out
Answered records faults p q (Run clock) out = Tells (HasRun records p q clock) (ran_frames p.service) out
Answered records faults p q (Turn lane clock) out = Tells (HasTurn records faults p q lane clock) (step_frames p.service) out
Answered records faults p q Cut out = Tells (ComesTo records faults p q ToCut) (step_frames p.service) out
Answered records faults p q (Hear message) out = Tells (Answers records faults p q (ToHear (message_in [] message))) (answer_frames p.service) out
Answered records faults p q (Foretell message) out = Stays p q (early_frames records p message) out
Answered records faults p q (Ask to) out = Tells (ComesTo records faults p q (ToAsk to)) (step_frames p.service) out
Answered records faults p q (Read client variable seen) out = Stays p q (read_frame records p client variable seen) out
Answered records faults p q Look out = Stays p q [] out
Answered records faults p q Nothing out = Stays p q (letter_frame NOTHING) out

-- what is asked of a process by a frame
abbrev pub asked_of : {K : Type 0} → ProcessValue K → List ℕ → Asked
asked_of p frame = asked_in p.service p.node.id p.node.nodes frame

-- a process did what a frame asks for, and is the same one; bytes tell what came of it, and then what the node is, while it is up
pub record AnswersFrame {K : Type 0} (records : K → List (List ℕ)) (faults : K → ℕ) (p q : ProcessValue K) (frame out : List ℕ) : Type 0 where
  pub answer : List ℕ
  pub answered : Answered records faults p q (asked_of p frame) answer
  pub same : IsSame p q
  pub told : out ≡ answer ++ standing_frame records q

-- ---- between frames

-- a process is this one after flushes of its keeper, if any: nothing else has changed, and the records are the same
pub record IsFlushed {K : Type 0} (records : K → List (List ℕ)) (p q : ProcessValue K) : Type 0 where
  pub only : q ≡ record p { node = record p.node { keeper = q.node.keeper } }
  pub alike : records q.node.keeper ≡ records p.node.keeper

-- ---- where memory is short

-- the records are left of a process that was to do this: those of its task, or as they were
abbrev pub IsLeftOf : {K : Type 0} → (K → List (List ℕ)) → ProcessValue K → ProcessValue K → Asked → Type 0
IsLeftOf records p q Elect = IsLeft records p q ToElect
IsLeftOf records p q (Submit request) = IsLeft records p q (ToSubmit request)
IsLeftOf records p q Cut = IsLeft records p q ToCut
IsLeftOf records p q (Hear message) = IsLeft records p q (ToHear (message_in [] message))
IsLeftOf records p q _ = (here records q).log ≡ (here records p).log

-- a process did what it was asked for, and there was no memory for the answer; or there was none to do it
abbrev pub BreaksOff : {K : Type 0} → (K → List (List ℕ)) → (K → ℕ) → ProcessValue K → ProcessValue K → Asked → Type 0
BreaksOff records faults p q asked = ((answer : List ℕ) × Answered records faults p q asked answer) ⊎ IsLeftOf records p q asked
