-- How a process stands in a world of the cluster's model, and what honest happenings make of both.
use Rattle.std.specs.Prelude.{◌∷◌, ◌≡◌, ◌≢◌, ℕ, true, false, List, [], ◌++◌, length, map, None}
use Rattle.rex_msg.specs.declared.message.Message.{Message}
use Rattle.rex_msg.specs.Spelling.{HasSpelling, spelling_of}
use Rattle.rex_log.specs.Messages.{message_in}
use Rattle.rex_cluster.specs.Quorum.{IsNode}
use Rattle.rex_cluster.specs.Node as model
use Rattle.rex_cluster.specs.Node.{down_node}
use Rattle.rex_cluster.specs.Invariant.{IsIn}
use Rattle.rex_cluster.specs.Values.{Value}
use Rattle.rex_cluster.specs.Lanes.{Here}
use Rattle.rex_cluster.specs.World.{World, node_at}
use Rattle.rex_node.specs.declared.step.Step.{Step}
use Rattle.rex_processes.specs.Processes.{Happening, AreHonest, after_happenings}
use Rattle.rex_processes.specs.Plain.{ArePlain, EachTask, NamesAnother}
use Rattle.rex_frames.specs.declared.asking.Asked.{Asked}
use Rattle.rex_frames.specs.declared.asking.Asked.TheVariants.{Elect, Submit, Run, Turn, Cut, Hear, Foretell, Ask, Read, Look, Nothing}
use Rattle.rex_frames.specs.Asking.{is_before_message}
use Rattle.rex_process.specs.declared.answers.Answer.{Answer}
use Rattle.rex_process.specs.declared.answers.Answer.TheVariants.{Did, Unfit}
use Rattle.rex_process.specs.Process.{ProcessValue, here}
use Rattle.rex_serve.specs.Answering.{Answered, AnswersFrame, asked_of}

-- ---- a process in a world

-- a world has this node of a process while the process is up, and else one that is down with its records
pub record IsNodeOf (own x : Here) : Type 0 where
  pub up : own.up ≡ true → x ≡ own
  pub down : own.up ≡ false → x ≡ down_node own.log None

-- a process stands in a world as the node of this number
abbrev pub StandsAt : {K : Type 0} → (K → List (List ℕ)) → ProcessValue K → World → ℕ → Type 0
StandsAt records p w m = IsNodeOf (here records p) (node_at w.nodes m)

-- it stands in a world that has as many nodes, and its own among them
pub record StandsIn {K : Type 0} (records : K → List (List ℕ)) (p : ProcessValue K) (w : World) : Type 0 where
  pub many : length w.nodes ≡ p.node.nodes
  pub there : IsNode p.node.nodes p.node.id
  pub stands : StandsAt records p w p.node.id

-- ---- what happens to it

-- all of this happens to the process of this number
abbrev pub each_at : ℕ → List Happening → List (ℕ × Happening)
each_at m xs = map (λ (x : Happening). (m, x)) xs

-- the world after it
abbrev pub world_after : {K : Type 0} → ProcessValue K → World → List Happening → World
world_after p w xs = after_happenings p.service p.node.seed p.node.nodes w (each_at p.node.id xs)

-- this is honest; the process is never told to write its state down, asks others that are there, and hears no message of its own; the other nodes stay
-- as they are, and these messages are sent
pub record AreHonestBy {K : Type 0} (p : ProcessValue K) (w : World) (xs : List Happening) (sends : List (model.Message Value)) : Type 0 where
  pub honest : AreHonest p.service p.node.seed p.node.nodes w (each_at p.node.id xs)
  pub plain : ArePlain (each_at p.node.id xs)
  pub named : EachTask (NamesAnother p.node.nodes) (each_at p.node.id xs)
  pub others : (k : ℕ) → (k ≢ p.node.id) → node_at (world_after p w xs).nodes k ≡ node_at w.nodes k
  pub messages : (world_after p w xs).messages ≡ w.messages ++ sends

-- ---- what is sent in an answer

-- nothing is reported, and nothing is sent
abbrev pub no_step : Step
no_step = record { effects = []; sends = [] }

-- what came of a task
abbrev pub step_of : Answer → Step
step_of (Did step) = step
step_of Unfit = no_step

-- what a process' node reports and sends, where it did what it was asked for; lanes that go on, what a message would release, a read and a look have it send nothing
abbrev pub step_in : {K : Type 0} (records : K → List (List ℕ)) (faults : K → ℕ) (p q : ProcessValue K) (asked : Asked) (out : List ℕ)
    → Answered records faults p q asked out → Step
step_in records faults p q Elect out h = step_of h.outcome
step_in records faults p q (Submit request) out h = h.outcome
step_in records faults p q (Run clock) out h = no_step
step_in records faults p q (Turn lane clock) out h = h.outcome
step_in records faults p q Cut out h = h.outcome
step_in records faults p q (Hear message) out h = step_of h.outcome
step_in records faults p q (Foretell message) out h = no_step
step_in records faults p q (Ask to) out h = h.outcome
step_in records faults p q (Read client variable seen) out h = no_step
step_in records faults p q Look out h = no_step
step_in records faults p q Nothing out h = no_step

-- so it is of a frame
abbrev pub step_to : {K : Type 0} (records : K → List (List ℕ)) (faults : K → ℕ) (p q : ProcessValue K) (frame out : List ℕ)
    → AnswersFrame records faults p q frame out → Step
step_to records faults p q frame out h = step_in records faults p q (asked_of p frame) h.answer h.answered

-- this holds of the message that is to be heard, or would be, if one is
abbrev pub OfHeard : (Message → Type 0) → Asked → Type 0
OfHeard P (Hear message) = P message
OfHeard P (Foretell message) = P message
OfHeard P _ = Unit {0}

-- it is among these
abbrev pub HearsOneOf : List Message → Asked → Type 0
HearsOneOf told = OfHeard (λ message. IsIn message told)

-- it was sent in this world
abbrev pub HearsSent : World → Asked → Type 0
HearsSent w = OfHeard (λ message. IsIn (message_in [] message) w.messages)

-- these bytes spell one of these
pub record SpellsOneOf (told : List Message) (content : List ℕ) : Type 0 where
  pub message : Message
  pub among : IsIn message told
  pub spelling : HasSpelling message
  pub bytes : content ≡ spelling_of message

-- a frame of a letter that a message follows has the bytes of one of these
abbrev pub CarriesOneOf : List Message → List ℕ → Type 0
CarriesOneOf told [] = Unit {0}
CarriesOneOf told (letter ∷ content) = is_before_message letter ≡ true → SpellsOneOf told content
