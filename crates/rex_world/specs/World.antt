-- The world of the cluster's model that a world is.
use Rattle.std.specs.Prelude.{◌≡◌, ℕ, List, [], ◌∷◌, length, Result, Ok, Err}
use Rattle.rex_syntax.specs.declared.service.Declarations.{Declarations}
use Rattle.rex_schedule.specs.declared.scenario.ScheduleLine.{ScheduleLine}
use Rattle.rex_msg.specs.declared.message.Message.{Message as Sent}
use Rattle.rex_msg.specs.Spelling.{HasSpelling, spelling_of}
use Rattle.rex_msg.specs.Reading.{message_in as read_in}
use Rattle.rex_cluster.specs.Node.{Message}
use Rattle.rex_cluster.specs.Node.Content.{Ask}
use Rattle.rex_cluster.specs.Values.{Value}
use Rattle.rex_cluster.specs.Lanes.{Here}
use Rattle.rex_cluster.specs.World.{World as ModelWorld, Row, node_at, row, steps}
use Rattle.rex_log.specs.Messages.{message_in}
use Rattle.rex_node.specs.Telling.{IsTold}
use Rattle.rex_world.specs.declared.world.World.{World}
use Rattle.rex_world.specs.Members.{heres}

-- what bytes that were read say beside the past; bytes that say nothing ask for nothing
abbrev pub read_message : List Value → Result Sent ℕ → Message Value
read_message past (Ok m) = message_in past m
read_message past (Err at) = record { from = 0; to = 0; content = Ask 0 }

abbrev pub message_of : List Value → List ℕ → Message Value
message_of past bytes = read_message past (read_in bytes)

abbrev pub messages_of : List Value → List (List ℕ) → List (Message Value)
messages_of past [] = []
messages_of past (bytes ∷ rest) = message_of past bytes ∷ messages_of past rest

-- the bytes spell a message
pub record IsSpelled (bytes : List ℕ) : Type 0 where
  pub message : Sent
  pub spelling : HasSpelling message
  pub is : bytes ≡ spelling_of message

-- a state that a message tells is that after the first agreed values
abbrev pub TellsIn : Declarations → List Value → Result Sent ℕ → Type 0
TellsIn service past (Ok m) = IsTold service past m.content
TellsIn service past (Err at) = Unit {0}

pub record TellsRightly (service : Declarations) (past : List Value) (bytes : List ℕ) : Type 0 where
  pub tells : TellsIn service past (read_in bytes)

-- the world of the model, its nodes and messages read beside the agreed values
abbrev pub world_of : {S : Type 0} → Declarations → World S → ModelWorld
world_of service w = record {
  done = w.done;
  nodes = heres service w.agreed w.nodes.items;
  messages = messages_of w.agreed w.net;
  handed = w.handed.items;
  seen = w.seen.items;
}

-- so many nodes it has
abbrev pub nodes_of : {S : Type 0} → World S → ℕ
nodes_of w = length w.nodes.items

-- the node of a number, as the model has it
abbrev pub node_in : {S : Type 0} → Declarations → World S → ℕ → Here
node_in service w number = node_at (heres service w.agreed w.nodes.items) number

-- the row of a schedule line from here
abbrev pub row_in : {S : Type 0} → Declarations → World S → ScheduleLine → Row
row_in service w line = row service w.requests w.seed (nodes_of w) (world_of service w) line

-- steps one after the other from here
abbrev pub steps_in : {S : Type 0} → Declarations → World S → List ScheduleLine → Row
steps_in service w lines = steps service w.requests w.seed (nodes_of w) (world_of service w) lines
