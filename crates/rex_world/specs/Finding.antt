-- A message that was sent, and is handed over.
use Rattle.std.specs.Prelude.{◌≡◌, ◌<◌, ℕ, ◌-◌, true, List, length, Option, Some, None, slice_set}
use Rattle.rex_syntax.specs.declared.service.Declarations.{Declarations}
use Rattle.rex_msg.specs.declared.message.Message.{Message}
use Rattle.rex_msg.specs.Spelling.{HasSpelling, spelling_of}
use Rattle.rex_net.specs.Net.{message_at}
use Rattle.rex_world.specs.declared.world.World.{World}
use Rattle.rex_world.specs.Kept.{IsRunning}

-- the message was sent under this number
pub record IsSent (net : List (List ℕ)) (number : ℕ) (message : Message) : Type 0 where
  pub spelling : HasSpelling message
  pub is : message_at net number ≡ Some (spelling_of message)

-- a world runs, and the message was sent in it under this number
pub record RunsWithSent {S : Type 0} (service : Declarations) (w : World S) (number : ℕ) (message : Message) : Type 0 where
  pub running : IsRunning service w
  pub sent : IsSent w.net number message

-- a world runs, and a message was sent in it at this place, from 0 on
pub record RunsWithPlace {S : Type 0} (service : Declarations) (w : World S) (place : ℕ) : Type 0 where
  pub running : IsRunning service w
  pub there : place < length w.handed.items

-- what is found under a number
abbrev pub IsFound : List (List ℕ) → ℕ → Option Message → Type 0
IsFound net number None = message_at net number ≡ None
IsFound net number (Some message) = IsSent net number message

-- the message of this number was handed over, and nothing else changed
pub record IsMarked {S : Type 0} (number : ℕ) (before after : World S) : Type 0 where
  pub handed : after.handed.items ≡ slice_set before.handed.items (number - 1) true
  pub rest : after ≡ record before { handed = after.handed }
