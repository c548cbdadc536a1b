-- What a process may be told, so that all that it sends is right.
use Rattle.std.specs.Prelude.{◌≢◌, ◌≤◌, ℕ, List, length}
use Rattle.std.specs.List.{All}
use Rattle.rex_msg.specs.Spelling.{IsMessage}
use Rattle.rex_cluster.specs.Records.{Proposal}
use Rattle.rex_cluster.specs.Quorum.{IsNode}
use Rattle.rex_cluster.specs.Node.{Content, Message}
use Rattle.rex_cluster.specs.Node.Content.{Promise, Accept, Chosen}
use Rattle.rex_cluster.specs.Invariant.{IsIn}
use Rattle.rex_cluster.specs.Ranges.{MessageFits}
use Rattle.rex_cluster.specs.Telling.{TellsNoState}
use Rattle.rex_cluster.specs.Values.{Value, greatest_value}
use Rattle.rex_processes.specs.Processes.{Task}
use Rattle.rex_processes.specs.Processes.Task.{Hear, Ask, Save, Forget}
use Rattle.rex_process.specs.declared.answers.Answer.{Answer}
use Rattle.rex_process.specs.declared.answers.Answer.TheVariants.{Did, Unfit}

-- ---- what it is told

-- none of these values is too long
abbrev pub AreShort : List (Proposal Value) → Type 0
AreShort ps = (p : Proposal Value) → IsIn p ps → length p.value ≤ greatest_value

-- no value that a message tells is too long
abbrev pub TellsShort : Content Value → Type 0
TellsShort (Promise b ps) = AreShort ps
TellsShort (Accept b i v) = length v ≤ greatest_value
TellsShort (Chosen i v) = length v ≤ greatest_value
TellsShort _ = Unit {0}

-- a message goes from another one of so many nodes, has its numbers in their ranges, and tells no state and no value that is too long
pub record IsGood (nodes id : ℕ) (x : Message Value) : Type 0 where
  pub fits : MessageFits nodes x
  pub another : id ≢ x.from
  pub stateless : TellsNoState x.content
  pub short : TellsShort x.content

-- a process asks another one that is there, hears good messages of others, and neither writes its state down nor forgets values
abbrev pub MayBeTold : ℕ → ℕ → Task → Type 0
MayBeTold nodes id (Ask other) = IsNode nodes other × (id ≢ other)
MayBeTold nodes id (Hear x) = IsGood nodes id x
MayBeTold nodes id (Save version) = ⊥
MayBeTold nodes id Forget = ⊥
MayBeTold nodes id _ = Unit {0}

-- ---- what it sends

-- where it did the task, each message that it sent has all in its ranges
abbrev pub AllSent : Answer → Type 0
AllSent (Did step) = All IsMessage step.sends
AllSent Unfit = Unit {0}
