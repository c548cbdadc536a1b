-- Which messages a process hears, and what it tests before.
use Rattle.std.specs.Prelude.{◌≡◌, ℕ, ℤ, suc, List, [], length, Option, None}
use Rattle.rex_msg.specs.declared.message.Message.{Message}
use Rattle.rex_msg.specs.declared.message.Content.{Content}
use Rattle.rex_msg.specs.declared.message.Content.TheVariants.{Chosen}
use Rattle.rex_msg.specs.Spelling.{HasSpelling}
use Rattle.rex_syntax.specs.declared.service.Declarations.{Declarations}
use Rattle.rex_report.specs.declared.effect.Role.{Role as RoleName}
use Rattle.rex_report.specs.declared.effect.Role.TheVariants as named
use Rattle.rex_cluster.specs.Records.{known}
use Rattle.rex_cluster.specs.Ranges.{MessageFits}
use Rattle.rex_cluster.specs.Telling.{TellsNoState}
use Rattle.rex_cluster.specs.Values.{Value}
use Rattle.rex_cluster.specs.Lanes.{Here}
use Rattle.rex_log.specs.Messages.{content_in, message_in}
use Rattle.rex_processes.specs.Tested.{FitsNext, MayBeHeard, OpenFits}
use Rattle.rex_fits.specs.Applied.{AppliedValue}
use Rattle.rex_process.specs.declared.hearing.Test.{Test}
use Rattle.rex_process.specs.declared.hearing.Test.TheVariants as test
use Rattle.rex_process.specs.Process.{ProcessValue, HasTest, here}

-- a message goes to this node of so many, from another one, and tells no state; it has a spelling, and its numbers are in their ranges in the cluster's model, beside any past
pub record IsHeard (id nodes : ℕ) (m : Message) : Type 0 where
  pub here : m.to ≡ id
  pub stateless : TellsNoState (content_in [] m.content)
  pub spelling : HasSpelling m
  pub numbers : (past : List Value) → MessageFits nodes (message_in past m)

-- what was tested is what there is after the value that the content tells for the next instance
abbrev pub IsTestOfChosen : {K : Type 0} → (K → List (List ℕ)) → ProcessValue K → Content → AppliedValue → Type 0
IsTestOfChosen records p (Chosen i v) a = (i ≡ suc (length (known (here records p).log))) × HasTest p.service p.clock (here records p) v a
IsTestOfChosen records p _ a = ⊥

-- the value of the next instance fits, or it doesn't
abbrev pub IsTestOfNext : Declarations → ℤ → Here → Value → Test → Type 0
IsTestOfNext service clock x v test.Passed = ⊥
IsTestOfNext service clock x v (test.Known a) = HasTest service clock x v a
IsTestOfNext service clock x v test.Unfit = FitsNext service x v → ⊥

-- of a node of this role the open value, where it adopted that
abbrev pub adopted_in : RoleName → Option Value → Option Value
adopted_in named.Adopting value = value
adopted_in _ value = None

-- the value that it adopted fits, or it doesn't
abbrev pub IsTestOfAdopted : Declarations → Here → Value → Test → Type 0
IsTestOfAdopted service x v test.Passed = FitsNext service x v
IsTestOfAdopted service x v (test.Known a) = ⊥
IsTestOfAdopted service x v test.Unfit = FitsNext service x v → ⊥

-- the value that is open fits, or it doesn't
abbrev pub IsTestOfOpen : Declarations → Here → Test → Type 0
IsTestOfOpen service x test.Passed = OpenFits service x
IsTestOfOpen service x (test.Known a) = ⊥
IsTestOfOpen service x test.Unfit = OpenFits service x → ⊥

-- the content may be heard, or it may not
abbrev pub IsTestOf : {K : Type 0} → (K → List (List ℕ)) → ProcessValue K → Content → Test → Type 0
IsTestOf records p c test.Passed = MayBeHeard p.service (here records p) (content_in [] c)
IsTestOf records p c (test.Known a) = MayBeHeard p.service (here records p) (content_in [] c) × IsTestOfChosen records p c a
IsTestOf records p c test.Unfit = MayBeHeard p.service (here records p) (content_in [] c) → ⊥
