use Rattle.rex_node.proofs.Common.{◌≡◌, ◌++◌, List, map, Effect, release_effect}
use Rattle.std.specs.Prelude.{take}
use Rattle.rex_msg.specs.declared.message.Message.{Message}
use Rattle.rex_node.proofs.acting.tell_releases.Given as goal

-- the replies up to this one were told, and nothing was sent
pub record Tells (told had more : List Effect) (sends sent : List Message) : Type 0 where
  pub effects : told ≡ had ++ more
  pub sends_are : sends ≡ sent

abbrev pub invariant-loop-release : goal.invariant-loop-release
invariant-loop-release l = Tells l.draft.effects.items l.initial.draft.effects.items (map release_effect (take l.release-index l.releases)) l.draft.sends.items l.initial.draft.sends.items
