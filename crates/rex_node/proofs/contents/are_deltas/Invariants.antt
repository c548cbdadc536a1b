use Rattle.rex_node.proofs.Common.{All, SpellsDelta}
use Rattle.std.specs.Prelude.{take}
use Rattle.rex_node.proofs.contents.are_deltas.Given as goal

-- the values before spell deltas
abbrev pub invariant-loop-index : goal.invariant-loop-index
invariant-loop-index l = All SpellsDelta (take l.index l.values)
