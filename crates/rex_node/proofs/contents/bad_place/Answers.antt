use Rattle.rex_node.proofs.Common.{subst, All, SpellsDelta}
use Rattle.rex_node.proofs.Deltas.{none_bad_in}
use Rattle.rex_node.proofs.contents.bad_place.Goals as goal

pub returns-then-are_deltas : goal.returns-then-are_deltas
returns-then-are_deltas g c = λ service rs spelled is said.
    none_bad_in service rs is said c.if-is_none.ensures (subst (All SpellsDelta) c.as_slice.ensures (c.are_deltas.ensures c.if-are_deltas.true))
