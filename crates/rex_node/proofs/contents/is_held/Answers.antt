use Rattle.rex_node.proofs.Common.{sym}
use Rattle.rex_node.proofs.Held.{short_isn't_held}
use Rattle.rex_node.proofs.contents.is_held.Goals as goal

pub returns-in_default : goal.returns-in_default
returns-in_default c = sym (short_isn't_held _ _ c.in_default.len_below)
