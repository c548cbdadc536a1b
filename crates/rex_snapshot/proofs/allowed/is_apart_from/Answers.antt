use Rattle.std.proofs.Common.{sym, ◌∙◌}
use Rattle.rex_snapshot.proofs.LineLocks.{empty_apart}
use Rattle.rex_snapshot.proofs.allowed.is_apart_from.Goals as goal

pub returns-then-is_empty : goal.returns-then-is_empty
returns-then-is_empty c = c.if-is_empty.true ∙ sym (empty_apart c.args.earlier.now c.args.held.now (sym c.is_empty.ensures ∙ c.if-is_empty.true))
