use Rattle.rex_reduce.proofs.NoWakers.{none_merged}
use Rattle.rex_event.specs.declared.event.TheConstants.{LANES}
use Rattle.std.proofs.Common.{sym, ◌∙◌}
use Rattle.rex_reduce.proofs.tables.merge_woken.Goals as goal

pub returns-else-is_waker : goal.returns-else-is_waker
returns-else-is_waker c = none_merged c.args.met.now c.args.rows.now c.args.event.now.kind LANES (sym c.is_waker.ensures ∙ c.if-is_waker.false)
