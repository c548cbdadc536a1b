use Rattle.rex_journal.proofs.Empty.{opened_fresh, opened_unless_short}
use Rattle.rex_journal.proofs.store.open_empty.Goals as goal

pub returns-in-Ok-clause-fresh : goal.returns-in-Ok-clause-fresh
returns-in-Ok-clause-fresh c = opened_fresh c.args.disk c.requires.empty c.in-Ok.keeper c.in-Ok.ensures.holds c.in-Ok.ensures.calls c.in-Ok.ensures.whole c.in-Ok.ensures.cause c.in-Ok.ensures.model

pub returns-in-Err-clause-memory : goal.returns-in-Err-clause-memory
returns-in-Err-clause-memory c = opened_unless_short c.args.disk c.requires.empty c.in-Err.refused.fault c.in-Err.refused.disk c.in-Err.ensures.bad c.in-Err.ensures.calls
