use Rattle.std.proofs.Common.{sym}
use Rattle.rex_snapshot.proofs.Queueing.{none_waits}
use Rattle.rex_snapshot.proofs.write_lanes.waits_unless.Goals as goal

pub returns-then-empty : goal.returns-then-empty
returns-then-empty c = sym (none_waits c.args.queues.now c.args.lane (c.requires c.if-empty.true))
