use Rattle.rex_journal.proofs.Arming.{armed_is}
use Rattle.rex_journal.proofs.store.JournalKeeperMemDiskStore.arm.Goals as goal

pub returns : goal.returns
returns c = λ always. armed_is c.args.self.now c.set_plan.new.self c.args.fate c.plan_of_fate.result c.plan_of_fate.ensures c.set_plan.ensures always
