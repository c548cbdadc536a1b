use Rattle.rex_process.specs.Keeping.{ByAppendsAndFlushes}
use Rattle.rex_process.proofs.Keeping.{flush_done}
use Rattle.rex_serve.proofs.serving.tell.Given as given
use Rattle.rex_serve.proofs.serving.tell.Goals as goal
use Rattle.rex_serve.proofs.serving.tell.Goals.{After-flush}

-- a flush was made
flushed : (g : given.Over) (c : After-flush g) → ByAppendsAndFlushes g.K.Keeper.append_gives g.K.Flush.flush_gives c.args.process.now.node.keeper c.flush.new.self.node.keeper
flushed g c = flush_done g.K.Keeper.append_gives g.K.Flush.flush_gives c.args.process.now.node.keeper c.flush.new.self.node.keeper c.flush.result c.flush.ensures.gives

pub returns-in-Err-Failed-clause-keeper : goal.returns-in-Err-Failed-clause-keeper
returns-in-Err-Failed-clause-keeper g c = flushed g (goal.at.returns-in-Err-Failed-clause-keeper g c).After-flush

pub returns-in-Err-OutOfMemory-clause-keeper : goal.returns-in-Err-OutOfMemory-clause-keeper
returns-in-Err-OutOfMemory-clause-keeper g c = flushed g (goal.at.returns-in-Err-OutOfMemory-clause-keeper g c).After-flush

pub returns-in-Ok-write_all-clause-keeper : goal.returns-in-Ok-write_all-clause-keeper
returns-in-Ok-write_all-clause-keeper g c = flushed g (goal.at.returns-in-Ok-write_all-clause-keeper g c).After-flush

pub returns-in-Err-Failed-write_all-clause-keeper : goal.returns-in-Err-Failed-write_all-clause-keeper
returns-in-Err-Failed-write_all-clause-keeper g c = flushed g (goal.at.returns-in-Err-Failed-write_all-clause-keeper g c).After-flush

pub returns-in-Err-OutOfMemory-write_all-clause-keeper : goal.returns-in-Err-OutOfMemory-write_all-clause-keeper
returns-in-Err-OutOfMemory-write_all-clause-keeper g c = flushed g (goal.at.returns-in-Err-OutOfMemory-write_all-clause-keeper g c).After-flush
