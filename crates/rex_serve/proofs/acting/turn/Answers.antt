use Rattle.rex_processes.specs.Processes.Task.{Turn as ToTurn}
use Rattle.rex_serve.proofs.Counting.{came_counts, on_ok}
use Rattle.rex_serve.proofs.acting.turn.Goals as goal

pub returns-clause-counts : goal.returns-clause-counts
returns-clause-counts g c =
    let turn = c.in_ok-step.ensures.turn in
    on_ok c.push_step.result _ (came_counts g.K.Keeper.records g.K.Keeper.faults c.args.process.now c.turn.new.self c.requires.up (ToTurn c.args.lane turn.reads) tt c.in_ok-step.step turn.comes)
