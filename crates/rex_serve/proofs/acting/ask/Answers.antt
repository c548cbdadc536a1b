use Rattle.rex_processes.specs.Processes.Task.{Ask as ToAsk}
use Rattle.rex_serve.proofs.Counting.{came_counts, on_ok}
use Rattle.rex_serve.proofs.acting.ask.Goals as goal

pub returns-clause-counts : goal.returns-clause-counts
returns-clause-counts g c =
    on_ok c.push_step.result _ (came_counts g.K.Keeper.records g.K.Keeper.faults c.args.process.now c.ask.new.self c.requires.up (ToAsk c.args.to) tt c.in_ok-step.step c.in_ok-step.ensures.comes)
