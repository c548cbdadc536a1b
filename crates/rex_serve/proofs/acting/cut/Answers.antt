use Rattle.std.proofs.Common.{inl, refl}
use Rattle.rex_serve.specs.Answering.{step_frames}
use Rattle.rex_serve.proofs.Broken.{on_err}
use Rattle.rex_processes.specs.Processes.Task.{Cut as ToCut}
use Rattle.rex_serve.proofs.Counting.{came_counts, on_ok}
use Rattle.rex_serve.proofs.acting.cut.Goals as goal

pub returns-clause-left : goal.returns-clause-left
returns-clause-left g c =
    on_err c.push_step.result _
    (inl (step_frames c.args.process.now.service c.in_ok-step.step, record { outcome = c.in_ok-step.step; came = c.in_ok-step.ensures.comes; told = refl }))

pub returns-clause-counts : goal.returns-clause-counts
returns-clause-counts g c =
    on_ok c.push_step.result _ (came_counts g.K.Keeper.records g.K.Keeper.faults c.args.process.now c.cut.new.self c.requires.up ToCut tt c.in_ok-step.step c.in_ok-step.ensures.comes)
