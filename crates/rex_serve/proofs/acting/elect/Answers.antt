use Rattle.std.proofs.Common.{inl, refl}
use Rattle.rex_serve.specs.Answering.{answer_frames}
use Rattle.rex_serve.proofs.Broken.{on_err}
use Rattle.rex_processes.specs.Processes.Task.{Elect as ToElect}
use Rattle.rex_serve.proofs.Counting.{answer_counts, on_ok}
use Rattle.rex_serve.proofs.acting.elect.Goals as goal

pub returns-clause-left : goal.returns-clause-left
returns-clause-left g c =
    on_err c.push_answer.result _
    (inl (answer_frames c.args.process.now.service c.in_ok-answer.answer, record { outcome = c.in_ok-answer.answer; came = c.in_ok-answer.ensures.answers; told = refl }))

pub returns-clause-counts : goal.returns-clause-counts
returns-clause-counts g c =
    on_ok c.push_answer.result _ (answer_counts g.K.Keeper.records g.K.Keeper.faults c.args.process.now c.elect.new.self c.requires.up ToElect tt c.in_ok-answer.answer c.in_ok-answer.ensures.answers)
