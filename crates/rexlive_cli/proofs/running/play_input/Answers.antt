use Rattle.std.proofs.Common.{Some}
use Rattle.rexlive_cli.specs.Due.{IsDueFor}
use Rattle.rexlive_cli.proofs.Gives.{caused_for, complete_for, given_for}
use Rattle.rexlive_cli.proofs.running.play_input.Goals as goal

pub returns-in-Ok-clause-run : goal.returns-in-Ok-clause-run
returns-in-Ok-clause-run g c =
    given_for (g.S.Source.given c.args.source.now) (g.S.Source.given c.read_and_answer.new.source) (IsDueFor (Some c.args.recording)) c.in-Ok.answer (g.K.Sink.taken c.args.sink.now) (g.K.Sink.taken c.give.new.sink) c.give.result
    c.in-Ok.ensures.due c.give.ensures.gives

pub returns-in-Ok-clause-causes : goal.returns-in-Ok-clause-causes
returns-in-Ok-clause-causes g c below =
    caused_for (g.S.Source.given c.args.source.now) (g.S.Source.given c.read_and_answer.new.source) c.args.recording c.in-Ok.answer.status c.give.result (c.give.ensures.gives.exact below).0
    c.in-Ok.ensures.judges

pub returns-in-Ok-clause-complete : goal.returns-in-Ok-clause-complete
returns-in-Ok-clause-complete g c =
    complete_for (g.S.Source.given c.args.source.now) (g.S.Source.given c.read_and_answer.new.source) c.args.recording _ c.in-Ok.answer c.give.result (g.K.Sink.faults c.args.sink.now) (g.K.Sink.faults c.give.new.sink)
    c.in-Ok.ensures.judges c.give.ensures.ends
