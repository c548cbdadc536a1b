use Rattle.std.proofs.Common.{ℕ, sym, subst}
use Rattle.rex_traits.specs.Growth.{ForGrowth}
use Rattle.rex_cli.specs.Causes.{IsCaused}
use Rattle.rex_cli.specs.Due.{due_for}
use Rattle.rex_cli.specs.Response.{due_of}
use Rattle.rex_cli.proofs.Caused.{caused_for, complete_for, given_for}
use Rattle.rex_cli.proofs.running.obey.Goals as goal

pub returns-in-Ok-clause-run : goal.returns-in-Ok-clause-run
returns-in-Ok-clause-run g c =
    given_for (g.S.Source.given c.args.source.now) (g.S.Source.given c.respond.new.source) (due_for c.args.command) (due_of c.in-Ok.response) (g.K.Sink.taken c.args.sink.now) (g.K.Sink.taken c.give.new.sink) c.give.result
    c.in-Ok.ensures.due c.give.ensures.gives

pub returns-in-Ok-clause-causes : goal.returns-in-Ok-clause-causes
returns-in-Ok-clause-causes g c below =
    subst (λ (status : ℕ). ForGrowth (g.S.Source.given c.args.source.now) (g.S.Source.given c.respond.new.source) (λ input. IsCaused c.args.command input status)) (sym (c.give.ensures.gives.exact below).0)
    (caused_for (g.S.Source.given c.args.source.now) (g.S.Source.given c.respond.new.source) c.args.command (due_of c.in-Ok.response).status c.in-Ok.ensures.judges)

pub returns-in-Ok-clause-complete : goal.returns-in-Ok-clause-complete
returns-in-Ok-clause-complete g c =
    complete_for _ (g.S.Source.given c.args.source.now) (g.S.Source.given c.respond.new.source) (due_for c.args.command) (due_of c.in-Ok.response) c.give.result (g.K.Sink.faults c.args.sink.now) (g.K.Sink.faults c.give.new.sink)
    c.in-Ok.ensures.due c.give.ensures.ends
