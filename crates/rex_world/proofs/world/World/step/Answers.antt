use Rattle.rex_world.proofs.Common.{sym, subst}
use Rattle.rex_world.specs.Calls.{EndsRow, GoesOn}
use Rattle.rex_world.specs.Kept.{CanDo}
use Rattle.std.proofs.Common.{rules}
use Rattle.rex_world.proofs.Arming.{counted_running}
use Rattle.rex_world.proofs.world.World.step.Goals as goal

pub act-requires-clause-can : goal.act-requires-clause-can
act-requires-clause-can g c = record { running = c.requires.running; fits = c.requires.fits; form = c.requires.form; count = c.requires.count }

pub keep_fail-requires : goal.keep_fail-requires
keep_fail-requires g c =
    subst (CanDo c.args.svc.now c.args.self.now) c.in-KeepFail.is (record { running = c.requires.running; fits = c.requires.fits; form = c.requires.form; count = c.requires.count })

pub returns-in-KeepFail : goal.returns-in-KeepFail
returns-in-KeepFail g c = subst (λ l. EndsRow c.args.svc.now c.args.self.now c.keep_fail.new.self l c.keep_fail.result) (sym c.in-KeepFail.is) c.keep_fail.ensures

pub returns : goal.returns
returns g c =
    let goes : GoesOn c.args.svc.now c.args.self.now c.act.new.self = search rules in
    record { effects = search rules; world = search rules; running = counted_running goes.running; same = record { nodes = goes.same.nodes; requests = goes.same.requests; seed = goes.same.seed } }
