use Rattle.std.proofs.Common.{◌≡◌, subst}
use Rattle.std.specs.Prelude.{IfOk}
use Rattle.rex_reduce.specs.Reduced.{AreLeast}
use Rattle.rex_reduce.specs.Reduction.{reduced}
use Rattle.rex_tests.proofs.Boards.{is_trace, have_next, is_recording}
use Rattle.rex_tests.proofs.board.causes_of.Goals as goal

pub reduce-requires-clause-trace : goal.reduce-requires-clause-trace
reduce-requires-clause-trace g c = is_trace c.args.svc.now c.args.from.now c.args.events.now c.declarations-service.ensures.sound c.requires.sound c.requires.runs

pub reduce-requires-clause-room : goal.reduce-requires-clause-room
reduce-requires-clause-room g c = have_next c.args.events.now c.requires.counted

pub returns : goal.returns
returns g c =
    rw c.from_vec.ensures
    (is_recording c.args.svc.now c.args.from.now c.args.events.now c.declarations-service.ensures.sound c.requires.sound c.requires.runs c.expect.result.items c.requires.counted
    (subst (λ r. IfOk r (λ v. v.items ≡ reduced c.args.events.now)) c.expect.ensures c.reduce.ensures.is)
    (subst (λ r. IfOk r (λ v. AreLeast c.args.events.now v.items)) c.expect.ensures c.reduce.ensures.least))
