use Rattle.std.proofs.Common.{ap}
use Rattle.rex_lead.proofs.doing.do_line.Goals as goal

pub returns-clause-did : goal.returns-clause-did
returns-clause-did g c = record { world = c.in_ok-step.ensures.world; running = c.in_ok-step.ensures.running; same = c.in_ok-step.ensures.same }

pub returns-clause-done : goal.returns-clause-done
returns-clause-done g c = ap (λ w. w.done) c.in_ok-step.ensures.world
