use Rattle.std.proofs.lemmas.Result.{on_ok_weaker}
use Rattle.rex_steady.specs.Schedule.{agreement, takes}
use Rattle.rex_lead.proofs.Doings.{did_both}
use Rattle.rex_lead.proofs.leading.agree_on.Goals as goal

pub returns-clause-did : goal.returns-clause-did
returns-clause-did c =
    on_ok_weaker c.agree.result (λ h. did_both c.args.svc.now c.args.world.now c.hand_over.new.world c.agree.new.world (takes c.args.block.now) agreement c.in_ok-hand_over.ensures.did h) c.agree.ensures.did
