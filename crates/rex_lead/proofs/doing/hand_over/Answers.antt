use Rattle.std.proofs.Common.{sym, ◌∙◌}
use Rattle.rex_lead.proofs.Doings.{took}
use Rattle.rex_lead.proofs.doing.hand_over.Goals as goal

pub returns-clause-did : goal.returns-clause-did
returns-clause-did c =
    took c.args.svc.now c.args.world.now c.take_block-taken.new.self c.args.block.now c.take_block-taken.result (sym c.broken.ensures ∙ c.if-broken.false) c.take_block-taken.ensures.handed c.take_block-taken.ensures.world
