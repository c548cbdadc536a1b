use Rattle.std.proofs.Common.{◌≡◌, IfOk, subst}
use Rattle.rex_cluster.specs.World.{World as ModelWorld}
use Rattle.rex_lead.specs.Lead.{blocks_of, world_text}
use Rattle.rex_lead.proofs.Next.{led_is}
use Rattle.rex_lead.proofs.leading.lead.Goals as goal

pub returns-clause-text : goal.returns-clause-text
returns-clause-text g c =
    subst (λ (w : ModelWorld). IfOk c.text_of.result (λ text. text.items ≡ world_text c.args.svc.now w))
    (led_is c.args.svc.now c.in_ok-world.world c.in_ok-world-2.world c.args.scenario.now.requests c.args.scenario.now.seed c.args.scenario.now.nodes (blocks_of c.args.history.now)
    c.in_ok-world.ensures.world c.in_ok-world.ensures.requests c.in_ok-world.ensures.seed c.in_ok-world.ensures.nodes c.in_ok-world-2.ensures)
    c.text_of.ensures
