use Rattle.rex_world.proofs.Common.{◌≤◌, length, sym, subst}
use Rattle.rex_world.proofs.Agreeing.{agreed_few}
use Rattle.rex_world.proofs.world.World.push_trace.Goals as goal

pub push_values-requires : goal.push_values-requires
push_values-requires g c =
    subst (λ vs. length vs ≤ 65535) (sym (c.agreed.ensures c.args.svc.now c.requires)) (agreed_few c.requires)
