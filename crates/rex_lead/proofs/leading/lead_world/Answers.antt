use Rattle.std.proofs.Common.{◌++◌, ap, arith}
use Rattle.rex_cluster.specs.World.{World as ModelWorld}
use Rattle.rex_steady.specs.Schedule.{agreements, election, replays}
use Rattle.rex_lead.specs.Lead.{blocks_of}
use Rattle.rex_lead.proofs.Blocks.{few_blocks}
use Rattle.rex_lead.proofs.Doings.{did_both}
use Rattle.rex_lead.proofs.Next.{is_elected}
use Rattle.rex_lead.proofs.leading.lead_world.Goals as goal

pub agree_on_all-requires-clause-elected : goal.agree_on_all-requires-clause-elected
agree_on_all-requires-clause-elected g c κs within = is_elected c.args.svc.now c.args.world c.elect.new.world c.args.nodes c.requires.fresh c.requires.nodes c.in_ok-elect.ensures.did

pub agree_on_all-requires-clause-count : goal.agree_on_all-requires-clause-count
agree_on_all-requires-clause-count g c κs within = omega (arith, c.in_ok-elect.ensures.done, ap (λ (w : ModelWorld). w.done) c.requires.fresh, few_blocks c.args.history.now c.requires.led.few)

pub replay-requires-clause-count : goal.replay-requires-clause-count
replay-requires-clause-count g c = omega (arith, c.in_ok-agreed.ensures.done, c.in_ok-elect.ensures.done, ap (λ (w : ModelWorld). w.done) c.requires.fresh, few_blocks c.args.history.now c.requires.led.few, c.ranges.nodes.fits)

pub returns : goal.returns
returns g c =
    did_both c.args.svc.now c.args.world c.elect.new.world c.replay.new.world election (agreements (blocks_of c.args.history.now) ++ replays c.args.nodes) c.in_ok-elect.ensures.did
    (did_both c.args.svc.now c.elect.new.world c.in_ok-agreed.agreed.0 c.replay.new.world (agreements (blocks_of c.args.history.now)) (replays c.args.nodes) c.in_ok-agreed.ensures.did c.in_ok-replay.ensures.did)
