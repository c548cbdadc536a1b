use Rattle.rex_world.proofs.Common.{with_item, ◌-◌, ap, slice_set}
use Rattle.std.proofs.Common.{arith, rules}
use Rattle.std.proofs.lemmas.Grind.{common_steps}
use Rattle.rex_world.proofs.Arming.{arming_running, arming_world}
use Rattle.rex_world.proofs.world.World.keep_fail.Goals as goal

pub returns : goal.returns
returns g c = record {
  effects = grind (arith, common_steps);
  world = arming_world _ _ c.requires.running _ c.requires.fits _ (with_item c.args.self.now.nodes (c.args.node - 1) c.arm.new.self) _ c.index_mut.ensures.value _ c.fate_of.ensures (ap (λ x. slice_set c.args.self.now.nodes.items (c.args.node - 1) x) c.arm.ensures) c.requires.count;
  running = arming_running _ _ c.requires.running _ c.requires.fits _ _ _ c.index_mut.ensures.value _ c.fate_of.ensures (ap (λ x. slice_set c.args.self.now.nodes.items (c.args.node - 1) x) c.arm.ensures) c.requires.count;
  same = search rules;
}
