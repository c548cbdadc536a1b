use Rattle.rex_world.proofs.Common.{with_item, ◌-◌, refl, sym, subst, ◌∙◌}
use Rattle.rex_world.specs.Taking.{LeadsOn}
use Rattle.rex_world.proofs.Blocks.{block_running, block_world}
use Rattle.rex_world.proofs.Given.{given_left}
use Rattle.rex_world.proofs.Serving.{here_old, own_old, still_own}
use Rattle.rex_world.proofs.world.World.take_block.Goals as goal

pub take_block_at-taken-requires : goal.take_block_at-taken-requires
take_block_at-taken-requires g c =
    let at = c.requires in
    record {
      member = own_old _ _ at.running _ at.there c.index_mut-member.ensures.value;
      runs = subst (λ x. LeadsOn c.args.svc.now x c.args.events.now c.args.state) (here_old _ _ at.running _ at.there c.index_mut-member.ensures.value) c.requires.runs;
      counted = c.requires.counted;
    }

pub returns : goal.returns
returns g c =
    let at = c.requires in
    let taken = c.take_block_at-taken in
    let nodes = with_item c.args.self.now.nodes (c.args.node - 1) taken.new.node in
    let stays = still_own _ _ at.running _ at.there c.index_mut-member.ensures.value taken.ensures.stays in
    record {
      handed = given_left at.running at.there nodes c.index_mut-member.ensures.value refl stays taken.result taken.ensures.handed.refused taken.ensures.handed.same
          (λ whole. c.is_short-self.ensures.whole whole ∙ sym at.running.whole) c.is_short-self.ensures.short
          (block_running at.running at.there nodes c.index_mut-member.ensures.value refl stays _ c.requires.begins _ taken.ensures.handed);
      world = block_world at.running at.there nodes c.index_mut-member.ensures.value refl stays _ c.is_short-self.result taken.result taken.ensures.handed;
    }
