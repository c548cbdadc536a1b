use Rattle.rex_world.proofs.Common.{ap, length, refl, ◌∙◌}
use Rattle.rex_world.proofs.Serving.{call_through, came, can_be_told, may_serve, own_old, records_old, room_old}
use Rattle.rex_world.proofs.Stepping.{on_ok}
use Rattle.rex_world.proofs.world.World.call.Goals as goal

pub serve-requires-clause-node : goal.serve-requires-clause-node
serve-requires-clause-node g c = (own_old _ _ c.requires.running _ c.requires.there c.index_mut.ensures.value).node

pub serve-requires-clause-may : goal.serve-requires-clause-may
serve-requires-clause-may g c = may_serve _ _ c.requires.running _ c.requires.there c.index_mut.ensures.value _ c.requires.may

pub serve-requires-clause-count : goal.serve-requires-clause-count
serve-requires-clause-count g c = room_old _ _ c.requires.running _ c.requires.there c.index_mut.ensures.value

pub settle-requires : goal.settle-requires
settle-requires g c =
    can_be_told _ _ c.requires.running _ c.requires.there c.index_mut.ensures.value _ refl
    (call_through _ _ c.requires.running _ c.requires.there c.index_mut.ensures.value _ c.requires.may c.in_ok-step.ensures.serves c.in_ok-step.ensures.kept)

pub returns : goal.returns
returns g c = record {
  comes =
      on_ok c.settle.result
      (λ t. came c.args.svc.now c.args.self.now c.requires.running c.args.node c.requires.there c.index_mut.ensures.value _ refl
      (call_through c.args.svc.now c.args.self.now c.requires.running c.args.node c.requires.there c.index_mut.ensures.value c.args.call.now c.requires.may c.in_ok-step.ensures.serves c.in_ok-step.ensures.kept)
      (records_old c.args.svc.now c.args.self.now c.requires.running c.args.node c.requires.there c.index.ensures (c.len-count.ensures ∙ ap (λ k. length k.records) c.keeper.ensures)) t)
      c.settle.ensures;
}
