use Rattle.rex_world.proofs.Common.{ap, length, refl, ◌∙◌}
use Rattle.rex_world.proofs.Serving.{came, can_be_told, own_old, records_old, start_through, starts_old}
use Rattle.rex_world.proofs.Stepping.{on_ok}
use Rattle.rex_world.proofs.world.World.start.Goals as goal

pub start_at-requires : goal.start_at-requires
start_at-requires g c = record {
  member = own_old _ _ c.requires.running _ c.requires.there c.index_mut.ensures.value;
  runs = starts_old _ _ c.requires.running _ c.requires.there c.index_mut.ensures.value;
}

pub settle-requires : goal.settle-requires
settle-requires g c =
    can_be_told _ _ c.requires.running _ c.requires.there c.index_mut.ensures.value _ refl
    (start_through _ _ c.requires.running _ c.requires.there c.index_mut.ensures.value c.in_ok-step.ensures)

pub returns : goal.returns
returns g c = record {
  comes =
      on_ok c.settle.result
      (λ t. came c.args.svc.now c.args.self.now c.requires.running c.args.node c.requires.there c.index_mut.ensures.value _ refl
      (start_through c.args.svc.now c.args.self.now c.requires.running c.args.node c.requires.there c.index_mut.ensures.value c.in_ok-step.ensures)
      (records_old c.args.svc.now c.args.self.now c.requires.running c.args.node c.requires.there c.index.ensures (c.len-count.ensures ∙ ap (λ k. length k.records) c.keeper.ensures)) t)
      c.settle.ensures;
}
