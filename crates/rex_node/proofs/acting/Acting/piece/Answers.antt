use Rattle.rex_node.proofs.Common.{ap, ◌∙◌}
use Rattle.rex_node.proofs.Proposing.{trace_cut}
use Rattle.rex_node.proofs.acting.Acting.piece.Goals as goal

pub greatest-requires : goal.greatest-requires
greatest-requires c =
    trace_cut c.args.self.now c.requires.recorder _
    (c.trace.ensures ∙ ap (λ x. x.recorder.live) c.self.view_is) (c.deref.ensures.value ∙ c.in_ok-counts.ensures) c.declarations-service.ensures.sound c.requires.limits
