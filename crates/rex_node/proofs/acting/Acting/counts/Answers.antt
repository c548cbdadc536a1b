use Rattle.rex_node.proofs.Common.{ap, sym, ◌∙◌, length, counts_of}
use Rattle.rex_node.proofs.Proposing.{lasts_long}
use Rattle.rex_node.proofs.acting.Acting.counts.Goals as goal

pub limits_between-requires-clause-lasts : goal.limits_between-requires-clause-lasts
limits_between-requires-clause-lasts c =
    ap length (c.deref-in-Some.ensures.value ∙ c.in_ok-lasts-in-Some.ensures ∙ ap counts_of (c.state-in-Some.ensures ∙ ap (λ x. x.recorder.state) c.self.view_is))
    ∙ lasts_long c.args.self.now c.requires.recorder ∙ sym (rw c.in-Some.is at c.requires.limits)
