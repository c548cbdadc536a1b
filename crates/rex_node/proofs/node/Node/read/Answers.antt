use Rattle.rex_node.proofs.Common.{w64, ap, sym, ◌∙◌, to_z-of_z, answered, value_in, state_of}
use Rattle.std.proofs.Common.{SFits, rules}
use Rattle.rex_reads.specs.Reads.{seen_after}
use Rattle.rex_node.proofs.Admitted.{read_is}
use Rattle.rex_node.proofs.node.Node.read.Goals as goal

pub returns-clause-answer : goal.returns-clause-answer
returns-clause-answer g c =
    let small : SFits w64 c.value_in-value.result = search rules in
    c.admitted.ensures.answer
    ∙ ap (λ v. answered c.self.inside.up c.is_active-leads.result c.self.inside.replayed v c.args.seen.now) (to_z-of_z w64 c.value_in-value.result small)
    ∙ ap (λ x. answered x.up c.is_active-leads.result x.replayed c.value_in-value.result c.args.seen.now) c.self.view_is
    ∙ read_is c.requires.node _ _
    (c.is_active-leads.ensures)
    (c.value_in-value.ensures ∙ ap (λ s. value_in s c.args.variable) (c.ahead_of.ensures ∙ ap (λ x. state_of x) c.self.view_is))

pub returns-clause-seen : goal.returns-clause-seen
returns-clause-seen g c = c.admitted.ensures.seen ∙ ap (λ r. seen_after c.args.seen.now r) (sym c.admitted.ensures.answer)
