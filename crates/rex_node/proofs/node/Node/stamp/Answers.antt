use Rattle.rex_node.proofs.Common.{◌≡◌, sym, ap, subst, ◌∙◌, last_held}
use Rattle.std.proofs.Common.{IfOk}
use Rattle.rex_node.proofs.Admitted.{stamp_held}
use Rattle.rex_node.proofs.Knows.{held_are}
use Rattle.rex_node.proofs.node.Node.stamp.Goals as goal

pub returns-in-0-clause-active : goal.returns-in-0-clause-active
returns-in-0-clause-active g c = λ up leads.
    subst (λ k. IfOk c.last_held.result (λ stamp. stamp ≡ k))
    (ap (λ x. last_held x.offset x.known c.args.client) c.self.view_is
    ∙ ap (λ vs. last_held c.args.self.now.offset vs c.args.client) (sym (held_are g.P.Past.past c.args.self.now))
    ∙ stamp_held c.requires.node up (ap (λ x. x.acting) (sym c.self.view_is) ∙ c.in-Some.is) c.requires.client)
    c.last_held.ensures
