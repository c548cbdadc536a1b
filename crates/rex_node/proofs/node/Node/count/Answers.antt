use Rattle.rex_node.proofs.Common.{sym, ap, ◌∙◌, count_of}
use Rattle.rex_node.proofs.Knows.{many_known}
use Rattle.rex_node.proofs.node.Node.count.Goals as goal

pub returns-clause-known : goal.returns-clause-known
returns-clause-known g c = c.known.ensures.known ∙ ap (λ x. count_of x) c.self.view_is ∙ sym (many_known g.P.Past.past c.args.self.now)
