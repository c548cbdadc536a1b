use Rattle.rex_node.proofs.Common.{ap, arith, count_of}
use Rattle.rex_node.proofs.Knows.{many_known}
use Rattle.rex_node.proofs.node.Node.chosen.Goals as goal

pub push-requires-clause-room : goal.push-requires-clause-room
push-requires-clause-room g c = omega (arith, c.requires.room, many_known g.P.Past.past c.args.self.now, ap (λ x. count_of x) c.self.view_is)
