use Rattle.rex_order.proofs.Edges.{edges_allow_extensions}
use Rattle.rex_order.proofs.laws.edges_allow_extensions.Goals as goal

pub returns : goal.returns
returns c = λ counts es causes cut numbered right consistent. edges_allow_extensions counts es causes cut numbered right consistent
