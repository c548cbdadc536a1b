use Rattle.rex_order.proofs.Edges.{deltas_allow_extensions}
use Rattle.rex_order.proofs.laws.deltas_allow_extensions.Goals as goal

pub returns : goal.returns
returns c = λ counts deltas cut numbered right consistent. deltas_allow_extensions counts deltas cut numbered right consistent
