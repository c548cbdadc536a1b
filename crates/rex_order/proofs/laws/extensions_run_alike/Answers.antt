use Rattle.rex_order.proofs.Extensions.{extensions_run_alike}
use Rattle.rex_order.proofs.laws.extensions_run_alike.Goals as goal

pub returns : goal.returns
returns c = λ service s t es fs good sound runs extension. extensions_run_alike service s t es fs good sound runs extension
