use Rattle.rex_order.proofs.Extensions.{cuts_run_alike}
use Rattle.rex_order.proofs.laws.cuts_run_alike.Goals as goal

pub returns : goal.returns
returns c = λ service s t es cut good sound runs consistent. cuts_run_alike service s t es cut good sound runs consistent
