use Rattle.std.proofs.Common.{sym, subst}
use Rattle.std.proofs.lemmas.Result.{IfOk-weaker}
use Rattle.rex_reduce.specs.Reduced.{AreLeast, FitPieces}
use Rattle.rex_reduce.proofs.Reduced.{reduced_least, reduced_fits}
use Rattle.rex_reduce.proofs.reduction.reduce.Goals as goal

pub returns-clause-least : goal.returns-clause-least
returns-clause-least c = IfOk-weaker c.causes_of_each.result _ _ (λ v is. subst (AreLeast c.args.events.now) (sym is) (reduced_least c.args.events.now c.requires.trace)) c.causes_of_each.ensures

pub returns-clause-fit : goal.returns-clause-fit
returns-clause-fit c = IfOk-weaker c.causes_of_each.result _ _ (λ v is. subst (FitPieces c.args.events.now) (sym is) (reduced_fits c.args.events.now c.requires.trace)) c.causes_of_each.ensures
