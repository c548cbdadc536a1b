use Rattle.std.proofs.Common.{◌≡◌, List, IfOk, subst, arith}
use Rattle.rex_event.specs.declared.delta.Cause.{Cause}
use Rattle.rex_reduce.proofs.Beyond.{none_alone}
use Rattle.rex_reduce.proofs.reduction.causes_of_each.Goals as goal

pub returns-in-1 : goal.returns-in-1
returns-in-1 c =
    subst (λ (causes : List (List Cause)). IfOk c.no_causes.result (λ v. v.items ≡ causes)) (none_alone c.args.events.now (omega (arith, c.in-1.is))) c.no_causes.ensures
