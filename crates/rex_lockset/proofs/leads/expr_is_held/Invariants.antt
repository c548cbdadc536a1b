use Rattle.std.proofs.Common.{◌≡◌, true, take}
use Rattle.std.specs.List.{list_all}
use Rattle.rex_syntax.specs.Leads.{operand_is_held}
use Rattle.rex_lockset.proofs.leads.expr_is_held.Given as goal

abbrev pub invariant-loop-term : goal.invariant-loop-term
invariant-loop-term l = list_all (λ t. operand_is_held l.service l.held t.operand) (take l.term-index l.expr.rest) ≡ true
