use Rattle.rex_node.proofs.Common.{subst, ◌∙◌, arith, behind_of, delta_in}
use Rattle.rex_wire.specs.Decoding.{Fails}
use Rattle.rex_node.proofs.Alone.{appended, none_appended, value_counted}
use Rattle.rex_node.proofs.values.append_value.Goals as goal

pub returns-in-Ok : goal.returns-in-Ok
returns-in-Ok c = record {
  events = appended _ _ c.in-Ok.ensures.exact;
  counted = value_counted _ (λ i. omega (arith, c.type_inv.value i));
}

pub returns-in-Err-OutOfMemory-clause-counted : goal.returns-in-Err-OutOfMemory-clause-counted
returns-in-Err-OutOfMemory-clause-counted c = value_counted _ (λ i. omega (arith, c.type_inv.value i))

pub returns-in-Err-Bad : goal.returns-in-Err-Bad
returns-in-Err-Bad c = record {
  events =
      c.in-Err-Bad.ensures.err
      ∙ none_appended c.in-Err-Bad.field-0-0 (delta_in c.args.value.now)
      (subst (λ e. Fails e (behind_of c.args.events.now.items (delta_in c.args.value.now))) c.in-Err-Bad.field-0-is c.in-Err-Bad.ensures.exact);
  counted = value_counted _ (λ i. omega (arith, c.type_inv.value i));
}
