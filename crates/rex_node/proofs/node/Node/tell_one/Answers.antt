use Rattle.rex_node.proofs.Common.{◌≡◌, ◌+◌, ◌-◌, Some, sym, ap, subst, ◌∙◌, arith, OnOk, slice_get, Looks, count_of, Sends, answering}
use Rattle.rex_msg.specs.declared.message.Content.TheVariants as sent
use Rattle.rex_node.proofs.Knows.{many_known, must_hold, value_at}
use Rattle.rex_node.proofs.node.Node.tell_one.Goals as goal

pub overflow_add-instance : goal.overflow_add-instance
overflow_add-instance g c = omega (arith, c.requires.few, c.requires.there)

pub unreachable-requires : goal.unreachable-requires
unreachable-requires g c =
    must_hold c.self.inside.known c.get.result c.get.ensures
    (omega (arith, c.requires.held, ap (λ x. x.offset) c.self.view_is))
    (omega (arith, c.requires.there, many_known g.P.Past.past c.args.self.now, ap (λ x. count_of x) c.self.view_is))
    c.in_default.not-Value

pub returns : goal.returns
returns g c =
    let found = (subst (Looks c.self.inside.known (c.args.place + 1)) c.in-Value.is c.get.ensures).1 in
    let held = subst (λ x. slice_get x.known (c.args.place + 1 - x.offset - 1) ≡ Some c.in-Value.value.now) c.self.view_is found in
    let value = c.in_ok-value.ensures ∙ sym (value_at g.P.Past.past c.args.self.now c.requires.held held) in
    subst (λ v. OnOk c.send.result (Sends c.args.draft.now c.send.new.self (answering c.args.self.now.id c.args.to (sent.Chosen (c.args.place + 1) v)))) value
    (subst (λ x. OnOk c.send.result (Sends c.args.draft.now c.send.new.self (answering x.id c.args.to (sent.Chosen (c.args.place + 1) c.in_ok-value.value)))) c.self.view_is c.send.ensures)
