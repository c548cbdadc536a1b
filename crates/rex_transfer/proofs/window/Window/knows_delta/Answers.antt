use Rattle.std.proofs.Common.{◌<◌, ◌≡◌, ◌∙◌, Some, arith, subst, sym}
use Rattle.std.specs.Prelude.{◌-◌, slice_get}
use Rattle.std.specs.Cmp.Lexicographic.{same_text}
use Rattle.rex_transfer.specs.Window.{SpellsDelta, WindowValue}
use Rattle.rex_transfer.proofs.Deltas.{held_delta}
use Rattle.rex_transfer.proofs.window.Window.knows_delta.Goals as goal

pub returns-then-instance-checked : goal.returns-then-instance-checked
returns-then-instance-checked c = λ same.
    let w : WindowValue = record { offset = c.self.inside.offset; values = c.self.inside.values.items } in
    let most = c.if-instance-checked.true in
    let least = subst (λ (v : WindowValue). v.offset < c.args.instance) (sym c.self.view_is) c.in-Value.ensures.0 in
    let stands = subst (λ (v : WindowValue). slice_get v.values (c.args.instance - v.offset - 1) ≡ Some c.in-Value.held.now) (sym c.self.view_is) c.in-Value.ensures.1 in
    subst SpellsDelta (same_text c.in-Value.held.now c.args.value.now (sym same ∙ c.eq.ensures))
    (held_delta w.values c.self.inside.checked (c.args.instance - w.offset - 1) c.in-Value.held.now c.self.invariant.there c.self.invariant.deltas (omega (arith, least, most)) stands)
