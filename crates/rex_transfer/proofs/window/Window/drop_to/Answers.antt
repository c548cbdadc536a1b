use Rattle.std.proofs.Common.{rules, length, ◌≡◌, ◌≤◌, ◌∙◌, ◌++◌, ap, sym, subst}
use Rattle.std.specs.Prelude.{◌-◌, ℕ, take, drop}
use Rattle.rex_transfer.specs.Window.{IsWindow, WindowValue, known_of}
use Rattle.rex_transfer.proofs.Deltas.{drops}
use Rattle.rex_transfer.proofs.window.Window.drop_to.Goals as goal

pub invariant_of-self : goal.invariant_of-self
invariant_of-self c =
    let w : WindowValue = record { offset = c.self.inside.offset; values = c.self.inside.values.items } in
    let gone : ℕ = c.args.instance - w.offset in
    let left : c.truncate.new.self.items ≡ take (c.len.result - gone) (drop gone w.values ++ take gone w.values) = c.truncate.ensures.items ∙ ap (take (c.len.result - gone)) c.rotate_left.ensures.items in
    let many : c.len.result ≡ length w.values = search rules in
    subst (λ n. IsWindow (record { offset = c.args.instance; values = c.truncate.new.self.items }) n) (sym c.saturating_sub-self-inside.ensures)
    (drops w c.self.inside.checked c.args.instance c.truncate.new.self.items
    (subst (λ (v : WindowValue). v.offset ≤ c.args.instance) (sym c.self.view_is) c.requires.from)
    (subst (λ (v : WindowValue). c.args.instance ≤ known_of v) (sym c.self.view_is) c.requires.to)
    c.self.invariant
    (left ∙ ap (λ n. take (n - gone) (drop gone w.values ++ take gone w.values)) many))
