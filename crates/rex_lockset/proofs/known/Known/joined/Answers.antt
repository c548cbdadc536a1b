use Rattle.std.proofs.Common.{◌≡◌, refl, ◌∙◌, true, false}
use Rattle.rex_lockset.specs.Known.{is_same}
use Rattle.rex_lockset.proofs.Same.{is_same_as}
use Rattle.rex_lockset.proofs.known.Known.joined.Goals as goal

pub returns-then-is_same : goal.returns-then-is_same
returns-then-is_same c =
    let e : is_same c.in-Held.before c.args.held ≡ true = is_same_as c.in-Held.before c.args.held c.is_same.result c.is_same.ensures ∙ c.if-is_same.true in
    rw (c.in-Held.is, e) refl

pub returns-else-is_same : goal.returns-else-is_same
returns-else-is_same c =
    let e : is_same c.in-Held.before c.args.held ≡ false = is_same_as c.in-Held.before c.args.held c.is_same.result c.is_same.ensures ∙ c.if-is_same.false in
    rw (c.in-Held.is, e) refl
