use Rattle.std.proofs.Common.{◌≡◌, ◌-◌, length, Some, sym, ◌∙◌, refl, arith}
use Rattle.std.specs.Prelude.{slice_get}
use Rattle.std.proofs.lemmas.Option.{slice_get_read}
use Rattle.rex_syntax.specs.Flow.{entry}
use Rattle.rex_syntax.specs.Held.{held_after}
use Rattle.rex_syntax.proofs.Traced.{forks_by, branch_held, before_held}
use Rattle.rex_syntax.proofs.held.+held_at.Goals as goal

pub fork_of-requires-clause-forks : goal.fork_of-requires-clause-forks
fork_of-requires-clause-forks t c =
    let e : slice_get c.args.lines.now (c.args.place - 1) ≡ Some c.index-lines-place.result = slice_get_read c.args.lines.now (length c.args.lines.now) (c.args.place - 1) _ refl (omega (arith, c.requires.there)) c.index-lines-place.is in
    forks_by c.args.lines.now c.args.place _ c.requires.traceable (omega (arith, c.if-place-eq0.false)) e (sym c.is_divider.ensures ∙ c.if-is_divider.true)

pub returns-then-is_divider : goal.returns-then-is_divider
returns-then-is_divider t c = λ service flow right.
    branch_held service c.args.lines.now flow right c.args.place c.fork_of.result c.held_at.result (omega (arith, c.fork_of.ensures.earlier, c.requires.there)) c.fork_of.ensures.forks (c.held_at.ensures service flow right)

pub returns-else-is_divider : goal.returns-else-is_divider
returns-else-is_divider t c = λ service flow right.
    let e : slice_get c.args.lines.now (c.args.place - 1) ≡ Some c.index-lines-place.result = slice_get_read c.args.lines.now (length c.args.lines.now) (c.args.place - 1) _ refl (omega (arith, c.requires.there)) c.index-lines-place.is in
    let k : entry flow c.args.place ≡ Some (held_after c.index-lines-place.result c.held_at-else-is_divider.result) =
    before_held service c.args.lines.now flow right c.args.place _ _ c.requires.traceable (omega (arith, c.if-place-eq0.false)) c.requires.there e (sym c.is_divider.ensures ∙ c.if-is_divider.false) (c.held_at-else-is_divider.ensures service flow right) in
    rw c.held_after.ensures k
