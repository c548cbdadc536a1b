use Rattle.std.proofs.Common.{rules, ◌≡◌, ◌≢◌, ◌<◌, ◌∷◌, ◌∙◌, ℕ, List, get_or, ap, sym, arith}
use Rattle.rex_wal.proofs.Spelling.{mark_back}
use Rattle.rex_wal.proofs.spell.first_of.Goals as goal

pub returns : goal.returns
returns c =
    let first = c.in-Some.field-0-0.now in
    let is : c.args.bytes.now ≡ first ∷ c.in-Some.behind.now = search rules in
    let some : first ≢ 0 = search rules in
    let low : first ≢ 255 = search rules in
    let byte : first < 256 = (let here : first ≡ get_or c.args.bytes.now 0 0 = ap (λ (xs : List ℕ). get_or xs 0 0) (sym is) in omega (arith, here, c.type_inv.bytes 0)) in
    (is ∙ mark_back first c.in-Some.behind.now some low byte, omega (arith, byte))
