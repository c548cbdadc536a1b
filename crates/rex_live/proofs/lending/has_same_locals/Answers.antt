use Rattle.std.proofs.Common.{List, ap, sym, ◌∙◌}
use Rattle.std.specs.Prelude.{ℤ}
use Rattle.std.specs.Cmp.Rules.{signed_items}
use Rattle.arrayvec.specs.ArrayVec.{ArrayVec}
use Rattle.rex_live.proofs.lending.has_same_locals.Goals as goal

pub returns : goal.returns
returns c = λ h.
    ap (λ (xs : List ℤ). let v : ArrayVec ℤ = record { items = xs } in v)
    ((signed_items c.args.frame.now.locals.items c.args.other.now.locals.items).0 (rw (sym c.as_slice.ensures.value, sym c.as_slice-2.ensures.value) (sym c.eq.ensures ∙ h)))
