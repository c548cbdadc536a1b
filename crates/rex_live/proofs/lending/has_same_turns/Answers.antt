use Rattle.std.proofs.Common.{◌≡◌, List, true, refl, ap, sym, subst, eq-eqb}
use Rattle.std.specs.Prelude.{nat_eq, ◌&&◌}
use Rattle.std.proofs.lemmas.Bool.{and_parts, and_from, eqb-true}
use Rattle.std.proofs.lemmas.Slice.Eq.{slice_eq-Decides}
use Rattle.arrayvec.specs.ArrayVec.{ArrayVec}
use Rattle.rex_frame.specs.declared.frame.Turn.{Turn}
use Rattle.rex_live.proofs.lending.has_same_turns.Goals as goal

abbrev turn_same : (a b : Turn) → (nat_eq a.body b.body && nat_eq a.left b.left) ≡ true → a ≡ b
turn_same a b h = let q = and_parts _ _ h in λ i. record { body = eqb-true a.body b.body q.0 i; left = eqb-true a.left b.left q.1 i }

pub returns : goal.returns
returns c = λ h.
    ap (λ (xs : List Turn). let v : ArrayVec Turn = record { items = xs } in v)
    ((slice_eq-Decides (λ a b. (turn_same a b, λ e. subst (λ (x : Turn). (nat_eq a.body x.body && nat_eq a.left x.left) ≡ true) e (and_from _ _ (eq-eqb a.body a.body refl) (eq-eqb a.left a.left refl))))
    c.args.frame.now.turns.items c.args.other.now.turns.items c.eq.result (rw (sym c.as_slice.ensures.value, sym c.as_slice-2.ensures.value) c.eq.ensures)).0 h)
