-- The definitions at work: orders that a small trace allows, and one that it doesn't.
use Rattle.std.proofs.Common.{◌≡◌, ◌⊎◌, inl, inr, ℕ, true, false, List, [], ◌∷◌, ◌++◌, refl, sym, ap, ◌∙◌, subst, arith}
use Rattle.std.proofs.lemmas.Bool.{true≢false}
use Rattle.std.proofs.lemmas.List.Sorted.{IsPermutation-middle}
use Rattle.rex_event.specs.declared.event.Event.{Event}
use Rattle.rex_event.specs.declared.event.Kind.TheVariants.{AcqEx, RelEx}
use Rattle.rex_event.specs.Conflict.{conflict}
use Rattle.rex_event.specs.Order.{Has, Precedes, ConflictsBefore}
use Rattle.rex_event.specs.Cuts.{AreNumbered}
use Rattle.rex_reduce.specs.Reduction.{reduced}
use Rattle.rex_cut.specs.Traces.{at, begin, locked}
use Rattle.rex_clocks.proofs.Leads.{has_right, precedes_across, precedes_left}
use Rattle.rex_order.specs.Extensions.{IsLinearExtension}
use Rattle.rex_order.specs.Enabled.{IsEnabledAt}
use Rattle.rex_order.proofs.Lists.{chain_forward, precedes_right, precedes_parts}
use Rattle.rex_order.proofs.Numbered.{numbered_alike}

-- an event may go before those with which it doesn't conflict
moved_first : (counts : List ℕ) (ps qs : List Event) (f : Event) → AreNumbered counts (ps ++ f ∷ qs) → ((p : Event) → Has p ps → conflict p f ≡ false) → IsLinearExtension (ps ++ f ∷ qs) (f ∷ (ps ++ qs))
moved_first counts ps qs f n apart = record {
  rearranged = IsPermutation-middle ps f qs;
  kept = λ d e o. chain_forward (ConflictsBefore (ps ++ f ∷ qs)) (f ∷ (ps ++ qs)) d e o.0 (numbered_alike counts (ps ++ f ∷ qs) (f ∷ (ps ++ qs)) n (IsPermutation-middle ps f qs)).other
      (λ x y k. by x y k.meets (precedes_parts ps (f ∷ qs) x y k.before)) o.1;
}
  where
    by : (x y : Event) → conflict x y ≡ true → Precedes x y ps ⊎ ((Has x ps × Has y (f ∷ qs)) ⊎ Precedes x y (f ∷ qs)) → Precedes x y (f ∷ (ps ++ qs))
    by x y c (inl b) = inr (precedes_left x y ps qs b)
    by x y c (inr (inl (h, inl e))) = absurd (true≢false (sym (subst (λ (z : Event). conflict x z ≡ true) (sym e) c) ∙ apart x h))
    by x y c (inr (inl (h, inr k))) = inr (precedes_across x y ps qs h k)
    by x y c (inr (inr (inl b))) = inl (b.0, has_right y ps qs b.1)
    by x y c (inr (inr (inr b))) = inr (precedes_right ps qs x y b)

-- the second lane may begin before the first
begins_first : IsLinearExtension locked (at 1 0 (begin 2) ∷ at 0 0 (begin 1) ∷ at 0 1 (AcqEx 0) ∷ at 0 2 (RelEx 0) ∷ at 1 1 (AcqEx 0) ∷ [])
begins_first = moved_first (0 ∷ 0 ∷ []) (at 0 0 (begin 1) ∷ at 0 1 (AcqEx 0) ∷ []) (at 0 2 (RelEx 0) ∷ at 1 1 (AcqEx 0) ∷ []) (at 1 0 (begin 2)) numbered apart
  where
    numbered : AreNumbered (0 ∷ 0 ∷ []) locked
    numbered = (omega arith, refl, (omega arith, refl, (omega arith, refl, (omega arith, refl, (omega arith, refl, tt)))))

    apart : (p : Event) → Has p (at 0 0 (begin 1) ∷ at 0 1 (AcqEx 0) ∷ []) → conflict p (at 1 0 (begin 2)) ≡ false
    apart p (inl e) = ap (λ (z : Event). conflict z (at 1 0 (begin 2))) (sym e)
    apart p (inr (inl e)) = ap (λ (z : Event). conflict z (at 1 0 (begin 2))) (sym e)
    apart p (inr (inr h)) = absurd h

-- but not take the lock before the first gives it up
not_yet : IsLinearExtension locked (at 0 0 (begin 1) ∷ at 0 1 (AcqEx 0) ∷ at 1 0 (begin 2) ∷ at 1 1 (AcqEx 0) ∷ at 0 2 (RelEx 0) ∷ []) → ⊥
not_yet x = no (x.kept (at 0 2 (RelEx 0)) (at 1 1 (AcqEx 0)) ([], record { before = inr (inr (inr (inl (refl, inl refl)))); meets = refl }))
  where
    no : Precedes (at 0 2 (RelEx 0)) (at 1 1 (AcqEx 0)) (at 0 0 (begin 1) ∷ at 0 1 (AcqEx 0) ∷ at 1 0 (begin 2) ∷ at 1 1 (AcqEx 0) ∷ at 0 2 (RelEx 0) ∷ []) → ⊥
    no (inl h) = absurd (let i : 0 ≡ 2 = ap (λ (z : Event). z.index) h.0 in omega arith)
    no (inr (inl h)) = absurd (let i : 1 ≡ 2 = ap (λ (z : Event). z.index) h.0 in omega arith)
    no (inr (inr (inl h))) = absurd (let i : 0 ≡ 2 = ap (λ (z : Event). z.index) h.0 in omega arith)
    no (inr (inr (inr (inl h)))) = absurd (let i : 1 ≡ 2 = ap (λ (z : Event). z.index) h.0 in omega arith)
    no (inr (inr (inr (inr (inl h))))) = absurd h.1
    no (inr (inr (inr (inr (inr h))))) = absurd h

-- nor is its taking the lock enabled where the release isn't below the cut
not_enabled : IsEnabledAt locked (reduced locked) (2 ∷ 1 ∷ []) (at 1 1 (AcqEx 0)) → ⊥
not_enabled x =
    true≢false (sym (x.caused (at 0 2 (RelEx 0)) (record {
      there = inr (inr (inr (inl refl)));
      list = record { lane = 0; index = 2 } ∷ [];
      is = inr (inr (inr (inr (inl (refl, refl)))));
      named = inl refl;
    })))
