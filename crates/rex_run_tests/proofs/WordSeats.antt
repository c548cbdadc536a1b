-- Seats of lanes that record by lock words.
use Rattle.std.proofs.Common.{◌≡◌, ⊎_elim, ℕ, ◌<◌, List, length-set, get_or, set, sym, ap, subst, ◌∙◌, arith}
use Rattle.std.proofs.lemmas.Bool.{cases_eq}
use Rattle.std.proofs.lemmas.List.{get_or-set_same, get_or-set_other}
use Rattle.atomic_table.specs.Seated.{TableId}
use Rattle.rex_words.specs.declared.assignment.Assignment.{Assignment}
use Rattle.rex_words.specs.declared.seat.WordSeat.{WordSeat}
use Rattle.rex_words.specs.Histories.{IsSeatAt, AreSeats}

-- so are those of which one is a later one of its lane
pub seats_with : (r : Assignment) (z : TableId) (n : ℕ) (ms : List WordSeat) (k : ℕ) (m : WordSeat) → AreSeats r z n ms → k < n → IsSeatAt r z k m → AreSeats r z n (set ms k m)
seats_with r z n ms k m a lt q = record {
  count = length-set ms k m ∙ a.count;
  each = λ l d less. ⊎_elim
      (λ (e : l ≡ k). subst (λ (x : WordSeat). IsSeatAt r z l x) (sym (ap (λ (i : ℕ). get_or (set ms k m) i d) e ∙ get_or-set_same ms k m d (omega (arith, a.count, lt)))) (subst (λ (i : ℕ). IsSeatAt r z i m) (sym e) q))
      (λ (ne : l ≡ k → ⊥). subst (λ (x : WordSeat). IsSeatAt r z l x) (sym (get_or-set_other ms k l m d ne)) (a.each l d less))
      (cases_eq l k);
}
