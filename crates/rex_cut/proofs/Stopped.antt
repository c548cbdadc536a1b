-- A cut that is stopped below an event.
use Rattle.std.proofs.Common.{◌≡◌, ⊎_elim, ℕ, ◌<◌, ◌≤◌, true, List, length, refl, ap, sym, subst, arith}
use Rattle.std.specs.Prelude.{slice_set}
use Rattle.std.proofs.lemmas.Bool.{cond_both, cases_eq, ltb-true, ltb-false, lt-ltb}
use Rattle.std.proofs.lemmas.List.{get_or-set_same, get_or-set_other, length-set}
use Rattle.rex_event.specs.declared.event.Event.{Event}
use Rattle.rex_event.specs.Cuts.{count_at, is_below, IsWithin}
use Rattle.rex_cut.specs.Greatest.{stopped}
use Rattle.rex_clocks.proofs.Numbered.{in_range}

-- its count comes down to the event
pub stopped_at : (cut : List ℕ) (e : Event) → count_at (stopped cut e) e.lane ≤ e.index
stopped_at cut e =
    cond_both (is_below cut e) (slice_set cut e.lane e.index) cut (λ (x : List ℕ). count_at x e.lane ≤ e.index)
    (λ b. let s = get_or-set_same cut e.lane e.index 0 (in_range cut e.lane e.index (ltb-true _ _ b)) in omega arith)
    (λ b. ltb-false _ _ b)

-- and no count goes up
pub stopped_within : (cut : List ℕ) (e : Event) → IsWithin cut (stopped cut e)
stopped_within cut e = λ lane.
    cond_both (is_below cut e) (slice_set cut e.lane e.index) cut (λ (x : List ℕ). count_at x lane ≤ count_at cut lane)
    (λ b.
    let l = ltb-true _ _ b in
    ⊎_elim (λ (q : lane ≡ e.lane). subst (λ (x : ℕ). count_at (slice_set cut e.lane e.index) x ≤ count_at cut x) (sym q) (let s = get_or-set_same cut e.lane e.index 0 (in_range cut e.lane e.index l) in omega arith))
    (λ (q : lane ≡ e.lane → ⊥). let o = get_or-set_other cut e.lane lane e.index 0 q in omega arith)
    (cases_eq lane e.lane))
    (λ b. omega arith)

-- what is within the cut and not above the event stays within
pub stopped_above : (cut low : List ℕ) (e : Event) → IsWithin cut low → count_at low e.lane ≤ e.index → IsWithin (stopped cut e) low
stopped_above cut low e w h = λ lane.
    cond_both (is_below cut e) (slice_set cut e.lane e.index) cut (λ (x : List ℕ). count_at low lane ≤ count_at x lane)
    (λ b.
    ⊎_elim (λ (q : lane ≡ e.lane). subst (λ (x : ℕ). count_at low x ≤ count_at (slice_set cut e.lane e.index) x) (sym q) (let s = get_or-set_same cut e.lane e.index 0 (in_range cut e.lane e.index (ltb-true _ _ b)) in omega arith))
    (λ (q : lane ≡ e.lane → ⊥). let o = get_or-set_other cut e.lane lane e.index 0 q in let v = w lane in omega arith)
    (cases_eq lane e.lane))
    (λ b. w lane)

pub stopped_long : (cut : List ℕ) (e : Event) → length (stopped cut e) ≡ length cut
stopped_long cut e = cond_both (is_below cut e) (slice_set cut e.lane e.index) cut (λ (x : List ℕ). length x ≡ length cut) (λ b. length-set cut e.lane e.index) (λ b. refl)

-- an earlier event stays below
pub stopped_keeps : (cut : List ℕ) (e d : Event) → is_below cut d ≡ true → (e.lane ≡ d.lane → d.index < e.index) → is_below (stopped cut e) d ≡ true
stopped_keeps cut e d h later =
    cond_both (is_below cut e) (slice_set cut e.lane e.index) cut (λ (x : List ℕ). is_below x d ≡ true)
    (λ b.
    ⊎_elim (λ (q : d.lane ≡ e.lane).
    let s = get_or-set_same cut e.lane e.index 0 (in_range cut e.lane e.index (ltb-true _ _ b)) in
    let l = later (sym q) in
    let r = ap (count_at (slice_set cut e.lane e.index)) q in
    lt-ltb _ _ (omega arith))
    (λ (q : d.lane ≡ e.lane → ⊥). let o = get_or-set_other cut e.lane d.lane e.index 0 q in let l = ltb-true _ _ h in lt-ltb _ _ (omega arith))
    (cases_eq d.lane e.lane))
    (λ b. h)
