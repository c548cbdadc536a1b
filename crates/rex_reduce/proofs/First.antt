-- Events are numbered on from the indices of the lanes' first ones.
use Rattle.std.proofs.Common.{◌≡◌, inl, inr, ⊎_elim, ℕ, ◌<◌, ◌≤◌, List, [], ◌∷◌, length, refl, ap, sym, ◌∙◌, subst, arith}
use Rattle.std.proofs.lemmas.Bool.{cases_eq}
use Rattle.std.proofs.lemmas.List.{length-set, get_or-set_same, get_or-set_other}
use Rattle.rex_event.specs.declared.event.Event.{Event}
use Rattle.rex_event.specs.Order.{Has}
use Rattle.rex_event.specs.Cuts.{count_at, counted, AreNumbered}
use Rattle.rex_clocks.proofs.Numbered.{counted_same, counted_other, counted_long}
use Rattle.rex_event.specs.declared.event.TheConstants.{LANES}
use Rattle.rex_reduce.specs.Reduction.{first_indices}

pub first_long : (es : List Event) → length (first_indices es) ≡ LANES
first_long [] = refl
first_long (e ∷ es) = length-set (first_indices es) e.lane e.index ∙ first_long es

-- counts that are the same in the lane of each of these events
record Agree (counts others : List ℕ) (es : List Event) : Type 0 where
  long : length counts ≤ length others
  each : (d : Event) → Has d es → count_at others d.lane ≡ count_at counts d.lane

agree_more : (counts others : List ℕ) (e : Event) (es : List Event) → e.lane < length counts → Agree counts others (e ∷ es) → Agree (counted counts e) (counted others e) es
agree_more counts others e es l a =
    let long = a.long in
    record {
      long = let p = counted_long counts e in let q = counted_long others e in omega arith;
      each = λ d h.
          ⊎_elim (λ (q : d.lane ≡ e.lane).
          subst (λ (x : ℕ). count_at (counted others e) x ≡ count_at (counted counts e) x) (sym q)
          (counted_same others e (omega arith) ∙ sym (counted_same counts e l)))
          (λ (q : d.lane ≡ e.lane → ⊥). counted_other others e d.lane q ∙ a.each d (inr h) ∙ sym (counted_other counts e d.lane q))
          (cases_eq d.lane e.lane);
    }

numbered_agree : (counts others : List ℕ) (es : List Event) → AreNumbered counts es → Agree counts others es → AreNumbered others es
numbered_agree counts others [] n a = tt
numbered_agree counts others (e ∷ es) n a =
    let l = n.0 in
    let long = a.long in
    (omega arith, n.1 ∙ sym (a.each e (inl refl)), numbered_agree (counted counts e) (counted others e) es n.2 (agree_more counts others e es l a))

first_agrees : (counts : List ℕ) (es : List Event) (d : Event) → length counts ≤ LANES → AreNumbered counts es → Has d es → count_at (first_indices es) d.lane ≡ count_at counts d.lane
first_agrees counts [] d few n h = absurd h
first_agrees counts (e ∷ es) d few n h =
    let l = n.0 in
    let long = first_long es in
    ⊎_elim (λ (q : d.lane ≡ e.lane).
    subst (λ (x : ℕ). count_at (first_indices (e ∷ es)) x ≡ count_at counts x) (sym q)
    (get_or-set_same (first_indices es) e.lane e.index 0 (omega arith) ∙ n.1))
    (λ (q : d.lane ≡ e.lane → ⊥).
    get_or-set_other (first_indices es) e.lane d.lane e.index 0 q
    ∙ ⊎_elim (λ (k : e ≡ d). absurd (q (ap (λ (x : Event). x.lane) (sym k))))
    (λ (k : Has d es). first_agrees (counted counts e) es d (let p = counted_long counts e in omega arith) n.2 k ∙ counted_other counts e d.lane q) h)
    (cases_eq d.lane e.lane)

pub numbered_first : (bases : List ℕ) (es : List Event) → length bases ≤ LANES → AreNumbered bases es → AreNumbered (first_indices es) es
numbered_first bases es few n =
    numbered_agree bases (first_indices es) es n (record { long = let l = first_long es in omega arith; each = λ d h. first_agrees bases es d few n h })
