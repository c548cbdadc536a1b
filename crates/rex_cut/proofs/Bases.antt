-- The events below a cut are numbered on from the bases.
use Rattle.std.proofs.Common.{◌≡◌, ⊎_elim, ℕ, zero, suc, min, ◌+◌, ◌<◌, ◌≤◌, ◌==◌, List, [], ◌∷◌, length, get_or, set, refl, ap, sym, ◌∙◌, subst, arith}
use Rattle.std.proofs.lemmas.Bool.{cond_both, cases_eq, eqb-true, eqb-false, ltb-true, ltb-false}
use Rattle.std.proofs.lemmas.List.{ext_get_or, length-set, get_or-set_same, get_or-set_other}
use Rattle.rex_event.specs.declared.event.Event.{Event}
use Rattle.rex_event.specs.Cuts.{count_at, counted, counted_all, AreNumbered, is_below, below}
use Rattle.rex_cut.specs.Greatest.{IsCutOf}
use Rattle.rex_cut.specs.Delta.{base_of, bases_from}
use Rattle.rex_clocks.proofs.Numbered.{counted_same, counted_other, counted_long}

pub bases_long : (es : List Event) (lane : ℕ) (counts : List ℕ) → length (bases_from es lane counts) ≡ length counts
bases_long es lane [] = refl
bases_long es lane (c ∷ counts) = ap suc (bases_long es (lane + 1) counts)

pub base_at : (es : List Event) (lane : ℕ) (counts : List ℕ) (i : ℕ) → i < length counts → get_or (bases_from es lane counts) i 0 ≡ base_of (get_or counts i 0) (lane + i) es
base_at es lane [] i l = absurd (omega arith)
base_at es lane (c ∷ counts) zero l = let w : lane ≡ lane + zero = omega arith in ap (λ (x : ℕ). base_of c x es) w
base_at es lane (c ∷ counts) (suc i) l =
    let w : lane + 1 + i ≡ lane + suc i = omega arith in
    base_at es (lane + 1) counts i (omega arith) ∙ ap (λ (x : ℕ). base_of (get_or counts i 0) x es) w

-- a lane's base is the count from which its events are numbered
pub base_is : (bases : List ℕ) (es : List Event) (count lane : ℕ) → AreNumbered bases es → count_at bases lane ≤ count → count ≤ count_at (counted_all bases es) lane → base_of count lane es ≡ count_at bases lane
base_is bases [] count lane n low high = omega arith
base_is bases (e ∷ es) count lane n low high =
    cond_both (e.lane == lane) e.index (base_of count lane es) (λ (x : ℕ). x ≡ count_at bases lane)
    (λ b. n.1 ∙ ap (count_at bases) (eqb-true _ _ b))
    (λ b.
    let o = counted_other bases e lane (λ q. eqb-false _ _ b (sym q)) in
    base_is (counted bases e) es count lane n.2 (omega arith) high ∙ o)

-- the bases of a cut are the counts from which the list is numbered
pub bases_are : (counts : List ℕ) (es : List Event) → (cut : IsCutOf es counts) → bases_from es 0 counts ≡ cut.bases
bases_are counts es cut =
    ext_get_or 0 (bases_from es 0 counts) cut.bases (bases_long es 0 counts ∙ sym cut.long)
    (λ i l.
    let k : i < length counts = let q = bases_long es 0 counts in omega arith in
    let w : 0 + i ≡ i = omega arith in
    base_at es 0 counts i k ∙ ap (λ (x : ℕ). base_of (count_at counts i) x es) w ∙ base_is cut.bases es (count_at counts i) i cut.numbered (cut.from i) (cut.to i))

-- ---- the events below a cut

-- the counts are the others, but not above the cut
pub record AreCutTo (cut others counts : List ℕ) : Type 0 where
  pub long : length counts ≡ length others
  pub each : (lane : ℕ) → count_at counts lane ≡ min (count_at others lane) (count_at cut lane)

cut_kept : (cut others counts : List ℕ) (e : Event) → AreCutTo cut others counts → e.lane < length others → e.index ≡ count_at others e.lane → e.index < count_at cut e.lane → AreCutTo cut (counted others e) (counted counts e)
cut_kept cut others counts e t l i b =
    let long = t.long in
    let f : e.lane < length counts = omega arith in
    record {
      long = counted_long counts e ∙ long ∙ sym (counted_long others e);
      each = λ lane.
          ⊎_elim (λ (q : lane ≡ e.lane).
          subst (λ (x : ℕ). count_at (counted counts e) x ≡ min (count_at (counted others e) x) (count_at cut x)) (sym q)
          (let s = counted_same counts e f in let u = counted_same others e l in omega arith))
          (λ (q : lane ≡ e.lane → ⊥). let s = counted_other counts e lane q in let u = counted_other others e lane q in let v = t.each lane in omega arith)
          (cases_eq lane e.lane);
    }

cut_left : (cut others counts : List ℕ) (e : Event) → AreCutTo cut others counts → e.lane < length others → e.index ≡ count_at others e.lane → count_at cut e.lane ≤ e.index → AreCutTo cut (counted others e) counts
cut_left cut others counts e t l i b = record {
  long = t.long ∙ sym (counted_long others e);
  each = λ lane.
      ⊎_elim (λ (q : lane ≡ e.lane).
      subst (λ (x : ℕ). count_at counts x ≡ min (count_at (counted others e) x) (count_at cut x)) (sym q)
      (let u = counted_same others e l in let v = t.each e.lane in omega arith))
      (λ (q : lane ≡ e.lane → ⊥). let u = counted_other others e lane q in let v = t.each lane in omega arith)
      (cases_eq lane e.lane);
}

pub below_numbered : (cut others counts : List ℕ) (es : List Event) → AreCutTo cut others counts → AreNumbered others es → AreNumbered counts (below cut es)
below_numbered cut others counts [] t n = tt
below_numbered cut others counts (e ∷ es) t n =
    cond_both (is_below cut e) (e ∷ below cut es) (below cut es) (λ (x : List Event). AreNumbered counts x)
    (λ b.
    let i = n.1 in
    let long = t.long in
    let v = t.each e.lane in
    let l = ltb-true _ _ b in
    (let m = n.0 in omega arith, omega arith, below_numbered cut (counted others e) (counted counts e) es (cut_kept cut others counts e t n.0 n.1 l) n.2))
    (λ b. below_numbered cut (counted others e) counts es (cut_left cut others counts e t n.0 n.1 (ltb-false _ _ b)) n.2)

pub below_bases : (counts : List ℕ) (es : List Event) → IsCutOf es counts → AreNumbered (bases_from es 0 counts) (below counts es)
below_bases counts es cut =
    subst (λ (x : List ℕ). AreNumbered x (below counts es)) (sym (bases_are counts es cut))
    (below_numbered counts cut.bases cut.bases es (record { long = refl; each = λ lane. let f = cut.from lane in omega arith }) cut.numbered)

-- ---- bases from the last event to the first

pub bases_none : (lane : ℕ) (counts : List ℕ) → bases_from [] lane counts ≡ counts
bases_none lane [] = refl
bases_none lane (c ∷ counts) = ap (λ (x : List ℕ). c ∷ x) (bases_none (lane + 1) counts)

-- with one more event in front its lane's base is its index
pub bases_more : (e : Event) (es : List Event) (counts : List ℕ) → e.lane < length counts → bases_from (e ∷ es) 0 counts ≡ set (bases_from es 0 counts) e.lane e.index
bases_more e es counts l =
    let long = bases_long es 0 counts in
    let more = bases_long (e ∷ es) 0 counts in
    ext_get_or 0 (bases_from (e ∷ es) 0 counts) (set (bases_from es 0 counts) e.lane e.index) (more ∙ sym long ∙ sym (length-set (bases_from es 0 counts) e.lane e.index))
    (λ i k.
    let w : 0 + i ≡ i = omega arith in
    base_at (e ∷ es) 0 counts i (omega arith) ∙ ap (λ (x : ℕ). base_of (get_or counts i 0) x (e ∷ es)) w
    ∙ cond_both (e.lane == i) e.index (base_of (get_or counts i 0) i es) (λ (x : ℕ). x ≡ get_or (set (bases_from es 0 counts) e.lane e.index) i 0)
    (λ b. sym (subst (λ (x : ℕ). get_or (set (bases_from es 0 counts) e.lane e.index) x 0 ≡ e.index) (eqb-true _ _ b) (get_or-set_same (bases_from es 0 counts) e.lane e.index 0 (omega arith))))
    (λ b.
    ap (λ (x : ℕ). base_of (get_or counts i 0) x es) (sym w) ∙ sym (base_at es 0 counts i (omega arith))
    ∙ sym (get_or-set_other (bases_from es 0 counts) e.lane i e.index 0 (λ q. eqb-false _ _ b (sym q)))))
