-- Reduced causes fit a piece.
use Rattle.std.proofs.Common.{◌≡◌, inl, inr, ⊎_elim, ℕ, zero, suc, ◌+◌, ◌-◌, ◌≤◌, true, ◌&&◌, not, List, [], ◌∷◌, ◌++◌, length, reverse, refl, ap, sym, ◌∙◌, subst, arith}
use Rattle.std.specs.Prelude.{nat_eq}
use Rattle.std.proofs.lemmas.Bool.{and_from, lt-ltb, ne_eqb, not_from_false}
use Rattle.rex_event.specs.declared.event.Event.{Event}
use Rattle.rex_event.specs.declared.delta.Cause.{Cause}
use Rattle.rex_event.specs.Order.{Has, Precedes, IsOrdered}
use Rattle.rex_event.specs.Cuts.{counted, counted_all, AreNumbered}
use Rattle.rex_event.specs.Pieces.{has_event, others_below, CauseFits, AreRising, CausesFit, AllCausesFit}
use Rattle.rex_clocks.proofs.Leads.{all_from_has}
use Rattle.rex_clocks.proofs.Numbered.{in_range, numbered_above, numbered_below}
use Rattle.rex_clocks.proofs.Past.{reverse_more, has_reverse, before_is_past, counted_reverse}
use Rattle.rex_clocks.proofs.Order.{last_step}
use Rattle.rex_reduce.specs.Reduction.{reduced_causes, reduced_from}
use Rattle.rex_reduce.proofs.Beneath.{Stands, stands}
use Rattle.rex_event.specs.declared.event.TheConstants.{LANES}
use Rattle.rex_reduce.proofs.Direct.{ordered_first, cause_direct, causes_rising}

-- ---- what has to come before an event is in its past

past_of : (bases : List ℕ) (es past rest : List Event) (d m : Event) → AreNumbered bases es → es ≡ reverse past ++ rest → Has m past → IsOrdered es d m → Has d past
past_of bases es [] rest d m n q h o = absurd h
past_of bases es (x ∷ past) rest d m n q h o =
    let split : es ≡ reverse past ++ x ∷ rest = q ∙ reverse_more x past rest in
    ⊎_elim (λ (k : x ≡ m). inr (past_before bases es past rest d x n split (λ z t p. past_of bases es past (x ∷ rest) d z n split t p) (subst (IsOrdered es d) (sym k) o)))
    (λ (k : Has m past). inr (past_of bases es past (x ∷ rest) d m n split k o)) h
  where
    past_before : (counts : List ℕ) (ys older after : List Event) (c e : Event) → AreNumbered counts ys → ys ≡ reverse older ++ e ∷ after → ((z : Event) → Has z older → IsOrdered ys c z → Has c older) → IsOrdered ys c e → Has c older
    past_before counts ys older after c e m' s f p =
        let l = last_step ys c e p in
        let there = before_is_past counts older e after l.event (subst (AreNumbered counts) s m') (subst (Precedes l.event e) s l.step.before) in
        ⊎_elim (λ (t : c ≡ l.event). subst (λ (x' : Event). Has x' older) (sym t) there) (λ (t : IsOrdered ys c l.event). f l.event there t) l.leads

-- ---- few causes

-- rising causes that fit are at most as many as the other lanes with events
others_more : (bases counts : List ℕ) (own low n : ℕ) → others_below bases counts own low ≤ others_below bases counts own (low + n)
others_more bases counts own low zero = let w : low + zero ≡ low = omega arith in rw w (omega arith)
others_more bases counts own low (suc n) =
    let a = others_more bases counts own low n in
    let w : low + suc n ≡ suc (low + n) = omega arith in
    rw w (omega arith)

others_to : (bases counts : List ℕ) (own low high : ℕ) → low ≤ high → others_below bases counts own low ≤ others_below bases counts own high
others_to bases counts own low high l =
    let w : low + (high - low) ≡ high = omega arith in
    subst (λ (x : ℕ). others_below bases counts own low ≤ others_below bases counts own x) w (others_more bases counts own low (high - low))

one_other : (bases counts : List ℕ) (own : ℕ) (c : Cause) → CauseFits bases counts own c → others_below bases counts own (c.lane + 1) ≡ 1 + others_below bases counts own c.lane
one_other bases counts own c f =
    let a = f.from in
    let b = f.earlier in
    let t : (has_event bases counts c.lane && not (nat_eq c.lane own)) ≡ true = and_from _ _ (lt-ltb _ _ (omega arith)) (not_from_false _ (ne_eqb _ _ f.other)) in
    let w : c.lane + 1 ≡ suc c.lane = omega arith in
    rw (w, t) refl

few_rising : (bases counts : List ℕ) (own least : ℕ) (cs : List Cause) → AreRising least cs → ((c : Cause) → Has c cs → CauseFits bases counts own c) → least ≤ length counts → length cs + others_below bases counts own least ≤ others_below bases counts own (length counts)
few_rising bases counts own least [] r f l = let a = others_to bases counts own least (length counts) l in omega arith
few_rising bases counts own least (c ∷ cs) r f l =
    let fits = f c (inl refl) in
    let there = fits.there in
    let one = one_other bases counts own c fits in
    let low = others_to bases counts own least c.lane r.0 in
    let rest = few_rising bases counts own (c.lane + 1) cs r.1 (λ x h. f x (inr h)) (omega arith) in
    omega arith

-- ---- the causes of an event

cause_fits : (first bases : List ℕ) (es past rest : List Event) (e : Event) (c : Cause) → Stands first es past rest e → AreNumbered bases es → Has c (reduced_causes first past e) → CauseFits bases (counted_all bases (reverse past)) e.lane c
cause_fits first bases es past rest e c s n h =
    let f = cause_direct first es past rest e c s h in
    let l = last_step es f.event e f.direct.before in
    let last = before_is_past first past e rest l.event (subst (AreNumbered first) s.split s.numbered) (subst (Precedes l.event e) s.split l.step.before) in
    let there : Has f.event past = ⊎_elim (λ (t : f.event ≡ l.event). subst (λ (x : Event). Has x past) (sym t) last) (λ (t : IsOrdered es f.event l.event). past_of first es past (e ∷ rest) f.event l.event s.numbered s.split last t) l.leads in
    let below = numbered_below bases (reverse past) f.event (numbered_front bases (reverse past) (e ∷ rest) (subst (AreNumbered bases) s.split n)) (has_reverse f.event past there) in
    let a = ordered_first es f.event e f.direct.before in
    subst (CauseFits bases (counted_all bases (reverse past)) e.lane) f.is
    (record {
      other = f.other;
      there = in_range (counted_all bases (reverse past)) f.event.lane f.event.index below;
      from = numbered_above bases es f.event n a;
      earlier = below;
    })
  where
    numbered_front : (counts : List ℕ) (xs ys : List Event) → AreNumbered counts (xs ++ ys) → AreNumbered counts xs
    numbered_front counts [] ys m = tt
    numbered_front counts (x ∷ xs) ys m = (m.0, m.1, numbered_front (counted counts x) xs ys m.2)

causes_fit : (first bases : List ℕ) (es past rest : List Event) (e : Event) → Stands first es past rest e → AreNumbered bases es → CausesFit bases (counted_all bases (reverse past)) e.lane (reduced_causes first past e)
causes_fit first bases es past rest e s n = record {
  few = let f = few_rising bases (counted_all bases (reverse past)) e.lane 0 (reduced_causes first past e) (causes_rising first past e) (λ c h. cause_fits first bases es past rest e c s n h) (omega arith) in omega arith;
  each = all_from_has (CauseFits bases (counted_all bases (reverse past)) e.lane) (reduced_causes first past e) (λ c h. cause_fits first bases es past rest e c s n h);
  rising = causes_rising first past e;
}

-- ---- the causes of each event

all_fit : (first bases : List ℕ) (es past ys : List Event) (counts : List ℕ) → length first ≤ LANES → AreNumbered first es → AreNumbered bases es → es ≡ reverse past ++ ys → counts ≡ counted_all bases (reverse past) → AllCausesFit bases counts ys (reduced_from first past ys)
all_fit first bases es past [] counts few m n q c = tt
all_fit first bases es past (y ∷ ys) counts few m n q c = (
  subst (λ (x : List ℕ). CausesFit bases x y.lane (reduced_causes first past y)) (sym c) (causes_fit first bases es past ys y (stands first es past ys y few m q) n),
  all_fit first bases es (y ∷ past) ys (counted counts y) few m n (q ∙ sym (reverse_more y past ys)) (ap (λ (x : List ℕ). counted x y) c ∙ sym (counted_reverse bases past y)),
)

pub reduced_fit : (first bases : List ℕ) (es : List Event) → length first ≤ LANES → AreNumbered first es → AreNumbered bases es → AllCausesFit bases bases es (reduced_from first [] es)
reduced_fit first bases es few m n = all_fit first bases es [] es bases few m n refl refl
