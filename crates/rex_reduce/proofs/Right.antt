-- Reduced causes are right.
use Rattle.std.proofs.Common.{◌≡◌, ◌⊎◌, inl, inr, ⊎_elim, ℕ, zero, suc, ◌+◌, ◌<◌, ◌≤◌, Bool, true, false, ◌&&◌, cond, List, [], ◌∷◌, ◌++◌, length, reverse, refl, ap, sym, ◌∙◌, subst, arith}
use Rattle.std.specs.Prelude.{nat_eq}
use Rattle.std.proofs.lemmas.Bool.{cases_eq, cases_order, cases_Bool, and_parts, and_from, eq-eqb, eqb-true}
use Rattle.rex_event.specs.declared.event.Event.{Event}
use Rattle.rex_event.specs.declared.delta.Cause.{Cause}
use Rattle.rex_event.specs.Order.{Has, Precedes, ConflictsBefore, Chain, IsLed, IsOrdered}
use Rattle.rex_event.specs.Cuts.{counted, AreNumbered}
use Rattle.rex_event.specs.Causes.{cause_of, HasCauses, StepsTo, AreRight}
use Rattle.rex_clocks.specs.Clocks.{clock_before}
use Rattle.rex_clocks.proofs.Leads.{leads_through, precedes_first, precedes_second}
use Rattle.rex_clocks.proofs.Numbered.{numbered_once, numbered_later}
use Rattle.rex_clocks.proofs.Past.{reverse_more}
use Rattle.rex_clocks.proofs.Order.{same_lane}
use Rattle.rex_reduce.specs.Clocks.{clock_beneath}
use Rattle.rex_reduce.specs.Reduction.{reduced_causes, reduced_from}
use Rattle.rex_reduce.proofs.Beneath.{stands}
use Rattle.rex_event.specs.declared.event.TheConstants.{LANES}
use Rattle.rex_reduce.proofs.Direct.{ordered_first, by_index, IsEnd, Lies, lies_or_end, cause_direct, end_cause}

-- ---- the causes at an event's place

-- these are the causes of an event that stands right after some past
pub record IsPlaced (bases : List ℕ) (es : List Event) (e : Event) (list : List Cause) : Type 0 where
  pub past : List Event
  pub rest : List Event
  pub split : es ≡ reverse past ++ e ∷ rest
  pub is : list ≡ reduced_causes bases past e

pub placed_from : (bases : List ℕ) (es past ys : List Event) (e : Event) (list : List Cause) → es ≡ reverse past ++ ys → HasCauses e list ys (reduced_from bases past ys) → IsPlaced bases es e list
placed_from bases es past [] e list q h = absurd h
placed_from bases es past (y ∷ ys) e list q h =
    ⊎_elim (λ (k : (y ≡ e) × (reduced_causes bases past y ≡ list)).
    let r : IsPlaced bases es e list = record {
      past = past;
      rest = ys;
      split = q ∙ ap (λ (x : Event). reverse past ++ x ∷ ys) k.0;
      is = sym k.1 ∙ ap (reduced_causes bases past) k.0;
    } in r)
    (λ (k : HasCauses e list ys (reduced_from bases (y ∷ past) ys)). placed_from bases es (y ∷ past) ys e list (q ∙ sym (reverse_more y past ys)) k)
    h

-- the past and the causes of an event that is there
record HasPlace (bases : List ℕ) (es past ys : List Event) (e : Event) : Type 0 where
  before : List Event
  rest : List Event
  split : es ≡ reverse before ++ e ∷ rest
  has : HasCauses e (reduced_causes bases before e) ys (reduced_from bases past ys)

place_from : (bases : List ℕ) (es past ys : List Event) (e : Event) → es ≡ reverse past ++ ys → Has e ys → HasPlace bases es past ys e
place_from bases es past [] e q h = absurd h
place_from bases es past (y ∷ ys) e q h =
    ⊎_elim (λ (k : y ≡ e).
    let r : HasPlace bases es past (y ∷ ys) e = record {
      before = past;
      rest = ys;
      split = q ∙ ap (λ (x : Event). reverse past ++ x ∷ ys) k;
      has = inl (k, ap (reduced_causes bases past) k);
    } in r)
    (λ (k : Has e ys).
    let r = place_from bases es (y ∷ past) ys e (q ∙ sym (reverse_more y past ys)) k in
    let t : HasPlace bases es past (y ∷ ys) e = record { before = r.before; rest = r.rest; split = r.split; has = inr r.has } in t)
    h

-- ---- each step is in the order

sound_step : (bases : List ℕ) (es : List Event) (d e : Event) → length bases ≤ LANES → AreNumbered bases es → StepsTo es (reduced_from bases [] es) d e → IsOrdered es d e
sound_step bases es d e few n (inl s) = ([], record { before = s.0; meets = same_lane d e s.1 })
sound_step bases es d e few n (inr s) =
    let p = placed_from bases es [] es e s.list refl s.is in
    let f = cause_direct bases es p.past p.rest e (cause_of d) (stands bases es p.past p.rest e few n p.split) (subst (Has (cause_of d)) p.is s.named) in
    let same : f.event ≡ d = numbered_once bases es f.event d n (ordered_first es f.event e f.direct.before) s.there (ap (λ (c : Cause). c.lane) f.is) (ap (λ (c : Cause). c.index) f.is) in
    subst (λ (x : Event). IsOrdered es x e) same f.direct.before

-- ---- places in the list

is_that_event : Event → Event → Bool
is_that_event y d = nat_eq y.lane d.lane && nat_eq y.index d.index

-- how many events stand before an event
position : Event → List Event → ℕ
position d [] = 0
position d (y ∷ es) = cond (is_that_event y d) 0 (1 + position d es)

that_itself : (y d : Event) → y ≡ d → is_that_event y d ≡ true
unfolding is_that_event
that_itself y d q = and_from _ _ (eq-eqb _ _ (ap (λ (x : Event). x.lane) q)) (eq-eqb _ _ (ap (λ (x : Event). x.index) q))

not_later : (counts : List ℕ) (y : Event) (es : List Event) (d : Event) → AreNumbered counts (y ∷ es) → Has d es → is_that_event y d ≡ false
unfolding is_that_event
not_later counts y es d n h =
    ⊎_elim (λ (t : (nat_eq y.lane d.lane && nat_eq y.index d.index) ≡ true).
    let p = and_parts _ _ t in
    let l = numbered_later counts y es d n h (sym (eqb-true _ _ p.0)) in
    let i = eqb-true _ _ p.1 in
    absurd (omega arith))
    (λ (t : (nat_eq y.lane d.lane && nat_eq y.index d.index) ≡ false). t)
    (cases_Bool (nat_eq y.lane d.lane && nat_eq y.index d.index))

position_less : (counts : List ℕ) (es : List Event) (d e : Event) → AreNumbered counts es → Precedes d e es → position d es < position e es
unfolding position
position_less counts [] d e n p = absurd p
position_less counts (y ∷ es) d e n (inl p) =
    let a = that_itself y d p.0 in
    let b = not_later counts y es e n p.1 in
    rw (a, b) (omega arith)
position_less counts (y ∷ es) d e n (inr p) =
    let a = not_later counts y es d n (precedes_first d e es p) in
    let b = not_later counts y es e n (precedes_second d e es p) in
    let c = position_less (counted counts y) es d e n.2 p in
    rw (a, b) (omega arith)

position_chain : (bases : List ℕ) (es : List Event) (d : Event) (via : List Event) (e : Event) → AreNumbered bases es → Chain (ConflictsBefore es) d via e → position d es < position e es
position_chain bases es d [] e n h = position_less bases es d e n h.before
position_chain bases es d (y ∷ via) e n h =
    let a = position_less bases es d y n h.0.before in
    let b = position_chain bases es y via e n h.1 in
    omega arith

position_ordered : (bases : List ℕ) (es : List Event) (d e : Event) → AreNumbered bases es → IsOrdered es d e → position d es < position e es
position_ordered bases es d e n o = position_chain bases es d o.0 e n o.1

ordered_second : (es : List Event) (d : Event) (via : List Event) (e : Event) → Chain (ConflictsBefore es) d via e → Has e es
ordered_second es d [] e h = precedes_second d e es h.before
ordered_second es d (y ∷ via) e h = ordered_second es y via e h.1

-- ---- the order is led through by steps

joined_chains : (S : Event → Event → Type 0) (d m e : Event) → IsLed S d m → IsLed S m e → IsLed S d e
joined_chains S d m e a b = leads_through (IsLed S) S (λ x y h. h) d e (m ∷ [], (a, b))

own_step : (bases : List ℕ) (es : List Event) (d e : Event) → AreNumbered bases es → IsOrdered es d e → d.lane ≡ e.lane → Precedes d e es
own_step bases es d e n o q =
    let there = ordered_first es d e o in
    let here = ordered_second es d o.0 e o.1 in
    let p = position_ordered bases es d e n o in
    ⊎_elim (λ (i : d.index ≡ e.index). let same = ap (λ (x : Event). position x es) (numbered_once bases es d e n there here q i) in absurd (omega arith))
    (λ (k : (d.index < e.index) ⊎ (e.index < d.index)).
    ⊎_elim (λ (l : d.index < e.index). by_index bases es d e n there here q l)
    (λ (l : e.index < d.index). let r = position_less bases es e d n (by_index bases es e d n here there (sym q) l) in absurd (omega arith)) k)
    (cases_order d.index e.index)

led : (bases : List ℕ) (es : List Event) (n : ℕ) (d e : Event) → length bases ≤ LANES → AreNumbered bases es → position e es ≤ n + position d es → IsOrdered es d e → IsLed (StepsTo es (reduced_from bases [] es)) d e
led bases es zero d e few m l o = let p = position_ordered bases es d e m o in absurd (omega arith)
led bases es (suc n) d e few m l o =
    let p = place_from bases es [] es e refl (ordered_second es d o.0 e o.1) in
    let s = stands bases es p.before p.rest e few m p.split in
    ⊎_elim (λ (b : Lies es d e).
    let x = position_ordered bases es d b.event m b.after in
    let y = position_ordered bases es b.event e m b.before in
    joined_chains (StepsTo es (reduced_from bases [] es)) d b.event e (led bases es n d b.event few m (omega arith) b.after) (led bases es n b.event e few m (omega arith) b.before))
    (λ (b : IsEnd bases (clock_before p.before e) (clock_beneath p.before e) d).
    ⊎_elim (λ (q : d.lane ≡ e.lane). ([], inl (own_step bases es d e m o q, q)))
    (λ (q : d.lane ≡ e.lane → ⊥).
    let there = ordered_first es d e o in
    ([], inr (record { there = there; list = reduced_causes bases p.before e; is = p.has; named = end_cause bases es p.before p.rest d e s there b q })))
    (cases_eq d.lane e.lane))
    (lies_or_end bases es p.before p.rest d e s o)

reduced_long : (bases : List ℕ) (past es : List Event) → length (reduced_from bases past es) ≡ length es
reduced_long bases past [] = refl
reduced_long bases past (e ∷ es) = ap suc (reduced_long bases (e ∷ past) es)

pub reduced_right : (bases : List ℕ) (es : List Event) → length bases ≤ LANES → AreNumbered bases es → AreRight es (reduced_from bases [] es)
reduced_right bases es few n = record {
  long = reduced_long bases [] es;
  sound = leads_through (StepsTo es (reduced_from bases [] es)) (ConflictsBefore es) (λ d e s. sound_step bases es d e few n s);
  complete = λ d e o. led bases es (position e es) d e few n (omega arith) o;
}
