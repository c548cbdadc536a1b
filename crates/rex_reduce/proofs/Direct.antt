-- The causes that are kept: the last events of other lanes with nothing between.
use Rattle.std.proofs.Common.{◌≡◌, ◌≢◌, ◌⊎◌, inl, inr, ⊎_elim, ℕ, zero, suc, ◌+◌, ◌-◌, ◌<◌, ◌≤◌, Bool, true, false, ◌&&◌, not, cond, List, [], ◌∷◌, ◌++◌, refl, ap, sym, ◌∙◌, subst, arith}
use Rattle.std.specs.Prelude.{nat_eq, nat_lt}
use Rattle.std.proofs.lemmas.Bool.{cases_eq, cases_lt, and_parts, and_from, ltb-true, lt-ltb, ne_eqb, eqb-false, not-true, not_from_false}
use Rattle.std.proofs.lemmas.List.{append-nil}
use Rattle.rex_event.specs.declared.event.Event.{Event}
use Rattle.rex_event.specs.declared.delta.Cause.{Cause}
use Rattle.rex_event.specs.Order.{Has, Precedes, ConflictsBefore, Chain, IsOrdered}
use Rattle.rex_event.specs.Cuts.{count_at, counted, AreNumbered}
use Rattle.rex_event.specs.Causes.{cause_of}
use Rattle.rex_event.specs.Pieces.{AreRising}
use Rattle.rex_clocks.specs.Clocks.{clock_before}
use Rattle.rex_clocks.proofs.Leads.{precedes_first, has_left, has_right, has_parts}
use Rattle.rex_clocks.proofs.Numbered.{numbered_once, numbered_above, numbered_later, numbered_lane}
use Rattle.rex_clocks.proofs.Order.{same_lane}
use Rattle.rex_reduce.specs.Clocks.{clock_beneath}
use Rattle.rex_reduce.specs.Direct.{IsDirect, IsFrom}
use Rattle.rex_reduce.specs.Reduction.{last_covered, uncovered, reduced_causes}
use Rattle.rex_event.specs.declared.event.TheConstants.{LANES}
use Rattle.rex_reduce.proofs.Beneath.{Stands, before_all, before_only, beneath_all, beneath_only}

-- ---- what is ordered is there

first_of_chain : (es : List Event) (d : Event) (via : List Event) (e : Event) → Chain (ConflictsBefore es) d via e → Has d es
first_of_chain es d [] e h = precedes_first d e es h.before
first_of_chain es d (y ∷ via) e h = precedes_first d y es h.0.before

pub ordered_first : (es : List Event) (d e : Event) → IsOrdered es d e → Has d es
ordered_first es d e o = first_of_chain es d o.0 e o.1

-- of one lane the event with the lesser index stands before the other
pub by_index : (counts : List ℕ) (es : List Event) (d e : Event) → AreNumbered counts es → Has d es → Has e es → d.lane ≡ e.lane → d.index < e.index → Precedes d e es
by_index counts [] d e n h k q l = absurd h
by_index counts (y ∷ es) d e n (inl h) (inl k) q l = let a = ap (λ (x : Event). x.index) (sym h ∙ k) in absurd (omega arith)
by_index counts (y ∷ es) d e n (inl h) (inr k) q l = inl (h, k)
by_index counts (y ∷ es) d e n (inr h) (inl k) q l =
    let a = numbered_later counts y es d n h (q ∙ ap (λ (x : Event). x.lane) (sym k)) in
    let b = ap (λ (x : Event). x.index) k in
    absurd (omega arith)
by_index counts (y ∷ es) d e n (inr h) (inr k) q l = inr (by_index (counted counts y) es d e n.2 h k q l)

-- ---- what the counts say of an event that has to come before

-- it is the last of its lane that is covered, and isn't covered beneath
pub record IsEnd (bases clock beneath : List ℕ) (d : Event) : Type 0 where
  pub last : d.index + 1 ≡ count_at bases d.lane + count_at clock d.lane
  pub free : count_at bases d.lane + count_at beneath d.lane ≤ d.index

-- an event lies between
pub record Lies (es : List Event) (d e : Event) : Type 0 where
  pub event : Event
  pub after : IsOrdered es d event
  pub before : IsOrdered es event e

pub lies_or_end : (bases : List ℕ) (es past rest : List Event) (d e : Event) → Stands bases es past rest e → IsOrdered es d e → Lies es d e ⊎ IsEnd bases (clock_before past e) (clock_beneath past e) d
lies_or_end bases es past rest d e s o =
    let there = ordered_first es d e o in
    let low = numbered_above bases es d s.numbered there in
    let high = (before_all bases es past rest d e s o).is in
    ⊎_elim (λ (k : d.index < count_at bases d.lane + count_at (clock_beneath past e) d.lane).
    let b = beneath_only bases es past rest e d.lane (d.index - count_at bases d.lane) s (omega arith) in
    let i = b.first.at in
    let same : b.first.event ≡ d = numbered_once bases es b.first.event d s.numbered (ordered_first es b.first.event b.middle b.first.leads) there b.first.of (omega arith) in
    inl (record { event = b.middle; after = subst (λ (x : Event). IsOrdered es x b.middle) same b.first.leads; before = b.leads }))
    (λ (k : count_at bases d.lane + count_at (clock_beneath past e) d.lane ≤ d.index).
    ⊎_elim (λ (l : d.index + 1 < count_at bases d.lane + count_at (clock_before past e) d.lane).
    let a = before_only bases es past rest e d.lane (d.index + 1 - count_at bases d.lane) s (omega arith) in
    let i = a.at in
    let step : ConflictsBefore es d a.event = record { before = by_index bases es d a.event s.numbered there (ordered_first es a.event e a.leads) (sym a.of) (omega arith); meets = same_lane d a.event (sym a.of) } in
    inl (record { event = a.event; after = ([], step); before = a.leads }))
    (λ (l : count_at bases d.lane + count_at (clock_before past e) d.lane ≤ d.index + 1). inr (record { last = omega arith; free = k }))
    (cases_lt (d.index + 1) (count_at bases d.lane + count_at (clock_before past e) d.lane)))
    (cases_lt d.index (count_at bases d.lane + count_at (clock_beneath past e) d.lane))

-- the last event of a lane that is covered, where it isn't covered beneath
record IsLastDirect (bases : List ℕ) (es : List Event) (clock : List ℕ) (lane : ℕ) (e : Event) : Type 0 where
  event : Event
  of : event.lane ≡ lane
  at : event.index ≡ count_at bases lane + (count_at clock lane - 1)
  direct : IsDirect es event e

end_direct : (bases : List ℕ) (es past rest : List Event) (e : Event) (lane : ℕ) → Stands bases es past rest e → count_at (clock_beneath past e) lane < count_at (clock_before past e) lane → IsLastDirect bases es (clock_before past e) lane e
end_direct bases es past rest e lane s l =
    let a = before_only bases es past rest e lane (count_at (clock_before past e) lane - 1) s (omega arith) in
    let i = a.at in
    record {
      event = a.event;
      of = a.of;
      at = a.at;
      direct = record {
        before = a.leads;
        next = λ m o p.
            let b = (beneath_all bases es past rest a.event m e s o p).is in
            let u = ap (count_at bases) a.of in
            let v = ap (count_at (clock_beneath past e)) a.of in
            absurd (omega arith);
      };
    }

-- ---- the list of causes

record IsUncovered (bases clock beneath : List ℕ) (own n : ℕ) (c : Cause) : Type 0 where
  of : c.lane < n
  other : c.lane ≢ own
  free : count_at beneath c.lane < count_at clock c.lane
  at : c ≡ last_covered bases clock c.lane

kept_has : (b : Bool) (x c : Cause) → Has c (cond b (x ∷ []) []) → (b ≡ true) × (x ≡ c)
kept_has true x c h = (refl, ⊎_elim (λ (q : x ≡ c). q) (λ (z : ⊥). absurd z) h)
kept_has false x c h = absurd h

uncovered_has : (bases clock beneath : List ℕ) (own n : ℕ) (c : Cause) → Has c (uncovered bases clock beneath own n) → IsUncovered bases clock beneath own n c
uncovered_has bases clock beneath own zero c h = absurd h
uncovered_has bases clock beneath own (suc lane) c h =
    ⊎_elim (λ (k : Has c (uncovered bases clock beneath own lane)).
    let r = uncovered_has bases clock beneath own lane c k in
    let l = r.of in
    record { of = omega arith; other = r.other; free = r.free; at = r.at })
    (λ (k : Has c (cond (nat_lt (count_at beneath lane) (count_at clock lane) && not (nat_eq lane own)) (last_covered bases clock lane ∷ []) [])).
    let r = kept_has (nat_lt (count_at beneath lane) (count_at clock lane) && not (nat_eq lane own)) (last_covered bases clock lane) c k in
    let t = and_parts _ _ r.0 in
    let q : lane ≡ c.lane = ap (λ (x : Cause). x.lane) r.1 in
    record {
      of = omega arith;
      other = λ z. eqb-false lane own (not-true _ t.1) (q ∙ z);
      free = subst (λ (x : ℕ). count_at beneath x < count_at clock x) q (ltb-true _ _ t.0);
      at = sym r.1 ∙ ap (last_covered bases clock) q;
    })
    (has_parts c (uncovered bases clock beneath own lane) (cond (nat_lt (count_at beneath lane) (count_at clock lane) && not (nat_eq lane own)) (last_covered bases clock lane ∷ []) []) h)

has_uncovered : (bases clock beneath : List ℕ) (own n lane : ℕ) → lane < n → lane ≢ own → count_at beneath lane < count_at clock lane → Has (last_covered bases clock lane) (uncovered bases clock beneath own n)
has_uncovered bases clock beneath own zero lane l o f = absurd (omega arith)
has_uncovered bases clock beneath own (suc n) lane l o f =
    ⊎_elim (λ (q : n ≡ lane).
    let t : (nat_lt (count_at beneath n) (count_at clock n) && not (nat_eq n own)) ≡ true =
    subst (λ (x : ℕ). (nat_lt (count_at beneath x) (count_at clock x) && not (nat_eq x own)) ≡ true) (sym q)
    (and_from _ _ (lt-ltb _ _ f) (not_from_false _ (ne_eqb _ _ o))) in
    has_right (last_covered bases clock lane) (uncovered bases clock beneath own n) _
    (subst (λ (x : Bool). Has (last_covered bases clock lane) (cond x (last_covered bases clock n ∷ []) [])) (sym t) (inl (ap (last_covered bases clock) q))))
    (λ (q : n ≡ lane → ⊥). has_left (last_covered bases clock lane) (uncovered bases clock beneath own n) _ (has_uncovered bases clock beneath own n lane (omega arith) o f))
    (cases_eq n lane)

-- ---- the causes of an event

pub cause_direct : (bases : List ℕ) (es past rest : List Event) (e : Event) (c : Cause) → Stands bases es past rest e → Has c (reduced_causes bases past e) → IsFrom es e c
cause_direct bases es past rest e c s h =
    let u = uncovered_has bases (clock_before past e) (clock_beneath past e) e.lane LANES c h in
    let l = end_direct bases es past rest e c.lane s u.free in
    let is : cause_of l.event ≡ last_covered bases (clock_before past e) c.lane = let a = l.of in let b = l.at in rw (a, b) refl in
    record { event = l.event; is = is ∙ sym u.at; other = λ q. u.other (sym l.of ∙ q); direct = l.direct }

pub end_cause : (bases : List ℕ) (es past rest : List Event) (d e : Event) → Stands bases es past rest e → Has d es → IsEnd bases (clock_before past e) (clock_beneath past e) d → d.lane ≢ e.lane → Has (cause_of d) (reduced_causes bases past e)
end_cause bases es past rest d e s h end o =
    let last = end.last in
    let free = end.free in
    let few = s.few in
    let l = numbered_lane bases es d s.numbered h in
    let low = numbered_above bases es d s.numbered h in
    let i : count_at bases d.lane + (count_at (clock_before past e) d.lane - 1) ≡ d.index = omega arith in
    let is : last_covered bases (clock_before past e) d.lane ≡ cause_of d = rw i refl in
    subst (λ (x : Cause). Has x (reduced_causes bases past e)) is
    (has_uncovered bases (clock_before past e) (clock_beneath past e) e.lane LANES d.lane (omega arith) o (omega arith))

-- ---- they rise by lane

rising_push : (least : ℕ) (cs : List Cause) (c : Cause) → AreRising least cs → ((x : Cause) → Has x cs → x.lane < c.lane) → least ≤ c.lane → AreRising least (cs ++ c ∷ [])
rising_push least [] c h l k = (k, tt)
rising_push least (x ∷ cs) c h l k = (h.0, rising_push (x.lane + 1) cs c h.1 (λ y i. l y (inr i)) (let w = l x (inl refl) in omega arith))

rising_kept : (b : Bool) (cs : List Cause) (c : Cause) → AreRising 0 cs → ((x : Cause) → Has x cs → x.lane < c.lane) → AreRising 0 (cs ++ cond b (c ∷ []) [])
rising_kept true cs c h l = rising_push 0 cs c h l (omega arith)
rising_kept false cs c h l = subst (AreRising 0) (sym (append-nil cs)) h

uncovered_rising : (bases clock beneath : List ℕ) (own n : ℕ) → AreRising 0 (uncovered bases clock beneath own n)
uncovered_rising bases clock beneath own zero = tt
uncovered_rising bases clock beneath own (suc lane) =
    rising_kept (nat_lt (count_at beneath lane) (count_at clock lane) && not (nat_eq lane own)) (uncovered bases clock beneath own lane) (last_covered bases clock lane) (uncovered_rising bases clock beneath own lane)
    (λ x h. (uncovered_has bases clock beneath own lane x h).of)

pub causes_rising : (bases : List ℕ) (past : List Event) (e : Event) → AreRising 0 (reduced_causes bases past e)
causes_rising bases past e = uncovered_rising bases (clock_before past e) (clock_beneath past e) e.lane LANES
