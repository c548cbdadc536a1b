-- What a board needs of the events that it replays, and of the state at a cut.
use Rattle.std.proofs.Common.{◌≡◌, ◌≢◌, ◌⊎◌, inl, inr, ⊎_elim, ℕ, ℤ, pos, ◌+◌, ◌<◌, ◌≤◌, arith, Bool, true, false, not, List, [], ◌∷◌, length, refl, ap, sym, ◌∙◌, subst}
use Rattle.std.specs.Prelude.{Some, nat_lt, slice_set}
use Rattle.std.specs.List.{filter}
use Rattle.std.proofs.lemmas.Bool.{cases_eq, cases_lt, true≢false, lt-ltb, le-ltb}
use Rattle.std.proofs.lemmas.List.{length-map, get_or_past}
use Rattle.rex_syntax.specs.declared.locks.Mode.{Mode}
use Rattle.rex_syntax.specs.declared.locks.Mode.TheVariants.{Free, Shared, Exclusive}
use Rattle.rex_syntax.specs.Locks.{mode_of, is_free, is_exclusive}
use Rattle.rex_frame.specs.Guarded.{Agree}
use Rattle.rex_event.specs.Limits.{most_lanes}
use Rattle.rex_event.specs.declared.event.Kind.{Kind}
use Rattle.rex_event.specs.declared.event.Kind.TheVariants.{AcqSh, RelSh}
use Rattle.rex_event.specs.declared.event.Event.{Event}
use Rattle.rex_event.specs.declared.delta.Cause.{Cause}
use Rattle.rex_event.specs.Conflict.{conflict, is_sharing}
use Rattle.rex_event.specs.Order.{Has, Precedes, ConflictsBefore, Chain, IsOrdered}
use Rattle.rex_event.specs.Cuts.{count_at, counted, is_below, below, AreNumbered, IsConsistent}
use Rattle.rex_event.specs.Causes.{cause_of, StepsTo}
use Rattle.rex_state.specs.Value.{StateValue}
use Rattle.rex_state.specs.Locks.{mode_in_frame}
use Rattle.rex_state.specs.Actions.{takes_exclusive}
use Rattle.rex_state.specs.Own.{own_after}
use Rattle.rex_state.specs.Machine.{frame_at, next, run}
use Rattle.rex_state.specs.Sound.{IsSound}
use Rattle.rex_state.specs.Counts.{counts_of, done_of}
use Rattle.rex_state.specs.Touched.{held_at, with_variables, LeadsAlike}
use Rattle.rex_state.specs.Local.{TakesExclusive, Takes, IsLocal}
use Rattle.rex_state.proofs.Counts.{runs_count_on}
use Rattle.rex_state.proofs.Sounds.{run_keeps, next_keeps}
use Rattle.rex_state.proofs.Keep.{next_is, frame_own}
use Rattle.rex_state.proofs.Touched.{mode_held, events_write, events_read}
use Rattle.rex_state.proofs.Local.{events_are_local}
use Rattle.rex_state.proofs.Apart.{apart_from}
use Rattle.rex_clocks.proofs.Numbered.{numbered_lane, numbered_once, numbered_later}
use Rattle.rex_clocks.proofs.Leads.{precedes_first, precedes_second}
use Rattle.rex_order.specs.Enabled.{IsStateAt, IsEnabledAt, GoesOn}
use Rattle.rex_order.proofs.Enabled.{enabled_events_go_on}
use Rattle.rex_board.specs.declared.recording.Recording.{Recording}
use Rattle.rex_board.specs.Recorded.{IsRight, service_of, start_of, events_of, causes_of, variables_in, value_of, IsEventAt, AreCausesOf, IsCovered}
use Rattle.rex_board.specs.Moment.{guard, Holds, HoldsAlone}
use Rattle.rex_board.proofs.Apart.{unordered_apart}

-- ---- modes

pub exclusive_by : (m : Mode) → (m ≡ Exclusive) ⊎ (m ≡ Exclusive → ⊥)
exclusive_by Exclusive = inl refl
exclusive_by Shared = inr (λ e. cc)
exclusive_by Free = inr (λ e. cc)

pub exclusive_held : (m : Mode) → m ≡ Exclusive → m ≢ Free
exclusive_held m e = λ f. cc

may_free : (m : Mode) → not (is_free m) ≡ true → m ≢ Free
may_free Free h = λ e. true≢false (sym h)
may_free Shared h = λ e. cc
may_free Exclusive h = λ e. cc

not_exclusive : (m : Mode) → (m ≡ Exclusive → ⊥) → is_exclusive m ≡ false
not_exclusive Exclusive h = absurd (h refl)
not_exclusive Shared h = refl
not_exclusive Free h = refl

takes_no_share : (kind : Kind) → takes_exclusive kind ≡ true → is_sharing kind ≡ false
takes_no_share (AcqSh lock) h = absurd (true≢false (sym h))
takes_no_share (RelSh lock) h = absurd (true≢false (sym h))
takes_no_share _ h = refl

filters_same : (keep more : Event → Bool) (es : List Event) → ((x : Event) → Has x es → more x ≡ keep x) → filter more es ≡ filter keep es
filters_same keep more [] h = refl
filters_same keep more (x ∷ es) h = rw (h x (inl refl), filters_same keep more es (λ y b. h y (inr b))) refl

-- ---- chains of conflicts

chain_first : (es : List Event) (x y : Event) (via : List Event) → Chain (ConflictsBefore es) x via y → Has x es
chain_first es x y [] k = precedes_first x y es k.before
chain_first es x y (z ∷ via) k = precedes_first x z es k.0.before

pub chain_last : (es : List Event) (x y : Event) (via : List Event) → Chain (ConflictsBefore es) x via y → Has y es
chain_last es x y [] k = precedes_second x y es k.before
chain_last es x y (z ∷ via) k = chain_last es z y via k.1

-- ---- a recording

-- the event leads from the state at a cut to that at the cut with one more event of its lane
pub record Leads (r : Recording) (C : List ℕ) (s : StateValue) (l : ℕ) (e : Event) : Type 0 where
  pub state : StateValue
  pub goes : next (service_of r) s e ≡ Some state
  pub at : IsStateAt (service_of r) (start_of r) (events_of r) (slice_set C l (count_at C l + 1)) state
  pub consistent : IsConsistent (events_of r) (slice_set C l (count_at C l + 1))

module _ (r : Recording) (ok : IsRight r) where
  pub numbered : AreNumbered (counts_of (start_of r)) (events_of r)
  numbered = (runs_count_on (service_of r) (start_of r) ok.last (events_of r) ok.runs).numbered

  -- the lanes of the events
  pub lane_there : (e : Event) → Has e (events_of r) → e.lane < (service_of r).lanes
  lane_there e there =
      let a : e.lane < length (counts_of (start_of r)) = numbered_lane (counts_of (start_of r)) (events_of r) e numbered there in
      let b : length (counts_of (start_of r)) ≡ length (start_of r).lanes = length-map (start_of r).lanes done_of in
      omega (arith, a, b, ok.sound.by.complete.lanes)

  pub in_lanes : (e : Event) → Has e (events_of r) → e.lane < most_lanes
  in_lanes e there = omega (arith, lane_there e there, ok.good.lanes)

  pub cause_lane : (e : Event) (list : List Cause) (c : Cause) → AreCausesOf r e list → Has c list → c.lane < most_lanes
  cause_lane e list c h k = let d = ok.events.each e list c h k in subst (λ (x : ℕ). x < most_lanes) (ap (λ (z : Cause). z.lane) d.2) (in_lanes d.0 d.1)

  -- what is covered stays covered as counts rise
  pub covers_more : (C D : List ℕ) (e : Event) → ((m : ℕ) → m < most_lanes → count_at C m ≤ count_at D m) → IsCovered r C e → IsCovered r D e
  covers_more C D e up c = record {
    each = λ list k h there. let a : k.index < count_at C k.lane = c.each list k h there in let b : count_at C k.lane ≤ count_at D k.lane = up k.lane (cause_lane e list k h there) in omega arith;
  }

  below_as : (C D : List ℕ) → ((m : ℕ) → m < most_lanes → count_at D m ≡ count_at C m) → (x : Event) → Has x (events_of r) → is_below D x ≡ is_below C x
  below_as C D same x there = ap (nat_lt x.index) (same x.lane (in_lanes x there))

  -- the state at a cut depends on the counts of the lanes alone
  pub lanes_alone : (C D : List ℕ) (s : StateValue) → ((m : ℕ) → m < most_lanes → count_at D m ≡ count_at C m) → IsStateAt (service_of r) (start_of r) (events_of r) C s → IsConsistent (events_of r) C
      → IsStateAt (service_of r) (start_of r) (events_of r) D s × IsConsistent (events_of r) D
  lanes_alone C D s same at cut = (
    ap (λ (l : List Event). run (service_of r) (start_of r) l) (filters_same (is_below C) (is_below D) (events_of r) (below_as C D same)) ∙ at,
    record { closed = λ x y o i. closed x y o i },
  )
    where
      closed : (x y : Event) → IsOrdered (events_of r) x y → is_below D y ≡ true → is_below D x ≡ true
      closed x y o i = below_as C D same x (chain_first (events_of r) x y o.0 o.1) ∙ cut.closed x y o (sym (below_as C D same y (chain_last (events_of r) x y o.0 o.1)) ∙ i)

  -- ---- causes

  -- the event's lane predecessors are below its count
  earlier_below : (C : List ℕ) (d e : Event) → Precedes d e (events_of r) → d.lane ≡ e.lane → e.index ≡ count_at C e.lane → is_below C d ≡ true
  earlier_below C d e before lane index =
      let less : d.index < e.index = lower (events_of r) (counts_of (start_of r)) numbered before in
      let same : count_at C d.lane ≡ count_at C e.lane = ap (count_at C) lane in
      lt-ltb _ _ (omega arith)
    where
      lower : (es : List Event) (counts : List ℕ) → AreNumbered counts es → Precedes d e es → d.index < e.index
      lower [] counts n p = absurd p
      lower (x ∷ es) counts n (inl p) = subst (λ (z : Event). z.index < e.index) p.0 (numbered_later counts x es e n p.1 (sym (ap (λ (z : Event). z.lane) p.0 ∙ lane)))
      lower (x ∷ es) counts n (inr p) = lower es (counted counts x) n.2 p

  -- what steps into a covered event is below
  step_below : (C : List ℕ) (d e : Event) → IsCovered r C e → e.index ≡ count_at C e.lane → StepsTo (events_of r) (causes_of r) d e → is_below C d ≡ true
  step_below C d e c index (inl s) = earlier_below C d e s.0 s.1 index
  step_below C d e c index (inr s) = lt-ltb _ _ (c.each s.list (cause_of d) s.is s.named)

  -- and so is what leads to it by steps
  chain_below : (C : List ℕ) (d e : Event) (via : List Event) → IsConsistent (events_of r) C → IsCovered r C e → e.index ≡ count_at C e.lane → Chain (StepsTo (events_of r) (causes_of r)) d via e → is_below C d ≡ true
  chain_below C d e [] cut c index k = step_below C d e c index k
  chain_below C d e (y ∷ via) cut c index k = cut.closed d y (ok.right.sound d y ([], k.0)) (chain_below C y e via cut c index k.1)

  -- a lane's next event whose causes are all below the cut is enabled there
  pub enabled : (C : List ℕ) (l : ℕ) (e : Event) → IsEventAt r l (count_at C l) e → IsCovered r C e → IsEnabledAt (events_of r) (causes_of r) C e
  enabled C l e at c =
      let index : e.index ≡ count_at C e.lane = at.index_is ∙ ap (count_at C) (sym at.lane_is) in
      record {
        there = at.there;
        outside = le-ltb e.index (count_at C e.lane) (omega arith);
        first = λ d before lane. earlier_below C d e before lane index;
        caused = λ d s. step_below C d e c index (inr s);
      }

  -- so it is next at the state of the cut, and leads to the state of the cut with it
  pub ready_next : (C : List ℕ) (s : StateValue) (l : ℕ) (e : Event) → IsConsistent (events_of r) C → IsStateAt (service_of r) (start_of r) (events_of r) C s → l < length C → IsEventAt r l (count_at C l) e → IsCovered r C e → Leads r C s l e
  ready_next C s l e cut at wide here c =
      let g : GoesOn (service_of r) (start_of r) (events_of r) C s e =
      enabled_events_go_on (service_of r) (start_of r) ok.last s (events_of r) (causes_of r) C e ok.good ok.sound ok.runs ok.right cut at (subst (λ (x : ℕ). x < length C) (sym here.lane_is) wide) (enabled C l e here c) in
      let same : counted C e ≡ slice_set C l (count_at C l + 1) = rw (here.lane_is, here.index_is) refl in
      record {
        state = g.state;
        goes = g.next;
        at = subst (λ (D : List ℕ). IsStateAt (service_of r) (start_of r) (events_of r) D g.state) same g.at;
        consistent = subst (IsConsistent (events_of r)) same g.consistent;
      }

  -- what isn't below the cut doesn't have to come before a lane's next event whose causes are
  unordered : (C : List ℕ) (l m : ℕ) (d e : Event) → IsConsistent (events_of r) C → IsEventAt r m (count_at C m) d → IsEventAt r l (count_at C l) e → IsCovered r C e → IsOrdered (events_of r) d e → ⊥
  unordered C l m d e cut hd he ce o =
      let k = ok.right.complete d e o in
      let index : e.index ≡ count_at C e.lane = he.index_is ∙ ap (count_at C) (sym he.lane_is) in
      let out : d.index ≡ count_at C d.lane = hd.index_is ∙ ap (count_at C) (sym hd.lane_is) in
      true≢false (sym (chain_below C d e k.0 cut ce index k.1) ∙ le-ltb d.index (count_at C d.lane) (omega arith))

  -- two lanes' next events whose causes are below the cut don't take one lock, unless they share it
  pub ready_apart : (C : List ℕ) (l m : ℕ) (e d : Event) → IsConsistent (events_of r) C → l ≢ m → IsEventAt r l (count_at C l) e → IsCovered r C e → IsEventAt r m (count_at C m) d → IsCovered r C d
      → (k : ℕ) → TakesExclusive e k → Takes d k → ⊥
  ready_apart C l m e d cut other he ce hd cd k ae ad =
      let differ : e.lane ≢ d.lane = λ z. other (sym he.lane_is ∙ z ∙ hd.lane_is) in
      let f : conflict e d ≡ false = unordered_apart (events_of r) e d he.there hd.there differ (unordered C m l e d cut he hd cd) (unordered C l m d e cut hd he ce) in
      true≢false (sym (((apart_from e d f).locks.both k ae.0 ad.0).0) ∙ takes_no_share e.kind ae.1)

  -- a lane's event with an index is one event
  pub one_event : (l n : ℕ) (e d : Event) → IsEventAt r l n e → IsEventAt r l n d → e ≡ d
  one_event l n e d a b = numbered_once (counts_of (start_of r)) (events_of r) e d numbered a.there b.there (a.lane_is ∙ sym b.lane_is) (a.index_is ∙ sym b.index_is)

  -- ---- the state at a cut

  pub sound_at : (C : List ℕ) (s : StateValue) → IsStateAt (service_of r) (start_of r) (events_of r) C s → IsSound (service_of r) s
  sound_at C s at = run_keeps (service_of r) (start_of r) s (below C (events_of r)) ok.good ok.sound at

  pub variables_long : (C : List ℕ) (s : StateValue) → IsStateAt (service_of r) (start_of r) (events_of r) C s → length s.variables ≡ variables_in r
  variables_long C s at = (sound_at C s at).by.complete.variables

  pub alone : (C : List ℕ) (s : StateValue) → IsStateAt (service_of r) (start_of r) (events_of r) C s → (l m k : ℕ) → HoldsAlone (frame_at s l) k → Holds (frame_at s m) k → l ≡ m
  alone C s at l m k h g = ⊎_elim (λ (z : l ≡ m). z) (λ (z : l ≡ m → ⊥). absurd (g ((sound_at C s at).by.alone l m k z h))) (cases_eq l m)

  -- ---- one event, from a sound state

  module _ (s t : StateValue) (e : Event) (sound : IsSound (service_of r) s) (nx : next (service_of r) s e ≡ Some t) where
    pub local : IsLocal s e t
    local = events_are_local (service_of r) s t e ok.good sound nx

    -- it writes only what its lane holds exclusively then
    pub writes : (x : ℕ) → (value_of t.variables x ≡ value_of s.variables x) ⊎ HoldsAlone (frame_at t e.lane) (guard r x)
    writes x = by (exclusive_by (mode_in_frame (frame_at t e.lane) (guard r x)))
      where
        by : (HoldsAlone (frame_at t e.lane) (guard r x)) ⊎ (HoldsAlone (frame_at t e.lane) (guard r x) → ⊥) → (value_of t.variables x ≡ value_of s.variables x) ⊎ HoldsAlone (frame_at t e.lane) (guard r x)
        by (inl h) = inr h
        by (inr h) = inl ((events_write (service_of r) s t e ok.good sound nx).kept x (ap is_exclusive (sym (mode_held (frame_at t e.lane) (guard r x))) ∙ not_exclusive _ h))

    -- copies of what its lane holds then are enough
    pub record RunsLocal (copies : List ℤ) : Type 0 where
      pub frame : (own_after (service_of r) e.kind (frame_at s e.lane) copies).0 ≡ frame_at t e.lane
      pub wide : length (own_after (service_of r) e.kind (frame_at s e.lane) copies).1 ≡ variables_in r
      pub values : (x : ℕ) → Holds (frame_at t e.lane) (guard r x) → value_of (own_after (service_of r) e.kind (frame_at s e.lane) copies).1 x ≡ value_of t.variables x

    held_may : (x : ℕ) → Holds (frame_at t e.lane) (guard r x) → not (is_free (mode_of (held_at t e.lane) (guard r x))) ≡ true
    held_may x h = by (mode_of (held_at t e.lane) (guard r x)) (λ z. h (mode_held (frame_at t e.lane) (guard r x) ∙ z))
      where
        by : (m : Mode) → (m ≡ Free → ⊥) → not (is_free m) ≡ true
        by Free n = absurd (n refl)
        by Shared n = refl
        by Exclusive n = refl

    pub runs_local : (copies : List ℤ) → length copies ≡ variables_in r → ((x : ℕ) → x < variables_in r → Holds (frame_at t e.lane) (guard r x) → value_of copies x ≡ value_of s.variables x) → RunsLocal copies
    runs_local copies long same =
        let agree : Agree (service_of r) (held_at t e.lane) s.variables copies = record {
          long = sound.by.complete.variables ∙ sym long;
          same = λ x h. by x (may_free _ (subst (λ (m : Mode). not (is_free m) ≡ true) (sym (mode_held (frame_at t e.lane) (guard r x))) h)) (cases_lt x (variables_in r));
        } in
        let a : LeadsAlike (service_of r) s e t copies = events_read (service_of r) s t e copies ok.good sound nx agree in
        let n = next_is (service_of r) (with_variables s copies) e (with_variables t a.later) a.next_is in
        let later : (own_after (service_of r) e.kind (frame_at s e.lane) copies).1 ≡ a.later = ap (λ (z : StateValue). z.variables) n.is in
        record {
          frame = sym (frame_own (service_of r) e.lane e.kind (with_variables s copies) n.enabled.there) ∙ ap (λ (z : StateValue). frame_at z e.lane) n.is;
          wide = ap length later ∙ sym a.agree.long ∙ (next_keeps (service_of r) s t e ok.good sound nx).by.complete.variables;
          values = λ x h. ap (λ (vs : List ℤ). value_of vs x) later ∙ sym (a.agree.same x (held_may x h));
        }
      where
        by : (x : ℕ) → Holds (frame_at t e.lane) (guard r x) → (x < variables_in r) ⊎ (variables_in r ≤ x) → value_of s.variables x ≡ value_of copies x
        by x h (inl q) = sym (same x q h)
        by x h (inr q) = get_or_past s.variables x (pos 0) (let z = sound.by.complete.variables in omega arith) ∙ sym (get_or_past copies x (pos 0) (omega arith))
