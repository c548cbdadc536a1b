-- What is enabled at a consistent cut.
use Rattle.std.proofs.Common.{◌≡◌, ◌≢◌, ◌⊎◌, inl, inr, ⊎_elim, ℕ, ◌+◌, ◌<◌, ◌≤◌, arith, Bool, true, false, not, cond, List, [], ◌∷◌, ◌++◌, length, sym, refl, ap, ◌∙◌, subst}
use Rattle.std.specs.Prelude.{nat_lt, Some, IsPermutation}
use Rattle.std.specs.List.{filter}
use Rattle.std.proofs.lemmas.Bool.{cases_eq, cases_lt, cases_Bool, true≢false, ltb-true, lt-ltb}
use Rattle.std.proofs.lemmas.List.Sorted.{IsPermutation-cons, IsPermutation-sym, IsPermutation-to_front}
use Rattle.rex_syntax.specs.declared.service.Declarations.{Declarations}
use Rattle.rex_syntax.specs.Service.{IsService}
use Rattle.rex_event.specs.declared.event.Event.{Event}
use Rattle.rex_event.specs.declared.delta.Cause.{Cause}
use Rattle.rex_event.specs.Order.{Has, Precedes, ConflictsBefore, Chain, IsOrdered}
use Rattle.rex_event.specs.Cuts.{AreNumbered, count_at, counted, is_below, below, beyond, IsConsistent}
use Rattle.rex_event.specs.Causes.{StepsTo, AreRight}
use Rattle.rex_state.specs.Value.{StateValue}
use Rattle.rex_state.specs.Machine.{run}
use Rattle.rex_state.specs.Sound.{IsSound}
use Rattle.rex_state.specs.Counts.{counts_of}
use Rattle.rex_state.proofs.Counts.{runs_count_on}
use Rattle.rex_state.proofs.Run.{run-then, run-first}
use Rattle.rex_clocks.proofs.Leads.{leads_back, precedes_first, precedes_second, precedes_left, precedes_across}
use Rattle.rex_clocks.proofs.Numbered.{counted_same, counted_other, numbered_once}
use Rattle.rex_order.specs.Enabled.{IsStateAt, IsEnabledAt, GoesOn}
use Rattle.rex_order.specs.Extensions.{IsLinearExtension}
use Rattle.rex_order.proofs.Lists.{NoneTwice, chain_forward, has_kept, kept_there, kept_precedes, precedes_kept}
use Rattle.rex_order.proofs.Numbered.{numbered_none, below_none, lower_first}
use Rattle.rex_order.proofs.Extensions.{cuts_run_alike}

one : (es : List Event) (d e : Event) → ConflictsBefore es d e → IsOrdered es d e
one es d e k = ([], k)

-- ---- some event is enabled

-- the first event that isn't below a cut
record First (cut : List ℕ) (es : List Event) : Type 0 where
  event : Event
  there : Has event es
  out : is_below cut event ≡ false
  before : (d : Event) → Precedes d event es → is_below cut d ≡ true

first_by : (cut : List ℕ) (b : Bool) (x : Event) (es : List Event) → is_below cut x ≡ b → (NoneTwice es → filter (λ e. not (is_below cut e)) es ≢ [] → First cut es)
    → NoneTwice (x ∷ es) → cond (not b) (x ∷ beyond cut es) (beyond cut es) ≢ [] → First cut (x ∷ es)
first_by cut false x es k h n m = record { event = x; there = inl refl; out = k; before = none }
  where
    none : (d : Event) → Precedes d x (x ∷ es) → is_below cut d ≡ true
    none d (inl p) = absurd (n.0 p.1)
    none d (inr p) = absurd (n.0 (precedes_second d x es p))
first_by cut true x es k h n m =
    let f = h n.1 m in
    record { event = f.event; there = inr f.there; out = f.out; before = λ d p. by d f.event f.before p }
  where
    by : (d e : Event) → ((y : Event) → Precedes y e es → is_below cut y ≡ true) → Precedes d e (x ∷ es) → is_below cut d ≡ true
    by d e q (inl p) = ap (is_below cut) (sym p.0) ∙ k
    by d e q (inr p) = q d p

first_out : (cut : List ℕ) (es : List Event) → NoneTwice es → beyond cut es ≢ [] → First cut es
first_out cut [] n m = absurd (m refl)
first_out cut (x ∷ es) n m = first_by cut (is_below cut x) x es refl (first_out cut es) n m

pub some_event_is_enabled : (counts : List ℕ) (es : List Event) (causes : List (List Cause)) (cut : List ℕ) → AreNumbered counts es → AreRight es causes → beyond cut es ≢ [] → (e : Event) × IsEnabledAt es causes cut e
some_event_is_enabled counts es causes cut n right m =
    let none = numbered_none counts es n in
    let f = first_out cut es none m in (
      f.event,
      record {
        there = f.there;
        outside = f.out;
        first = λ d p l. f.before d p;
        caused = λ d c. let o = right.sound d f.event ([], inr c) in f.before d (chain_forward (ConflictsBefore es) es d f.event o.0 none (λ x y k. k.before) o.1);
      },
    )

-- ---- one event more below a cut

last_back : (S : Event → Event → Type 0) (P : Event → Type 0) (d e : Event) (via : List Event) → ((y : Event) → S y e → P y) → ((x y : Event) → S x y → P y → P x) → Chain S d via e → P d
last_back S P d e [] last back h = last d h
last_back S P d e (y ∷ via) last back h = back d y h.0 (last_back S P y e via last back h.1)

less_most : (a b : ℕ) → nat_lt a b ≡ false → b ≤ a
less_most a b h = ⊎_elim (λ (q : a < b). absurd (true≢false (sym (lt-ltb a b q) ∙ h))) (λ (q : b ≤ a). q) (cases_lt a b)

module _ (counts : List ℕ) (es : List Event) (causes : List (List Cause)) (cut : List ℕ) (e : Event) (n : AreNumbered counts es) (right : AreRight es causes) (c : IsConsistent es cut) (long : e.lane < length cut) (r : IsEnabledAt es causes cut e) where
  -- all that has to come before the event is below the cut
  covered : (d : Event) → IsOrdered es d e → is_below cut d ≡ true
  covered d o =
      let l = right.complete d e o in
      last_back (StepsTo es causes) (λ x. is_below cut x ≡ true) d e l.0
      (λ y s. ⊎_elim (λ (a : Precedes y e es × (y.lane ≡ e.lane)). r.first y a.0 a.1) (λ b. r.caused y b) s)
      (λ x y s b. c.closed x y (right.sound x y ([], s)) b)
      l.1

  new_count : count_at (counted cut e) e.lane ≡ e.index + 1
  new_count = counted_same cut e long

  old_count : count_at cut e.lane ≤ e.index
  old_count = less_most e.index (count_at cut e.lane) r.outside

  itself_below : is_below (counted cut e) e ≡ true
  itself_below = lt-ltb _ _ (let q = new_count in omega arith)

  still_below : (x : Event) → is_below cut x ≡ true → is_below (counted cut e) x ≡ true
  still_below x b = ⊎_elim same (λ (q : x.lane ≡ e.lane → ⊥). ap (nat_lt x.index) (counted_other cut e x.lane q) ∙ b) (cases_eq x.lane e.lane)
    where
      same : x.lane ≡ e.lane → is_below (counted cut e) x ≡ true
      same s =
          let new : count_at (counted cut e) x.lane ≡ e.index + 1 = ap (count_at (counted cut e)) s ∙ new_count in
          let old : count_at cut x.lane ≡ count_at cut e.lane = ap (count_at cut) s in
          let less : x.index < count_at cut x.lane = ltb-true _ _ b in
          let most = old_count in
          lt-ltb _ _ (omega arith)

  -- what is below the cut with the event is below the cut, or the event
  new_below : (x : Event) → Has x es → is_below (counted cut e) x ≡ true → (is_below cut x ≡ true) ⊎ (x ≡ e)
  new_below x h b = ⊎_elim same (λ (q : x.lane ≡ e.lane → ⊥). inl (sym (ap (nat_lt x.index) (counted_other cut e x.lane q)) ∙ b)) (cases_eq x.lane e.lane)
    where
      by : x.lane ≡ e.lane → x.index < e.index + 1 → (x.index < e.index) ⊎ (e.index ≤ x.index) → (is_below cut x ≡ true) ⊎ (x ≡ e)
      by s less (inl a) = inl (r.first x (lower_first counts es x e n h r.there s a) s)
      by s less (inr a) = inr (numbered_once counts es x e n h r.there s (omega arith))

      same : x.lane ≡ e.lane → (is_below cut x ≡ true) ⊎ (x ≡ e)
      same s =
          let new : count_at (counted cut e) x.lane ≡ e.index + 1 = ap (count_at (counted cut e)) s ∙ new_count in
          let less : x.index < count_at (counted cut e) x.lane = ltb-true _ _ b in
          by s (omega arith) (cases_lt x.index e.index)

  -- what conflicts with such an event and stands before it is below the cut
  before_below : (x y : Event) → ConflictsBefore es x y → is_below (counted cut e) y ≡ true → is_below cut x ≡ true
  before_below x y k b =
      ⊎_elim (λ (o : is_below cut y ≡ true). c.closed x y (one es x y k) o) (λ (s : y ≡ e). covered x (subst (λ (z : Event). IsOrdered es x z) s (one es x y k)))
      (new_below y (precedes_second x y es k.before) b)

  more_consistent : IsConsistent es (counted cut e)
  more_consistent = record { closed = λ d y o b. leads_back (ConflictsBefore es) (λ z. is_below (counted cut e) z ≡ true) (λ x z k q. still_below x (before_below x z k q)) d y o b }

  other_same : (x : Event) → Has x es → (x ≡ e → ⊥) → is_below (counted cut e) x ≡ is_below cut x
  other_same x h d = by (is_below cut x) refl
    where
      by : (b : Bool) → is_below cut x ≡ b → is_below (counted cut e) x ≡ b
      by true k = still_below x k
      by false k = ⊎_elim (λ (t : is_below (counted cut e) x ≡ true). ⊎_elim (λ (a : is_below cut x ≡ true). absurd (true≢false (sym a ∙ k))) (λ (a : x ≡ e). absurd (d a)) (new_below x h t)) (λ (f : is_below (counted cut e) x ≡ false). f) (cases_Bool (is_below (counted cut e) x))

-- ---- tests that differ at one place

filter_same : (keep more : Event → Bool) (es : List Event) → ((x : Event) → Has x es → more x ≡ keep x) → filter more es ≡ filter keep es
filter_same keep more [] h = refl
filter_same keep more (x ∷ es) h = rw (h x (inl refl), filter_same keep more es (λ y b. h y (inr b))) refl

module _ (keep more : Event → Bool) (e : Event) (out : keep e ≡ false) (kept : more e ≡ true) where
  same_by : (b : Bool) (x : Event) (xs ys : List Event) → IsPermutation xs (ys ++ e ∷ []) → IsPermutation (cond b (x ∷ xs) xs) (cond b (x ∷ ys) ys ++ e ∷ [])
  same_by true x xs ys p = IsPermutation-cons x xs (ys ++ e ∷ []) p
  same_by false x xs ys p = p

  -- what one test keeps is what the other one does, and one more
  one_more : (es : List Event) → NoneTwice es → Has e es → ((x : Event) → Has x es → (x ≡ e → ⊥) → more x ≡ keep x) → IsPermutation (filter more es) (filter keep es ++ e ∷ [])
  one_more [] none h same = absurd h
  one_more (x ∷ es) none (inl is) same =
      let rest : filter more es ≡ filter keep es = filter_same keep more es (λ y b. same y (inr b) (λ q. none.0 (subst (λ (z : Event). Has z es) (q ∙ sym is) b))) in
      let a : keep x ≡ false = ap keep is ∙ out in
      let b : more x ≡ true = ap more is ∙ kept in
      rw (a, b, rest, is) (IsPermutation-sym _ _ (IsPermutation-to_front (filter keep es) e))
  one_more (x ∷ es) none (inr h) same =
      let other : x ≡ e → ⊥ = λ q. none.0 (subst (λ (z : Event). Has z es) (sym q) h) in
      rw (same x (inl refl) other) (same_by (keep x) x (filter more es) (filter keep es) (one_more es none.1 h (λ y b d. same y (inr b) d)))

-- ---- an enabled event is next

-- those below the cut and then the event are a linear extension of those below the cut with it
event_last : (counts : List ℕ) (es : List Event) (causes : List (List Cause)) (cut : List ℕ) (e : Event) → AreNumbered counts es → AreRight es causes → IsConsistent es cut → e.lane < length cut → IsEnabledAt es causes cut e
    → IsLinearExtension (below (counted cut e) es) (below cut es ++ e ∷ [])
event_last counts es causes cut e n right c long r = record { rearranged = moved; kept = λ d y o. chain_forward (ConflictsBefore (below (counted cut e) es)) (below cut es ++ e ∷ []) d y o.0 (below_none counts es (counted cut e) (below cut es ++ e ∷ []) n moved) step o.1 }
  where
    moved : IsPermutation (below (counted cut e) es) (below cut es ++ e ∷ [])
    moved =
        one_more (is_below cut) (is_below (counted cut e)) e r.outside (itself_below counts es causes cut e n right c long r) es (numbered_none counts es n) r.there
        (λ x h d. other_same counts es causes cut e n right c long r x h d)

    step : (x y : Event) → ConflictsBefore (below (counted cut e) es) x y → Precedes x y (below cut es ++ e ∷ [])
    step x y k =
        let b = kept_precedes (is_below (counted cut e)) es x y k.before in
        let w = kept_there (is_below (counted cut e)) es y (precedes_second x y (below (counted cut e) es) k.before) in
        let a : is_below cut x ≡ true = before_below counts es causes cut e n right c long r x y (record { before = b; meets = k.meets }) w.1 in
        ⊎_elim (λ (o : is_below cut y ≡ true). precedes_left x y (below cut es) (e ∷ []) (precedes_kept (is_below cut) es x y a o b))
        (λ (s : y ≡ e). precedes_across x y (below cut es) (e ∷ []) (has_kept (is_below cut) es x a (precedes_first x y es b)) (inl (sym s)))
        (new_below counts es causes cut e n right c long r y w.0 w.1)

pub enabled_events_go_on : (service : Declarations) (s t m : StateValue) (es : List Event) (causes : List (List Cause)) (cut : List ℕ) (e : Event) → IsService service → IsSound service s → run service s es ≡ Some t
    → AreRight es causes → IsConsistent es cut → IsStateAt service s es cut m → e.lane < length cut → IsEnabledAt es causes cut e → GoesOn service s es cut m e
enabled_events_go_on service s t m es causes cut e good sound ran right c at long r =
    let n = (runs_count_on service s t es ran).numbered in
    let consistent : IsConsistent es (counted cut e) = more_consistent (counts_of s) es causes cut e n right c long r in
    let alike = cuts_run_alike service s t es (counted cut e) good sound ran consistent in
    let all = alike.alike (below cut es ++ e ∷ []) (event_last (counts_of s) es causes cut e n right c long r) in
    let last = run-first service m alike.state e [] (sym (run-then service s m (below cut es) (e ∷ []) at) ∙ all) in
    record { state = alike.state; next = last.1 ∙ last.2; at = alike.at; consistent = consistent }
