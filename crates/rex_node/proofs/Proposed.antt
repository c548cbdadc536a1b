-- An open proposal stays the cut that was proposed last where an event is recorded.
use Rattle.rex_node.proofs.Common.{◌≡◌, ℕ, true, false, cond, not, ◌⊎◌, inl, inr, List, [], ◌∷◌, ◌++◌, refl, sym, ap, subst, ◌∙◌, arith, le_trans, append-nil, Option, Some, None, false≢true, eqb-true, Lcg, Request, Declarations, IsService, Event, count_at, is_below, below, beyond, IsConsistent, IsWithin, StateValue, start_of, run, lane_of, GoesFirst, counts_of, run-then, runs_rise, cuts_go_first, Turn, IsRecorder, Proposal, Value, trace_of, state_after, state_is, trace_push, ActingValue, Executes, IsCutAt, OpenIsCut}
use Rattle.std.proofs.Common.{le-ltb}
use Rattle.std.proofs.lemmas.List.Elements.{filter-append}
use Rattle.rex_event.specs.Order.{Has, Precedes, ConflictsBefore, Chain}
use Rattle.rex_state.specs.Machine.{next}
use Rattle.rex_state.proofs.Keep.{IsNext, next_is}
use Rattle.rex_state.proofs.Run.{run-push, run-first}
use Rattle.rex_state.proofs.Counts.{count_is}
use Rattle.rex_record.specs.declared.turns.Turn.TheVariants as turn
use Rattle.rex_record.specs.Value.{live_after}
use Rattle.rex_record.specs.Value as recorders

-- ---- consistent cuts

has_push : {x e : Event} (es : List Event) → Has x (es ++ e ∷ []) → Has x es ⊎ (e ≡ x)
has_push [] (inl h) = inr h
has_push [] (inr h) = absurd h
has_push (y ∷ ys) (inl h) = inl (inl h)
has_push {x} {e} (y ∷ ys) (inr h) = go (has_push ys h)
  where
    go : Has x ys ⊎ (e ≡ x) → Has x (y ∷ ys) ⊎ (e ≡ x)
    go (inl k) = inl (inr k)
    go (inr k) = inr k

precedes_push : (d : Event) {x e : Event} (es : List Event) → Precedes d x (es ++ e ∷ []) → Precedes d x es ⊎ (e ≡ x)
precedes_push d [] (inl h) = absurd h.1
precedes_push d [] (inr h) = absurd h
precedes_push d {x} {e} (y ∷ ys) (inl h) = go (has_push ys h.1)
  where
    go : Has x ys ⊎ (e ≡ x) → Precedes d x (y ∷ ys) ⊎ (e ≡ x)
    go (inl k) = inl (inl (h.0, k))
    go (inr k) = inr k
precedes_push d {x} {e} (y ∷ ys) (inr h) = go (precedes_push d ys h)
  where
    go : Precedes d x ys ⊎ (e ≡ x) → Precedes d x (y ∷ ys) ⊎ (e ≡ x)
    go (inl k) = inl (inr k)
    go (inr k) = inr k

-- a consistent cut stays one with an event that isn't below it
pub consistent_push : {cut : List ℕ} {es : List Event} (e : Event) → IsConsistent es cut → is_below cut e ≡ false → IsConsistent (es ++ e ∷ []) cut
consistent_push {cut} {es} e c out = record { closed = λ d x o. closed o.0 d x o.1 }
  where
    step : (d x : Event) → ConflictsBefore (es ++ e ∷ []) d x → is_below cut x ≡ true → is_below cut d ≡ true
    step d x s b = go (precedes_push d es s.before)
      where
        go : Precedes d x es ⊎ (e ≡ x) → is_below cut d ≡ true
        go (inl k) = c.closed d x ([], record { before = k; meets = s.meets }) b
        go (inr k) = absurd (false≢true (sym out ∙ ap (is_below cut) k ∙ b))

    closed : (via : List Event) (d x : Event) → Chain (ConflictsBefore (es ++ e ∷ [])) d via x → is_below cut x ≡ true → is_below cut d ≡ true
    closed [] d x s b = step d x s b
    closed (y ∷ ys) d x s b = step d y s.0 (closed ys y x s.1 b)

-- ---- what is below a cut, with one event more that isn't

below_push : (cut : List ℕ) (es : List Event) (e : Event) → is_below cut e ≡ false → below cut (es ++ e ∷ []) ≡ below cut es
below_push cut es e out = filter-append (is_below cut) es (e ∷ []) ∙ ap (λ t. below cut es ++ cond t (e ∷ []) []) out ∙ append-nil (below cut es)

beyond_push : (cut : List ℕ) (es : List Event) (e : Event) → is_below cut e ≡ false → beyond cut (es ++ e ∷ []) ≡ beyond cut es ++ e ∷ []
beyond_push cut es e out = filter-append (λ x. not (is_below cut x)) es (e ∷ []) ∙ ap (λ t. beyond cut es ++ cond (not t) (e ∷ []) []) out

module _ {service : Declarations} (good : IsService service) {values : List Value} {a : ActingValue} (h : Executes service values a) {value : Value} (c : IsCutAt service values a value) where
  -- an event that goes on from the live state isn't below counts that the live ones are not below
  not_below : (counts : List ℕ) (e : Event) {after : StateValue} → IsWithin (counts_of a.recorder.state) counts → next service a.recorder.state e ≡ Some after → is_below counts e ≡ false
  not_below counts e {after} w k =
      let n : IsNext service a.recorder.state e after = next_is service a.recorder.state e after k in
      let index : (lane_of a.recorder.state e.lane).done ≡ e.index = eqb-true _ _ n.index in
      le-ltb e.index (count_at counts e.lane) (omega (arith, w e.lane, count_is a.recorder.state e.lane, index))

  go : GoesFirst service a.recorder.start a.recorder.state a.proposed a.recorder.live
  go = cuts_go_first service _ _ _ _ good h.recorder.sound c.consistent h.recorder.runs

  -- the state after the value
  mid : state_after service (trace_of (values ++ value ∷ [])) ≡ go.state
  mid =
      state_is service _ go.state
      (ap (run service (start_of service)) (trace_push values value)
      ∙ run-then service (start_of service) _ (trace_of values) _ h.known
      ∙ ap (run service a.recorder.start) c.events ∙ go.first)

  mid_within : IsWithin (counts_of a.recorder.state) (counts_of (state_after service (trace_of (values ++ value ∷ []))))
  mid_within = subst (λ s. IsWithin (counts_of a.recorder.state) (counts_of s)) (sym mid) (λ lane. (runs_rise service go.state _ _ go.rest).rise lane)

  -- with one event more
  cut_pushed : (e : Event) {after : StateValue} {queue : List Request} {dice : Lcg} → next service a.recorder.state e ≡ Some after
      → IsCutAt service values (record { recorder = record { start = a.recorder.start; live = a.recorder.live ++ e ∷ []; state = after; queue = queue }; dice = dice; proposed = a.proposed; answers = a.answers }) value
  cut_pushed e {after} k = record {
    consistent = consistent_push e c.consistent out;
    within = λ lane. le_trans (c.within lane) ((runs_rise service a.recorder.state after (e ∷ []) (run-push service _ _ after [] e refl k)).rise lane);
    events = c.events ∙ sym (below_push _ _ e out);
    others =
        beyond_push _ _ e (not_below _ e mid_within k)
        ∙ ap (λ es. es ++ e ∷ []) c.others
        ∙ sym (beyond_push _ _ e out);
  }
    where
      out : is_below a.proposed e ≡ false
      out = not_below _ e c.within k

  -- after an event, or none, whatever the queue is then
  abbrev with_turn : Turn → List Request → Lcg → ActingValue
  with_turn t queue dice = record {
    recorder = record { start = a.recorder.start; live = live_after a.recorder.live t; state = recorders.state_after service a.recorder.state t; queue = queue };
    dice = dice;
    proposed = a.proposed;
    answers = a.answers;
  }

  cut_turned : (t : Turn) {queue : List Request} {dice : Lcg} → IsRecorder service (with_turn t queue dice).recorder → IsCutAt service values (with_turn t queue dice) value
  cut_turned (turn.Done e) {queue} {dice} k =
      let r = run-first service _ _ e [] (sym (run-then service a.recorder.start _ a.recorder.live (e ∷ []) h.recorder.runs) ∙ k.runs) in
      cut_pushed e (r.1 ∙ r.2)
  cut_turned _ k = record { consistent = c.consistent; within = c.within; events = c.events; others = c.others }

-- an open proposal stays the cut that it is
pub open_turned : {service : Declarations} → IsService service → {values : List Value} {a : ActingValue} → Executes service values a → (t : Turn) {queue : List Request} (dice : Lcg)
    → IsRecorder service (record { start = a.recorder.start; live = live_after a.recorder.live t; state = recorders.state_after service a.recorder.state t; queue = queue })
    → (o : Option (Proposal Value)) → OpenIsCut service values a o
    → OpenIsCut service values (record { recorder = record { start = a.recorder.start; live = live_after a.recorder.live t; state = recorders.state_after service a.recorder.state t; queue = queue }; dice = dice; proposed = a.proposed; answers = a.answers }) o
open_turned good h t dice k None c = tt
open_turned {service} good {values} {a} h t {queue} dice k (Some p) c = cut_turned good h c t k
