-- Where numbers are of 64 bits at the beginning, they stay so, and each cut is faithful.
use Rattle.std.proofs.Common.{◌≡◌, ℕ, zero, suc, ◌+◌, ◌^◌, ◌<◌, ◌≤◌, Bool, true, false, cond, List, [], ◌∷◌, ◌++◌, length, Option, Some, None, refl, ap, subst, arith}
use Rattle.std.specs.Prelude.{map, not, slice_get, nat_le, pos, unwrap_or}
use Rattle.std.specs.List.{All, list_all}
use Rattle.std.proofs.lemmas.Bool.{and_parts}
use Rattle.std.proofs.lemmas.Option.{same_Some}
use Rattle.std.proofs.lemmas.List.Elements.{All-nil, All-head, All-tail, All-push, All-append, All-filter, All-map}
use Rattle.rand_pcg.specs.Lcg.{Lcg}
use Rattle.rand_pcg.specs.Pcg.{pcg32}
use Rattle.rex_ballot.specs.Limits.{most_nodes}
use Rattle.rex_syntax.specs.declared.request.Request.{Request}
use Rattle.rex_syntax.specs.declared.service.Declarations.{Declarations}
use Rattle.rex_syntax.specs.Service.{IsService}
use Rattle.rex_syntax.specs.Check.{IsChecked}
use Rattle.rex_event.specs.declared.event.Event.{Event}
use Rattle.rex_event.specs.Cuts.{is_below}
use Rattle.rex_cut.specs.Greatest.{greatest_cut}
use Rattle.rex_delta.specs.Spelling.{HasTypedKind}
use Rattle.rex_state.specs.Value.{StateValue}
use Rattle.rex_state.specs.Start.{start_of}
use Rattle.rex_state.specs.Machine.{run}
use Rattle.rex_state.specs.Counts.{counts_of}
use Rattle.rex_record.specs.declared.turns.Turn.TheVariants as turn
use Rattle.rex_record.specs.Take.{is_fit}
use Rattle.rex_gate.specs.declared.answer.Answer.{Answer}
use Rattle.rex_gate.specs.declared.answer.Answer.TheVariants as answer
use Rattle.rex_schedule.specs.Fits.{RequestFits, LineFits}
use Rattle.rex_schedule.specs.declared.scenario.ScheduleLine.{ScheduleLine}
use Rattle.rex_schedule.specs.declared.scenario.ScheduleLine.TheVariants as line
use Rattle.rex_cluster.specs.Records.{Proposal, known}
use Rattle.rex_cluster.specs.Node.{Service, Work, is_active}
use Rattle.rex_cluster.specs.Calls.{begin, settle, enough, work_known}
use Rattle.rex_cluster.specs.Values.{Value, spells, runs, events_of, trace_of, state_after, values_fit, service_of}
use Rattle.rex_cluster.specs.Lanes.{Here, CallHere, active_only, submit_request, queue_with, lane_turn, turn_in, live_state, cut, value_at, no_limits, with_limits}
use Rattle.rex_cluster.specs.World.{World, node_at, beginning, if_up, at_node, message_at, step, waiting_from, flush_steps, steps_of, steps, row, after_lines}
use Rattle.rex_safety.specs.Kept.{IsWorld, IsKept}
use Rattle.rex_cluster.specs.Takes.{Doing, DoingFits, taken_in, take_event, take, after_doings}
use Rattle.rex_cluster.specs.Takes.Doing.{Does, Takes}
use Rattle.rex_safety.specs.Doings.{world_after_doings}
use Rattle.rex_syntax.specs.Typed.{ServiceIsTyped, RequestIsTyped}
use Rattle.rex_cluster.specs.Agreed.{world_after}
use Rattle.rex_safety.specs.Rounds.{lines_among}
use Rattle.rex_safety.specs.Faithful.{EachCutIsFaithful, DoingIsTyped}
use Rattle.rex_cluster.proofs.Acting.{fits_front}
use Rattle.rex_safety.proofs.Keeps.{beginning_kept}
use Rattle.rex_safety.proofs.Takes.{doings_kept}
use Rattle.rex_cluster.proofs.Bytes.{spelled_delta}
use Rattle.rex_cluster.proofs.Cutting.{cut_keeps}
use Rattle.rex_safety.proofs.Lawful.{LanesKeep}
use Rattle.rex_safety.proofs.Nodes.{fresh_at}
use Rattle.rex_safety.proofs.Worlds.{node_of_lead}
use Rattle.rex_safety.proofs.Moments.{known_run}
use Rattle.rex_safety.proofs.Steps.{step_ok, beginning_ok}
use Rattle.rex_cluster.proofs.Working.{fresh_work, Works, propose_works, settle_works}
use Rattle.rex_safety.proofs.WorkingWorlds.{AllWorks, only_works, at_works, deliver_works, step_works, fresh_works}
use Rattle.rex_safety.proofs.Doings.{does_ok}
use Rattle.rex_safety.proofs.Spelled.{kept_faithful}
use Rattle.rex_safety.proofs.Typings.{StateIsTyped, TurnIsTyped, run_typed, start_typed, turn_typed, live_typed, queue_typed, word_fits}

-- ---- values that spell deltas are typed

trace_typed : (service : Declarations) (vs : List Value) → list_all (spells service) vs ≡ true → All HasTypedKind (trace_of vs)
trace_typed service [] h = All-nil HasTypedKind
trace_typed service (v ∷ vs) h =
    let p = and_parts (spells service v) (list_all (spells service) vs) h in
    All-append HasTypedKind (events_of v) (trace_of vs) (spelled_delta service v p.0).typed (trace_typed service vs p.1)

module _ (service : Declarations) (good : IsService service) (checked : IsChecked service) (numbers : ServiceIsTyped service) (seed n : ℕ) where
  abbrev sv : Service Value StateValue
  sv = service_of service seed

  -- the state after typed events; the start where they don't run
  state_typed : (es : List Event) → All HasTypedKind es → StateIsTyped (state_after service es)
  state_typed es t = go (run service (start_of service) es) refl
    where
      go : (o : Option StateValue) → run service (start_of service) es ≡ o → StateIsTyped (unwrap_or o (start_of service))
      go None e = start_typed service numbers
      go (Some s) e = run_typed service numbers es (start_of service) s t (start_typed service numbers) e

  -- ---- what an active node works with

  -- its live events and its queued requests are typed
  pub record WorkIsTyped (vs : List Value) (o : Option (Proposal Value)) (w : Work) : Type 0 where
    pub live : All HasTypedKind w.live
    pub queue : All RequestIsTyped w.queue

  pub new_typed : (vs : List Value) (dice : Lcg) → sv.fits vs ≡ true → WorkIsTyped vs None (fresh_work dice)
  new_typed vs dice f = record { live = All-nil HasTypedKind; queue = All-nil RequestIsTyped }

  pub more_typed : (vs : List Value) (p : Proposal Value) (w : Work) → sv.fits (vs ++ p.value ∷ []) ≡ true → (sv.fits vs ≡ true → WorkIsTyped vs (Some p) w) → WorkIsTyped (vs ++ p.value ∷ []) None (work_known sv true (vs ++ p.value ∷ []) w)
  more_typed vs p w f h =
      let a = h (fits_front service good checked vs p.value f) in
      record { live = All-filter (λ e. not (is_below (counts_of (state_after service (trace_of (vs ++ p.value ∷ [])))) e)) HasTypedKind w.live a.live; queue = a.queue }

  -- ---- calls

  module _ (me : ℕ) where
    abbrev pub TypedHere : CallHere → Type 0
    TypedHere d = Works n sv me WorkIsTyped new_typed more_typed d

    active_typed : (t : Bool) (d e : CallHere) → TypedHere d → TypedHere e → TypedHere (active_only t d e)
    active_typed = only_works service seed n WorkIsTyped new_typed more_typed me

    queued_typed : (queue : List Request) (r : Request) (a : Answer) → All RequestIsTyped queue → RequestIsTyped r → All RequestIsTyped (queue_with queue r a)
    queued_typed queue r answer.Queued h t = All-push RequestIsTyped queue r h t
    queued_typed queue r answer.Waiting h t = h
    queued_typed queue r (answer.Released value) h t = h
    queued_typed queue r (answer.Old last) h t = h
    queued_typed queue r (answer.Gap expected) h t = h

    found : (rs : List Request) → All RequestIsTyped rs → (k : ℕ) (r : Request) → slice_get rs k ≡ Some r → RequestIsTyped r
    found [] f k r e = absurd (cc)
    found (y ∷ ys) f zero r e = subst RequestIsTyped (same_Some y r e) (All-head RequestIsTyped y ys f)
    found (y ∷ ys) f (suc k) r e = found ys (All-tail RequestIsTyped y ys f) k r e

    request_typed : (o : Option Request) → ((r : Request) → o ≡ Some r → RequestIsTyped r) → (d : CallHere) → TypedHere d → TypedHere (submit_request service o d)
    request_typed None f d w = record { each = w.each }
    request_typed (Some r) f d w = record { each = λ l e a g. let h = w.each l e a g in record { live = h.live; queue = queued_typed d.node.work.queue r _ h.queue (f r refl) } }

    submit_typed : (requests : List Request) → All RequestIsTyped requests → (k : ℕ) (d : CallHere) → TypedHere d → TypedHere (active_only (is_active d.node.role) d (submit_request service (slice_get requests k) d))
    submit_typed requests t k d w = active_typed (is_active d.node.role) d _ w (request_typed (slice_get requests k) (found requests t k) d w)

    live_state_typed : (x : Here) → values_fit service (known x.log) ≡ true → All HasTypedKind x.work.live → StateIsTyped (live_state service x)
    live_state_typed x f l =
        state_typed (trace_of (known x.log) ++ x.work.live)
        (All-append HasTypedKind (trace_of (known x.log)) x.work.live (trace_typed service (known x.log) (and_parts (list_all (spells service) (known x.log)) (runs service (trace_of (known x.log))) f).0) l)

    lane_typed : (done lane : ℕ) → done < 2 ^ 63 → (d : CallHere) → TypedHere d → TypedHere (active_only (is_active d.node.role) d (lane_turn service done lane d))
    lane_typed done lane short d w =
        active_typed (is_active d.node.role) d _ w
        (record {
          each = λ l e a g.
              let h = w.each l e a g in
              record {
                live = live_typed service numbers d.node.work.live (turn_in service d.node done lane) h.live
                    (turn_typed service numbers (live_state service d.node) (live_state_typed d.node g h.live) (pos done) (pcg32 d.node.work.dice).0 (record { sfits = omega (arith, short) }) (word_fits d.node.work.dice.state) d.node.work.queue h.queue (length d.node.work.live) lane);
                queue = queue_typed d.node.work.queue (turn_in service d.node done lane) h.queue;
              };
        })

    handed_typed : (e : Event) → HasTypedKind e → (d : CallHere) → TypedHere d → TypedHere (active_only (is_active d.node.role) d (take_event service e d))
    handed_typed e t d w =
        active_typed (is_active d.node.role) d _ w
        (record {
          each = λ l r a g. let h = w.each l r a g in record { live = live_typed service numbers d.node.work.live (taken_in service d.node e) h.live (taken_typed (nat_le 4096 (length d.node.work.live)) (is_fit service (live_state service d.node) d.node.work.queue e)); queue = h.queue };
        })
      where
        taken_typed : (s f : Bool) → TurnIsTyped service numbers (cond s turn.Full (cond f (turn.Done e) turn.Unfit))
        taken_typed true f = tt
        taken_typed false true = t
        taken_typed false false = tt

    cut_typed : (counts : List ℕ) (d : CallHere) → TypedHere d → TypedHere (cut service seed n me counts d)
    cut_typed counts d w =
        cut_keeps TypedHere service seed n me counts d (record { each = w.each }) (λ i. record { each = w.each }) (record { each = w.each }) (record { each = w.each })
        (λ l e t p i f. propose_works n sv me WorkIsTyped new_typed more_typed _ d l (suc (length (known d.node.log))) (value_at (greatest_cut counts d.node.work.live) d.node.work.live) (settle (enough l.reported) n sv me)
        (λ a g. let h = w.each l e a g in record { live = h.live; queue = h.queue })
        (settle_works n sv me WorkIsTyped new_typed more_typed (enough l.reported)))

  -- ---- worlds

  abbrev pub AllTyped : World → Type 0
  AllTyped w = AllWorks service seed n WorkIsTyped new_typed more_typed w

  at_typed : (w : World) → length w.nodes ≡ n → AllTyped w → (m : ℕ) (call : CallHere → CallHere) → ((d : CallHere) → TypedHere m d → TypedHere m (call d)) → AllTyped (at_node w m call).world
  at_typed = at_works service seed n WorkIsTyped new_typed more_typed

  module _ (requests : List Request) (typed : All RequestIsTyped requests) (few : n ≤ most_nodes) where
    -- a step at a moment at which the clock is of 64 bits
    lanes_typed : (w : World) → w.done < 2 ^ 63 → (x : ScheduleLine) → LanesKeep service requests seed n w TypedHere x
    lanes_typed w short (line.Submit m r) = submit_typed m requests typed r
    lanes_typed w short (line.Lane m lane) = lane_typed m w.done lane short
    lanes_typed w short (line.Cut m) = λ d. cut_typed m (no_limits service d.node) d
    lanes_typed w short (line.CutBelow m limits) = λ d. cut_typed m (with_limits service d.node limits) d
    lanes_typed w short _ = tt

    step_typed : (w : World) → length w.nodes ≡ n → w.done < 2 ^ 63 → AllTyped w → (x : ScheduleLine) → AllTyped (step service requests seed n w x).world
    step_typed w many short h x = step_works service seed n WorkIsTyped new_typed more_typed requests w many h x (lanes_typed w short x)

    -- ---- lines

    delivers_typed : (w : World) → IsWorld n sv w → AllTyped w → (numbers : List ℕ) → AllTyped (steps service requests seed n w (map line.Deliver numbers)).world
    delivers_typed w ok h [] = h
    delivers_typed w ok h (k ∷ ks) =
        delivers_typed (step service requests seed n w (line.Deliver k)).world (step_ok service requests seed n few w (line.Deliver k) ok).0 (deliver_works service seed n WorkIsTyped new_typed more_typed w ok.many h k (message_at w.messages k)) ks

    flushed_typed : (w : World) → IsWorld n sv w → AllTyped w → (numbers : List ℕ) → AllTyped (steps service requests seed n w (flush_steps numbers)).world
    flushed_typed w ok h [] = h
    flushed_typed w ok h (k ∷ ks) = delivers_typed w ok h (k ∷ ks)

    steps_typed : (w : World) → IsWorld n sv w → w.done < 2 ^ 63 → AllTyped w → (x : ScheduleLine) → AllTyped (steps service requests seed n w (steps_of w x)).world
    steps_typed w ok short h line.Flush = flushed_typed w ok h (waiting_from 1 w.handed)
    steps_typed w ok short h x = step_typed w ok.many short h x

    row_typed : (w : World) → IsWorld n sv w → w.done < 2 ^ 63 → AllTyped w → (x : ScheduleLine) → AllTyped (row service requests seed n w x).world
    row_typed w ok short h x = steps_typed w ok short h x

    take_typed : (w : World) → IsWorld n sv w → AllTyped w → (m : ℕ) (e : Event) → HasTypedKind e → AllTyped (take service w m e)
    take_typed w ok h m e t = at_typed w ok.many h m _ (λ d k. handed_typed m e t d k)

    take_done : (w : World) (m : ℕ) (e : Event) → (take service w m e).done ≡ w.done
    take_done w m e = go (node_at w.nodes m).up
      where
        go : (t : Bool) → (if_up t w m (active_only (is_active (node_at w.nodes m).role) (begin (node_at w.nodes m)) (take_event service e (begin (node_at w.nodes m))))).world.done ≡ w.done
        go true = refl
        go false = refl

    doings_typed : (w : World) → IsWorld n sv w → AllTyped w → (xs : List Doing) → All DoingIsTyped xs → w.done + lines_among xs ≤ 2 ^ 63 → AllTyped (after_doings service requests seed n w xs)
    doings_typed w ok h [] t l = h
    doings_typed w ok h (Does x ∷ xs) t l =
        doings_typed (row service requests seed n w x).world (does_ok service requests seed n few w (Does x) ok).0 (row_typed w ok (omega arith) h x) xs (All-tail DoingIsTyped (Does x) xs t) (omega arith)
    doings_typed w ok h (Takes m e ∷ xs) t l =
        doings_typed (take service w m e) (does_ok service requests seed n few w (Takes m e) ok).0 (take_typed w ok h m e (All-head DoingIsTyped (Takes m e) xs t).numbers) xs (All-tail DoingIsTyped (Takes m e) xs t)
        (omega (arith, l, take_done w m e))

    module _ (fit : All (RequestFits service) requests) (doings : List Doing) (there : All (DoingFits n (length requests) service.lanes) doings) (hands : All DoingIsTyped doings) (short : lines_among doings ≤ 2 ^ 63) where
      abbrev reached : World
      reached = world_after_doings service requests seed n doings

      kept : IsKept service seed n reached
      kept = doings_kept service good checked requests fit seed n few (beginning n) doings there (beginning_kept service good checked requests fit seed n few)

      all : AllTyped reached
      all = doings_typed (beginning n) (beginning_ok service requests seed n few) (λ m. fresh_works service seed n WorkIsTyped new_typed more_typed m (node_at (beginning n).nodes m) (fresh_at Value StateValue n m)) doings hands (omega (arith, short))

      pub doings_faithful : EachCutIsFaithful service seed reached
      doings_faithful m l e a counts are some =
          let known = known_run service good checked requests fit seed n few reached kept.world m (node_of_lead n sv reached kept.world m l e) in
          kept_faithful service good checked seed n reached kept m l e a counts are some
          (All-filter (is_below (greatest_cut counts (node_at reached.nodes m).work.live)) HasTypedKind (node_at reached.nodes m).work.live ((all m).each l e a known).live)

-- ---- lines alone

lines_are_doings : (service : Declarations) (requests : List Request) (seed n : ℕ) (w : World) (lines : List ScheduleLine) → after_doings service requests seed n w (map Does lines) ≡ after_lines service requests seed n w lines
lines_are_doings service requests seed n w [] = refl
lines_are_doings service requests seed n w (x ∷ xs) = lines_are_doings service requests seed n (row service requests seed n w x).world xs

as_many : (lines : List ScheduleLine) → lines_among (map Does lines) ≡ length lines
as_many [] = refl
as_many (x ∷ xs) = ap suc (as_many xs)

module _ (service : Declarations) (good : IsService service) (checked : IsChecked service) (numbers : ServiceIsTyped service) (requests : List Request) (seed n : ℕ) (few : n ≤ most_nodes) where
  pub lines_faithful : (lines : List ScheduleLine) → All (RequestFits service) requests → All RequestIsTyped requests → All (LineFits n (length requests) service.lanes) lines → length lines ≤ 2 ^ 63 → EachCutIsFaithful service seed (world_after service requests seed n lines)
  lines_faithful lines fit typed there short =
      subst (EachCutIsFaithful service seed) (lines_are_doings service requests seed n (beginning n) lines)
      (doings_faithful service good checked numbers seed n requests typed few fit (map Does lines) (All-map (DoingFits n (length requests) service.lanes) Does lines there)
      (All-map DoingIsTyped Does lines (λ i d l. record { numbers = tt })) (omega (arith, short, as_many lines)))
