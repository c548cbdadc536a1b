-- Released replies stand in what is agreed, and in the front of it of which their clients have seen something.
use Rattle.std.proofs.Common.{◌≡◌, ℕ, zero, suc, ◌+◌, ◌≤◌, ◌⊎◌, List, [], ◌∷◌, ◌++◌, length, get_or, take, drop, Some, refl, sym, ◌∙◌, subst, inl, inr, le_refl, append-nil}
use Rattle.std.specs.Prelude.{ℤ, slice_get}
use Rattle.std.specs.List.{All}
use Rattle.std.proofs.lemmas.Option.{same_Some}
use Rattle.rex_ballot.specs.Limits.{most_nodes}
use Rattle.rex_syntax.specs.declared.request.Request.{Request}
use Rattle.rex_syntax.specs.declared.service.Declarations.{Declarations}
use Rattle.rex_syntax.specs.Service.{IsService}
use Rattle.rex_syntax.specs.Check.{IsChecked}
use Rattle.rex_event.specs.declared.event.Event.{Event}
use Rattle.rex_state.specs.Value.{StateValue}
use Rattle.rex_report.specs.declared.effect.Effect.{Effect}
use Rattle.rex_report.specs.declared.effect.Effect.TheVariants as effect
use Rattle.rex_schedule.specs.declared.scenario.ScheduleLine.{ScheduleLine}
use Rattle.rex_schedule.specs.Fits.{RequestFits}
use Rattle.rex_cluster.specs.Quorum.{IsNode}
use Rattle.rex_cluster.specs.Node.{Service, Message}
use Rattle.rex_cluster.specs.Values.{Value, trace_of, service_of}
use Rattle.rex_cluster.specs.World.{World, logs, beginning, step, steps_of, steps, sent_from, row, after_lines, effects_of}
use Rattle.rex_cluster.specs.Agreed.{world_after, known_at, agreed, trace_at}
use Rattle.rex_cluster.specs.Invariant.{Begins, Grows}
use Rattle.rex_safety.specs.Kept.{IsWorld}
use Rattle.rex_cluster.specs.Stands.{Stands}
use Rattle.rex_cluster.specs.Releases.{IsAmong, Moment, node_in, step_moments}
use Rattle.rex_cluster.specs.Takes.{Doing, does, after_doings}
use Rattle.rex_cluster.specs.Takes.Doing.{Does, Takes}
use Rattle.rex_safety.specs.Seeing.{IsTold}
use Rattle.rex_safety.specs.Doings.{world_after_doings, moments_of, moments_of_doings}
use Rattle.rex_cluster.proofs.Saying.{among_either}
use Rattle.rex_safety.proofs.Steps.{step_ok, steps_ok, row_ok, lines_ok, beginning_ok}
use Rattle.rex_safety.proofs.Agreeing.{known_begins, agreed_grows}
use Rattle.rex_safety.proofs.Moments.{step_true, known_run}
use Rattle.rex_cluster.proofs.Replies.{stands_begins}
use Rattle.rex_safety.proofs.Doings.{does_ok, doings_ok}
use Rattle.rex_safety.proofs.Stamps.{stands_front, begins_take}
use Rattle.rex_safety.proofs.Seen.{Rises, told_enough, step_rises, steps_rise, lines_rise, doings_rise, step_stamps}

-- an effect of two lists is in one of them
among_first : (e : Effect) (xs ys : List Effect) → IsAmong e xs → IsAmong e (xs ++ ys)
among_first e [] ys h = absurd h
among_first e (x ∷ xs) ys (inl h) = inl h
among_first e (x ∷ xs) ys (inr h) = inr (among_first e xs ys h)

among_later : (e : Effect) (xs ys : List Effect) → IsAmong e ys → IsAmong e (xs ++ ys)
among_later e [] ys h = h
among_later e (x ∷ xs) ys h = inr (among_later e xs ys h)

-- so is a moment
in_either : (xs ys : List Moment) (i : ℕ) (x : Moment) → slice_get (xs ++ ys) i ≡ Some x → (slice_get xs i ≡ Some x) ⊎ ((k : ℕ) × (slice_get ys k ≡ Some x))
in_either [] ys i x e = inr (i, e)
in_either (y ∷ xs) ys zero x e = inl e
in_either (y ∷ xs) ys (suc i) x e = in_either xs ys i x e

-- ---- released replies

-- a reply stands in the agreed trace, and in the front of it of which its client has seen something
pub record Shown (w : World) (c s : ℕ) (x : ℤ) : Type 0 where
  pub whole : Stands (trace_of (agreed w)) c s x
  pub front : c ≤ 256 → Stands (trace_at w (get_or w.seen c 0)) c s x

module _ (service : Declarations) (good : IsService service) (checked : IsChecked service) (requests : List Request) (fit : All (RequestFits service) requests) (seed n : ℕ) (few : n ≤ most_nodes) where
  abbrev sv : Service Value StateValue
  sv = service_of service seed

  shown_keeps : (w v : World) → IsWorld n sv w → IsWorld n sv v → Grows (logs w) (logs v) → Rises w.seen v.seen → (c s : ℕ) (x : ℤ) → Shown w c s x → Shown v c s x
  shown_keeps w v okw okv g rise c s x h = record {
    whole = stands_begins (agreed w) (agreed v) c s x grown h.whole;
    front = λ l. stands_begins (take (get_or w.seen c 0) (agreed w)) (take (get_or v.seen c 0) (agreed v)) c s x
        (begins_take (agreed w) (agreed v) (get_or w.seen c 0) (get_or v.seen c 0) grown (rise.at c)) (h.front l);
  }
    where
      grown : Begins (agreed w) (agreed v)
      grown = agreed_grows n sv w v okw okv g

  shown_step : (w : World) → IsWorld n sv w → length w.seen ≡ 257 → (x : ScheduleLine) (c s : ℕ) (v : ℤ) → IsAmong (effect.Released c s v) (step service requests seed n w x).effects → Shown (step service requests seed n w x).world c s v
  shown_step w ok long x c s v h = record {
    whole = stands_begins (known_at after_it m) (agreed after_it) c s v begins here;
    front = λ l. stands_begins (take (get_or after_it.seen c 0) (known_at after_it m)) (take (get_or after_it.seen c 0) (agreed after_it)) c s v
        (begins_take (known_at after_it m) (agreed after_it) (get_or after_it.seen c 0) (get_or after_it.seen c 0) begins (le_refl _))
        (stands_front (known_at after_it m) (get_or after_it.seen c 0) c s v (step_stamps service requests seed n w ok.many long x node c s v l h) here);
  }
    where
      after_it : World
      after_it = (step service requests seed n w x).world

      m : ℕ
      m = node_in w x

      okx : IsWorld n sv (step service requests seed n w x).world
      okx = (step_ok service requests seed n few w x ok).0

      node : IsNode n (node_in w x)
      node = ((step_true service good checked seed n requests fit w ok.many x).each c s v h).0

      here : Stands (trace_of (known_at (step service requests seed n w x).world (node_in w x))) c s v
      here = ((step_true service good checked seed n requests fit w ok.many x).each c s v h).2 (known_run service good checked requests fit seed n few (step service requests seed n w x).world okx (node_in w x) node)

      begins : Begins (known_at (step service requests seed n w x).world (node_in w x)) (agreed (step service requests seed n w x).world)
      begins = known_begins n sv (step service requests seed n w x).world okx (node_in w x) node

  -- what a step and later ones release
  both_show : (w : World) → IsWorld n sv w → length w.seen ≡ 257 → (x : ScheduleLine) (xs : List ScheduleLine) (c s : ℕ) (v : ℤ)
      → (IsAmong (effect.Released c s v) (steps service requests seed n (step service requests seed n w x).world xs).effects → Shown (steps service requests seed n (step service requests seed n w x).world xs).world c s v)
      → IsAmong (effect.Released c s v) (step service requests seed n w x).effects ⊎ IsAmong (effect.Released c s v) (steps service requests seed n (step service requests seed n w x).world xs).effects
      → Shown (steps service requests seed n (step service requests seed n w x).world xs).world c s v
  both_show w ok long x xs c s v again (inr k) = again k
  both_show w ok long x xs c s v again (inl k) =
      let okx = (step_ok service requests seed n few w x ok).0 in
      let rest = steps_ok service requests seed n few (step service requests seed n w x).world xs okx in
      shown_keeps (step service requests seed n w x).world (steps service requests seed n (step service requests seed n w x).world xs).world okx rest.0 rest.1
      (steps_rise service requests seed n (step service requests seed n w x).world xs) c s v (shown_step w ok long x c s v k)

  steps_show : (w : World) → IsWorld n sv w → length w.seen ≡ 257 → (xs : List ScheduleLine) (c s : ℕ) (v : ℤ) → IsAmong (effect.Released c s v) (steps service requests seed n w xs).effects → Shown (steps service requests seed n w xs).world c s v
  steps_show w ok long [] c s v h = absurd h
  steps_show w ok long (x ∷ xs) c s v h =
      both_show w ok long x xs c s v
      (steps_show (step service requests seed n w x).world (step_ok service requests seed n few w x ok).0 ((step_rises service requests seed n w x).long ∙ long) xs c s v)
      (among_either (effect.Released c s v) (step service requests seed n w x).effects (steps service requests seed n (step service requests seed n w x).world xs).effects h)

  sent_quiet : (number : ℕ) (xs : List (Message Value)) (c s : ℕ) (v : ℤ) → IsAmong (effect.Released c s v) (sent_from number xs) → ⊥
  sent_quiet number [] c s v h = h
  sent_quiet number (x ∷ xs) c s v (inl h) = cc
  sent_quiet number (x ∷ xs) c s v (inr h) = sent_quiet (suc number) xs c s v h

  row_shows : (w : World) → IsWorld n sv w → length w.seen ≡ 257 → (x : ScheduleLine) (c s : ℕ) (v : ℤ) → IsAmong (effect.Released c s v) (row service requests seed n w x).effects → Shown (row service requests seed n w x).world c s v
  row_shows w ok long x c s v h =
      go (among_either (effect.Released c s v) (steps service requests seed n w (steps_of w x)).effects (sent_from (suc (length w.messages)) (drop (length w.messages) (steps service requests seed n w (steps_of w x)).world.messages)) h)
    where
      go : IsAmong (effect.Released c s v) (steps service requests seed n w (steps_of w x)).effects ⊎ IsAmong (effect.Released c s v) (sent_from (suc (length w.messages)) (drop (length w.messages) (steps service requests seed n w (steps_of w x)).world.messages)) → Shown (row service requests seed n w x).world c s v
      go (inl k) = let r = steps_show w ok long (steps_of w x) c s v k in record { whole = r.whole; front = r.front }
      go (inr k) = absurd (sent_quiet (suc (length w.messages)) (drop (length w.messages) (steps service requests seed n w (steps_of w x)).world.messages) c s v k)

  -- what a line and later ones release
  both_lines_show : (w : World) → IsWorld n sv w → length w.seen ≡ 257 → (x : ScheduleLine) (xs : List ScheduleLine) (c s : ℕ) (v : ℤ)
      → (IsAmong (effect.Released c s v) (effects_of service requests seed n (row service requests seed n w x).world xs) → Shown (after_lines service requests seed n (row service requests seed n w x).world xs) c s v)
      → IsAmong (effect.Released c s v) (row service requests seed n w x).effects ⊎ IsAmong (effect.Released c s v) (effects_of service requests seed n (row service requests seed n w x).world xs)
      → Shown (after_lines service requests seed n (row service requests seed n w x).world xs) c s v
  both_lines_show w ok long x xs c s v again (inr k) = again k
  both_lines_show w ok long x xs c s v again (inl k) =
      let okx = (row_ok service requests seed n few w x ok).0 in
      let rest = lines_ok service requests seed n few (row service requests seed n w x).world xs okx in
      shown_keeps (row service requests seed n w x).world (after_lines service requests seed n (row service requests seed n w x).world xs) okx rest.0 rest.1
      (lines_rise service requests seed n (row service requests seed n w x).world xs) c s v (row_shows w ok long x c s v k)

  lines_show : (w : World) → IsWorld n sv w → length w.seen ≡ 257 → (xs : List ScheduleLine) (c s : ℕ) (v : ℤ) → IsAmong (effect.Released c s v) (effects_of service requests seed n w xs) → Shown (after_lines service requests seed n w xs) c s v
  lines_show w ok long [] c s v h = absurd h
  lines_show w ok long (x ∷ xs) c s v h =
      both_lines_show w ok long x xs c s v
      (lines_show (row service requests seed n w x).world (row_ok service requests seed n few w x ok).0 ((steps_rise service requests seed n w (steps_of w x)).long ∙ long) xs c s v)
      (among_either (effect.Released c s v) (row service requests seed n w x).effects (effects_of service requests seed n (row service requests seed n w x).world xs) h)

  pub replies_show : (lines : List ScheduleLine) (c s : ℕ) (v : ℤ) → IsAmong (effect.Released c s v) (effects_of service requests seed n (beginning n) lines) → Shown (world_after service requests seed n lines) c s v
  replies_show lines c s v h = lines_show (beginning n) (beginning_ok service requests seed n few) refl lines c s v h

  pub replies_agreed : (lines : List ScheduleLine) (c s : ℕ) (v : ℤ) → IsAmong (effect.Released c s v) (effects_of service requests seed n (beginning n) lines) → Stands (trace_of (agreed (world_after service requests seed n lines))) c s v
  replies_agreed lines c s v h = (replies_show lines c s v h).whole

  -- ---- the same among events that nodes are handed

  -- what a moment of steps reports, the steps report
  moment_tells : (number : ℕ) (w : World) (xs : List ScheduleLine) (i : ℕ) (x : Moment) (e : Effect) → slice_get (step_moments service requests seed n number w xs) i ≡ Some x → IsAmong e x.effects → IsAmong e (steps service requests seed n w xs).effects
  moment_tells number w [] i x e at h = absurd (cc)
  moment_tells number w (y ∷ ys) zero x e at h =
      among_first e (step service requests seed n w y).effects (steps service requests seed n (step service requests seed n w y).world ys).effects
      (subst (λ (z : Moment). IsAmong e z.effects) (sym (same_Some _ x at)) h)
  moment_tells number w (y ∷ ys) (suc i) x e at h =
      among_later e (step service requests seed n w y).effects (steps service requests seed n (step service requests seed n w y).world ys).effects
      (moment_tells number (step service requests seed n w y).world ys i x e at h)

  doings_show : (w : World) → IsWorld n sv w → length w.seen ≡ 257 → (xs : List Doing) (i : ℕ) (x : Moment) (c s : ℕ) (v : ℤ) → slice_get (moments_of_doings service requests seed n w xs) i ≡ Some x → IsAmong (effect.Released c s v) x.effects → Shown (after_doings service requests seed n w xs) c s v
  doings_show w ok long [] i x c s v at h = absurd (cc)
  doings_show w ok long (y ∷ ys) i x c s v at h =
      go (doings_show after_it okx ((doings_rise service requests seed n w (y ∷ [])).long ∙ long) ys) y refl (in_either (moments_of service requests seed n w y) (moments_of_doings service requests seed n after_it ys) i x at)
    where
      after_it : World
      after_it = does service requests seed n w y

      okx : IsWorld n sv (does service requests seed n w y)
      okx = (does_ok service requests seed n few w y ok).0

      kept : Shown (does service requests seed n w y) c s v → Shown (after_doings service requests seed n (does service requests seed n w y) ys) c s v
      kept k =
          let rest = doings_ok service requests seed n few (does service requests seed n w y) ys okx in
          shown_keeps (does service requests seed n w y) (after_doings service requests seed n (does service requests seed n w y) ys) okx rest.0 rest.1 (doings_rise service requests seed n (does service requests seed n w y) ys) c s v k

      go : ((i : ℕ) (x : Moment) (c s : ℕ) (v : ℤ) → slice_get (moments_of_doings service requests seed n (does service requests seed n w y) ys) i ≡ Some x → IsAmong (effect.Released c s v) x.effects → Shown (after_doings service requests seed n (does service requests seed n w y) ys) c s v)
          → (z : Doing) → z ≡ y → (slice_get (moments_of service requests seed n w z) i ≡ Some x) ⊎ ((k : ℕ) × (slice_get (moments_of_doings service requests seed n (does service requests seed n w y) ys) k ≡ Some x))
          → Shown (after_doings service requests seed n (does service requests seed n w y) ys) c s v
      go again z e (inr k) = again k.0 x c s v k.1 h
      go again (Does l) e (inl k) =
          kept (subst (λ (z : Doing). Shown (does service requests seed n w z) c s v) e
          (let r = steps_show w ok long (steps_of w l) c s v (moment_tells (w.done + 1) w (steps_of w l) i x (effect.Released c s v) k h) in record { whole = r.whole; front = r.front }))
      go again (Takes m e') e (inl k) = absurd (taken_quiet m e' i k)
        where
          taken_quiet : (m : ℕ) (e : Event) (i : ℕ) → slice_get (moments_of service requests seed n w (Takes m e)) i ≡ Some x → ⊥
          taken_quiet m e zero k = subst (λ (z : Moment). IsAmong (effect.Released c s v) z.effects) (sym (same_Some _ x k)) h
          taken_quiet m e (suc i) k = cc

  pub doings_replies_show : (doings : List Doing) (i : ℕ) (x : Moment) (c s : ℕ) (v : ℤ) → slice_get (moments_of_doings service requests seed n (beginning n) doings) i ≡ Some x → IsAmong (effect.Released c s v) x.effects → Shown (world_after_doings service requests seed n doings) c s v
  doings_replies_show doings i x c s v at h = doings_show (beginning n) (beginning_ok service requests seed n few) refl doings i x c s v at h

-- ---- what a client that reads is shown

-- a reply that its client has seen something of stands in the trace of as many deltas as it is told
pub told_shows : (service : Declarations) (w : World) (c s : ℕ) (v : ℤ) → Shown w c s v → c ≤ 256 → (m variable : ℕ) (value : ℤ) (number : ℕ) → IsTold service w m c variable value number → Stands (trace_at w number) c s v
told_shows service w c s v shown l m variable value number t =
    stands_begins (take (get_or w.seen c 0) (agreed w)) (take number (agreed w)) c s v
    (begins_take (agreed w) (agreed w) (get_or w.seen c 0) number ([], append-nil (agreed w)) (told_enough service w m c variable value number t)) (shown.front l)
