-- A reply that a step releases stands in what its node knows, and the node is active.
use Rattle.std.proofs.Common.{◌≡◌, ℕ, zero, suc, Bool, true, false, ◌⊎◌, List, [], ◌∷◌, ◌++◌, length, Option, Some, None, refl, sym, ◌∙◌, ap, subst, inl, inr, append-nil, append_assoc, take, drop, take-append-drop}
use Rattle.std.specs.Prelude.{map, slice_get, ℤ, is_some, unwrap_or}
use Rattle.std.proofs.lemmas.Bool.{false≢true, and_parts}
use Rattle.rex_syntax.specs.declared.request.Request.{Request}
use Rattle.rex_syntax.specs.declared.service.Declarations.{Declarations}
use Rattle.rex_event.specs.declared.event.Event.{Event}
use Rattle.rex_cut.specs.Greatest.{greatest_cut}
use Rattle.rex_state.specs.Value.{StateValue}
use Rattle.rex_record.specs.declared.turns.Turn.{Turn}
use Rattle.rex_report.specs.declared.effect.Effect.{Effect}
use Rattle.rex_cluster.specs.Records.{known}
use Rattle.rex_cluster.specs.Node.{is_active, role_name}
use Rattle.rex_cluster.specs.Calls.{say, enough}
use Rattle.rex_cluster.specs.Values.{Value, service_of, spells, runs, trace_of, events_of, state_after, values_fit, replies_of, release_effect}
use Rattle.rex_cluster.specs.Lanes.{CallHere, active_only, submit_request, effect_of, lane_turn, cut, value_at, known_state, live_state, turn_effect, turn_in}
use Rattle.std.specs.List.{All, list_all}
use Rattle.std.proofs.lemmas.List.Elements.{All-head, All-tail}
use Rattle.std.proofs.lemmas.Option.{same_Some}
use Rattle.rex_syntax.specs.Service.{IsService}
use Rattle.rex_syntax.specs.Check.{IsChecked}
use Rattle.rex_state.specs.Start.{start_of}
use Rattle.rex_state.specs.Machine.{run, run_from, entry_at}
use Rattle.rex_state.specs.Sound.{IsSound}
use Rattle.rex_state.proofs.Run.{run-append}
use Rattle.rex_state.proofs.Sounds.{run_keeps, start_keeps}
use Rattle.rex_record.specs.Value.{queued_in, releases}
use Rattle.rex_schedule.specs.Fits.{RequestFits}
use Rattle.rex_gate.specs.Answer.{answer_to}
use Rattle.rex_cluster.specs.Stands.{Stands}
use Rattle.rex_cluster.specs.Releases.{IsAmong}
use Rattle.rex_cluster.specs.Invariant.{Begins}
use Rattle.rex_cluster.proofs.Traces.{stands_more}
use Rattle.rex_cluster.proofs.Released.{releases_stand, answer_released, answer_stands}
use Rattle.rex_cluster.proofs.Told.{AreTold, told_from_start}
use Rattle.rex_cluster.proofs.Cutting.{cut_keeps}
use Rattle.rex_cluster.proofs.Saying.{Quiet, Other, Says, quiet_push, quiet_says, say_says, cut_says, among_either}
use Rattle.rex_report.specs.declared.effect.Effect.TheVariants as effect
use Rattle.rex_record.specs.declared.turns.Turn.TheVariants as turn

-- ---- traces of values

pub trace_both : (xs ys : List Value) → trace_of (xs ++ ys) ≡ trace_of xs ++ trace_of ys
trace_both [] ys = refl
trace_both (x ∷ xs) ys = ap (λ es. events_of x ++ es) (trace_both xs ys) ∙ sym (append_assoc (events_of x) (trace_of xs) (trace_of ys))

-- what stands in the trace of a list stands in that of each that it begins
pub stands_begins : (xs ys : List Value) (client sequence : ℕ) (value : ℤ) → Begins xs ys → Stands (trace_of xs) client sequence value → Stands (trace_of ys) client sequence value
stands_begins xs ys client sequence value b h =
    subst (λ (vs : List Value). Stands (trace_of vs) client sequence value) b.1
    (subst (λ (es : List Event). Stands es client sequence value) (sym (trace_both xs b.0)) (stands_more (trace_of xs) (trace_of b.0) client sequence value h))

pub trace_push : (xs : List Value) (v : Value) → trace_of (xs ++ v ∷ []) ≡ trace_of xs ++ events_of v
trace_push xs v = trace_both xs (v ∷ []) ∙ ap (λ es. trace_of xs ++ es) (append-nil (events_of v))

-- ---- runs

pub some_of : {A : Type 0} (o : Option A) → is_some o ≡ true → (x : A) × (o ≡ Some x)
some_of None e = absurd (false≢true e)
some_of (Some x) e = (x, refl)

pub fits_run : (service : Declarations) (vs : List Value) → values_fit service vs ≡ true → (t : StateValue) × (run service (start_of service) (trace_of vs) ≡ Some t)
fits_run service vs h = some_of (run service (start_of service) (trace_of vs)) (and_parts (list_all (spells service) vs) (runs service (trace_of vs)) h).1

pub run_split : (service : Declarations) (s t : StateValue) (es fs : List Event) → run service s (es ++ fs) ≡ Some t → (u : StateValue) × (run service s es ≡ Some u) × (run service u fs ≡ Some t)
run_split service s t es fs h = go (run service s es) refl
  where
    go : (o : Option StateValue) → run service s es ≡ o → (u : StateValue) × (run service s es ≡ Some u) × (run service u fs ≡ Some t)
    go (Some u) e = (u, e, sym (ap (λ (o : Option StateValue). run_from service o fs) e) ∙ (sym (run-append service s es fs) ∙ h))
    go None e = absurd (none_is fs (sym (ap (λ (o : Option StateValue). run_from service o fs) e) ∙ (sym (run-append service s es fs) ∙ h)))
      where
        none_is : (xs : List Event) → run_from service None xs ≡ Some t → ⊥
        none_is [] k = cc
        none_is (x ∷ xs) k = cc

pub state_is : (service : Declarations) (es : List Event) (t : StateValue) → run service (start_of service) es ≡ Some t → state_after service es ≡ t
state_is service es t h = ap (λ (o : Option StateValue). unwrap_or o (start_of service)) h

module _ (service : Declarations) (good : IsService service) (checked : IsChecked service) where
  -- the reply stands in the trace of these values, if they run
  abbrev pub StandsIn : List Value → ℕ → ℕ → ℤ → Type 0
  StandsIn vs c s x = values_fit service vs ≡ true → Stands (trace_of vs) c s x

  pub told_values : (vs : List Value) (t : StateValue) → run service (start_of service) (trace_of vs) ≡ Some t → AreTold (trace_of vs) t.clients
  told_values vs t h = told_from_start service (trace_of vs) t good checked h

  pub replies_stand : (before : List Value) (v : Value) (c s : ℕ) (x : ℤ) → IsAmong (effect.Released c s x) (replies_of service before v) → StandsIn (before ++ v ∷ []) c s x
  replies_stand before v c s x among fit =
      let r = fits_run service (before ++ v ∷ []) fit in
      let p = run_split service (start_of service) r.0 (trace_of before) (events_of v) (subst (λ es. run service (start_of service) es ≡ Some r.0) (trace_push before v) r.1) in
      let sound : IsSound service p.0 = run_keeps service (start_of service) p.0 (trace_of before) good (start_keeps service good checked) p.1 in
      subst (λ es. Stands es c s x) (sym (trace_push before v))
      (releases_stand service (trace_of before) (events_of v) p.0 r.0 c s x good sound (told_values before p.0 p.1) p.2
      (subst (λ (u : StateValue). IsAmong (effect.Released c s x) (map release_effect (releases u.clients (events_of v)))) (state_is service (trace_of before) p.0 p.1) among))

module _ (service : Declarations) (good : IsService service) (checked : IsChecked service) (seed n me : ℕ) where
  abbrev pub SaysHere : CallHere → Type 0
  SaysHere d = Says n (service_of service seed) me (StandsIn service good checked) (replies_stand service good checked) d

  abbrev pub quietly : (d : CallHere) → Quiet d.effects → SaysHere d
  quietly d q = quiet_says n (service_of service seed) me (StandsIn service good checked) (replies_stand service good checked) d q

  -- ---- submit

  answered_says : (r : Request) → RequestFits service r → (d : CallHere) → Quiet d.effects → is_active d.node.role ≡ true → SaysHere (submit_request service (Some r) d)
  answered_says r fit d q a = record { each = each }
    where
      told : Effect
      told = effect_of r (answer_to r (queued_in d.node.work.queue r.client) (live_state service d.node).clients (known_state service d.node).clients)

      each : (c s : ℕ) (x : ℤ) → IsAmong (effect.Released c s x) (d.effects ++ told ∷ []) → (is_active d.node.role ≡ true) × StandsIn service good checked (known d.node.log) c s x
      each c s x h = (a, λ fit. stands (among_either (effect.Released c s x) d.effects (told ∷ []) h) (fits_run service (known d.node.log) fit))
        where
          stands : IsAmong (effect.Released c s x) d.effects ⊎ IsAmong (effect.Released c s x) (told ∷ []) → (t : StateValue) × (run service (start_of service) (trace_of (known d.node.log)) ≡ Some t) → Stands (trace_of (known d.node.log)) c s x
          stands (inl y) t = absurd (q c s x y)
          stands (inr (inr y)) t = absurd y
          stands (inr (inl y)) t =
              answer_stands (trace_of (known d.node.log)) (known_state service d.node).clients r c s x
              (subst (λ (u : StateValue). AreTold (trace_of (known d.node.log)) u.clients) (sym (state_is service (trace_of (known d.node.log)) t.0 t.1)) (told_values service good checked (known d.node.log) t.0 t.1))
              fit.sequence
              (answer_released r (queued_in d.node.work.queue r.client) (entry_at (live_state service d.node).clients r.client) (entry_at (known_state service d.node).clients r.client) c s x y)

  not_active_says : (d : CallHere) → Quiet d.effects → SaysHere (say (effect.NotActive (role_name d.node.role)) d)
  not_active_says d q = say_says n (service_of service seed) me (StandsIn service good checked) (replies_stand service good checked) _ d q (λ c s x e. cc)

  pub submit_says : (requests : List Request) → All (RequestFits service) requests → (number : ℕ) (d : CallHere) → Quiet d.effects → SaysHere (active_only (is_active d.node.role) d (submit_request service (slice_get requests number) d))
  submit_says requests fit number d q = by (is_active d.node.role) refl (slice_get requests number) (found requests fit number)
    where
      found : (rs : List Request) → All (RequestFits service) rs → (k : ℕ) → (r : Request) → slice_get rs k ≡ Some r → RequestFits service r
      found [] f k r e = absurd (cc)
      found (y ∷ ys) f zero r e = subst (RequestFits service) (same_Some y r e) (All-head (RequestFits service) y ys f)
      found (y ∷ ys) f (suc k) r e = found ys (All-tail (RequestFits service) y ys f) k r e

      by : (t : Bool) → is_active d.node.role ≡ t → (o : Option Request) → ((r : Request) → o ≡ Some r → RequestFits service r) → SaysHere (active_only t d (submit_request service o d))
      by false a o f = not_active_says d q
      by true a None f = say_says n (service_of service seed) me (StandsIn service good checked) (replies_stand service good checked) effect.Nothing d q (λ c s x e. cc)
      by true a (Some r) f = answered_says r (f r refl) d q a

  -- ---- lanes and cuts

  turn_other : (lane : ℕ) (t : Turn) → Other (turn_effect lane t)
  turn_other lane (turn.Done e) c s x h = cc
  turn_other lane turn.Full c s x h = cc
  turn_other lane turn.Idle c s x h = cc
  turn_other lane (turn.Held by) c s x h = cc
  turn_other lane (turn.Zero semaphore) c s x h = cc
  turn_other lane turn.Unsignalled c s x h = cc
  turn_other lane turn.Unfit c s x h = cc

  pub turn_says : (done lane : ℕ) (d : CallHere) → Quiet d.effects → SaysHere (active_only (is_active d.node.role) d (lane_turn service done lane d))
  turn_says done lane d q = by (is_active d.node.role)
    where
      by : (t : Bool) → SaysHere (active_only t d (lane_turn service done lane d))
      by false = not_active_says d q
      by true = quietly (lane_turn service done lane d) (quiet_push d.effects (turn_effect lane (turn_in service d.node done lane)) q (turn_other lane (turn_in service d.node done lane)))

  pub cut_tells : (counts : List ℕ) (d : CallHere) → Quiet d.effects → SaysHere (cut service seed n me counts d)
  cut_tells counts d q =
      cut_keeps SaysHere service seed n me counts d (tells effect.Nothing (λ c s x e. cc)) (λ i. tells (effect.Open i) (λ c s x e. cc)) (tells effect.Ended (λ c s x e. cc)) (not_active_says d q)
      (λ l r a p i f. cut_says n (service_of service seed) me (StandsIn service good checked) (replies_stand service good checked) _ d l (suc (length (known d.node.log))) (value_at (greatest_cut counts d.node.work.live) d.node.work.live) (enough l.reported) (λ c s x e. cc) q)
    where
      tells : (e : Effect) → Other e → SaysHere (say e d)
      tells e o = say_says n (service_of service seed) me (StandsIn service good checked) (replies_stand service good checked) e d q o

-- the first values run
pub front_runs : (service : Declarations) (n : ℕ) (vs : List Value) → values_fit service vs ≡ true → (s : StateValue) × (run service (start_of service) (trace_of (take n vs)) ≡ Some s)
front_runs service n vs h =
    let r = fits_run service vs h in
    let parts : trace_of vs ≡ trace_of (take n vs) ++ trace_of (drop n vs) = ap trace_of (sym (take-append-drop n vs)) ∙ trace_both _ _ in
    let q = run_split service (start_of service) r.0 (trace_of (take n vs)) (trace_of (drop n vs)) (ap (run service (start_of service)) (sym parts) ∙ r.1) in
    (q.0, q.1)
