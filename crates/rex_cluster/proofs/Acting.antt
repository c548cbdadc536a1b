-- What an active node works with stays a recorder.
use Rattle.std.proofs.Common.{◌≡◌, ℕ, ◌<◌, ◌≤◌, Bool, true, false, cond, not, List, [], ◌∷◌, ◌++◌, length, refl, sym, ◌∙◌, ap, subst, inl, inr, arith, le_trans, lt-ltb, Option, Some, None}
use Rattle.std.proofs.Common.{le-ltb}
use Rattle.std.specs.Prelude.{ℤ, drop, unwrap_or}
use Rattle.std.specs.List.{All, list_all, filter}
use Rattle.std.proofs.lemmas.Bool.{and_parts, and_from, false≢true, eqb-true}
use Rattle.std.proofs.lemmas.List.Elements.{All-nil, All-push, All-drop, All-filter, filter-append}
use Rattle.std.proofs.lemmas.List.Sums.{length-filter, count_by-le-length}
use Rattle.std.proofs.lemmas.List.{length-map}
use Rattle.rand_pcg.specs.Lcg.{Lcg}
use Rattle.rex_syntax.specs.declared.request.Request.{Request}
use Rattle.rex_syntax.specs.declared.service.Declarations.{Declarations}
use Rattle.rex_syntax.specs.Service.{IsService}
use Rattle.rex_syntax.specs.Check.{IsChecked}
use Rattle.rex_event.specs.Limits.{most_lanes}
use Rattle.rex_event.specs.declared.event.Event.{Event}
use Rattle.rex_event.specs.Order.{Has}
use Rattle.rex_event.specs.Cuts.{count_at, is_below, below, beyond, IsWithin}
use Rattle.rex_cut.specs.Greatest.{greatest_cut, IsCutOf}
use Rattle.rex_cut.proofs.Highest.{greatest_is}
use Rattle.rex_clocks.proofs.Numbered.{numbered_above, numbered_below}
use Rattle.rex_state.specs.Value.{StateValue}
use Rattle.rex_state.specs.Start.{start_of}
use Rattle.rex_state.specs.Machine.{run, next, lane_of}
use Rattle.rex_state.specs.Sound.{IsSound}
use Rattle.rex_state.specs.Commute.{GoesFirst}
use Rattle.rex_state.specs.Counts.{counts_of, done_of, CountsOn}
use Rattle.rex_state.proofs.Keep.{IsNext, next_is}
use Rattle.rex_state.proofs.Run.{run-then, run-push}
use Rattle.rex_state.proofs.Counts.{count_is, runs_count_on, RiseBy, runs_rise}
use Rattle.rex_state.proofs.Sounds.{run_keeps, start_keeps}
use Rattle.rex_state.proofs.Cuts.{cuts_go_first}
use Rattle.rex_record.specs.declared.turns.Turn.{Turn}
use Rattle.rex_record.specs.declared.turns.Turn.TheVariants as turn
use Rattle.rex_record.specs.Turn.{turn_of}
use Rattle.rex_record.specs.Value.{RecorderValue, is_begin, live_after, queue_after, queued_in}
use Rattle.rex_gate.specs.declared.answer.Answer.{Answer}
use Rattle.rex_gate.specs.declared.answer.Answer.TheVariants.{Queued}
use Rattle.rex_gate.specs.Answer.{answer_to}
use Rattle.rex_record.specs.Kept.{IsRecorder, AreQueued}
use Rattle.rex_record.specs.Laws.{GoesOn as LaneGoesOn}
use Rattle.rex_record.proofs.Goes.{turn_goes_on}
use Rattle.rex_schedule.specs.Fits.{RequestFits}
use Rattle.rex_cluster.specs.Records.{Proposal}
use Rattle.rex_cluster.specs.Node.{Work}
use Rattle.rex_cluster.specs.Calls.{work_known}
use Rattle.rex_cluster.specs.Values.{Value, spells, runs, events_of, trace_of, state_after, values_fit, still_live, service_of}
use Rattle.rex_cluster.specs.Same.{same_events}
use Rattle.rex_cluster.specs.Lanes.{queue_with, value_at, is_faithful}
use Rattle.rex_cluster.specs.Clients.{HasClient}
use Rattle.rex_cluster.specs.Acting.{GoesOn, OpenGoesOn, IsActing}
use Rattle.rex_cluster.proofs.Replies.{trace_push, fits_run, run_split, state_is}
use Rattle.rex_cluster.proofs.Clients.{unused_next, done_client, values_unused}
use Rattle.rex_cluster.proofs.Queues.{queue_after_answer}
use Rattle.rex_cluster.proofs.Sames.{events_are}
use Rattle.rex_cluster.proofs.Working.{fresh_work}

-- ---- lists

has_filter : (p : Event → Bool) (es : List Event) (e : Event) → Has e es → p e ≡ true → Has e (filter p es)
has_filter p [] e h t = h
has_filter p (x ∷ xs) e (inl s) t = go (p x) (ap p s ∙ t)
  where
    go : (b : Bool) → b ≡ true → Has e (cond b (x ∷ filter p xs) (filter p xs))
    go true f = inl s
    go false f = absurd (false≢true f)
has_filter p (x ∷ xs) e (inr h) t = go (p x) (has_filter p xs e h t)
  where
    go : (b : Bool) → Has e (filter p xs) → Has e (cond b (x ∷ filter p xs) (filter p xs))
    go true k = inr k
    go false k = k

filter_same : (p q : Event → Bool) (es : List Event) → ((e : Event) → Has e es → p e ≡ q e) → filter p es ≡ filter q es
filter_same p q [] h = refl
filter_same p q (x ∷ xs) h = go (p x) (q x) (h x (inl refl)) (filter_same p q xs (λ e k. h e (inr k)))
  where
    go : (a b : Bool) → a ≡ b → filter p xs ≡ filter q xs → cond a (x ∷ filter p xs) (filter p xs) ≡ cond b (x ∷ filter q xs) (filter q xs)
    go a b s r = ap (λ t. cond t (x ∷ filter p xs) (filter p xs)) s ∙ ap (λ zs. cond b (x ∷ zs) zs) r

shorter : (p : Event → Bool) (es : List Event) → length (filter p es) ≤ length es
shorter p es = omega (arith, length-filter p es, count_by-le-length p es)

spells_front : (p : Value → Bool) (vs : List Value) (v : Value) → list_all p (vs ++ v ∷ []) ≡ true → list_all p vs ≡ true
spells_front p [] v h = refl
spells_front p (x ∷ xs) v h = let q = and_parts _ _ h in and_from _ _ q.0 (spells_front p xs v q.1)

-- where the events below a cut lead to a state, and the others on from it, they are those past what the lanes did then
module _ (service : Declarations) (start between state : StateValue) (cut : List ℕ) (live : List Event) (first : run service start (below cut live) ≡ Some between) (rest : run service between (beyond cut live) ≡ Some state) where
  low : CountsOn start (below cut live) between
  low = runs_count_on service start between (below cut live) first

  high : CountsOn between (beyond cut live) state
  high = runs_count_on service between state (beyond cut live) rest

  same_at : (e : Event) → Has e live → (t : Bool) → is_below cut e ≡ t → is_below (counts_of between) e ≡ t
  same_at e h true k =
      let i = numbered_below (counts_of start) (below cut live) e low.numbered (has_filter (is_below cut) live e h k) in
      lt-ltb e.index (count_at (counts_of between) e.lane) (subst (λ (cs : List ℕ). e.index < count_at cs e.lane) low.counts i)
  same_at e h false k =
      le-ltb e.index (count_at (counts_of between) e.lane) (numbered_above (counts_of between) (beyond cut live) e high.numbered (has_filter (λ x. not (is_below cut x)) live e h (ap not k)))

  pub beyond_same : beyond (counts_of between) live ≡ beyond cut live
  beyond_same = filter_same (λ e. not (is_below (counts_of between) e)) (λ e. not (is_below cut e)) live (λ e h. ap not (same_at e h (is_below cut e) refl))

-- a count for each lane, between what the lane did before the live events and what it did with them
pub record IsLiveCut (start state : StateValue) (cut : List ℕ) : Type 0 where
  pub long : length cut ≡ length (counts_of start)
  pub from : IsWithin cut (counts_of start)
  pub to : IsWithin (counts_of state) cut

module _ (service : Declarations) (good : IsService service) (checked : IsChecked service) where
  sound_at : (es : List Event) (t : StateValue) → run service (start_of service) es ≡ Some t → IsSound service t
  sound_at es t h = run_keeps service (start_of service) t es good (start_keeps service good checked) h

  -- values that fit do without the last one
  pub fits_front : (vs : List Value) (v : Value) → values_fit service (vs ++ v ∷ []) ≡ true → values_fit service vs ≡ true
  fits_front vs v h =
      let p = and_parts _ _ h in
      let r = fits_run service (vs ++ v ∷ []) h in
      let q = run_split service (start_of service) r.0 (trace_of vs) (events_of v) (subst (λ es. run service (start_of service) es ≡ Some r.0) (trace_push vs v) r.1) in
      and_from _ _ (spells_front (spells service) vs v p.0) (some q.0 q.1)
    where
      some : (t : StateValue) → run service (start_of service) (trace_of vs) ≡ Some t → runs service (trace_of vs) ≡ true
      some t e = ap is_there e
        where
          is_there : Option StateValue → Bool
          is_there None = false
          is_there (Some x) = true

  -- ---- queued requests

  fits_with : (queue : List Request) (r : Request) (told : Answer) → RequestFits service r → All (RequestFits service) queue → All (RequestFits service) (queue_with queue r told)
  fits_with queue r Queued f h = All-push (RequestFits service) queue r h f
  fits_with queue r _ f h = h

  queue_fits : (queue : List Request) (t : Bool) → All (RequestFits service) queue → All (RequestFits service) (cond t (drop 1 queue) queue)
  queue_fits queue true h = All-drop (RequestFits service) 1 queue h
  queue_fits queue false h = h

  -- ---- a node becomes active

  pub acting_new : (vs : List Value) (dice : Lcg) → values_fit service vs ≡ true → IsActing service vs None (fresh_work dice)
  acting_new vs dice fit =
      let r = fits_run service vs fit in
      record {
        start = r.0;
        state = r.0;
        known_runs = r.1;
        recorder = record { sound = sound_at (trace_of vs) r.0 r.1; runs = refl; few = omega arith; queue = tt };
        goes_on = tt;
        requests = All-nil (RequestFits service);
        clients = All-nil HasClient;
        unused = values_unused service vs r.0 (and_parts _ _ fit).0 r.1;
      }

  -- ---- a value becomes known

  pub acting_known : (seed : ℕ) (vs : List Value) (p : Proposal Value) (w : Work) → values_fit service (vs ++ p.value ∷ []) ≡ true → (values_fit service vs ≡ true → IsActing service vs (Some p) w) → IsActing service (vs ++ p.value ∷ []) None (work_known (service_of service seed) true (vs ++ p.value ∷ []) w)
  acting_known seed vs p w fit h =
      let a = h (fits_front vs p.value fit) in
      let g = a.goes_on in
      let runs' : run service (start_of service) (trace_of (vs ++ p.value ∷ [])) ≡ Some g.between =
      subst (λ es. run service (start_of service) es ≡ Some g.between) (sym (trace_push vs p.value)) (run-then service (start_of service) a.start (trace_of vs) (events_of p.value) a.known_runs ∙ g.first) in
      let few : length w.live ≤ 4096 = a.recorder.few in
      record {
        start = g.between;
        state = a.state;
        known_runs = runs';
        recorder = record {
          sound = sound_at (trace_of (vs ++ p.value ∷ [])) g.between runs';
          runs = g.rest;
          few = le_trans (shorter (λ e. not (is_below (counts_of (state_after service (trace_of (vs ++ p.value ∷ [])))) e)) w.live) few;
          queue = a.recorder.queue;
        };
        goes_on = tt;
        requests = a.requests;
        clients = All-filter (λ (e : Event). not (is_below (counts_of (state_after service (trace_of (vs ++ p.value ∷ [])))) e)) HasClient w.live a.clients;
        unused = a.unused;
      }

  -- ---- the states of a node

  module _ (vs : List Value) (o : Option (Proposal Value)) (w : Work) (a : IsActing service vs o w) where
    pub known_is : state_after service (trace_of vs) ≡ a.start
    known_is = state_is service (trace_of vs) a.start a.known_runs

    pub live_runs : run service (start_of service) (trace_of vs ++ w.live) ≡ Some a.state
    live_runs = run-then service (start_of service) a.start (trace_of vs) w.live a.known_runs ∙ a.recorder.runs

    pub live_is : state_after service (trace_of vs ++ w.live) ≡ a.state
    live_is = state_is service (trace_of vs ++ w.live) a.state live_runs

    live_sound : IsSound service a.state
    live_sound = sound_at (trace_of vs ++ w.live) a.state live_runs

    -- ---- submit

    pub acting_answered : (r : Request) (known : StateValue) → RequestFits service r
        → IsActing service vs o (record w { queue = queue_with w.queue r (answer_to r (queued_in w.queue r.client) (state_after service (trace_of vs ++ w.live)).clients known.clients) })
    acting_answered r known fit = record {
      start = a.start;
      state = a.state;
      known_runs = a.known_runs;
      goes_on = a.goes_on;
      requests = fits_with w.queue r _ fit a.requests;
      clients = a.clients;
      unused = a.unused;
      recorder = record {
        sound = a.recorder.sound;
        runs = a.recorder.runs;
        few = a.recorder.few;
        queue = subst (λ (s : StateValue). AreQueued service a.state (queue_with w.queue r (answer_to r (queued_in w.queue r.client) s.clients known.clients))) (sym live_is)
            (queue_after_answer service a.state w.queue r known.clients fit live_sound.by.complete.clients a.recorder.queue);
      };
    }

    -- ---- lane

    -- an event that goes on from the live state isn't below the counts of an earlier one
    not_below : (mid : StateValue) (es : List Event) (e : Event) (after : StateValue) → run service mid es ≡ Some a.state → next service a.state e ≡ Some after → is_below (counts_of mid) e ≡ false
    not_below mid es e after h k =
        let n : IsNext service a.state e after = next_is service a.state e after k in
        let index : (lane_of a.state e.lane).done ≡ e.index = eqb-true _ _ n.index in
        le-ltb e.index (count_at (counts_of mid) e.lane) (omega (arith, (runs_rise service mid a.state es h).rise e.lane, count_is a.state e.lane, index))

    pub goes_on_with : (e : Event) (after : StateValue) → next service a.state e ≡ Some after → (q : Option (Proposal Value)) → OpenGoesOn service vs a.start a.state w.live q → OpenGoesOn service vs a.start after (w.live ++ e ∷ []) q
    goes_on_with e after k None h = tt
    goes_on_with e after k (Some p) h = record {
      between = h.between;
      first = h.first;
      rest = subst (λ es. run service h.between es ≡ Some after) (sym more) (run-push service h.between a.state after (still_live service (vs ++ p.value ∷ []) w.live) e h.rest k);
    }
      where
        counts : List ℕ
        counts = counts_of (state_after service (trace_of (vs ++ p.value ∷ [])))

        mid : state_after service (trace_of (vs ++ p.value ∷ [])) ≡ h.between
        mid = state_is service (trace_of (vs ++ p.value ∷ [])) h.between
            (subst (λ es. run service (start_of service) es ≡ Some h.between) (sym (trace_push vs p.value)) (run-then service (start_of service) a.start (trace_of vs) (events_of p.value) a.known_runs ∙ h.first))

        stays : filter (λ e. not (is_below (counts_of (state_after service (trace_of (vs ++ p.value ∷ [])))) e)) (e ∷ []) ≡ e ∷ []
        stays = ap (λ t. cond (not t) (e ∷ []) []) (subst (λ (s : StateValue). is_below (counts_of s) e ≡ false) (sym mid) (not_below h.between (still_live service (vs ++ p.value ∷ []) w.live) e after h.rest k))

        more : still_live service (vs ++ p.value ∷ []) (w.live ++ e ∷ []) ≡ still_live service (vs ++ p.value ∷ []) w.live ++ e ∷ []
        more = filter-append (λ e. not (is_below (counts_of (state_after service (trace_of (vs ++ p.value ∷ [])))) e)) w.live (e ∷ []) ∙ ap (λ es. still_live service (vs ++ p.value ∷ []) w.live ++ es) stays

    recorder : RecorderValue
    recorder = record { start = a.start; live = w.live; state = a.state; queue = w.queue }

    -- a turn in the live state
    turned_acting : (lane : ℕ) (clock : ℤ) (random : ℕ) (dice : Lcg) (t : Turn) → lane < service.lanes → turn_of service a.state w.queue (length w.live) lane clock random ≡ t → IsActing service vs o (record { queue = queue_after w.queue t; live = live_after w.live t; dice = dice })
    turned_acting lane clock random dice (turn.Done e) l h =
        let g : LaneGoesOn service (record { start = a.start; live = w.live; state = a.state; queue = w.queue }) lane e = turn_goes_on service (record { start = a.start; live = w.live; state = a.state; queue = w.queue }) lane clock random e good a.recorder l h in
        let s : unwrap_or (next service a.state e) a.state ≡ g.state = ap (λ (o : Option StateValue). unwrap_or o a.state) g.is in
        let c : HasClient e = done_client service (record { start = a.start; live = w.live; state = a.state; queue = w.queue }) lane clock random e good a.recorder l a.requests a.unused h in
        record {
          start = a.start;
          state = g.state;
          known_runs = a.known_runs;
          recorder = subst (λ (x : StateValue). IsRecorder service (record { start = a.start; live = w.live ++ e ∷ []; state = x; queue = queue_after w.queue (turn.Done e) })) s g.keeps;
          goes_on = goes_on_with e g.state g.is o a.goes_on;
          requests = queue_fits w.queue (is_begin e.kind) a.requests;
          clients = All-push HasClient w.live e a.clients c;
          unused = unused_next service a.state g.state e c a.unused g.is;
        }
    turned_acting lane clock random dice turn.Full l h = record { start = a.start; state = a.state; known_runs = a.known_runs; recorder = a.recorder; goes_on = a.goes_on; requests = a.requests; clients = a.clients; unused = a.unused }
    turned_acting lane clock random dice turn.Idle l h = record { start = a.start; state = a.state; known_runs = a.known_runs; recorder = a.recorder; goes_on = a.goes_on; requests = a.requests; clients = a.clients; unused = a.unused }
    turned_acting lane clock random dice (turn.Held by) l h = record { start = a.start; state = a.state; known_runs = a.known_runs; recorder = a.recorder; goes_on = a.goes_on; requests = a.requests; clients = a.clients; unused = a.unused }
    turned_acting lane clock random dice (turn.Zero semaphore) l h = record { start = a.start; state = a.state; known_runs = a.known_runs; recorder = a.recorder; goes_on = a.goes_on; requests = a.requests; clients = a.clients; unused = a.unused }
    turned_acting lane clock random dice turn.Unsignalled l h = record { start = a.start; state = a.state; known_runs = a.known_runs; recorder = a.recorder; goes_on = a.goes_on; requests = a.requests; clients = a.clients; unused = a.unused }
    turned_acting lane clock random dice turn.Unfit l h = record { start = a.start; state = a.state; known_runs = a.known_runs; recorder = a.recorder; goes_on = a.goes_on; requests = a.requests; clients = a.clients; unused = a.unused }

    pub acting_turned : (lane : ℕ) (clock : ℤ) (random : ℕ) (dice : Lcg) (t : Turn) → lane < service.lanes → turn_of service (state_after service (trace_of vs ++ w.live)) w.queue (length w.live) lane clock random ≡ t → IsActing service vs o (record { queue = queue_after w.queue t; live = live_after w.live t; dice = dice })
    acting_turned lane clock random dice t l h = turned_acting lane clock random dice t l (subst (λ (s : StateValue). turn_of service s w.queue (length w.live) lane clock random ≡ t) live_is h)

    -- ---- cut

    pub firsts_long : length (counts_of a.start) ≡ service.lanes
    firsts_long = length-map a.start.lanes done_of ∙ a.recorder.sound.by.complete.lanes

    -- what a cut of the live events may be is one
    abbrev pub live_cut : (cut : List ℕ) → IsLiveCut a.start a.state cut → IsCutOf w.live cut
    live_cut cut h =
        let c : CountsOn a.start w.live a.state = runs_count_on service a.start a.state w.live a.recorder.runs in
        record {
          bases = counts_of a.start;
          few = subst (λ (n : ℕ). n ≤ most_lanes) (sym (h.long ∙ firsts_long)) good.lanes;
          long = sym h.long;
          numbered = c.numbered;
          from = h.from;
          to = subst (λ (cs : List ℕ). IsWithin cs cut) (sym c.counts) h.to;
        }

    pub rises : RiseBy (length w.live) (counts_of a.start) (counts_of a.state)
    rises = runs_rise service a.start a.state w.live a.recorder.runs

    -- a faithful cut may be proposed
    pub acting_proposed : (seed : ℕ) (counts : List ℕ) (q : Proposal Value) → IsCutOf w.live counts → q.value ≡ value_at (greatest_cut counts w.live) w.live → is_faithful service seed vs (greatest_cut counts w.live) w.live ≡ true → IsActing service vs (Some q) w
    acting_proposed seed counts q is v f = record {
      start = a.start;
      state = a.state;
      known_runs = a.known_runs;
      recorder = a.recorder;
      requests = a.requests;
      clients = a.clients;
      unused = a.unused;
      goes_on = subst (GoesOn service vs a.start a.state w.live) (sym v) (record { between = go.state; first = first; rest = rest });
    }
      where
        cut : List ℕ
        cut = greatest_cut counts w.live

        go : GoesFirst service a.start a.state (greatest_cut counts w.live) w.live
        go = cuts_go_first service a.start a.state (greatest_cut counts w.live) w.live good a.recorder.sound (greatest_is counts w.live is).consistent a.recorder.runs

        events : events_of (value_at (greatest_cut counts w.live) w.live) ≡ below (greatest_cut counts w.live) w.live
        events = events_are (events_of (value_at (greatest_cut counts w.live) w.live)) (below (greatest_cut counts w.live) w.live) (and_parts ((service_of service seed).fits (vs ++ value_at (greatest_cut counts w.live) w.live ∷ [])) (same_events (events_of (value_at (greatest_cut counts w.live) w.live)) (below (greatest_cut counts w.live) w.live)) f).1

        first : run service a.start (events_of (value_at (greatest_cut counts w.live) w.live)) ≡ Some go.state
        first = ap (run service a.start) events ∙ go.first

        mid : state_after service (trace_of (vs ++ value_at (greatest_cut counts w.live) w.live ∷ [])) ≡ go.state
        mid = state_is service (trace_of (vs ++ value_at (greatest_cut counts w.live) w.live ∷ [])) go.state
            (subst (λ es. run service (start_of service) es ≡ Some go.state) (sym (trace_push vs (value_at (greatest_cut counts w.live) w.live))) (run-then service (start_of service) a.start (trace_of vs) (events_of (value_at (greatest_cut counts w.live) w.live)) a.known_runs ∙ first))

        same : beyond (counts_of go.state) w.live ≡ beyond (greatest_cut counts w.live) w.live
        same = beyond_same service a.start go.state a.state (greatest_cut counts w.live) w.live go.first go.rest

        rest : run service go.state (still_live service (vs ++ value_at (greatest_cut counts w.live) w.live ∷ []) w.live) ≡ Some a.state
        rest = subst (λ (s : StateValue). run service go.state (beyond (counts_of s) w.live) ≡ Some a.state) (sym mid) (ap (run service go.state) same ∙ go.rest)
