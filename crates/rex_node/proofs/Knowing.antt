-- A majority accepted the value of the next instance: the node knows it.
use Rattle.rex_node.proofs.Common.{◌≡◌, ℕ, ◌+◌, ◌<◌, ◌≤◌, Bool, true, not, List, [], ◌∷◌, ◌++◌, length, take, Option, Some, None, inr, refl, sym, ap, subst, ◌∙◌, arith, map, is_some, option_map, IfSome, unwrap_or, false≢true, take-append-le, AcceptorValue, ProposerValue, closed, counted_none, Declarations, IsService, Event, is_below, below, beyond, StateValue, noting, start_of, run, GoesFirst, run-then, run_keeps, cuts_go_first, IsRecorder, Answer, HasSpelling, record_bytes, Rec, Proposal, known, Failure, Lead, Work, Chose, LeadFits, learned, leading, others, released, send, Value, events_of, release_effect, service_of, trace_of, values_fit, CallHere, trace_push, length_push, Going, On, Down, Draft, content_in, message_in, log_of, NodeValue, ActingValue, Executes, HasStamps, IsActing, IsProposer, NumbersReplies, Proposes, IsCutAt, IsUp, IsKept, ahead_of, here_of, lead_of, work_of, armed_with, Appends, so_far, Learns, LearnsShort, knowing, replayed_to, settling, Service, MayPropose}
use Rattle.std.proofs.Common.{filter}
use Rattle.std.proofs.lemmas.List.Sums.{length-filter, count_by-le-length}
use Rattle.rex_gate.specs.Noted.{noted}
use Rattle.rex_gate.proofs.Traced.{run_noted}
use Rattle.rex_record.specs.Value.{releases, state_at}
use Rattle.rex_durable.specs.declared.records.Rec.TheVariants as kept
use Rattle.rex_report.specs.declared.effect.Effect.TheVariants as effect
use Rattle.rex_msg.specs.declared.message.Content.TheVariants as sent
use Rattle.rex_cluster.specs.Calls.{replayed_known, work_known}
use Rattle.rex_node.specs.Leading.{CanSettle, releases_in}
use Rattle.rex_node.proofs.Appended.{appended_breaks, appended_fell, appended_leads, appended_log, call_at, instance_fits, logged_known, logged_of, beside_of, up_of, IsLogged, Beside, logged_as, lead_fits_of}
use Rattle.rex_node.proofs.Executing.{start_is}
use Rattle.rex_node.proofs.GoingLemmas.{leads_same, leads_then}
use Rattle.rex_node.proofs.Opening.{some_if, some_of}
use Rattle.rex_node.proofs.Stamping.{noted_next}
use Rattle.rex_node.proofs.Promises.{appends_at}
use Rattle.rex_node.proofs.Written.{call_is}
use Rattle.rex_node.proofs.Reaching.{still_reached}

-- ---- what is executed

shorter : (p : Event → Bool) (es : List Event) {n : ℕ} → length es ≤ n → length (filter p es) ≤ n
shorter p es h = omega (arith, length-filter p es, count_by-le-length p es)

module _ {service : Declarations} (good : IsService service) {values : List Value} {a : ActingValue} (h : Executes service values a) {v : Value} (cut : IsCutAt service values a v) where
  first : GoesFirst service a.recorder.start a.recorder.state a.proposed a.recorder.live
  first = cuts_go_first service _ _ _ _ good h.recorder.sound cut.consistent h.recorder.runs

  start_settled : state_at service a.recorder a.proposed ≡ first.state
  start_settled = ap (λ o. unwrap_or o a.recorder.start) first.first

  first_events : run service a.recorder.start (events_of v) ≡ Some first.state
  first_events = ap (run service a.recorder.start) cut.events ∙ first.first

  recorder_settled : IsRecorder service (record a.recorder { start = first.state; live = beyond a.proposed a.recorder.live })
  recorder_settled = record {
    sound = run_keeps service _ _ _ good h.recorder.sound first.first;
    runs = first.rest;
    few = shorter (λ e. not (is_below a.proposed e)) _ h.recorder.few;
    queue = h.recorder.queue;
  }

  pub executes_settled : Executes service (values ++ v ∷ []) (settling service a)
  executes_settled = record {
    recorder = subst (λ s. IsRecorder service (record a.recorder { start = s; live = beyond a.proposed a.recorder.live })) (sym start_settled) recorder_settled;
    known = ap (run service (start_of service)) (trace_push values v) ∙ run-then service (start_of service) _ (trace_of values) _ h.known ∙ first_events ∙ ap (λ s. Some s) (sym start_settled);
    requests = h.requests;
    answers =
        ap (λ clients. noted clients (below a.proposed a.recorder.live)) h.answers
        ∙ run_noted service a.recorder.start _ (below a.proposed a.recorder.live) first.first
        ∙ ap (λ s. s.clients) (sym start_settled);
  }

  -- its work and its releases are the model's
  work_settled : (seed : ℕ) → work_known (service_of service seed) true (values ++ v ∷ []) (work_of (Some a)) ≡ work_of (Some (settling service a))
  work_settled seed = ap (λ es. let w : Work = record { queue = a.recorder.queue; live = es; dice = a.dice } in w) cut.others

  released_settled : (seed : ℕ) → released (service_of service seed) true values v ≡ releases_in (Some a)
  released_settled seed =
      ap (λ s. map release_effect (releases s.clients (events_of v))) (start_is h)
      ∙ ap (λ es. map release_effect (releases a.recorder.start.clients es)) cut.events

-- ---- a node that executes, or doesn't

module _ {service : Declarations} (good : IsService service) (seed : ℕ) (values : List Value) (acceptor : AcceptorValue) (p : ProposerValue) (v : Value) where
  -- what comes of what is executed where the value is a cut of it
  record SettlesWith (w : Option ActingValue) : Type 0 where
    pub can : IfSome w (CanSettle service)
    pub acting : IsActing service (values ++ v ∷ []) acceptor (Some (closed p)) (option_map (settling service) w)
    pub stamps : length values < 65535 → HasStamps values w → HasStamps (values ++ v ∷ []) (option_map (settling service) w)
    pub work : work_known (service_of service seed) (is_some w) (values ++ v ∷ []) (work_of w) ≡ work_of (option_map (settling service) w)
    pub replies : released (service_of service seed) (is_some w) values v ≡ releases_in w

  settles_with : (w : Option ActingValue) → IsActing service values acceptor (Some p) w → IfSome w (λ (a : ActingValue). IsCutAt service values a v) → SettlesWith w
  settles_with None h c = record { can = tt; acting = tt; stamps = λ few s. tt; work = refl; replies = refl }
  settles_with (Some a) h c = record {
    can = record { recorder = h.executes.recorder; consistent = c.consistent };
    acting = record { executes = executes_settled good h.executes c; open_is_cut = tt };
    stamps = λ few s. subst (λ es. NumbersReplies (values ++ v ∷ []) (noting a.answers es)) c.events (noted_next s few v);
    work = work_settled good h.executes c seed;
    replies = released_settled good h.executes c seed;
  }

active_same : (service : Declarations) (w : Option ActingValue) → is_some (option_map (settling service) w) ≡ is_some w
active_same service None = refl
active_same service (Some a) = refl

replayed_same : (w : Option ActingValue) (i replayed : ℕ) → replayed_known (is_some w) i replayed ≡ replayed_to w i replayed
replayed_same None i replayed = refl
replayed_same (Some a) i replayed = refl

replayed_from : (w : Option ActingValue) {based i replayed known : ℕ} → i ≡ known + 1 → based ≤ replayed → replayed ≤ known → based ≤ replayed_to w i replayed
replayed_from None e h k = h
replayed_from (Some a) e h k = omega (arith, e, h, k)

replayed_most : (w : Option ActingValue) {i replayed known : ℕ} → i ≡ known + 1 → replayed ≤ known → replayed_to w i replayed ≤ known + 1
replayed_most None e h = omega (arith, h)
replayed_most (Some a) e h = omega (arith, e)

proposes_closed : {nodes id : ℕ} {a : AcceptorValue} {p : ProposerValue} → Proposes nodes id a p → Proposes nodes id a (closed p)
proposes_closed {p} h = record {
  nodes_are = h.nodes_are;
  own = h.own;
  ballot = h.ballot;
  once = record { own = h.once.own; promises = h.once.promises; acceptances = counted_none p.nodes };
  short = h.short;
  counted = λ _. refl;
  open_one = tt;
}

lead_closed : {known more : ℕ} (a : AcceptorValue) (p : ProposerValue) {active now : Bool} → LeadFits known (lead_of a p active) → LeadFits more (lead_of a (closed p) now)
lead_closed a p h = record { ballot = h.ballot; reported = h.reported; next = λ q e. absurd (none q e) }
  where
    none : (q : Proposal Value) → None ≡ Some q → ⊥
    none q e = cc

-- an active node has replayed all that it knows
known_all : (service : Declarations) (w : Option ActingValue) {i : ℕ} (replayed known : ℕ) {more : ℕ} → i ≡ known + 1 → more ≡ known + 1 → is_some (option_map (settling service) w) ≡ true → replayed_to w i replayed ≡ more
known_all service None replayed known e f t = absurd (false≢true t)
known_all service (Some a) replayed known e f t = e ∙ sym f

-- what was replayed is still what was replayed
ahead_known : (service : Declarations) (values : List Value) (v : Value) (w : Option ActingValue) (i : ℕ) {replayed : ℕ} (ahead : Option StateValue) (start : StateValue) → replayed ≤ length values
    → (w ≡ None → run service (start_of service) (trace_of (take replayed values)) ≡ Some (ahead_of ahead start))
    → option_map (settling service) w ≡ None → run service (start_of service) (trace_of (take (replayed_to w i replayed) (values ++ v ∷ []))) ≡ Some (ahead_of ahead start)
ahead_known service values v None i {replayed} ahead start few h e = ap (λ vs. run service (start_of service) (trace_of vs)) (take-append-le replayed values (v ∷ []) few) ∙ h refl
ahead_known service values v (Some a) i ahead start few h e = absurd (cc)

-- ---- a node that learns

module _ {K : Type 0} {records : K → List (List ℕ)} (gives : K → List ℕ → Answer → K → Type 0) (faults : K → ℕ) {service : Declarations} {past : List Value} (good : IsService service) {x : NodeValue K} {i : ℕ} {v : Value} (may : MayPropose records faults service past x i v) (fits : values_fit service (x.known ++ v ∷ []) ≡ true) where
  abbrev log : List (Rec Value StateValue)
  log = log_of service past (records x.keeper)

  abbrev sv : Service Value StateValue
  sv = service_of service x.seed

  u : IsUp service x (here_of records service past x)
  u = may.kept.up may.up

  -- what it leads with
  abbrev p : ProposerValue
  p = (some_of x.proposer may.leads).0

  p_is : x.proposer ≡ Some p
  p_is = (some_of x.proposer may.leads).1

  abbrev lead : Lead Value
  lead = lead_of x.acceptor p (is_some x.acting)

  due : i ≡ length (known log) + 1
  due = may.next ∙ ap (λ vs. length vs + 1) u.known

  settled : SettlesWith good x.seed x.known x.acceptor p v x.acting
  settled = settles_with good x.seed x.known x.acceptor p v x.acting (subst (λ o. IsActing service x.known x.acceptor o x.acting) p_is u.acting) may.cut

  spelled : HasSpelling (kept.Known i v)
  spelled = record { in_range = (may.there, may.short) }

  -- its recorder can settle
  pub learn_settles : {y : NodeValue K} → y ≡ record x { keeper = y.keeper } → IfSome y.acting (CanSettle service)
  learn_settles y_is = subst (λ n. IfSome n.acting (CanSettle service)) (sym y_is) settled.can

  module _ {w : Value} (w_is : w ≡ v) (y : NodeValue K) (before mid : Draft) (g : Going) (h : Appends records faults gives x y before mid (record_bytes (kept.Known i w)) g) where
    -- the append is of the value
    as_own : {now : Going} → g ≡ now → Appends records faults gives x y before mid (record_bytes (kept.Known i v)) now
    as_own e = appends_at records gives faults x y before mid (kept.Known i w) (ap (λ z. kept.Known i z) w_is) e h

    -- what is left of the call after the append
    abbrev tells : (CallHere → CallHere) → CallHere → CallHere
    tells k d = k (send (learned sv x.id lead i v (known log) d) (others x.nodes x.id (Chose i v)))

    pub learn_parts : g ≡ On → y ≡ record x { keeper = y.keeper }
    learn_parts e = (as_own e).0.parts

    -- the node is down
    pub learn_down : g ≡ Down → Learns records gives faults service past i v x y before mid Down
    learn_down e =
        let d = as_own e in
        some_if _ p_is
        (λ k. (appended_fell records gives faults service past x y before mid spelled due refl {k = tells k} (λ f. refl) u.base refl d, record { down = ap (λ n. n.up) d.0.parts; bare = ap (λ n. n.reached) d.0.parts }))

    module _ (e : g ≡ On) where
      on : Appends records faults gives x y before mid (record_bytes (kept.Known i v)) On
      on = as_own e

      abbrev z_at : NodeValue K
      z_at = record x { keeper = y.keeper; known = x.known ++ v ∷ []; replayed = replayed_to x.acting i x.replayed; proposer = Some (closed p); acting = option_map (settling service) x.acting }

      z_logged : IsLogged service z_at (log_of service past (records y.keeper))
      z_logged =
          subst (IsLogged service z_at) (sym (appended_log records gives faults service past x y before mid spelled due refl on))
          (logged_as refl (logged_known (logged_of records service past x u) (omega (arith, may.next)) (instance_fits may.there) fits))

      z_beside : Beside records service past z_at
      z_beside =
          let b = beside_of records service past x u in
          let based : x.base ≤ x.replayed = b.based in
          let replayed : x.replayed ≤ length x.known = b.replayed in
          record {
            based = replayed_from x.acting may.next based replayed;
            replayed = subst (λ n. replayed_to x.acting i x.replayed ≤ n) (let n : length x.known + 1 ≡ length (x.known ++ v ∷ []) = omega (arith, length_push x.known v) in n) (replayed_most x.acting may.next replayed);
            ahead = ahead_known service x.known v x.acting i x.ahead x.start replayed b.ahead;
            caught_up = known_all service x.acting _ _ may.next (omega (arith, length_push x.known v));
            proposer = proposes_closed (subst (IsProposer x.nodes x.id x.acceptor) p_is b.proposer);
            acting = settled.acting;
            stamped = settled.stamps (let last = may.there.last in omega (arith, may.next, last)) b.stamped;
            role = lead_closed x.acceptor p (lead_fits_of records past u p_is);
          }

      z_kept : IsKept records service past z_at
      z_kept = record { id = may.kept.id; few = may.kept.few; up = λ t. up_of records service past _ z_logged z_beside; reached = still_reached service x.offset x.reached (omega (arith, length_push x.known v)) (λ n l. take-append-le n x.known (v ∷ []) l) may.kept.reached; decoded = may.kept.decoded }

      -- the call goes on with the value known
      pub learn_on : {z : NodeValue K} (after : Draft) → z ≡ knowing service y i v → after.effects.items ≡ mid.effects.items ++ effect.Known y.id i ∷ releases_in y.acting → map (message_in past) after.sends.items ≡ map (message_in past) mid.sends.items ++ others y.nodes y.id (content_in past (sent.Chosen i v))
          → Learns records gives faults service past i v x z before after On
      learn_on {z} after z_is effects sends =
          subst (λ n. Learns records gives faults service past i v x n before after On) (sym all)
          (some_if _ p_is
          (λ k. (
            leads_then (appended_leads records gives faults service past x y before mid spelled due refl {k = tells k} (λ f. refl) on)
                (leads_same refl (λ f. ap k (comes f))),
            z_kept,
            may.up,
          )))
        where
          all : z ≡ z_at
          all = z_is ∙ ap (λ n. knowing service n i v) on.0.parts ∙ ap (λ o. record (knowing service (record x { keeper = y.keeper }) i v) { proposer = option_map closed o }) p_is

          -- the model's call comes to the same
          comes : (f : Option Failure) → tells (λ d. d) (armed_with f (so_far records service past y mid)) ≡ armed_with f (so_far records service past z_at after)
          comes f =
              ap (λ n. tells (λ d. d) (armed_with f (call_at (here_of records service past n) (map (message_in past) mid.sends.items) mid.effects.items))) on.0.parts
              ∙ call_is
              refl
              (ap (λ vs. work_known sv (is_some x.acting) (vs ++ v ∷ []) (work_of x.acting)) (sym u.known) ∙ settled.work)
              (replayed_same x.acting i _)
              (sym (sends ∙ ap (λ n. map (message_in past) mid.sends.items ++ others n.nodes n.id (Chose i v)) on.0.parts))
              (ap (λ es. mid.effects.items ++ (effect.Known x.id i ∷ es)) (ap (λ vs. released sv (is_some x.acting) vs v) (sym u.known) ∙ settled.replies)
              ∙ sym (effects ∙ ap (λ n. mid.effects.items ++ effect.Known n.id i ∷ releases_in n.acting) on.0.parts))
              ∙ ap (λ t. record (armed_with f (so_far records service past z_at after)) { node = record (armed_with f (so_far records service past z_at after)).node { role = leading lead None [] t } }) (sym (active_same service x.acting))

      -- or memory was short with the known value written down
      pub learn_stuck : {z : NodeValue K} → z.keeper ≡ y.keeper → z.base ≡ y.base → LearnsShort records gives faults service past i v x z before
      learn_stuck keeper based =
          inr (some_if _ p_is
          (λ k loses. appended_breaks records gives faults service past x y before mid spelled due refl {k = tells k} (λ f. refl) on (λ d. loses (send (learned sv x.id lead i v (known log) d) (others x.nodes x.id (Chose i v)))) keeper (based ∙ ap (λ n. n.base) on.0.parts ∙ u.base)))
