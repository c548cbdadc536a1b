-- A node that writes down a checkpoint does as the model's.
use Rattle.rex_node.proofs.Common.{◌≡◌, ℕ, zero, suc, ◌+◌, ◌<◌, ◌≤◌, inl, inr, Bool, true, false, List, [], ◌∷◌, ◌++◌, length, take, Ok, Option, Some, None, refl, sym, ap, subst, ◌∙◌, arith, map, is_ok, is_some, nat_lt, ◌==◌, if◌then◌else◌, list_all, and_from, and_parts, eqb-false, length-take-le, take_all, All-weaker, Declarations, IsService, IsChecked, StateValue, start_of, run, IsSound, run_keeps, start_keeps, KeptRec, HasSpelling, IsDue, record_bytes, IsLimited, Answer, version_in, Rec, known, base, Checkpoint, Failure, append, begin, logged, say, Here, CallHere, Value, runs, service_of, spells, state_after, trace_of, values_fit, state_is, Refusal, Step, Does, armed_with, call_of, if_up, IsCheckpoint, message_in, standing_in, log_of, read_state, rec_of, ActingValue, NodeValue, IsResting, IsUp, StaysResting, failed_records, here_of, state_of, log_then, is_stated, Err, le_refl, le_trans, Effect, fallen, ahead_of, Failed}
use Rattle.std.proofs.Common.{◌≢◌}
use Rattle.rex_snapshot.specs.Spelling.{EntryFits, HasFewEvents}
use Rattle.rex_report.specs.declared.effect.Effect.TheVariants as effect
use Rattle.rex_syntax.specs.declared.version.Version.{Version}
use Rattle.rex_cluster.specs.Calls.{checkpoint}
use Rattle.rex_cluster.proofs.Limits.{values_limited}
use Rattle.rex_node.specs.declared.refusal.Refusal.TheVariants as why
use Rattle.rex_node.specs.Calls.{refusal_of_checkpoint}
use Rattle.rex_node.specs.Checkpointing.{FallsSaving, Saves, replayed_state, replayed_with}
use Rattle.rex_node.proofs.Appended.{IsLogged, beside_of, call_at, logged_of, up_of, fell_here}
use Rattle.rex_node.proofs.GoingLemmas.{stated_one, fell_append}
use Rattle.rex_node.proofs.Executing.{executes}
use Rattle.rex_cluster.proofs.Replies.{front_runs}
use Rattle.rex_cluster.specs.Records.{is_old}

-- ---- the state that was replayed

module _ {K : Type 0} (records : K → List (List ℕ)) {service : Declarations} (past : List Value) {x : NodeValue K} (u : IsUp service x (here_of records service past x)) where
  replayed_runs_with : (w : Option ActingValue) → x.acting ≡ w → run service (start_of service) (trace_of (take x.replayed x.known)) ≡ Some (replayed_with w (state_of x))
  replayed_runs_with None e = u.ahead e
  replayed_runs_with (Some a) e =
      ap (λ n. run service (start_of service) (trace_of (take n x.known))) (u.caught_up (ap (λ w. is_some w) e))
      ∙ ap (λ vs. run service (start_of service) (trace_of vs)) (take_all (length x.known) x.known (omega arith))
      ∙ (executes service x.known x.acceptor _ x.acting a u.acting e).known

  -- the values that were replayed lead to it
  pub replayed_runs : run service (start_of service) (trace_of (take x.replayed x.known)) ≡ Some (replayed_state x)
  replayed_runs = replayed_runs_with x.acting refl

-- the first values fit
spelled_first : (p : Value → Bool) (n : ℕ) (vs : List Value) → list_all p vs ≡ true → list_all p (take n vs) ≡ true
spelled_first p zero vs h = refl
spelled_first p (suc n) [] h = refl
spelled_first p (suc n) (v ∷ vs) h = let q = and_parts (p v) (list_all p vs) h in and_from _ _ q.0 (spelled_first p n vs q.1)

front_fits : (service : Declarations) (n : ℕ) (vs : List Value) → values_fit service vs ≡ true → values_fit service (take n vs) ≡ true
front_fits service n vs h =
    let q = and_parts (list_all (spells service) vs) (runs service (trace_of vs)) h in
    and_from _ _ (spelled_first _ n vs q.0) (ap (λ o. is_some o) (front_runs service n vs h).1)

-- the state after the first values is within the limits
pub front_limited : {K : Type 0} (records : K → List (List ℕ)) {service : Declarations} (past : List Value) {x : NodeValue K} → IsUp service x (here_of records service past x) → IsService service → IsChecked service → {n : ℕ} → n ≤ length x.known → {s : StateValue}
    → run service (start_of service) (trace_of (take n x.known)) ≡ Some s → IsLimited s
front_limited records {service} past {x} u good checked {n} le {s} runs =
    let l = values_limited service _ s good checked (front_fits service n x.known u.fits) (omega (arith, le, (logged_of records service past x u).numbers.few, ap length u.known, length-take-le n x.known le)) runs in
    record {
      lanes = All-weaker (λ lane. lane.done ≤ 268431360) HasFewEvents (λ lane h. record { few = h }) s.lanes l.lanes;
      nobody = l.nobody;
      entries = All-weaker (λ e. (e.sequence ≤ 1000000) × (e.sequence ≡ 0 → e.reply ≡ None)) EntryFits (λ e h. record { few = h.0; none = h.1 }) s.clients l.entries;
    }

-- ---- refusals

pub refused_none : (up : Bool) {o : Option Refusal} → if_up up o ≡ None → (up ≡ true) × (o ≡ None)
refused_none true e = (refl, e)
refused_none false e = absurd (cc)

-- nothing is due
record IsFree (h : Here) : Type 0 where
  pub up : h.up ≡ true
  pub old : (h.replayed == base h.log) ≡ false
  pub idle : nat_lt 0 (length h.work.live) ≡ false

free : (h : Here) → refusal_of_checkpoint h ≡ None → IsFree h
free h e = by (h.replayed == base h.log) (nat_lt 0 (length h.work.live)) refl refl (refused_none h.up e)
  where
    by : (s t : Bool) → (h.replayed == base h.log) ≡ s → nat_lt 0 (length h.work.live) ≡ t
        → (h.up ≡ true) × (◌≡◌ {A = Option Refusal} (if h.replayed == base h.log then Some why.Nothing else if nat_lt 0 (length h.work.live) then Some (why.Live (length h.work.live)) else None) None) → IsFree h
    by true t a b r = absurd (let w : Some why.Nothing ≡ None = sym (ap (λ s. if s then Some why.Nothing else if nat_lt 0 (length h.work.live) then Some (why.Live (length h.work.live)) else None) a) ∙ r.1 in cc)
    by false true a b r =
        absurd
        (let w : Some (why.Live (length h.work.live)) ≡ None =
        sym
        (ap (λ s. if s then Some why.Nothing else if nat_lt 0 (length h.work.live) then Some (why.Live (length h.work.live)) else None) a
        ∙ ap (λ t. if t then Some (why.Live (length h.work.live)) else None) b)
        ∙ r.1 in cc)
    by false false a b r = record { up = r.0; old = a; idle = b }

-- ---- the state is saved

module _ {K : Type 0} {records : K → List (List ℕ)} {service : Declarations} {past : List Value} {x : NodeValue K} (node : IsResting records service past x) (due : refusal_of_checkpoint (here_of records service past x) ≡ None) {s : StateValue} (s_is : s ≡ replayed_state x)
    (good : IsService service) (checked : IsChecked service) where
  up_now : IsUp service x (here_of records service past x)
  up_now = node.up (free (here_of records service past x) due).up

  runs_now : run service (start_of service) (trace_of (take x.replayed x.known)) ≡ Some s
  runs_now = replayed_runs records past up_now ∙ ap Some (sym s_is)

  pub replayed_sound_now : IsSound service s
  replayed_sound_now = run_keeps service _ s _ good (start_keeps service good checked) runs_now

  pub replayed_limited : IsLimited s
  replayed_limited = front_limited records past up_now good checked (beside_of records service past x up_now).replayed runs_now

-- ---- a state is written down

-- the call writes down the state after so many values, and tells so; what was replayed past it is this one then
pub record WritesDown {K : Type 0} (records : K → List (List ℕ)) (service : Declarations) (past : List Value) (x : NodeValue K) (version : Version) (n : ℕ) (s : StateValue) (ahead : Option StateValue) (told : Effect) (call : CallHere → CallHere) (r : KeptRec) : Type 0 where
  pub node : IsResting records service past x
  pub up : IsUp service x (here_of records service past x)
  pub written : IsCheckpoint service version n s r
  pub some : 0 < n
  pub low : x.base ≤ n
  pub high : n ≤ x.replayed
  pub runs : run service (start_of service) (trace_of (take n x.known)) ≡ Some s
  pub replayed : x.acting ≡ None → run service (start_of service) (trace_of (take x.replayed x.known)) ≡ Some (ahead_of ahead s)
  pub appends : (g : Option Failure) → call (armed_with g (begin (here_of records service past x))) ≡ append g x.id (Checkpoint version n s) (armed_with g (begin (here_of records service past x))) (say told)

module _ {K : Type 0} {records : K → List (List ℕ)} {service : Declarations} {past : List Value} {x : NodeValue K} {version : Version} {n : ℕ} {s : StateValue} {ahead : Option StateValue} {told : Effect} {call : CallHere → CallHere} {r : KeptRec}
    (w : WritesDown records service past x version n s ahead told call r) where
  abbrev here : Here
  here = here_of records service past x

  abbrev old_log : List (Rec Value StateValue)
  old_log = log_of service past (records x.keeper)

  abbrev said : Rec Value StateValue
  said = Checkpoint version n s

  l : IsLogged service x old_log
  l = logged_of records service past x w.up

  few : n ≤ length x.known
  few = le_trans w.high (beside_of records service past x w.up).replayed

  pub state_spelling : HasSpelling r
  state_spelling = subst HasSpelling (sym w.written.is) (record { in_range = (record { first = omega (arith, w.some); last = omega (arith, few, l.numbers.few, ap length w.up.known) }, w.written.short) })

  pub state_due : IsDue (standing_in old_log) r
  state_due = subst (IsDue (standing_in old_log)) (sym w.written.is) (subst (λ o. o ≤ n) w.up.offset (omega (arith, w.up.low, w.low)), subst (λ vs. n ≤ length vs) w.up.known few)

  stated : is_stated service (record_bytes r) ≡ true
  stated = ap (λ m. is_stated service (record_bytes m)) w.written.is ∙ ap (λ q. is_ok q) w.written.spells

  log_saved : {lists : List (List ℕ)} → lists ≡ records x.keeper ++ record_bytes r ∷ [] → log_of service past lists ≡ said ∷ old_log
  log_saved e =
      ap (log_of service past) e ∙ log_then service past (records x.keeper) r state_spelling state_due
      ∙ ap (λ m. rec_of service past m ∷ old_log) w.written.is ∙ ap (λ q. Checkpoint (version_in w.written.snapshot) n (read_state service q) ∷ old_log) w.written.spells
      ∙ ap (λ v. Checkpoint v n s ∷ old_log) w.written.version_is

  module _ (gives : K → List ℕ → Answer → K → Type 0) (faults : K → ℕ) (y : NodeValue K) (step : Step) (sends : step.sends ≡ []) where
    -- it is kept
    module _ (effects : step.effects ≡ told ∷ []) (parts : y ≡ record x { keeper = y.keeper; base = n; old_base = is_old version; start = s; ahead = ahead }) (grown : records y.keeper ≡ records x.keeper ++ record_bytes r ∷ []) where
      log_is : log_of service past (records y.keeper) ≡ said ∷ old_log
      log_is = log_saved grown

      comes : say told (logged said None (begin here)) ≡ call_of records service past y step
      comes =
          ap (λ l. call_at (record here { log = l }) [] (told ∷ [])) (sym log_is)
          ∙ ap (λ n. call_at (here_of records service past n) [] (told ∷ [])) (sym parts)
          ∙ ap (λ es. call_at (here_of records service past y) [] es) (sym effects)
          ∙ ap (λ ms. call_at (here_of records service past y) (map (message_in past) ms) step.effects) (sym sends)

      pub state_does : faults y.keeper ≡ faults x.keeper → gives x.keeper (record_bytes r) (Ok tt) y.keeper → Does records gives faults service past call x y step
      state_does counted answer =
          inl (record {
            written = record_bytes r ∷ [];
            grown = grown;
            appends = (Ok tt, y.keeper, answer, (refl, refl));
            counted = counted;
            stated = stated_one service (record_bytes r) stated;
            many = ap length log_is ∙ (let e : suc (length old_log) ≡ 1 + length old_log = omega arith in e);
            is = w.appends None ∙ comes;
          })

      abbrev z : NodeValue K
      z = record x { keeper = y.keeper; base = n; old_base = is_old version; start = s; ahead = ahead }

      z_up : IsUp service z (here_of records service past z)
      z_up =
          let b = beside_of records service past x w.up in
          up_of records service past z
          (subst (IsLogged service z) (sym log_is)
          (record {
            promised = l.promised;
            accepted = l.accepted;
            offset_is = l.offset_is;
            low = omega (arith, l.low, w.low);
            known = l.known;
            base = refl;
            old_base = refl;
            few = few;
            start = w.runs;
            short = l.short;
            fits = l.fits;
            numbers = record { ballots = l.numbers.ballots; instances = l.numbers.instances; few = l.numbers.few };
          }))
          (record { based = w.high; replayed = b.replayed; ahead = w.replayed; caught_up = b.caught_up; proposer = b.proposer; acting = b.acting; stamped = b.stamped; role = b.role })

      pub state_stays : StaysResting records service past x y
      state_stays = subst (StaysResting records service past x) (sym parts) (record {
        same = record { id = refl; nodes = refl; seed = refl; decoded = refl };
        kept = record { id = w.node.id; few = w.node.few; up = λ _. z_up; reached = w.node.reached; decoded = w.node.decoded; rests = w.node.rests };
      })

    -- its append failed
    module _ (effects : step.effects ≡ effect.Down x.id ∷ []) (kept : Bool) (parts : y ≡ record (fallen (record x { base = if kept then n else x.base })) { keeper = y.keeper }) (grown : records y.keeper ≡ failed_records kept (records x.keeper) (record_bytes r)) where
      pub state_fell : faults x.keeper < faults y.keeper → gives x.keeper (record_bytes r) (Err Failed) y.keeper → Does records gives faults service past call x y step
      state_fell counted answer = inr (fell_append records gives faults service w.appends x.keeper y.keeper stated kept answer grown counted
          (fell_here records service past x (record_bytes r) (log_saved refl) w.up.base refl kept grown parts sends effects)).fails

-- ---- the call

module _ {K : Type 0} (records : K → List (List ℕ)) (gives : K → List ℕ → Answer → K → Type 0) (faults : K → ℕ) (service : Declarations) (past : List Value) (x : NodeValue K) (node : IsResting records service past x) (due : refusal_of_checkpoint (here_of records service past x) ≡ None)
    (version : Version) (s : StateValue) (s_is : s ≡ replayed_state x) (r : KeptRec) (written : IsCheckpoint service version x.replayed s r) where
  abbrev h : Here
  h = here_of records service past x

  abbrev log : List (Rec Value StateValue)
  log = log_of service past (records x.keeper)

  abbrev call : CallHere → CallHere
  call = checkpoint version (service_of service x.seed) x.id

  f : IsFree h
  f = free h due

  u : IsUp service x h
  u = node.up f.up

  more : x.base < x.replayed
  more = let old : x.replayed ≢ base log = eqb-false x.replayed (base log) f.old in omega (arith, (beside_of records service past x u).based, u.base, old)

  runs_so : run service (start_of service) (trace_of (take x.replayed x.known)) ≡ Some s
  runs_so = replayed_runs records past u ∙ ap Some (sym s_is)

  -- the model appends the state
  appends : (g : Option Failure) → call (armed_with g (begin h)) ≡ append g x.id (Checkpoint version x.replayed s) (armed_with g (begin h)) (say (effect.Checkpointed x.id x.replayed))
  appends g =
      ap (λ t. checkpoint_if t (nat_lt 0 (length h.work.live)) (state_after service (trace_of (take x.replayed (known log))))) f.old
      ∙ ap (λ t. checkpoint_if false t (state_after service (trace_of (take x.replayed (known log))))) f.idle
      ∙ ap (checkpoint_if false false) (ap (λ vs. state_after service (trace_of (take x.replayed vs))) (sym u.known) ∙ state_is service _ _ runs_so)
    where
      checkpoint_if : Bool → Bool → StateValue → CallHere
      checkpoint_if a b t =
          if a then say effect.Nothing (armed_with g (begin h))
          else if b then say (effect.Live (length h.work.live)) (armed_with g (begin h))
          else append g x.id (Checkpoint version x.replayed t) (armed_with g (begin h)) (say (effect.Checkpointed x.id x.replayed))

  writes : WritesDown records service past x version x.replayed s None (effect.Checkpointed x.id x.replayed) call r
  writes = record { node = node; up = u; written = written; some = omega (arith, more); low = omega (arith, more); high = le_refl _; runs = runs_so; replayed = λ _. runs_so; appends = appends }

  pub spelling : HasSpelling r
  spelling = state_spelling writes

  module _ (y : NodeValue K) (step : Step) (sends : step.sends ≡ []) where
    module _ (k : Saves records faults gives version x y s (record_bytes r)) (effects : step.effects ≡ effect.Checkpointed x.id x.replayed ∷ []) where
      pub saved_does : Does records gives faults service past call x y step
      saved_does = state_does writes gives faults y step sends effects k.parts k.records_are k.faults_are k.answer

      pub saved_stays : StaysResting records service past x y
      saved_stays = state_stays writes gives faults y step sends effects k.parts k.records_are

    pub fell_does : FallsSaving records faults gives x y (record_bytes r) → step.effects ≡ effect.Down x.id ∷ [] → Does records gives faults service past call x y step
    fell_does k effects = state_fell writes gives faults y step sends effects k.kept k.parts k.records_are k.faults_are k.answer
