-- What comes of a call that a process has its node serve, and of what comes behind it.
use Rattle.std.proofs.Common.{◌≡◌, ℕ, ℤ, true, List, [], length, Result, Ok, Err, Option, Some, None, IfOk, IfSome, OnOk, OnErr, inl, inr, refl, sym, ◌∙◌, ap, subst, append-nil}
use Rattle.std.specs.List.{All}
use Rattle.std.specs.declared.alloc.AllocError.{AllocError}
use Rattle.rex_msg.specs.declared.message.Content.{Content}
use Rattle.rex_msg.specs.declared.message.Content.TheVariants as sent
use Rattle.rex_msg.specs.Spelling.{IsMessage}
use Rattle.rex_syntax.specs.declared.service.Declarations.{Declarations}
use Rattle.rex_syntax.specs.Service.{IsService}
use Rattle.rex_syntax.specs.Check.{IsChecked}
use Rattle.rex_traits.specs.Chains.{Answer}
use Rattle.rex_cluster.specs.Records.{known}
use Rattle.rex_cluster.specs.Node.{Content as ModelContent, Failure}
use Rattle.rex_cluster.specs.Calls.{begin, receive}
use Rattle.rex_cluster.specs.Invariant.{Begins}
use Rattle.rex_cluster.specs.Telling.{TellsNoState}
use Rattle.rex_cluster.specs.Values.{Value, service_of, values_fit}
use Rattle.rex_cluster.specs.Lanes.{Here, CallHere, cut, no_limits}
use Rattle.rex_log.specs.Log.{log_of}
use Rattle.rex_log.specs.Messages.{content_in, message_in}
use Rattle.rex_node.specs.declared.step.Step.{Step}
use Rattle.rex_node.specs.Calls.{CanBeCut, armed_with}
use Rattle.rex_node.specs.Going.{RunsOn}
use Rattle.rex_node.specs.Parts.{IsNode, NodeValue, StaysNode, count_of, here_of}
use Rattle.rex_node.specs.Telling.{IsTold}
use Rattle.rex_steps.specs.declared.serving.Call.{Call}
use Rattle.rex_steps.specs.declared.serving.Call.TheVariants as call
use Rattle.rex_steps.specs.Serving as serving
use Rattle.rex_steps.specs.Serving.{IsShort, MayServe, Serves, call_for}
use Rattle.rex_processes.specs.Processes.{Task}
use Rattle.rex_processes.specs.Plain.{HeardFits, HearsNoState, IsPlain, IsPlainTask}
use Rattle.rex_processes.specs.Leading.{TaskFits}
use Rattle.rex_fits.specs.Applied.{AppliedValue, clock_after}
use Rattle.rex_process.specs.Coming.{Comes}
use Rattle.rex_process.specs.Keeping.{ByAppends}
use Rattle.rex_process.specs.Process.{ProcessValue, ComesTo, IsLeft, IsProcess, call_in, clock_then, here, learned}
use Rattle.rex_process.specs.Sending.{MayBeTold}
use Rattle.rex_process.specs.Serving.{CanCall, IsTestFor, Spares, task_of}
use Rattle.rex_process.specs.Settling.{HasNoNews, IsCaught, IsReady, IsSettling, noted_clock}
use Rattle.rex_process.proofs.Appending.{served_appends, short_appends}
use Rattle.rex_process.proofs.Cutting.{can_be_cut, election_runs, message_runs}
use Rattle.rex_process.proofs.Living.{LiveIsDated, cut_live_dated, elect_live, hear_live, submit_live}
use Rattle.rex_process.proofs.Middle.{comes_to, process_after, settles}
use Rattle.rex_process.proofs.Outgoing.{heard_good, sends_in}
use Rattle.rex_process.proofs.Pasts.{same_content, same_here, same_node}
use Rattle.rex_process.proofs.Received.{heard_ready}
use Rattle.rex_process.proofs.Served.{comes_beside, left_beside, stays_beside}
use Rattle.rex_process.proofs.Standing.{holds, known_is}
use Rattle.rex_process.proofs.Trying.{many_known}

-- a content that tells no state tells none that isn't right
stateless_told : (service : Declarations) (past : List Value) (c : Content) → TellsNoState (content_in [] c) → IsTold service past c
stateless_told service past (sent.Snapshot k bytes) none = absurd none
stateless_told service past _ none = tt

-- what is so of one thing, if there is one, is so of it in other words
some_so : {A : Type 0} (P Q : A → Type 0) → ((x : A) → P x → Q x) → (o : Option A) → IfSome o P → IfSome o Q
some_so P Q so None h = tt
some_so P Q so (Some x) h = so x h

-- what is so is so on an error
pub on_err : {P : Type 0} (r : Result Step AllocError) → P → OnErr r P
on_err (Ok step) h = tt
on_err (Err e) h = h

-- what is so of the task of a call that a process has its node serve
record Suits {K : Type 0} (records : K → List (List ℕ)) (p : ProcessValue K) (task : Task) : Type 0 where
  pub plain : IsPlainTask task
  pub stateless : HearsNoState task
  pub numbers : HeardFits task
  pub fits : TaskFits p.service task
  pub told : MayBeTold p.node.nodes p.node.id task
  pub live : (c : ℤ) (d : CallHere) → LiveIsDated c p.service d.node → LiveIsDated c p.service (call_in p task d).node
  pub learns : (q : ProcessValue K) → clock_then records p q task ≡ clock_after p.clock (learned records p q)

-- what is said of a process once a task has settled, and where memory was short for that
pub record HasSettled {K : Type 0} (records : K → List (List ℕ)) (gives : K → List ℕ → Answer → K → Type 0) (faults : K → ℕ) (p q : ProcessValue K) (task : Task) (result : Result Step AllocError) : Type 0 where
  pub comes : IfOk result (ComesTo records faults p q task)
  pub sends : IfOk result (λ (step : Step). All IsMessage step.sends)
  pub process : OnOk result (IsProcess records faults q)
  pub left : OnErr result (IsLeft records p q task)
  pub appends : ByAppends gives p.node.keeper q.node.keeper

module _ {K : Type 0} (records : K → List (List ℕ)) (gives : K → List ℕ → Answer → K → Type 0) (faults : K → ℕ) (p : ProcessValue K) (good : IsService p.service) (checked : IsChecked p.service) (process : IsProcess records faults p) (up : p.node.up ≡ true) where
  -- the past of a call is all that the node knows
  abbrev past : List Value
  past = p.node.known

  abbrev before : Here
  before = here records p

  abbrev beside : Here
  beside = here_of records p.service past p.node

  same_past : beside ≡ before
  same_past = sym (same_here records p.service [] past p.node process.plain)

  known_all : p.node.known ≡ known before.log
  known_all = known_is records p.service p.node process.node process.plain up

  -- ---- what a call asks for

  pub past_node : IsNode records p.service past p.node
  past_node = same_node records p.service [] past p.node process.plain (λ u. holds records p.service p.node process.node process.plain u) process.node

  past_begins : Begins (known beside.log) past
  past_begins = ([], append-nil (known beside.log) ∙ ap (λ (x : Here). known x.log) same_past ∙ sym known_all)

  abbrev called : Call → CallHere → CallHere
  called c d = call_for p.service past p.node.seed p.node.nodes p.node.id beside c d

  -- beside the past it does its task
  same_call : (c : Call) → CanCall records p c → (f : Option Failure) → called c (armed_with f (begin beside)) ≡ call_in p (task_of c) (armed_with f (begin before))
  same_call call.Elect may f = ap (λ (x : Here). call_in p (task_of call.Elect) (armed_with f (begin x))) same_past
  same_call (call.Receive m) may f =
      ap (λ (x : Here). called (call.Receive m) (armed_with f (begin x))) same_past
      ∙ ap (λ (c : ModelContent Value). receive p.node.nodes (service_of p.service p.node.seed) p.node.id m.now.from c (armed_with f (begin before))) (sym (same_content [] past m.now.content may.0.stateless))
  same_call (call.Submit r) may f = ap (λ (x : Here). call_in p (task_of (call.Submit r)) (armed_with f (begin x))) same_past
  same_call (call.Cut None) may f = ap (λ (x : Here). cut p.service p.node.seed p.node.nodes p.node.id (no_limits p.service x) (armed_with f (begin x))) same_past
  same_call (call.Ask other) may f = ap (λ (x : Here). call_in p (task_of (call.Ask other)) (armed_with f (begin x))) same_past
  same_call _ may f = absurd may

  runs_beside : (c : Call) → CanCall records p c → RunsOn p.service (call_in p (task_of c)) (begin before) → RunsOn p.service (called c) (begin beside)
  runs_beside c may runs = subst (λ (d : CallHere). values_fit p.service (known d.node.log) ≡ true) (sym (same_call c may None)) runs

  pub may_serve : (c : Call) → CanCall records p c → MayServe p.service past p.node.seed p.node.nodes p.node.id beside c
  may_serve call.Elect may = runs_beside call.Elect may (election_runs records faults p good checked process up may)
  may_serve (call.Receive m) may = record {
    fits = may.0.numbers past;
    spelling = may.0.spelling;
    here = may.0.here;
    front = past_begins;
    tells = stateless_told p.service past m.now.content may.0.stateless;
    runs = runs_beside (call.Receive m) may (message_runs records faults p good checked process up m.now may.0 may.1);
  }
  may_serve (call.Submit r) may = may
  may_serve (call.Cut None) may = record {
    many = tt;
    spelling = λ u. subst (λ (x : Here). CanBeCut x (no_limits p.service x)) (sym same_past) (can_be_cut records faults p good checked process up);
  }
  may_serve (call.Ask other) may = tt
  may_serve _ may = absurd may

  -- ---- what comes of it

  suits : (c : Call) → CanCall records p c → Suits records p (task_of c)
  suits call.Elect may = record { plain = tt; stateless = tt; numbers = tt; fits = tt; told = tt; live = λ c d. elect_live c p.service good checked p.node.seed p.node.nodes p.node.id d; learns = λ q. refl }
  suits (call.Receive m) may = record {
    plain = tt;
    stateless = may.0.stateless;
    numbers = (may.0.numbers []).content;
    fits = tt;
    told = heard_good p.node.id p.node.nodes m.now may.0;
    live = λ c d. hear_live c p.service good checked p.node.seed p.node.nodes p.node.id (message_in [] m.now) d;
    learns = λ q. refl;
  }
  suits (call.Submit r) may = record { plain = tt; stateless = tt; numbers = tt; fits = may; told = tt; live = λ c d. submit_live c p.service good checked p.node.seed p.node.nodes p.node.id r.now d; learns = λ q. refl }
  suits (call.Cut None) may = record { plain = tt; stateless = tt; numbers = tt; fits = tt; told = tt; live = λ c d. cut_live_dated c p.service good checked p.node.seed p.node.nodes p.node.id d; learns = λ q. refl }
  suits (call.Ask other) may = record { plain = tt; stateless = tt; numbers = tt; fits = tt; told = may; live = λ c d h. h; learns = λ q. refl }
  suits _ may = absurd may

  module _ (c : Call) (may : CanCall records p c) (mid : NodeValue K) where
    abbrev task : Task
    task = task_of c

    abbrev middle : ProcessValue K
    middle = record p { node = mid }

    suited : Suits records p task
    suited = suits c may

    -- memory was short in the call itself
    pub short_comes : IsShort records gives faults p.service past (called c) p.node mid → (e : AllocError) → HasSettled records gives faults p middle task (Err e)
    short_comes h e = record {
      comes = tt;
      sends = tt;
      process = tt;
      left = left_beside records gives faults p process.plain up past task (called c) (same_call c may) suited.plain suited.stateless suited.numbers mid h;
      appends = short_appends records gives faults p.service past (called c) p.node mid h;
    }

    module _ (step : Step) (served : Serves records gives faults p.service past (called c) p.node mid step) (kept : StaysNode records p.service past p.node mid) where
      both : Comes records faults p.service (call_in p task) p.node mid step × IsPlain (here_of records p.service past mid).log
      both = comes_beside records gives faults p process.plain up past task (called c) (same_call c may) suited.plain suited.stateless suited.numbers mid step served

      stays : StaysNode records p.service [] p.node mid
      stays = stays_beside records gives faults p process.plain up past task (called c) (same_call c may) suited.plain suited.stateless suited.numbers mid both.1 kept

      -- what was tested, if something was, is all that the node knows then
      tested : (c : Call) → CanCall records p c → Comes records faults p.service (call_in p (task_of c)) p.node mid step → mid.up ≡ true → (a : AppliedValue) → IsTestFor records p c a
          → IsReady records middle a × (a.clock ≡ noted_clock records middle (length (known before.log)))
      tested (call.Receive m) may comes u a t = heard_ready records faults p good checked process up m.now may.0.stateless mid step comes stays u a t
      tested _ may comes u a t = absurd t

      appends : {k : K} → k ≡ mid.keeper → ByAppends gives p.node.keeper k
      appends same = subst (ByAppends gives p.node.keeper) (sym same) (served_appends records gives faults p.service past (called c) p.node mid step up served)

      module _ (many : ℕ) (counted : many ≡ count_of p.node) where
        -- what is asked of what comes behind
        pub served_settles : (test : Option AppliedValue) → IfSome test (IsTestFor records p c) → IsSettling records middle many test
        served_settles test h =
            settles records faults p good checked process up task mid step both.0 stays suited.plain suited.stateless many counted suited.live test
            (λ u. some_so (IsTestFor records p c) (IsReady records middle) (λ a t. (tested c may both.0 u a t).0) test h)
            (λ u. some_so (IsTestFor records p c) (λ (a : AppliedValue). a.clock ≡ noted_clock records middle (length (known before.log))) (λ a t. (tested c may both.0 u a t).1) test h)

        -- and what comes of both
        pub served_comes : (q : ProcessValue K) (settled : Result Step AllocError) → IfOk settled (λ (last : Step). IsCaught records middle q (noted_clock records middle many) step last) → q.service ≡ p.service → q.node.keeper ≡ mid.keeper → StaysNode records p.service [] mid q.node
            → HasSettled records gives faults p q task settled
        served_comes q (Ok last) caught service keeper after =
            let comes : ComesTo records faults p q task last = comes_to records faults p good checked process up task mid step both.0 stays suited.plain suited.stateless many counted suited.fits q last caught service after (suited.learns q) in
            record {
              comes = comes;
              sends = sends_in records faults p q process up task suited.told (Ok last) comes;
              process = process_after records faults p good checked process up task mid step both.0 stays suited.plain suited.stateless many counted suited.fits q last caught service after;
              left = tt;
              appends = appends keeper;
            }
        served_comes q (Err e) caught service keeper after = record { comes = tt; sends = tt; process = tt; left = left_after both.0; appends = appends keeper }
          where
            log_is : (here records q).log ≡ (here_of records p.service [] mid).log
            log_is = ap (λ (k : K). log_of q.service [] (records k)) keeper ∙ ap (λ (x : Declarations). log_of x [] (records mid.keeper)) service

            left_after : Comes records faults p.service (call_in p task) p.node mid step → IsLeft records p q task
            left_after (goes, inl h) = inr (inl (log_is ∙ ap (λ (d : CallHere). d.node.log) h.is))
            left_after (goes, inr h) = inr (inr (h.before, h.kept, log_is ∙ ap (λ (d : CallHere). d.node.log) h.is))

  -- ---- what is as it was

  -- memory was short in the call itself
  pub short_spares : (c : Call) (mid : NodeValue K) → serving.Spares c p.node mid → Spares c p (record p { node = mid })
  short_spares (call.Submit r) mid same = same
  short_spares (call.Ask other) mid same = ap (λ (x : NodeValue K). record p { node = x }) same
  short_spares _ mid same = tt

  -- nothing comes behind a call that leaves the node as it was
  pub settled_spares : (c : Call) (mid : NodeValue K) (many : ℕ) (test : Option AppliedValue) (q : ProcessValue K) → many ≡ count_of p.node → IfSome test (IsTestFor records p c) → serving.Spares c p.node mid
      → q.node.keeper ≡ mid.keeper → (HasNoNews records (record p { node = mid }) many test → q ≡ record p { node = mid }) → Spares c p q
  settled_spares (call.Submit r) mid many test q counted h same keeper still = keeper ∙ same
  settled_spares (call.Ask other) mid many (Some a) q counted h same keeper still = absurd h
  settled_spares (call.Ask other) mid many None q counted h same keeper still = still (subst (λ (x : NodeValue K). HasNoNews records (record p { node = x }) many None) (sym same) quiet) ∙ short_spares (call.Ask other) mid same
    where
      quiet : HasNoNews records p many None
      quiet = record {
        known_is = sym (many_known records p.service p.node process.node up) ∙ sym counted;
        caught_up = (process.up up).caught_up;
        untested = refl;
      }
  settled_spares _ mid many test q counted h same keeper still = tt
