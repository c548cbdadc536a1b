-- What comes behind a call of a node: lemmas.
use Rattle.std.proofs.Common.{arith, ℤ, ◌≡◌, ℕ, ◌<◌, ◌-◌, Bool, true, false, not, ◌&&◌, ◌||◌, ◌==◌, ◌++◌, List, [], ◌∷◌, length, map, take, drop, Result, Ok, Err, Option, Some, None, inl, inr, IfOk, IfSome, refl, sym, ◌∙◌, ap, ap₂, subst, append-nil, append_assoc, pos}
use Rattle.std.specs.Prelude.{nat_lt, if◌then◌else◌}
use Rattle.std.specs.declared.alloc.AllocError.{AllocError}
use Rattle.std.proofs.lemmas.Bool.{false≢true}
use Rattle.std.proofs.lemmas.Bool.Decides.{nat_tests}
use Rattle.std.proofs.lemmas.List.{drop_all, map-append, take-append-drop}
use Rattle.rex_syntax.specs.declared.service.Declarations.{Declarations}
use Rattle.rex_event.specs.declared.event.Event.{Event}
use Rattle.rex_msg.specs.declared.message.Message.{Message}
use Rattle.rex_report.specs.declared.effect.Effect.{Effect}
use Rattle.rex_report.specs.declared.effect.Effect.TheVariants.{Replayed, UpToDate}
use Rattle.rex_traits.specs.Chains.{Answer}
use Rattle.rex_cluster.specs.Records.{known}
use Rattle.rex_cluster.specs.Node.{is_active, Message as ModelMessage}
use Rattle.rex_cluster.specs.Calls.{begin, replay, say}
use Rattle.rex_cluster.specs.Values.{Value, events_of, trace_of}
use Rattle.rex_cluster.specs.Lanes.{Here, CallHere, node_trace}
use Rattle.rex_log.specs.Messages.{message_in}
use Rattle.rex_node.specs.declared.refusal.Refusal.{Refusal}
use Rattle.rex_node.specs.declared.step.Step.{Step}
use Rattle.rex_node.specs.Calls.{Does, call_of}
use Rattle.rex_node.specs.Parts.{NodeValue, here_of}
use Rattle.rex_node.proofs.Ending.{no_messages}
use Rattle.rex_fits.specs.Applied.{AppliedValue, ShowNoLater, clock_after}
use Rattle.rex_transfer.specs.Window.{WindowValue}
use Rattle.rex_process.specs.Coming.{CatchesUp}
use Rattle.rex_process.specs.Process.{ProcessValue, caught_up, here, is_behind}
use Rattle.rex_process.specs.Settling.{FollowsStep, HasNoNews, IsCaught, IsJoined, IsSettling, IsUpSettling, Reads, noted_clock}
use Rattle.rex_process.proofs.Dating.{after_raises, after_reads, after_shows, both_show}
use Rattle.rex_process.proofs.Standing.{holds, known_is}

-- ---- replaying behind a step

-- one who is behind has something to replay
not_done : (up active : Bool) (r k : ℕ) → (up && (not active && nat_lt r k)) ≡ true → (active || r == k) ≡ false
not_done false active r k e = absurd (false≢true e)
not_done true true r k e = absurd (false≢true e)
not_done true false r k e = grind (arith, nat_tests)

-- what it replays doesn't hang on what was sent and reported before
replays_all : (m : ℕ) (d : CallHere) → is_behind d.node ≡ true
    → replay m d ≡ record d { node = record d.node { replayed = length (known d.node.log) }; effects = d.effects ++ Replayed m (length (known d.node.log)) ∷ [] }
replays_all m d e = ap (λ (t : Bool). if t then say (UpToDate m) d else all) (not_done d.node.up (is_active d.node.role) d.node.replayed (length (known d.node.log)) e)
  where
    all : CallHere
    all = record d { node = record d.node { replayed = length (known d.node.log) }; effects = d.effects ++ Replayed m (length (known d.node.log)) ∷ [] }

module _ {K : Type 0} (records : K → List (List ℕ)) (gives : K → List ℕ → Answer → K → Type 0) (faults : K → ℕ) (service : Declarations) (m : ℕ) (old new : NodeValue K) (keeper : new.keeper ≡ old.keeper) where
  abbrev before : Here
  before = here_of records service [] old

  abbrev Sends : Type 0
  Sends = List (ModelMessage Value)

  -- a step behind another one, of a node that is behind
  pub catches_behind : (first more step : Step) → is_behind before ≡ true → FollowsStep first more step → Does records gives faults service [] (replay m) old new more
      → CatchesUp records service (caught_up m) old new first step
  catches_behind first more step behind joined (inr h) = absurd (let e : faults new.keeper ≡ faults old.keeper = ap faults keeper in let c : faults old.keeper < faults new.keeper = h.counted in omega (arith, e, c))
  catches_behind first more step behind joined (inl h) = record {
    is =
        ap₂ (λ (ms : List Message) (es : List Effect). record { node = here_of records service [] new; sends = map (message_in []) ms; effects = es }) joined.sends joined.effects
        ∙ ap (λ (ms : Sends). record { node = here_of records service [] new; sends = ms; effects = first.effects ++ more.effects }) (map-append (message_in []) first.sends more.sends ∙ (ap (λ (ms : Sends). map (message_in []) first.sends ++ ms) sent ∙ append-nil (map (message_in []) first.sends)))
        ∙ ap₂ (λ (x : Here) (es : List Effect). record { node = x; sends = map (message_in []) first.sends; effects = first.effects ++ es }) node effects
        ∙ sym (replays_all m (call_of records service [] old first) behind)
        ∙ sym (ap (λ (t : Bool). if t then replay m (call_of records service [] old first) else call_of records service [] old first) behind);
    keeper = keeper;
    sends = joined.sends ∙ (ap (λ (ms : List Message). first.sends ++ ms) unsent ∙ append-nil first.sends);
    up = ap (λ (d : CallHere). d.node.up) all;
  }
    where
      all : call_of records service [] new more ≡ record { node = record before { replayed = length (known before.log) }; sends = []; effects = Replayed m (length (known before.log)) ∷ [] }
      all = sym h.is ∙ replays_all m (begin before) behind

      node : here_of records service [] new ≡ record before { replayed = length (known before.log) }
      node = ap (λ (d : CallHere). d.node) all

      effects : more.effects ≡ Replayed m (length (known before.log)) ∷ []
      effects = ap (λ (d : CallHere). d.effects) all

      sent : map (message_in []) more.sends ≡ []
      sent = ap (λ (d : CallHere). d.sends) all

      unsent : more.sends ≡ []
      unsent = no_messages [] more.sends sent

  -- one that isn't behind has nothing to do
  pub catches_none : (step : Step) → new ≡ old → is_behind before ≡ false → CatchesUp records service (caught_up m) old new step step
  catches_none step same e = record {
    is = ap (λ (x : NodeValue K). call_of records service [] x step) same ∙ sym (ap (λ (t : Bool). if t then replay m (call_of records service [] old step) else call_of records service [] old step) e);
    keeper = keeper;
    sends = refl;
    up = ap (λ (x : NodeValue K). x.up) same;
  }

-- ---- the clock

-- replaying changes neither what is known nor what is live
caught_trace : (m : ℕ) (d : CallHere) → node_trace (caught_up m d).node ≡ node_trace d.node
caught_trace m d = by (is_behind d.node) refl
  where
    by : (t : Bool) → is_behind d.node ≡ t → node_trace (if t then replay m d else d).node ≡ node_trace d.node
    by false e = refl
    by true e = ap (λ (c : CallHere). node_trace c.node) (replays_all m d e)

-- so the clock is right after it where it was
pub caught_reads : {K : Type 0} → (records : K → List (List ℕ)) (p q : ProcessValue K) (before after : Step) → CatchesUp records p.service (caught_up p.node.id) p.node q.node before after
    → Reads records (record p { clock = q.clock }) → Reads records (record q { service = p.service })
caught_reads records p q before after h r = record {
  reads = r.reads;
  clock = r.clock;
  latest = subst (ShowNoLater q.clock) (sym (ap (λ (d : CallHere). node_trace d.node) h.is ∙ caught_trace p.node.id (call_of records p.service [] p.node before))) r.latest;
}

-- ---- what comes behind

module _ {K : Type 0} (records : K → List (List ℕ)) (gives : K → List ℕ → Answer → K → Type 0) (faults : K → ℕ) (p q : ProcessValue K) (keeper : q.node.keeper ≡ p.node.keeper) (dated : Reads records (record p { clock = q.clock })) (clock : ℤ) (clock_is : q.clock ≡ clock) (step : Step) where
  -- it was behind, and what it replayed is told behind the step
  pub caught_behind : (result : Result Step AllocError) (outcome : Result Step Refusal) → is_behind (here records p) ≡ true → IfOk result (IsJoined step outcome)
      → IfOk outcome (Does records gives faults p.service [] (replay p.node.id) p.node q.node) → IfOk result (λ (after : Step). IsCaught records p q clock step after)
  caught_behind (Err e) outcome behind joined done = tt
  caught_behind (Ok after) (Err refusal) behind joined done = absurd joined
  caught_behind (Ok after) (Ok more) behind joined done =
      let c = catches_behind records gives faults p.service p.node.id p.node q.node keeper step more after behind joined done in
      record { catches = c; reads = λ u. caught_reads records p q step after c dated; clock_is = λ u. clock_is }

  -- it wasn't
  pub caught_none : q.node ≡ p.node → is_behind (here records p) ≡ false → IsCaught records p q clock step step
  caught_none same behind =
      let c = catches_none records gives faults p.service p.node.id p.node q.node keeper step same behind in
      record { catches = c; reads = λ u. caught_reads records p q step step c dated; clock_is = λ u. clock_is }

-- ---- the clock of what is known more

trace_append : (some more : List Value) → trace_of (some ++ more) ≡ trace_of some ++ trace_of more
trace_append [] more = refl
trace_append (v ∷ some) more = ap (λ (es : List Event). events_of v ++ es) (trace_append some more) ∙ sym (append_assoc (events_of v) (trace_of some) (trace_of more))

-- once it is noted the clock is right
pub noted_reads : {K : Type 0} → (records : K → List (List ℕ)) (p : ProcessValue K) (many : ℕ) (clock : ℤ) (test : Option AppliedValue) → IsUpSettling records p many test → clock ≡ noted_clock records p many
    → Reads records (record p { clock = clock })
noted_reads {K} records p many clock test h e = subst (λ (c : ℤ). Reads records (record p { clock = c })) (sym e) right
  where
    all : List Value
    all = known (here records p).log

    more : List Value
    more = drop many all

    raised : ℤ
    raised = clock_after p.clock more

    shown : ShowNoLater raised (trace_of (take many all ++ more))
    shown =
        subst (ShowNoLater raised) (sym (trace_append (take many all) more))
        (both_show raised (trace_of (take many all)) (trace_of more) (after_raises p.clock more (trace_of (take many all)) h.noted) (after_shows p.clock more))

    numbers : (reads : ℕ) × (raised ≡ pos reads)
    numbers = subst (λ (c : ℤ). (reads : ℕ) × (clock_after c more ≡ pos reads)) (sym h.clock) (after_reads h.reads more)

    right : Reads records (record p { clock = raised })
    right = record {
      reads = numbers.0;
      clock = numbers.1;
      latest =
          both_show raised (trace_of all) (here records p).work.live
          (subst (λ (vs : List Value). ShowNoLater raised (trace_of vs)) (take-append-drop many all) shown)
          (after_raises p.clock more (here records p).work.live h.live);
    }

-- the values past so many, as the node's window has them, are those that it knows beyond as many
pub noted_is : {K : Type 0} → (records : K → List (List ℕ)) (p : ProcessValue K) (many : ℕ) (w : WindowValue) (more : List Value) (clock : ℤ) → IsSettling records p many None → p.node.up ≡ true
    → w ≡ record { offset = p.node.offset; values = p.node.known } → more ≡ drop (many - w.offset) w.values → clock ≡ clock_after p.clock more → clock ≡ noted_clock records p many
noted_is {K} records p many w more clock settling up window behind noted = noted ∙ ap (clock_after p.clock) all
  where
    nothing : p.node.offset ≡ 0
    nothing = holds records p.service p.node settling.node settling.plain up

    same : many - p.node.offset ≡ many
    same = ap (λ (o : ℕ). many - o) nothing ∙ omega arith

    all : more ≡ drop many (known (here records p).log)
    all =
        behind
        ∙ (ap (λ (v : WindowValue). drop (many - v.offset) v.values) window
        ∙ (ap (λ (k : ℕ). drop k p.node.known) same ∙ ap (drop many) (known_is records p.service p.node settling.node settling.plain up)))

-- what a test came to has the clock that is noted
pub test_noted : {K : Type 0} → (records : K → List (List ℕ)) (p : ProcessValue K) (many : ℕ) (test : Option AppliedValue) (a : AppliedValue) → test ≡ Some a → IsUpSettling records p many test → a.clock ≡ noted_clock records p many
test_noted records p many test a is h = subst (λ (o : Option AppliedValue). IfSome o (λ (b : AppliedValue). b.clock ≡ noted_clock records p many)) is h.test_clock

-- where nothing more is known, that is the clock that the process has
pub noted_still : {K : Type 0} → (records : K → List (List ℕ)) (p : ProcessValue K) (many : ℕ) → HasNoNews records p many None → noted_clock records p many ≡ p.clock
noted_still records p many news = ap (clock_after p.clock) (drop_all many (known (here records p).log) (omega (arith, news.known_is)))
