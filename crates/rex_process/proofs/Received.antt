-- A message that was heard, and what comes behind it.
use Rattle.std.proofs.Common.{arith, ◌≡◌, ℕ, ℤ, suc, Bool, true, List, [], ◌∷◌, ◌++◌, length, drop, None, inl, inr, refl, sym, ◌∙◌, ap, subst}
use Rattle.std.specs.Prelude.{◌==◌, if◌then◌else◌}
use Rattle.std.proofs.lemmas.Bool.{false≢true}
use Rattle.std.proofs.lemmas.Bool.Decides.{nat_tests}
use Rattle.std.proofs.lemmas.List.{drop_at}
use Rattle.rex_msg.specs.declared.message.Message.{Message}
use Rattle.rex_msg.specs.declared.message.Content.{Content}
use Rattle.rex_msg.specs.declared.message.Content.TheVariants as sent
use Rattle.rex_syntax.specs.Service.{IsService}
use Rattle.rex_syntax.specs.Check.{IsChecked}
use Rattle.rex_report.specs.declared.effect.Effect.TheVariants as effect
use Rattle.rex_state.specs.Start.{start_of}
use Rattle.rex_state.specs.Machine.{run}
use Rattle.rex_cluster.specs.Records.{known}
use Rattle.rex_cluster.specs.Records.Rec.{Known}
use Rattle.rex_cluster.specs.Calls.{append, begin, follow, receive, say}
use Rattle.rex_cluster.specs.Telling.{TellsNoState}
use Rattle.rex_cluster.specs.Values.{Value, events_of, service_of, trace_of}
use Rattle.rex_cluster.specs.Lanes.{Here, CallHere, node_trace}
use Rattle.rex_cluster.proofs.Replies.{trace_push}
use Rattle.rex_log.specs.Messages.{content_in, message_in}
use Rattle.rex_node.specs.declared.step.Step.{Step}
use Rattle.rex_node.specs.Parts.{NodeValue, StaysNode, here_of}
use Rattle.rex_processes.specs.Processes.{Task}
use Rattle.rex_processes.specs.Processes.Task.{Hear}
use Rattle.rex_fits.specs.Applied.{AppliedValue, ShowNoLater, clock_after, greatest_clock}
use Rattle.rex_process.specs.Coming.{Comes, HasDone}
use Rattle.rex_process.specs.Hearing.{IsTestOfChosen}
use Rattle.rex_process.specs.Process.{ProcessValue, HasTest, IsProcess, call_in, here}
use Rattle.rex_process.specs.Settling.{IsReady, noted_clock}
use Rattle.rex_process.proofs.Dating.{both_show, greatest_raises, greatest_reads, greatest_shows}
use Rattle.rex_process.proofs.Living.{hear_live}
use Rattle.rex_process.proofs.Middle.{front_shows, live_between}

-- equal numbers are found to be so
itself : (a b : ℕ) → a ≡ b → (a == b) ≡ true
itself a b e = grind (arith, nat_tests)

module _ {K : Type 0} (records : K → List (List ℕ)) (faults : K → ℕ) (p : ProcessValue K) (good : IsService p.service) (checked : IsChecked p.service) (process : IsProcess records faults p) (up : p.node.up ≡ true)
    (m : Message) (stateless : TellsNoState (content_in [] m.content)) (mid : NodeValue K) (step : Step) (comes : Comes records faults p.service (call_in p (Hear (message_in [] m))) p.node mid step) (stays : StaysNode records p.service [] p.node mid) (u : mid.up ≡ true) where
  abbrev heard_task : Task
  heard_task = Hear (message_in [] m)

  abbrev before : Here
  before = here records p

  abbrev between : Here
  between = here_of records p.service [] mid

  -- ---- the value of the next instance

  module _ (i : ℕ) (v : Value) (a : AppliedValue) (chosen : m.content ≡ sent.Chosen i v) (next : i ≡ suc (length (known before.log))) (test : HasTest p.service p.clock before v a) where
    done : HasDone records faults p.service (call_in p heard_task) p.node mid step
    done = by comes
      where
        by : Comes records faults p.service (call_in p heard_task) p.node mid step → HasDone records faults p.service (call_in p heard_task) p.node mid step
        by (goes, inl h) = h
        by (goes, inr h) = absurd (false≢true (sym h.down ∙ u))

    -- it is known then
    known_then : known between.log ≡ known before.log ++ v ∷ []
    known_then =
        ap (λ (d : CallHere). known d.node.log) done.is
        ∙ (ap (λ (c : Content). known (receive p.node.nodes (service_of p.service p.node.seed) p.node.id m.from (content_in [] c) (begin before)).node.log) chosen
        ∙ ap (λ (t : Bool). known (if t then append None p.node.id (Known i v) (begin before) (λ e. follow p.node.id (effect.Known p.node.id i ∷ []) e) else say (effect.IgnoredInstance i (suc (length (known before.log)))) (begin before)).node.log) same)
      where
        same : (i == suc (length (known before.log))) ≡ true
        same = itself i (suc (length (known before.log))) next

    -- so the test came to the clock that is noted
    noted_then : a.clock ≡ noted_clock records (record p { node = mid }) (length (known before.log))
    noted_then =
        test.clock_is
        ∙ sym (ap (λ (vs : List Value). clock_after p.clock (drop (length (known before.log)) vs)) known_then
        ∙ ap (clock_after p.clock) (drop_at (known before.log) (v ∷ []) (length (known before.log)) refl))

    dated : ShowNoLater a.clock (trace_of (known before.log ++ v ∷ []) ++ between.work.live)
    dated = subst (λ (c : ℤ). ShowNoLater c (trace_of (known before.log ++ v ∷ []) ++ between.work.live)) (sym test.clock_is)
        (both_show raised (trace_of (known before.log ++ v ∷ [])) between.work.live
        (subst (ShowNoLater raised) (sym (trace_push (known before.log) v))
        (both_show raised (trace_of (known before.log)) (events_of v) (greatest_raises p.clock (events_of v) (trace_of (known before.log)) (front_shows p.clock (trace_of (known before.log)) before.work.live latest)) (greatest_shows p.clock (events_of v))))
        (greatest_raises p.clock (events_of v) between.work.live
        (live_between records faults p good checked process up heard_task mid step comes stays tt stateless (λ c d. hear_live c p.service good checked p.node.seed p.node.nodes p.node.id (message_in [] m) d) u)))
      where
        raised : ℤ
        raised = greatest_clock p.clock (events_of v)

        latest : ShowNoLater p.clock (node_trace before)
        latest = (process.up up).latest

    ready : IsReady records (record p { node = mid }) a
    ready =
        let is_up = process.up up in
        let reads = greatest_reads is_up.reads (events_of v) in
        record {
          runs = ap (λ (vs : List Value). run p.service (start_of p.service) (trace_of vs)) known_then ∙ test.runs;
          dated = record {
            reads = reads.0;
            clock = test.clock_is ∙ (ap (λ (c : ℤ). greatest_clock c (events_of v)) is_up.clock ∙ reads.1);
            latest = subst (λ (vs : List Value). ShowNoLater a.clock (trace_of vs ++ between.work.live)) (sym known_then) dated;
          };
        }

  -- what was tested is all that the node knows then, and its clock is the one that is noted
  pub heard_ready : (a : AppliedValue) → IsTestOfChosen records p m.content a → IsReady records (record p { node = mid }) a × (a.clock ≡ noted_clock records (record p { node = mid }) (length (known before.log)))
  heard_ready a t = by m.content refl t
    where
      by : (c : Content) → m.content ≡ c → IsTestOfChosen records p c a → IsReady records (record p { node = mid }) a × (a.clock ≡ noted_clock records (record p { node = mid }) (length (known before.log)))
      by (sent.Chosen i v) e t = (ready i v a e t.0 t.1, noted_then i v a e t.0 t.1)
      by _ e t = absurd t
