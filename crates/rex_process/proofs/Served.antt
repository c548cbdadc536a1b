-- What a call comes to beside no past that a node served beside one.
use Rattle.std.proofs.Common.{◌≡◌, ℕ, Bool, true, false, List, [], ◌∷◌, ◌++◌, length, map, Option, Some, None, inl, inr, sym, ◌∙◌, ap, ap₂, subst, append_assoc}
use Rattle.std.proofs.lemmas.List.Elements.{All-nil, All-cons}
use Rattle.rex_state.specs.Value.{StateValue}
use Rattle.rex_traits.specs.Chains.{Answer}
use Rattle.rex_cluster.specs.Records.{Rec}
use Rattle.rex_cluster.specs.Node.{Failure, Message as ModelMessage}
use Rattle.rex_cluster.specs.Node.Failure.{After}
use Rattle.rex_cluster.specs.Calls.{begin}
use Rattle.rex_cluster.specs.Telling.{TellsNoState, TellNoState}
use Rattle.rex_cluster.specs.Values.{Value}
use Rattle.rex_cluster.specs.Lanes.{Here, CallHere}
use Rattle.rex_log.specs.Log.{log_of}
use Rattle.rex_log.specs.Messages.{message_in}
use Rattle.rex_node.specs.declared.step.Step.{Step}
use Rattle.rex_node.specs.Calls.{Does, armed_with, call_of}
use Rattle.rex_node.specs.Parts.{NodeValue, StaysNode, failed_records, here_of}
use Rattle.rex_processes.specs.Processes.{Task}
use Rattle.rex_processes.specs.Plain.{HeardFits, HearsNoState, IsPlain, IsPlainTask}
use Rattle.rex_processes.proofs.Calling.{plain_offset}
use Rattle.rex_processes.proofs.Stateless.{plain_stays, plain_tells_none}
use Rattle.rex_steps.specs.Serving.{DoesCall, IsShort, Serves, ServesIf}
use Rattle.rex_process.specs.Coming.{Comes, GoesOn}
use Rattle.rex_process.specs.Process.{ProcessValue, IsLeft, call_in, here}
use Rattle.rex_process.proofs.Pasts.{AreStateless, same_here, same_log, same_node, same_sends}

each_stateless : (ms : List (ModelMessage Value)) → TellNoState ms → AreStateless ms
each_stateless [] none = All-nil (λ (m : ModelMessage Value). TellsNoState m.content)
each_stateless (m ∷ ms) none = All-cons (λ (x : ModelMessage Value). TellsNoState x.content) m ms none.0 (each_stateless ms none.1)

-- an append that failed has kept its record or lost it
failed_goes : {K : Type 0} (records : K → List (List ℕ)) (old new : K) (kept : Bool) (written : List (List ℕ)) (bytes : List ℕ) → records new ≡ failed_records kept (records old ++ written) bytes → GoesOn records old new
failed_goes records old new true written bytes e = record { written = written ++ bytes ∷ []; grown = e ∙ append_assoc (records old) written (bytes ∷ []) }
failed_goes records old new false written bytes e = record { written = written; grown = e }

-- a call beside the past does a task, which adds no state to plain records
module _ {K : Type 0} (records : K → List (List ℕ)) (gives : K → List ℕ → Answer → K → Type 0) (faults : K → ℕ) (p : ProcessValue K) (plain : IsPlain (here records p).log) (up : p.node.up ≡ true) (past : List Value) (task : Task) (call : CallHere → CallHere)
    (same : (f : Option Failure) → call (armed_with f (begin (here_of records p.service past p.node))) ≡ call_in p task (armed_with f (begin (here records p)))) (plain_task : IsPlainTask task) (stateless : HearsNoState task) (numbers : HeardFits task) (mid : NodeValue K) where
  abbrev Log : Type 0
  Log = List (Rec Value StateValue)

  abbrev log : Log
  log = (here_of records p.service past mid).log

  abbrev done : Option Failure → CallHere
  done f = call_in p task (armed_with f (begin (here records p)))

  -- so its records stay plain, and say the same beside none
  says : (f : Option Failure) → (call (armed_with f (begin (here_of records p.service past p.node)))).node.log ≡ log → IsPlain log × ((here_of records p.service [] mid).log ≡ (done f).node.log)
  says f e = (stay, sym (same_log p.service past [] (records mid.keeper) stay) ∙ is)
    where
      is : log ≡ (done f).node.log
      is = sym e ∙ ap (λ (d : CallHere). d.node.log) (same f)

      stay : IsPlain log
      stay = subst (λ (l : Log). IsPlain l) (sym is) (plain_stays p.service p.node.seed p.node.nodes p.node.id task (armed_with f (begin (here records p))) plain_task stateless plain)

  -- where memory was short, its records are left
  pub left_beside : IsShort records gives faults p.service past call p.node mid → IsLeft records p (record p { node = mid }) task
  left_beside (inl h) = inl (ap (log_of p.service []) h.records_are)
  left_beside (inr h) = inr (inr (length h.stops.written, false, (says (Some (After (length h.stops.written) false)) h.stops.is).1))

  module _ (step : Step) where
    beside : (f : Option Failure) → call (armed_with f (begin (here_of records p.service past p.node))) ≡ call_of records p.service past mid step → (call_of records p.service [] mid step ≡ done f) × IsPlain log
    beside f e = (is, stay)
      where
        comes : call_of records p.service past mid step ≡ done f
        comes = sym e ∙ same f

        stay : IsPlain log
        stay = (says f (ap (λ (d : CallHere). d.node.log) e)).0

        unsaid : TellNoState (done f).sends
        unsaid = plain_tells_none p.service p.node.seed p.node.nodes p.node.id (armed_with f (begin (here records p))) plain tt task numbers

        sends : map (message_in past) step.sends ≡ map (message_in []) step.sends
        sends = same_sends past [] step.sends (each_stateless (map (message_in past) step.sends) (subst (λ (d : CallHere). TellNoState d.sends) (sym comes) unsaid))

        is : call_of records p.service [] mid step ≡ done f
        is =
            ap₂ (λ (x : Here) (ms : List (ModelMessage Value)). record { node = x; sends = ms; effects = step.effects }) (sym (same_here records p.service past [] mid stay)) (sym sends)
            ∙ comes

    -- a step that it told is one that the task comes to
    pub comes_beside : Serves records gives faults p.service past call p.node mid step → Comes records faults p.service (call_in p task) p.node mid step × IsPlain log
    comes_beside h = by called.does
      where
        called : DoesCall records gives faults p.service past call p.node mid step
        called = subst (λ (u : Bool). ServesIf u records gives faults p.service past call p.node mid step) up h.serves

        by : Does records gives faults p.service past call p.node mid step → Comes records faults p.service (call_in p task) p.node mid step × IsPlain log
        by (inl d) = let b = beside None d.is in ((record { written = d.written; grown = d.grown }, inl (record { is = b.0; counted = d.counted })), b.1)
        by (inr d) =
            let b = beside (Some (After (length d.written) d.kept)) d.is in (
              (
                failed_goes records p.node.keeper mid.keeper d.kept d.written d.bytes d.grown,
                inr (record { before = length d.written; kept = d.kept; is = b.0; counted = d.counted; down = called.ends.falls d.counted; quiet = called.ends.quiet d.counted }),
              ),
              b.1,
            )

  -- and the node stays one beside none
  pub stays_beside : IsPlain log → StaysNode records p.service past p.node mid → StaysNode records p.service [] p.node mid
  stays_beside stay h = record {
    same = record { id = h.same.id; nodes = h.same.nodes; seed = h.same.seed; decoded = h.same.decoded };
    kept = same_node records p.service past [] mid stay (λ u. (h.kept.up u).offset ∙ plain_offset log stay) h.kept;
  }
