-- What a process is asked for, among what happens in the model.
use Rattle.std.proofs.Common.{◌≡◌, ℕ, Bool, true, false, List, [], ◌∷◌, ◌++◌, length, map, fold, None, inl, inr, refl, sym, ◌∙◌, ap, subst}
use Rattle.rex_syntax.specs.declared.service.Declarations.{Declarations}
use Rattle.rex_state.specs.Value.{StateValue}
use Rattle.rex_log.specs.Messages.{message_in}
use Rattle.rex_cluster.specs.Records.{Rec}
use Rattle.rex_cluster.specs.Quorum.{IsNode}
use Rattle.rex_cluster.specs.Node.{is_active, down_node, Message as ModelMessage}
use Rattle.rex_cluster.specs.Calls.{begin}
use Rattle.rex_cluster.specs.Values.{Value}
use Rattle.rex_cluster.specs.Lanes.{Here, CallHere, active_only, lane_turn}
use Rattle.rex_cluster.specs.World.{World, node_at}
use Rattle.rex_node.specs.declared.step.Step.{Step}
use Rattle.rex_node.specs.Parts.{NodeValue, here_of}
use Rattle.rex_processes.specs.Processes.{Task, Happening, TaskIsHonest, after_happenings, armed_after, call_for, happens}
use Rattle.rex_processes.specs.Processes.Task.{Elect as ToElect, Submit as ToSubmit, Turn as ToTurn, Cut as ToCut, Hear as ToHear, Ask as ToAsk}
use Rattle.rex_processes.specs.Processes.Happening.{Does, DiesDoing, Dies}
use Rattle.rex_processes.specs.Plain.{IsPlainTask, NamesAnother}
use Rattle.rex_frames.specs.declared.asking.Asked.{Asked}
use Rattle.rex_frames.specs.declared.asking.Asked.TheVariants.{Elect, Submit, Run, Turn, Cut, Hear, Foretell, Ask, Read, Look, Nothing}
use Rattle.rex_process.specs.declared.answers.Answer.{Answer}
use Rattle.rex_process.specs.declared.answers.Answer.TheVariants.{Did, Unfit}
use Rattle.rex_process.specs.declared.running.Ran.{Ran}
use Rattle.rex_process.specs.declared.running.Ran.TheVariants.{Made, Refused}
use Rattle.rex_process.specs.Process.{ProcessValue, Answers, ComesTo, IsLeft, call_in, here}
use Rattle.rex_process.specs.Running.{RanAs}
use Rattle.rex_serve.specs.Answering.{Answered, BreaksOff, IsLeftOf}
use Rattle.rex_serve.specs.Standing.{HearsSent, IsNodeOf, each_at, no_step, step_in, step_of}
use Rattle.rex_serve.proofs.Steady.{IsSteady, task_steady}
use Rattle.rex_serve.proofs.Happened.{Happens, dies, dies_doing, does, happens_and, happens_none, then_quiet}
use Rattle.rex_serve.proofs.Tasks.{Gone, is_own, task_gone}
use Rattle.rex_serve.proofs.There.{IsThere}

-- ---- turns

-- a turn sends nothing, and leaves a node up that is
turn_alike : (service : Declarations) (reads lane : ℕ) (d : CallHere) (t : Bool)
    → ((active_only t d (lane_turn service reads lane d)).sends ≡ d.sends) × ((active_only t d (lane_turn service reads lane d)).node.up ≡ d.node.up)
turn_alike service reads lane d true = (refl, refl)
turn_alike service reads lane d false = (refl, refl)

module _ (service : Declarations) (seed n m reads : ℕ) where
  -- the node after the turn of a lane
  abbrev turned : Here → ℕ → Here
  turned x lane = (call_for service seed n m (ToTurn lane reads) (begin x)).node

  abbrev turns : List ℕ → List Happening
  turns lanes = map (λ (lane : ℕ). Does (ToTurn lane reads)) lanes

  pub turns_up : (lanes : List ℕ) (x : Here) → x.up ≡ true → (fold turned x lanes).up ≡ true
  turns_up [] x up = up
  turns_up (lane ∷ lanes) x up = turns_up lanes (turned x lane) ((turn_alike service reads lane (begin x) (is_active x.role)).1 ∙ up)

  -- lanes have turns, one after the other
  pub turns_happen : (lanes : List ℕ) (w : World) (x : Here) → node_at w.nodes m ≡ x → x.up ≡ true → IsNode (length w.nodes) m
      → Happens service seed n m w (turns lanes) (fold turned x lanes) []
  turns_happen [] w x e up there = happens_none service seed n m w x e
  turns_happen (lane ∷ lanes) w x e up there =
      let alike = turn_alike service reads lane (begin x) (is_active x.role) in
      let v : World = (happens service seed n w m (Does (ToTurn lane reads))).world in
      let one : Happens service seed n m w (Does (ToTurn lane reads) ∷ []) (turned x lane) [] =
      subst (λ (s : List (ModelMessage Value)). Happens service seed n m w (Does (ToTurn lane reads) ∷ []) (turned x lane) s) alike.0
      (does service seed n m w x e there (ToTurn lane reads) up tt tt tt) in
      happens_and service seed n m w (Does (ToTurn lane reads) ∷ []) (turns lanes) (turned x lane) (fold turned (turned x lane) lanes) [] [] one
      (turns_happen lanes v (turned x lane) one.reaches.own (alike.1 ∙ up) (subst (λ (k : ℕ). IsNode k m) (sym one.reaches.many) there))

-- ---- what is asked for

module _ {K : Type 0} (records : K → List (List ℕ)) (faults : K → ℕ) (p q : ProcessValue K) (w : World) (at : node_at w.nodes p.node.id ≡ here records p) (up : p.node.up ≡ true) (there : IsNode (length w.nodes) p.node.id) where
  -- the process came to this one, and its node sent this step
  abbrev pub Came : Step → Type 0
  Came step = Gone records faults p w at up there (here_of records p.service [] q.node) (map (message_in []) step.sends)

  -- a process that stays as it is
  stays : q.node ≡ p.node → Came no_step
  stays e = record {
    happened = [];
    node = here records p;
    goes = happens_none p.service p.node.seed p.node.nodes p.node.id w (here records p) at;
    is_node = subst (λ (x : NodeValue K). IsNodeOf (here_of records p.service [] x) (here records p)) (sym e) (is_own (here records p) up);
  }

  does_task : (task : Task) (step : Step) → TaskIsHonest p.service w task → IsPlainTask task → NamesAnother p.node.nodes p.node.id task
      → ComesTo records faults p q task step → Came step
  does_task task step honest plain named c = task_gone records faults p w at up there task honest plain named q.node step c.came

  answers_task : (task : Task) (a : Answer) → TaskIsHonest p.service w task → IsPlainTask task → NamesAnother p.node.nodes p.node.id task
      → Answers records faults p q task a → Came (step_of a)
  answers_task task (Did step) honest plain named c = does_task task step honest plain named c
  answers_task task Unfit honest plain named c = stays (ap (λ (r : ProcessValue K). r.node) c.0)

  turns_are : q.service ≡ p.service → {x : Here} → here records q ≡ x → here_of records p.service [] q.node ≡ x
  turns_are service_is e = sym (ap (λ (s : Declarations). here_of records s [] q.node) service_is) ∙ e

  runs : (service_is : q.service ≡ p.service) (reads : ℕ) (ran : Ran) → RanAs records p q reads ran → Came no_step
  runs service_is reads (Made events) h = record {
    happened = turns p.service p.node.seed p.node.nodes p.node.id reads h.lanes;
    node = here_of records p.service [] q.node;
    goes = subst (λ (x : Here). Happens p.service p.node.seed p.node.nodes p.node.id w (turns p.service p.node.seed p.node.nodes p.node.id reads h.lanes) x [])
        (sym (turns_are service_is h.turns))
        (turns_happen p.service p.node.seed p.node.nodes p.node.id reads h.lanes w (here records p) at up there);
    is_node = is_own (here_of records p.service [] q.node)
        (ap (λ (x : Here). x.up) (turns_are service_is h.turns) ∙ turns_up p.service p.node.seed p.node.nodes p.node.id reads h.lanes (here records p) up);
  }
  runs service_is reads (Refused effect) h = stays h.same

  -- whatever it answers
  pub answered_gone : (service_is : q.service ≡ p.service) (asked : Asked) (out : List ℕ) → IsThere p.service p.node.id p.node.nodes asked → HearsSent w asked
      → (h : Answered records faults p q asked out) → Came (step_in records faults p q asked out h)
  answered_gone service_is Elect out fits sent h = answers_task ToElect h.outcome tt tt tt h.came
  answered_gone service_is (Submit request) out fits sent h = does_task (ToSubmit request) h.outcome fits tt tt h.came
  answered_gone service_is (Run clock) out fits sent h = runs service_is h.came.reads h.outcome h.came.came
  answered_gone service_is (Turn lane clock) out fits sent h = does_task (ToTurn lane h.came.reads) h.outcome tt tt tt h.came.comes
  answered_gone service_is Cut out fits sent h = does_task ToCut h.outcome tt tt tt h.came
  answered_gone service_is (Hear message) out fits sent h = answers_task (ToHear (message_in [] message)) h.outcome sent tt fits h.came
  answered_gone service_is (Foretell message) out fits sent h = stays (ap (λ (r : ProcessValue K). r.node) h.same)
  answered_gone service_is (Ask to) out fits sent h = does_task (ToAsk to) h.outcome tt tt fits h.came
  answered_gone service_is (Read client variable seen) out fits sent h = stays (ap (λ (r : ProcessValue K). r.node) h.same)
  answered_gone service_is Look out fits sent h = stays (ap (λ (r : ProcessValue K). r.node) h.same)
  answered_gone service_is Nothing out fits sent h = stays (ap (λ (r : ProcessValue K). r.node) h.same)

  -- ---- what is left

  -- honest happenings to the process, after which its node is down with the records of the other one
  pub record HasLeft : Type 0 where
    pub happened : List Happening
    pub sends : List (ModelMessage Value)
    pub goes : Happens p.service p.node.seed p.node.nodes p.node.id w happened (down_node (here_of records p.service [] q.node).log None) sends

  -- happenings that leave this node, and then the process dies
  then_dies : (xs : List Happening) (x : Here) (s : List (ModelMessage Value)) → Happens p.service p.node.seed p.node.nodes p.node.id w xs x s → x.up ≡ true
      → Happens p.service p.node.seed p.node.nodes p.node.id w (xs ++ Dies ∷ []) (down_node x.log None) s
  then_dies xs x s h u =
      let v : World = after_happenings p.service p.node.seed p.node.nodes w (each_at p.node.id xs) in
      then_quiet p.service p.node.seed p.node.nodes p.node.id w (xs ++ Dies ∷ []) (down_node x.log None) s [] refl
      (happens_and p.service p.node.seed p.node.nodes p.node.id w xs (Dies ∷ []) x (down_node x.log None) s [] h
      (dies p.service p.node.seed p.node.nodes p.node.id v x h.reaches.own (subst (λ (k : ℕ). IsNode k p.node.id) (sym h.reaches.many) there) u))

  module _ (service_is : q.service ≡ p.service) where
    abbrev own : Here
    own = here_of records p.service [] q.node

    own_log : (here records q).log ≡ own.log
    own_log = ap (λ (s : Declarations). (here_of records s [] q.node).log) service_is

    left_with : (xs : List Happening) (log : List (Rec Value StateValue)) (s : List (ModelMessage Value)) → (here records q).log ≡ log
        → Happens p.service p.node.seed p.node.nodes p.node.id w xs (down_node log None) s → HasLeft
    left_with xs log s e h = record {
      happened = xs;
      sends = s;
      goes = subst (λ (l : List (Rec Value StateValue)). Happens p.service p.node.seed p.node.nodes p.node.id w xs (down_node l None) s) (sym e ∙ own_log) h;
    }

    -- it did what it was asked for, and then it died
    left_after : (step : Step) → Came step → HasLeft
    left_after step g = by own.up refl
      where
        by : (t : Bool) → own.up ≡ t → HasLeft
        by true u =
            let same : g.node ≡ own = g.is_node.up u in
            left_with (g.happened ++ Dies ∷ []) g.node.log (map (message_in []) step.sends) (own_log ∙ sym (ap (λ (x : Here). x.log) same)) (then_dies g.happened g.node _ g.goes (ap (λ (x : Here). x.up) same ∙ u))
        by false u =
            left_with g.happened own.log (map (message_in []) step.sends) own_log
            (subst (λ (x : Here). Happens p.service p.node.seed p.node.nodes p.node.id w g.happened x (map (message_in []) step.sends)) (g.is_node.down u) g.goes)

    -- its records are as they were
    left_same : (here records q).log ≡ (here records p).log → HasLeft
    left_same e = left_with (Dies ∷ []) (here records p).log [] e (dies p.service p.node.seed p.node.nodes p.node.id w (here records p) at there up)

    left_task : (task : Task) → TaskIsHonest p.service w task → IsPlainTask task → NamesAnother p.node.nodes p.node.id task → IsLeft records p q task → HasLeft
    left_task task honest plain named (inl e) = left_same e
    left_task task honest plain named (inr (inl e)) =
        let steady : IsSteady (call_in p task (begin (here records p))) = task_steady p.service p.node.seed p.node.nodes p.node.id task (begin (here records p)) plain (record { up = up; unarmed = refl }) in
        left_with (Does task ∷ Dies ∷ []) (call_in p task (begin (here records p))).node.log (call_in p task (begin (here records p))).sends e
        (then_dies (Does task ∷ []) (call_in p task (begin (here records p))).node (call_in p task (begin (here records p))).sends
        (does p.service p.node.seed p.node.nodes p.node.id w (here records p) at there task up honest plain named) steady.up)
    left_task task honest plain named (inr (inr h)) =
        left_with (DiesDoing h.0 h.1 task ∷ []) (call_in p task (armed_after h.0 h.1 (begin (here records p)))).node.log (call_in p task (armed_after h.0 h.1 (begin (here records p)))).sends h.2
        (dies_doing p.service p.node.seed p.node.nodes p.node.id w (here records p) at there h.0 h.1 task up honest plain named)

    left_of : (asked : Asked) → IsThere p.service p.node.id p.node.nodes asked → HearsSent w asked → IsLeftOf records p q asked → HasLeft
    left_of Elect fits sent h = left_task ToElect tt tt tt h
    left_of (Submit request) fits sent h = left_task (ToSubmit request) fits tt tt h
    left_of (Run clock) fits sent h = left_same h
    left_of (Turn lane clock) fits sent h = left_same h
    left_of Cut fits sent h = left_task ToCut tt tt tt h
    left_of (Hear message) fits sent h = left_task (ToHear (message_in [] message)) sent tt fits h
    left_of (Foretell message) fits sent h = left_same h
    left_of (Ask to) fits sent h = left_same h
    left_of (Read client variable seen) fits sent h = left_same h
    left_of Look fits sent h = left_same h
    left_of Nothing fits sent h = left_same h

    -- where memory is short
    pub broken_left : (asked : Asked) → IsThere p.service p.node.id p.node.nodes asked → HearsSent w asked → BreaksOff records faults p q asked → HasLeft
    broken_left asked fits sent (inl h) = left_after (step_in records faults p q asked h.0 h.1) (answered_gone service_is asked h.0 fits sent h.1)
    broken_left asked fits sent (inr h) = left_of asked fits sent h
