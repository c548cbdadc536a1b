-- A task of a process among what happens in the model.
use Rattle.std.proofs.Common.{◌≡◌, ℕ, Bool, true, false, not, ◌&&◌, ◌||◌, ◌==◌, List, [], ◌∷◌, ◌++◌, length, map, None, inl, inr, refl, sym, ◌∙◌, ap, subst}
use Rattle.std.specs.Prelude.{nat_lt, if◌then◌else◌}
use Rattle.std.proofs.lemmas.Bool.{and_parts, false≢true}
use Rattle.rex_syntax.specs.declared.service.Declarations.{Declarations}
use Rattle.rex_report.specs.declared.effect.Effect.TheVariants.{Replayed, UpToDate}
use Rattle.rex_state.specs.Value.{StateValue}
use Rattle.rex_log.specs.Messages.{message_in}
use Rattle.rex_cluster.specs.Records.{Rec, known}
use Rattle.rex_cluster.specs.Quorum.{IsNode}
use Rattle.rex_cluster.specs.Node.{is_active, down_node, Message as ModelMessage}
use Rattle.rex_cluster.specs.Calls.{begin, replay, say}
use Rattle.rex_cluster.specs.Values.{Value}
use Rattle.rex_cluster.specs.Lanes.{Here, CallHere}
use Rattle.rex_cluster.specs.World.{World, node_at}
use Rattle.rex_node.specs.declared.step.Step.{Step}
use Rattle.rex_node.specs.Calls.{call_of}
use Rattle.rex_node.specs.Parts.{NodeValue, here_of}
use Rattle.rex_processes.specs.Processes.{Task, Happening, TaskIsHonest, armed_after, happens}
use Rattle.rex_processes.specs.Processes.Task.{Replay}
use Rattle.rex_processes.specs.Processes.Happening.{Does, DiesDoing}
use Rattle.rex_processes.specs.Plain.{IsPlainTask, NamesAnother}
use Rattle.rex_process.specs.Coming.{Comes, HasDone, HasDied}
use Rattle.rex_process.specs.Process.{ProcessValue, call_in, caught_up, here, is_behind, task_in}
use Rattle.rex_serve.specs.Standing.{IsNodeOf}
use Rattle.rex_serve.proofs.Steady.{IsSteady, task_steady}
use Rattle.rex_serve.proofs.Happened.{Happens, does, dies_doing, happens_and, then_quiet}

-- ---- catching up

-- a replay after a call is one of the node that the call left, and sends nothing
pub record IsReplayOf (m : ℕ) (d : CallHere) : Type 0 where
  pub node : (replay m (begin d.node)).node ≡ (replay m d).node
  pub quiet : (replay m (begin d.node)).sends ≡ []
  pub sends : (replay m d).sends ≡ d.sends
  pub log : (replay m d).node.log ≡ d.node.log

-- what a replay makes of a call
abbrev all_replayed : ℕ → CallHere → CallHere
all_replayed m d = record d { node = record d.node { replayed = length (known d.node.log) }; effects = d.effects ++ Replayed m (length (known d.node.log)) ∷ [] }

replays_if : (m : ℕ) (d : CallHere) (t : Bool)
    → ((if t then say (UpToDate m) (begin d.node) else all_replayed m (begin d.node)).node ≡ (if t then say (UpToDate m) d else all_replayed m d).node)
    × ((if t then say (UpToDate m) (begin d.node) else all_replayed m (begin d.node)).sends ≡ [])
    × ((if t then say (UpToDate m) d else all_replayed m d).sends ≡ d.sends)
    × ((if t then say (UpToDate m) d else all_replayed m d).node.log ≡ d.node.log)
replays_if m d true = (refl, refl, refl, refl)
replays_if m d false = (refl, refl, refl, refl)

pub replays : (m : ℕ) (d : CallHere) → IsReplayOf m d
replays m d = let r = replays_if m d (is_active d.node.role || d.node.replayed == length (known d.node.log)) in record { node = r.0; quiet = r.1; sends = r.2; log = r.3 }

-- catching up changes neither the records nor what is sent
pub caught_alike : (m : ℕ) (d : CallHere) → ((caught_up m d).node.log ≡ d.node.log) × ((caught_up m d).sends ≡ d.sends)
caught_alike m d = by (is_behind d.node)
  where
    by : (t : Bool) → ((if t then replay m d else d).node.log ≡ d.node.log) × ((if t then replay m d else d).sends ≡ d.sends)
    by true = ((replays m d).log, (replays m d).sends)
    by false = (refl, refl)

-- a node that is up stays so while it catches up
pub caught_up_stays : (m : ℕ) (d : CallHere) → (caught_up m d).node.up ≡ d.node.up
caught_up_stays m d = by (is_behind d.node)
  where
    replayed : (t : Bool) → (if t then say (UpToDate m) d else all_replayed m d).node.up ≡ d.node.up
    replayed true = refl
    replayed false = refl

    by : (t : Bool) → (if t then replay m d else d).node.up ≡ d.node.up
    by true = replayed (is_active d.node.role || d.node.replayed == length (known d.node.log))
    by false = refl

-- ---- the world's node

-- while a node is up its parts are its own
pub is_own : (own : Here) → own.up ≡ true → IsNodeOf own own
is_own own u = record { up = λ v. refl; down = λ v. absurd (false≢true (sym v ∙ u)) }

-- ---- a task

-- honest happenings to a process: to what the world's node comes, which is this one while that is up, and else down with its records; and these messages are sent
pub record HasGone (service : Declarations) (seed n m : ℕ) (w : World) (own : Here) (sends : List (ModelMessage Value)) : Type 0 where
  pub happened : List Happening
  pub node : Here
  pub goes : Happens service seed n m w happened node sends
  pub is_node : IsNodeOf own node

module _ {K : Type 0} (records : K → List (List ℕ)) (faults : K → ℕ) (p : ProcessValue K) (w : World) (at : node_at w.nodes p.node.id ≡ here records p) (up : p.node.up ≡ true) (there : IsNode (length w.nodes) p.node.id) where
  -- the process does this, to what its node comes, and what it sends
  abbrev pub Gone : Here → List (ModelMessage Value) → Type 0
  Gone own sends = HasGone p.service p.node.seed p.node.nodes p.node.id w own sends

  module _ (task : Task) (honest : TaskIsHonest p.service w task) (plain : IsPlainTask task) (named : NamesAnother p.node.nodes p.node.id task) (new : NodeValue K) (step : Step) where
    abbrev own : Here
    own = here_of records p.service [] new

    abbrev sent : List (ModelMessage Value)
    sent = map (message_in []) step.sends

    -- the call of the model
    abbrev done : CallHere
    done = call_in p task (begin (here records p))

    -- it did the task, and replayed what it had to
    gone_done : HasDone records faults p.service (task_in p task) p.node new step → Gone own sent
    gone_done h = by (is_behind done.node) refl
      where
        steady : IsSteady done
        steady = task_steady p.service p.node.seed p.node.nodes p.node.id task (begin (here records p)) plain (record { up = up; unarmed = refl })

        up_then : own.up ≡ true
        up_then = ap (λ (c : CallHere). c.node.up) h.is ∙ (caught_up_stays p.node.id done ∙ steady.up)

        one : Happens p.service p.node.seed p.node.nodes p.node.id w (Does task ∷ []) done.node done.sends
        one = does p.service p.node.seed p.node.nodes p.node.id w (here records p) at there task up honest plain named

        by : (t : Bool) → is_behind done.node ≡ t → Gone own sent
        by false e =
            let is : call_of records p.service [] new step ≡ done = h.is ∙ ap (λ (t : Bool). if t then replay p.node.id done else done) e in
            record {
              happened = Does task ∷ [];
              node = own;
              goes = subst (λ (c : CallHere). Happens p.service p.node.seed p.node.nodes p.node.id w (Does task ∷ []) c.node c.sends) (sym is) one;
              is_node = is_own own up_then;
            }
        by true e =
            let is : call_of records p.service [] new step ≡ replay p.node.id done = h.is ∙ ap (λ (t : Bool). if t then replay p.node.id done else done) e in
            let r : IsReplayOf p.node.id done = replays p.node.id done in
            let v : World = (happens p.service p.node.seed p.node.nodes w p.node.id (Does task)).world in
            let again : Happens p.service p.node.seed p.node.nodes p.node.id v (Does Replay ∷ []) (replay p.node.id (begin done.node)).node (replay p.node.id (begin done.node)).sends =
            does p.service p.node.seed p.node.nodes p.node.id v done.node one.reaches.own (subst (λ (k : ℕ). IsNode k p.node.id) (sym one.reaches.many) there) Replay
            (and_parts done.node.up (not (is_active done.node.role) && nat_lt done.node.replayed (length (known done.node.log))) e).0 tt tt tt in
            let both : Happens p.service p.node.seed p.node.nodes p.node.id w (Does task ∷ Does Replay ∷ []) (replay p.node.id (begin done.node)).node done.sends =
            then_quiet p.service p.node.seed p.node.nodes p.node.id w (Does task ∷ Does Replay ∷ []) (replay p.node.id (begin done.node)).node done.sends (replay p.node.id (begin done.node)).sends r.quiet
            (happens_and p.service p.node.seed p.node.nodes p.node.id w (Does task ∷ []) (Does Replay ∷ []) done.node (replay p.node.id (begin done.node)).node done.sends (replay p.node.id (begin done.node)).sends one again) in
            record {
              happened = Does task ∷ Does Replay ∷ [];
              node = own;
              goes = subst (λ (x : Here). Happens p.service p.node.seed p.node.nodes p.node.id w (Does task ∷ Does Replay ∷ []) x sent) (r.node ∙ sym (ap (λ (c : CallHere). c.node) is))
                  (subst (λ (s : List (ModelMessage Value)). Happens p.service p.node.seed p.node.nodes p.node.id w (Does task ∷ Does Replay ∷ []) (replay p.node.id (begin done.node)).node s)
                  (sym (ap (λ (c : CallHere). c.sends) is ∙ r.sends)) both);
              is_node = is_own own up_then;
            }

    -- its keeper failed meanwhile
    gone_died : HasDied records faults p.service (task_in p task) p.node new step → Gone own sent
    gone_died h = record {
      happened = DiesDoing h.before h.kept task ∷ [];
      node = down_node armed.node.log None;
      goes = subst (λ (s : List (ModelMessage Value)). Happens p.service p.node.seed p.node.nodes p.node.id w (DiesDoing h.before h.kept task ∷ []) (down_node armed.node.log None) s)
          (sym (ap (λ (c : CallHere). c.sends) h.is ∙ same.1))
          (dies_doing p.service p.node.seed p.node.nodes p.node.id w (here records p) at there h.before h.kept task up honest plain named);
      is_node = record {
        up = λ u. absurd (false≢true (sym h.down ∙ u));
        down = λ u. ap (λ (l : List (Rec Value StateValue)). down_node l None) (sym (ap (λ (c : CallHere). c.node.log) h.is ∙ same.0));
      };
    }
      where
        armed : CallHere
        armed = call_in p task (armed_after h.before h.kept (begin (here records p)))

        same : ((caught_up p.node.id armed).node.log ≡ armed.node.log) × ((caught_up p.node.id armed).sends ≡ armed.sends)
        same = caught_alike p.node.id armed

    pub task_gone : Comes records faults p.service (task_in p task) p.node new step → Gone own sent
    task_gone (goes, inl h) = gone_done h
    task_gone (goes, inr h) = gone_died h
