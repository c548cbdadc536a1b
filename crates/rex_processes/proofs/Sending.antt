-- Numbers stay in their ranges where processes ask others and hear others, and then each message that was sent may be heard.
use Rattle.std.proofs.Common.{◌≡◌, ℕ, ◌≤◌, Bool, true, false, ◌⊎◌, List, [], ◌∷◌, length, Some, refl, sym, ◌∙◌, ap, subst, inl, inr}
use Rattle.std.proofs.lemmas.List.Elements.{All-nil}
use Rattle.rex_ballot.specs.Limits.{most_nodes}
use Rattle.rex_syntax.specs.declared.service.Declarations.{Declarations}
use Rattle.rex_state.specs.Value.{StateValue}
use Rattle.rex_schedule.specs.declared.scenario.ScheduleLine.TheVariants as line
use Rattle.rex_schedule.specs.Fits.{LineFits}
use Rattle.rex_cluster.specs.Records.{known, base, has_old_base}
use Rattle.rex_cluster.specs.Quorum.{IsNode}
use Rattle.rex_cluster.specs.Node.{Service, Content, Message, is_active}
use Rattle.rex_cluster.specs.Node.Content.{Prepare, Promise, Accept, Accepted as Voted, Chosen as Chose, Nack, Ask, Snapshot}
use Rattle.rex_cluster.specs.Calls.{begin, enough, restart, start}
use Rattle.rex_cluster.specs.Values.{Value, service_of}
use Rattle.rex_cluster.specs.Lanes.{Here, CallHere, submit_request, lane_turn, no_limits}
use Rattle.rex_cluster.specs.World.{World, node_at, beginning, after, at_node, start_if}
use Rattle.rex_cluster.specs.Invariant.{IsIn, AreRecords}
use Rattle.rex_cluster.specs.Ranges.{MessageFits, RoleFits, NodeFits}
use Rattle.rex_cluster.specs.Telling.{TellsNoState}
use Rattle.rex_cluster.proofs.Lists.{in_cases}
use Rattle.rex_cluster.proofs.Migrated.{migrated_sends}
use Rattle.rex_cluster.proofs.Ranged.{Fits, elect_fits, receive_fits, ask_fits, replay_fits, checkpoint_fits, drop_fits, proposed_fits}
use Rattle.rex_safety.specs.Laws.{NumbersFit, NextFits}
use Rattle.rex_safety.proofs.Nexts.{next_fits}
use Rattle.rex_safety.proofs.Nodes.{put_none}
use Rattle.rex_safety.proofs.Numbers.{active_fits, any_fits, step_fits, numbers_fit}
use Rattle.rex_safety.proofs.Steps.{beginning_ok}
use Rattle.rex_safety.proofs.Worlds.{IsWorld, node_or_not}
use Rattle.rex_processes.specs.Processes.{Task, Happening, OfTask, call_for, armed_after, dead, happens, after_happenings, TaskIsHonest, IsHonest, AreHonest, processes_after}
use Rattle.rex_processes.specs.Processes.Task.{Elect, Submit, Turn, Cut, Hear, Ask as AskOther, Replay, Save, Forget}
use Rattle.rex_processes.specs.Processes.Happening.{Does, DiesDoing, Dies, ComesUp}
use Rattle.rex_processes.specs.Tested.{OpenFits, MayBeHeard}
use Rattle.rex_processes.specs.Plain.{EachTask, ArePlain, NamesAnother, MessagesAreGood}
use Rattle.rex_processes.proofs.Calling.{cut_by}
use Rattle.rex_processes.proofs.Happenings.{happens_ok, processes_ok}
use Rattle.rex_processes.proofs.Stateless.{IsSaid, processes_plainly}

module _ (service : Declarations) (seed n : ℕ) (few : n ≤ most_nodes) where
  abbrev sv : Service Value StateValue
  sv = service_of service seed

  -- ---- one call

  module _ (m : ℕ) (min : IsNode n m) where
    abbrev F : CallHere → Type 0
    F d = Fits n few sv m min d

    -- what a message that is heard has to be
    abbrev HearsFitting : Task → Type 0
    HearsFitting (Hear x) = MessageFits n x
    HearsFitting _ = Unit {0}

    call_fits : (task : Task) → NamesAnother n m task → HearsFitting task → (d : CallHere) → AreRecords sv d.node.log → F d → F (call_for service seed n m task d)
    call_fits Elect a f d r k = elect_fits n few sv m min d k
    call_fits (Submit q) a f d r k = active_fits service [] seed n few m min (is_active d.node.role) d (submit_request service (Some q) d) k (record { log = k.log; role = k.role; sends = k.sends })
    call_fits (Turn lane clock) a f d r k = active_fits service [] seed n few m min (is_active d.node.role) d (lane_turn service clock lane d) k (record { log = k.log; role = k.role; sends = k.sends })
    call_fits Cut a f d r k =
        cut_by service seed n m F (no_limits service d.node) d (λ e. record { log = k.log; role = k.role; sends = k.sends })
        (λ told l v role i. proposed_fits n few sv m min told d l v (enough l.reported) k (subst (RoleFits (length (known d.node.log))) role k.role) i)
    call_fits (Hear x) a f d r k = receive_fits n few sv m min x.from f.from a x.content f.content d r k
    call_fits (AskOther other) a f d r k = ask_fits n few sv m min other a.0 a.1 d k
    call_fits Replay a f d r k = replay_fits n few sv m min d k
    call_fits (Save version) a f d r k = checkpoint_fits n few sv m min version d k
    call_fits Forget a f d r k = drop_fits n few sv m min d k

    dead_fits : (d : CallHere) → F d → F (dead d)
    dead_fits d k = record { log = k.log; role = tt; sends = k.sends }

  -- ---- one thing

  module _ (w : World) (ok : IsWorld n sv w) (h : NumbersFit n w) (m : ℕ) where
    begun : (min : IsNode n m) → F m min (begin (node_at w.nodes m))
    begun min = let x = h.nodes m min in record { log = x.log; role = x.role; sends = λ y i. absurd i }

    hears : (min : IsNode n m) (task : Task) → TaskIsHonest service w task → HearsFitting m min task
    hears min (Hear x) honest = h.messages x honest
    hears min Elect honest = tt
    hears min (Submit r) honest = tt
    hears min (Turn lane clock) honest = tt
    hears min Cut honest = tt
    hears min (AskOther other) honest = tt
    hears min Replay honest = tt
    hears min (Save version) honest = tt
    hears min Forget honest = tt

    -- what is done to this node
    here_fits : (call : CallHere → CallHere) → ((min : IsNode n m) → F m min (call (begin (node_at w.nodes m)))) → NumbersFit n (at_node w m call).world
    here_fits call k = any_fits service [] seed n few w ok.many h m (λ d. call (begin (node_at w.nodes m))) (λ min d f. k min)

    none_starts : (IsNode n m → ⊥) → (d : CallHere) → d.sends ≡ [] → NumbersFit n (after w m d).world
    none_starts none d e = record {
      nodes = λ q qin. subst (λ (xs : List Here). NodeFits (node_at xs q)) (sym (put_none w.nodes m d.node (λ l. none (subst (λ k. IsNode k m) ok.many l)))) (h.nodes q qin);
      messages = λ x i. old x (in_cases x w.messages d.sends i);
    }
      where
        old : (x : Message Value) → IsIn x w.messages ⊎ IsIn x d.sends → MessageFits n x
        old x (inl i) = h.messages x i
        old x (inr i) = absurd (subst (IsIn x) e i)

    happens_fits : (x : Happening) → IsHonest service w x → OfTask (NamesAnother n m) x → NumbersFit n (happens service seed n w m x).world
    happens_fits (Does task) honest a =
        here_fits (call_for service seed n m task) (λ min. call_fits m min task a (hears min task honest) (begin (node_at w.nodes m)) (ok.cluster.safe.sorted m min) (begun min))
    happens_fits (DiesDoing before kept task) honest a =
        here_fits (λ d. dead (call_for service seed n m task (armed_after before kept d)))
        (λ min. dead_fits m min _ (call_fits m min task a (hears min task honest) (armed_after before kept (begin (node_at w.nodes m))) (ok.cluster.safe.sorted m min)
        (let k = begun min in record { log = k.log; role = k.role; sends = k.sends })))
    happens_fits Dies honest a = here_fits dead (λ min. dead_fits m min _ (begun min))
    happens_fits ComesUp honest a = go (node_or_not n m)
      where
        go : IsNode n m ⊎ (IsNode n m → ⊥) → NumbersFit n (happens service seed n w m ComesUp).world
        go (inl min) = step_fits service [] seed n few w ok h (line.Start m) min
        go (inr none) = up (node_at w.nodes m).up
          where
            up : (t : Bool) → NumbersFit n (start_if sv t w m).world
            up true = record { nodes = h.nodes; messages = h.messages }
            up false = none_starts none (start sv m (begin (node_at w.nodes m))) (migrated_sends (has_old_base (node_at w.nodes m).log) m (restart m (begin (node_at w.nodes m))) (base (node_at w.nodes m).log) _ refl)

  -- ---- one thing after another

  all_fit : (w : World) (xs : List (ℕ × Happening)) → IsWorld n sv w → AreHonest service seed n w xs → EachTask (NamesAnother n) xs → NumbersFit n w → NumbersFit n (after_happenings service seed n w xs)
  all_fit w [] ok honest a h = h
  all_fit w (x ∷ xs) ok honest a h =
      all_fit (happens service seed n w x.0 x.1).world xs (happens_ok service seed n few w x.0 x.1 honest.0 ok).0 honest.1 a.1 (happens_fits w ok h x.0 x.1 honest.0 a.0)

  module _ (xs : List (ℕ × Happening)) (honest : AreHonest service seed n (beginning n) xs) (a : EachTask (NamesAnother n) xs) where
    pub processes_fit : NumbersFit n (processes_after service seed n xs)
    processes_fit =
        all_fit (beginning n) xs (beginning_ok service [] seed n few) honest a (numbers_fit service [] seed n few [] (All-nil (LineFits n 0 service.lanes)))

    -- ---- what may be heard

    pub messages_good : ArePlain xs → MessagesAreGood service n (processes_after service seed n xs)
    messages_good p = record {
      good = λ x i. let k = said x i in record { fits = processes_fit.messages x i; asker = k.0; stateless = k.2 };
      heard = λ m x min i. may m x min i x.content refl (said x i).2;
    }
      where
        said : (x : Message Value) → IsIn x (processes_after service seed n xs).messages → IsSaid x
        said = (processes_plainly service seed n few xs honest p).messages

        next : NextFits service n (processes_after service seed n xs)
        next = next_fits service seed n (processes_after service seed n xs) (processes_ok service seed n few xs honest)

        open_fits : (m : ℕ) → IsNode n m → OpenFits service (node_at (processes_after service seed n xs).nodes m)
        open_fits m min = λ l q role open_one. (next.open_one m l q min role open_one).1

        may : (m : ℕ) (x : Message Value) → IsNode n m → IsIn x (processes_after service seed n xs).messages → (c : Content Value) → x.content ≡ c → TellsNoState c
            → MayBeHeard service (node_at (processes_after service seed n xs).nodes m) c
        may m x min i (Chose j v) e t = λ at. next.chosen m x v min i (e ∙ ap (λ (k : ℕ). Chose k v) at)
        may m x min i (Voted b j) e t = search (open_fits m min)
        may m x min i (Snapshot values) e t = absurd t
        may m x min i (Prepare b first) e t = tt
        may m x min i (Promise b ps) e t = tt
        may m x min i (Accept b j v) e t = tt
        may m x min i (Nack b q) e t = tt
        may m x min i (Ask first) e t = tt
