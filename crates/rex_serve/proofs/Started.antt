-- A process that comes up, among what happens in the model.
use Rattle.std.proofs.Common.{◌≡◌, ℕ, Bool, true, false, not, ◌&&◌, List, [], ◌∷◌, length, take, Option, Some, None, refl, sym, ◌∙◌, ap, subst}
use Rattle.std.specs.Prelude.{nat_lt, if◌then◌else◌}
use Rattle.std.proofs.lemmas.Bool.{and_parts}
use Rattle.rex_syntax.specs.declared.service.Declarations.{Declarations}
use Rattle.rex_syntax.specs.declared.version.Version.TheVariants.{Two}
use Rattle.rex_report.specs.declared.effect.Effect.{Effect}
use Rattle.rex_report.specs.declared.effect.Effect.TheVariants.{Migrated}
use Rattle.rex_state.specs.Value.{StateValue}
use Rattle.rex_log.specs.Log.{log_of}
use Rattle.rex_cluster.specs.Records.{Rec, base, has_old_base, known}
use Rattle.rex_cluster.specs.Records.Rec.{Checkpoint}
use Rattle.rex_cluster.specs.Quorum.{IsNode}
use Rattle.rex_cluster.specs.Node.{Failure, Service, is_active, down_node, Message as ModelMessage}
use Rattle.rex_cluster.specs.Calls.{append, begin, migrate, replay, restart, say, start}
use Rattle.rex_cluster.specs.Values.{Value, service_of}
use Rattle.rex_cluster.specs.Lanes.{Here, CallHere}
use Rattle.rex_cluster.specs.World.{World, node_at}
use Rattle.rex_processes.specs.Processes.{happens}
use Rattle.rex_processes.specs.Processes.Task.{Replay}
use Rattle.rex_processes.specs.Processes.Happening.{Does, ComesUp}
use Rattle.rex_process.specs.Process.{ProcessValue, here, is_behind}
use Rattle.rex_process.specs.Starting.{HasStarted}
use Rattle.rex_serve.proofs.Happened.{Happens, comes_up, does, happens_and, then_quiet}
use Rattle.rex_serve.proofs.Tasks.{HasGone, IsReplayOf, is_own, replays}

-- an append that doesn't fail sends nothing
append_quiet : (a : Option Failure) → a ≡ None → (m : ℕ) (r : Rec Value StateValue) (e : Effect) (d : CallHere) → (append a m r d (say e)).sends ≡ d.sends
append_quiet None same m r e d = refl
append_quiet (Some f) same m r e d = absurd cc

migrate_quiet : (sv : Service Value StateValue) (m : ℕ) (d : CallHere) → d.node.armed ≡ None → (migrate sv m d).sends ≡ d.sends
migrate_quiet sv m d unarmed = by (has_old_base d.node.log)
  where
    by : (t : Bool)
        → (if t then append d.node.armed m (Checkpoint Two (base d.node.log) (sv.state (take (base d.node.log) (known d.node.log)))) d (say (Migrated m (base d.node.log))) else d).sends ≡ d.sends
    by true = append_quiet d.node.armed unarmed m (Checkpoint Two (base d.node.log) (sv.state (take (base d.node.log) (known d.node.log)))) (Migrated m (base d.node.log)) d
    by false = refl

module _ {K : Type 0} (records : K → List (List ℕ)) (service : Declarations) (id nodes seed : ℕ) (keeper : K) (p : ProcessValue K) (h : HasStarted records service id nodes seed keeper p) (w : World)
    (at : node_at w.nodes id ≡ down_node (log_of service [] (records keeper)) None) (there : IsNode (length w.nodes) id) where
  abbrev stopped : Here
  stopped = down_node (log_of service [] (records keeper)) None

  -- what it comes to before it catches up
  abbrev started : CallHere
  started = start (service_of service seed) id (begin stopped)

  one : Happens service seed nodes id w (ComesUp ∷ []) started.node []
  one =
      subst (λ (s : List (ModelMessage Value)). Happens service seed nodes id w (ComesUp ∷ []) started.node s)
      (migrate_quiet (service_of service seed) id (restart id (begin stopped)) refl)
      (comes_up service seed nodes id w stopped at there refl)

  pub started_gone : HasGone service seed nodes id w (here records p) []
  started_gone = by (is_behind started.node) refl
    where
      by : (t : Bool) → is_behind started.node ≡ t → HasGone service seed nodes id w (here records p) []
      by false e = record {
        happened = ComesUp ∷ [];
        node = here records p;
        goes = subst (λ (x : Here). Happens service seed nodes id w (ComesUp ∷ []) x []) (sym (h.is ∙ ap (λ (t : Bool). (if t then replay id started else started).node) e)) one;
        is_node = is_own (here records p) h.up;
      }
      by true e =
          let r : IsReplayOf id started = replays id started in
          let v : World = (happens service seed nodes w id ComesUp).world in
          let again : Happens service seed nodes id v (Does Replay ∷ []) (replay id (begin started.node)).node (replay id (begin started.node)).sends =
          does service seed nodes id v started.node one.reaches.own (subst (λ (k : ℕ). IsNode k id) (sym one.reaches.many) there) Replay
          (and_parts started.node.up (not (is_active started.node.role) && nat_lt started.node.replayed (length (known started.node.log))) e).0 tt tt tt in
          record {
            happened = ComesUp ∷ Does Replay ∷ [];
            node = here records p;
            goes = subst (λ (x : Here). Happens service seed nodes id w (ComesUp ∷ Does Replay ∷ []) x [])
                (r.node ∙ sym (h.is ∙ ap (λ (t : Bool). (if t then replay id started else started).node) e))
                (then_quiet service seed nodes id w (ComesUp ∷ Does Replay ∷ []) (replay id (begin started.node)).node [] (replay id (begin started.node)).sends r.quiet
                (happens_and service seed nodes id w (ComesUp ∷ []) (Does Replay ∷ []) started.node (replay id (begin started.node)).node [] (replay id (begin started.node)).sends one again));
            is_node = is_own (here records p) h.up;
          }
