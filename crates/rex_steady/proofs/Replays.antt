-- The others replay what they know, one after the other.
use Rattle.std.proofs.Common.{◌≡◌, ℕ, zero, suc, ◌<◌, ◌≤◌, Bool, true, false, cond, List, [], ◌∷◌, ◌++◌, length, None, eqb, refl, sym, ◌∙◌, ap, subst, arith, eqb-true}
use Rattle.std.specs.Prelude.{◌+◌}
use Rattle.std.proofs.lemmas.Bool.{ne_eqb}
use Rattle.rex_syntax.specs.declared.request.Request.{Request}
use Rattle.rex_syntax.specs.declared.service.Declarations.{Declarations}
use Rattle.rex_report.specs.declared.effect.Effect.TheVariants.{UpToDate, Replayed}
use Rattle.rex_schedule.specs.declared.scenario.ScheduleLine.TheVariants.{Replay}
use Rattle.rex_cluster.specs.Records.{known}
use Rattle.rex_cluster.specs.Node.{no_work}
use Rattle.rex_cluster.specs.Node.Role.{Follower}
use Rattle.rex_cluster.specs.Calls.{begin, say, replay}
use Rattle.rex_cluster.specs.Lanes.{Here}
use Rattle.rex_cluster.specs.World.{World, node_at, put, row}
use Rattle.rex_cluster.specs.Takes.{after_doings}
use Rattle.rex_cluster.specs.Takes.Doing.{Does}
use Rattle.rex_steady.specs.Schedule.{replays}
use Rattle.rex_steady.specs.Steady.{AreTaken}
use Rattle.rex_steady.proofs.Flushes.{Waits, Called, call_sends}
use Rattle.rex_steady.proofs.Phases.{AreNodes, move_on}
use Rattle.rex_steady.proofs.Shapes.{Log, follow_node}
use Rattle.rex_steady.proofs.Blocks.{after_both, taken_both}

-- another node, which has replayed all that it knows
abbrev pub replayed_node : Log → Here
replayed_node log = record { log = log; up = true; armed = None; role = Follower; work = no_work; replayed = length (known log) }

replays_all : (q : ℕ) (log : Log) → (replay q (begin (follow_node log))).node ≡ replayed_node log
replays_all q log = go (eqb 0 (length (known log))) refl
  where
    go : (t : Bool) → eqb 0 (length (known log)) ≡ t
        → (cond t (say (UpToDate q) (begin (follow_node log))) (record { node = replayed_node log; sends = []; effects = Replayed q (length (known log)) ∷ [] })).node ≡ replayed_node log
    go true e = ap (λ (k : ℕ). record (follow_node log) { replayed = k }) (eqb-true 0 (length (known log)) e)
    go false e = refl

replays_quietly : (q : ℕ) (log : Log) → (replay q (begin (follow_node log))).sends ≡ []
replays_quietly q log = go (eqb 0 (length (known log)))
  where
    go : (t : Bool) → (cond t (say (UpToDate q) (begin (follow_node log))) (record { node = replayed_node log; sends = []; effects = Replayed q (length (known log)) ∷ [] })).sends ≡ []
    go true = refl
    go false = refl

module _ (service : Declarations) (requests : List Request) (seed n : ℕ) (x : Here) (log : Log) where
  -- the world after the nodes up to k replayed
  pub record Replays (w : World) (k : ℕ) : Type 0 where
    pub are : AreNodes n k x (replayed_node log) (follow_node log) (after_doings service requests seed n w (replays k)).nodes
    pub waits : Waits (after_doings service requests seed n w (replays k)) []
    pub taken : AreTaken service requests seed n w (replays k)

  replays_next : (w : World) (k : ℕ) → 1 < suc k → suc k ≤ n → AreNodes n k x (replayed_node log) (follow_node log) w.nodes → Waits w []
      → AreNodes n (suc k) x (replayed_node log) (follow_node log) (row service requests seed n w (Replay (suc k))).world.nodes × Waits (row service requests seed n w (Replay (suc k))).world []
  replays_next w k some l are waits =
      let there : node_at w.nodes (suc k) ≡ follow_node log = are.later (suc k) some l (omega arith) in
      let c : Called w (row service requests seed n w (Replay (suc k))).world (suc k) (replay (suc k) (begin (node_at w.nodes (suc k)))) = call_sends w (suc k) (replay (suc k)) (w.done + 1) waits (ap (λ (y : Here). y.up) there) in
      let node : (replay (suc k) (begin (node_at w.nodes (suc k)))).node ≡ replayed_node log = ap (λ (y : Here). (replay (suc k) (begin y)).node) there ∙ replays_all (suc k) log in
      let sends : (replay (suc k) (begin (node_at w.nodes (suc k)))).sends ≡ [] = ap (λ (y : Here). (replay (suc k) (begin y)).sends) there ∙ replays_quietly (suc k) log in (
        subst (AreNodes n (suc k) x (replayed_node log) (follow_node log)) (sym (c.nodes ∙ ap (λ (y : Here). put w.nodes (suc k) y) node)) (move_on n x (replayed_node log) (follow_node log) w.nodes k some l are),
        subst (Waits (row service requests seed n w (Replay (suc k))).world) sends c.waits,
      )

  pub replays_to : (w : World) → AreNodes n 1 x (replayed_node log) (follow_node log) w.nodes → Waits w [] → (k : ℕ) → suc k ≤ n → Replays w (suc k)
  replays_to w are waits zero l = record { are = are; waits = waits; taken = tt }
  replays_to w are waits (suc k) l = go (replays_to w are waits k (omega (arith, l)))
    where
      more : replays (suc (suc k)) ≡ replays (suc k) ++ Does (Replay (suc (suc k))) ∷ []
      more = ap (λ (t : Bool). cond t [] (replays (suc k) ++ Does (Replay (suc (suc k))) ∷ [])) (ne_eqb (suc (suc k)) 1 (λ e. omega (arith, e)))

      go : Replays w (suc k) → Replays w (suc (suc k))
      go h =
          let next = replays_next (after_doings service requests seed n w (replays (suc k))) (suc k) (omega arith) l h.are h.waits in
          let same : (row service requests seed n (after_doings service requests seed n w (replays (suc k))) (Replay (suc (suc k)))).world ≡ after_doings service requests seed n w (replays (suc (suc k))) =
          sym (ap (after_doings service requests seed n w) more ∙ after_both service requests seed n w (replays (suc k)) (Does (Replay (suc (suc k))) ∷ [])) in
          record {
            are = subst (λ (v : World). AreNodes n (suc (suc k)) x (replayed_node log) (follow_node log) v.nodes) same next.0;
            waits = subst (λ (v : World). Waits v []) same next.1;
            taken = subst (AreTaken service requests seed n w) (sym more) (taken_both service requests seed n w (replays (suc k)) (Does (Replay (suc (suc k))) ∷ []) h.taken tt);
          }
