-- What a step of the model comes to, from a world that runs.
use Rattle.rex_world.proofs.Common.{◌≡◌, ℕ, ◌≤◌, true, cond, List, length, Result, Ok, Err, OnOk, eq-eqb, refl, sym, ◌∙◌, ap, subst, Declarations, ScheduleLine, IsNode, LineFits, StateValue, known, offset, Service, begin, Value, values_fit, service_of, known_begins, first, first_longer, HasForgotten, CallHere, ModelWorld, node_at, logs, put, after, Begins, roles, IsKept, node_put, next_fits, step_kept, RunsOn, World, disarmed, world_of, nodes_of, IsRunning, Starts, step_in}
use Rattle.std.specs.declared.alloc.AllocError.{AllocError}
use Rattle.rex_cluster.specs.Calls as calls
use Rattle.rex_safety.proofs.Agreeing.{base_is_right}
use Rattle.rex_cluster.proofs.Lists.{offset_known}
use Rattle.rex_log.proofs.Firsts.{first_take}
use Rattle.rex_cluster.specs.Invariant.{KeepsAll}
use Rattle.rex_safety.specs.Kept.{IsWorld}
use Rattle.rex_cluster.proofs.Calls.{elect_good}
use Rattle.rex_safety.proofs.Worlds.{called}
use Rattle.rex_world.proofs.Placed.{many_here}
use Rattle.rex_world.proofs.Working.{fit}

pub on_ok : {A B : Type 0} (r : Result (Unit {0}) AllocError) → (A → B) → OnOk r A → OnOk r B
on_ok (Ok x) f h = f h
on_ok (Err e) f h = tt

module _ {S : Type 0} {service : Declarations} {w : World S} (h : IsRunning service w) where
  abbrev model : ModelWorld
  model = world_of service w

  abbrev sv : Service Value StateValue
  sv = service_of service w.seed

  -- each step is kept
  pub kept_next : (line : ScheduleLine) → LineFits (nodes_of w) (length w.requests) service.lanes line → IsKept service w.seed (nodes_of w) (step_in service w line).world
  kept_next line fits = step_kept service h.service_is h.checked _ h.requests w.seed _ h.few model line fits h.kept

  -- what a node knows after a call that keeps the model runs from the start
  calls_run : {m : ℕ} → IsNode (nodes_of w) m → {call : CallHere → CallHere}
      → ((d : CallHere) → KeepsAll (nodes_of w) sv (logs model) (roles model) model.messages m d → KeepsAll (nodes_of w) sv (logs model) (roles model) model.messages m (call d))
      → RunsOn service call (begin (node_at model.nodes m))
  calls_run {m} there {call} keeps = subst (λ x. values_fit service (known x.log) ≡ true) new ((next_fits service w.seed _ next ok).known m there)
    where
      d : CallHere
      d = call (begin (node_at model.nodes m))

      next : ModelWorld
      next = (after model m d).world

      ok : IsWorld (nodes_of w) sv next
      ok = (called _ sv model h.kept.world m there call keeps).0

      inside : IsNode (length model.nodes) m
      inside = subst (λ k. IsNode k m) (sym (many_here service w.agreed _)) there

      new : node_at (put model.nodes m d.node) m ≡ d.node
      new = node_put _ m d.node m inside ∙ ap (λ t. cond t d.node (node_at model.nodes m)) (eq-eqb m m refl)

  -- so it does where the node's keeper isn't armed
  pub runs_after : {m : ℕ} → IsNode (nodes_of w) m → {call : CallHere → CallHere}
      → ((d : CallHere) → KeepsAll (nodes_of w) sv (logs model) (roles model) model.messages m d → KeepsAll (nodes_of w) sv (logs model) (roles model) model.messages m (call d))
      → RunsOn service call (begin (disarmed (node_at model.nodes m)))
  runs_after {m} there {call} keeps = calls_run there (λ d good. keeps (record d { node = disarmed d.node }) (still_good d good))
    where
      still_good : (d : CallHere) → KeepsAll (nodes_of w) sv (logs model) (roles model) model.messages m d → KeepsAll (nodes_of w) sv (logs model) (roles model) model.messages m (record d { node = disarmed d.node })
      still_good d good = record {
        safe = good.safe;
        role = good.role;
        here = record { based = good.here.based; replayed = good.here.replayed };
        others = good.others;
        old = good.old;
        grows = good.grows;
        out = good.out;
      }

  -- what a node knows begins what is agreed on
  pub front_known : {m : ℕ} → IsNode (nodes_of w) m → Begins (known (node_at model.nodes m).log) w.agreed
  front_known {m} there = subst (Begins (known (node_at model.nodes m).log)) (sym h.agreed) (known_begins _ sv model h.kept.world m there)

  -- so it is of what it doesn't hold
  forgotten : (m : ℕ) → IsNode (nodes_of w) m → HasForgotten w.agreed (node_at model.nodes m).log
  forgotten m there =
      let k : ℕ = offset (node_at model.nodes m).log in
      let values : List Value = known (node_at model.nodes m).log in
      let f = front_known there in
      let l : k ≤ length values = offset_known sv (node_at model.nodes m).log (h.kept.world.cluster.safe.sorted m there) in
      ap (first k) (sym f.1) ∙ first_longer k values f.0 l ∙ first_take k values l

  -- ---- what each kind of call needs

  module _ {m : ℕ} (there : IsNode (nodes_of w) m) where
    pub elect_runs : RunsOn service (calls.elect (nodes_of w) sv m) (begin (disarmed (node_at model.nodes m)))
    elect_runs = runs_after there (elect_good _ sv (logs model) (roles model) model.messages m there h.few)

    pub starts_from : Starts service w.agreed (node_at model.nodes m)
    starts_from = record { fit = fit service w h m there; base = λ s e. base_is_right service w.seed _ model h.kept.world m s there e; forgotten = forgotten m there }
