-- A call, and what is replayed behind it.
use Rattle.std.proofs.Common.{◌≡◌, ◌<◌, ℕ, List, inl, inr, sym, ◌∙◌, ap, subst}
use Rattle.rex_syntax.specs.declared.service.Declarations.{Declarations}
use Rattle.rex_cluster.specs.Lanes.{CallHere}
use Rattle.rex_node.specs.declared.step.Step.{Step}
use Rattle.rex_node.specs.Parts.{NodeValue}
use Rattle.rex_process.specs.Coming.{Comes, GoesOn, CatchesUp}
use Rattle.rex_process.specs.Process.{caught_up}

-- the records go on where the keeper is the same
same_goes : {K : Type 0} → (records : K → List (List ℕ)) (old between new : K) → new ≡ between → GoesOn records old between → GoesOn records old new
same_goes records old between new e h = record { written = h.written; grown = ap records e ∙ h.grown }

-- a call and a catching up come to the call that catches up
pub then_caught : {K : Type 0} → (records : K → List (List ℕ)) (faults : K → ℕ) (service : Declarations) (call : CallHere → CallHere) (m : ℕ) (old between new : NodeValue K) (first step : Step)
    → Comes records faults service call old between first → CatchesUp records service (caught_up m) between new first step → Comes records faults service (λ d. caught_up m (call d)) old new step
then_caught records faults service call m old between new first step (goes, inl h) c =
    (same_goes records old.keeper between.keeper new.keeper c.keeper goes, inl (record { is = c.is ∙ ap (caught_up m) h.is; counted = ap faults c.keeper ∙ h.counted }))
then_caught records faults service call m old between new first step (goes, inr h) c = (
  same_goes records old.keeper between.keeper new.keeper c.keeper goes,
  inr (record {
    before = h.before;
    kept = h.kept;
    is = c.is ∙ ap (caught_up m) h.is;
    counted = subst (λ k. faults old.keeper < faults k) (sym c.keeper) h.counted;
    down = c.up ∙ h.down;
    quiet = c.sends ∙ h.quiet;
  }),
)
