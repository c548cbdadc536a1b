-- What a call of a node comes to that may append.
use Rattle.std.specs.Prelude.{◌≡◌, ℕ, List, Result, IfOk, OnErr}
use Rattle.rex_syntax.specs.declared.service.Declarations.{Declarations}
use Rattle.rex_traits.specs.Chains.{Answer}
use Rattle.rex_cluster.specs.Values.{Value}
use Rattle.rex_cluster.specs.Lanes.{CallHere}
use Rattle.rex_node.specs.declared.refusal.Refusal.{Refusal}
use Rattle.rex_node.specs.declared.step.Step.{Step}
use Rattle.rex_node.specs.Parts.{NodeValue, StaysNode}
use Rattle.rex_node.specs.Telling.{StepTells}
use Rattle.rex_node.specs.Calls.{Does, IsSpared, Leaves, LeavesAll, TellsDown}

-- it answers the refusals that are due, and else does to the node what this one of the model does; it tells states as they are, and that the node is down where it is; where memory is short it leaves nothing, or a node that is down; and the node is kept
pub record Performs {K : Type 0} (records : K → List (List ℕ)) (gives : K → List ℕ → Answer → K → Type 0) (faults : K → ℕ) (service : Declarations) (past : List Value) (call : CallHere → CallHere) (refuses : Result Step Refusal → Type 0) (old new : NodeValue K) (result : Result Step Refusal) : Type 0 where
  pub refused : refuses result
  pub told : IfOk result (Does records gives faults service past call old new)
  pub tells : StepTells service past result
  pub down : TellsDown faults old new result
  pub left : Leaves records gives faults service past call result old new
  pub same : IsSpared result old new
  pub kept : StaysNode records service past old new

-- the same of one that makes its one append last, and sends nothing: where memory is short nothing has changed
pub record PerformsAtOnce {K : Type 0} (records : K → List (List ℕ)) (gives : K → List ℕ → Answer → K → Type 0) (faults : K → ℕ) (service : Declarations) (past : List Value) (call : CallHere → CallHere) (refuses : Result Step Refusal → Type 0) (old new : NodeValue K) (result : Result Step Refusal) : Type 0 where
  pub refused : refuses result
  pub told : IfOk result (Does records gives faults service past call old new)
  pub down : TellsDown faults old new result
  pub left : LeavesAll records gives faults result old new
  pub same : IsSpared result old new
  pub kept : StaysNode records service past old new

-- the same of one that appends nothing: an error changes nothing, and the keeper is as it was
pub record PerformsInMemory {K : Type 0} (records : K → List (List ℕ)) (gives : K → List ℕ → Answer → K → Type 0) (faults : K → ℕ) (service : Declarations) (past : List Value) (call : CallHere → CallHere) (refuses : Result Step Refusal → Type 0) (old new : NodeValue K) (result : Result Step Refusal) : Type 0 where
  pub refused : refuses result
  pub told : IfOk result (Does records gives faults service past call old new)
  pub same : OnErr result (new ≡ old)
  pub keeper : new.keeper ≡ old.keeper
  pub kept : StaysNode records service past old new
