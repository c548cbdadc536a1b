-- What comes of a call of a node, whose keeper may fail.
use Rattle.std.specs.Prelude.{◌≡◌, ◌⊎◌, ◌<◌, ℕ, Bool, false, List, [], ◌++◌}
use Rattle.rex_syntax.specs.declared.service.Declarations.{Declarations}
use Rattle.rex_cluster.specs.Calls.{begin}
use Rattle.rex_cluster.specs.Lanes.{CallHere}
use Rattle.rex_node.specs.declared.step.Step.{Step}
use Rattle.rex_node.specs.Calls.{call_of}
use Rattle.rex_node.specs.Parts.{NodeValue, here_of}
use Rattle.rex_processes.specs.Processes.{armed_after}

-- a node's records go on from those before
pub record GoesOn {K : Type 0} (records : K → List (List ℕ)) (old new : K) : Type 0 where
  pub written : List (List ℕ)
  pub grown : records new ≡ records old ++ written

module _ {K : Type 0} (records : K → List (List ℕ)) (faults : K → ℕ) (service : Declarations) (call : CallHere → CallHere) (old new : NodeValue K) (step : Step) where
  -- the node did the call, and its keeper didn't fail
  pub record HasDone : Type 0 where
    pub is : call_of records service [] new step ≡ call (begin (here_of records service [] old))
    pub counted : faults new.keeper ≡ faults old.keeper

  -- its keeper failed in the append after so many, with the record kept or lost: the node is down, and sends nothing
  pub record HasDied : Type 0 where
    pub before : ℕ
    pub kept : Bool
    pub is : call_of records service [] new step ≡ call (armed_after before kept (begin (here_of records service [] old)))
    pub counted : faults old.keeper < faults new.keeper
    pub down : new.up ≡ false
    pub quiet : step.sends ≡ []

  abbrev pub Comes : Type 0
  Comes = GoesOn records old.keeper new.keeper × (HasDone ⊎ HasDied)

-- what the node knew more was replayed, behind a step
pub record CatchesUp {K : Type 0} (records : K → List (List ℕ)) (service : Declarations) (catch : CallHere → CallHere) (old new : NodeValue K) (before after : Step) : Type 0 where
  pub is : call_of records service [] new after ≡ catch (call_of records service [] old before)
  pub keeper : new.keeper ≡ old.keeper
  pub sends : after.sends ≡ before.sends
  pub up : new.up ≡ old.up
