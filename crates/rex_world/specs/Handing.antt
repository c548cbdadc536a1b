-- How the messages that wait are handed over, one after the other.
use Rattle.std.specs.Prelude.{◌≡◌, ℕ, ◌+◌, Bool, true, false, List, [], ◌∷◌, map, slice_index_or, if◌then◌else◌}
use Rattle.rex_syntax.specs.declared.request.Request.{Request}
use Rattle.rex_syntax.specs.declared.service.Declarations.{Declarations}
use Rattle.rex_schedule.specs.declared.scenario.ScheduleLine.{ScheduleLine}
use Rattle.rex_schedule.specs.declared.scenario.ScheduleLine.TheVariants.{Deliver}
use Rattle.rex_cluster.specs.World.{World as ModelWorld, waiting_from}
use Rattle.rex_world.specs.declared.told.Told.{Told}
use Rattle.rex_world.specs.declared.world.World.{World}
use Rattle.rex_world.specs.Calls.{DidSteps, GoesOn}
use Rattle.rex_world.specs.World.{nodes_of, world_of}

-- the step for the message at a place, from 0 on: none where a line handed it over
abbrev pub step_at : ℕ → Bool → List ScheduleLine
step_at place true = []
step_at place false = Deliver (place + 1) ∷ []

-- the message at a place was handed over where it waited, and else nothing was done; and whether one waited so far
pub record HandsOver (service : Declarations) (requests : List Request) (seed n : ℕ) (before after : ModelWorld) (old new : Told) (place : ℕ) (waited waits : Bool) : Type 0 where
  pub did : DidSteps service requests seed n before after old new (step_at place (slice_index_or before.handed place true))
  pub waits-is : waits ≡ (if slice_index_or before.handed place true then waited else true)

-- there is one
abbrev pub is_some_there : List ℕ → Bool
is_some_there [] = false
is_some_there (number ∷ numbers) = true

-- each message that waited was handed over; and whether one waited
pub record HandsAllOver (service : Declarations) (requests : List Request) (seed n : ℕ) (before after : ModelWorld) (old new : Told) (waits : Bool) : Type 0 where
  pub did : DidSteps service requests seed n before after old new (map Deliver (waiting_from 1 before.handed))
  pub waits-is : waits ≡ is_some_there (waiting_from 1 before.handed)

-- the same of a world, which runs on
pub record ComesByAll {S : Type 0} (service : Declarations) (before after : World S) (old new : Told) (waits : Bool) : Type 0 where
  pub did : HandsAllOver service before.requests before.seed (nodes_of before) (world_of service before) (world_of service after) old new waits
  pub goes : GoesOn service before after
