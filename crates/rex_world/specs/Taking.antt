-- Events that a node is handed, one or a block of them.
use Rattle.std.specs.Prelude.{◌≡◌, ◌<◌, ◌+◌, ◌^◌, ℕ, true, List, [], ◌∷◌, Some, Result, Err, IfOk, OnOk, OnErr}
use Rattle.rex_syntax.specs.declared.service.Declarations.{Declarations}
use Rattle.rex_event.specs.declared.event.Event.{Event}
use Rattle.rex_record.specs.declared.turns.Turn.{Turn}
use Rattle.rex_state.specs.Counts.{AreCounted}
use Rattle.rex_state.specs.Machine.{lane_of, run}
use Rattle.rex_state.specs.Value.{StateValue}
use Rattle.rex_cluster.specs.Lanes.{Here, live_state}
use Rattle.rex_cluster.specs.Takes.{Doing, taken, taken_in}
use Rattle.rex_cluster.specs.Values.{Value}
use Rattle.rex_cluster.specs.Takes.Doing.{Takes}
use Rattle.rex_node.specs.declared.refusal.Refusal.{Refusal}
use Rattle.rex_node.specs.declared.refusal.Refusal.TheVariants as why
use Rattle.rex_node.specs.Blocks.{take_each}
use Rattle.rex_node.specs.Calls.{LeadsTo, Refuses, refusal_active}
use Rattle.rex_world.specs.declared.world.World.{World}
use Rattle.rex_world.specs.Calls.{IsWhole}
use Rattle.rex_world.specs.Kept.{IsRunning, IsSame}
use Rattle.rex_world.specs.Members.{IsOwnMember, Member, StaysOwnMember, here_at}
use Rattle.rex_world.specs.World.{node_in, world_of}

-- the node of this number is handed the events, one after the other
abbrev pub takes_at : ℕ → List Event → List Doing
takes_at m [] = []
takes_at m (e ∷ es) = Takes m e ∷ takes_at m es

-- a node that is handed an event takes it where it can, or refuses the call and is as it was
pub record IsHanded (service : Declarations) (e : Event) (before after : Here) (outcome : Result Turn Refusal) : Type 0 where
  pub refused : Refuses (refusal_active before) outcome
  pub told : IfOk outcome (λ (t : Turn). t ≡ taken_in service before e)
  pub takes : IfOk outcome (λ (t : Turn). LeadsTo (taken t) before after)
  pub same : OnErr outcome (after ≡ before)

-- one that is handed a block takes of it what it can, or refuses the call and is as it was
pub record IsHandedBlock (service : Declarations) (es : List Event) (before after : Here) (outcome : Result (Unit {0}) Refusal) : Type 0 where
  pub refused : Refuses (refusal_active before) outcome
  pub takes : OnOk outcome (LeadsTo (take_each service es) before after)
  pub same : OnErr outcome (after ≡ before)

-- events lead a node that is up from its live state to this one
abbrev pub LeadsOn : Declarations → Here → List Event → StateValue → Type 0
LeadsOn service x es s = x.up ≡ true → run service (live_state service x) es ≡ Some s

-- a member can take an event, which can be counted
pub record CanTake (service : Declarations) (past : List Value) (x : Member) (e : Event) : Type 0 where
  pub member : IsOwnMember service past x
  pub count : x.up ≡ true → (lane_of (live_state service (here_at service past x)) e.lane).done + 1 < 2 ^ 32

-- a member can take a block, whose events lead on to this state and can be counted
pub record CanTakeBlock (service : Declarations) (past : List Value) (x : Member) (es : List Event) (s : StateValue) : Type 0 where
  pub member : IsOwnMember service past x
  pub runs : LeadsOn service (here_at service past x) es s
  pub counted : AreCounted es

-- a member that was handed an event stays one
pub record HandsEvent (service : Declarations) (past : List Value) (e : Event) (before after : Member) (outcome : Result Turn Refusal) : Type 0 where
  pub handed : IsHanded service e (here_at service past before) (here_at service past after) outcome
  pub stays : StaysOwnMember service past before after

-- so does one that was handed a block
pub record HandsBlock (service : Declarations) (past : List Value) (es : List Event) (before after : Member) (outcome : Result (Unit {0}) Refusal) : Type 0 where
  pub handed : IsHandedBlock service es (here_at service past before) (here_at service past after) outcome
  pub stays : StaysOwnMember service past before after

-- a world of which a node was handed events: the call is refused as the node says, and then the model's world is as it was; it runs on but for want of memory, which breaks it, over the same nodes, requests and seed, and with the same count of lines
pub record WasHanded {S A : Type 0} (service : Declarations) (before after : World S) (number : ℕ) (outcome : Result A Refusal) : Type 0 where
  pub refused : Refuses (refusal_active (node_in service before number)) outcome
  pub unchanged : OnErr outcome (world_of service after ≡ world_of service before)
  pub running : IsWhole outcome → IsRunning service after
  pub same : IsSame before after
  pub done : after.done ≡ before.done
  pub broken : outcome ≡ Err why.OutOfMemory → after.broken ≡ true
