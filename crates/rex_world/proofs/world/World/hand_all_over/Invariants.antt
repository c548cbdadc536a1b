use Rattle.rex_world.proofs.Common.{◌≡◌, nodes_of, world_of, IsRunning, IsSame}
use Rattle.rex_world.proofs.Handing.{HasHanded}
use Rattle.rex_world.proofs.world.World.hand_all_over.Given as goal

abbrev pub invariant-loop-place : goal.invariant-loop-place
invariant-loop-place g l = record {
  handed : HasHanded l.svc l.fn.self.requests l.fn.self.seed (nodes_of l.fn.self) (world_of l.svc l.fn.self) (world_of l.svc l.self) l.fn.told l.told l.place l.waited;
  running : IsRunning l.svc l.self;
  same : IsSame l.fn.self l.self;
  done : l.self.done ≡ l.fn.self.done;
}
