use Rattle.rex_world.proofs.Common.{◌≡◌, ◌<◌, true, length, map, take, ap, refl, ◌∙◌, subst, arith, list_all, nodes_of, world_of}
use Rattle.std.proofs.lemmas.List.{take_all}
use Rattle.rex_schedule.specs.declared.scenario.ScheduleLine.TheVariants.{Deliver}
use Rattle.rex_cluster.specs.World.{waiting_from}
use Rattle.rex_world.specs.Calls.{DidSteps}
use Rattle.rex_world.specs.Handing.{is_some_there}
use Rattle.rex_world.proofs.Handing.{handed_first, handed_next, flushed_all, over_as, same_both}
use Rattle.rex_world.proofs.world.World.hand_all_over.Goals as goal

pub loop-place-init : goal.loop-place-init
loop-place-init g c = record {
  handed = handed_first c.args.svc.now c.args.self.now.requests c.args.self.now.seed (nodes_of c.args.self.now) c.requires.running.flushed c.requires.running.handed;
  running = c.requires.running;
  same = record { nodes = refl; requests = refl; seed = refl };
  done = refl;
}

pub loop-place-preserved : goal.loop-place-preserved
loop-place-preserved g c =
    let i = c.loop-place.invariant in
    let inside : c.loop-place.place < length c.args.self.now.handed.items = omega (arith, c.loop-place-test.true, c.len-count.ensures, c.args.self.now.handed.ok.0) in
    let goes = c.in_ok-waited.ensures.goes in
    record {
      handed = handed_next _ _ _ _
          inside i.running.kept.handed i.handed
          (over_as i.same c.in_ok-waited.ensures.did);
      running = goes.running;
      same = same_both i.same goes.same;
      done = goes.done ∙ i.done;
    }

pub returns : goal.returns
returns g c =
    let i = c.loop-place.invariant in
    let f = flushed_all c.args.svc.now c.args.self.now.requests c.args.self.now.seed (nodes_of c.args.self.now)
    i.handed in
    let e : c.loop-place.place ≡ c.len-count.result =
    omega (arith, c.loop-place-test.false, c.loop-place.auto.place-end, c.len-count.ensures, c.args.self.now.handed.ok.0, c.requires.running.flushed) in
    let all : take c.loop-place.place c.args.self.now.handed.items ≡ c.args.self.now.handed.items = take_all _ _ (omega (arith, e, c.len-count.ensures, c.args.self.now.handed.ok.0)) in
    record {
      did = record {
        did = subst (λ hs. DidSteps c.args.svc.now c.args.self.now.requests c.args.self.now.seed (nodes_of c.args.self.now) (world_of c.args.svc.now c.args.self.now) (world_of c.args.svc.now c.loop-place.self) c.args.told.now c.loop-place.told (map Deliver (waiting_from 1 hs))) all i.handed.did;
        waits-is = i.handed.waits-is ∙ ap (λ hs. is_some_there (waiting_from 1 hs)) all;
      };
      goes = record {
        running = record { service_is = i.running.service_is; checked = i.running.checked; whole = i.running.whole; few = i.running.few; kept = i.running.kept; agreed = i.running.agreed; told = i.running.told; members = i.running.members; within = i.running.within; spelled = i.running.spelled; requests = i.running.requests; clients = i.running.clients; flushed = omega (arith, e, f.0); handed = subst (λ k. list_all (λ b. b) (take k c.loop-place.self.handed.items) ≡ true) e f.1 };
        same = record { nodes = i.same.nodes; requests = i.same.requests; seed = i.same.seed };
        done = i.done;
      };
    }
