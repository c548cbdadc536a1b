use Rattle.rex_node.proofs.Common.{rules, subst, sym, map, receive, Promise, Voted, Chose, Nack, Snapshot, service_of, first, proposal_in, content_in, armed_with, IsStuck, so_far, whole}
use Rattle.std.proofs.Common.{OnErr}
use Rattle.rex_cluster.proofs.TellNone.{receive_tells_none}
use Rattle.rex_node.proofs.Told.{nothing_tells, ok_tells}
use Rattle.rex_node.proofs.node.Node.receive.Goals as goal

pub returns-in-Promise-clause-tells : goal.returns-in-Promise-clause-tells
returns-in-Promise-clause-tells g c none =
    let x = c.args.self.now in
    let sv = service_of c.args.svc.now x.seed in
    ok_tells g.K.Keeper.records g.K.Keeper.append_gives g.K.Keeper.faults c.args.svc.now g.P.Past.past (receive x.nodes sv x.id c.args.message.now.from (Promise c.in-Promise.ballot (map proposal_in c.as_slice.result.now))) (whole g.P.Past.past x) (whole g.P.Past.past c.on_promise.new.self) c.args.draft.now c.on_promise.new.draft c.on_promise.result
    (λ f. receive_tells_none x.nodes sv x.id c.args.message.now.from (Promise c.in-Promise.ballot (map proposal_in c.as_slice.result.now)) tt (armed_with f (so_far g.K.Keeper.records c.args.svc.now g.P.Past.past (whole g.P.Past.past x) c.args.draft.now)) (nothing_tells g.K.Keeper.records c.args.svc.now g.P.Past.past (whole g.P.Past.past x) c.args.draft.now none f))
    c.on_promise.ensures.ends

pub returns-in-Accepted-clause-tells : goal.returns-in-Accepted-clause-tells
returns-in-Accepted-clause-tells g c none =
    let x = c.args.self.now in
    let sv = service_of c.args.svc.now x.seed in
    ok_tells g.K.Keeper.records g.K.Keeper.append_gives g.K.Keeper.faults c.args.svc.now g.P.Past.past (receive x.nodes sv x.id c.args.message.now.from (Voted c.in-Accepted.ballot c.in-Accepted.instance)) (whole g.P.Past.past x) (whole g.P.Past.past c.on_accepted.new.self) c.args.draft.now c.on_accepted.new.draft c.on_accepted.result
    (λ f. receive_tells_none x.nodes sv x.id c.args.message.now.from (Voted c.in-Accepted.ballot c.in-Accepted.instance) tt (armed_with f (so_far g.K.Keeper.records c.args.svc.now g.P.Past.past (whole g.P.Past.past x) c.args.draft.now)) (nothing_tells g.K.Keeper.records c.args.svc.now g.P.Past.past (whole g.P.Past.past x) c.args.draft.now none f))
    c.on_accepted.ensures.ends

pub returns-in-Chosen-clause-tells : goal.returns-in-Chosen-clause-tells
returns-in-Chosen-clause-tells g c none =
    let x = c.args.self.now in
    let sv = service_of c.args.svc.now x.seed in
    ok_tells g.K.Keeper.records g.K.Keeper.append_gives g.K.Keeper.faults c.args.svc.now g.P.Past.past (receive x.nodes sv x.id c.args.message.now.from (Chose c.in-Chosen.instance c.as_slice-in-Chosen.result.now)) (whole g.P.Past.past x) (whole g.P.Past.past c.on_chosen.new.self) c.args.draft.now c.on_chosen.new.draft c.on_chosen.result
    (λ f. receive_tells_none x.nodes sv x.id c.args.message.now.from (Chose c.in-Chosen.instance c.as_slice-in-Chosen.result.now) tt (armed_with f (so_far g.K.Keeper.records c.args.svc.now g.P.Past.past (whole g.P.Past.past x) c.args.draft.now)) (nothing_tells g.K.Keeper.records c.args.svc.now g.P.Past.past (whole g.P.Past.past x) c.args.draft.now none f))
    c.on_chosen.ensures.ends

pub returns-in-Nack-clause-tells : goal.returns-in-Nack-clause-tells
returns-in-Nack-clause-tells g c none =
    let x = c.args.self.now in
    let sv = service_of c.args.svc.now x.seed in
    ok_tells g.K.Keeper.records g.K.Keeper.append_gives g.K.Keeper.faults c.args.svc.now g.P.Past.past (receive x.nodes sv x.id c.args.message.now.from (Nack c.in-Nack.ballot c.in-Nack.promised)) (whole g.P.Past.past x) (whole g.P.Past.past c.on_nack.new.self) c.args.draft.now c.on_nack.new.draft c.on_nack.result
    (λ f. receive_tells_none x.nodes sv x.id c.args.message.now.from (Nack c.in-Nack.ballot c.in-Nack.promised) tt (armed_with f (so_far g.K.Keeper.records c.args.svc.now g.P.Past.past (whole g.P.Past.past x) c.args.draft.now)) (nothing_tells g.K.Keeper.records c.args.svc.now g.P.Past.past (whole g.P.Past.past x) c.args.draft.now none f))
    c.on_nack.ensures.ends

pub returns-in-Snapshot-clause-tells : goal.returns-in-Snapshot-clause-tells
returns-in-Snapshot-clause-tells g c none =
    let x = c.args.self.now in
    let sv = service_of c.args.svc.now x.seed in
    ok_tells g.K.Keeper.records g.K.Keeper.append_gives g.K.Keeper.faults c.args.svc.now g.P.Past.past (receive x.nodes sv x.id c.args.message.now.from (Snapshot (first c.in-Snapshot.deltas g.P.Past.past))) (whole g.P.Past.past x) (whole g.P.Past.past c.on_snapshot.new.self) c.args.draft.now c.on_snapshot.new.draft c.on_snapshot.result
    (λ f. receive_tells_none x.nodes sv x.id c.args.message.now.from (Snapshot (first c.in-Snapshot.deltas g.P.Past.past)) tt (armed_with f (so_far g.K.Keeper.records c.args.svc.now g.P.Past.past (whole g.P.Past.past x) c.args.draft.now)) (nothing_tells g.K.Keeper.records c.args.svc.now g.P.Past.past (whole g.P.Past.past x) c.args.draft.now none f))
    c.on_snapshot.ensures.goes.ends

pub returns-in-Snapshot-clause-goes : goal.returns-in-Snapshot-clause-goes
returns-in-Snapshot-clause-goes g c = record {
  ends = search rules;
  stuck = let x = c.args.self.now in
      subst
      (λ content. OnErr c.on_snapshot.result (IsStuck g.K.Keeper.records g.K.Keeper.append_gives g.K.Keeper.faults c.args.svc.now g.P.Past.past (receive x.nodes (service_of c.args.svc.now x.seed) x.id c.args.message.now.from (content_in g.P.Past.past content)) (whole g.P.Past.past x) (whole g.P.Past.past c.on_snapshot.new.self) c.args.draft.now))
      (sym c.in-Snapshot.is) c.on_snapshot.ensures.goes.stuck;
  same = search rules;
}
