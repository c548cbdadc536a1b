use Rattle.rex_node.proofs.Common.{rules, sym, subst, inl, ◌∙◌, map, IsStuck, whole, on_promise, service_of, proposal_in}
use Rattle.rex_node.proofs.Counts.{counts_many, counts_to, promise_back, promise_ends, ignored_same, promise_have, promise_ignored, promise_may, promise_stuck}
use Rattle.rex_node.proofs.node.Node.on_promise.Goals as goal
use Rattle.rex_node.proofs.Stuck.{stands_same}
use Rattle.rex_node.proofs.Written.{on_err}

pub returns-in_ok-tell-in-Ignored : goal.returns-in_ok-tell-in-Ignored
returns-in_ok-tell-in-Ignored g c = record {
  ends = promise_ignored _ _ c.requires.may.node c.requires.may.up _ c.requires.from _ c.requires.reported c.args.draft.now (sym c.in_ok-why.ensures.vote ∙ c.in-Ignored.is)
      c.in_ok-why.ensures.counted c.told_of.ensures c.tell.new.self c.in_ok-tell-in-Ignored.ensures.effects c.in_ok-tell-in-Ignored.ensures.sends;
  stuck = search rules;
  same = search rules;
}

pub returns-in-Ok : goal.returns-in-Ok
returns-in-Ok g c = record {
  ends = let n = counts_to _ c.in_ok-why.ensures.vote c.in-NotYet.is in
      promise_have _ _ c.requires.may.node c.requires.may.up _ c.requires.from _ c.requires.reported c.args.draft.now n.counts.is n.counts.new n.counts.majority
      c.in_ok-why.ensures.counted n.have_is c.tell-in-NotYet.new.self c.in-Ok.ensures.effects c.in-Ok.ensures.sends;
  stuck = search rules;
  same = search rules;
}

pub returns-in-Err : goal.returns-in-Err
returns-in-Err g c = record {
  ends = search rules;
  stuck = let n = counts_to _ c.in_ok-why.ensures.vote c.in-NotYet.is in
      promise_back _ _ c.requires.may.node c.requires.may.up _ c.requires.from _ c.requires.reported _ n.counts.is n.counts.new
      c.in_ok-why.ensures.counted c.take_back.ensures;
  same = search rules;
}

pub go_on-requires : goal.go_on-requires
go_on-requires g c =
    let n = counts_many _ c.in_ok-why.ensures.vote c.in-Quorum.is in
    record {
      may = promise_may g.K.Keeper.append_gives g.K.Keeper.faults c.requires.may.node c.requires.may.up _ c.requires.from _ c.requires.reported c.args.draft.now n.is n.new n.majority
          c.in_ok-why.ensures.counted c.turns-turns.ensures c.requires.runs c.requires.may.count;
    }

pub returns-in-Ok-go_on : goal.returns-in-Ok-go_on
returns-in-Ok-go_on g c = record {
  ends = let n = counts_many _ c.in_ok-why.ensures.vote c.in-Quorum.is in
      promise_ends _ _ c.requires.may.node c.requires.may.up _ c.requires.from _ c.requires.reported c.args.draft.now n.is n.new n.majority
      c.in_ok-why.ensures.counted c.turns-turns.ensures c.go_on.new.draft _ c.in-Ok-go_on.ensures.ends;
  stuck = search rules;
  same = search rules;
}

pub returns-in-Err-go_on : goal.returns-in-Err-go_on
returns-in-Err-go_on g c = record {
  ends = search rules;
  stuck = let n = counts_many _ c.in_ok-why.ensures.vote c.in-Quorum.is in
      promise_stuck _ _ c.requires.may.node c.requires.may.up _ c.requires.from _ c.requires.reported _ n.is n.new n.majority
      c.in_ok-why.ensures.counted c.turns-turns.ensures c.in-Err-go_on.ensures.stuck c.take_back-in-Err-go_on.ensures;
  same = search rules;
}

pub returns-in_err-tell-in-Ignored : goal.returns-in_err-tell-in-Ignored
returns-in_err-tell-in-Ignored g c = record {
  ends = search rules;
  stuck = on_err _
      (subst (λ n. IsStuck g.K.Keeper.records g.K.Keeper.append_gives g.K.Keeper.faults c.args.svc.now g.P.Past.past (λ d. on_promise c.args.self.now.nodes (service_of c.args.svc.now c.args.self.now.seed) c.args.self.now.id c.args.from c.args.ballot (map proposal_in c.args.reported.now) d d.node.role) (whole g.P.Past.past c.args.self.now) n c.args.draft.now)
      (sym (ignored_same g.K.Keeper.append_gives g.K.Keeper.faults c.requires.may.node c.requires.may.up _ c.requires.from _ c.requires.reported c.args.draft.now (sym c.in_ok-why.ensures.vote ∙ c.in-Ignored.is)
      c.in_ok-why.ensures.counted))
      (inl (stands_same)));
  same = search rules;
}
