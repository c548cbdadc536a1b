use Rattle.rex_node.proofs.Common.{rules, arith, ◌≡◌, ◌+◌, length, ap, sym, ◌∙◌, knows}
use Rattle.rex_cluster.proofs.Replies.{some_of}
use Rattle.rex_node.proofs.ProposedCuts.{cut_fell, cut_short, cut_stuck, cut_waits, cut_known, idle_leads, if_both, may_between, on_error, told_same}
use Rattle.rex_node.proofs.Written.{on_err}
use Rattle.rex_node.proofs.node.Node.propose_value.Goals as goal

pub returns-then-has_open : goal.returns-then-has_open
returns-then-has_open g c = record {
  ends = let s = some_of _ c.requires.active in
      let next : c.count-instance.result + 1 ≡ length (knows g.P.Past.past c.args.self.now) + 1 = ap (λ n. n + 1) c.count-instance.ensures.known in
      let told = told_same (ap (λ z. z.id) c.self.view_is) next in
      cut_waits _ _ _ _ _ c.requires.node c.requires.up s.1 _ told next
      _ c.args.draft.now c.propose.new.draft
      (rw c.in-On.is at c.in_ok-propose.ensures.opens) (rw c.in-On.is at c.in_ok-propose.ensures.parts) (sym c.has_open.ensures ∙ c.if-has_open.true);
  stuck = search rules;
  same = search rules;
}

pub returns-in-Down : goal.returns-in-Down
returns-in-Down g c = record {
  ends = let s = some_of _ c.requires.active in
      let next : c.count-instance.result + 1 ≡ length (knows g.P.Past.past c.args.self.now) + 1 = ap (λ n. n + 1) c.count-instance.ensures.known in
      let told = told_same (ap (λ z. z.id) c.self.view_is) next in
      cut_fell _ _ _ _ _ c.requires.node c.requires.up s.1 _ told next
      _ c.args.draft.now c.propose.new.draft
      (rw c.in-Down.is at c.in_ok-propose.ensures.opens) c.propose.ensures.same;
  stuck = search rules;
  same = search rules;
}

pub learn-requires-clause-may : goal.learn-requires-clause-may
learn-requires-clause-may g c =
    let s = some_of _ c.requires.active in
    let next : c.count-instance.result + 1 ≡ length (knows g.P.Past.past c.args.self.now) + 1 = ap (λ n. n + 1) c.count-instance.ensures.known in
    let told = told_same (ap (λ z. z.id) c.self.view_is) next in
    let l = idle_leads c.args.self.now.acceptor _ c.requires.idle in
    may_between _ _ _ _ _ c.requires.node c.requires.up s.1 _ told next
    _ c.args.draft.now c.propose.new.draft
    (rw c.in-On.is at c.in_ok-propose.ensures.opens) (rw c.in-On.is at c.in_ok-propose.ensures.parts) l.1 (record { first = omega arith; last = omega (arith, c.requires.left, next) }) c.requires.value c.requires.cut c.requires.count

pub returns-in_err-propose : goal.returns-in_err-propose
returns-in_err-propose g c = record {
  ends = search rules;
  stuck = let s = some_of _ c.requires.active in
      let next : c.count-instance.result + 1 ≡ length (knows g.P.Past.past c.args.self.now) + 1 = ap (λ n. n + 1) c.count-instance.ensures.known in
      let told = told_same (ap (λ z. z.id) c.self.view_is) next in
      on_err _
      (cut_short _ _ _ _ _ c.requires.node c.requires.up s.1 _ told next
      _ _ c.propose.new.draft c.in_err-propose.ensures.stuck);
  same = search rules;
}

pub returns-else-has_open : goal.returns-else-has_open
returns-else-has_open g c = record {
  ends = let s = some_of _ c.requires.active in
      let next : c.count-instance.result + 1 ≡ length (knows g.P.Past.past c.args.self.now) + 1 = ap (λ n. n + 1) c.count-instance.ensures.known in
      let told = told_same (ap (λ z. z.id) c.self.view_is) next in
      if_both _
      _
      _ _
      (λ going hl learned. cut_known _ _ _ _ _ c.requires.node c.requires.up s.1 _ told next
      _ c.args.draft.now c.propose.new.draft
      (rw c.in-On.is at c.in_ok-propose.ensures.opens) (rw c.in-On.is at c.in_ok-propose.ensures.parts) (sym c.has_open.ensures ∙ c.if-has_open.false) c.propose.ensures.same c.learn.new.draft going hl learned c.learn.ensures.same)
      c.learn.ensures.learns c.learn.ensures.parts;
  stuck = let s = some_of _ c.requires.active in
      let next : c.count-instance.result + 1 ≡ length (knows g.P.Past.past c.args.self.now) + 1 = ap (λ n. n + 1) c.count-instance.ensures.known in
      let told = told_same (ap (λ z. z.id) c.self.view_is) next in
      on_error _
      _ _
      (cut_stuck _ _ _ _ _ c.requires.node c.requires.up s.1 _ told next
      _ _ _
      (rw c.in-On.is at c.in_ok-propose.ensures.opens) (rw c.in-On.is at c.in_ok-propose.ensures.parts) (sym c.has_open.ensures ∙ c.if-has_open.false) c.propose.ensures.same c.learn.new.draft (rw c.in-On.is at c.in_ok-propose.ensures.longer)) c.learn.ensures.stuck;
  same = search rules;
}
