use Rattle.std.proofs.Common.{ℤ, ◌≡◌, true, IfOk, sym, ap, subst, ◌∙◌}
use Rattle.rex_node.specs.declared.step.Step.{Step}
use Rattle.rex_process.specs.Process.{ProcessValue}
use Rattle.rex_process.specs.Settling.{HasNoNews, IsCaught}
use Rattle.rex_process.proofs.Following.{test_noted}
use Rattle.rex_process.proofs.process.Process.settled.Goals as goal

pub returns-in-Some-clause-caught : goal.returns-in-Some-clause-caught
returns-in-Some-clause-caught g c =
    let up : c.args.self.now.node.up ≡ true = sym (ap (λ (p : ProcessValue g.row.K.Denot). p.node.up) c.self.view_is) ∙ sym c.is_up.ensures ∙ c.if-not-is_up.false in
    subst (λ (z : ℤ). IfOk c.took.result (λ (after : Step). IsCaught g.K.Keeper.records c.args.self.now c.took.new.self z c.args.step after))
    (test_noted g.K.Keeper.records c.args.self.now c.args.known c.args.test c.in-Some.applied c.in-Some.is (c.requires.settling.up up))
    c.took.ensures.caught

pub returns-in-Some-clause-still : goal.returns-in-Some-clause-still
returns-in-Some-clause-still g c news = let e = sym news.untested ∙ c.in-Some.is in absurd (cc)

pub returns-in-None-clause-still : goal.returns-in-None-clause-still
returns-in-None-clause-still g c news = c.noted.ensures.still (subst (HasNoNews g.K.Keeper.records c.args.self.now c.args.known) news.untested news)
