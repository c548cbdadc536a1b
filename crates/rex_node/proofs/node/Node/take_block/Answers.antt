use Rattle.rex_node.proofs.Common.{ap, sym, subst, ◌∙◌, run, whole}
use Rattle.std.specs.Prelude.{◌≡◌, Some}
use Rattle.rex_node.proofs.Blocks.{block_leads, block_stays}
use Rattle.rex_node.proofs.Executing.{live_state_of}
use Rattle.rex_node.proofs.node.Node.take_block.Goals as goal

pub take_block-requires-clause-runs : goal.take_block-requires-clause-runs
take_block-requires-clause-runs g c =
    subst (λ s. run c.args.svc.now s c.args.events.now ≡ Some c.args.state)
    (live_state_of (ap (λ x. whole g.P.Past.past x) c.self.view_is) c.requires.node _ (sym c.active_refusal.ensures.why ∙ c.in_default.is) (sym c.in-Some-acting.is))
    c.requires.runs

pub returns-clause-node : goal.returns-clause-node
returns-clause-node g c =
    block_leads (ap (λ x. whole g.P.Past.past x) c.self.view_is) c.requires.node _ (sym c.active_refusal.ensures.why ∙ c.in_default.is) (sym c.in-Some-acting.is) c.declarations-service.ensures.sound c.args.events.now c.in_ok-take_block.ensures.ok

pub returns-clause-kept : goal.returns-clause-kept
returns-clause-kept g c =
    block_stays (ap (λ x. whole g.P.Past.past x) c.self.view_is) c.requires.node _ (sym c.active_refusal.ensures.why ∙ c.in_default.is) (sym c.in-Some-acting.is) c.declarations-service.ensures.sound c.args.events.now c.in_ok-take_block.ensures.ok
