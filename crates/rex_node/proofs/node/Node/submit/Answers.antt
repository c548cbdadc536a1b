use Rattle.rex_node.proofs.Common.{[], ◌∷◌, ap, sym, ◌∙◌, whole}
use Rattle.rex_cluster.specs.Lanes.{effect_of}
use Rattle.rex_node.proofs.Executing.{answer_of_node, submit_leads, submit_stays}
use Rattle.rex_node.proofs.node.Node.submit.Goals as goal

pub returns-clause-told : goal.returns-clause-told
returns-clause-told g c =
    ap (λ a. effect_of c.args.request.now a ∷ [])
    (c.in_ok-answer.ensures.answer
    ∙ answer_of_node (ap (λ x. whole g.P.Past.past x) c.self.view_is) c.requires.node _ (sym c.active_refusal.ensures.why ∙ c.in_default.is) (sym c.in-Some-acting.is) c.args.request.now)

pub returns-clause-node : goal.returns-clause-node
returns-clause-node g c =
    submit_leads (ap (λ x. whole g.P.Past.past x) c.self.view_is) c.requires.node _ (sym c.active_refusal.ensures.why ∙ c.in_default.is) (sym c.in-Some-acting.is) _ c.in_ok-answer.ensures.ok c.in_ok-answer.ensures.answer

pub returns-clause-kept : goal.returns-clause-kept
returns-clause-kept g c =
    submit_stays (ap (λ x. whole g.P.Past.past x) c.self.view_is) c.requires.node _ (sym c.active_refusal.ensures.why ∙ c.in_default.is) (sym c.in-Some-acting.is) c.in_ok-answer.ensures.ok c.in_ok-answer.ensures.answer c.declarations-service.ensures.sound c.requires.request
