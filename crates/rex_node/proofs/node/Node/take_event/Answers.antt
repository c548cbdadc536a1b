use Rattle.rex_node.proofs.Common.{ap, ◌+◌, ◌<◌, sym, subst, ◌∙◌, lane_of, whole}
use Rattle.rex_node.proofs.Executing.{live_state_of, given_of_node, given_leads, given_stays}
use Rattle.rex_node.proofs.node.Node.take_event.Goals as goal

pub take_event-requires-clause-count : goal.take_event-requires-clause-count
take_event-requires-clause-count g c =
    subst (λ s. (lane_of s c.args.event.now.lane).done + 1 < 4294967296)
    (live_state_of (ap (λ x. whole g.P.Past.past x) c.self.view_is) c.requires.node _ (sym c.active_refusal.ensures.why ∙ c.in_default.is) (sym c.in-Some-acting.is))
    c.requires.count

pub returns-clause-told : goal.returns-clause-told
returns-clause-told g c =
    c.in_ok-turn.ensures.turn
    ∙ given_of_node (ap (λ x. whole g.P.Past.past x) c.self.view_is) c.requires.node _ (sym c.active_refusal.ensures.why ∙ c.in_default.is) (sym c.in-Some-acting.is) _

pub returns-clause-node : goal.returns-clause-node
returns-clause-node g c =
    given_leads (ap (λ x. whole g.P.Past.past x) c.self.view_is) c.requires.node _ (sym c.active_refusal.ensures.why ∙ c.in_default.is) (sym c.in-Some-acting.is) _ c.in_ok-turn.ensures.ok

pub returns-clause-kept : goal.returns-clause-kept
returns-clause-kept g c =
    given_stays (ap (λ x. whole g.P.Past.past x) c.self.view_is) c.requires.node _ (sym c.active_refusal.ensures.why ∙ c.in_default.is) (sym c.in-Some-acting.is) _ c.in_ok-turn.ensures.ok c.take_event.ensures.kept c.declarations-service.ensures.sound
