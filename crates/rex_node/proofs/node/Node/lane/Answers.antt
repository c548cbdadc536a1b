use Rattle.rex_node.proofs.Common.{ap, ◌≡◌, ◌+◌, ◌<◌, length, w64, sym, subst, ◌∙◌, to_z-of_z, pcg32, turn_of, lane_of, whole}
use Rattle.rex_node.proofs.Executing.{live_state_of, turn_of_node, turn_leads, turn_stays}
use Rattle.rex_node.proofs.node.Node.lane.Goals as goal

pub lane-requires-clause-count : goal.lane-requires-clause-count
lane-requires-clause-count g c =
    subst (λ s. (lane_of s c.args.lane).done + 1 < 4294967296)
    (live_state_of (ap (λ x. whole g.P.Past.past x) c.self.view_is) c.requires.node _ (sym c.active_refusal.ensures.why ∙ c.in_default.is) (sym c.in-Some-acting.is))
    c.requires.count

pub returns-clause-told : goal.returns-clause-told
returns-clause-told g c =
    subst (λ z. c.in_ok-turn.turn ≡ turn_of c.args.svc.now c.in-Some-acting.acting.recorder.state c.in-Some-acting.acting.recorder.queue (length c.in-Some-acting.acting.recorder.live) c.args.lane z (pcg32 c.in-Some-acting.acting.dice).0)
    (to_z-of_z w64 c.args.now c.ranges.now) c.in_ok-turn.ensures.turn
    ∙ turn_of_node (ap (λ x. whole g.P.Past.past x) c.self.view_is) c.requires.node _ (sym c.active_refusal.ensures.why ∙ c.in_default.is) (sym c.in-Some-acting.is) _ _

pub returns-clause-node : goal.returns-clause-node
returns-clause-node g c =
    turn_leads (ap (λ x. whole g.P.Past.past x) c.self.view_is) c.requires.node _ (sym c.active_refusal.ensures.why ∙ c.in_default.is) (sym c.in-Some-acting.is) _ _ c.in_ok-turn.ensures.ok

pub returns-clause-kept : goal.returns-clause-kept
returns-clause-kept g c =
    turn_stays (ap (λ x. whole g.P.Past.past x) c.self.view_is) c.requires.node _ (sym c.active_refusal.ensures.why ∙ c.in_default.is) (sym c.in-Some-acting.is) _ c.in_ok-turn.ensures.ok c.lane.ensures.kept c.declarations-service.ensures.sound
