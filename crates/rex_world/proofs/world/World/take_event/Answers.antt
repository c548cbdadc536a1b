use Rattle.rex_world.proofs.Common.{with_item, ◌≡◌, ◌-◌, ◌<◌, ◌+◌, ◌^◌, refl, sym, subst, true, ◌∙◌, lane_of, live_state}
use Rattle.rex_world.proofs.Given.{given_left, given_told, given_world, taken_running}
use Rattle.rex_world.proofs.Serving.{here_old, own_old, still_own}
use Rattle.rex_world.proofs.Working.{room}
use Rattle.rex_world.proofs.world.World.take_event.Goals as goal

pub take_event_at-turn-requires : goal.take_event_at-turn-requires
take_event_at-turn-requires g c =
    let at = c.requires in
    record {
      member = own_old _ _ at.running _ at.there c.index_mut-member.ensures.value;
      count = subst (λ x. x.up ≡ true → (lane_of (live_state c.args.svc.now x) c.args.event.now.lane).done + 1 < 2 ^ 32) (here_old _ _ at.running _ at.there c.index_mut-member.ensures.value)
          (room _ _ at.running _ at.there _);
    }

pub returns : goal.returns
returns g c =
    let at = c.requires in
    let turn = c.take_event_at-turn in
    let nodes = with_item c.args.self.now.nodes (c.args.node - 1) turn.new.node in
    let stays = still_own _ _ at.running _ at.there c.index_mut-member.ensures.value turn.ensures.stays in
    record {
      handed = given_left at.running at.there nodes c.index_mut-member.ensures.value refl stays turn.result turn.ensures.handed.refused turn.ensures.handed.same
          (λ whole. c.is_short-self.ensures.whole whole ∙ sym at.running.whole) c.is_short-self.ensures.short
          (taken_running at.running at.there nodes c.index_mut-member.ensures.value refl stays _ c.requires.begins _ turn.ensures.handed);
      told = given_told at.running at.there nodes c.index_mut-member.ensures.value refl stays _ turn.ensures.handed;
      world = given_world at.running at.there nodes c.index_mut-member.ensures.value refl stays _ c.is_short-self.result turn.result turn.ensures.handed;
    }
