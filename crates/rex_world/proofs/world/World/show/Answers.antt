use Rattle.rex_world.proofs.Common.{ap, length, subst, sym, ◌∙◌, seen_by_releases, stamp_at, AreReleased, here_at}
use Rattle.std.proofs.lemmas.List.{with_items_is}
use Rattle.rex_world.proofs.Placed.{here_so, member_so}
use Rattle.rex_world.proofs.Shown.{releases_long}
use Rattle.rex_world.proofs.world.World.show.Goals as goal

pub show-requires : goal.show-requires
show-requires g c = record {
  member = member_so _ c.requires.there _ _ c.index.ensures _ _ c.requires.members;
  clients = ap length c.deref_mut.ensures.value ∙ c.requires.clients;
  releases = subst (λ x. AreReleased x c.args.effects.now) (here_so _ c.requires.there _ _ c.index.ensures) c.requires.releases;
}

pub returns-clause-seen : goal.returns-clause-seen
returns-clause-seen g c =
    let is = c.in_ok-show.ensures ∙ ap (seen_by_releases (stamp_at (here_at c.args.svc.now c.args.self.now.agreed c.index.result.now)) c.args.effects.now) c.deref_mut.ensures.value in
    with_items_is c.args.self.now.seen c.show.new.seen (ap length is ∙ releases_long (stamp_at (here_at c.args.svc.now c.args.self.now.agreed c.index.result.now)) c.args.effects.now _ ∙ sym c.args.self.now.seen.ok.0)
    ∙ is
    ∙ ap (λ x. seen_by_releases (stamp_at x) c.args.effects.now c.args.self.now.seen.items) (sym (here_so _ c.requires.there _ _ c.index.ensures))
