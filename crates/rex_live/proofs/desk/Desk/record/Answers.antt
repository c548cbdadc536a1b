use Rattle.std.proofs.Common.{ap, sym, ◌∙◌, subst, refl}
use Rattle.rex_syntax.specs.declared.service.Declarations.{Declarations}
use Rattle.rex_state.specs.Room.{CanApply}
use Rattle.rex_live.specs.Floor.{dice_behind, recorded}
use Rattle.rex_live.specs.Lent.{begun}
use Rattle.rex_live.specs.Desk.{DeskValue}
use Rattle.rex_live.proofs.Kept.{found_begun, found_places, places_found, floor_as, desk_as}
use Rattle.rex_live.proofs.desk.Desk.record.Goals as goal

pub begin_event-requires-clause-apply : goal.begin_event-requires-clause-apply
begin_event-requires-clause-apply g c =
    let d = c.declarations-service.ensures in
    let r = found_begun _ c.args.svc.now _ _ _ _ c.self.inside.places c.self.inside.kept _ _ c.args.event.now c.requires.service d.sound d.checked c.self.view_is refl c.self.invariant c.requires.few c.requires.there c.requires.back c.requires.next in
    subst (λ (x : Declarations). CanApply x c.args.event.now.lane c.args.event.now.kind c.self.inside.kept) (sym c.requires.service) r.can

pub follow-requires : goal.follow-requires
follow-requires g c =
    let d = c.declarations-service.ensures in
    let r = found_begun _ c.args.svc.now _ _ _ _ c.self.inside.places c.self.inside.kept _ _ c.args.event.now c.requires.service d.sound d.checked c.self.view_is refl c.self.invariant c.requires.few c.requires.there c.requires.back c.requires.next in
    found_places g.S.Setting.service c.args.svc.now c.declarations-service.result.now c.self.inside.requests c.as_slice.result.now c.self.inside.kept c.begin_event.new.kept c.entries.result.now c.args.event.now c.self.inside.places c.requires.service c.declarations-service.ensures.whole c.as_slice.ensures c.begin_event.ensures c.entries.ensures r.had

pub invariant_of-self-2 : goal.invariant_of-self-2
invariant_of-self-2 g c =
    let d = c.declarations-service.ensures in
    let r = found_begun _ c.args.svc.now _ _ _ _ c.self.inside.places c.self.inside.kept _ _ c.args.event.now c.requires.service d.sound d.checked c.self.view_is refl c.self.invariant c.requires.few c.requires.there c.requires.back c.requires.next in
    let dice = c.requires.dice ∙ ap (λ (x : DeskValue). dice_behind g.S.Setting.service x.floor c.args.event.now.lane) (sym c.self.view_is) in
    let kept = c.begin_event.ensures ∙ ap (λ (x : Declarations). begun x c.self.inside.kept c.args.event.now) c.requires.service in
    let has = places_found g.S.Setting.service c.args.svc.now c.declarations-service.result.now c.self.inside.requests c.as_slice.result.now c.self.inside.kept c.begin_event.new.kept c.entries.result.now c.args.event.now c.follow.new.self c.requires.service c.declarations-service.ensures.whole c.as_slice.ensures c.begin_event.ensures c.entries.ensures c.follow.ensures in
    desk_as g.S.Setting.service g.S.Setting.requests c.self.inside.requests g.S.Setting.dice _ _ c.follow.new.self _ _ _ _ _ c.add.ensures.total kept (floor_as g.S.Setting.service _ c.args.event.now _ _ c.in_ok-push.ensures.items r.state dice) (r.desk c.follow.new.self has)

pub returns-clause-recorded : goal.returns-clause-recorded
returns-clause-recorded g c =
    let d = c.declarations-service.ensures in
    let r = found_begun _ c.args.svc.now _ _ _ _ c.self.inside.places c.self.inside.kept _ _ c.args.event.now c.requires.service d.sound d.checked c.self.view_is refl c.self.invariant c.requires.few c.requires.there c.requires.back c.requires.next in
    let dice = c.requires.dice ∙ ap (λ (x : DeskValue). dice_behind g.S.Setting.service x.floor c.args.event.now.lane) (sym c.self.view_is) in
    floor_as g.S.Setting.service _ c.args.event.now _ _ c.in_ok-push.ensures.items r.state dice
    ∙ ap (λ (x : DeskValue). recorded g.S.Setting.service x.floor c.args.event.now) c.self.view_is
