use Rattle.std.proofs.Common.{List, ap, ◌∙◌}
use Rattle.std.specs.Prelude.{ℤ}
use Rattle.rex_live.proofs.Lends.{brings_as}
use Rattle.rex_live.proofs.lending.bring_back.Goals as goal

-- a thread that was lent what is kept brings back what the floor would come to
pub returns-then-is_kept : goal.returns-then-is_kept
returns-then-is_kept g c =
    let d = c.declarations-service.ensures in
    c.put_lane.ensures
    ∙ brings_as c.args.svc.now c.declarations-service.result.now g.S.Setting.service c.args.kept.now c.take_written.new.kept c.args.lane c.done-done.result c.args.brought.lent c.args.brought.frame c.args.brought.lent_values.items c.deref.result.now
    d.whole c.requires.setting d.sound c.requires.fits (c.is_kept.ensures.frame c.if-is_kept.true) (c.is_kept.ensures.values c.if-is_kept.true) (ap (λ (vs : List ℤ). (c.args.brought.frame, vs)) c.deref.ensures.value ∙ c.args.brought.ran) c.take_written.ensures.rest c.take_written.ensures.taken c.done-done.ensures
