use Rattle.std.proofs.Common.{◌≡◌, refl, subst, ◌∙◌}
use Rattle.rex_syntax.specs.declared.service.Declarations.{Declarations}
use Rattle.rex_state.specs.Start.{start_of}
use Rattle.rex_state.specs.Sound.{IsSound}
use Rattle.rex_live.proofs.Begun.{is_begun}
use Rattle.rex_live.proofs.desk.Desk.open.Goals as goal

pub invariant_of-result : goal.invariant_of-result
invariant_of-result g c =
    let kept = c.in_ok-kept.kept in
    is_begun g.S.Setting.service g.S.Setting.requests c.args.requests g.S.Setting.dice c.new-2.result c.new.result.items c.args.events.total c.in_ok-places.places kept _
    (subst (λ (d : Declarations). IsSound d kept) c.requires.service c.in_ok-kept.ensures.sound)
    (subst (λ (d : Declarations). kept ≡ start_of d) c.requires.service c.in_ok-kept.ensures.start)
    c.requires.requests
    (c.new-2.ensures ∙ c.requires.dice)
    c.requires.events
    c.new.ensures.items
    refl
    (rw (c.requires.service, c.as_slice.ensures) at c.in_ok-places.ensures)
