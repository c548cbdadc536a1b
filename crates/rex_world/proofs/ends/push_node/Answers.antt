use Rattle.rex_world.proofs.Common.{◌≡◌, true, ap, sym, ◌∙◌, Up}
use Rattle.rex_world.proofs.Endings.{told_as, shown_is, end_is, is_few}
use Rattle.rex_world.proofs.ends.push_node.Goals as goal

pub up_end_of-requires : goal.up_end_of-requires
up_end_of-requires g c =
    let up : c.args.node.now.up ≡ true = sym c.is_up.ensures ∙ c.if-not-is_up.false in
    let few = is_few _ c.requires up in
    record { live = few.0; known = few.1 }

pub returns : goal.returns
returns g c =
    let up : c.args.node.now.up ≡ true = sym c.is_up.ensures ∙ c.if-not-is_up.false in
    told_as _ _ _
    (ap (λ e. Up e) c.up_end_of.ensures ∙ sym (end_is _ c.requires up))
    c.declarations-service.ensures.whole
    (c.variables.ensures ∙ ap (λ s. s.variables) (sym (shown_is _ c.requires up)))
    (c.semaphores.ensures ∙ ap (λ s. s.semaphores) (sym (shown_is _ c.requires up)))
    c.push_end-2.ensures
