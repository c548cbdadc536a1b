use Rattle.rex_world.proofs.Common.{◌<◌, ◌∙◌, ap, arith, get_or, inl, length, slice_set}
use Rattle.std.proofs.Common.{max}
use Rattle.rex_world.proofs.Answering.{number_there}
use Rattle.rex_world.proofs.seeing.show_one.Goals as goal

pub returns : goal.returns
returns g c =
    let released = c.requires.releases.leads _ _ _ (inl c.in-Released.is) in
    let inside : c.in-Released.client < length c.args.seen.now = omega arith in
    rw c.in-Released.is
    (ap (slice_set c.args.seen.now c.in-Released.client)
    (c.raise.ensures ∙ ap (λ n. max n c.in_ok-stamp.stamp) (number_there _ _ _ 0 inside)
    ∙ ap (λ n. max (get_or c.args.seen.now c.in-Released.client 0) n) (c.in_ok-stamp.ensures.active released.0 released.1)))
