use Rattle.std.proofs.Common.{ap, ◌∙◌, length}
use Rattle.rex_ballot.specs.Proposals.{below}
use Rattle.rex_ballot.proofs.Places.{rest-from}
use Rattle.rex_ballot.proofs.proposals.Proposals.from_instance.Goals as goal

pub returns : goal.returns
returns c =
    let at = c.place_of.ensures.place ∙ ap (λ xs. length (below c.args.first xs)) c.deref-2.ensures.value in
    rw (c.deref.ensures.value, ← c.self.view_is) (rest-from c.self.inside.items.items c.place_of.result c.args.first c.self.invariant at)
