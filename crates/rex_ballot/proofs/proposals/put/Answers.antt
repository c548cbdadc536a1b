use Rattle.std.proofs.Common.{ap, ◌∙◌, length, arith}
use Rattle.rex_ballot.specs.Proposals.{below}
use Rattle.rex_ballot.proofs.Places.{put-own, put-other, put-end}
use Rattle.rex_ballot.proofs.proposals.put.Goals as goal
use Rattle.rex_ballot.proofs.proposals.put.Goals.{else-place-len-via-then-place-len+else-index-proposal, else-place-len-via-else-place-len}

pub returns-then-index-proposal-clause-ok : goal.returns-then-index-proposal-clause-ok
returns-then-index-proposal-clause-ok c =
    let ps = c.args.proposals.now.items in
    let at = c.place_of-place.ensures.place ∙ ap (λ xs. length (below c.args.proposal.instance xs)) c.deref.ensures.value in
    put-own ps c.args.proposal c.index.result.now c.place_of-place.result c.requires at (omega arith) c.index.ensures c.if-index-proposal.true

pub returns-in_ok-insert-clause-ok : goal.returns-in_ok-insert-clause-ok
returns-in_ok-insert-clause-ok c =
    let ps = c.args.proposals.now.items in
    let at = c.place_of-place.ensures.place ∙ ap (λ xs. length (below c.args.proposal.instance xs)) c.deref.ensures.value in
    c.in_ok-insert.ensures.items
    ∙ elim c.else-place-len.branch [
      | else-place-len-via-then-place-len+else-index-proposal w ↦ put-other ps c.args.proposal w.index.result.now c.place_of-place.result c.requires at w.index.ensures w.if-index-proposal.false
      | else-place-len-via-else-place-len w ↦ put-end ps c.args.proposal c.place_of-place.result c.requires at (let past = w.if-place-len.false in omega arith)
    ]
