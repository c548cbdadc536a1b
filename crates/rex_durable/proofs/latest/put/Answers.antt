use Rattle.std.proofs.Common.{arith, ap, sym, ◌∙◌}
use Rattle.rex_ballot.specs.declared.proposal.Proposal.{Proposal}
use Rattle.rex_durable.proofs.InPlace.{place_there, replaced, inserted}
use Rattle.rex_durable.proofs.latest.put.Goals.{else-place-len-via-then-place-len+else-index-proposal, else-place-len-via-else-place-len}
use Rattle.rex_durable.proofs.latest.put.Goals as goal

pub insert-requires : goal.insert-requires
insert-requires c =
    let ps = c.args.proposals.now.items in
    let place = rw c.deref.ensures.value at c.place_of-place.ensures in
    omega (arith, place, place_there ps c.args.proposal.instance c.requires)

pub returns-then-index-proposal : goal.returns-then-index-proposal
returns-then-index-proposal c =
    let ps = c.args.proposals.now.items in
    let p = c.args.proposal in
    let place = rw c.deref.ensures.value at c.place_of-place.ensures in
    replaced ps p c.index.result.now c.place_of-place.result c.requires place (omega arith) (ap (λ (q : Proposal). q.instance) (sym c.index.ensures) ∙ c.if-index-proposal.true)

pub returns-in_ok-insert : goal.returns-in_ok-insert
returns-in_ok-insert c =
    let ps = c.args.proposals.now.items in
    let p = c.args.proposal in
    let place = rw c.deref.ensures.value at c.place_of-place.ensures in
    c.in_ok-insert.ensures.items
    ∙ elim c.else-place-len.branch [
      | else-place-len-via-then-place-len+else-index-proposal w ↦ inserted ps p w.index.result.now c.place_of-place.result c.requires place (λ lt same. w.if-index-proposal.false (ap (λ (q : Proposal). q.instance) w.index.ensures ∙ same))
      | else-place-len-via-else-place-len w ↦ inserted ps p p c.place_of-place.result c.requires place (λ lt same. absurd (omega arith))
    ]
