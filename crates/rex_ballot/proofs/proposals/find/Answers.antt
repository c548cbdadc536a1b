use Rattle.std.proofs.Common.{sym}
use Rattle.rex_ballot.proofs.Places.{found-own, found-other, found-none}
use Rattle.rex_ballot.proofs.proposals.find.Goals as goal

pub returns-in_err-found : goal.returns-in_err-found
returns-in_err-found c =
    rw c.from_residual.ensures (sym (found-none c.args.proposals.now c.place_of.result c.args.instance c.requires c.place_of.ensures.place c.in_err-found.ensures.lookup.3))

pub returns-then-found-instance : goal.returns-then-found-instance
returns-then-found-instance c =
    let read = c.in_ok-found.ensures.lookup.3 in
    found-own c.args.proposals.now c.place_of.result c.args.instance c.in_ok-found.found.now c.requires c.place_of.ensures.place read.0 (read.1 c.in_ok-found.found.now) c.if-found-instance.true

pub returns-else-found-instance : goal.returns-else-found-instance
returns-else-found-instance c =
    let read = c.in_ok-found.ensures.lookup.3 in
    sym (found-other c.args.proposals.now c.place_of.result c.args.instance c.in_ok-found.found.now c.requires c.place_of.ensures.place read.0 (read.1 c.in_ok-found.found.now) c.if-found-instance.false)
