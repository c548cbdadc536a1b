use Rattle.std.proofs.Common.{refl, arith}
use Rattle.std.proofs.lemmas.List.{take_rest}
use Rattle.rex_group.proofs.Places.{members_ended, members_more}
use Rattle.rex_group.proofs.reading.members.Goals as goal

pub returns-in_default-clause-none : goal.returns-in_default-clause-none
returns-in_default-clause-none c = λ _.
    members_ended c.args.index c.args.bytes.now c.loop-end.end c.loop-end.places.items c.loop-end.invariant _ (omega arith) (take_rest c.args.bytes.now c.loop-end.end) (c.in_default.ensures.none refl)

pub loop-end-preserved : goal.loop-end-preserved
loop-end-preserved c =
    rw c.in_ok-push.ensures.items (members_more c.args.index c.args.bytes.now c.loop-end.end c.loop-end.places.items c.loop-end.invariant _ c.in-Some.count (take_rest c.args.bytes.now c.loop-end.end) c.in-Some.ensures.some)
