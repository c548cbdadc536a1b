use Rattle.std.proofs.Common.{arith, ap}
use Rattle.std.proofs.lemmas.Result.{err_from_is_err_and}
use Rattle.rex_durable.specs.declared.recovery.Recovered.{Recovered}
use Rattle.rex_durable.proofs.OneMore.{accepted_rises}
use Rattle.rex_durable.proofs.Ranges.{records_in_range}
use Rattle.rex_durable.proofs.ReadBehind.{base_within, count_few, read_none, read_more, read_whole, is_bad, answers_spelled, answers_bad, only_one, spelled_recovered}
use Rattle.rex_durable.proofs.recovery.recover.Goals as goal

pub loop-index-init : goal.loop-index-init
loop-index-init g c = read_none (g.K.Keeper.records c.args.keeper.now) c.in_ok-recovered.recovered c.in_ok-recovered.ensures

pub standing-standing-requires : goal.standing-standing-requires
standing-standing-requires g c = count_few (g.K.Keeper.records c.args.keeper.now) c.loop-index.index c.loop-index.recovered c.loop-index.invariant

pub read-requires : goal.read-requires
read-requires g c = rw c.standing-standing.ensures (count_few (g.K.Keeper.records c.args.keeper.now) c.loop-index.index c.loop-index.recovered c.loop-index.invariant)

pub returns-in_err-rec-clause-bad : goal.returns-in_err-rec-clause-bad
returns-in_err-rec-clause-bad g c =
    let kept = g.K.Keeper.records c.args.keeper.now in
    let p = err_from_is_err_and c.from_residual-in_err-rec.result c.from_residual-in_err-rec.ensures.1 in
    let bad = rw (c.standing-standing.ensures, c.get.ensures) at c.in_err-rec.ensures.exact in
    rw (p.1, p.2) (is_bad kept c.loop-index.index c.loop-index.recovered c.in_err-rec.field-0.0 c.loop-index.invariant (omega arith) bad)

pub returns-in_err-rec-clause-exact : goal.returns-in_err-rec-clause-exact
returns-in_err-rec-clause-exact g c =
    let kept = g.K.Keeper.records c.args.keeper.now in
    let p = err_from_is_err_and c.from_residual-in_err-rec.result c.from_residual-in_err-rec.ensures.1 in
    let bad = rw (c.standing-standing.ensures, c.get.ensures) at c.in_err-rec.ensures.exact in
    rw (p.1, p.2) (answers_bad kept c.in_err-rec.field-0.0 (is_bad kept c.loop-index.index c.loop-index.recovered c.in_err-rec.field-0.0 c.loop-index.invariant (omega arith) bad))

pub returns-in_err-rec-clause-only : goal.returns-in_err-rec-clause-only
returns-in_err-rec-clause-only g c =
    let kept = g.K.Keeper.records c.args.keeper.now in
    let p = err_from_is_err_and c.from_residual-in_err-rec.result c.from_residual-in_err-rec.ensures.1 in
    let bad = rw (c.standing-standing.ensures, c.get.ensures) at c.in_err-rec.ensures.exact in
    answers_spelled c.from_residual-in_err-rec.result kept (rw (p.1, p.2) (answers_bad kept c.in_err-rec.field-0.0 (is_bad kept c.loop-index.index c.loop-index.recovered c.in_err-rec.field-0.0 c.loop-index.invariant (omega arith) bad)))

pub add-requires-clause-rising : goal.add-requires-clause-rising
add-requires-clause-rising g c =
    let h = c.loop-index.invariant in
    let e = ap (λ (x : Recovered). x.accepted) h.is in
    rw e (accepted_rises h.rs)

pub add-requires-clause-due : goal.add-requires-clause-due
add-requires-clause-due g c =
    let found = rw (c.standing-standing.ensures, c.get.ensures) at c.in_ok-rec.ensures.found in
    found.due

pub add-requires-clause-base : goal.add-requires-clause-base
add-requires-clause-base g c = base_within (g.K.Keeper.records c.args.keeper.now) c.loop-index.index c.loop-index.recovered c.loop-index.invariant

pub loop-index-preserved : goal.loop-index-preserved
loop-index-preserved g c =
    let kept = g.K.Keeper.records c.args.keeper.now in
    let found = rw (c.standing-standing.ensures, c.get.ensures) at c.in_ok-rec.ensures.found in
    read_more kept c.loop-index.index c.loop-index.recovered c.add.new.self c.in_ok-rec.rec c.loop-index.invariant (omega arith) found c.in_ok-add.ensures

pub returns-clause-found : goal.returns-clause-found
returns-clause-found g c =
    let kept = g.K.Keeper.records c.args.keeper.now in
    let w = read_whole kept c.loop-index.index c.loop-index.recovered c.loop-index.invariant (omega arith) in
    (w.rs, w.spelled, w.is)

pub returns-clause-fits : goal.returns-clause-fits
returns-clause-fits g c =
    let kept = g.K.Keeper.records c.args.keeper.now in
    let w = read_whole kept c.loop-index.index c.loop-index.recovered c.loop-index.invariant (omega arith) in
    rw w.is (records_in_range w.rs w.spelled.records)

pub returns-clause-only : goal.returns-clause-only
returns-clause-only g c =
    let kept = g.K.Keeper.records c.args.keeper.now in
    let w = read_whole kept c.loop-index.index c.loop-index.recovered c.loop-index.invariant (omega arith) in
    only_one kept c.loop-index.recovered w

pub returns-clause-exact : goal.returns-clause-exact
returns-clause-exact g c =
    let kept = g.K.Keeper.records c.args.keeper.now in
    let w = read_whole kept c.loop-index.index c.loop-index.recovered c.loop-index.invariant (omega arith) in
    rw w.is (spelled_recovered kept w.rs w.spelled)
