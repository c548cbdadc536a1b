use Rattle.std.proofs.Common.{ℕ, List, IsTrue, false, subst, sym}
use Rattle.rex_file.specs.Mixing.{Mixed}
use Rattle.rex_file.specs.MixingLaws.{mixed_same}
use Rattle.rex_disk.proofs.Moments.{goes_on, started}
use Rattle.rex_wal.proofs.file.write_through.Goals as goal

pub returns-clause-any_moment : goal.returns-clause-any_moment
returns-clause-any_moment g c = λ meets durable.
    let at = c.args.at in
    let bytes = c.args.bytes.now in
    let seen = g.D.Disk.seen c.args.disk.now in
    let still = subst IsTrue (sym c.in_ok-write.ensures.model) meets in
    let before = started g.D.Disk.moment g.D.Disk.left_since c.args.disk.now (Mixed at bytes seen) (λ image left. subst (λ (xs : List ℕ). Mixed at bytes seen xs) (sym (durable image (g.met.D.Disk.only_now c.args.disk.now image meets left))) (mixed_same at bytes seen)) in
    let torn = λ (image : List ℕ) (left : g.D.Disk.may_leave c.write.new.self image).
    let found = g.met.D.ByteAtomic.mixes c.args.disk.now c.write.new.self at bytes false c.in_ok-write.ensures.gives meets image left in
    subst (λ (xs : List ℕ). Mixed at bytes xs image) (durable found.0 found.1) found.2 in
    let written = goes_on g.D.Disk.moment g.D.Disk.left_since before (c.in_ok-write.ensures.time meets) torn in
    goes_on g.D.Disk.moment g.D.Disk.left_since written (c.sync.ensures.time still) (λ image left. torn image (c.sync.ensures.stop still image left))
