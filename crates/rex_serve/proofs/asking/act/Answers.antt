use Rattle.std.proofs.Common.{◌≡◌, ℤ, subst, w64, to_z, of_z}
use Rattle.std.specs.Prelude.{OnErr}
use Rattle.std.proofs.lemmas.Int.{to_z-of_z}
use Rattle.rex_frames.specs.declared.asking.Asked.TheVariants.{Run}
use Rattle.rex_serve.specs.Answering.{BreaksOff}
use Rattle.rex_serve.proofs.asking.act.Goals as goal

pub returns-in-Elect-clause-left : goal.returns-in-Elect-clause-left
returns-in-Elect-clause-left g c = rw c.in-Elect.is c.elect.ensures.left

pub returns-in-Run-clause-left : goal.returns-in-Run-clause-left
returns-in-Run-clause-left g c =
    let fits = rw c.in-Run.is at c.requires.fits in
    let read : to_z w64 (of_z w64 c.in-Run.clock) ≡ c.in-Run.clock = to_z-of_z w64 c.in-Run.clock fits in
    let left = subst (λ (z : ℤ). OnErr c.run.result (BreaksOff g.K.Keeper.records g.K.Keeper.faults c.args.process.now c.run.new.process (Run z))) read c.run.ensures.left in
    rw c.in-Run.is left

pub returns-in-Cut-clause-left : goal.returns-in-Cut-clause-left
returns-in-Cut-clause-left g c = rw c.in-Cut.is c.cut.ensures.left

pub returns-in-Hear-clause-left : goal.returns-in-Hear-clause-left
returns-in-Hear-clause-left g c = rw c.in-Hear.is c.hear.ensures.left
