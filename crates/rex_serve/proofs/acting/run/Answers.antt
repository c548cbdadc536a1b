use Rattle.std.proofs.Common.{◌≡◌, ℤ, inl, refl, subst, w64, to_z, of_z}
use Rattle.std.proofs.lemmas.Int.{to_z-of_z}
use Rattle.rex_process.specs.Running.{HasRun}
use Rattle.rex_serve.specs.Answering.{ran_frames}
use Rattle.rex_serve.proofs.Broken.{on_err}
use Rattle.rex_serve.proofs.Counting.{on_ok, run_counts}
use Rattle.rex_serve.proofs.acting.run.Goals as goal

pub returns-clause-left : goal.returns-clause-left
returns-clause-left g c =
    let read : to_z w64 (of_z w64 c.args.clock) ≡ c.args.clock = to_z-of_z w64 c.args.clock c.ranges.clock in
    on_err c.push_ran.result _
    (inl (
      ran_frames c.args.process.now.service c.in_ok-ran.ran,
      record {
        outcome = c.in_ok-ran.ran;
        came = subst (λ (z : ℤ). HasRun g.K.Keeper.records c.args.process.now c.run.new.self z c.in_ok-ran.ran) read c.in_ok-ran.ensures.ran;
        told = refl;
      },
    ))

pub returns-clause-counts : goal.returns-clause-counts
returns-clause-counts g c =
    on_ok c.push_ran.result _ (run_counts g.K.Keeper.records g.K.Keeper.faults c.args.process.now c.run.new.self c.requires.up _ c.in_ok-ran.ran c.in_ok-ran.ensures.ran c.run.ensures.keeper)
