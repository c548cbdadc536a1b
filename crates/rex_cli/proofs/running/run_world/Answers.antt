use Rattle.std.proofs.Common.{◌≡◌, ◌++◌, ℕ, List, refl, ap, subst, arith}
use Rattle.rex_traits.specs.Growth.{GrowsByFront}
use Rattle.rex_cluster.specs.World.{World as ModelWorld}
use Rattle.rex_world.specs.Report.{report_from}
use Rattle.rex_cli.proofs.running.run_world.Goals as goal

pub returns-in-Ok-clause-gives : goal.returns-in-Ok-clause-gives
returns-in-Ok-clause-gives g c =
    let s = c.args.plan.now.scenario in
    record {
      exact = λ low. (
        refl,
        subst (λ (text : List ℕ). g.K.Sink.taken c.run.new.sink ≡ g.K.Sink.taken c.args.sink.now ++ text)
            (ap (λ (w : ModelWorld). report_from c.args.plan.now.service s.requests s.seed s.nodes w s.schedule) c.requires.begins) c.in-Ok.ensures.whole,
      );
      nothing = λ e. absurd (omega (arith, e));
      front = λ l. absurd (omega (arith, l));
    }

pub returns-in-Err-Failed-clause-gives : goal.returns-in-Err-Failed-clause-gives
returns-in-Err-Failed-clause-gives g c =
    let s = c.args.plan.now.scenario in
    record {
      exact = λ low. absurd (omega (arith, low));
      nothing = λ e. absurd (omega (arith, e));
      front = λ l. subst (λ (text : List ℕ). GrowsByFront (g.K.Sink.taken c.args.sink.now) (g.K.Sink.taken c.run.new.sink) text)
          (ap (λ (w : ModelWorld). report_from c.args.plan.now.service s.requests s.seed s.nodes w s.schedule) c.requires.begins) c.in-Err-Failed.ensures.front;
    }

pub returns-clause-gives : goal.returns-clause-gives
returns-clause-gives g c =
    let s = c.args.plan.now.scenario in
    record {
      exact = λ low. absurd (omega (arith, low));
      nothing = λ e. absurd (omega (arith, e));
      front = λ l. subst (λ (text : List ℕ). GrowsByFront (g.K.Sink.taken c.args.sink.now) (g.K.Sink.taken c.run.new.sink) text)
          (ap (λ (w : ModelWorld). report_from c.args.plan.now.service s.requests s.seed s.nodes w s.schedule) c.requires.begins) c.in-Err-OutOfMemory.ensures.front;
    }
