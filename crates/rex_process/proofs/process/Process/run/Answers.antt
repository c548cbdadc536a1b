use Rattle.std.proofs.Common.{rules, ◌≡◌, ℤ, to_z, of_z, w64, refl, ap, sym, ◌∙◌, subst}
use Rattle.std.specs.Int.{int_max}
use Rattle.rex_cluster.specs.Node.{role_name}
use Rattle.rex_process.specs.Process.{ProcessValue, IsSame, here}
use Rattle.rex_process.proofs.Going.{raised_is}
use Rattle.rex_process.proofs.Rounds.{active_is, has_none, has_run}
use Rattle.rex_process.proofs.process.Process.run.Goals as goal

pub rounds-requires-clause-process : goal.rounds-requires-clause-process
rounds-requires-clause-process g c = raised_is g.K.Keeper.records g.K.Keeper.faults c.args.self.now c.raise.new.self (to_z w64 (of_z w64 c.args.clock)) c.raise.ensures c.requires.process

pub returns-in_ok-rounds-in-Active-clause-ran : goal.returns-in_ok-rounds-in-Active-clause-ran
returns-in_ok-rounds-in-Active-clause-ran g c =
    let same : to_z w64 (of_z w64 c.args.clock) ≡ c.args.clock = search rules in
    let raised : c.raise.new.self ≡ record c.args.self.now { clock = int_max c.args.self.now.clock c.args.clock } =
    c.raise.ensures ∙ ap (λ (clock : ℤ). record c.args.self.now { clock = int_max c.args.self.now.clock clock }) same in
    has_run g.K.Keeper.records g.K.Keeper.faults c.args.self.now c.raise.new.self c.args.clock
    (raised_is g.K.Keeper.records g.K.Keeper.faults c.args.self.now c.raise.new.self c.args.clock raised c.requires.process)
    (ap (λ (p : ProcessValue _). p.node.up) raised ∙ c.requires.up) raised c.rounds.new.self c.in_ok-rounds-in-Active.field-0
    (active_is (here g.K.Keeper.records c.raise.new.self).role (sym (c.in-Active.ensures ∙ ap (λ (p : ProcessValue _). role_name (here g.K.Keeper.records p).role) c.self.view_is)))
    c.in_ok-rounds-in-Active.ensures.still c.in_ok-rounds-in-Active.ensures.stopped

pub returns-in_default : goal.returns-in_default
returns-in_default g c =
    let same : to_z w64 (of_z w64 c.args.clock) ≡ c.args.clock = search rules in
    let raised : c.raise.new.self ≡ record c.args.self.now { clock = int_max c.args.self.now.clock c.args.clock } =
    c.raise.ensures ∙ ap (λ (clock : ℤ). record c.args.self.now { clock = int_max c.args.self.now.clock clock }) same in
    let process = raised_is g.K.Keeper.records g.K.Keeper.faults c.args.self.now c.raise.new.self c.args.clock raised c.requires.process in
    record {
      ran =
          has_none g.K.Keeper.records g.K.Keeper.faults c.args.self.now c.raise.new.self c.args.clock process (ap (λ (p : ProcessValue _). p.node.up) raised ∙ c.requires.up) raised
          c.role.result (c.role.ensures ∙ ap (λ (p : ProcessValue _). role_name (here g.K.Keeper.records p).role) c.self.view_is);
      process = process;
      same = subst (IsSame c.args.self.now) (sym raised) (record { service = refl; id = refl; nodes = refl; seed = refl });
      left = tt;
      clock = tt;
      keeper = ap (λ (p : ProcessValue _). p.node.keeper) raised;
    }
