use Rattle.std.proofs.Common.{rules, refl, sym, ◌∙◌, w64, of_z, to_z, SFits}
use Rattle.std.proofs.lemmas.Int.{to_z-of_z}
use Rattle.rex_process.proofs.Rising.{risen_all, risen_none}
use Rattle.rex_process.proofs.process.Process.tested_all.Goals as goal
use Rattle.rex_process.proofs.process.Process.tested_all.Goals.{in-Ok, in-Err}

pub returns-then-known-eq0 : goal.returns-then-known-eq0
returns-then-known-eq0 g c =
    let fits : SFits w64 c.clock-clock.result = search rules in
    let risen = risen_none g.K.Keeper.records g.K.Keeper.faults c.args.svc.now c.args.node c.requires.come c.args.applied c.requires.applied
    (to_z w64 (of_z w64 c.clock-clock.result)) (to_z-of_z w64 c.clock-clock.result fits ∙ c.clock-clock.ensures) (sym c.known.ensures ∙ c.if-known-eq0.true) in
    record { process = risen.process; started = risen.started; back = tt; memory = tt }

pub returns : goal.returns
returns g c =
    let fits : SFits w64 c.clock-clock.result = search rules in
    elim c.match-take_replayed.branch [
      | in-Ok w ↦
          let risen = risen_all g.K.Keeper.records g.K.Keeper.faults c.args.svc.now c.args.node c.requires.come c.args.applied c.requires.applied
          (to_z w64 (of_z w64 c.clock-clock.result)) (to_z-of_z w64 c.clock-clock.result fits ∙ c.clock-clock.ensures) g.K.Keeper.append_gives c.take_replayed.new.self
          c.take_replayed.ensures.kept c.take_replayed.ensures.keeper (λ none. c.if-known-eq0.false (c.known.ensures ∙ none)) c.take_replayed.result w.in-Ok.field-0 w.in-Ok.is c.take_replayed.ensures.told in
          rw w.result-is record { process = risen.process; started = risen.started; back = tt; memory = tt }
      | in-Err w ↦ rw w.result-is record { process = tt; started = tt; back = w.stop.ensures ∙ c.take_replayed.ensures.keeper; memory = refl }
    ]
