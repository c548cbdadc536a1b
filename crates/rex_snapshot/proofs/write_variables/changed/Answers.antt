use Rattle.std.proofs.Common.{arith}
use Rattle.std.proofs.lemmas.List.{length-map}
use Rattle.rex_state.specs.Start.{first_of}
use Rattle.rex_snapshot.specs.Changes.{firsts}
use Rattle.rex_snapshot.proofs.Changes.{few_noted}
use Rattle.rex_snapshot.proofs.write_variables.changed.Goals as goal

pub overflow_cast-change_count : goal.overflow_cast-change_count
overflow_cast-change_count c =
    let service = c.args.svc.now in
    omega (arith, few_noted 0 (firsts service) c.args.values.now, length-map service.variables first_of, c.declarations-service.ensures.sound.few_variables, c.change_count.ensures)
