use Rattle.rex_world.proofs.Common.{memory_value, AreFresh}
use Rattle.rex_world.proofs.world.memory_keepers.Given as goal

abbrev pub invariant-loop : goal.invariant-loop
invariant-loop l = AreFresh memory_value l.counter l.keepers.items
