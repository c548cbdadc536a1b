use Rattle.rex_journal.specs.Storing.{journal_value}
use Rattle.rex_world.specs.Members.{AreFresh}
use Rattle.rex_cli.proofs.worlds.journals.Given as goal

abbrev pub invariant-loop : goal.invariant-loop
invariant-loop l = AreFresh journal_value l.counter l.keepers.items
