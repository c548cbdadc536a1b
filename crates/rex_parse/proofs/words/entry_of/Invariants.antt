use Rattle.std.proofs.Common.{◌≡◌, drop, option_map, find}
use Rattle.std.specs.Str.{bytes_eq}
use Rattle.rex_parse.specs.Answers.{rows}
use Rattle.rex_parse.proofs.words.entry_of.Given as goal

abbrev pub invariant-loop-other : goal.invariant-loop-other
invariant-loop-other g l = option_map (λ e. e.1) (find (λ e. bytes_eq l.word e.0) (rows (drop l.other-index l.table))) ≡ option_map (λ e. e.1) (find (λ e. bytes_eq l.word e.0) (rows l.table))
