use Rattle.std.proofs.Common.{◌≡◌, drop}
use Rattle.std.specs.List.{list_any}
use Rattle.std.specs.Str.{bytes_eq}
use Rattle.rex_parse.specs.Answers.{texts}
use Rattle.rex_parse.proofs.words.is_among.Given as goal

abbrev pub invariant-loop-other : goal.invariant-loop-other
invariant-loop-other l = list_any (λ w. bytes_eq w l.word) (texts (drop l.other-index l.words)) ≡ list_any (λ w. bytes_eq w l.word) (texts l.words)
