use Rattle.std.proofs.Common.{◌≡◌, take}
use Rattle.rex_parse.specs.Answers.{texts}
use Rattle.rex_parse.proofs.copying.own_words.Given as goal

abbrev pub invariant-loop-word : goal.invariant-loop-word
invariant-loop-word l = l.own ≡ texts (take l.word-index l.words)
