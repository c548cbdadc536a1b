use Rattle.std.proofs.Common.{◌≡◌, ◌++◌, length}
use Rattle.rex_parse.specs.Words.{least}
use Rattle.rex_parse.specs.After.{terms_of}
use Rattle.rex_parse.specs.Following.{rest_code}
use Rattle.rex_parse.specs.Answers.{texts}
use Rattle.rex_parse.proofs.language.Above.read_terms.Given as goal

abbrev pub invariant-loop-rest : goal.invariant-loop-rest
invariant-loop-rest l = record {
  code : least l.code (rest_code l.self (texts l.rest)) ≡ rest_code l.self (texts l.words);
  terms : l.terms ++ terms_of l.self (texts l.rest) ≡ terms_of l.self (texts l.words);
}

abbrev pub decreases-loop-rest : goal.decreases-loop-rest
decreases-loop-rest l = length l.rest
