use Rattle.std.proofs.Common.{◌≡◌, ◌∷◌, [], take, drop}
use Rattle.rex_parse.specs.Words.{least}
use Rattle.rex_parse.specs.Table.{Heading, slots_code, parameters_code}
use Rattle.rex_parse.specs.Answers.{texts}
use Rattle.rex_parse.proofs.language.Above.heading_code.Given as goal

abbrev pub invariant-loop-i : goal.invariant-loop-i
invariant-loop-i l = least l.code (parameters_code l.self (texts (take l.i l.words)) (texts (drop l.i l.words))) ≡ slots_code l.self (Heading ∷ []) (texts l.words)
