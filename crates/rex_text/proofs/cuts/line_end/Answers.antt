use Rattle.std.proofs.Common.{◌∙◌}
use Rattle.rex_text.proofs.Splits.{first_place}
use Rattle.rex_text.proofs.cuts.line_end.Goals as goal

pub returns-clause-place : goal.returns-clause-place
returns-clause-place c = c.unwrap_or.ensures ∙ first_place 10 c.args.bytes.now c.memchr.result c.memchr.ensures
