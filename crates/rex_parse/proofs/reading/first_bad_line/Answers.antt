use Rattle.rex_parse.proofs.FirstBad.{each_text}
use Rattle.rex_parse.proofs.reading.first_bad_line.Goals as goal

pub returns : goal.returns
returns c = each_text
