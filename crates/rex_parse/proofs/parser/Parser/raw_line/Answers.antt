use Rattle.rex_parse.proofs.Keeping.{taken_good}
use Rattle.rex_parse.proofs.parser.Parser.raw_line.Goals as goal

pub returns-clause-good : goal.returns-clause-good
returns-clause-good c good = taken_good c.args.self.now c.self.inside.above c.raw_line.new.self c.args.number c.args.line.now c.raw_line.result c.self.view_is c.raw_line.ensures.takes good
