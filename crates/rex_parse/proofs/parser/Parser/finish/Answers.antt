use Rattle.rex_parse.proofs.Keeping.{ends_in_service}
use Rattle.rex_parse.proofs.parser.Parser.finish.Goals as goal

pub of-requires : goal.of-requires
of-requires c = rw (c.declarations.ensures, c.self.view_is) (ends_in_service c.args.self c.requires.good c.requires.ended)
