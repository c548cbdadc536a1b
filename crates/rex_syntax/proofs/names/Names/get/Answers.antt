use Rattle.rex_syntax.proofs.Numbered.{got}
use Rattle.rex_syntax.proofs.names.Names.get.Goals as goal

pub returns-in-None : goal.returns-in-None
returns-in-None c = got (λ k. k.bytes.items) c.self.inside.words.keys c.args.self.now c.args.word.now _ c.self.view_is c.in-None.ensures.index

pub returns-in-Some : goal.returns-in-Some
returns-in-Some c = got (λ k. k.bytes.items) c.self.inside.words.keys c.args.self.now c.args.word.now _ c.self.view_is c.in-Some.ensures.index
