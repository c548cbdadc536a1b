use Rattle.rex_parse.proofs.Looking.{name_is_new, new_is_name}
use Rattle.rex_parse.proofs.language.Above.declare.Goals as goal

pub insert-requires : goal.insert-requires
insert-requires c = record {
  name = new_is_name c.args.self.now c.args.name.now c.requires;
  new = name_is_new c.args.self.now c.args.name.now c.requires;
}
