use Rattle.std.proofs.Common.{◌∙◌}
use Rattle.rex_parse.proofs.Looking.{none_found, some_found, if_any, numbered_is_name}
use Rattle.rex_parse.proofs.name_table.NameTable.get.Goals as goal

pub returns-in-None-clause-meaning : goal.returns-in-None-clause-meaning
returns-in-None-clause-meaning c = rw (← c.self.view_is) (none_found c.args.name.now c.self.inside.names c.self.inside.meanings.items c.self.invariant.paired c.in-None.ensures)

pub returns-in-Some-clause-meaning : goal.returns-in-Some-clause-meaning
returns-in-Some-clause-meaning c =
    let found = some_found c.args.name.now c.self.inside.names c.self.inside.meanings.items c.in-Some.number c.self.invariant.paired c.in-Some.ensures in
    let v = c.deref.ensures.value in
    rw (← c.self.view_is) (c.meaning_at.ensures ∙ rw v found)

pub returns-in-Some-clause-named : goal.returns-in-Some-clause-named
returns-in-Some-clause-named c = if_any c.meaning_at.result _ (numbered_is_name c.args.name.now c.self.inside.names c.in-Some.number c.self.invariant.names c.in-Some.ensures)
