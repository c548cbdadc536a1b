use Rattle.std.proofs.Common.{◌≡◌, None, find}
use Rattle.std.specs.Str.{bytes_eq}
use Rattle.rex_parse.specs.Entries.{entries_of}
use Rattle.rex_parse.proofs.Looking.{more_named, new_entry}
use Rattle.rex_parse.proofs.name_table.NameTable.insert.Goals as goal

pub invariant_of-self-in_default : goal.invariant_of-self-in_default
invariant_of-self-in_default c =
    let fresh : find (λ e. bytes_eq e.name c.args.name.now) (entries_of c.self.inside.names c.self.inside.meanings.items) ≡ None = rw c.self.view_is c.requires.new in
    rw (c.in_default.ensures.words, c.in_ok-push.ensures.items) (more_named c.args.name.now c.self.inside.names c.self.inside.meanings.items c.args.meaning c.self.invariant c.requires.name fresh)

pub returns : goal.returns
returns c =
    let fresh : find (λ e. bytes_eq e.name c.args.name.now) (entries_of c.self.inside.names c.self.inside.meanings.items) ≡ None = rw c.self.view_is c.requires.new in
    rw (c.in_default.ensures.words, c.in_ok-push.ensures.items, ← c.self.view_is) (new_entry c.args.name.now c.self.inside.names c.self.inside.meanings.items c.args.meaning c.self.invariant.paired fresh)
