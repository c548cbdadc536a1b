use Rattle.std.proofs.Common.{rules, ◌≡◌, length, arith}
use Rattle.rex_group.proofs.Keeping.{more_grouped, more_waits}
use Rattle.rex_group.proofs.keeper.GroupKeeperKeeper.append.Goals as goal

pub invariant_of-self-2 : goal.invariant_of-self-2
invariant_of-self-2 g c =
    let next = c.self.inside.group.items in
    let start : c.len-start.result ≡ length next = search rules in
    let h = c.in-Ok.ensures in
    rw (h.ok, h.placed, c.len-index.ensures, start) (more_grouped (g.K.Keeper.records c.self.inside.keeper) next c.self.inside.places.items c.self.inside.kept c.self.invariant c.args.bytes.now c.requires.short (omega (arith, start, c.if-end.false)))

pub returns : goal.returns
returns g c =
    let next = c.self.inside.group.items in
    let start : c.len-start.result ≡ length next = search rules in
    let h = c.in-Ok.ensures in
    rw (h.ok, h.placed, c.len-index.ensures, start, ← c.self.view_is) (record { waits = more_waits (g.K.Keeper.records c.self.inside.keeper) next c.self.inside.places.items c.self.inside.kept c.self.invariant c.args.bytes.now c.self.inside.keeper })
