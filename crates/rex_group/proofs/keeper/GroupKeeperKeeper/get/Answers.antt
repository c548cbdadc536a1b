use Rattle.std.proofs.Common.{◌<◌, length, arith, sym, subst, take-append-drop}
use Rattle.std.proofs.lemmas.List.{length-map, length_push}
use Rattle.rex_group.specs.declared.reading.Place.{Place}
use Rattle.rex_group.specs.Keeping.{all_of}
use Rattle.rex_group.proofs.Keeping.{known}
use Rattle.rex_group.proofs.keeper.GroupKeeperKeeper.get.Goals as goal

pub bytes_of-bytes-requires : goal.bytes_of-bytes-requires
bytes_of-bytes-requires g c =
    let below = g.K.Keeper.records c.self.inside.keeper in
    let next = c.self.inside.group.items in
    let places = c.self.inside.places.items in
    let there : c.args.index < length places = rw (take-append-drop, length-map) at (rw (← c.self.view_is) at c.requires) in
    let in_all = subst (λ (p : Place). p.index < length (all_of below next)) (sym c.index-place.ensures) (known below next places c.self.inside.kept c.self.invariant c.args.index c.index-place.result.now there) in
    omega (arith, in_all, length_push below next)
