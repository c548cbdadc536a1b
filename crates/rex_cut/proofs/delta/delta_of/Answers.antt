use Rattle.std.proofs.Common.{◌≡◌, length, sym, subst, arith}
use Rattle.std.proofs.lemmas.Grind.{common_steps}
use Rattle.rex_reduce.specs.Reduced.{IsTrace}
use Rattle.rex_cut.specs.Delta.{delta_at}
use Rattle.rex_cut.proofs.Deltas.{cut_lanes, delta_trace, IsPiece, is_piece}
use Rattle.rex_cut.proofs.Lanes.{lanes_below}
use Rattle.rex_cut.proofs.delta.delta_of.Goals as goal

pub lower_to_first-requires : goal.lower_to_first-requires
lower_to_first-requires c =
    lanes_below (length c.args.cut.now.counts) _ c.args.events.now (grind arith) (cut_lanes c.args.cut.now.counts c.args.events.now c.requires)

pub below-requires : goal.below-requires
below-requires c =
    lanes_below (length c.args.cut.now.counts) _ c.args.events.now (grind arith) (cut_lanes c.args.cut.now.counts c.args.events.now c.requires)

pub reduce-requires-clause-trace : goal.reduce-requires-clause-trace
reduce-requires-clause-trace c =
    let is : c.deref.result.now ≡ (delta_at c.args.cut.now.counts c.args.events.now).events = grind (arith, common_steps) in
    subst IsTrace (sym is) (delta_trace c.args.cut.now.counts c.args.events.now c.requires)

piece : (c : goal.After-from_vec-3) → IsPiece (record { bases = c.from_vec.result; events = c.from_vec-2.result; causes = c.from_vec-3.result })
piece c = is_piece c.args.cut.now.counts c.args.events.now _ c.requires (grind (arith, common_steps))

pub returns-clause-numbered : goal.returns-clause-numbered
returns-clause-numbered c = (piece c).numbered

pub returns-clause-fit : goal.returns-clause-fit
returns-clause-fit c = (piece c).fit
