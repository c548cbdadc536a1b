use Rattle.std.proofs.Common.{◌≡◌, sym, subst, length, arith}
use Rattle.std.proofs.lemmas.Grind.{common_steps}
use Rattle.rex_event.specs.Cuts.{IsGreatestCut}
use Rattle.rex_cut.specs.Greatest.{greatest_cut, IsCutOf}
use Rattle.rex_cut.proofs.Deltas.{cut_lanes}
use Rattle.rex_cut.proofs.Lanes.{lanes_below}
use Rattle.rex_cut.proofs.Highest.{greatest_is, greatest_cuts}
use Rattle.rex_cut.proofs.cuts.greatest.Goals as goal

pub lower-requires-clause-lanes : goal.lower-requires-clause-lanes
lower-requires-clause-lanes c =
    lanes_below (length c.args.limits.now) _ c.args.events.now (grind arith) (cut_lanes c.args.limits.now c.args.events.now c.requires)

pub returns-clause-greatest : goal.returns-clause-greatest
returns-clause-greatest c =
    let is : c.from_vec.result ≡ greatest_cut c.args.limits.now c.args.events.now = grind (arith, common_steps) in
    subst (IsGreatestCut c.args.limits.now c.args.events.now) (sym is) (greatest_is c.args.limits.now c.args.events.now c.requires)

pub returns-clause-cut : goal.returns-clause-cut
returns-clause-cut c =
    let is : c.from_vec.result ≡ greatest_cut c.args.limits.now c.args.events.now = grind (arith, common_steps) in
    subst (IsCutOf c.args.events.now) (sym is) (greatest_cuts c.args.limits.now c.args.events.now c.requires)
