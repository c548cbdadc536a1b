use Rattle.std.proofs.Common.{subst, sym}
use Rattle.std.proofs.lemmas.List.Elements.{All-get_or}
use Rattle.rex_crew.specs.Jobs.{IsJob}
use Rattle.rex_crew.proofs.crew.Crew.together.Goals as goal

pub map_vec-requires-after_bounds : goal.map_vec-requires-after_bounds
map_vec-requires-after_bounds g c κs within = λ i x lt is.
    (subst (IsJob c.args.board.now) (sym is) (All-get_or (IsJob c.args.board.now) c.args.jobs.items i x lt c.requires), (record { shared = c.type_bounds.sync-R.shared }, record { shared = c.type_bounds.sync-G.shared }))
