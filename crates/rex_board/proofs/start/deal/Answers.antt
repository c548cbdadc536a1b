use Rattle.std.proofs.Common.{rules, arith, refl, ◌<◌, ℕ, subst, sym}
use Rattle.rex_board.specs.Recorded.{events_of}
use Rattle.rex_board.proofs.Keeps.{deals}
use Rattle.rex_board.proofs.Placing.{first_place}
use Rattle.rex_board.proofs.start.deal.Goals as goal
use Rattle.rex_event.specs.Limits.{most_lanes}

pub split_seat-seat-requires : goal.split_seat-seat-requires
split_seat-seat-requires c = (
  c.requires.hosting.0.table,
  omega (arith, c.requires.table.0),
  deals _ _ _ c.requires.hosting.0.role (subst (λ (x : ℕ). x < most_lanes) (sym c.requires.hosting.1) c.requires.table.1) c.requires.hosting.0.gathered,
)

pub returns-clause-seat : goal.returns-clause-seat
returns-clause-seat c =
    let first = first_place c.args.words.now.key c.requires.right.0 c.args.start.now (events_of c.args.words.now.key) c.args.lane c.done.result c.next_place.result c.requires.right.1 refl c.done.ensures (c.next_place.ensures (events_of c.args.words.now.key) c.requires.right.2) in
    (record { table = search rules; key = search rules; lane = c.requires.table.1; there = c.requires.table.2; small = search rules; wide = search rules; placed = first.placed; next = first.at }, refl)
