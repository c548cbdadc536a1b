use Rattle.rex_words.proofs.Keeps.{gathers}
use Rattle.rex_words.proofs.gather.collect.Goals as goal

pub join_seat-requires : goal.join_seat-requires
join_seat-requires c = (c.requires.gathering.table, c.requires.seat.table, c.requires.seat.empty, c.requires.table, gathers _ _ _ _ _ c.requires.gathering.role c.requires.seat.role)
