use Rattle.rex_words.proofs.Again.{fetching_at}
use Rattle.rex_words.proofs.Standing.{acquire_there, free_at_acquire}
use Rattle.rex_words.proofs.seat.WordSeat.turn_at_acquire.Goals as goal

pub fetch_all-requires-clause-fetching : goal.fetch_all-requires-clause-fetching
fetch_all-requires-clause-fetching c =
    let l = c.requires.seat.lane in let s = c.look-seen.ensures in
    fetching_at c.args.words.now.key c.args.self.now c.look-seen.new.self c.args.lock c.look-seen.result s.rest (acquire_there _ c.requires.right _ l _ c.requires.at) s.found c.if-by-ne0.false s.low (free_at_acquire _ c.requires.right _ l _ c.requires.at)
