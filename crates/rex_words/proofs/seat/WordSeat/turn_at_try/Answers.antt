use Rattle.rex_words.proofs.Again.{fetching_at, again_at}
use Rattle.rex_words.proofs.Standing.{try_there, free_at_try}
use Rattle.rex_words.proofs.seat.WordSeat.turn_at_try.Goals as goal

pub fetch_all-requires-clause-fetching : goal.fetch_all-requires-clause-fetching
fetch_all-requires-clause-fetching c =
    let l = c.requires.seat.lane in let s = c.look_to_try-seen.ensures in
    fetching_at c.args.words.now.key c.args.self.now c.look_to_try-seen.new.self c.args.lock c.look_to_try-seen.result s.rest (try_there _ c.requires.right _ l _ c.requires.at) s.found c.if-seen-ne0.false s.low (free_at_try _ c.requires.right _ l _ c.requires.at)

pub returns-else-found-seen-clause-turn : goal.returns-else-found-seen-clause-turn
returns-else-found-seen-clause-turn c =
    let s = c.look_to_try-seen.ensures in let t = c.take_by_try-found.ensures in
    again_at c.args.words.now.key c.args.self.now c.look_to_try-seen.new.self c.args.lock c.look_to_try-seen.result s.rest c.args.words.now.table_id c.fetch_all.new.self c.take_by_try-found.new.self c.take_by_try-found.result c.requires.at s.found s.failures c.if-seen-ne0.false
    c.fetch_all.ensures.preparing t.rest t.counts (t.failed c.if-found-seen.false) c.if-found-seen.false
