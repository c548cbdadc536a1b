use Rattle.std.proofs.Common.{refl}
use Rattle.rex_words.proofs.Publishing.{publish_none}
use Rattle.rex_words.proofs.seat.WordSeat.publish_if.Goals as goal

pub returns-else-wanted-clause-publishing : goal.returns-else-wanted-clause-publishing
returns-else-wanted-clause-publishing c = publish_none _ c.requires.right _ _ _ _ c.requires.publishing _ refl (c.requires.wanted.1 c.if-wanted.false)
