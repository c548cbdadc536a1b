use Rattle.std.proofs.Common.{arith}
use Rattle.rex_words.proofs.Standing.{release_there}
use Rattle.rex_words.proofs.Publishing.{release_low, may_release, release_ahead}
use Rattle.rex_words.proofs.seat.WordSeat.release.Goals as goal

pub word_of-new-requires : goal.word_of-new-requires
word_of-new-requires c = (release_low _ c.requires.right _ _ _ c.requires.publishing _ c.requires.stamp, omega arith)

pub store-requires : goal.store-requires
store-requires c = (
  c.requires.publishing.seat.table,
  omega (arith, c.requires.table, release_there _ c.requires.right _ c.requires.publishing.seat.lane _ c.requires.publishing.at),
  may_release _ c.requires.right _ _ _ c.requires.publishing _ c.requires.stamp _ _ c.word_of-new.ensures,
)

pub returns-clause-ahead : goal.returns-clause-ahead
returns-clause-ahead c = release_ahead _ c.requires.right _ _ _ c.requires.publishing _ c.requires.stamp c.store.new.seat _ c.store.ensures.0 c.store.ensures.2.0 c.store.ensures.2.1
