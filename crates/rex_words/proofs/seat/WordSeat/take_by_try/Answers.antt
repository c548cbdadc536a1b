use Rattle.std.proofs.Common.{arith, inr, refl}
use Rattle.rex_event.specs.declared.event.Kind.TheVariants as kind
use Rattle.rex_words.proofs.Standing.{can_try}
use Rattle.rex_words.proofs.Exchanging.{low_stamp, may_take, take_ahead, take_fails, take_counts}
use Rattle.rex_words.proofs.seat.WordSeat.take_by_try.Goals as goal

pub word_of-new-requires : goal.word_of-new-requires
word_of-new-requires c = (
  low_stamp _ c.requires.right _ _ c.requires.settled _ _ _ c.requires.fetching c.requires.loaded c.requires.stamp (λ lock. kind.TryOk lock) (inr refl) refl refl c.requires.at.frame c.requires.at.busy (can_try _ c.requires.right _ c.requires.settled.lane _ c.requires.at),
  omega (arith, c.requires.settled.lane.there, c.requires.right.good.lanes),
)

pub compare_exchange-requires : goal.compare_exchange-requires
compare_exchange-requires c = (
  c.requires.settled.table,
  omega (arith, c.requires.fetching.there, c.requires.table),
  may_take _ c.requires.right _ _ c.requires.settled _ _ _ c.requires.fetching c.requires.loaded c.requires.stamp (λ lock. kind.TryOk lock) (inr refl) refl refl c.requires.at.frame c.requires.at.busy (can_try _ c.requires.right _ c.requires.settled.lane _ c.requires.at) _ _ c.word_of-new.ensures,
)

pub returns-clause-ahead : goal.returns-clause-ahead
returns-clause-ahead c = take_ahead _ c.requires.right _ _ c.requires.settled _ _ _ c.requires.fetching c.requires.loaded c.requires.stamp (λ lock. kind.TryOk lock) (inr refl) refl refl c.requires.at.frame c.requires.at.busy (can_try _ c.requires.right _ c.requires.settled.lane _ c.requires.at)
    c.compare_exchange.new.seat _ _ c.compare_exchange.ensures.0 c.compare_exchange.ensures.2.0 c.compare_exchange.ensures.2.1

pub returns-clause-failed : goal.returns-clause-failed
returns-clause-failed c = take_fails _ c.requires.right _ _ c.requires.settled _ _ _ c.requires.fetching c.requires.loaded c.requires.stamp (λ lock. kind.TryOk lock) (inr refl) refl refl c.requires.at.frame c.requires.at.busy (can_try _ c.requires.right _ c.requires.settled.lane _ c.requires.at)
    c.compare_exchange.new.seat _ _ c.compare_exchange.ensures.0 c.compare_exchange.ensures.2.0 c.compare_exchange.ensures.2.1

pub returns-clause-counts : goal.returns-clause-counts
returns-clause-counts c = take_counts _ c.requires.right _ _ c.requires.settled _ _ _ c.requires.fetching c.requires.loaded c.requires.stamp (λ lock. kind.TryOk lock) (inr refl) refl refl c.requires.at.frame c.requires.at.busy (can_try _ c.requires.right _ c.requires.settled.lane _ c.requires.at)
    c.compare_exchange.new.seat _ _ c.compare_exchange.ensures.0 c.compare_exchange.ensures.2.0 c.compare_exchange.ensures.2.1 c.compare_exchange.ensures.1
