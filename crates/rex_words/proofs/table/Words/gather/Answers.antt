use Rattle.std.proofs.Common.{arith, sym, ◌∙◌, subst}
use Rattle.rex_words.specs.Histories.{AreCollected}
use Rattle.rex_words.specs.Tables.{assignment_of}
use Rattle.rex_words.proofs.Collecting.{whole_pair, history_of}
use Rattle.rex_words.proofs.table.Words.gather.Goals as goal

pub free-requires : goal.free-requires
free-requires c = λ k lt. absurd (omega (arith, c.close_with-closed.ensures.counts.1, c.requires.words.whole.slots))

pub merge_all-requires : goal.merge_all-requires
merge_all-requires c =
    let f = c.close_with-closed.ensures.values.2 in
    whole_pair (assignment_of c.args.self) f.0 f.1.0 _ _ f.1.1 c.in_ok-lists.ensures.gathering.role c.args.seats.items c.deref.result.now
    (subst (AreCollected (assignment_of c.args.self) c.collect_all.new.host.me.0.gathered 0 c.args.seats.items) (sym c.deref.ensures.value) c.in_ok-lists.ensures.lists) c.requires.seats.count

pub returns : goal.returns
returns c =
    let f = c.close_with-closed.ensures.values.2 in
    history_of (assignment_of c.args.self) f.0 f.1.0 _ _ f.1.1 c.in_ok-lists.ensures.gathering.role c.args.seats.items c.deref.result.now
    (subst (AreCollected (assignment_of c.args.self) c.collect_all.new.host.me.0.gathered 0 c.args.seats.items) (sym c.deref.ensures.value) c.in_ok-lists.ensures.lists) c.requires.seats.count
    c.in_ok-events.ensures.whole c.from_vec.result c.in_ok-events.ensures.merged (c.from_vec.ensures ∙ c.in_ok-events.ensures.events_are)
