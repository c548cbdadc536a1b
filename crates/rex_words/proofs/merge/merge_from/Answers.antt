use Rattle.std.proofs.Common.{◌<◌, List, ℕ, subst, sym, arith}
use Rattle.rex_event.specs.declared.event.Event.{Event}
use Rattle.rex_words.specs.Histories.{IsMerging, left_in}
use Rattle.rex_words.proofs.Merging.{merged_more, all_merged, fewer_left}
use Rattle.rex_words.proofs.merge.merge_from.Goals as goal

pub loop-first-preserved : goal.loop-first-preserved
loop-first-preserved c =
    subst (λ (z : List ℕ × List Event). IsMerging c.args.lists.now z.0 z.1) (λ k. (sym c.take_next-next.ensures.places k, sym c.in_ok-push.ensures.items k))
    (merged_more c.args.lists.now c.loop-first.places c.loop-first.events.items c.loop-first.invariant c.in-Some.first c.in-Some.ensures c.take_next-next.result c.take_next-next.ensures.next)

pub loop-first-smaller : goal.loop-first-smaller
loop-first-smaller c =
    let f = c.in-Some.ensures in
    subst (λ (places : List ℕ). left_in c.args.lists.now places < left_in c.args.lists.now c.loop-first.places) (sym c.take_next-next.ensures.places)
    (fewer_left c.args.lists.now c.loop-first.places c.in-Some.first f.within (let w = f.within in let n = c.loop-first.invariant.count in omega arith) f.there)

pub returns : goal.returns
returns c = all_merged c.args.lists.now c.loop-first.places c.loop-first.events.items c.loop-first.invariant c.in_default.ensures
