use Rattle.std.proofs.Common.{◌≡◌, [], ◌∷◌, ◌++◌, List, subst, sym, arith, length, length-append}
use Rattle.rex_words.specs.declared.seat.WordSeat.{WordSeat}
use Rattle.rex_words.specs.declared.stamped.Stamped.{Stamped}
use Rattle.rex_words.specs.Histories.{IsCollecting}
use Rattle.rex_words.proofs.Collecting.{popped_seat, collected_more, starts_collecting}
use Rattle.rex_words.proofs.gather.collect_all.Goals as goal

pub loop-seat-init : goal.loop-seat-init
loop-seat-init c = subst (λ (xs : List (List Stamped)). IsCollecting c.args.words.now.key c.args.words.now.table_id c.args.host.now c.args.seats.items c.args.seats.items xs) (sym c.new-lists.ensures.items) (starts_collecting _ _ _ _ c.requires.gathering c.requires.seats)

pub collect-requires-clause-seat : goal.collect-requires-clause-seat
collect-requires-clause-seat c =
    let popped : c.loop-seat.seats.items ≡ c.pop.new.self.items ++ c.in-Some.seat ∷ [] = c.in-Some.ensures.items in
    (popped_seat c.args.words.now.key c.args.words.now.table_id c.loop-seat.host c.loop-seat.host c.args.seats.items c.pop.new.self.items c.in-Some.seat c.loop-seat.lists.items
    (subst (λ (xs : List WordSeat). IsCollecting c.args.words.now.key c.args.words.now.table_id c.loop-seat.host c.args.seats.items xs c.loop-seat.lists.items) popped c.loop-seat.invariant)).seat

pub loop-seat-smaller : goal.loop-seat-smaller
loop-seat-smaller c =
    let popped : c.loop-seat.seats.items ≡ c.pop.new.self.items ++ c.in-Some.seat ∷ [] = c.in-Some.ensures.items in
    let long : length c.loop-seat.seats.items ≡ length (c.pop.new.self.items ++ c.in-Some.seat ∷ []) = (λ i. length (popped i)) in
    omega (arith, long, length-append c.pop.new.self.items (c.in-Some.seat ∷ []))

pub loop-seat-preserved : goal.loop-seat-preserved
loop-seat-preserved c =
    let popped : c.loop-seat.seats.items ≡ c.pop.new.self.items ++ c.in-Some.seat ∷ [] = c.in-Some.ensures.items in
    subst (λ (xs : List (List Stamped)). IsCollecting c.args.words.now.key c.args.words.now.table_id c.collect.new.host c.args.seats.items c.pop.new.self.items xs) (sym c.in_ok-push.ensures.items)
    (collected_more c.args.words.now.key c.args.words.now.table_id c.loop-seat.host c.collect.new.host c.args.seats.items c.pop.new.self.items c.in-Some.seat c.loop-seat.lists.items
    (subst (λ (xs : List WordSeat). IsCollecting c.args.words.now.key c.args.words.now.table_id c.loop-seat.host c.args.seats.items xs c.loop-seat.lists.items) popped c.loop-seat.invariant)
    c.collect.ensures.gathering c.collect.result c.collect.ensures.list c.collect.ensures.view)
