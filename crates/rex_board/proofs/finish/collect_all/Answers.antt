use Rattle.std.proofs.Common.{◌≡◌, [], ◌∷◌, ◌++◌, subst, inl, refl}
use Rattle.rex_board.specs.Finishing.{IsCollecting}
use Rattle.rex_clocks.proofs.Leads.{has_right}
use Rattle.rex_board.proofs.Collecting.{collecting_more}
use Rattle.rex_board.proofs.finish.collect_all.Goals as goal

pub collect-requires-clause-finished : goal.collect-requires-clause-finished
collect-requires-clause-finished c =
    let popped : c.loop-seat.seats.items ≡ c.pop.new.self.items ++ c.in-Some.seat ∷ [] = c.in-Some.ensures.items in
    (subst (IsCollecting c.args.words.now.key c.args.words.now.table_id c.loop-seat.host c.loop-seat.state) popped c.loop-seat.invariant).each c.in-Some.seat (has_right c.in-Some.seat c.pop.new.self.items (c.in-Some.seat ∷ []) (inl refl))

pub loop-seat-preserved : goal.loop-seat-preserved
loop-seat-preserved c =
    let popped : c.loop-seat.seats.items ≡ c.pop.new.self.items ++ c.in-Some.seat ∷ [] = c.in-Some.ensures.items in
    collecting_more c.args.words.now.key c.args.words.now.table_id c.requires.right _ _ _ _ _ c.in-Some.seat (subst (IsCollecting c.args.words.now.key c.args.words.now.table_id c.loop-seat.host c.loop-seat.state) popped c.loop-seat.invariant) c.collect.ensures.collected
