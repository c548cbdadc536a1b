use Rattle.std.proofs.Common.{◌≡◌, ◌+◌, ◌<◌, false, List, [], ◌∷◌, ◌++◌, length, take, subst, sym, ap, ◌∙◌, arith}
use Rattle.std.specs.List.{list_any}
use Rattle.std.proofs.lemmas.List.{take_more}
use Rattle.rex_snapshot.specs.declared.parts.Seat.{Seat}
use Rattle.rex_snapshot.specs.Allowed.{is_skipped}
use Rattle.rex_snapshot.proofs.Passing.{one_more}
use Rattle.rex_snapshot.proofs.ahead.next_above.Goals as goal

pub loop-seat-preserved : goal.loop-seat-preserved
loop-seat-preserved c =
    let seats = c.args.seats.now in
    let i = c.loop-seat.seat-index in
    let s = c.seat-item.result in
    let there : i < length seats = omega (arith, c.loop-seat-test.true) in
    let more : take (i + 1) seats ≡ take i seats ++ s ∷ [] = take_more seats i s there ∙ ap (λ (x : Seat). take i seats ++ x ∷ []) (sym c.seat-item.is) in
    subst (λ (xs : List Seat). list_any (λ x. is_skipped c.args.above c.nearer-next.result x.lane.frame) xs ≡ false) (sym more)
    (one_more c.args.above c.loop-seat.next c.nearer-next.result (take i seats) s c.nearer-next.ensures.less c.loop-seat.invariant c.nearer-next.ensures.here)
