-- The lanes of events.
use Rattle.std.proofs.Common.{ℕ, ◌≤◌, List, arith}
use Rattle.std.specs.List.{All}
use Rattle.std.proofs.lemmas.List.Elements.{All-weaker}
use Rattle.rex_event.specs.declared.event.Event.{Event}
use Rattle.rex_clocks.specs.Lanes.{HasLane}

-- lanes that are some of so many are some of more
pub lanes_below : (lanes more : ℕ) (es : List Event) → lanes ≤ more → All (HasLane lanes) es → All (HasLane more) es
lanes_below lanes more es l h = All-weaker (HasLane lanes) (HasLane more) (λ e k. record { below = let b = k.below in omega arith }) es h
