-- The events of a delta can be written.
use Rattle.std.proofs.Common.{ℕ, ◌+◌, ◌≤◌, List, [], ◌∷◌, length, arith, length-set}
use Rattle.std.proofs.lemmas.List.Elements.{All-weaker}
use Rattle.rex_event.specs.declared.event.Event.{Event}
use Rattle.rex_event.specs.declared.delta.Cause.{Cause}
use Rattle.rex_event.specs.Limits.{most_lanes}
use Rattle.rex_event.specs.Cuts.{counted}
use Rattle.rex_delta.specs.Spelling.{CauseFits, EventFits, EventsFit}
use Rattle.rex_delta.specs.Writing.{HasLane, CanBeWritten, CanAllBeWritten}
use Rattle.rex_delta.proofs.Counting.{others_few}
use Rattle.rex_delta.proofs.KindLaws.{KindFits-more}

can_be_written : (bases counts : List ℕ) (e : Event) (causes : List Cause) → length counts ≤ most_lanes → EventFits bases counts e causes → CanBeWritten e causes
can_be_written bases counts e causes few fits = record {
  lane = omega (arith, fits.lane);
  kind = KindFits-more (length counts) most_lanes e.kind few fits.kind;
  few = omega (arith, fits.few, others_few bases counts e.lane (length counts));
  each = All-weaker (CauseFits bases counts e.lane) HasLane (λ c h. record { lane = omega (arith, h.there) }) causes fits.each;
}

pub can_all_be_written : (bases counts : List ℕ) (es : List Event) (lists : List (List Cause)) → length counts ≤ most_lanes → EventsFit bases counts es lists → CanAllBeWritten es lists
can_all_be_written bases counts [] [] few fit = tt
can_all_be_written bases counts [] (causes ∷ lists) few fit = fit
can_all_be_written bases counts (e ∷ es) [] few fit = fit
can_all_be_written bases counts (e ∷ es) (causes ∷ lists) few fit =
    (can_be_written bases counts e causes few fit.0, can_all_be_written bases (counted counts e) es lists (omega (arith, length-set counts e.lane (e.index + 1))) fit.1)
