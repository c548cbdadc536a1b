-- The greatest consistent cut below limits, from the list's first event to its last.
use Rattle.std.specs.Prelude.{◌≡◌, ℕ, ◌≤◌, ◌&&◌, Bool, not, List, [], ◌∷◌, ◌++◌, length, slice_set, if◌then◌else◌}
use Rattle.std.specs.List.{list_any}
use Rattle.rex_event.specs.Limits.{most_lanes}
use Rattle.rex_event.specs.declared.event.Event.{Event}
use Rattle.rex_event.specs.Conflict.{conflict}
use Rattle.rex_event.specs.Cuts.{counted_all, AreNumbered, is_below, IsWithin}

-- an event conflicts with one of these
abbrev pub meets_any : List Event → Event → Bool
meets_any out e = list_any (λ (d : Event). conflict d e) out

-- a cut below an event
abbrev pub stopped : List ℕ → Event → List ℕ
stopped cut e = if is_below cut e then slice_set cut e.lane e.index else cut

-- a cut without each event that is above it already, or that conflicts with one that is left out before it
abbrev pub lowered : List Event → List ℕ → List Event → List ℕ
lowered out cut [] = cut
lowered out cut (e ∷ es) =
    if is_below cut e && not (meets_any out e) then lowered out cut es
    else lowered (out ++ e ∷ []) (stopped cut e) es

-- the greatest consistent cut below limits
abbrev pub greatest_cut : List ℕ → List Event → List ℕ
greatest_cut limits es = lowered [] limits es

-- the lanes are no more than the most, events are numbered on from what each lane did before them, and the count of each lane lies between that and what it did with them
pub record IsCutOf (es : List Event) (counts : List ℕ) : Type 0 where
  pub bases : List ℕ
  pub few : length counts ≤ most_lanes
  pub long : length bases ≡ length counts
  pub numbered : AreNumbered bases es
  pub from : IsWithin counts bases
  pub to : IsWithin (counted_all bases es) counts
