-- What holds of the causes in a piece of a trace.
use Rattle.std.specs.Prelude.{◌≢◌, ℕ, zero, suc, ◌+◌, ◌<◌, ◌≤◌, ◌&&◌, Bool, not, nat_eq, nat_lt, List, [], ◌∷◌, length, if◌then◌else◌}
use Rattle.std.specs.List.{All}
use Rattle.rex_event.specs.declared.event.Event.{Event}
use Rattle.rex_event.specs.declared.delta.Cause.{Cause}
use Rattle.rex_event.specs.Cuts.{count_at, counted}

-- the lane has an event between two counts
abbrev pub has_event : List ℕ → List ℕ → ℕ → Bool
has_event bases counts lane = nat_lt (count_at bases lane) (count_at counts lane)

-- how many of the lanes below a number, but for this one, have an event between two counts
abbrev pub others_below : List ℕ → List ℕ → ℕ → ℕ → ℕ
others_below bases counts lane zero = 0
others_below bases counts lane (suc n) = (if has_event bases counts n && not (nat_eq n lane) then 1 else 0) + others_below bases counts lane n

-- a cause is an event of another lane that stands earlier in the piece
pub record CauseFits (bases counts : List ℕ) (lane : ℕ) (c : Cause) : Type 0 where
  pub other : c.lane ≢ lane
  pub there : c.lane < length counts
  pub from : count_at bases c.lane ≤ c.index
  pub earlier : c.index < count_at counts c.lane

-- each is of a lane from this one on, and above the one before
abbrev pub AreRising : ℕ → List Cause → Type 0
AreRising least [] = Unit {0}
AreRising least (c ∷ cs) = (least ≤ c.lane) × AreRising (c.lane + 1) cs

-- the causes of an event of this lane, where lanes did so many events before the piece, and so many before the event
pub record CausesFit (bases counts : List ℕ) (lane : ℕ) (causes : List Cause) : Type 0 where
  pub few : length causes ≤ others_below bases counts lane (length counts)
  pub each : All (CauseFits bases counts lane) causes
  pub rising : AreRising 0 causes

-- the causes of each event of a piece do so
abbrev pub AllCausesFit : List ℕ → List ℕ → List Event → List (List Cause) → Type 0
AllCausesFit bases counts [] [] = Unit {0}
AllCausesFit bases counts [] (causes ∷ lists) = ⊥
AllCausesFit bases counts (e ∷ es) [] = ⊥
AllCausesFit bases counts (e ∷ es) (causes ∷ lists) = CausesFit bases counts e.lane causes × AllCausesFit bases (counted counts e) es lists
