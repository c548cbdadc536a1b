-- Cuts: a count of events for each lane.
use Rattle.std.specs.Prelude.{◌≡◌, ℕ, ◌+◌, ◌<◌, ◌≤◌, Bool, true, not, List, [], ◌∷◌, length, nat_lt, slice_index_or, slice_set, filter}
use Rattle.rex_event.specs.declared.event.Event.{Event}
use Rattle.rex_event.specs.Order.{IsOrdered}

-- the count of a lane; 0 where there is none
abbrev pub count_at : List ℕ → ℕ → ℕ
count_at counts lane = slice_index_or counts lane 0

-- ---- numbering

-- the counts with one more event
abbrev pub counted : List ℕ → Event → List ℕ
counted counts e = slice_set counts e.lane (e.index + 1)

-- the counts with these events
abbrev pub counted_all : List ℕ → List Event → List ℕ
counted_all counts [] = counts
counted_all counts (e ∷ es) = counted_all (counted counts e) es

-- events are numbered on from these counts: the index of each is how many events its lane did before
abbrev pub AreNumbered : List ℕ → List Event → Type 0
AreNumbered counts [] = Unit {0}
AreNumbered counts (e ∷ es) = (e.lane < length counts) × (e.index ≡ count_at counts e.lane) × AreNumbered (counted counts e) es

-- ---- below a cut

-- an event is below a cut
abbrev pub is_below : List ℕ → Event → Bool
is_below cut e = nat_lt e.index (count_at cut e.lane)

-- the events below a cut, in their order
abbrev pub below : List ℕ → List Event → List Event
below cut es = filter (is_below cut) es

-- the other events, in their order
abbrev pub beyond : List ℕ → List Event → List Event
beyond cut es = filter (λ e. not (is_below cut e)) es

-- ---- consistent cuts

-- the events below the cut hold, with an event, all that have to come before it
pub record IsConsistent (es : List Event) (cut : List ℕ) : Type 0 where
  pub closed : (d e : Event) → IsOrdered es d e → is_below cut e ≡ true → is_below cut d ≡ true

-- no lane's count is above its limit
abbrev pub IsWithin : List ℕ → List ℕ → Type 0
IsWithin limits cut = (lane : ℕ) → count_at cut lane ≤ count_at limits lane

-- the greatest consistent cut below limits
pub record IsGreatestCut (limits : List ℕ) (es : List Event) (cut : List ℕ) : Type 0 where
  pub long : length cut ≡ length limits
  pub within : IsWithin limits cut
  pub consistent : IsConsistent es cut
  pub greatest : (other : List ℕ) → IsWithin limits other → IsConsistent es other → IsWithin cut other
