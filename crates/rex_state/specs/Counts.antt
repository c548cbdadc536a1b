-- How many events each lane did.
use Rattle.std.specs.Prelude.{◌≡◌, ℕ, ◌+◌, ◌^◌, ◌<◌, List, map, Some}
use Rattle.std.specs.List.{All}
use Rattle.rex_syntax.specs.declared.service.Declarations.{Declarations}
use Rattle.rex_event.specs.declared.event.Event.{Event}
use Rattle.rex_event.specs.Cuts.{AreNumbered, counted_all}
use Rattle.rex_state.specs.declared.lane.Lane.{Lane}
use Rattle.rex_state.specs.Value.{StateValue}
use Rattle.rex_state.specs.Machine.{run}

-- how many events a lane did
abbrev pub done_of : Lane → ℕ
done_of l = l.done

-- the same for each lane
abbrev pub counts_of : StateValue → List ℕ
counts_of s = map done_of s.lanes

-- events are numbered on from what the lanes did before, and are what they did more
pub record CountsOn (s : StateValue) (es : List Event) (t : StateValue) : Type 0 where
  pub numbered : AreNumbered (counts_of s) es
  pub counts : counted_all (counts_of s) es ≡ counts_of t

-- each run does so
abbrev pub RunsCountOn : Type 0
RunsCountOn = (service : Declarations) (s t : StateValue) (es : List Event) → run service s es ≡ Some t → CountsOn s es t

-- the index of each event leaves its lane room to count one more
pub record AreCounted (es : List Event) : Type 0 where
  pub each : All (λ (e : Event). e.index + 1 < 2 ^ 32) es
