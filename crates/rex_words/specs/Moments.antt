-- What moments tell.
use Rattle.std.specs.Prelude.{◌≡◌, ℕ, ◌<◌, ◌≤◌, Some}
use mathlib.Core.Option.{some}
use lib.ListN.{get_elem?}
use Rattle.atomic_table.specs.Table.{State}
use Rattle.rex_state.specs.Machine.{run}
use Rattle.rex_state.specs.Start.{start_of}
use Rattle.rex_state.specs.Sound.{IsSound}
use Rattle.rex_words.specs.declared.assignment.Assignment.{Assignment}
use Rattle.rex_words.specs.declared.view.View.{View}
use Rattle.rex_words.specs.declared.view.Role.TheVariants.{Lane}
use Rattle.rex_words.specs.Stamps.{IsInOrder, events_in}
use Rattle.rex_words.specs.Alone.{service_of}
use Rattle.rex_words.specs.Moment.{locks_in, lock_word, first_known, IsKnown, IsLockWord, IsMoment}

-- a seat has this view at a moment
abbrev pub HasView : State (Unit {0}) View → ℕ → View → Type 0
HasView t seat v = get_elem? t.views seat ≡ some v

-- at each moment what the view of a lane's seat knows is so
abbrev pub ViewsKnowWhatIsSo : Type 0
ViewsKnowWhatIsSo = (r : Assignment) (t : State (Unit {0}) View) (now : IsMoment r t) (seat : ℕ) (v : View) → HasView t seat v → v.role ≡ Lane → IsKnown r t.words now.common.history now.common.state v.lane v.knows

-- at no moment are two views of one lane
abbrev pub LanesHaveOneView : Type 0
LanesHaveOneView = (r : Assignment) (t : State (Unit {0}) View) → IsMoment r t → (i j : ℕ) (v w : View) → HasView t i v → HasView t j w → v.role ≡ Lane → w.role ≡ Lane → v.lane ≡ w.lane → i ≡ j

-- a lane that had no view yet did nothing
abbrev pub FreshLanesDidNothing : Type 0
FreshLanesDidNothing = (r : Assignment) (t : State (Unit {0}) View) (now : IsMoment r t) (lane : ℕ) → now.dealt ≤ lane → lane < (service_of r).lanes → now.know lane ≡ first_known r

-- the events of all views, in order of stamp and then of lane, run from the service's start to a sound state; and the word of each lock has the stamp of its last acquisition or release, and its holder in that state
pub record IsRunAt (r : Assignment) (t : State (Unit {0}) View) (now : IsMoment r t) : Type 0 where
  pub order : IsInOrder now.common.history
  pub runs : run (service_of r) (start_of (service_of r)) (events_in now.common.history) ≡ Some now.common.state
  pub sound : IsSound (service_of r) now.common.state
  pub locks : (lock : ℕ) → lock < locks_in r → IsLockWord now.common.history now.common.state lock (lock_word t.words lock)

-- so it is at each moment
abbrev pub MomentsRun : Type 0
MomentsRun = (r : Assignment) (t : State (Unit {0}) View) (now : IsMoment r t) → IsRunAt r t now
