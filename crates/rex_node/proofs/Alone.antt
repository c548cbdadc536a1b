-- The events that are read alone are those of the delta.
use Rattle.rex_node.proofs.Common.{◌≡◌, ℕ, List, ◌++◌, Result, Ok, Err, refl, sym, append-nil, All-nil, Delta, Event, behind_of, delta_in, Value, events_of, read_delta}
use Rattle.rex_state.specs.Counts.{AreCounted}
use Rattle.rex_wire.proofs.Fields.{IsBytes}
use Rattle.rex_delta.specs.Alone.{events_of as its_events}
use Rattle.rex_delta.proofs.EventLaws.{delta_found}
use Rattle.rex_cluster.proofs.Spelled.{spelled_counted}

pub read_events : (r : Result Delta ℕ) {es : List Event} → its_events r ≡ Ok es → es ≡ (read_delta r).events
read_events (Ok d) e = cc
read_events (Err at) e = absurd cc

-- what was appended are the events of the delta that was read
pub appended : (before : List Event) {after : List Event} (r : Result Delta ℕ) → behind_of before r ≡ Ok after → after ≡ before ++ (read_delta r).events
appended before (Ok d) is = cc
appended before (Err at) is = absurd cc

-- where none was read there are none
pub none_appended : {before : List Event} (at : ℕ) (r : Result Delta ℕ) → behind_of before r ≡ Err at → before ≡ before ++ (read_delta r).events
none_appended at (Ok d) is = absurd cc
none_appended {before} at (Err bad) is = sym (append-nil before)

-- the events of a value are counted
pub value_counted : (value : Value) → IsBytes value → AreCounted (events_of value)
value_counted value bytes = by (delta_in value) refl
  where
    by : (r : Result Delta ℕ) → delta_in value ≡ r → AreCounted (read_delta r).events
    by (Ok d) is = spelled_counted (delta_found value d bytes is).has
    by (Err at) is = record { each = All-nil _ }
