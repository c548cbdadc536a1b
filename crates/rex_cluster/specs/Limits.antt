-- How large the counts and the sequences of a state grow.
use Rattle.std.specs.Prelude.{◌≡◌, ◌≤◌, true, List, length, Some, None}
use Rattle.std.specs.List.{All}
use Rattle.rex_syntax.specs.declared.service.Declarations.{Declarations}
use Rattle.rex_syntax.specs.Service.{IsService}
use Rattle.rex_syntax.specs.Check.{IsChecked}
use Rattle.rex_state.specs.declared.lane.Lane.{Lane}
use Rattle.rex_state.specs.declared.lane.Entry.{Entry}
use Rattle.rex_state.specs.Value.{StateValue}
use Rattle.rex_state.specs.Start.{start_of}
use Rattle.rex_state.specs.Machine.{no_entry, entry_at, run}
use Rattle.rex_cluster.specs.Values.{Value, trace_of, values_fit}
use Rattle.rex_event.specs.declared.event.TheConstants.{SEQUENCES}
use Rattle.rex_event.specs.declared.delta.TheConstants.{HISTORY_EVENTS}
use Rattle.rex_ballot.specs.declared.ballots.TheConstants.{INSTANCES}

-- each lane did no more events than a history has, the number 0 is no client's, sequences are in their range, and a client that has sent nothing has no reply
pub record StateIsLimited (s : StateValue) : Type 0 where
  pub lanes : All (λ (lane : Lane). lane.done ≤ HISTORY_EVENTS) s.lanes
  pub nobody : entry_at s.clients 0 ≡ no_entry
  pub entries : All (λ (e : Entry). (e.sequence ≤ SEQUENCES) × (e.sequence ≡ 0 → e.reply ≡ None)) s.clients

-- values that fit, no more than there are instances, lead from the start to such a state
abbrev pub ValuesLeadToLimitedStates : Type 0
ValuesLeadToLimitedStates =
    (service : Declarations) (values : List Value) (s : StateValue) → IsService service → IsChecked service
    → values_fit service values ≡ true → length values ≤ INSTANCES → run service (start_of service) (trace_of values) ≡ Some s → StateIsLimited s
