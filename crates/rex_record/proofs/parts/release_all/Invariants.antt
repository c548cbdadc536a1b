use Rattle.std.proofs.Common.{◌≡◌, ◌≤◌, ◌+◌, ◌++◌, drop}
use Rattle.std.specs.Prelude.{vec_len, vec_capacity}
use Rattle.rex_gate.specs.Noted.{noted}
use Rattle.rex_record.specs.Value.{releases}
use Rattle.rex_record.proofs.parts.release_all.Given as goal

-- the replies so far and those of the remaining events are all; the remaining events change the entries on to those after all; and there is room for as many replies as events remain
abbrev pub invariant-loop-event : goal.invariant-loop-event
invariant-loop-event l = record {
  released : l.released.items ++ releases l.clients (drop l.event-index l.events) ≡ l.initial.released.items ++ releases l.initial.clients l.events;
  clients : noted l.clients (drop l.event-index l.events) ≡ noted l.initial.clients l.events;
  capacity : vec_capacity l.released ≡ vec_capacity l.initial.released;
  len : vec_len l.released ≤ vec_len l.initial.released + l.event-index;
}
