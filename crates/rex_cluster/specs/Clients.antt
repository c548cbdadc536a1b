-- Clients and sequences in their ranges.
use Rattle.std.specs.Prelude.{◌≡◌, List}
use Rattle.rex_event.specs.declared.event.Event.{Event}
use Rattle.rex_event.specs.declared.event.Kind.{Kind}
use Rattle.rex_event.specs.declared.event.Kind.TheVariants.{Begin, Reply}
use Rattle.rex_event.specs.declared.event.TheConstants.{CLIENTS, SEQUENCES}
use Rattle.rex_delta.specs.Spelling.{IsBetween}
use Rattle.rex_state.specs.declared.lane.Entry.{Entry}
use Rattle.rex_state.specs.Machine.{entry_at}

-- the client and the sequence of a kind are in their ranges
abbrev pub KindHasClient : Kind → Type 0
KindHasClient (Begin client sequence handler arguments) = IsBetween 1 CLIENTS client × IsBetween 1 SEQUENCES sequence
KindHasClient (Reply client value) = IsBetween 1 CLIENTS client
KindHasClient _ = Unit {0}

pub record HasClient (e : Event) : Type 0 where
  pub kind : KindHasClient e.kind

-- no client has the number 0
abbrev pub IsUnused : List Entry → Type 0
IsUnused clients = (entry_at clients 0).sequence ≡ 0
