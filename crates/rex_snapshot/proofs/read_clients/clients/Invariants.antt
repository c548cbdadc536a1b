use Rattle.std.proofs.Common.{◌≡◌, ◌-◌}
use Rattle.rex_wire.specs.Reading.{list_at}
use Rattle.rex_snapshot.specs.Allowed.{IsAhead}
use Rattle.rex_snapshot.specs.Reading.{after_client, known_at, clients_at}
use Rattle.rex_snapshot.proofs.Repeated.{with_front}
use Rattle.rex_snapshot.proofs.read_clients.clients.Given as goal

-- the clients before this one were read, and this is what lanes serve above the last of them
abbrev pub invariant-loop-n : goal.invariant-loop-n
invariant-loop-n l =
    (with_front l.clients (list_at (known_at l.seats) after_client (l.count - l.n) (l.above, l.count - l.n - 1) l.reader) ≡ clients_at l.seats l.count l.fn.reader)
    × IsAhead l.seats l.above l.ahead
