use Rattle.std.proofs.Common.{◌<◌, ℕ}
use Rattle.rex_live.specs.Places.{place_at, IsWantedAt}
use Rattle.rex_live.proofs.places.seek_all.Given as goal

abbrev pub invariant-loop-client : goal.invariant-loop-client
invariant-loop-client l = (client : ℕ) → client < l.client → IsWantedAt l.service l.requests l.entries client (place_at l.wanted client)
