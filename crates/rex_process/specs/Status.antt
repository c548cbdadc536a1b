-- What a process tells of its node.
use Rattle.std.specs.Prelude.{length}
use Rattle.rex_frames.specs.declared.answering.Status.{Status}
use Rattle.rex_cluster.specs.Records.{known, promise}
use Rattle.rex_cluster.specs.Node.{role_name}
use Rattle.rex_cluster.specs.Lanes.{Here}

-- its role, its promise, how many values it knows, and how many events are live
abbrev pub status_of : Here → Status
status_of x = record { role = role_name x.role; promised = promise x.log; known = length (known x.log); live = length x.work.live }
