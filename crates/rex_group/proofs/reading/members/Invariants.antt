use Rattle.std.proofs.Common.{length, ◌-◌}
use Rattle.rex_group.specs.Places.{AreMembers}
use Rattle.rex_group.proofs.reading.members.Given as goal

-- the bytes up to here are a group of the records so far
abbrev pub invariant-loop-end : goal.invariant-loop-end
invariant-loop-end l = AreMembers l.index l.bytes l.end l.places.items

abbrev pub decreases-loop-end : goal.decreases-loop-end
decreases-loop-end l = length l.bytes - l.end
