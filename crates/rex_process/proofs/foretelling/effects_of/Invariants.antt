use Rattle.std.proofs.Common.{◌≡◌}
use Rattle.std.specs.Prelude.{map, take}
use Rattle.rex_cluster.specs.Values.{release_effect}
use Rattle.rex_process.proofs.foretelling.effects_of.Given as goal

-- the replies up to this one
abbrev pub invariant-loop-release : goal.invariant-loop-release
invariant-loop-release l = l.effects ≡ map release_effect (take l.release-index l.releases)
