use Rattle.rex_world.proofs.Common.{◌≡◌, ◌++◌, take, filter, is_release}
use Rattle.rex_world.proofs.following.push_releases.Given as goal

-- the releases among the effects before this one were appended
abbrev pub invariant-loop-effect : goal.invariant-loop-effect
invariant-loop-effect l = l.releases.items ≡ l.initial.releases.items ++ filter is_release (take l.effect-index l.effects)
