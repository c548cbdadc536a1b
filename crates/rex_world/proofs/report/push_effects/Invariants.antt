use Rattle.rex_world.proofs.Common.{◌≡◌, ◌++◌, drop, effects_text}
use Rattle.rex_world.proofs.report.push_effects.Given as goal

-- with the other effects all will be told
abbrev pub invariant-loop-effect : goal.invariant-loop-effect
invariant-loop-effect l = l.out.items ++ effects_text l.service l.number (drop l.effect-index l.effects) ≡ l.initial.out.items ++ effects_text l.service l.number l.effects
