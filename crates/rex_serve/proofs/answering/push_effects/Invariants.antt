use Rattle.std.proofs.Common.{◌≡◌, ◌++◌, take}
use Rattle.std.specs.List.{flat_map}
use Rattle.rex_frames.specs.Answering.{effect_frame}
use Rattle.rex_serve.proofs.answering.push_effects.Given as goal

abbrev pub invariant-loop-effect : goal.invariant-loop-effect
invariant-loop-effect l = l.out.items ≡ l.initial.out.items ++ flat_map (effect_frame l.service) (take l.effect-index l.effects)
