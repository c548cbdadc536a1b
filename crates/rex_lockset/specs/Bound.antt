-- The bound on a handler's steps, counted as far as the check needs it.
use Rattle.std.specs.Prelude.{ℕ, ◌+◌, min}
use Rattle.rex_syntax.specs.declared.service.TheConstants.{STEPS}

-- a number of steps, where all above the most count as one more
abbrev pub capped : ℕ → ℕ
capped steps = min steps (STEPS + 1)
