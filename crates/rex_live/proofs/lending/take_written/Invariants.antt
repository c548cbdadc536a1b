use Rattle.std.proofs.Common.{◌≡◌, ◌<◌, ℕ, true, false, length}
use Rattle.rex_frame.specs.Guarded.{may_write}
use Rattle.rex_state.specs.Touched.{with_variables}
use Rattle.rex_live.specs.Lent.{value_at}
use Rattle.rex_live.proofs.lending.take_written.Given as goal

abbrev pub invariant-loop-variable : goal.invariant-loop-variable
invariant-loop-variable l =
    (l.kept ≡ with_variables l.initial.kept l.kept.variables) × (length l.kept.variables ≡ length l.initial.kept.variables)
    × ((x : ℕ) → x < l.variable → may_write l.service l.held x ≡ true → value_at l.kept.variables x ≡ value_at l.values x)
    × ((x : ℕ) → may_write l.service l.held x ≡ false → value_at l.kept.variables x ≡ value_at l.initial.kept.variables x)
