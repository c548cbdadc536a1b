use Rattle.std.proofs.Common.{◌≡◌, ◌<◌, ℕ, true}
use Rattle.rex_frame.specs.Guarded.{may_read}
use Rattle.rex_live.specs.Lent.{value_at}
use Rattle.rex_live.proofs.lending.agree.Given as goal

abbrev pub invariant-loop-variable : goal.invariant-loop-variable
invariant-loop-variable l = (x : ℕ) → x < l.variable → may_read l.service l.held x ≡ true → value_at l.values x ≡ value_at l.others x
