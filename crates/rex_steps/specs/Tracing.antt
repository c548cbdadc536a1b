-- The lines of agreed values.
use Rattle.std.specs.Prelude.{ℕ, suc, List, [], ◌∷◌, ◌++◌}
use Rattle.rex_syntax.specs.declared.service.Declarations.{Declarations}
use Rattle.rex_report.specs.Trace.{delta_text}
use Rattle.rex_cluster.specs.Values.{Value, delta_of}

-- the lines of agreed values, of which the first has this instance
abbrev pub values_text : Declarations → ℕ → List Value → List ℕ
values_text service instance [] = []
values_text service instance (v ∷ vs) = delta_text service instance (delta_of v) ++ values_text service (suc instance) vs
