-- What holds of any answer.
use Rattle.rexnode_cli.specs.Loading.{OfAnswer}
use Rattle.rexnode_cli.specs.declared.loading.NotLoaded.{NotLoaded}
use Rattle.rexnode_cli.specs.declared.loading.NotLoaded.TheVariants as not_loaded

-- what holds anyway
pub of_any : (P : Type 0) (e : NotLoaded) → P → OfAnswer (λ _. P) e
of_any P (not_loaded.Refused due) p = p
of_any P not_loaded.Unread p = tt
of_any P not_loaded.OutOfMemory p = tt
