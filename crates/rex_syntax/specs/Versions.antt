-- Versions, and which of them a service's states have.
use Rattle.std.specs.Prelude.{ℕ, ◌&&◌, Bool, true, length, nat_le}
use Rattle.rex_syntax.specs.declared.service.Declarations.{Declarations}
use Rattle.rex_syntax.specs.declared.version.Version.{Version}
use Rattle.rex_syntax.specs.declared.version.Version.TheVariants.{One, Two}
use Rattle.rex_syntax.specs.declared.version.TheConstants.{OLD_LANES, OLD_VARIABLES}

-- the number that stands for a version in bytes
abbrev pub number_of : Version → ℕ
number_of One = 1
number_of Two = 2

-- the states of a service of few lanes and variables have the old version
abbrev pub is_old_size : ℕ → ℕ → Bool
is_old_size lanes variables = nat_le lanes OLD_LANES && nat_le variables OLD_VARIABLES

abbrev pub has_old_form : Declarations → Bool
has_old_form service = is_old_size service.lanes (length service.variables)

-- a service's states have the version
abbrev pub has_version : Declarations → Version → Bool
has_version service One = has_old_form service
has_version service Two = true
