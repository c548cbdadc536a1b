-- What follows from how groups are laid out.
use Rattle.std.specs.Prelude.{◌≡◌, ℕ, List}
use Rattle.rex_group.specs.Groups.{HoldAll, Holds}

-- bytes hold one list of records only
abbrev pub HoldsOne : Type 0
HoldsOne = (bytes : List ℕ) (records others : List (List ℕ)) → Holds bytes records → Holds bytes others → records ≡ others

-- so do those of all that is kept
abbrev pub HoldAllOne : Type 0
HoldAllOne = (below : List (List ℕ)) (records others : List (List ℕ)) → HoldAll below records → HoldAll below others → records ≡ others
