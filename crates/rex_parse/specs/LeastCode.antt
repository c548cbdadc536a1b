-- The code answered for a line is the least of those that fit it.
use Rattle.std.specs.Prelude.{◌≡◌, ◌<◌, ◌≤◌, ◌↔◌, ℕ, List, Option, Some, None}
use Rattle.rex_parse.specs.Words.{rank}
use Rattle.rex_parse.specs.Reading.{raw_code, end_code}
use Rattle.rex_parse.specs.Fitting.{Fits, FitsEnd}
use Rattle.rex_parse.specs.declared.language.Above.{Above}
use Rattle.rex_parse.specs.declared.language.ServiceCode.{ServiceCode}

-- a code is one of these, and none of them has a lesser number
pub record IsLeast {Code : Type 0} (number : Code → ℕ) (Codes : Code → Type 0) (c : Code) : Type 0 where
  pub among : Codes c
  pub least : (d : Code) → number d < number c → ¬ (Codes d)

-- an answer names a code exactly where that is the least of these, and names none exactly where there is none
pub record IsLeastOf {Code : Type 0} (number : Code → ℕ) (Codes : Code → Type 0) (answer : Option Code) : Type 0 where
  pub least : (c : Code) → (answer ≡ Some c) ↔ IsLeast number Codes c
  pub none : (answer ≡ None) ↔ ((c : Code) → ¬ (Codes c))

-- whatever is declared above, the code answered for a line is the least that fits it
abbrev pub LinesGetTheLeast : Type 0
LinesGetTheLeast = (a : Above) (line : List ℕ) → IsLeastOf rank (Fits a line) (raw_code a line)

-- so is the code answered for the end of a text
abbrev pub EndsGetTheLeast : Type 0
EndsGetTheLeast = (a : Above) → IsLeastOf rank (FitsEnd a) (end_code a)

-- where P1, P2 or P3 fits a line, nothing else does
abbrev pub FirstThreeStandAlone : Type 0
FirstThreeStandAlone = (a : Above) (line : List ℕ) (c d : ServiceCode) → rank c ≤ 3 → Fits a line c → Fits a line d → d ≡ c
