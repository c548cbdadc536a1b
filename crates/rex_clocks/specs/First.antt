-- Lanes of which something is covered.
use Rattle.std.specs.Prelude.{◌≡◌, ◌≢◌, ℕ, ◌<◌, ◌≤◌, List}
use Rattle.rex_event.specs.Cuts.{count_at}
use Rattle.rex_event.specs.declared.event.TheConstants.{LANES}

-- so many of the first lanes have all that is covered
pub record HasFirst (lanes : ℕ) (counts : List ℕ) : Type 0 where
  pub few : lanes ≤ LANES
  pub beyond : (lane : ℕ) → lanes ≤ lane → count_at counts lane ≡ 0

-- of another lane than the own one more is covered than by others
pub record IsAhead (counts others : List ℕ) (own : ℕ) : Type 0 where
  pub lane : ℕ
  pub other : lane ≢ own
  pub more : count_at others lane < count_at counts lane
