-- The lanes of which something is covered, as more or less is.
use Rattle.std.proofs.Common.{◌≡◌, ◌≢◌, ℕ, max, ◌+◌, ◌<◌, ◌≤◌, List, ◌∙◌, arith}
use Rattle.rex_event.specs.Cuts.{count_at}
use Rattle.rex_event.specs.declared.event.TheConstants.{LANES}
use Rattle.rex_clocks.specs.Counts.{none, ticked, unticked, merged}
use Rattle.rex_clocks.specs.First.{HasFirst}
use Rattle.rex_clocks.proofs.Counts.{count_none, count_merged, ticked_other, unticked_within}

pub first_none : HasFirst 0 none
first_none = record { few = omega arith; beyond = λ lane past. count_none lane }

pub first_ticked : (counts : List ℕ) (lanes lane : ℕ) → HasFirst lanes counts → lane < LANES → HasFirst (max lanes (lane + 1)) (ticked counts lane)
first_ticked counts lanes lane h l = record {
  few = omega (arith, h.few, l);
  beyond = λ other past.
      let o = ticked_other counts lane other (λ (q : other ≡ lane). absurd (omega (arith, past, q))) in
      o ∙ h.beyond other (omega (arith, past));
}

pub first_unticked : (counts : List ℕ) (lanes lane : ℕ) → HasFirst lanes counts → HasFirst lanes (unticked counts lane)
first_unticked counts lanes lane h = record {
  few = h.few;
  beyond = λ other past. omega (arith, h.beyond other past, unticked_within counts lane other);
}

pub first_merged : (a b : List ℕ) (m n : ℕ) → HasFirst m a → HasFirst n b → HasFirst (max m n) (merged a b)
first_merged a b m n h k = record {
  few = omega (arith, h.few, k.few);
  beyond = λ lane past. omega (arith, h.beyond lane (omega (arith, past)), k.beyond lane (omega (arith, past)), count_merged a b lane);
}

-- of one of the first so many lanes more is covered than by others
pub record IsAheadIn (counts others : List ℕ) (own lanes : ℕ) : Type 0 where
  pub lane : ℕ
  pub below : lane < lanes
  pub other : lane ≢ own
  pub more : count_at others lane < count_at counts lane
