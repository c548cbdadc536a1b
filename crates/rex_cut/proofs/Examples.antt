-- The definitions at work: small traces, with the cuts and causes that they come to.
use Rattle.std.proofs.Common.{◌≡◌, ℕ, zero, suc, ◌≤◌, [], ◌∷◌, refl, arith}
use Rattle.rex_event.specs.declared.delta.Cause.{Cause}
use Rattle.rex_event.specs.Cuts.{IsWithin}
use Rattle.rex_reduce.specs.Traces.{in_turn}
use Rattle.rex_reduce.proofs.Examples.{in_turn_numbered}
use Rattle.rex_cut.specs.Greatest.{greatest_cut, IsCutOf}
use Rattle.rex_cut.specs.Delta.{delta_at}
use Rattle.rex_cut.specs.Traces.{locked, shared, handed}

abbrev cause : ℕ → ℕ → Cause
cause lane index = record { lane = lane; index = index }

-- ---- their cuts

within : (a b c d : ℕ) → c ≤ a → d ≤ b → IsWithin (a ∷ b ∷ []) (c ∷ d ∷ [])
within a b c d h k zero = h
within a b c d h k (suc zero) = k
within a b c d h k (suc (suc lane)) = omega arith

within_three : (a b c d e f : ℕ) → d ≤ a → e ≤ b → f ≤ c → IsWithin (a ∷ b ∷ c ∷ []) (d ∷ e ∷ f ∷ [])
within_three a b c d e f h k l zero = h
within_three a b c d e f h k l (suc zero) = k
within_three a b c d e f h k l (suc (suc zero)) = l
within_three a b c d e f h k l (suc (suc (suc lane))) = omega arith

pub locked_cut : (a b : ℕ) → a ≤ 3 → b ≤ 2 → IsCutOf locked (a ∷ b ∷ [])
locked_cut a b h k = record {
  bases = 0 ∷ 0 ∷ [];
  few = omega arith;
  long = refl;
  numbered = (omega arith, refl, (omega arith, refl, (omega arith, refl, (omega arith, refl, (omega arith, refl, tt)))));
  from = within a b 0 0 (omega arith) (omega arith);
  to = within 3 2 a b h k;
}

pub shared_cut : (a b c : ℕ) → a ≤ 3 → b ≤ 3 → c ≤ 2 → IsCutOf shared (a ∷ b ∷ c ∷ [])
shared_cut a b c h k l = record {
  bases = 0 ∷ 0 ∷ 0 ∷ [];
  few = omega arith;
  long = refl;
  numbered = (omega arith, refl, (omega arith, refl, (omega arith, refl, (omega arith, refl, (omega arith, refl, (omega arith, refl, (omega arith, refl, (omega arith, refl, tt))))))));
  from = within_three a b c 0 0 0 (omega arith) (omega arith) (omega arith);
  to = within_three 3 3 2 a b c h k l;
}

pub handed_cut : (a b : ℕ) → 4 ≤ a → 7 ≤ b → a ≤ 5 → b ≤ 8 → IsCutOf handed (a ∷ b ∷ [])
handed_cut a b f g h k = record {
  bases = 4 ∷ 7 ∷ [];
  few = omega arith;
  long = refl;
  numbered = (omega arith, refl, (omega arith, refl, tt));
  from = within a b 4 7 f g;
  to = within 5 8 a b h k;
}

-- three lanes in turn may be cut at their end
pub in_turn_cut : IsCutOf in_turn (4 ∷ 4 ∷ 4 ∷ [])
in_turn_cut = record {
  bases = 0 ∷ 0 ∷ 0 ∷ [];
  few = omega arith;
  long = refl;
  numbered = in_turn_numbered;
  from = within_three 4 4 4 0 0 0 (omega arith) (omega arith) (omega arith);
  to = λ lane. omega arith;
}

-- ---- greatest cuts

-- the second lane's acquire needs the release, which is past the limit
greatest_locked : greatest_cut (2 ∷ 2 ∷ []) locked ≡ 2 ∷ 1 ∷ []
greatest_locked = refl

greatest_all : greatest_cut (3 ∷ 2 ∷ []) locked ≡ 3 ∷ 2 ∷ []
greatest_all = refl

-- the third lane's acquire needs each of the releases
greatest_shared : greatest_cut (3 ∷ 2 ∷ 2 ∷ []) shared ≡ 3 ∷ 2 ∷ 1 ∷ []
greatest_shared = refl

greatest_handed : greatest_cut (4 ∷ 8 ∷ []) handed ≡ 4 ∷ 7 ∷ []
greatest_handed = refl

-- ---- causes

causes_cut_short : (delta_at (2 ∷ 1 ∷ []) locked).causes ≡ [] ∷ [] ∷ [] ∷ []
causes_cut_short = refl

-- of what stands before in the other lane the release is the latest that conflicts
causes_locked : (delta_at (3 ∷ 2 ∷ []) locked).causes ≡ [] ∷ [] ∷ [] ∷ [] ∷ (cause 0 2 ∷ []) ∷ []
causes_locked = refl

-- shared events are no causes of one another
causes_shared : (delta_at (3 ∷ 3 ∷ 2 ∷ []) shared).causes ≡ [] ∷ [] ∷ [] ∷ [] ∷ [] ∷ [] ∷ [] ∷ (cause 0 2 ∷ cause 1 2 ∷ []) ∷ []
causes_shared = refl

-- a lane that has no event below the cut did as many before as it did at the cut
bases_handed : (delta_at (5 ∷ 7 ∷ []) handed).bases ≡ 4 ∷ 7 ∷ []
bases_handed = refl
