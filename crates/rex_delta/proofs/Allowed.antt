-- What tests that held say.
use Rattle.std.proofs.Common.{◌≡◌, ◌≢◌, ℕ, ◌+◌, ◌-◌, ◌<◌, ◌≤◌, true, List, length, arith}
use Rattle.std.specs.Prelude.{◌==◌, ◌&&◌, not, nat_eq, nat_le, nat_lt}
use Rattle.std.proofs.lemmas.Bool.{leb-true, ltb-true}
use Rattle.rex_event.specs.Cuts.{count_at}
use Rattle.rex_wire.proofs.Ranges.{both, is_between-true}
use Rattle.rex_delta.specs.Spelling.{is_between, has_event}
use Rattle.rex_delta.specs.Reading.{may_be_cause, may_be_index}

pub record MayCause (bases counts : List ℕ) (lane above n : ℕ) : Type 0 where
  pub above_it : above < n
  pub lane_is : n ≤ length counts
  pub other : n ≢ lane + 1
  pub has : count_at bases (n - 1) < count_at counts (n - 1)

differ : (a b : ℕ) → not (nat_eq a b) ≡ true → a ≢ b
differ a b e same = grind arith

pub may_be_cause-true : (bases counts : List ℕ) (lane above n : ℕ) → may_be_cause bases counts lane above n ≡ true → MayCause bases counts lane above n
may_be_cause-true bases counts lane above n e =
    let p = both (is_between (above + 1) (length counts) n) (not (n == lane + 1) && has_event bases counts (n - 1)) e in
    let q = both (not (n == lane + 1)) (has_event bases counts (n - 1)) p.1 in
    let b = is_between-true (above + 1) (length counts) n p.0 in
    record { above_it = omega (arith, b.0); lane_is = b.1; other = differ n (lane + 1) q.0; has = ltb-true _ _ q.1 }

pub record MayIndex (bases counts : List ℕ) (lane index : ℕ) : Type 0 where
  pub from : count_at bases lane ≤ index
  pub earlier : index < count_at counts lane

pub may_be_index-true : (bases counts : List ℕ) (lane index : ℕ) → may_be_index bases counts lane index ≡ true → MayIndex bases counts lane index
may_be_index-true bases counts lane index e =
    let p = both (nat_le (count_at bases lane) index) (nat_lt index (count_at counts lane)) e in
    record { from = leb-true _ _ p.0; earlier = ltb-true _ _ p.1 }
