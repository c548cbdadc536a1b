-- Counts of events by lane.
use Rattle.std.proofs.Common.{◌≡◌, ◌≢◌, ℕ, zero, suc, Bool, true, false, cond, ◌+◌, ◌-◌, ◌<◌, ◌≤◌, List, length, set, refl, sym, subst, arith}
use Rattle.std.specs.Prelude.{◌&&◌, not, nat_eq, nat_le}
use Rattle.std.proofs.lemmas.Bool.{le-leb, ne_eqb}
use Rattle.std.specs.List.{All}
use Rattle.std.proofs.lemmas.List.Elements.{All-set}
use Rattle.rex_event.specs.Cuts.{count_at}
use Rattle.rex_delta.specs.Spelling.{has_event, others_below}

-- one event more
pub counted-small : (counts : List ℕ) (limit more lane index : ℕ) → more ≡ limit + 1 → All (λ n. n ≤ limit) counts → lane < length counts → index ≡ count_at counts lane → All (λ n. n ≤ more) (set counts lane (index + 1))
counted-small counts limit more lane index one small there e =
    let few : count_at counts lane ≤ limit = small lane 0 there in
    All-set (λ n. n ≤ more) counts lane (index + 1) (omega arith) (λ k d lt. omega (arith, small k d lt))

one_or_none : (b : Bool) → cond b 1 0 ≤ 1
one_or_none true = omega arith
one_or_none false = omega arith

pub others_few : (bases counts : List ℕ) (lane n : ℕ) → others_below bases counts lane n ≤ n
others_few bases counts lane zero = omega arith
others_few bases counts lane (suc n) = omega (arith, one_or_none (has_event bases counts n && not (nat_eq n lane)), others_few bases counts lane n)

-- with more lanes there are no fewer
pub others_more : (bases counts : List ℕ) (lane m n : ℕ) → others_below bases counts lane m ≤ others_below bases counts lane (m + n)
others_more bases counts lane m zero =
    let none : m + 0 ≡ m = omega arith in
    rw none (omega arith)
others_more bases counts lane m (suc n) =
    let one : m + suc n ≡ suc (m + n) = omega arith in
    rw one (omega (arith, others_more bases counts lane m n))

-- the last that is needed
pub last_other : (bases counts : List ℕ) (lane other n count : ℕ) → other < n → 1 + others_below bases counts lane other ≡ count → has_event bases counts other ≡ true → other ≢ lane → true ≡ nat_le count (others_below bases counts lane n)
last_other bases counts lane other n count there is has differs =
    let one : 1 + others_below bases counts lane other ≡ others_below bases counts lane (suc other) = rw (has, ne_eqb other lane differs) refl in
    let back : suc other + (n - suc other) ≡ n = omega arith in
    let more : others_below bases counts lane (suc other) ≤ others_below bases counts lane n = subst (λ (m : ℕ). others_below bases counts lane (suc other) ≤ others_below bases counts lane m) back (others_more bases counts lane (suc other) (n - suc other)) in
    sym (le-leb count (others_below bases counts lane n) (omega (arith, one, more, is)))
