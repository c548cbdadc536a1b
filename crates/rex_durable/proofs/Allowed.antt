-- What the tests of instances say, and where they hold.
use Rattle.std.proofs.Common.{◌≡◌, ℕ, ◌+◌, ◌<◌, true, refl}
use Rattle.std.specs.Prelude.{◌==◌, ◌&&◌, nat_lt}
use Rattle.std.proofs.lemmas.Bool.{eqb-true, eq-eqb, ltb-true, lt-ltb}
use Rattle.rex_ballot.specs.Ballot.{IsInstance, is_instance}
use Rattle.rex_ballot.proofs.Numbers.{is_instance-true, instance-is}
use Rattle.rex_wire.proofs.Ranges.{both}

pub record IsNext (count n : ℕ) : Type 0 where
  pub instance : IsInstance n
  pub next : n ≡ count + 1

pub next-true : (count n : ℕ) → (is_instance n && n == count + 1) ≡ true → IsNext count n
next-true count n e =
    let p = both (is_instance n) (n == count + 1) e in
    record { instance = is_instance-true n p.0; next = eqb-true n (count + 1) p.1 }

pub next-is : (count n : ℕ) → IsInstance n → n ≡ count + 1 → (is_instance n && n == count + 1) ≡ true
next-is count n h e = rw (instance-is n h, eq-eqb n (count + 1) e) refl

-- the instance that is the base, above the offset
pub record IsBase (offset base n : ℕ) : Type 0 where
  pub instance : IsInstance n
  pub above : offset < n
  pub is : n ≡ base

pub base-true : (offset base n : ℕ) → (is_instance n && (nat_lt offset n && n == base)) ≡ true → IsBase offset base n
base-true offset base n e =
    let p = both (is_instance n) (nat_lt offset n && n == base) e in
    let q = both (nat_lt offset n) (n == base) p.1 in
    record { instance = is_instance-true n p.0; above = ltb-true offset n q.0; is = eqb-true n base q.1 }

pub base-is : (offset base n : ℕ) → IsInstance n → offset < n → n ≡ base → (is_instance n && (nat_lt offset n && n == base)) ≡ true
base-is offset base n h l e = rw (instance-is n h, lt-ltb offset n l, eq-eqb n base e) refl

-- an instance above a number
pub above-true : (count n : ℕ) → (is_instance n && nat_lt count n) ≡ true → IsInstance n × (count < n)
above-true count n e = let p = both (is_instance n) (nat_lt count n) e in (is_instance-true n p.0, ltb-true count n p.1)

pub above-is : (count n : ℕ) → IsInstance n → count < n → (is_instance n && nat_lt count n) ≡ true
above-is count n h l = rw (instance-is n h, lt-ltb count n l) refl
