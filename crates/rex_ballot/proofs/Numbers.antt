-- What the tests of nodes, ballots and instances say, and where they hold.
use Rattle.std.proofs.Common.{◌≡◌, ℕ, ◌<◌, ◌^◌, Bool, true, false, refl, arith}
use Rattle.std.specs.Prelude.{◌&&◌, nat_le}
use Rattle.std.proofs.lemmas.Bool.{leb-true, le-leb}
use Rattle.rex_ballot.specs.Ballot.{IsNode, IsBallot, IsInstance, round_of, node_of, is_node, is_ballot, is_instance}

both : (a b : Bool) → (a && b) ≡ true → (a ≡ true) × (b ≡ true)
both true b e = (refl, e)
both false b e = absurd cc

pub is_node-true : (n : ℕ) → is_node n ≡ true → IsNode n
is_node-true n e =
    let p = both (nat_le 1 n) (nat_le n 9) e in
    record { first = leb-true 1 n p.0; last = leb-true n 9 p.1 }

pub node-is : (n : ℕ) → IsNode n → is_node n ≡ true
node-is n h = rw (le-leb 1 n h.first, le-leb n 9 h.last) refl

pub is_ballot-true : (n : ℕ) → is_ballot n ≡ true → IsBallot n
is_ballot-true n e =
    let p = both (nat_le 1 (round_of n) && nat_le (round_of n) 4294967296) (is_node (node_of n)) e in
    let q = both (nat_le 1 (round_of n)) (nat_le (round_of n) 4294967296) p.0 in
    record { first = leb-true _ _ q.0; last = leb-true _ _ q.1; node = is_node-true _ p.1 }

pub ballot-is : (n : ℕ) → IsBallot n → is_ballot n ≡ true
ballot-is n h = rw (le-leb 1 (round_of n) h.first, le-leb (round_of n) 4294967296 h.last, node-is (node_of n) h.node) refl

-- a ballot is a number of 64 bits
pub ballot-below : (n : ℕ) → IsBallot n → n < 2 ^ 64
ballot-below n h = omega (arith, h.last)

pub is_instance-true : (n : ℕ) → is_instance n ≡ true → IsInstance n
is_instance-true n e =
    let p = both (nat_le 1 n) (nat_le n 65535) e in
    record { first = leb-true 1 n p.0; last = leb-true n 65535 p.1 }

pub instance-is : (n : ℕ) → IsInstance n → is_instance n ≡ true
instance-is n h = rw (le-leb 1 n h.first, le-leb n 65535 h.last) refl
