-- What the tests of fields say, and where they hold.
use Rattle.std.proofs.Common.{◌≡◌, ◌≢◌, ℕ, ◌≤◌, true, refl, arith}
use Rattle.std.specs.Prelude.{◌==◌, not, nat_eq, nat_le}
use Rattle.std.proofs.lemmas.Bool.{leb-true, le-leb}
use Rattle.rex_ballot.specs.Ballot.{IsNode, IsInstance, is_node, is_instance}
use Rattle.rex_ballot.proofs.Numbers.{is_node-true, node-is, is_instance-true, instance-is}
use Rattle.rex_wire.proofs.Ranges.{both}
use Rattle.rex_msg.specs.Reading.{is_other_node, is_instance_from}

differ : (a b : ℕ) → not (nat_eq a b) ≡ true → a ≢ b
differ a b e same = grind arith

differ-is : (a b : ℕ) → a ≢ b → not (nat_eq a b) ≡ true
differ-is a b ne = grind arith

pub is_other_node-true : (node n : ℕ) → is_other_node node n ≡ true → IsNode n × (n ≢ node)
is_other_node-true node n e =
    let p = both (is_node n) (not (n == node)) e in
    (is_node-true n p.0, differ n node p.1)

pub other_node-is : (node n : ℕ) → IsNode n → n ≢ node → is_other_node node n ≡ true
other_node-is node n h other = rw (node-is n h, differ-is n node other) refl

pub is_instance_from-true : (least n : ℕ) → is_instance_from least n ≡ true → (least ≤ n) × IsInstance n
is_instance_from-true least n e =
    let p = both (nat_le least n) (is_instance n) e in
    (leb-true least n p.0, is_instance-true n p.1)

pub instance_from-is : (least n : ℕ) → least ≤ n → IsInstance n → is_instance_from least n ≡ true
instance_from-is least n le h = rw (le-leb least n le, instance-is n h) refl
