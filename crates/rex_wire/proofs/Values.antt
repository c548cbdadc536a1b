-- Values: what is read is spelled so, and is read again.
use Rattle.std.proofs.Common.{◌≡◌, ℕ, ◌≤◌, false, ltb, List, ◌++◌, length, take, refl, sym, subst, arith, length-append}
use Rattle.std.specs.Int.{w32, to_be_bytes}
use Rattle.std.proofs.lemmas.Bool.{leb-true, le-leb, ltb-false, le-ltb}
use Rattle.std.proofs.lemmas.List.{take_at, drop_at, take-append-drop, length-take}
use Rattle.rex_wire.specs.Reading.{Left, past, bytes_at, allowed_at, is_length, value_at}
use Rattle.rex_wire.specs.Spelling.{value_bytes}
use Rattle.rex_wire.proofs.Fields.{IsBytes-drop, guard_ok, Takes, Takes-then, IsSpelled, step, IsRead, IsRead-then}
use Rattle.rex_wire.proofs.Numbers.{wide32, allowed_spelled, allowed_again}

-- ---- bytes

abbrev as_they_are : List ℕ → List ℕ
as_they_are bytes = bytes

bytes_spelled : (n : ℕ) → IsSpelled (bytes_at n) as_they_are (λ bytes. length bytes ≡ n)
bytes_spelled n = record {
  takes = λ l x bytes e.
      let g = guard_ok (ltb (length l.rest) n) l.at (take n l.rest, past n l) x e in
      let long : n ≤ length l.rest = ltb-false _ _ g.0 in
      let count : length (take n l.rest) ≡ n = omega (arith, length-take n l.rest) in
      subst (λ (y : List ℕ × Left). Takes l y.0 y.1 × (length y.0 ≡ n)) g.1
      (record { parts = sym (take-append-drop n l.rest); bytes = IsBytes-drop n l.rest bytes }, count);
}

bytes_again : (bytes : List ℕ) → IsRead (bytes_at (length bytes)) bytes bytes
bytes_again bytes = record {
  again = λ at rest.
      let long : ltb (length (bytes ++ rest)) (length bytes) ≡ false = le-ltb _ _ (omega (arith, length-append bytes rest)) in
      rw (long, take_at bytes rest (length bytes) refl, drop_at bytes rest (length bytes) refl) refl;
}

-- ---- values

-- a value has few bytes
pub record IsShort (value : List ℕ) : Type 0 where
  pub few : length value ≤ 4194304

pub value_spelled : IsSpelled value_at value_bytes IsShort
unfolding value_at
value_spelled = record {
  takes = λ l x bytes e.
      let count = step (allowed_spelled wide32 is_length) l (λ n. bytes_at n.0 n.1) x bytes e in
      let text = (bytes_spelled count.value).takes count.left x count.takes.bytes count.next in
      let number : Takes l (to_be_bytes w32 (length x.0)) count.left = subst (λ (n : ℕ). Takes l (to_be_bytes w32 n) count.left) (sym text.1) count.takes in
      (Takes-then l count.left x.1 _ _ number text.0, record { few = omega (arith, leb-true _ _ count.may, text.1) });
}

pub value_again : (value : List ℕ) → length value ≤ 4194304 → IsRead value_at (value_bytes value) value
unfolding value_at
value_again value few =
    IsRead-then (allowed_at w32 is_length) (λ n. bytes_at n.0 n.1) (to_be_bytes w32 (length value)) value (length value) value
    (allowed_again wide32 is_length (length value) (omega arith) (le-leb _ _ few)) (bytes_again value)
