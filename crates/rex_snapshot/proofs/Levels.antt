-- The values of semaphores: what is read is spelled so, and what is spelled is read again.
use Rattle.std.proofs.Common.{◌≡◌, ℕ, List, length, subst, arith}
use Rattle.std.specs.Prelude.{nat_le}
use Rattle.std.specs.List.{All, flat_map}
use Rattle.std.proofs.lemmas.Bool.{le-leb, leb-true}
use Rattle.rex_state.specs.Semaphores.{most_value}
use Rattle.rex_wire.proofs.Fields.{IsSpelled, IsRead}
use Rattle.rex_wire.proofs.Numbers.{wide32, allowed_spelled, allowed_again}
use Rattle.rex_wire.proofs.Lists.{AreEach-to_all, AreEach-from_all}
use Rattle.rex_snapshot.specs.Semaphores.{level_bytes, next_level_at, same_way, levels_at, IsLevel}
use Rattle.rex_snapshot.proofs.ListLaws.{list_spelled, list_again}

-- as many values, each within the limit
pub record AreLevels (n : ℕ) (levels : List ℕ) : Type 0 where
  pub bounded : All IsLevel levels
  pub long : length levels ≡ n

level_spelled : (s : Unit {0}) → IsSpelled (next_level_at s) level_bytes IsLevel
level_spelled s = record {
  takes = λ l x bytes e.
      let t = (allowed_spelled wide32 (λ n. nat_le n most_value)).takes l x bytes e in
      (t.0, leb-true x.0 most_value t.1);
}

pub levels_spelled : (n : ℕ) → IsSpelled (levels_at n) (flat_map level_bytes) (AreLevels n)
levels_spelled n = record {
  takes = λ l x bytes e.
      let t = (list_spelled next_level_at same_way level_bytes (λ _. IsLevel) level_spelled n tt).takes l x bytes e in
      (t.0, record { bounded = AreEach-to_all IsLevel tt x.0 t.1.0; long = t.1.1 });
}

pub levels_again : (n : ℕ) (levels : List ℕ) → AreLevels n levels → IsRead (levels_at n) (flat_map level_bytes levels) levels
levels_again n levels are =
    subst (λ (m : ℕ). IsRead (levels_at m) (flat_map level_bytes levels) levels) are.long
    (list_again next_level_at same_way level_bytes (λ _. IsLevel) (λ s v few. record { again = (allowed_again wide32 (λ n. nat_le n most_value) v (omega (arith, few)) (le-leb v most_value few)).again }) tt levels (AreEach-from_all IsLevel tt levels are.bounded))
