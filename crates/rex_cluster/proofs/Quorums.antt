-- Two majorities meet.
use Rattle.std.proofs.Common.{◌≡◌, ℕ, zero, suc, ◌+◌, ◌*◌, ◌<◌, ◌≤◌, Bool, true, false, cond, ◌&&◌, refl, arith, le_refl}
use Rattle.rex_cluster.specs.Quorum.{IsNode, count, Quorum}

-- who is counted twice is in both
both : (p q : ℕ → Bool) (n : ℕ) → count p n + count q n ≤ n + count (λ m. p m && q m) n
both p q zero = omega arith
both p q (suc k) =
    let ih : count p k + count q k ≤ k + count (λ m. p m && q m) k = both p q k in
    step (p (suc k)) (q (suc k)) ih
  where
    step : (x y : Bool) → count p k + count q k ≤ k + count (λ m. p m && q m) k → cond x (suc (count p k)) (count p k) + cond y (suc (count q k)) (count q k) ≤ suc k + cond (x && y) (suc (count (λ m. p m && q m) k)) (count (λ m. p m && q m) k)
    step true true h = omega arith
    step true false h = omega arith
    step false true h = omega arith
    step false false h = omega arith

some : (p : ℕ → Bool) (n : ℕ) → 0 < count p n → (m : ℕ) × IsNode n m × (p m ≡ true)
some p zero h = absurd (omega arith)
some p (suc k) h = go (p (suc k)) refl (some p k) h
  where
    go : (x : Bool) → p (suc k) ≡ x → (0 < count p k → (m : ℕ) × IsNode k m × (p m ≡ true)) → 0 < cond x (suc (count p k)) (count p k) → (m : ℕ) × IsNode (suc k) m × (p m ≡ true)
    go true e ih h = (suc k, (omega arith, le_refl _), e)
    go false e ih h = let r = ih h in (r.0, (r.1.0, omega (arith, r.1.1)), r.2)

and_left : (x y : Bool) → x && y ≡ true → (x ≡ true) × (y ≡ true)
and_left true true h = (refl, refl)
and_left true false h = (refl, h)
and_left false true h = (h, refl)
and_left false false h = (h, h)

-- two majorities meet
pub overlap : (n : ℕ) (P Q : ℕ → Type 0) (a : Quorum n P) (b : Quorum n Q) → (m : ℕ) × IsNode n m × (a.who m ≡ true) × (b.who m ≡ true)
overlap n P Q a b =
    let big-a : n < 2 * count a.who n = a.big in
    let big-b : n < 2 * count b.who n = b.big in
    let h = both a.who b.who n in
    let r = some (λ m. a.who m && b.who m) n (omega arith) in
    let t = and_left (a.who r.0) (b.who r.0) r.2 in
    (r.0, r.1, t.0, t.1)

pub quorum_map : (n : ℕ) (P Q : ℕ → Type 0) → ((m : ℕ) → IsNode n m → P m → Q m) → Quorum n P → Quorum n Q
quorum_map n P Q f q = record { who = q.who; big = q.big; each = λ m l e. f m l (q.each m l e) }
