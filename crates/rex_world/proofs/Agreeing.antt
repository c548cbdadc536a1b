-- What is agreed on by nodes.
use Rattle.rex_world.proofs.Common.{◌≡◌, ℕ, zero, suc, ◌-◌, ◌<◌, ◌≤◌, Bool, true, false, cond, eqb, List, [], ◌∷◌, length, refl, ap, subst, ◌∙◌, arith, nat_lt, if◌then◌else◌, Declarations, known, Value, Here, agreed, longer_of, longest, node_at, put, World, IsRunning, world_of}
use Rattle.rex_cluster.specs.Quorum.{IsNode}
use Rattle.rex_world.proofs.Placed.{later_at}

-- one with the same records changes nothing
pub same_longest : (xs : List Here) (m : ℕ) (y : Here) → y.log ≡ (node_at xs m).log → longest (put xs m y) ≡ longest xs
same_longest [] m y e = refl
same_longest (x ∷ xs) m y e = go (eqb m 1) refl (same_longest xs (m - 1) y)
  where
    log_at : (t : Bool) → eqb m 1 ≡ t → y.log ≡ (cond t x (node_at xs (m - 1))).log
    log_at t f = e ∙ ap (λ b. (cond b x (node_at xs (m - 1))).log) f

    go : (t : Bool) → eqb m 1 ≡ t → (y.log ≡ (node_at xs (m - 1)).log → longest (put xs (m - 1) y) ≡ longest xs) → longest (cond t (y ∷ xs) (x ∷ put xs (m - 1) y)) ≡ longer_of (known x.log) (longest xs)
    go true f h = ap (λ log. longer_of (known log) (longest xs)) (log_at true f)
    go false f h = ap (longer_of (known x.log)) (h (log_at false f))

-- what holds of no values and of what each node knows, holds of the longest list
pub holds_of_longest : (P : List Value → Type 0) (xs : List Here) → P [] → ((m : ℕ) → IsNode (length xs) m → P (known (node_at xs m).log)) → P (longest xs)
holds_of_longest P [] none each = none
holds_of_longest P (x ∷ xs) none each = either (nat_lt (length (known x.log)) (length (longest xs))) (each 1 (omega arith, omega arith)) (holds_of_longest P xs none later)
  where
    later : (m : ℕ) → IsNode (length xs) m → P (known (node_at xs m).log)
    later zero there = absurd (let l : 0 < 0 = there.0 in omega (arith, l))
    later (suc i) there = subst (λ y. P (known y.log)) (later_at x xs i) (each (suc (suc i)) (omega arith, omega (arith, there.1)))

    either : (t : Bool) → P (known x.log) → P (longest xs) → P (if t then longest xs else known x.log)
    either true a b = b
    either false a b = a

-- no more values are agreed on than there are instances
pub agreed_few : {S : Type 0} → {service : Declarations} {w : World S} → IsRunning service w → length (agreed (world_of service w)) ≤ 65535
agreed_few {service} {w} h =
    holds_of_longest (λ vs. length vs ≤ 65535) _ (omega arith)
    (λ m there. (h.kept.numbers.nodes m (subst (λ n. IsNode n m) h.kept.world.many there)).log.few)
