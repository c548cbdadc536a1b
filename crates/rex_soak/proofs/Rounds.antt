-- The rounds of the schedule.
use Rattle.std.proofs.Common.{ℕ, suc, zero, ◌+◌, ◌*◌, ◌-◌, ◌%◌, ◌≤◌, Bool, true, false, List, length, arith}
use Rattle.std.specs.Prelude.{codes, if◌then◌else◌, ◌==◌}
use Rattle.rand_pcg.specs.Lcg.{Lcg}
use Rattle.rand_pcg.specs.Pcg.{pcg32}
use Rattle.rex_syntax.specs.declared.request.Request.{Request}
use Rattle.rex_gen.specs.Scenario.{drawn, drawn_lanes, lane_pairs, next_node, disturbance, work, proposal, repeats, round_text, leader_after, dice_after, rounds}
use Rattle.rex_soak.proofs.Steps.{Adds, adds_none, adds_both, adds_fewer, adds_if}
use Rattle.rex_soak.proofs.Orders.{IsNode, elect, cut, replay, checkpoint, stop, start, adds_order, adds_flush, adds_deliver, adds_submit, adds_lane}

-- ---- nodes

next_is_node : (n : ℕ) → IsNode (next_node n)
next_is_node n = (omega arith, omega arith)

either_is_node : (b : Bool) (x y : ℕ) → IsNode x → IsNode y → IsNode (if b then x else y)
either_is_node true x y p q = p
either_is_node false x y p q = q

leader_is_node : (r : ℕ) → IsNode (leader_after r)
leader_is_node zero = (omega arith, omega arith)
leader_is_node (suc r) = either_is_node ((r + 1) % 10 == 0) (next_node (leader_after r)) (leader_after r) (next_is_node (leader_after r)) (leader_is_node r)

-- ---- lanes

adds_drawn : (seed : ℕ) (requests : List Request) (leader : ℕ) (dice : Lcg) (n : ℕ) → IsNode leader → Adds seed requests (drawn_lanes leader dice n) n
unfolding drawn_lanes
adds_drawn seed requests leader dice zero h = adds_none seed requests
adds_drawn seed requests leader dice (suc n) h =
    let word = (pcg32 (drawn dice n)).0 in
    adds_fewer seed requests _ (n + 1) (suc n) (omega arith)
    (adds_both seed requests _ _ n 1 (adds_drawn seed requests leader dice n h) (adds_lane seed requests leader (word % 2 + 1) h (omega arith) (omega arith)))

adds_pairs : (seed : ℕ) (requests : List Request) (leader n : ℕ) → IsNode leader → Adds seed requests (lane_pairs leader n) (2 * n)
unfolding lane_pairs
adds_pairs seed requests leader zero h = adds_none seed requests
adds_pairs seed requests leader (suc n) h =
    adds_fewer seed requests _ (2 * n + (1 + 1)) (2 * suc n) (omega arith)
    (adds_both seed requests _ _ (2 * n) (1 + 1) (adds_pairs seed requests leader n h)
    (adds_both seed requests _ _ 1 1 (adds_lane seed requests leader 1 h (omega arith) (omega arith)) (adds_lane seed requests leader 2 h (omega arith) (omega arith))))

-- ---- a round

adds_work : (seed : ℕ) (requests : List Request) (round leader : ℕ) (dice : Lcg) → IsNode leader → 1 ≤ round → round ≤ 1000 → 2 * round ≤ length requests → Adds seed requests (work round leader dice) 30
adds_work seed requests round leader dice h low high there =
    adds_both seed requests _ _ 1 29 (adds_submit seed requests leader (2 * round - 1) h (omega arith) (omega arith) (omega arith))
    (adds_both seed requests _ _ 1 28 (adds_submit seed requests leader (2 * round) h (omega arith) there (omega arith))
    (adds_both seed requests _ _ 12 16 (adds_drawn seed requests leader dice 12 h) (adds_pairs seed requests leader 8 h)))

adds_two_flushes : (seed : ℕ) (requests : List Request) → Adds seed requests (codes "flush\nflush\n") 2
adds_two_flushes seed requests = adds_both seed requests (codes "flush\n") (codes "flush\n") 1 1 (adds_flush seed requests) (adds_flush seed requests)

adds_proposal : (seed : ℕ) (requests : List Request) (leader : ℕ) → IsNode leader → Adds seed requests (proposal leader) 4
adds_proposal seed requests leader h =
    adds_both seed requests _ _ 1 3 (adds_order seed requests (codes "cut") leader cut h) (adds_both seed requests (codes "flush\n") (codes "flush\nflush\n") 1 2 (adds_flush seed requests) (adds_two_flushes seed requests))

adds_repeats : (seed : ℕ) (requests : List Request) (round leader : ℕ) → IsNode leader → 1 ≤ round → round ≤ 1000 → 2 * round ≤ length requests → Adds seed requests (repeats round leader) 3
adds_repeats seed requests round leader h low high there =
    adds_both seed requests _ _ 1 2 (adds_submit seed requests leader (2 * round) h (omega arith) there (omega arith))
    (adds_both seed requests _ _ 1 1 (adds_deliver seed requests round low (omega arith)) (adds_order seed requests (codes "replay") (next_node leader) replay (next_is_node leader)))

adds_disturbance : (seed : ℕ) (requests : List Request) (round node : ℕ) → IsNode node → Adds seed requests (disturbance round node) 3
adds_disturbance seed requests round node h =
    adds_if seed requests (round % 10 == 3) _ _ 3 (adds_fewer seed requests _ 1 3 (omega arith) (adds_order seed requests (codes "checkpoint") node checkpoint h))
    (adds_if seed requests (round % 10 == 5) _ _ 3 (adds_fewer seed requests _ 2 3 (omega arith) (adds_both seed requests _ _ 1 1 (adds_order seed requests (codes "stop") node stop h) (adds_order seed requests (codes "start") node start h)))
    (adds_if seed requests (round % 10 == 0) _ _ 3 (adds_both seed requests _ _ 1 2 (adds_order seed requests (codes "elect") node elect h) (adds_two_flushes seed requests))
    (adds_fewer seed requests _ 0 3 (omega arith) (adds_none seed requests))))

adds_round : (seed : ℕ) (requests : List Request) (round leader : ℕ) (dice : Lcg) → IsNode leader → 1 ≤ round → round ≤ 1000 → 2 * round ≤ length requests → Adds seed requests (round_text round leader dice) 40
adds_round seed requests round leader dice h low high there =
    adds_both seed requests _ _ 30 10 (adds_work seed requests round leader dice h low high there)
    (adds_both seed requests _ _ 4 6 (adds_proposal seed requests leader h)
    (adds_both seed requests _ _ 3 3 (adds_repeats seed requests round leader h low high there) (adds_disturbance seed requests round (next_node leader) (next_is_node leader))))

-- ---- all rounds

-- where there are two requests a round, so many rounds add at most 40 lines each
pub adds_rounds : (seed : ℕ) (requests : List Request) (r : ℕ) → r ≤ 1000 → 2 * r ≤ length requests → Adds seed requests (rounds seed r) (40 * r)
adds_rounds seed requests zero high there = adds_none seed requests
adds_rounds seed requests (suc r) high there =
    adds_fewer seed requests _ (40 * r + 40) (40 * suc r) (omega arith)
    (adds_both seed requests _ _ (40 * r) 40 (adds_rounds seed requests r (omega arith) (omega arith))
    (adds_round seed requests (r + 1) (leader_after r) (dice_after seed r) (leader_is_node r) (omega arith) (omega arith) (omega arith)))
