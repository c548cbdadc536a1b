-- Worlds that lead on to the same end.
use Rattle.rex_world.proofs.Common.{◌≡◌, List, ◌∷◌, sym, ap, ◌∙◌, Declarations, ScheduleLine, Scenario, after_lines, World, IsOf, nodes_of, world_of}
use Rattle.rex_world.proofs.Runs.{as_of, next_of}

-- the other lines lead on from the world that the next one makes
pub follow_next : {S : Type 0} → (service : Declarations) {s : Scenario} {w : World S} {line : ScheduleLine} {rest left : List ScheduleLine} → IsOf s w → left ≡ line ∷ rest
    → after_lines service s.requests s.seed s.nodes (world_of service w) left ≡ after_lines service s.requests s.seed s.nodes (next_of service w line) rest
follow_next service {w} {line} {rest} {left} of l =
    as_of (λ rs seed n. after_lines service rs seed n (world_of service w) left ≡ after_lines service rs seed n (next_of service w line) rest) of
    (ap (after_lines service w.requests w.seed (nodes_of w) (world_of service w)) l)

-- so they lead on from the first world
pub leads_next : {S : Type 0} → (service : Declarations) {s : Scenario} (first : World S) {w : World S} (after : World S) {line : ScheduleLine} {rest left : List ScheduleLine} → IsOf s w → left ≡ line ∷ rest → world_of service after ≡ next_of service w line
    → after_lines service s.requests s.seed s.nodes (world_of service w) left ≡ after_lines service s.requests s.seed s.nodes (world_of service first) s.schedule
    → after_lines service s.requests s.seed s.nodes (world_of service after) rest ≡ after_lines service s.requests s.seed s.nodes (world_of service first) s.schedule
leads_next service {s} first {w} after {line} {rest} {left} of l e h =
    ap (λ x. after_lines service s.requests s.seed s.nodes x rest) e ∙ sym (follow_next service of l) ∙ h
