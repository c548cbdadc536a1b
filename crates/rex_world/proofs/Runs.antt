-- The report of a schedule, line by line.
use Rattle.rex_world.proofs.Common.{◌≡◌, ℕ, zero, suc, ◌≤◌, ◌+◌, ◌<◌, List, [], ◌∷◌, ◌++◌, length, get_or, drop, refl, sym, ap, subst, ◌∙◌, arith, Declarations, Request, Scenario, ScheduleLine, ModelWorld, World, IsOf, IsSame, effects_text, report_from, nodes_of, row_in, world_of}
use Rattle.std.proofs.Common.{drop-cons}

-- the items from a place on
pub drop_next : {X : Type 0} {xs same : List X} {i : ℕ} {d : X} → same ≡ xs → i < length same → d ≡ get_or same i d → drop i xs ≡ d ∷ drop (i + 1) xs
drop_next {X} {same} {i} {d} e lt is =
    subst (λ ys. drop i ys ≡ d ∷ drop (i + 1) ys) e
    (drop-cons same i d lt ∙ ap (λ x. x ∷ drop (suc i) same) (sym is) ∙ ap (λ n. d ∷ drop n same) (one_on i))
  where
    one_on : (n : ℕ) → suc n ≡ n + 1
    one_on n = omega arith

-- none are left at the end
pub drop_end : {X : Type 0} {xs same : List X} {i : ℕ} → same ≡ xs → length same ≤ i → drop i xs ≡ []
drop_end {X} {same} {i} e le = subst (λ ys. drop i ys ≡ []) e (past same i le)
  where
    past : (ys : List X) (j : ℕ) → length ys ≤ j → drop j ys ≡ []
    past [] zero h = refl
    past [] (suc j) h = refl
    past (y ∷ ys) zero h = absurd (omega arith)
    past (y ∷ ys) (suc j) h = past ys j (omega arith)

-- the world that a schedule line makes of a world
abbrev pub next_of : {S : Type 0} → Declarations → World S → ScheduleLine → ModelWorld
next_of service w line = (row_in service w line).world

-- what holds with the requests, the seed and the nodes of a world holds with those of its scenario
pub as_of : {S : Type 0} → {s : Scenario} {w : World S} (P : List Request → ℕ → ℕ → Type 0) → IsOf s w → P w.requests w.seed (nodes_of w) → P s.requests s.seed s.nodes
as_of {s} {w} P of h =
    subst (P s.requests s.seed) of.nodes (subst (λ seed. P s.requests seed (nodes_of w)) of.seed (subst (λ rs. P rs w.seed (nodes_of w)) of.requests h))

-- the report goes on with the lines of the next schedule line
pub report_next : {S : Type 0} → (service : Declarations) {s : Scenario} {w : World S} {line : ScheduleLine} {rest left : List ScheduleLine} → IsOf s w → left ≡ line ∷ rest
    → report_from service s.requests s.seed s.nodes (world_of service w) left
    ≡ effects_text service (w.done + 1) (row_in service w line).effects ++ report_from service s.requests s.seed s.nodes (next_of service w line) rest
report_next service {w} {line} {rest} {left} of l =
    as_of (λ rs seed n. report_from service rs seed n (world_of service w) left ≡ effects_text service (w.done + 1) (row_in service w line).effects ++ report_from service rs seed n (next_of service w line) rest) of
    (ap (report_from service w.requests w.seed (nodes_of w) (world_of service w)) l)

-- the same requests, seed and nodes after a line
pub still_of : {S : Type 0} → {s : Scenario} {w after : World S} → IsOf s w → IsSame w after → IsOf s after
still_of of same = record { nodes = same.nodes ∙ of.nodes; requests = same.requests ∙ of.requests; seed = same.seed ∙ of.seed }

-- one more line is done
pub done_next : {S : Type 0} → (service : Declarations) (w after : World S) (line : ScheduleLine) → world_of service after ≡ next_of service w line → after.done ≡ w.done + 1
done_next service w after line e = ap (λ x. x.done) e
