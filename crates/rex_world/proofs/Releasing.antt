-- The releases of a schedule, line by line.
use Rattle.rex_world.proofs.Common.{◌≡◌, List, [], ◌∷◌, ◌++◌, sym, ap, ◌∙◌, append-nil, append_assoc, filter, Declarations, Effect, Scenario, ScheduleLine, World, IsOf, is_release, releases_from, nodes_of, row_in, world_of}
use Rattle.std.proofs.lemmas.List.Elements.{filter-append}
use Rattle.rex_cluster.specs.World.{effects_of}
use Rattle.rex_world.proofs.Runs.{as_of, next_of}

-- what the next line reports
abbrev pub told_of : {S : Type 0} → Declarations → World S → ScheduleLine → List Effect
told_of service w line = (row_in service w line).effects

-- the releases of the next line come first, and then those of the other lines
releases_next : {S : Type 0} → (service : Declarations) {s : Scenario} {w : World S} {line : ScheduleLine} {rest left : List ScheduleLine} → IsOf s w → left ≡ line ∷ rest
    → releases_from service s (world_of service w) left ≡ filter is_release (told_of service w line) ++ releases_from service s (next_of service w line) rest
releases_next service {w} {line} {rest} {left} of l =
    as_of (λ rs seed n. filter is_release (effects_of service rs seed n (world_of service w) left) ≡ filter is_release (told_of service w line) ++ filter is_release (effects_of service rs seed n (next_of service w line) rest)) of
    (ap (λ ls. filter is_release (effects_of service w.requests w.seed (nodes_of w) (world_of service w) ls)) l
    ∙ filter-append is_release (told_of service w line) (effects_of service w.requests w.seed (nodes_of w) (next_of service w line) rest))

-- with the releases of one line more
pub releases_more : {S : Type 0} → (service : Declarations) {s : Scenario} {w : World S} (after : World S) {line : ScheduleLine} {rest left : List ScheduleLine} (had : List Effect) {now told whole : List Effect} → IsOf s w → left ≡ line ∷ rest
    → world_of service after ≡ next_of service w line → told ≡ told_of service w line → now ≡ had ++ filter is_release told
    → had ++ releases_from service s (world_of service w) left ≡ whole → now ++ releases_from service s (world_of service after) rest ≡ whole
releases_more service {s} {w} after {line} {rest} {left} had of l world told_is now_is before =
    ap (λ es. es ++ releases_from service s (world_of service after) rest) (now_is ∙ ap (λ es. had ++ filter is_release es) told_is)
    ∙ ap (λ x. (had ++ filter is_release (told_of service w line)) ++ releases_from service s x rest) world
    ∙ append_assoc had (filter is_release (told_of service w line)) (releases_from service s (next_of service w line) rest)
    ∙ ap (λ es. had ++ es) (sym (releases_next service of l))
    ∙ before

-- none are left at the end
pub releases_all : {S : Type 0} → (service : Declarations) (s : Scenario) (w : World S) {left : List ScheduleLine} {had whole : List Effect} → left ≡ [] → had ++ releases_from service s (world_of service w) left ≡ whole → had ≡ whole
releases_all service s w {had} none before =
    sym (append-nil had) ∙ ap (λ ls. had ++ releases_from service s (world_of service w) ls) (sym none) ∙ before
