-- A block of events that a node is handed.
use Rattle.rex_world.proofs.Common.{◌≡◌, ℕ, ◌-◌, ◌≤◌, Bool, true, false, cond, eqb, eq-eqb, List, [], ◌∷◌, length, Result, Ok, Err, Option, Some, None, OnErr, OnOk, refl, sym, ap, subst, ◌∙◌, slice_index_or, slice_set, Vec, All, All-nil, All-head, All-tail, most_nodes, Request, Declarations, IsService, IsChecked, Event, IsNode, RequestFits, KeeperValue, Failure, is_active, begin, Here, ModelWorld, node_at, put, BeginsInRange, take_event, agreed, Value, IsKept, node_put, take_kept, Refusal, NodeValue, here_of, LeadsTo, Refuses, refusal_active, World, Member, StaysMember, armed_of, here_at, records_of, nodes_of, world_of, IsRunning}
use Rattle.rex_cluster.specs.Takes.{after_doings}
use Rattle.rex_safety.proofs.Nodes.{put_length}
use Rattle.rex_node.specs.Blocks.{take_each}
use Rattle.rex_world.specs.Taking.{IsHandedBlock, takes_at}
use Rattle.rex_world.proofs.Coming.{put_same}
use Rattle.rex_world.proofs.Given.{given_put, given_running, given_still, none_refused, take_agreed, take_is}
use Rattle.rex_world.proofs.Placed.{at_old, many_here}

-- ---- the node

-- which append will fail doesn't matter to events that are taken
armed_each : (service : Declarations) (es : List Event) (h : Here) {a : Option Failure}
    → (take_each service es (begin (let m : Here = record h { armed = a } in m))).node ≡ (let m : Here = record (take_each service es (begin h)).node { armed = a } in m)
armed_each service [] h = refl
armed_each service (e ∷ es) h {a} = armed_each service es _

module _ (service : Declarations) (past : List Value) (x y : NodeValue KeeperValue) (es : List Event) (keeper : y.keeper ≡ x.keeper) where
  leads : LeadsTo (take_each service es) (here_of records_of service past x) (here_of records_of service past y) → LeadsTo (take_each service es) (here_at service past x) (here_at service past y)
  leads h =
      ap (λ n. let m : Here = record n { armed = armed_of y.keeper.armed } in m) h
      ∙ ap (λ k. let m : Here = record (take_each service es (begin (here_of records_of service past x))).node { armed = armed_of k.armed } in m) keeper
      ∙ sym (armed_each service es _)

  pub block_handed : (outcome : Result (Unit {0}) Refusal) → Refuses (refusal_active (here_of records_of service past x)) outcome
      → OnOk outcome (LeadsTo (take_each service es) (here_of records_of service past x) (here_of records_of service past y)) → OnErr outcome (y ≡ x) → IsHandedBlock service es (here_at service past x) (here_at service past y) outcome
  block_handed (Ok t) refused takes same = record { refused = refused; takes = leads takes; same = tt }
  block_handed (Err r) refused takes same = record { refused = refused; takes = tt; same = ap (here_at service past) same }

-- ---- the world

-- of two nodes that are put at a number the second one stays
put_again : (xs : List Here) (m : ℕ) (y z : Here) → put (put xs m y) m z ≡ put xs m z
put_again [] m y z = refl
put_again (x ∷ xs) m y z = go (eqb m 1) refl (put_again xs (m - 1) y z)
  where
    go : (t : Bool) → eqb m 1 ≡ t → put (put xs (m - 1) y) (m - 1) z ≡ put xs (m - 1) z → put (cond t (y ∷ xs) (x ∷ put xs (m - 1) y)) m z ≡ cond t (z ∷ xs) (x ∷ put xs (m - 1) z)
    go true e h = ap (λ b. cond b (z ∷ xs) (y ∷ put xs (m - 1) z)) e
    go false e h = ap (λ b. cond b (z ∷ put xs (m - 1) y) (x ∷ put (put xs (m - 1) y) (m - 1) z)) e ∙ ap (λ ys. x ∷ ys) h

abbrev with_node : ModelWorld → ℕ → Here → ModelWorld
with_node w m y = record w { nodes = put w.nodes m y }

module _ (service : Declarations) (requests : List Request) (seed n m : ℕ) where
  -- an active node that is handed events is the only one that changes
  takes_are : (es : List Event) (w : ModelWorld) → IsNode (length w.nodes) m → (node_at w.nodes m).up ≡ true → is_active (node_at w.nodes m).role ≡ true
      → with_node w m (take_each service es (begin (node_at w.nodes m))).node ≡ after_doings service requests seed n w (takes_at m es)
  takes_are [] w there up active = ap (λ xs. let v : ModelWorld = record w { nodes = xs } in v) (put_same w.nodes m)
  takes_are (e ∷ es) w there up active =
      ap (λ xs. let v : ModelWorld = record w { nodes = xs } in v) (sym (put_again w.nodes m _ _))
      ∙ ap (λ h. with_node (with_node w m (take_event service e (begin (node_at w.nodes m))).node) m (take_each service es (begin h)).node) (sym at_first)
      ∙ takes_are es _ (subst (λ k. IsNode k m) (sym (put_length w.nodes m _)) there)
      (ap (λ h. h.up) at_first ∙ up) (ap (λ h. is_active h.role) at_first ∙ active)
      ∙ ap (λ v. after_doings service requests seed n v (takes_at m es)) (take_is service w m e up active)
    where
      at_first : node_at (put w.nodes m (take_event service e (begin (node_at w.nodes m))).node) m ≡ (take_event service e (begin (node_at w.nodes m))).node
      at_first =
          node_put w.nodes m _ m there
          ∙ ap (λ b. cond b (take_event service e (begin (node_at w.nodes m))).node (node_at w.nodes m)) (eq-eqb m m refl)

-- a kept world of which a node is handed events is kept
block_kept : {service : Declarations} (requests : List Request) {seed n m : ℕ} (es : List Event) {w : ModelWorld} → n ≤ most_nodes → IsService service → IsChecked service → IsNode n m → All BeginsInRange es
    → IsKept service seed n w → IsKept service seed n (after_doings service requests seed n w (takes_at m es))
block_kept requests [] few good checked there begins k = k
block_kept {service} requests {seed} {n} {m} (e ∷ es) {w} few good checked there begins k =
    block_kept requests es few good checked there (All-tail BeginsInRange e es begins) (take_kept service good checked [] (All-nil (RequestFits service)) seed n few w k m there e (All-head BeginsInRange e es begins))

takes_agreed : (service : Declarations) (requests : List Request) (seed n m : ℕ) (es : List Event) (w : ModelWorld) → agreed (after_doings service requests seed n w (takes_at m es)) ≡ agreed w
takes_agreed service requests seed n m [] w = refl
takes_agreed service requests seed n m (e ∷ es) w = takes_agreed service requests seed n m es _ ∙ take_agreed service w m e

ok_due : (due : Option Refusal) {t : Unit {0}} → Refuses due (Ok t) → due ≡ None
ok_due None h = refl
ok_due (Some r) h = absurd (cc)

module _ {S : Type 0} {service : Declarations} {w : World S} (h : IsRunning service w) {m : ℕ} (there : IsNode (nodes_of w) m) (nodes : Vec Member) {old new : Member} (old_is : old ≡ slice_index_or w.nodes.items (m - 1) old) (nodes_are : nodes.items ≡ slice_set w.nodes.items (m - 1) new)
    (stays : StaysMember service w.agreed w.seed (nodes_of w) m old new) (es : List Event) where
  abbrev later : Bool → World S
  later broken = record w { nodes = nodes; broken = broken }

  abbrev before : ModelWorld
  before = world_of service w

  abbrev Handed : Result (Unit {0}) Refusal → Type 0
  Handed outcome = IsHandedBlock service es (here_at service w.agreed old) (here_at service w.agreed new) outcome

  handed_was : {outcome : Result (Unit {0}) Refusal} → Handed outcome → IsHandedBlock service es (node_at before.nodes m) (here_at service w.agreed new) outcome
  handed_was {outcome} a = subst (λ x. IsHandedBlock service es x (here_at service w.agreed new) outcome) (sym (at_old _ there new old_is nodes_are service w.agreed)) a

  pub block_world : (broken : Bool) (outcome : Result (Unit {0}) Refusal) → Handed outcome → OnOk outcome (world_of service (later broken) ≡ after_doings service w.requests w.seed (nodes_of w) before (takes_at m es))
  block_world broken (Err r) a = tt
  block_world broken (Ok t) a =
      let c = handed_was a in
      let n = none_refused (node_at before.nodes m) (ok_due _ c.refused) in
      given_put h there nodes old_is nodes_are stays broken c.takes
      ∙ takes_are service _ w.seed _ m es before (subst (λ k. IsNode k m) (sym (many_here service w.agreed _)) there) n.0 n.1

  block_unchanged : (broken : Bool) (outcome : Result (Unit {0}) Refusal) → Handed outcome → OnErr outcome (world_of service (later broken) ≡ before)
  block_unchanged broken (Ok t) a = tt
  block_unchanged broken (Err r) a = given_still h there nodes old_is nodes_are stays broken a.same

  pub block_running : All BeginsInRange es → (outcome : Result (Unit {0}) Refusal) → Handed outcome → IsRunning service (later w.broken)
  block_running begins (Ok t) a =
      given_running h there nodes old_is nodes_are stays
      (subst (IsKept service w.seed (nodes_of w)) (sym (block_world w.broken (Ok t) a)) (block_kept _ es h.few h.service_is h.checked there begins h.kept))
      (h.agreed ∙ sym (takes_agreed service _ w.seed _ m es before) ∙ ap agreed (sym (block_world w.broken (Ok t) a)))
  block_running begins (Err r) a =
      given_running h there nodes old_is nodes_are stays (subst (IsKept service w.seed (nodes_of w)) (sym (block_unchanged w.broken (Err r) a)) h.kept)
      (h.agreed ∙ ap agreed (sym (block_unchanged w.broken (Err r) a)))
