-- One doing after the other.
use Rattle.std.proofs.Common.{◌≡◌, ℕ, suc, ◌+◌, ◌≤◌, Bool, true, false, cond, List, [], ◌∷◌, ◌++◌, Option, refl, sym, ◌∙◌, ap, subst, arith, append_assoc, append-nil}
use Rattle.std.specs.Prelude.{Some, None, Result, Ok, Err, OnOk, OnErr, if◌then◌else◌}
use Rattle.std.proofs.lemmas.Bool.{ne_eqb, false≢true}
use Rattle.rex_syntax.specs.declared.request.Request.{Request}
use Rattle.rex_syntax.specs.declared.service.Declarations.{Declarations}
use Rattle.rex_event.specs.declared.event.Event.{Event}
use Rattle.rex_schedule.specs.declared.scenario.ScheduleLine.TheVariants.{Replay}
use Rattle.rex_cluster.specs.Node.{Message, Role, is_active, role_name}
use Rattle.rex_cluster.specs.Node.Role.{Follower, Leads}
use Rattle.rex_cluster.specs.Calls.{begin}
use Rattle.rex_cluster.specs.Values.{Value}
use Rattle.rex_cluster.specs.Lanes.{Here, active_only}
use Rattle.rex_cluster.specs.World.{World as ModelWorld, node_at, put, if_up}
use Rattle.rex_cluster.specs.Takes.{Doing, take_event, take as take_in, does, after_doings}
use Rattle.rex_cluster.specs.Takes.Doing.{Does, Takes}
use Rattle.rex_node.specs.Calls as calls
use Rattle.rex_node.specs.Calls.{Refuses, refusal_active, if_active}
use Rattle.rex_node.specs.declared.refusal.Refusal.{Refusal}
use Rattle.rex_node.specs.declared.refusal.Refusal.TheVariants as why
use Rattle.rex_steady.specs.Schedule.{takes, agreement, agreements, replays}
use Rattle.rex_world.specs.declared.world.World.{World}
use Rattle.rex_world.specs.Taking.{WasHanded, takes_at}
use Rattle.rex_world.specs.Calls.{IsWhole}
use Rattle.rex_world.specs.World.{nodes_of, world_of}
use Rattle.rex_world.specs.Kept.{IsRunning}
use Rattle.rex_lead.specs.Doing.{Did}

-- ---- lists of doings

pub agreements_next : (blocks : List (List Event)) (block : List Event) → agreements (blocks ++ block ∷ []) ≡ agreements blocks ++ (takes block ++ agreement)
agreements_next [] block = ap (λ (xs : List Doing). takes block ++ xs) (append-nil agreement)
agreements_next (b ∷ blocks) block =
    ap (λ (xs : List Doing). takes b ++ (agreement ++ xs)) (agreements_next blocks block)
    ∙ sym (append_assoc (takes b) (agreement ++ agreements blocks) (takes block ++ agreement))

pub replays_next : (k : ℕ) → 1 ≤ k → replays (k + 1) ≡ replays k ++ Does (Replay (k + 1)) ∷ []
replays_next k some = subst (λ (m : ℕ). replays m ≡ replays k ++ Does (Replay m) ∷ []) e (ap (λ (t : Bool). cond t [] (replays k ++ Does (Replay (suc k)) ∷ [])) (ne_eqb (suc k) 1 (λ d. omega (arith, d, some))))
  where
    e : suc k ≡ k + 1
    e = omega arith

-- ---- what a world did

module _ (service : Declarations) where
  pub after_both : (requests : List Request) (seed n : ℕ) (w : ModelWorld) (xs ys : List Doing) → after_doings service requests seed n w (xs ++ ys) ≡ after_doings service requests seed n (after_doings service requests seed n w xs) ys
  after_both requests seed n w [] ys = refl
  after_both requests seed n w (x ∷ xs) ys = after_both requests seed n (does service requests seed n w x) xs ys

  -- a world did some doings, and then others
  pub did_both : {S : Type 0} → (u v w : World S) (xs ys : List Doing) → Did service u v xs → Did service v w ys → Did service u w (xs ++ ys)
  did_both u v w xs ys h k = record {
    world =
        k.world
        ∙ (ap (λ (r : List Request). after_doings service r v.seed (nodes_of v) (world_of service v) ys) h.same.requests
        ∙ (ap (λ (s : ℕ). after_doings service u.requests s (nodes_of v) (world_of service v) ys) h.same.seed
        ∙ (ap (λ (n : ℕ). after_doings service u.requests u.seed n (world_of service v) ys) h.same.nodes
        ∙ (ap (λ (m : ModelWorld). after_doings service u.requests u.seed (nodes_of u) m ys) h.world
        ∙ sym (after_both u.requests u.seed (nodes_of u) (world_of service u) xs ys)))));
    running = k.running;
    same = record { nodes = k.same.nodes ∙ h.same.nodes; requests = k.same.requests ∙ h.same.requests; seed = k.same.seed ∙ h.same.seed };
  }

  -- a world that did nothing
  pub did_none : {S : Type 0} → (u : World S) → IsRunning service u → Did service u u []
  did_none u running = record { world = refl; running = running; same = record { nodes = refl; requests = refl; seed = refl } }

  pub did_as : {S : Type 0} → (u w : World S) (xs ys : List Doing) → xs ≡ ys → Did service u w xs → Did service u w ys
  did_as u w xs ys e h = subst (Did service u w) e h

-- ---- an event that node 1 is handed

put_own : (nodes : List Here) → put nodes 1 (node_at nodes 1) ≡ nodes
put_own [] = refl
put_own (x ∷ nodes) = refl

module _ (service : Declarations) (w : ModelWorld) (e : Event) where
  abbrev after_take : Bool → Bool → ModelWorld
  after_take up active = (if_up up w 1 (active_only active (begin (node_at w.nodes 1)) (take_event service e (begin (node_at w.nodes 1))))).world

  idle : after_take true false ≡ w
  idle =
      ap (λ (nodes : List Here). record w { nodes = nodes; messages = w.messages ++ []; handed = w.handed ++ [] }) (put_own w.nodes)
      ∙ (ap (λ (messages : List (Message Value)). record w { messages = messages; handed = w.handed ++ [] }) (append-nil w.messages)
      ∙ ap (λ (handed : List Bool). record w { handed = handed }) (append-nil w.handed))

  refused_by : (up : Bool) (role : Role Value) (r : Refusal) → calls.if_up up (if_active role None) ≡ Some r → after_take up (is_active role) ≡ w
  refused_by false role r h = refl
  refused_by true Follower r h = idle
  refused_by true (Leads l) r h = go l.active h
    where
      go : (active : Bool) → (if active then None else Some (why.NotActive (role_name (Leads l)))) ≡ Some r → after_take true active ≡ w
      go true h = absurd (cc)
      go false h = idle

  -- where it is refused the model's world is as it was
  refused : (r : Refusal) → refusal_active (node_at w.nodes 1) ≡ Some r → take_in service w 1 e ≡ w
  refused r h = refused_by (node_at w.nodes 1).up (node_at w.nodes 1).role r h

-- so it is after a block
refused_all : (service : Declarations) (requests : List Request) (seed n : ℕ) (w : ModelWorld) (r : Refusal) (es : List Event) → refusal_active (node_at w.nodes 1) ≡ Some r → after_doings service requests seed n w (takes es) ≡ w
refused_all service requests seed n w r [] h = refl
refused_all service requests seed n w r (e ∷ es) h =
    ap (λ (v : ModelWorld). after_doings service requests seed n v (takes es)) (refused service w e r h) ∙ refused_all service requests seed n w r es h

takes_are : (es : List Event) → takes_at 1 es ≡ takes es
takes_are [] = refl
takes_are (e ∷ es) = ap (λ (xs : List Doing). Takes 1 e ∷ xs) (takes_are es)

-- a result that isn't want of memory
whole_of : (result : Result (Unit {0}) Refusal) → (result ≡ Err why.OutOfMemory → ⊥) → IsWhole result
whole_of (Ok t) h = tt
whole_of (Err why.OutOfMemory) h = h refl
whole_of (Err why.Down) h = tt
whole_of (Err (why.NotActive role)) h = tt
whole_of (Err (why.Open instance)) h = tt
whole_of (Err why.Ended) h = tt
whole_of (Err why.Nothing) h = tt
whole_of (Err (why.Live events)) h = tt
whole_of (Err why.UpToDate) h = tt
whole_of (Err why.Spent) h = tt
whole_of (Err (why.BadSnapshot at)) h = tt

module _ {S : Type 0} (service : Declarations) (before after : World S) (es : List Event) where
  -- the world to which the model's takes lead
  abbrev taken_world : ModelWorld
  taken_world = after_doings service before.requests before.seed (nodes_of before) (world_of service before) (takes es)

  -- where memory was not short it is that
  handed : (result : Result (Unit {0}) Refusal) → IsWhole result → Refuses (refusal_active (node_at (world_of service before).nodes 1)) result
      → OnOk result (world_of service after ≡ taken_world) → OnErr result (world_of service after ≡ world_of service before) → world_of service after ≡ taken_world
  handed (Ok t) whole refuses ok err = ok
  handed (Err r) whole refuses ok err = go (refusal_active (node_at (world_of service before).nodes 1)) refl refuses
    where
      go : (due : Option Refusal) → refusal_active (node_at (world_of service before).nodes 1) ≡ due → Refuses {A = Unit {0}} due (Err r) → world_of service after ≡ taken_world
      go (Some q) h k = err ∙ sym (refused_all service before.requests before.seed (nodes_of before) (world_of service before) q es h)
      go None h k = absurd (subst (λ (q : Refusal). IsWhole {A = Unit {0}} (Err q)) k whole)

  -- a world that isn't broken took the events as the model does
  pub took : (result : Result (Unit {0}) Refusal) → after.broken ≡ false → WasHanded service before after 1 result
      → OnOk result (world_of service after ≡ after_doings service before.requests before.seed (nodes_of before) (world_of service before) (takes_at 1 es)) → Did service before after (takes es)
  took result sound was ok =
      let whole : IsWhole result = whole_of result (λ h. false≢true (sym sound ∙ was.broken h)) in
      record {
        world = handed result whole was.refused (subst (λ (xs : List Doing). OnOk result (world_of service after ≡ after_doings service before.requests before.seed (nodes_of before) (world_of service before) xs)) (takes_are es) ok) was.unchanged;
        running = was.running whole;
        same = was.same;
      }
