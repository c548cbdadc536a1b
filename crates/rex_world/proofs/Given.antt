-- An event that a node is handed.
use Rattle.rex_world.proofs.Common.{◌≡◌, ℕ, ◌-◌, ◌≤◌, Bool, true, false, [], length, Result, Ok, Err, Option, Some, None, IfOk, OnErr, OnOk, refl, sym, ap, subst, ◌∙◌, append-nil, slice_index_or, slice_set, if◌then◌else◌, Vec, All-nil, most_nodes, Declarations, Event, IsNode, RequestFits, Lead, Role, is_active, role_name, Follower, Leads, begin, Value, Here, active_only, ModelWorld, after, if_up, node_at, put, BeginsInRange, take_event, agreed, IsKept, take_kept, Refusal, Refuses, refusal_active, World, Member, AreMembers, StaysMember, here_at, nodes_of, world_of, IsRunning, IsSame}
use Rattle.std.proofs.lemmas.Result.{on_err_weaker}
use Rattle.rex_record.specs.declared.turns.Turn.{Turn}
use Rattle.rex_cluster.specs.Takes.{take, taken, taken_in}
use Rattle.rex_safety.specs.Doings.{TakesAreKept}
use Rattle.rex_node.specs.declared.refusal.Refusal.TheVariants as why
use Rattle.rex_node.specs.Calls as calls
use Rattle.rex_node.specs.Calls.{if_active}
use Rattle.rex_world.specs.Calls.{IsWhole}
use Rattle.rex_world.specs.Taking.{IsHanded, WasHanded}
use Rattle.rex_world.proofs.Agreeing.{same_longest}
use Rattle.rex_world.proofs.Coming.{same_world, put_same}
use Rattle.rex_world.proofs.Placed.{all_stay, at_old, many_are, now_put}

takes_kept : TakesAreKept
takes_kept service seed n w m e few good checked there begins k = take_kept service good checked [] (All-nil (RequestFits service)) seed n few w k m there e begins

-- a node that isn't refused is up and active
pub none_refused : (h : Here) → refusal_active h ≡ None → (h.up ≡ true) × (is_active h.role ≡ true)
none_refused h none = by h.up h.role none
  where
    by_lead : (l : Lead Value) (b : Bool) → (if b then None else Some (why.NotActive (role_name (Leads l)))) ≡ None → b ≡ true
    by_lead l true none = refl
    by_lead l false none = absurd (cc)

    by : (up : Bool) (role : Role Value) → calls.if_up up (if_active role None) ≡ None → (up ≡ true) × (is_active role ≡ true)
    by false role none = absurd (cc)
    by true Follower none = absurd (cc)
    by true (Leads l) none = (refl, by_lead l l.active none)

ok_none : (due : Option Refusal) (t : Turn) → Refuses due (Ok t) → due ≡ None
ok_none None t h = refl
ok_none (Some r) t h = absurd (cc)

module _ (service : Declarations) (w : ModelWorld) (m : ℕ) (e : Event) where
  -- an active node that is handed an event is the only one that changes
  pub take_is : (node_at w.nodes m).up ≡ true → is_active (node_at w.nodes m).role ≡ true
      → (let v : ModelWorld = record w { nodes = put w.nodes m (taken (taken_in service (node_at w.nodes m) e) (begin (node_at w.nodes m))).node } in v) ≡ take service w m e
  take_is up active =
      same_world
      refl refl (sym (append-nil w.messages)) (sym (append-nil w.handed)) refl
      ∙ sym (ap (λ t. (after w m (active_only t (begin (node_at w.nodes m)) (take_event service e (begin (node_at w.nodes m))))).world) active)
      ∙ sym (ap (λ t. (if_up t w m (active_only (is_active (node_at w.nodes m).role) (begin (node_at w.nodes m)) (take_event service e (begin (node_at w.nodes m))))).world) up)

-- nothing that a node knows changes when it is handed an event
pub take_agreed : (service : Declarations) (w : ModelWorld) (m : ℕ) (e : Event) → agreed (take service w m e) ≡ agreed w
take_agreed service w m e = by_up (node_at w.nodes m).up
  where
    x : Here
    x = node_at w.nodes m

    same_log : (t : Bool) → (active_only t (begin x) (take_event service e (begin x))).node.log ≡ x.log
    same_log true = refl
    same_log false = refl

    by_up : (up : Bool) → agreed (if_up up w m (active_only (is_active (node_at w.nodes m).role) (begin (node_at w.nodes m)) (take_event service e (begin (node_at w.nodes m))))).world ≡ agreed w
    by_up true = same_longest w.nodes m _ (same_log (is_active (node_at w.nodes m).role))
    by_up false = refl

module _ {S : Type 0} {service : Declarations} {w : World S} (h : IsRunning service w) {m : ℕ} (there : IsNode (nodes_of w) m) (nodes : Vec Member) {old new : Member} (old_is : old ≡ slice_index_or w.nodes.items (m - 1) old) (nodes_are : nodes.items ≡ slice_set w.nodes.items (m - 1) new)
    (stays : StaysMember service w.agreed w.seed (nodes_of w) m old new) where
  abbrev pub later : Bool → World S
  later broken = record w { nodes = nodes; broken = broken }

  abbrev before : ModelWorld
  before = world_of service w

  was : node_at before.nodes m ≡ here_at service w.agreed old
  was = at_old _ there new old_is nodes_are service w.agreed

  many : length nodes.items ≡ nodes_of w
  many = many_are _ there new old_is nodes_are

  given_same : {broken : Bool} → IsSame w (later broken)
  given_same = record { nodes = many; requests = refl; seed = refl }

  -- only this node is another one
  pub given_put : (broken : Bool) {y : Here} → here_at service w.agreed new ≡ y → (let v : ModelWorld = record before { nodes = put before.nodes m y } in world_of service (later broken) ≡ v)
  given_put broken e =
      ap (λ xs. let v : ModelWorld = record before { nodes = xs } in v) (now_put _ there new old_is nodes_are service w.agreed ∙ ap (put before.nodes m) e)

  -- it is as it was
  pub given_still : (broken : Bool) → here_at service w.agreed new ≡ here_at service w.agreed old → world_of service (later broken) ≡ before
  given_still broken e =
      given_put broken (e ∙ sym was)
      ∙ ap (λ xs. let v : ModelWorld = record before { nodes = xs } in v) (put_same _ m)

  -- where the model's world is kept, and what is agreed on stays, the world runs
  pub given_running : IsKept service w.seed (nodes_of w) (world_of service (later w.broken)) → w.agreed ≡ agreed (world_of service (later w.broken)) → IsRunning service (later w.broken)
  given_running kept agreed_is =
      let all = all_stay _ there new old_is nodes_are service w.agreed w.seed _ stays (record { members = h.members; within = h.within }) in
      record {
        service_is = h.service_is;
        checked = h.checked;
        whole = h.whole;
        few = subst (λ n. n ≤ most_nodes) (sym many) h.few;
        agreed = agreed_is;
        kept = subst (λ n. IsKept service w.seed n (world_of service (later w.broken))) (sym many) kept;
        members = subst (λ n. AreMembers service w.agreed w.seed n 1 nodes.items) (sym many) all.members;
        within = all.within;
        spelled = h.spelled;
        told = h.told;
        requests = h.requests;
        flushed = h.flushed;
        handed = h.handed;
        clients = h.clients;
      }

  -- however the node answered, the world is left so
  pub given_left : {A : Type 0} (outcome : Result A Refusal) {broken : Bool} → Refuses (refusal_active (here_at service w.agreed old)) outcome → OnErr outcome (here_at service w.agreed new ≡ here_at service w.agreed old)
      → (IsWhole outcome → broken ≡ w.broken) → (outcome ≡ Err why.OutOfMemory → broken ≡ true) → IsRunning service (later w.broken) → WasHanded service w (later broken) m outcome
  given_left outcome {broken} refused still whole short running = record {
    refused = subst (λ x. Refuses (refusal_active x) outcome) (sym was) refused;
    unchanged = on_err_weaker outcome (given_still broken) still;
    running = λ h. subst (λ b. IsRunning service (later b)) (sym (whole h)) running;
    same = given_same;
    done = refl;
    broken = short;
  }

  module _ (e : Event) where
    abbrev Handed : Result Turn Refusal → Type 0
    Handed outcome = IsHanded service e (here_at service w.agreed old) (here_at service w.agreed new) outcome

    handed_was : {outcome : Result Turn Refusal} → Handed outcome → IsHanded service e (node_at before.nodes m) (here_at service w.agreed new) outcome
    handed_was {outcome} a = subst (λ x. IsHanded service e x (here_at service w.agreed new) outcome) (sym was) a

    pub given_told : {outcome : Result Turn Refusal} → Handed outcome → IfOk outcome (λ (t : Turn). t ≡ taken_in service (node_at before.nodes m) e)
    given_told {outcome} a = (handed_was a).told

    pub given_world : (broken : Bool) (outcome : Result Turn Refusal) → Handed outcome → OnOk outcome (world_of service (later broken) ≡ take service before m e)
    given_world broken (Err r) a = tt
    given_world broken (Ok t) a =
        let b = handed_was a in
        let n = none_refused (node_at before.nodes m) (ok_none _ t b.refused) in
        given_put broken (b.takes ∙ ap (λ u. (taken u (begin (node_at before.nodes m))).node) b.told)
        ∙ take_is service before m e n.0 n.1

    given_unchanged : (broken : Bool) (outcome : Result Turn Refusal) → Handed outcome → OnErr outcome (world_of service (later broken) ≡ before)
    given_unchanged broken (Ok t) a = tt
    given_unchanged broken (Err r) a = given_still broken a.same

    pub taken_running : BeginsInRange e → (outcome : Result Turn Refusal) → Handed outcome → IsRunning service (later w.broken)
    taken_running begins (Ok t) a =
        given_running
        (subst (IsKept service w.seed (nodes_of w)) (sym (given_world w.broken (Ok t) a)) (takes_kept service w.seed (nodes_of w) before m e h.few h.service_is h.checked there begins h.kept))
        (h.agreed ∙ sym (take_agreed service before m e) ∙ ap agreed (sym (given_world w.broken (Ok t) a)))
    taken_running begins (Err r) a =
        given_running (subst (IsKept service w.seed (nodes_of w)) (sym (given_unchanged w.broken (Err r) a)) h.kept)
        (h.agreed ∙ ap agreed (sym (given_unchanged w.broken (Err r) a)))
