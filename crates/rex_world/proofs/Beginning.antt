-- A world before the first line.
use Rattle.rex_world.proofs.Common.{◌≡◌, ℕ, zero, suc, ◌+◌, ◌≤◌, Bool, true, false, List, [], ◌∷◌, ◌++◌, length, take, refl, sym, ◌∙◌, ap, subst, arith, add-zero, length-append, ◌&&◌, replicate_next, All, list_all, All-nil, most_nodes, Declarations, IsService, IsChecked, RequestFits, Scenario, Message, Value, Here, ModelWorld, beginning, agreed, longer_of, longest, IsKept, World, Member, AreMembers, AreWithin, IsFresh, IsMember, faults_of, here_at, heres, IsSpelled, TellsRightly, messages_of, world_of, IsRunning, AreFresh, AreNew}
use Rattle.std.proofs.Common.{replicate}
use Rattle.std.proofs.lemmas.Bool.{leb-true}
use Rattle.std.proofs.lemmas.List.Elements.{All-push}
use Rattle.rex_schedule.specs.Counts.{is_node_count}
use Rattle.rex_schedule.specs.Fits.{ScenarioFits}
use Rattle.rex_cluster.specs.Node.{new_node}
use Rattle.rex_traits.specs.Stores.{StoreValue, fresh_store}
use Rattle.rex_cluster.specs.Reading.{nothing_seen}
use Rattle.rex_safety.proofs.Keeps.{beginning_kept}
use Rattle.rex_world.specs.Kept.{IsFirst}
use Rattle.rex_world.proofs.Endings.{heres_both}

-- one more fresh store
pub fresh_next : {K : Type 0} {value : K → StoreValue} {count : ℕ} {xs ys : List K} {x : K} → AreFresh value count xs → value x ≡ fresh_store → ys ≡ xs ++ x ∷ [] → AreFresh value (count + 1) ys
fresh_next {value} {xs} {x} h is e = record {
  many = ap length e ∙ length-append xs (x ∷ []) ∙ ap (λ n. n + 1) h.many;
  fresh = subst (All (IsFresh value)) (sym e) (All-push (IsFresh value) xs x h.fresh (record { is = is }));
}

members_more : {service : Declarations} {seed nodes : ℕ} (k : ℕ) (xs : List Member) {x : Member} → AreMembers service [] seed nodes k xs → IsMember service [] seed nodes (k + length xs) x → AreMembers service [] seed nodes k (xs ++ x ∷ [])
members_more {service} {seed} {nodes} k [] {x} all one = (subst (λ m. IsMember service [] seed nodes m x) (add-zero k) one, tt)
members_more {service} {seed} {nodes} k (y ∷ ys) {x} all one =
    let e : k + suc (length ys) ≡ suc k + length ys = omega arith in
    (all.0, members_more (suc k) ys all.1 (subst (λ m. IsMember service [] seed nodes m x) e one))

within_next : (xs : List Member) (x : Member) → AreWithin 0 xs → faults_of x.keeper ≡ 0 → AreWithin 0 (xs ++ x ∷ [])
within_next [] x all one = (omega (arith, one), tt)
within_next (y ∷ ys) x all one = (all.0, within_next ys x all.1 one)

pub new_next : {service : Declarations} {seed nodes number : ℕ} {xs : List Member} {x : Member} → AreNew service seed nodes number xs → here_at service [] x ≡ new_node → IsMember service [] seed nodes (number + 1) x
    → faults_of x.keeper ≡ 0 → AreNew service seed nodes (number + 1) (xs ++ x ∷ [])
new_next {service} {seed} {nodes} {number} {xs} {x} h e one none =
    let n : number + 1 ≡ 1 + length xs = omega (arith, h.many) in
    record {
      here = heres_both service [] xs _ ∙ ap (λ ys. ys ++ here_at service [] x ∷ []) h.here ∙ ap (λ y. replicate number new_node ++ y ∷ []) e ∙ sym (replicate_next number new_node);
      are = members_more 1 xs h.are (subst (λ m. IsMember service [] seed nodes m x) n one);
      within = within_next xs x h.within none;
      many = length-append xs (x ∷ []) ∙ ap (λ k. k + 1) h.many;
    }

-- no node yet
pub none_new : {service : Declarations} {seed nodes : ℕ} {xs : List Member} → xs ≡ [] → AreNew service seed nodes 0 xs
none_new {service} {seed} {nodes} e = subst (AreNew service seed nodes 0) (sym e) (record { here = refl; are = tt; within = tt; many = refl })

both : (a : Bool) {b : Bool} → (a && b) ≡ true → (a ≡ true) × (b ≡ true)
both true e = (refl, e)
both false e = absurd cc

pub few_nodes : {n : ℕ} → is_node_count n ≡ true → n ≤ most_nodes
few_nodes {n} h = leb-true n most_nodes (both _ h).1

abbrev model_of : ℕ → List Here → List (Message Value) → List Bool → List ℕ → ModelWorld
model_of done nodes messages handed seen = record { done = done; nodes = nodes; messages = messages; handed = handed; seen = seen }

-- the world of the model before the first line
begins : {S : Type 0} → {service : Declarations} {seed n : ℕ} (w : World S) → AreNew service seed n n w.nodes.items → w.agreed ≡ [] → w.net ≡ [] → w.handed.items ≡ [] → w.seen.items ≡ nothing_seen → w.done ≡ 0 → world_of service w ≡ beginning n
begins {service} {n} w h none net handed seen done =
    ap (λ d. model_of d (heres service w.agreed w.nodes.items) (messages_of w.agreed w.net) w.handed.items w.seen.items) done
    ∙ ap (λ vs. model_of 0 (heres service vs w.nodes.items) (messages_of vs w.net) w.handed.items w.seen.items) none
    ∙ ap (λ xs. model_of 0 xs (messages_of [] w.net) w.handed.items w.seen.items) h.here
    ∙ ap (λ ms. model_of 0 (replicate n new_node) (messages_of [] ms) w.handed.items w.seen.items) net
    ∙ ap (λ hs. model_of 0 (replicate n new_node) [] hs w.seen.items) handed
    ∙ ap (model_of 0 (replicate n new_node) [] []) seen

-- nothing is agreed on then
none_agreed : (n : ℕ) → longest (replicate n new_node) ≡ []
none_agreed zero = refl
none_agreed (suc n) = ap (longer_of []) (none_agreed n)

new_running : {S : Type 0} → {service : Declarations} {n : ℕ} {w : World S} → n ≤ most_nodes → IsService service → IsChecked service → All (RequestFits service) w.requests → AreNew service w.seed n n w.nodes.items
    → w.agreed ≡ [] → w.net ≡ [] → w.handed.items ≡ [] → w.seen.items ≡ nothing_seen → w.done ≡ 0 → w.flushed ≡ 0 → w.broken ≡ false → IsRunning service w
new_running {service} {n} {w} few good checked fit h none net handed seen done flushed whole =
    record {
      service_is = good;
      checked = checked;
      whole = whole;
      few = omega (arith, h.many);
      agreed = none ∙ sym (none_agreed n) ∙ ap agreed (sym (begins w h none net handed seen done));
      kept = subst (λ k. IsKept service w.seed k (world_of service w)) (sym h.many)
          (subst (λ x. IsKept service w.seed n x) (sym (begins w h none net handed seen done)) (beginning_kept service good checked _ fit w.seed n few));
      members = subst (λ k. AreMembers service w.agreed w.seed k 1 w.nodes.items) (sym h.many) (subst (λ vs. AreMembers service vs w.seed n 1 w.nodes.items) (sym none) h.are);
      within = subst (λ k. AreWithin k w.nodes.items) (sym done) h.within;
      spelled = subst (λ ms. All IsSpelled ms) (sym net) (All-nil IsSpelled);
      told = subst (λ ms. All (TellsRightly service w.agreed) ms) (sym net) (All-nil (TellsRightly service w.agreed));
      requests = fit;
      flushed = omega (arith, flushed);
      handed = subst (λ k. list_all (λ b. b) (take k w.handed.items) ≡ true) (sym flushed) refl;
      clients = ap length seen;
    }

-- so it is the scenario's world before its first line
pub new_first : {S : Type 0} → {service : Declarations} {s : Scenario} {w : World S} → ScenarioFits service s → IsService service → IsChecked service → w.requests ≡ s.requests → w.seed ≡ s.seed → AreNew service w.seed s.nodes s.nodes w.nodes.items
    → w.agreed ≡ [] → w.net ≡ [] → w.handed.items ≡ [] → w.seen.items ≡ nothing_seen → w.done ≡ 0 → w.flushed ≡ 0 → w.broken ≡ false → IsFirst service s w
new_first {service} {w} fits good checked requests seed h none net handed seen done flushed whole = record {
  world = begins w h none net handed seen done;
  nodes = h.many;
  requests = requests;
  seed = seed;
  running = new_running (few_nodes fits.nodes) good checked (subst (All (RequestFits service)) (sym requests) fits.requests) h none net handed seen done flushed whole;
}
