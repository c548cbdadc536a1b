-- A line that arms the keeper of a node.
use Rattle.rex_world.proofs.Common.{◌≡◌, ℕ, ◌+◌, ◌-◌, ◌≤◌, ◌<◌, ◌^◌, Bool, true, false, List, length, Some, refl, sym, ◌∙◌, ap, subst, arith, if◌then◌else◌, slice_index_or, slice_set, Vec, most_nodes, Declarations, Request, Fate, KeeperValue, IsNode, After, Value, Here, ModelWorld, node_at, put, row, agreed, IsKept, NodeValue, IsKeptNode, World, Member, AreMembers, IsKeeping, IsMember, faults_of, here_at, heres, records_of, nodes_of, world_of, IsRunning, node_in}
use Rattle.std.proofs.lemmas.List.{append-nil}
use Rattle.rex_traits.specs.declared.mem_keeper.Fate.TheVariants as fate
use Rattle.rex_traits.specs.Keeping.{armed_to}
use Rattle.rex_schedule.specs.declared.scenario.ScheduleLine.TheVariants.{KeepFail}
use Rattle.rex_safety.proofs.Keeps.{row_kept}
use Rattle.rex_world.proofs.Agreeing.{same_longest}
use Rattle.rex_world.proofs.Coming.{same_world}
use Rattle.rex_world.proofs.Placed.{at_old, many_are, new_members, new_within, now_put, old_member, old_within, within_more}

-- ---- the node

-- what becomes of the record
abbrev pub fate_if : Bool → Fate
fate_if kept = if kept then fate.Kept else fate.Lost

-- its keeper is armed, and nothing else has changed
abbrev pub armed_member : Fate → Member → Member
armed_member f x = record x { keeper = armed_to f x.keeper }

here_armed : (service : Declarations) (past : List Value) (kept : Bool) (x : Member) → here_at service past (armed_member (fate_if kept) x) ≡ record (here_at service past x) { armed = Some (After 0 kept) }
here_armed service past true x = refl
here_armed service past false x = refl

faults_armed : (f : Fate) (x : Member) → faults_of (armed_to f x.keeper) ≤ faults_of x.keeper + 1
faults_armed f x = omega arith

keeping_armed : {service : Declarations} {past : List Value} {f : Fate} {k : KeeperValue} → IsKeeping service past k → faults_of k + 1 < 2 ^ 64 - 1 → IsKeeping service past (armed_to f k)
keeping_armed h l = record { read = h.read; stated = h.stated; room = omega arith }

node_armed : {service : Declarations} {past : List Value} {f : Fate} (x : NodeValue KeeperValue) → IsKeptNode records_of service past x → IsKeptNode records_of service past (record x { keeper = armed_to f x.keeper })
node_armed x h = record {
  id = h.id;
  few = h.few;
  up = λ e. let u = h.up e in record {
    promised = u.promised;
    accepted = u.accepted;
    offset = u.offset;
    low = u.low;
    known = u.known;
    base = u.base;
    old_base = u.old_base;
    start = u.start;
    replayed = u.replayed;
    ahead = u.ahead;
    caught_up = u.caught_up;
    short = u.short;
    proposer = u.proposer;
    acting = u.acting;
    stamped = u.stamped;
    fits = u.fits;
    numbers = u.numbers;
  };
  reached = h.reached;
  decoded = h.decoded;
  rests = h.rests;
}

member_armed : {service : Declarations} {past : List Value} {seed nodes number : ℕ} {f : Fate} {x : Member} → IsMember service past seed nodes number x → faults_of x.keeper + 1 < 2 ^ 64 - 1 → IsMember service past seed nodes number (armed_member f x)
member_armed {service} {past} {f} {x} h l = record {
  id = h.id;
  nodes_are = h.nodes_are;
  seed_is = h.seed_is;
  node = node_armed x h.node;
  keeping = keeping_armed h.keeping l;
  whole = h.whole;
}

-- ---- the row

module _ (service : Declarations) (requests : List Request) (seed n : ℕ) (w : ModelWorld) (m : ℕ) (kept : Bool) where
  arming_row : {nodes : List Here} → nodes ≡ put w.nodes m (record (node_at w.nodes m) { armed = Some (After 0 kept) })
      → (let v : ModelWorld = record { done = w.done + 1; nodes = nodes; messages = w.messages; handed = w.handed; seen = w.seen } in v) ≡ (row service requests seed n w (KeepFail m kept)).world
  arming_row {nodes} e =
      same_world refl e (sym (append-nil w.messages)) (sym (append-nil w.handed)) refl

  -- what is agreed on stays
  pub arming_agreed : agreed (row service requests seed n w (KeepFail m kept)).world ≡ agreed w
  arming_agreed = same_longest w.nodes m (record (node_at w.nodes m) { armed = Some (After 0 kept) }) refl

-- ---- the world

module _ {S : Type 0} (service : Declarations) (w : World S) (h : IsRunning service w) (m : ℕ) (there : IsNode (nodes_of w) m) (kept : Bool) (nodes : Vec Member) (x : Member) (x_is : x ≡ slice_index_or w.nodes.items (m - 1) x) (f : Fate) (f_is : f ≡ fate_if kept) (nodes_are : nodes.items ≡ slice_set w.nodes.items (m - 1) (armed_member f x)) (room : w.done + 1 < 2 ^ 32) where
  abbrev after : World S
  after = record w { nodes = nodes; done = w.done + 1 }

  nodes_so : nodes.items ≡ slice_set w.nodes.items (m - 1) (armed_member (fate_if kept) x)
  nodes_so = nodes_are ∙ ap (λ g. slice_set w.nodes.items (m - 1) (armed_member g x)) f_is

  heres_after : heres service w.agreed nodes.items ≡ put (heres service w.agreed w.nodes.items) m (record (node_in service w m) { armed = Some (After 0 kept) })
  heres_after =
      now_put _ there _ x_is nodes_so service w.agreed
      ∙ ap (put (heres service w.agreed w.nodes.items) m) (here_armed service w.agreed kept x ∙ ap (λ z. let a : Here = record z { armed = Some (After 0 kept) } in a) (sym (at_old _ there _ x_is nodes_so service w.agreed)))

  pub arming_world : world_of service after ≡ (row service w.requests w.seed (nodes_of w) (world_of service w) (KeepFail m kept)).world
  arming_world = arming_row service w.requests w.seed (nodes_of w) _ m kept heres_after

  pub many : length nodes.items ≡ nodes_of w
  many = many_are _ there _ x_is nodes_so

  pub arming_running : IsRunning service after
  arming_running =
      let k = old_within _ there _ x_is nodes_so h.within in
      let l = faults_armed (fate_if kept) x in
      let was : IsMember service w.agreed w.seed (nodes_of w) m x = old_member _ there _ x_is nodes_so service w.agreed w.seed _ h.members in
      let all : AreMembers service w.agreed w.seed (nodes_of w) 1 nodes.items =
      new_members _ there _ x_is nodes_so service w.agreed w.seed _ h.members (member_armed was (omega arith)) in
      record {
        service_is = h.service_is;
        checked = h.checked;
        whole = h.whole;
        few = subst (λ n. n ≤ most_nodes) (sym many) h.few;
        agreed = h.agreed ∙ sym (arming_agreed service w.requests w.seed (nodes_of w) (world_of service w) m kept) ∙ ap agreed (sym arming_world);
        kept = subst (λ n. IsKept service w.seed n (world_of service after)) (sym many)
            (subst (IsKept service w.seed (nodes_of w)) (sym arming_world) (row_kept service h.service_is h.checked _ h.requests w.seed _ h.few _ (KeepFail m kept) there h.kept));
        members = subst (λ n. AreMembers service w.agreed w.seed n 1 nodes.items) (sym many) all;
        within = new_within _ there _ x_is nodes_so (within_more _ h.within (omega arith)) (omega arith);
        spelled = h.spelled;
        told = h.told;
        requests = h.requests;
        flushed = h.flushed;
        handed = h.handed;
        clients = h.clients;
      }

-- one more line is done
pub counted_running : {S : Type 0} → {service : Declarations} {w : World S} → IsRunning service w → IsRunning service (record w { done = w.done + 1 })
counted_running {w} h = record {
  service_is = h.service_is;
  checked = h.checked;
  whole = h.whole;
  few = h.few;
  agreed = h.agreed;
  kept = record {
    world = record { many = h.kept.world.many; cluster = h.kept.world.cluster; nodes = h.kept.world.nodes };
    acting = h.kept.acting;
    numbers = record { nodes = h.kept.numbers.nodes; messages = h.kept.numbers.messages };
    handed = h.kept.handed;
  };
  members = h.members;
  within = within_more _ h.within (omega arith);
  spelled = h.spelled;
  told = h.told;
  requests = h.requests;
  flushed = h.flushed;
  handed = h.handed;
  clients = h.clients;
}
