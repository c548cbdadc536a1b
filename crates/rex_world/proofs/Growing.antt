-- What is agreed on grows by what the records of a node say that it knows.
use Rattle.rex_world.proofs.Common.{◌≡◌, ℕ, zero, suc, ◌+◌, ◌≤◌, ◌<◌, ◌⊎◌, inl, inr, Bool, true, false, cond, eqb, List, [], ◌∷◌, ◌++◌, length, drop, Result, Ok, Err, refl, sym, ap, subst, ◌∙◌, arith, append-nil, length-append, le_refl, ◌==◌, if◌then◌else◌, All, list_all, and_parts, eqb-true, drop-append_seam, Declarations, StateValue, KeeperValue, KeptRec, record_in, Rec, known, Begins, Service, Value, runs, service_of, spells, trace_of, Here, agreed, node_at, put, IsKept, known_begins, next_fits, node_put, AreRead, first, log_behind, log_of, log_with, first_length, IsKeptNode, NodeValue, here_of, knows, World, learned, learned_in, Member, AreMembers, IsKeeping, IsMember, here_at, heres, records_at, records_of, TellsRightly, messages_of, nodes_of, world_of, IsRunning}
use Rattle.std.proofs.lemmas.Bool.{cases_lt, eqb-false}
use Rattle.std.proofs.lemmas.List.Sums.{fold-append}
use Rattle.rex_durable.specs.declared.records.Rec.TheVariants as rec
use Rattle.rex_cluster.specs.Invariant.{AreRecords}
use Rattle.rex_cluster.specs.Quorum.{IsNode}
use Rattle.rex_safety.proofs.Agreeing.{longest_most}
use Rattle.rex_safety.proofs.Held.{transfers_right}
use Rattle.rex_log.specs.Log.{rec_of, standing_in}
use Rattle.rex_node.specs.Parts.{IsUp, whole}
use Rattle.rex_world.proofs.Agreeing.{holds_of_longest}
use Rattle.rex_cluster.proofs.Fronts.{same_fronts, whole_front}
use Rattle.rex_log.proofs.Beside.{TakesFronts, first_grown, log_grown, past_has}
use Rattle.rex_world.proofs.Beside.{begins_on, messages_grown}
use Rattle.rex_world.proofs.Learning.{known_due, learned_as, learned_of}
use Rattle.rex_world.proofs.Placed.{later_at, log_is, many_here, read_is}
use Rattle.rex_world.proofs.Coming.{IsUnsettled, same_world}
use Rattle.rex_node.proofs.Reaching.{reached_beside}

-- ---- records one after the other

module _ (service : Declarations) (seed : ℕ) (past : List Value) where
  abbrev Log : Type 0
  Log = List (Rec Value StateValue)

  abbrev sv : Service Value StateValue
  sv = service_of service seed

  abbrev with_one : Log → List ℕ → Log
  with_one log bytes = log_with service past log (record_in (standing_in log) bytes)

  -- no more are read than there are
  few_with : (log : Log) (r : Result KeptRec ℕ) → length (log_with service past log r) ≤ suc (length log)
  few_with log (Ok r) = le_refl (suc (length log))
  few_with log (Err at) = omega arith

  pub few_behind : (lists : List (List ℕ)) (log : Log) → length (log_behind service past log lists) ≤ length lists + length log
  few_behind [] log = omega arith
  few_behind (bytes ∷ lists) log =
      let a = few_behind lists (with_one log bytes) in
      let b = few_with log (record_in (standing_in log) bytes) in
      omega (arith, a, b)

  -- what is in order was in order, and what was known begins what is
  one_front : (log : Log) (r : Result KeptRec ℕ) → AreRecords sv (log_with service past log r) → AreRecords sv log × Begins (known log) (known (log_with service past log r))
  one_front log (Err at) h = (h, ([], append-nil (known log)))
  one_front log (Ok (rec.Promised b)) h = (h, ([], append-nil (known log)))
  one_front log (Ok (rec.Accepted b i v)) h = (h.1, ([], append-nil (known log)))
  one_front log (Ok (rec.Known i v)) h = (h.1, (v ∷ [], refl))
  one_front log (Ok (rec.Checkpoint k bytes)) h = (h.1, ([], append-nil (known log)))
  one_front log (Ok (rec.Dropped k)) h = (h.1, ([], append-nil (known log)))
  one_front log (Ok (rec.Transferred k bytes)) h = (h.1, h.0.1)

  pub all_front : (lists : List (List ℕ)) (log : Log) → AreRecords sv (log_behind service past log lists) → AreRecords sv log × Begins (known log) (known (log_behind service past log lists))
  all_front [] log h = (h, ([], append-nil (known log)))
  all_front (bytes ∷ lists) log h =
      let others = all_front lists _ h in
      let one = one_front log _ others.0 in
      (one.0, begins_on _ one.1 others.1)

  -- ---- values that are learned

  module _ (all : List Value) (fits : list_all (spells service) all ≡ true) where
    -- these values begin them all, and are no fewer than the past has, and than are known
    pub record KeepsUp (log : Log) (values : List Value) : Type 0 where
      pub begins : Begins values all
      pub long : length past ≤ length values
      pub known_few : length (known log) ≤ length values

    -- one known value more
    keeps_known : {log : Log} {i : ℕ} {v : Value} {values : List Value} → i ≡ length (known log) + 1 → Begins (known log ++ v ∷ []) all → KeepsUp log values → (b : Bool) → (i == length values + 1) ≡ b
        → KeepsUp (rec_of service past (rec.Known i v) ∷ log) (if b then values ++ v ∷ [] else values)
    keeps_known {log} {i} {v} {values} due begins c true e =
        let n : i ≡ length values + 1 = eqb-true i (length values + 1) e in
        let same : known log ≡ values = same_fronts _ values all (begins_on _ (v ∷ [], refl) begins) c.begins (omega (arith, n, due)) in
        record {
          begins = subst (λ vs. Begins (vs ++ v ∷ []) all) same begins;
          long = let l = c.long in omega (arith, l, length-append values (v ∷ []));
          known_few = let l = c.known_few in omega (arith, l, length-append (known log) (v ∷ []), length-append values (v ∷ []));
        }
    keeps_known {log} {i} {v} {values} due begins c false e =
        record {
          begins = c.begins;
          long = c.long;
          known_few = let l = c.known_few in let n = eqb-false i (length values + 1) e in not_next l n;
        }
      where
        not_next : length (known log) ≤ length values → (i ≡ length values + 1 → ⊥) → length (known log ++ v ∷ []) ≤ length values
        not_next l n = by (cases_lt (length (known log)) (length values))
          where
            by : (length (known log) < length values) ⊎ (length values ≤ length (known log)) → length (known log ++ v ∷ []) ≤ length values
            by (inl m) = omega (arith, m, length-append (known log) (v ∷ []))
            by (inr m) = absurd (n (omega (arith, m, l, due)))

    keeps_one : {log : Log} (bytes : List ℕ) (r : KeptRec) {values : List Value} → record_in (standing_in log) bytes ≡ Ok r → Begins (known (rec_of service past r ∷ log)) all → KeepsUp log values
        → KeepsUp (rec_of service past r ∷ log) (learned_of values r)
    keeps_one bytes (rec.Promised b) e begins c = record { begins = c.begins; long = c.long; known_few = c.known_few }
    keeps_one bytes (rec.Accepted b i v) e begins c = record { begins = c.begins; long = c.long; known_few = c.known_few }
    keeps_one {log} bytes (rec.Known i v) {values} e begins c = keeps_known (known_due _ bytes e) begins c _ refl
    keeps_one bytes (rec.Checkpoint k snapshot) e begins c = record { begins = c.begins; long = c.long; known_few = c.known_few }
    keeps_one bytes (rec.Dropped k) e begins c = record { begins = c.begins; long = c.long; known_few = c.known_few }
    keeps_one bytes (rec.Transferred k snapshot) e begins c = record {
      begins = c.begins;
      long = c.long;
      known_few = let l = past_has service k past all fits begins in let m = c.long in omega (arith, l, m, first_length k past);
    }

    pub keeps_all : (lists : List (List ℕ)) {log : Log} {values : List Value} → length (log_behind service past log lists) ≡ length lists + length log → AreRecords sv (log_behind service past log lists)
        → Begins (known (log_behind service past log lists)) all → KeepsUp log values → KeepsUp (log_behind service past log lists) (learned values lists)
    keeps_all [] many good begins c = c
    keeps_all (bytes ∷ lists) {log} {values} many good begins c = by (record_in (standing_in log) bytes) refl (λ few one. keeps_all lists few good begins one)
      where
        by : (r : Result KeptRec ℕ) → record_in (standing_in log) bytes ≡ r → (length (log_behind service past (with_one log bytes) lists) ≡ length lists + length (with_one log bytes) → KeepsUp (with_one log bytes) (learned_in values bytes) → KeepsUp (log_behind service past (with_one log bytes) lists) (learned (learned_in values bytes) lists)) → KeepsUp (log_behind service past (with_one log bytes) lists) (learned (learned_in values bytes) lists)
        by (Err at) e later =
            let now : with_one log bytes ≡ log = ap (log_with service past log) e in
            let l = few_behind lists log in
            let n : length (log_behind service past log lists) ≡ suc (length lists) + length log = ap (λ g. length (log_behind service past g lists)) (sym now) ∙ many in
            absurd (omega (arith, l, n))
        by (Ok r) e later =
            let now : with_one log bytes ≡ rec_of service past r ∷ log = ap (log_with service past log) e in
            let l = few_with log (record_in (standing_in log) bytes) in
            let f = few_behind lists (with_one log bytes) in
            let front = all_front lists (with_one log bytes) good in
            let one : KeepsUp (rec_of service past r ∷ log) (learned_of values r) =
            keeps_one bytes r e (subst (λ g. Begins (known g) all) now (begins_on (known (with_one log bytes)) front.1 begins)) c in
            later (omega (arith, many, l, f))
            (subst (λ g. KeepsUp g (learned_in values bytes)) (sym now) (subst (KeepsUp (rec_of service past r ∷ log)) (sym (learned_as (standing_in log) bytes values e)) one))

-- ---- nodes beside more values

module _ (service : Declarations) (past values : List Value) (fits : list_all (spells service) values ≡ true) (front : Begins past values) where
  -- what a node knows, and the values of states that it took over, begin the values
  pub record Agrees (x : Here) : Type 0 where
    pub knows_front : Begins (known x.log) values
    pub takes : TakesFronts service past values fits front x.log

  keeping_grown : {k : KeeperValue} → TakesFronts service past values fits front (log_of service past k.records) → IsKeeping service past k → IsKeeping service values k
  keeping_grown {k} t h = record { read = ap length (log_grown service past values fits front k.records t) ∙ h.read; stated = h.stated; room = h.room }

  node_grown : (x : NodeValue KeeperValue) → Agrees (here_at service past x) → IsKeptNode records_of service past x → IsKeptNode records_of service values x
  node_grown x a h = record {
    id = h.id;
    few = h.few;
    up = λ up.
        let u = h.up up in
        let begins : Begins (first x.offset past) values =
        begins_on _ (x.known, refl) (subst (λ vs. Begins vs values) (sym u.known) a.knows_front) in
        let low = past_has service x.offset past values fits begins in
        let same_knows : knows values x ≡ knows past x = ap (λ vs. vs ++ x.known) (first_grown service past values fits front low) in
        let same_here : here_of records_of service values x ≡ here_of records_of service past x =
        ap (λ log. let y : Here = record (here_of records_of service past x) { log = log } in y) (log_grown service past values fits front x.keeper.records a.takes) in
        subst (λ vs. let y : NodeValue KeeperValue = record x { known = vs } in IsUp service y (here_of records_of service values x)) (sym same_knows)
        (subst (IsUp service (whole past x)) (sym same_here) u);
    reached = reached_beside service past values x h.reached;
    decoded = h.decoded;
    rests = h.rests;
  }

  -- which is the same node of the model
  pub here_grown : (x : Member) → Agrees (here_at service past x) → here_at service values x ≡ here_at service past x
  here_grown x a = ap (λ log. let y : Here = record (here_at service past x) { log = log } in y) (log_grown service past values fits front x.keeper.records a.takes)

  member_grown : {seed nodes number : ℕ} {x : Member} → Agrees (here_at service past x) → IsMember service past seed nodes number x → IsMember service values seed nodes number x
  member_grown {x} a h = record {
    id = h.id;
    nodes_are = h.nodes_are;
    seed_is = h.seed_is;
    node = node_grown x a h.node;
    keeping = keeping_grown a.takes h.keeping;
    whole = h.whole;
  }

  abbrev EachAgrees : List Member → Type 0
  EachAgrees xs = (m : ℕ) → IsNode (length xs) m → Agrees (node_at (heres service past xs) m)

  others_agree : (x : Member) (xs : List Member) → EachAgrees (x ∷ xs) → EachAgrees xs
  others_agree x xs each zero there = absurd (let l : 0 < 0 = there.0 in omega (arith, l))
  others_agree x xs each (suc i) there = subst Agrees (later_at _ _ i) (each (suc (suc i)) (omega arith, omega (arith, there.1)))

  pub heres_grown : (xs : List Member) → EachAgrees xs → heres service values xs ≡ heres service past xs
  heres_grown [] each = refl
  heres_grown (x ∷ xs) each =
      ap (λ y. y ∷ heres service values xs) (here_grown x (each 1 (omega arith, omega arith)))
      ∙ ap (λ ys. here_at service past x ∷ ys) (heres_grown xs (others_agree x xs each))

  pub members_grown : (seed nodes number : ℕ) (xs : List Member) → EachAgrees xs → AreMembers service past seed nodes number xs → AreMembers service values seed nodes number xs
  members_grown seed nodes number [] each h = tt
  members_grown seed nodes number (x ∷ xs) each h =
      (member_grown (each 1 (omega arith, omega arith)) h.0, members_grown seed nodes _ xs (others_agree x xs each) h.1)

-- ---- the world

module _ {S : Type 0} (service : Declarations) (w x : World S) (h : IsRunning service w) (m : ℕ) (there : IsNode (nodes_of w) m) where
  -- before what the node has come to know was agreed
  abbrev pub unsettled : World S
  unsettled = record x { agreed = w.agreed }

  abbrev before : List Here
  before = heres service w.agreed w.nodes.items

  abbrev nodes : List Here
  nodes = heres service w.agreed x.nodes.items

  module _ (works : IsUnsettled service unsettled) (many : nodes_of x ≡ nodes_of w) (others : nodes ≡ put before m (node_at nodes m)) (grown : Begins (records_at w.nodes.items m) (records_at x.nodes.items m)) where
    abbrev all : List Value
    all = agreed (world_of service unsettled)

    in_both : {q : ℕ} → IsNode (length nodes) q → IsNode (nodes_of x) q
    in_both {q} l = subst (λ n. IsNode n q) (many_here service w.agreed _) l

    here : IsNode (nodes_of x) m
    here = subst (λ n. IsNode n m) (sym many) there

    begins : (q : ℕ) → IsNode (nodes_of x) q → Begins (known (node_at nodes q).log) all
    begins q l = known_begins _ _ _ works.kept.world q l

    fits : list_all (spells service) all ≡ true
    fits =
        holds_of_longest (λ vs. list_all (spells service) vs ≡ true) nodes refl
        (λ q l. (and_parts (list_all (spells service) (known (node_at nodes q).log)) (runs service (trace_of (known (node_at nodes q).log)))
        ((next_fits service x.seed _ _ works.kept.world).known q (in_both l))).0)

    -- the node's records
    abbrev old_records : List (List ℕ)
    old_records = records_at w.nodes.items m

    abbrev old_log : List (Rec Value StateValue)
    old_log = log_of service w.agreed old_records

    abbrev new_log : List (Rec Value StateValue)
    new_log = log_behind service w.agreed old_log grown.0

    old_is : (node_at before m).log ≡ old_log
    old_is = log_is _ there service w.agreed

    behind : log_of service w.agreed (records_at x.nodes.items m) ≡ new_log
    behind =
        ap (log_of service w.agreed) (sym grown.1)
        ∙ fold-append (λ log bytes. log_with service w.agreed log (record_in (standing_in log) bytes)) [] old_records grown.0

    new_is : (node_at nodes m).log ≡ new_log
    new_is = log_is _ here service w.agreed ∙ behind

    sorted : AreRecords (service_of service x.seed) new_log
    sorted = subst (AreRecords (service_of service x.seed)) new_is (works.kept.world.cluster.safe.sorted m here)

    old_read : AreRead service w.agreed old_records
    old_read = read_is _ there service w.agreed w.seed _ h.members

    new_read : AreRead service w.agreed (records_at x.nodes.items m)
    new_read = read_is _ here service w.agreed x.seed _ works.members

    -- another node is as it was
    at_node : (q : ℕ) → node_at nodes q ≡ cond (eqb q m) (node_at nodes m) (node_at before q)
    at_node q =
        ap (λ xs. node_at xs q) others
        ∙ node_put before m _ q (subst (λ n. IsNode n m) (sym (many_here service w.agreed _)) there)

    -- what was agreed on begins what is
    front : Begins w.agreed all
    front =
        subst (λ vs. Begins vs all) (sym h.agreed)
        (holds_of_longest (λ vs. Begins vs all) before (all, refl) (λ q l. by q (subst (λ n. IsNode n q) (many_here service w.agreed _ ∙ sym many) l) (eqb q m) refl))
      where
        by : (q : ℕ) → IsNode (nodes_of x) q → (b : Bool) → eqb q m ≡ b → Begins (known (node_at before q).log) all
        by q l true e =
            let same : q ≡ m = eqb-true q m e in
            subst (λ k. Begins (known (node_at before k).log) all) (sym same)
            (subst (λ log. Begins (known log) all) (sym old_is)
            (begins_on _ (all_front service x.seed w.agreed grown.0 old_log sorted).1
            (subst (λ log. Begins (known log) all) new_is (begins m here))))
        by q l false e =
            subst (λ y. Begins (known y.log) all) (at_node q ∙ ap (λ b. cond b (node_at nodes m) (node_at before q)) e) (begins q l)

    kept_up : KeepsUp service x.seed w.agreed all fits new_log (learned w.agreed grown.0)
    kept_up =
        keeps_all service x.seed w.agreed all fits grown.0
        (let e = ap length behind in let f = ap length grown.1 in let g = length-append old_records grown.0 in omega (arith, e, f, g, old_read, new_read))
        sorted (subst (λ log. Begins (known log) all) new_is (begins m here))
        (record {
          begins = front;
          long = le_refl (length w.agreed);
          known_few =
              let most = longest_most before m in
              omega (arith, most, ap (λ log. length (known log)) old_is, ap length h.agreed);
        })

    -- and what was learned is all that is
    pub learned_all : learned w.agreed grown.0 ≡ all
    learned_all = whole_front _ all kept_up.begins (holds_of_longest (λ vs. length vs ≤ length (learned w.agreed grown.0)) nodes (omega arith) (λ q l. by q (eqb q m) refl))
      where
        by : (q : ℕ) (b : Bool) → eqb q m ≡ b → length (known (node_at nodes q).log) ≤ length (learned w.agreed grown.0)
        by q true e =
            let same : q ≡ m = eqb-true q m e in
            let l = kept_up.known_few in
            omega (arith, l, ap (λ log. length (known log)) new_is, ap (λ k. length (known (node_at nodes k).log)) same)
        by q false e =
            let was : node_at nodes q ≡ node_at before q = at_node q ∙ ap (λ b. cond b (node_at nodes m) (node_at before q)) e in
            let most = longest_most before q in
            let l = kept_up.long in
            omega (arith, most, l, ap (λ y. length (known y.log)) was, ap length h.agreed)

    agree : (q : ℕ) → IsNode (nodes_of x) q → Agrees service w.agreed all fits front (node_at nodes q)
    agree q l = record {
      knows_front = begins q l;
      takes = λ taken s has. ((transfers_right service x.seed _ _ works.kept.world).taken q taken s l has).0;
    }

    module _ (agreed_is : x.agreed ≡ learned w.agreed (drop (length old_records) (records_at x.nodes.items m))) where
      is_all : x.agreed ≡ all
      is_all = agreed_is ∙ ap (learned w.agreed) (ap (drop (length old_records)) (sym grown.1) ∙ drop-append_seam old_records grown.0) ∙ learned_all

      -- the model's world is the same
      pub settled_world : world_of service x ≡ world_of service unsettled
      settled_world =
          same_world refl
          (ap (λ vs. heres service vs x.nodes.items) is_all ∙ heres_grown service w.agreed all fits front _ agree)
          (ap (λ vs. messages_of vs x.net) is_all ∙ (messages_grown service w.agreed all fits front x.net works.told).1)
          refl refl

      -- and the world runs
      pub settled_running : IsRunning service x
      settled_running = record {
        service_is = works.service_is;
        checked = works.checked;
        whole = works.whole;
        few = works.few;
        kept = subst (IsKept service x.seed (nodes_of x)) (sym settled_world) works.kept;
        agreed = is_all ∙ ap agreed (sym settled_world);
        members = subst (λ vs. AreMembers service vs x.seed (nodes_of x) 1 x.nodes.items) (sym is_all) (members_grown service w.agreed all fits front x.seed _ 1 _ agree works.members);
        within = works.within;
        spelled = works.spelled;
        told = subst (λ vs. All (TellsRightly service vs) x.net) (sym is_all) (messages_grown service w.agreed all fits front x.net works.told).0;
        requests = works.requests;
        flushed = works.flushed;
        handed = works.handed;
        clients = works.clients;
      }
