-- A node takes over the state after so many values, of which it knows fewer.
use Rattle.rex_node.proofs.Common.{◌≡◌, ℕ, suc, ◌+◌, ◌<◌, ◌≤◌, Bool, true, false, cond, leb, List, [], ◌∷◌, ◌++◌, length, Ok, Option, Some, None, inr, refl, sym, ap, subst, ◌∙◌, arith, le_refl, map, is_ok, is_some, nat_lt, if◌then◌else◌, false≢true, leb-true, leb-false, le-leb, le-ltb, lt-ltb, lt-leb, take_all, All-filter, IsInstance, Kept, IsValue, AcceptorValue, forgetting, ProposerValue, Declarations, StateValue, start_of, run, state_in, Answer, KeptRec, HasSpelling, IsDue, record_bytes, Effect, Rec, Proposal, known, last_accepted, from_on, Failure, Message, Work, is_active, no_work, append, follow, followed, logged, on_snapshot, replayed_left, say, work_left, Value, service_of, trace_of, values_fit, CallHere, state_is, length_push, first, log_of, proposal_in, read_state, rec_of, standing_in, message_in, above_from, first_length, log_then, On, Down, Draft, is_stated, fallen_moved, NodeValue, IsResting, IsUp, ahead_left, failed_records, fallen, here_of, leaving, role_of, work_of, armed_with, Appends, Fell, IsStuck, RunsOn, Tells, so_far, Ends, nat_le}
use Rattle.std.proofs.lemmas.List.{append-nil}
use Rattle.rex_ballot.specs.Proposals.{above}
use Rattle.rex_durable.specs.declared.records.Rec.TheVariants as kept
use Rattle.rex_report.specs.declared.effect.Effect.TheVariants as effect
use Rattle.rex_cluster.specs.Records.Rec.{Transferred}
use Rattle.rex_cluster.specs.Calls.{with_replayed}
use Rattle.rex_node.specs.Telling.{LeadTo}
use Rattle.rex_node.proofs.Appended.{IsLogged, appended_log, call_at, logged_of, up_of, appended_breaks, fell_here}
use Rattle.rex_node.proofs.Following.{EndsWell, ends_same, far}
use Rattle.rex_node.proofs.Recorded.{recorded_on}
use Rattle.rex_node.proofs.GoingLemmas.{fell_append}
use Rattle.rex_node.proofs.Leaving.{no_work_left, role_active}

-- ---- what was accepted

-- from a later instance on, of those from an earlier one on
from_on_both : {i j : ℕ} (ps : List (Proposal Value)) → i ≤ j → from_on j (from_on i ps) ≡ from_on j ps
from_on_both [] le = refl
from_on_both {i} {j} (p ∷ ps) le = go (leb i p.instance) refl (leb j p.instance) refl (from_on_both ps le)
  where
    go : (early : Bool) → leb i p.instance ≡ early → (late : Bool) → leb j p.instance ≡ late → from_on j (from_on i ps) ≡ from_on j ps
        → from_on j (cond early (p ∷ from_on i ps) (from_on i ps)) ≡ cond late (p ∷ from_on j ps) (from_on j ps)
    go true e true l ih = rw l (ap (λ qs. p ∷ qs) ih)
    go true e false l ih = rw l ih
    go false e true l ih = absurd (let a = leb-false i p.instance e in let b = leb-true j p.instance l in omega arith)
    go false e false l ih = ih

-- above a later offset
pub accepted_above : {k o : ℕ} (ps : List Kept) (qs : List (Proposal Value)) → o ≤ k → map proposal_in ps ≡ from_on (suc o) qs → map proposal_in (above k ps) ≡ from_on (suc k) qs
accepted_above {k} {o} ps qs le h = above_from k ps ∙ ap (from_on (suc k)) h ∙ from_on_both qs (omega arith)

-- a node that forgets acceptances follows as it would
pub followed_same : (id : ℕ) (a b : AcceptorValue) (p : Option ProposerValue) (active : Bool) → followed id (role_of a p active) ≡ followed id (role_of b p active)
followed_same id a b None active = refl
followed_same id a b (Some p) active = refl

-- ---- the record

module _ {K : Type 0} {records : K → List (List ℕ)} (gives : K → List ℕ → Answer → K → Type 0) (faults : K → ℕ) {service : Declarations} {past : List Value} {x : NodeValue K} (node : IsResting records service past x) (up : x.up ≡ true) (before : Draft) {k : ℕ} {bytes : List ℕ} {s : StateValue}
    (more : length x.known < k) (there : IsInstance k) (short : IsValue bytes) (spelled : state_in service bytes ≡ Ok s) (leads : LeadTo service past k s) (fits : values_fit service (first k past) ≡ true) (y : NodeValue K) (mid : Draft) where
  u : IsUp service x (here_of records service past x)
  u = node.up up

  abbrev values : List Value
  values = first k past

  abbrev log : List (Rec Value StateValue)
  log = log_of service past (records x.keeper)

  abbrev begun : CallHere
  begun = so_far records service past x before

  abbrev r : KeptRec
  r = kept.Transferred k bytes

  abbrev said : Rec Value StateValue
  said = Transferred values (read_state service (state_in service bytes))

  long : length values ≡ k
  long = first_length k past

  spelling : HasSpelling r
  spelling = record { in_range = (there, short) }

  due : IsDue (standing_in log) r
  due = subst (λ vs. length vs < k) u.known more

  stated : is_stated service (record_bytes r) ≡ true
  stated = ap (λ q. is_ok q) spelled

  abbrev call : CallHere → CallHere
  call = on_snapshot (service_of service x.seed) x.id values

  abbrev rest : CallHere → CallHere
  rest e = follow x.id (effect.Transferred x.id (length values) ∷ []) (with_replayed (length values) e)

  call_is : (f : Option Failure) → call (armed_with f begun) ≡ append f x.id (rec_of service past r) (armed_with f begun) rest
  call_is f =
      ap (λ t. cond t (say (effect.IgnoredInstance (length values) (suc (length (known log)))) d) (append f x.id (Transferred values ((service_of service x.seed).state values)) d rest))
      (lt-leb (length values) (length (known log)) (omega (arith, long, more, ap (λ vs. length vs) u.known)))
      ∙ ap (λ t. append f x.id (Transferred values t) d rest)
      (state_is service _ s leads ∙ sym (ap (λ q. read_state service q) spelled))
    where
      d : CallHere
      d = armed_with f begun

  -- ---- its append failed

  module _ (h : Appends records faults gives x y before mid (record_bytes r) Down) {z : NodeValue K} (z_is : z ≡ fallen_moved (nat_lt (length (records x.keeper)) (length (records y.keeper))) y k) where
    kept_is : (b : Bool) → records y.keeper ≡ failed_records b (records x.keeper) (record_bytes r) → nat_lt (length (records x.keeper)) (length (records y.keeper)) ≡ b
    kept_is true e = lt-ltb (length (records x.keeper)) (length (records y.keeper)) (omega (arith, ap length e, length_push (records x.keeper) (record_bytes r)))
    kept_is false e = le-ltb (length (records x.keeper)) (length (records y.keeper)) (omega (arith, ap length e))

    z_at : z ≡ record (fallen (record x { base = if h.0.kept then k else x.base })) { keeper = y.keeper }
    z_at = z_is ∙ ap (λ b. fallen_moved b y k) (kept_is h.0.kept h.0.records) ∙ ap (λ n. fallen_moved h.0.kept n k) h.0.parts

    pub moved_down : Ends records gives faults service past call x z before mid Down
    moved_down = (
      (
        subst (λ j. Fell records gives faults service call x.id x.keeper j begun (so_far records service past z mid)) (sym (ap (λ n. n.keeper) z_at))
            (fell_append records gives faults service call_is x.keeper y.keeper stated h.0.kept h.0.answer h.0.records h.0.faults (fell_here records service past x (record_bytes r) (log_then service past (records x.keeper) r spelling due) u.base (sym long) h.0.kept h.0.records z_at h.2 h.1)),
        record { down = ap (λ n. n.up) z_at; bare = ap (λ n. n.reached) z_at },
      ),
      subst (IsResting records service past) (sym z_at) (record { id = node.id; few = node.few; up = λ t. absurd (false≢true t); reached = tt; decoded = node.decoded; rests = λ t. absurd (false≢true t) }),
    )

  -- ---- or it went well

  module _ (h : Appends records faults gives x y before mid (record_bytes r) On) where
    -- memory is short then
    pub moved_stuck : {z : NodeValue K} → z.keeper ≡ y.keeper → z.base ≡ k → IsStuck records gives faults service past call x z before
    moved_stuck keeper based = inr (appended_breaks records gives faults service past x y before mid spelling due stated call_is h (λ d. refl) keeper (based ∙ sym long))

    -- the node is a follower at the state
    abbrev follower : K → NodeValue K
    follower j = record x { keeper = j; acceptor = forgetting x.acceptor k; offset = k; known = values; base = k; start = s; replayed = k; ahead = None; reached = None; proposer = None; acting = None }

    module _ {z : NodeValue K} (z_is : z ≡ leaving (record y { offset = k; known = values ++ []; acceptor = forgetting y.acceptor k; base = k; start = s; replayed = k; ahead = None; reached = None })) {after : Draft}
        (told : Tells mid after (effect.Transferred y.id k ∷ followed y.id (role_of y.acceptor y.proposer (is_some y.acting)))) where
      left_same : (t : Bool) → replayed_left t k k ≡ k
      left_same true = refl
      left_same false = refl

      none_left : (t : Bool) → ahead_left t None ≡ None
      none_left true = refl
      none_left false = refl

      followed_at : z ≡ follower y.keeper
      followed_at =
          z_is
          ∙ ap (λ n. leaving (record n { offset = k; known = values ++ []; acceptor = forgetting n.acceptor k; base = k; start = s; replayed = k; ahead = None; reached = None })) h.0.parts
          ∙ ap (λ vs. record (follower y.keeper) { known = vs; replayed = replayed_left (is_some x.acting) k k; ahead = ahead_left (is_some x.acting) None }) (append-nil values)
          ∙ ap (λ m. record (follower y.keeper) { replayed = m; ahead = ahead_left (is_some x.acting) None }) (left_same _)
          ∙ ap (λ o. record (follower y.keeper) { ahead = o }) (none_left _)

      log_is : log_of service past (records y.keeper) ≡ said ∷ log
      log_is = appended_log records gives faults service past x y before mid spelling due stated h

      -- the model's call comes to the same
      here_is : {ms : List (Message Value)} (es : List Effect) → call_at (here_of records service past (follower y.keeper)) ms (es ++ (effect.Transferred x.id k ∷ followed x.id (role_of x.acceptor x.proposer (is_some x.acting)))) ≡ rest (logged (rec_of service past r) None (call_at (here_of records service past x) ms es))
      here_is {ms} es =
          ap (λ l. at l no_work k (effect.Transferred x.id k)) log_is
          ∙ ap (λ w. at (said ∷ log) w k (effect.Transferred x.id k)) (sym (no_work_left x.acting))
          ∙ ap (λ t. at (said ∷ log) (work_left t (work_of x.acting)) k (effect.Transferred x.id k)) (sym (role_active service x.known x.acceptor _ x.acting u.acting))
          ∙ ap (λ m. at (said ∷ log) (work_left active (work_of x.acting)) m (effect.Transferred x.id m)) (sym long)
          ∙ ap (λ m. at (said ∷ log) (work_left active (work_of x.acting)) m (effect.Transferred x.id (length values))) (sym (left_long active))
        where
          active : Bool
          active = is_active (here_of records service past x).role

          left_long : (t : Bool) → replayed_left t (length values) (length values) ≡ length values
          left_long true = refl
          left_long false = refl

          at : List (Rec Value StateValue) → Work → ℕ → Effect → CallHere
          at l w m e = call_at (record (here_of records service past (follower y.keeper)) { log = l; work = w; replayed = m }) ms (es ++ (e ∷ followed x.id (role_of x.acceptor x.proposer (is_some x.acting))))

      comes : so_far records service past z after ≡ rest (logged (rec_of service past r) None begun)
      comes =
          far records service past z after
          (told.effects_are ∙ ap (λ es. es ++ (effect.Transferred y.id k ∷ followed y.id (role_of y.acceptor y.proposer (is_some y.acting)))) h.1
          ∙ ap (λ n. before.effects.items ++ (effect.Transferred n.id k ∷ followed n.id (role_of n.acceptor n.proposer (is_some n.acting)))) h.0.parts)
          (ap (map (message_in past)) (told.sends_are ∙ h.2))
          ∙ ap (λ n. call_at (here_of records service past n) (map (message_in past) before.sends.items) (before.effects.items ++ (effect.Transferred x.id k ∷ followed x.id (role_of x.acceptor x.proposer (is_some x.acting))))) followed_at
          ∙ here_is _

      -- it is kept
      logged_here : IsLogged service (follower y.keeper) (said ∷ log)
      logged_here =
          let l = logged_of records service past x u in
          record {
            promised = l.promised;
            accepted = accepted_above _ _ (omega (arith, l.offset_is, l.low, l.few, more)) l.accepted
                ∙ ap (λ n. from_on (suc n) (last_accepted log)) (sym long);
            offset_is = sym long;
            low = le_refl k;
            known = refl;
            base = sym long;
            old_base = l.old_base;
            few = omega (arith, long);
            start = ap (λ vs. run service (start_of service) (trace_of vs)) (take_all k values (omega (arith, long))) ∙ leads;
            short = All-filter _ (λ q. IsValue q.value) x.acceptor.accepted l.short;
            fits = fits;
            numbers = record { ballots = l.numbers.ballots; instances = l.numbers.instances; few = omega (arith, long, there.last) };
          }

      follower_node : IsResting records service past (follower y.keeper)
      follower_node = record {
        id = node.id;
        few = node.few;
        up = λ t. up_of records service past _ (subst (IsLogged service (follower y.keeper)) (sym log_is) logged_here)
            (record {
              based = le_refl k;
              replayed = omega (arith, long);
              ahead = λ _. logged_here.start;
              caught_up = λ t. absurd (false≢true t);
              proposer = tt;
              acting = tt;
              stamped = tt;
              role = tt;
            });
        reached = tt;
        decoded = node.decoded;
        rests = λ t. tt;
      }

      pub moved_on : EndsWell records gives faults service past x z before after call
      moved_on =
          recorded_on gives faults y before mid node up spelling due stated call_is h after (ap (λ n. n.keeper) followed_at)
          (subst (IsResting records service past) (sym followed_at) follower_node) (ap (λ n. n.up) followed_at ∙ up) (λ f. refl) comes

-- ---- a state that is told

module _ {K : Type 0} {records : K → List (List ℕ)} (gives : K → List ℕ → Answer → K → Type 0) (faults : K → ℕ) {service : Declarations} {past : List Value} {x : NodeValue K} (node : IsResting records service past x) (up : x.up ≡ true) (before : Draft) (k : ℕ) where
  abbrev told_so_far : CallHere
  told_so_far = so_far records service past x before

  abbrev known_log : List (Rec Value StateValue)
  known_log = log_of service past (records x.keeper)

  -- it is ignored, or the state is written down
  abbrev ignores : ℕ → ℕ → CallHere → CallHere
  ignores n next d = say (effect.IgnoredInstance n next) d

  abbrev takes : Option Failure → CallHere → CallHere
  takes f d = append f x.id (Transferred (first k past) ((service_of service x.seed).state (first k past))) d (λ e. follow x.id (effect.Transferred x.id (length (first k past)) ∷ []) (with_replayed (length (first k past)) e))

  -- which it does is told by how much it knows
  decides : {t : Bool} → nat_le (length (first k past)) (length (known known_log)) ≡ t → (f : Option Failure) → on_snapshot (service_of service x.seed) x.id (first k past) (armed_with f told_so_far) ≡ cond t (ignores (length (first k past)) (suc (length (known known_log))) (armed_with f told_so_far)) (takes f (armed_with f told_so_far))
  decides e f = ap (λ t. cond t (ignores (length (first k past)) (suc (length (known known_log))) (armed_with f told_so_far)) (takes f (armed_with f told_so_far))) e

  -- the values before one that is taken over fit
  pub told_fits : length x.known < k → RunsOn service (on_snapshot (service_of service x.seed) x.id (first k past)) told_so_far → values_fit service (first k past) ≡ true
  told_fits more runs =
      subst (λ d. values_fit service (known d.node.log) ≡ true)
      (decides (lt-leb (length (first k past)) (length (known known_log)) (omega (arith, first_length k past, more, ap (λ vs. length vs) (node.up up).known))) None) runs

  -- one after no more values than are known is ignored
  pub snapshot_ignored : (after : Draft) {next : ℕ} → k ≤ length x.known → next ≡ length x.known + 1 → after.effects.items ≡ before.effects.items ++ effect.IgnoredInstance k next ∷ [] → after.sends.items ≡ before.sends.items
      → EndsWell records gives faults service past x x before after (on_snapshot (service_of service x.seed) x.id (first k past))
  snapshot_ignored after {next} few next_is effects sends =
      ends_same x before after refl node up
      (λ f. decides (le-leb (length (first k past)) (length (known known_log)) (omega (arith, first_length k past, few, ap (λ vs. length vs) (node.up up).known))) f
      ∙ ap (λ n. ignores n (suc (length (known known_log))) (armed_with f told_so_far)) (first_length k past)
      ∙ ap (λ n. ignores k n (armed_with f told_so_far)) (sym here)
      ∙ ap (armed_with f) (sym (far records service past x after effects (ap (map (message_in past)) sends))))
    where
      here : next ≡ suc (length (known known_log))
      here = let n : next ≡ suc (length x.known) = omega (arith, next_is) in n ∙ ap (λ vs. suc (length vs)) (node.up up).known
