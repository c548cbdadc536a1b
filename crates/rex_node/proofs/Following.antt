-- What a node is that leaves its role, with a record more or none.
use Rattle.rex_node.proofs.Common.{◌≡◌, ℕ, suc, ◌<◌, ◌≤◌, true, List, [], ◌∷◌, ◌++◌, length, take, Option, Some, None, refl, sym, ap, subst, ◌∙◌, arith, le_trans, map, is_some, option_map, if◌then◌else◌, lt-ltb, le-ltb, ne_eqb, false≢true, same_Some, AcceptorValue, ProposerValue, Declarations, StateValue, start_of, run, Effect, Answer, Rec, base, known, Known, Failure, Message, no_work, Follower, say, follow, followed, logged, work_left, replayed_left, with_role, append, on_chosen, on_nack, Value, trace_of, Here, CallHere, Draft, message_in, armed_with, Leads, Tells, so_far, log_of, NodeValue, IsUp, IsKept, IsResting, here_of, role_of, work_of, leaving, HasDecoded, IsDown, IsSame, most_nodes, HasGoneOn}
use Rattle.rex_report.specs.declared.effect.Effect.TheVariants as effect
use Rattle.rex_report.specs.declared.effect.Effect.TheVariants.{IgnoredBallot, IgnoredInstance}
use Rattle.rex_node.proofs.Appended.{IsLogged, Beside, call_at, beside_of, logged_as, up_of}
use Rattle.rex_node.proofs.GoingLemmas.{leads_same}
use Rattle.rex_node.proofs.Leaving.{role_active, no_work_left, replayed_from, replayed_to, state_left, leaves, node_left}
use Rattle.rex_node.proofs.Reaching.{bare_reached, still_reached}

-- ---- drafts

module _ {K : Type 0} (records : K → List (List ℕ)) (service : Declarations) (past : List Value) (x : NodeValue K) where
  -- a draft with these effects and messages
  pub far : (draft : Draft) {es : List Effect} {ms : List (Message Value)} → draft.effects.items ≡ es → map (message_in past) draft.sends.items ≡ ms → so_far records service past x draft ≡ call_at (here_of records service past x) ms es
  far draft {es} e m =
      ap (λ f. call_at (here_of records service past x) (map (message_in past) draft.sends.items) f) e
      ∙ ap (λ n. call_at (here_of records service past x) n es) m

module _ {K : Type 0} {records : K → List (List ℕ)} {service : Declarations} {past : List Value} {x : NodeValue K} where
  -- a node is kept within a call too
  pub within : IsResting records service past x → IsKept records service past x
  within h = record { id = h.id; few = h.few; up = h.up; reached = h.reached; decoded = h.decoded }

  -- and rests between calls where it has gone on
  pub kept_rests : IsKept records service past x → HasGoneOn x.proposer (is_some x.acting) → IsResting records service past x
  kept_rests h gone = record { id = h.id; few = h.few; up = h.up; reached = h.reached; decoded = h.decoded; rests = λ _. gone }

  -- the same node is kept where it is down
  pub down_kept : {y : NodeValue K} → IsKept records service past x → IsSame x y → IsDown y → IsResting records service past y
  down_kept {y} kept same down = record {
    id = subst (λ n. (0 < n) × (n ≤ y.nodes)) (sym same.id) (subst (λ n. (0 < x.id) × (x.id ≤ n)) (sym same.nodes) kept.id);
    few = subst (λ n. n ≤ most_nodes) (sym same.nodes) kept.few;
    up = λ t. absurd (false≢true (sym down.down ∙ t));
    reached = bare_reached service y.offset y.known down.bare;
    decoded = subst (HasDecoded service) (sym same.decoded) kept.decoded;
    rests = λ t. absurd (false≢true (sym down.down ∙ t));
  }

-- ---- the last part of a call

module _ {K : Type 0} (records : K → List (List ℕ)) (gives : K → List ℕ → Answer → K → Type 0) (faults : K → ℕ) (service : Declarations) (past : List Value) (x z : NodeValue K) (before after : Draft) where
  -- what is owed of it where it went well
  abbrev pub EndsWell : (CallHere → CallHere) → Type 0
  EndsWell whole = (Leads records gives faults service whole (λ d. d) x.keeper z.keeper (so_far records service past x before) (so_far records service past z after) × IsKept records service past z × (z.up ≡ true)) × IsResting records service past z

-- where nothing was appended
pub ends_same : {K : Type 0} {records : K → List (List ℕ)} {gives : K → List ℕ → Answer → K → Type 0} {faults : K → ℕ} {service : Declarations} {past : List Value} (x : NodeValue K) {z : NodeValue K} (before after : Draft) {whole : CallHere → CallHere} → z.keeper ≡ x.keeper → IsResting records service past z → z.up ≡ true
    → ((f : Option Failure) → whole (armed_with f (so_far records service past x before)) ≡ armed_with f (so_far records service past z after)) → EndsWell records gives faults service past x z before after whole
ends_same {records} {gives} {faults} {service} {past} x {z} before after {whole} same node up h = (
  (
    subst (λ k. Leads records gives faults service whole (λ d. d) x.keeper k (so_far records service past x before) (so_far records service past z after)) (sym same)
        (leads_same (ap (λ k. length (log_of service past (records k))) same) h),
    within node,
    up,
  ),
  node,
)

-- ---- a refusal of the own ballot

module _ {K : Type 0} {records : K → List (List ℕ)} (gives : K → List ℕ → Answer → K → Type 0) (faults : K → ℕ) {service : Declarations} {past : List Value} {x : NodeValue K} (node : IsResting records service past x) (up : x.up ≡ true) (before after : Draft) (promised : ℕ) {own : ℕ} (own_is : option_map (λ (p : ProposerValue). p.ballot) x.proposer ≡ Some own) where
  abbrev begun : CallHere
  begun = so_far records service past x before

  nack_at : Option Failure → Option ProposerValue → CallHere
  nack_at f o = on_nack x.id promised (armed_with f begun) (role_of x.acceptor o (is_some x.acting))

  -- one that isn't above it is ignored
  pub nack_ignored : promised ≤ own → after.effects.items ≡ before.effects.items ++ IgnoredBallot promised own ∷ [] → after.sends.items ≡ before.sends.items
      → EndsWell records gives faults service past x x before after (λ d. on_nack x.id promised d d.node.role)
  nack_ignored less effects sends =
      ends_same x before after refl node up
      (λ f. by f x.proposer own_is ∙ ap (armed_with f) (sym (far records service past x after effects (ap (map (message_in past)) sends))))
    where
      by : (f : Option Failure) (o : Option ProposerValue) → option_map (λ p. p.ballot) o ≡ Some own
          → on_nack x.id promised (armed_with f begun) (role_of x.acceptor o (is_some x.acting)) ≡ armed_with f (say (IgnoredBallot promised own) begun)
      by f None e = absurd (cc)
      by f (Some p) e =
          let b : p.ballot ≡ own = same_Some p.ballot own e in
          ap (λ t. if t then follow x.id [] (armed_with f begun) else say (IgnoredBallot promised p.ballot) (armed_with f begun))
          (le-ltb p.ballot promised (omega (arith, b)))
          ∙ ap (λ c. say (IgnoredBallot promised c) (armed_with f begun)) b

  -- one above it makes the node a follower
  pub nack_follows : {z : NodeValue K} → own < promised → z ≡ leaving x → Tells before after (followed x.id (role_of x.acceptor x.proposer (is_some x.acting)))
      → EndsWell records gives faults service past x z before after (λ d. on_nack x.id promised d d.node.role)
  nack_follows less z_is told =
      subst (λ n. EndsWell records gives faults service past x n before after (λ d. on_nack x.id promised d d.node.role)) (sym z_is)
      (ends_same x before after refl (node_left node) up
      (λ f. by f x.proposer own_is ∙ ap (armed_with f) (sym left)))
    where
      left : so_far records service past (leaving x) after ≡ follow x.id [] begun
      left =
          far records service past (leaving x) after told.effects_are (ap (map (message_in past)) told.sends_are)
          ∙ ap (λ h. call_at h (map (message_in past) before.sends.items) (before.effects.items ++ followed x.id (role_of x.acceptor x.proposer (is_some x.acting)))) (leaves records past (node.up up))

      by : (f : Option Failure) (o : Option ProposerValue) → option_map (λ p. p.ballot) o ≡ Some own
          → on_nack x.id promised (armed_with f begun) (role_of x.acceptor o (is_some x.acting)) ≡ armed_with f (follow x.id [] begun)
      by f None e = absurd (cc)
      by f (Some p) e =
          let b : p.ballot ≡ own = same_Some p.ballot own e in
          ap (λ t. if t then follow x.id [] (armed_with f begun) else say (IgnoredBallot promised p.ballot) (armed_with f begun))
          (lt-ltb p.ballot promised (omega (arith, b)))

-- ---- a chosen value of another instance than the next

module _ {K : Type 0} {records : K → List (List ℕ)} (gives : K → List ℕ → Answer → K → Type 0) (faults : K → ℕ) {service : Declarations} {past : List Value} {x : NodeValue K} (node : IsResting records service past x) (up : x.up ≡ true) (before after : Draft) (i next : ℕ) (v : Value) where
  -- it is ignored
  pub chosen_ignored : next ≡ suc (length x.known) → (i ≡ next → ⊥) → after.effects.items ≡ before.effects.items ++ IgnoredInstance i next ∷ [] → after.sends.items ≡ before.sends.items
      → EndsWell records gives faults service past x x before after (on_chosen x.id i v)
  chosen_ignored next_is other effects sends =
      ends_same x before after refl node up
      (λ f.
      ap (λ t. if t then append f x.id (Known i v) (armed_with f (so_far records service past x before)) (λ e. follow x.id (effect.Known x.id i ∷ []) e) else say (IgnoredInstance i (suc (length (known (here_of records service past x).log)))) (armed_with f (so_far records service past x before)))
      (ne_eqb i (suc (length (known (here_of records service past x).log))) (λ e. other (e ∙ sym here)))
      ∙ ap (λ n. say (IgnoredInstance i n) (armed_with f (so_far records service past x before))) (sym here)
      ∙ ap (armed_with f) (sym (far records service past x after effects (ap (map (message_in past)) sends))))
    where
      here : next ≡ suc (length (known (here_of records service past x).log))
      here = next_is ∙ ap (λ vs. suc (length vs)) (node.up up).known

-- ---- a follower with one record more

module _ {K : Type 0} {records : K → List (List ℕ)} {service : Declarations} {past : List Value} {x : NodeValue K} (node : IsResting records service past x) (up : x.up ≡ true) (k : K) {r : Rec Value StateValue} {a : AcceptorValue} {vs : List Value}
    (log_is : log_of service past (records k) ≡ r ∷ log_of service past (records x.keeper)) (base_is : base (r ∷ log_of service past (records x.keeper)) ≡ base (log_of service past (records x.keeper)))
    (logged_here : IsLogged service (record x { acceptor = a; known = vs }) (r ∷ log_of service past (records x.keeper)))
    (more : length x.known ≤ length vs) (front : (n : ℕ) → n ≤ length x.known → take n vs ≡ take n x.known) where
  u : IsUp service x (here_of records service past x)
  u = node.up up

  -- it has the record, and what follows from it
  abbrev pub follower : NodeValue K
  follower = record (leaving x) { keeper = k; acceptor = a; known = vs }

  -- it is in the model the node that follows after the record
  pub follower_here : (ms : List (Message Value)) (es : List Effect) → here_of records service past follower ≡ (with_role Follower (logged r None (call_at (here_of records service past x) ms es))).node
  follower_here ms es =
      ap (λ l. record (here_of records service past (leaving x)) { log = l }) log_is
      ∙ ap (λ b. record h { log = r ∷ h.log; role = Follower; work = no_work; replayed = replayed_left (is_some x.acting) b x.replayed }) (u.base ∙ sym base_is)
      ∙ ap (λ work. record h { log = r ∷ h.log; role = Follower; work = work; replayed = replayed_left (is_some x.acting) (base (r ∷ h.log)) x.replayed }) (sym (no_work_left x.acting))
      ∙ ap (λ t. record h { log = r ∷ h.log; role = Follower; work = work_left t (work_of x.acting); replayed = replayed_left t (base (r ∷ h.log)) x.replayed }) (sym (role_active service x.known x.acceptor _ x.acting u.acting))
    where
      h : Here
      h = here_of records service past x

  pub follower_node : IsResting records service past follower
  follower_node = record { id = node.id; few = node.few; up = λ t. follower_up; reached = still_reached service x.offset x.reached more front node.reached; decoded = node.decoded; rests = λ t. tt }
    where
      b : Beside records service past x
      b = beside_of records service past x u

      to : replayed_left (is_some x.acting) x.base x.replayed ≤ length x.known
      to = replayed_to x.acting b.based b.replayed

      follower_up : IsUp service follower (here_of records service past follower)
      follower_up =
          up_of records service past follower
          (logged_as refl (subst (IsLogged service (record x { acceptor = a; known = vs })) (sym log_is) logged_here))
          (record {
            based = replayed_from x.acting b.based;
            replayed = le_trans to more;
            ahead = λ _. ap (λ us. run service (start_of service) (trace_of us)) (front (replayed_left (is_some x.acting) x.base x.replayed) to)
                ∙ state_left (λ n s. run service (start_of service) (trace_of (take n x.known)) ≡ Some s) x.acting x.ahead u.start u.ahead;
            caught_up = λ t. absurd (false≢true t);
            proposer = tt;
            acting = tt;
            stamped = tt;
            role = tt;
          })
