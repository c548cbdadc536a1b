-- A last part of a call that writes one record.
use Rattle.rex_node.proofs.Common.{◌≡◌, ℕ, ◌≤◌, true, inr, List, [], ◌∷◌, ◌++◌, length, take, Option, None, sym, ap, subst, ◌∙◌, map, is_some, false≢true, map-append, Content, AcceptorValue, Declarations, StateValue, KeptRec, HasSpelling, IsDue, record_bytes, Effect, Answer, Rec, base, Failure, answer, append, follow, followed, logged, send, Value, CallHere, Draft, On, Down, content_in, message_in, armed_with, Appends, IsStuck, LosesFirst, Sends, Tells, answering, so_far, log_of, rec_of, standing_in, NodeValue, IsUp, IsResting, here_of, role_of, leaving, is_stated, Ends}
use Rattle.rex_node.proofs.Appended.{IsLogged, call_at, appended_breaks, appended_log, appended_here, appended_leads, appended_fell}
use Rattle.rex_node.proofs.Continuing.{ends_then}
use Rattle.rex_node.proofs.Following.{EndsWell, ends_same, far, follower_here, follower_node}

-- ---- more messages

module _ {K : Type 0} (records : K → List (List ℕ)) (service : Declarations) (past : List Value) (z : NodeValue K) (before after : Draft) (to : ℕ) (content : Content) where
  -- one more message is sent in the model too
  pub sends_to : Sends before after (answering z.id to content) → so_far records service past z after ≡ send (so_far records service past z before) (answer z.id to (content_in past content))
  sends_to s = far records service past z after s.effects_are (ap (map (message_in past)) s.sends_are ∙ map-append (message_in past) before.sends.items (answering z.id to content))

-- ---- one record

module _ {K : Type 0} {records : K → List (List ℕ)} (gives : K → List ℕ → Answer → K → Type 0) (faults : K → ℕ) {service : Declarations} {past : List Value} {x : NodeValue K} (y : NodeValue K) (before mid : Draft) (node : IsResting records service past x) (up : x.up ≡ true)
    {r : KeptRec} (spelling : HasSpelling r) (due : IsDue (standing_in (log_of service past (records x.keeper))) r) (stated : is_stated service (record_bytes r) ≡ true) where
  abbrev log : List (Rec Value StateValue)
  log = log_of service past (records x.keeper)

  abbrev begun : CallHere
  begun = so_far records service past x before

  abbrev one : Rec Value StateValue
  one = rec_of service past r

  u : IsUp service x (here_of records service past x)
  u = node.up up

  -- the call ends with the record
  pub recorded_on : {whole k : CallHere → CallHere} → ((f : Option Failure) → whole (armed_with f begun) ≡ append f x.id one (armed_with f begun) k) → Appends records faults gives x y before mid (record_bytes r) On → {z : NodeValue K} (after : Draft) → z.keeper ≡ y.keeper → IsResting records service past z → z.up ≡ true
      → ((f : Option Failure) → k (armed_with f (logged one None begun)) ≡ armed_with f (k (logged one None begun)))
      → so_far records service past z after ≡ k (logged one None begun) → EndsWell records gives faults service past x z before after whole
  recorded_on {k} is h after keeper n t arms e =
      ends_then x y before mid after On (ap (λ m. m.id) h.0.parts) (appended_leads records gives faults service past x y before mid spelling due stated is h)
      (ends_same y mid after keeper n t (λ f. ap (λ d. k (armed_with f d)) (appended_here records gives faults service past x y before mid spelling due stated h) ∙ arms f ∙ ap (armed_with f) (sym e)))

  -- of another kind than a checkpoint
  module _ (plain : base (one ∷ log) ≡ base log) where
    module _ {whole k : CallHere → CallHere} (is : (f : Option Failure) → whole (armed_with f begun) ≡ append f x.id one (armed_with f begun) k) where
      -- the append failed
      pub recorded_down : Appends records faults gives x y before mid (record_bytes r) Down
          → Ends records gives faults service past whole x y before mid Down
      recorded_down h = (
        (appended_fell records gives faults service past x y before mid spelling due stated is u.base plain h, record { down = ap (λ n. n.up) h.0.parts; bare = ap (λ n. n.reached) h.0.parts }),
        subst (IsResting records service past) (sym h.0.parts) (record { id = node.id; few = node.few; up = λ t. absurd (false≢true t); reached = tt; decoded = node.decoded; rests = λ t. absurd (false≢true t) }),
      )

      -- the record is there when memory is short
      pub recorded_stuck : Appends records faults gives x y before mid (record_bytes r) On → LosesFirst k → {z : NodeValue K} → z.keeper ≡ y.keeper → z.base ≡ y.base → IsStuck records gives faults service past whole x z before
      recorded_stuck h loses keeper based = inr (appended_breaks records gives faults service past x y before mid spelling due stated is h loses keeper (based ∙ ap (λ n. n.base) h.0.parts ∙ u.base ∙ sym plain))

    -- ---- the node leaves its role then

    module _ (h : Appends records faults gives x y before mid (record_bytes r) On) {a : AcceptorValue} {vs : List Value}
        (logged_here : IsLogged service (record x { acceptor = a; known = vs }) (one ∷ log))
        (more : length x.known ≤ length vs) (front : (n : ℕ) → n ≤ length x.known → take n vs ≡ take n x.known)
        {z : NodeValue K} (z_is : z ≡ record (leaving x) { keeper = y.keeper; acceptor = a; known = vs }) where
      grown : log_of service past (records y.keeper) ≡ one ∷ log
      grown = appended_log records gives faults service past x y before mid spelling due stated h

      -- the call ends with it
      pub follows_on : {whole k : CallHere → CallHere} → ((f : Option Failure) → whole (armed_with f begun) ≡ append f x.id one (armed_with f begun) k) → (after : Draft)
          → ((f : Option Failure) → k (armed_with f (logged one None begun)) ≡ armed_with f (k (logged one None begun)))
          → so_far records service past z after ≡ k (logged one None begun) → EndsWell records gives faults service past x z before after whole
      follows_on is after =
          recorded_on is h after (ap (λ n. n.keeper) z_is)
          (subst (IsResting records service past) (sym z_is) (follower_node node up y.keeper grown plain logged_here more front))
          (ap (λ n. n.up) z_is ∙ up)

      -- it has told what it did, and that it follows
      pub follows_to : {after : Draft} (cause : ℕ → Effect) → Tells mid after (cause y.id ∷ followed y.id (role_of y.acceptor y.proposer (is_some y.acting)))
          → so_far records service past z after ≡ follow x.id (cause x.id ∷ []) (logged one None begun)
      follows_to {after} cause t =
          far records service past z after
          (t.effects_are ∙ ap (λ es. es ++ (cause y.id ∷ followed y.id (role_of y.acceptor y.proposer (is_some y.acting)))) h.1
          ∙ ap (λ n. before.effects.items ++ (cause n.id ∷ followed n.id (role_of n.acceptor n.proposer (is_some n.acting)))) h.0.parts)
          (ap (map (message_in past)) (t.sends_are ∙ h.2))
          ∙ ap (λ n. call_at n (map (message_in past) before.sends.items) (before.effects.items ++ (cause x.id ∷ followed x.id (role_of x.acceptor x.proposer (is_some x.acting)))))
          (ap (here_of records service past) z_is
          ∙ follower_here node up y.keeper grown plain logged_here more front (map (message_in past) before.sends.items) before.effects.items)
