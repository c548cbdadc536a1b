-- What node 1 and the others do on each message of an election and of an agreement.
use Rattle.std.proofs.Common.{◌≡◌, ℕ, zero, suc, ◌<◌, ◌≤◌, Bool, true, false, ◌⊎◌, List, [], ◌∷◌, ◌++◌, length, Option, Some, None, refl, sym, ◌∙◌, ap, subst, inl, inr, arith, append-nil, eq-eqb}
use Rattle.std.specs.Prelude.{◌*◌, nat_le}
use Rattle.std.proofs.lemmas.Bool.{cases_lt, le-ltb, lt-ltb}
use Rattle.rand_pcg.specs.Lcg.{Lcg}
use Rattle.rex_syntax.specs.declared.service.Declarations.{Declarations}
use Rattle.rex_event.specs.declared.event.Event.{Event}
use Rattle.rex_state.specs.Value.{StateValue}
use Rattle.rex_report.specs.declared.effect.Effect.{Effect}
use Rattle.rex_cluster.specs.Records.{Rec, Proposal, proposal_of, promise, accepted, offset, known}
use Rattle.rex_cluster.specs.Records.Rec.{Promised, Accepted, Known}
use Rattle.rex_cluster.specs.Quorum.{is_majority}
use Rattle.rex_cluster.specs.Node.{Message, Content, Lead, Role, dice_of, no_work}
use Rattle.rex_cluster.specs.Node.Role.{Follower, Leads}
use Rattle.rex_cluster.specs.Node.Content.{Prepare, Promise, Accept, Accepted as Voted, Chosen as Chose}
use Rattle.rex_cluster.specs.Calls.{begin, others, propose, settle, elect, receive, has_last}
use Rattle.rex_cluster.specs.Values.{Value, still_live, service_of}
use Rattle.rex_cluster.specs.Lanes.{Here}
use Rattle.rex_cluster.specs.Node.{new_node}
use Rattle.rex_steady.proofs.Majorities.{up_to, is_later, majority_is}

abbrev pub Log : Type 0
Log = List (Rec Value StateValue)

-- with ballot 17, nothing reported, no open proposal, and active
abbrev pub lead_of : List ℕ → Lead Value
lead_of counted = record { ballot = 17; counted = counted; reported = []; proposal = None; accepted_by = []; active = true }

-- a role with ballot 17 to which nothing was reported
abbrev pub lead_role : List ℕ → Option (Proposal Value) → List ℕ → Bool → Role Value
lead_role counted proposal accepted_by active = Leads (record { ballot = 17; counted = counted; reported = []; proposal = proposal; accepted_by = accepted_by; active = active })

-- node 1, with no request queued
abbrev pub lead_node : Log → Role Value → List Event → Lcg → ℕ → Here
lead_node log role live dice replayed = record { log = log; up = true; armed = None; role = role; work = record { queue = []; live = live; dice = dice }; replayed = replayed }

-- another node, which has replayed nothing
abbrev pub follow_node : Log → Here
follow_node log = record { log = log; up = true; armed = None; role = Follower; work = no_work; replayed = 0 }

-- ---- the others

module _ (service : Declarations) (seed n : ℕ) where
  pub prepared : (q : ℕ) → (receive n (service_of service seed) q 1 (Prepare 17 1) (begin new_node)).node ≡ follow_node (Promised 17 ∷ [])
  prepared q = refl

  pub prepared_sends : (q : ℕ) → (receive n (service_of service seed) q 1 (Prepare 17 1) (begin new_node)).sends ≡ record { from = q; to = 1; content = Promise 17 [] } ∷ []
  prepared_sends q = refl

  module _ (log : Log) (i : ℕ) (v : Value) (p : promise log ≡ 17) (o : nat_le i (offset log) ≡ false) (h : has_last 17 i (accepted log) ≡ false) where
    pub accepts : (q : ℕ) → (receive n (service_of service seed) q 1 (Accept 17 i v) (begin (follow_node log))).node ≡ follow_node (Accepted 17 i v ∷ log)
    accepts q = rw (p, o, h) refl

    pub accepts_sends : (q : ℕ) → (receive n (service_of service seed) q 1 (Accept 17 i v) (begin (follow_node log))).sends ≡ record { from = q; to = 1; content = Voted 17 i } ∷ []
    accepts_sends q = rw (p, o, h) refl

  module _ (log : Log) (i : ℕ) (v : Value) (e : i ≡ suc (length (known log))) where
    pub learns : (q : ℕ) → (receive n (service_of service seed) q 1 (Chose i v) (begin (follow_node log))).node ≡ follow_node (Known i v ∷ log)
    learns q = rw (eq-eqb i (suc (length (known log))) e) refl

    pub learns_sends : (q : ℕ) → (receive n (service_of service seed) q 1 (Chose i v) (begin (follow_node log))).sends ≡ []
    learns_sends q = rw (eq-eqb i (suc (length (known log))) e) refl

-- ---- node 1 in an election

module _ (service : Declarations) (seed n : ℕ) where
  abbrev pub candidate : List ℕ → Here
  candidate counted = lead_node (Promised 17 ∷ []) (lead_role counted None [] false) [] (dice_of 0 0) 0

  abbrev pub active_node : List ℕ → Here
  active_node counted = lead_node (Promised 17 ∷ []) (lead_role counted None [] true) [] (dice_of seed 17) 0

  -- with the promises of the nodes up to k it is a candidate, or active once they are a majority
  pub data Standing (k : ℕ) (x : Here) : Type 0 where
    Asks : 2 * k ≤ n → x ≡ candidate (up_to k) → Standing k x
    Acts : n < 2 * k → (counted : List ℕ) → x ≡ active_node counted → Standing k x

  pub record Elected (k : ℕ) (x : Here) (sends : List (Message Value)) : Type 0 where
    pub standing : Standing k x
    pub quiet : sends ≡ []

  pub elected_up : (k : ℕ) (x : Here) (sends : List (Message Value)) → Elected k x sends → x.up ≡ true
  elected_up k x sends h = go h.standing
    where
      go : Standing k x → x.up ≡ true
      go (Asks l e) = ap (λ (d : Here). d.up) e
      go (Acts l counted e) = ap (λ (d : Here). d.up) e

  is_more : (k : ℕ) → k ≤ n → n < 2 * k → is_majority n (up_to k) ≡ true
  is_more k l m = majority_is n k l ∙ lt-ltb n (2 * k) m

  is_less : (k : ℕ) → k ≤ n → 2 * k ≤ n → is_majority n (up_to k) ≡ false
  is_less k l m = majority_is n k l ∙ le-ltb n (2 * k) m

  -- it asks to lead
  pub stands : 1 ≤ n → Elected 1 (elect n (service_of service seed) 1 (begin new_node)).node []
  stands some = record { standing = go (cases_lt n 2); quiet = refl }
    where
      go : (n < 2) ⊎ (2 ≤ n) → Standing 1 (elect n (service_of service seed) 1 (begin new_node)).node
      go (inl l) = Acts l (1 ∷ []) (rw (is_more 1 some l) refl)
      go (inr l) = Asks l (rw (is_less 1 some l) refl)

  pub stands_sends : 1 ≤ n → (elect n (service_of service seed) 1 (begin new_node)).sends ≡ others n 1 (Prepare 17 1)
  stands_sends some = go (cases_lt n 2)
    where
      go : (n < 2) ⊎ (2 ≤ n) → (elect n (service_of service seed) 1 (begin new_node)).sends ≡ others n 1 (Prepare 17 1)
      go (inl l) = rw (is_more 1 some l) refl
      go (inr l) = rw (is_less 1 some l) refl

  -- a promise is counted, and comes too late once it is active
  hears : (k : ℕ) (x : Here) → suc k ≤ n → Standing k x → Standing (suc k) (receive n (service_of service seed) 1 (suc k) (Promise 17 []) (begin x)).node
  hears k x l (Asks m e) =
      subst (λ (d : Here). Standing (suc k) (receive n (service_of service seed) 1 (suc k) (Promise 17 []) (begin d)).node) (sym e) (go (cases_lt n (2 * suc k)))
    where
      go : (n < 2 * suc k) ⊎ (2 * suc k ≤ n) → Standing (suc k) (receive n (service_of service seed) 1 (suc k) (Promise 17 []) (begin (candidate (up_to k)))).node
      go (inl h) = Acts h (up_to (suc k)) (rw (is_later (suc k) k (omega arith), is_more (suc k) l h) refl)
      go (inr h) = Asks h (rw (is_later (suc k) k (omega arith), is_less (suc k) l h) refl)
  hears k x l (Acts m counted e) =
      subst (λ (d : Here). Standing (suc k) (receive n (service_of service seed) 1 (suc k) (Promise 17 []) (begin d)).node) (sym e) (Acts (omega (arith, m)) counted refl)

  hears_quiet : (k : ℕ) (x : Here) → suc k ≤ n → Standing k x → (receive n (service_of service seed) 1 (suc k) (Promise 17 []) (begin x)).sends ≡ []
  hears_quiet k x l (Asks m e) =
      subst (λ (d : Here). (receive n (service_of service seed) 1 (suc k) (Promise 17 []) (begin d)).sends ≡ []) (sym e) (go (cases_lt n (2 * suc k)))
    where
      go : (n < 2 * suc k) ⊎ (2 * suc k ≤ n) → (receive n (service_of service seed) 1 (suc k) (Promise 17 []) (begin (candidate (up_to k)))).sends ≡ []
      go (inl h) = rw (is_later (suc k) k (omega arith), is_more (suc k) l h) refl
      go (inr h) = rw (is_later (suc k) k (omega arith), is_less (suc k) l h) refl
  hears_quiet k x l (Acts m counted e) = subst (λ (d : Here). (receive n (service_of service seed) 1 (suc k) (Promise 17 []) (begin d)).sends ≡ []) (sym e) refl

  pub hears_on : (k : ℕ) (x : Here) (s : List (Message Value)) → 1 ≤ k → suc k ≤ n → Elected k x s
      → Elected (suc k) (receive n (service_of service seed) 1 (suc k) (Promise 17 []) (begin x)).node (s ++ (receive n (service_of service seed) 1 (suc k) (Promise 17 []) (begin x)).sends)
  hears_on k x s some l h = record {
    standing = hears k x l h.standing;
    quiet = ap (λ (ms : List (Message Value)). ms ++ (receive n (service_of service seed) 1 (suc k) (Promise 17 []) (begin x)).sends) h.quiet ∙ hears_quiet k x l h.standing;
  }

-- ---- node 1 in an agreement

module _ (service : Declarations) (seed n : ℕ) (log : Log) (i : ℕ) (v : Value) (counted : List ℕ) (live : List Event) (dice : Lcg) (replayed : ℕ) where
  -- its proposal is open, accepted by these nodes
  abbrev pub open_node : List ℕ → Here
  open_node accepted_by = lead_node (Accepted 17 i v ∷ log) (lead_role counted (Some (proposal_of 17 i v)) accepted_by true) live dice replayed

  -- its value is known
  abbrev pub known_node : Here
  known_node = lead_node (Known i v ∷ Accepted 17 i v ∷ log) (lead_role counted None [] true) (still_live service (known log ++ v ∷ []) live) dice i

  -- with the acceptances of the nodes up to k its proposal is open, or known and told once they are a majority
  pub data Agreed (k : ℕ) (x : Here) (sends : List (Message Value)) : Type 0 where
    Waits : 2 * k ≤ n → x ≡ open_node (up_to k) → sends ≡ [] → Agreed k x sends
    Knows : n < 2 * k → x ≡ known_node → sends ≡ others n 1 (Chose i v) → Agreed k x sends

  pub agreed_up : (k : ℕ) (x : Here) (sends : List (Message Value)) → Agreed k x sends → x.up ≡ true
  agreed_up k x sends (Waits l e s) = ap (λ (d : Here). d.up) e
  agreed_up k x sends (Knows l e s) = ap (λ (d : Here). d.up) e

  -- an acceptance is counted, and comes too late once the value is known
  pub counts_on : (k : ℕ) (x : Here) (s : List (Message Value)) → 1 ≤ k → suc k ≤ n → Agreed k x s
      → Agreed (suc k) (receive n (service_of service seed) 1 (suc k) (Voted 17 i) (begin x)).node (s ++ (receive n (service_of service seed) 1 (suc k) (Voted 17 i) (begin x)).sends)
  counts_on k x s some l (Waits m e q) =
      subst (λ (d : Here). Agreed (suc k) (receive n (service_of service seed) 1 (suc k) (Voted 17 i) (begin d)).node (s ++ (receive n (service_of service seed) 1 (suc k) (Voted 17 i) (begin d)).sends)) (sym e)
      (subst (λ (ms : List (Message Value)). Agreed (suc k) (receive n (service_of service seed) 1 (suc k) (Voted 17 i) (begin (open_node (up_to k)))).node (ms ++ (receive n (service_of service seed) 1 (suc k) (Voted 17 i) (begin (open_node (up_to k)))).sends)) (sym q)
      (go (cases_lt n (2 * suc k))))
    where
      go : (n < 2 * suc k) ⊎ (2 * suc k ≤ n)
          → Agreed (suc k) (receive n (service_of service seed) 1 (suc k) (Voted 17 i) (begin (open_node (up_to k)))).node (receive n (service_of service seed) 1 (suc k) (Voted 17 i) (begin (open_node (up_to k)))).sends
      go (inl h) = Knows h (rw (eq-eqb i i refl, is_later (suc k) k (omega arith), is_more service seed n (suc k) l h) refl) (rw (eq-eqb i i refl, is_later (suc k) k (omega arith), is_more service seed n (suc k) l h) refl)
      go (inr h) = Waits h (rw (eq-eqb i i refl, is_later (suc k) k (omega arith), is_less service seed n (suc k) l h) refl) (rw (eq-eqb i i refl, is_later (suc k) k (omega arith), is_less service seed n (suc k) l h) refl)
  counts_on k x s some l (Knows m e q) =
      subst (λ (d : Here). Agreed (suc k) (receive n (service_of service seed) 1 (suc k) (Voted 17 i) (begin d)).node (s ++ (receive n (service_of service seed) 1 (suc k) (Voted 17 i) (begin d)).sends)) (sym e)
      (Knows (omega (arith, m)) refl (append-nil s ∙ q))

  -- it proposes a value: the others are asked, and alone it knows it at once
  alone : (k : ℕ) → k < 2 → (c : Content Value) → others k 1 c ≡ []
  alone zero l c = refl
  alone (suc zero) l c = refl
  alone (suc (suc k)) l c = absurd (omega (arith, l))

  pub proposes : (told : Effect) → 1 ≤ n
      → Agreed 1 (propose n 1 told (begin (lead_node log (lead_role counted None [] true) live dice replayed)) (lead_of counted) i v (settle 3 n (service_of service seed) 1)).node []
  proposes told some = go (cases_lt n 2)
    where
      go : (n < 2) ⊎ (2 ≤ n) → Agreed 1 (propose n 1 told (begin (lead_node log (lead_role counted None [] true) live dice replayed)) (lead_of counted) i v (settle 3 n (service_of service seed) 1)).node []
      go (inl l) = Knows l (rw (is_more service seed n 1 some l) refl) (sym (alone n l (Chose i v)))
      go (inr l) = Waits l (rw (is_less service seed n 1 some l) refl) refl

  pub proposes_sends : (told : Effect) → 1 ≤ n
      → (propose n 1 told (begin (lead_node log (lead_role counted None [] true) live dice replayed)) (lead_of counted) i v (settle 3 n (service_of service seed) 1)).sends ≡ others n 1 (Accept 17 i v)
  proposes_sends told some = go (cases_lt n 2)
    where
      go : (n < 2) ⊎ (2 ≤ n) → (propose n 1 told (begin (lead_node log (lead_role counted None [] true) live dice replayed)) (lead_of counted) i v (settle 3 n (service_of service seed) 1)).sends ≡ others n 1 (Accept 17 i v)
      go (inl l) = rw (is_more service seed n 1 some l) (ap (λ (ms : List (Message Value)). others n 1 (Accept 17 i v) ++ ms) (alone n l (Chose i v)) ∙ append-nil (others n 1 (Accept 17 i v)))
      go (inr l) = rw (is_less service seed n 1 some l) refl
