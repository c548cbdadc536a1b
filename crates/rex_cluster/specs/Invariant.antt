-- What every run keeps, in the form that each step keeps: what the records say, what a node that leads may rely on, and what the records say for each message.
use Rattle.std.specs.Prelude.{◌≡◌, ◌≢◌, ◌==◌, ℕ, suc, ◌<◌, ◌≤◌, Bool, true, ◌⊎◌, List, [], ◌∷◌, ◌++◌, length, take, Option, Some, None, if◌then◌else◌}
use Rattle.rex_cluster.specs.Records.{Rec, Proposal, promise, known, base, offset, HasAccepted, HasKnown, HasBallot}
use Rattle.rex_cluster.specs.Records.Rec.{Promised, Accepted, Known, Checkpoint, Dropped, Transferred}
use Rattle.rex_cluster.specs.Quorum.{IsNode, Quorum, Logs, Chosen, ChosenBy, AllChosen, AllChosenBy, AllGiven, node_of, is_in, is_majority}
use Rattle.rex_cluster.specs.Node.{Service, Content, Message, Lead, Role, Node}
use Rattle.rex_cluster.specs.Node.Content.{Prepare, Promise, Accept, Accepted as Voted, Chosen as Chose, Nack, Ask, Snapshot}
use Rattle.rex_cluster.specs.Node.Role.{Follower, Leads}
use Rattle.rex_cluster.specs.Calls.{Call}

-- it is in the list
abbrev pub IsIn : {A : Type 0} → A → List A → Type 0
IsIn x [] = ⊥
IsIn x (y ∷ ys) = (x ≡ y) ⊎ IsIn x ys

-- a list begins with another one
abbrev pub Begins : {A : Type 0} → List A → List A → Type 0
Begins {A} front whole = (rest : List A) × (front ++ rest ≡ whole)

module _ {V : Type 0} where
  -- a proposal for instance i at ballot c or above is in the list
  pub record Covers (ps : List (Proposal V)) (i c : ℕ) : Type 0 where
    pub it : Proposal V
    pub inside : IsIn it ps
    pub at : it.instance ≡ i
    pub above : c ≤ it.ballot

  -- the open proposal is of this instance and value
  abbrev pub IsOpen : Option (Proposal V) → ℕ → V → Type 0
  IsOpen None i v = ⊥
  IsOpen (Some p) i v = (p.instance ≡ i) × (p.value ≡ v)

  -- a majority was counted, and nothing was reported past what the node knows
  pub record IsReady (n done : ℕ) (counted : List ℕ) (reported : List (Proposal V)) : Type 0 where
    pub majority : is_majority n counted ≡ true
    pub nothing : (p : Proposal V) → IsIn p reported → p.instance ≤ done

module _ {V S : Type 0} where
  -- ---- records

  -- one node's records are other ones
  abbrev pub with_log : Logs V S → ℕ → List (Rec V S) → Logs V S
  with_log L m log q = if q == m then log else L q

  -- an acceptance is at the promise or above; the n-th known value is of instance n; a checkpoint is of the state after values that are known, those that aren't held among them; what is dropped are the values up to the base; and values that are taken over go on from those that are known, and come with the state after them
  abbrev pub AreRecords : Service V S → List (Rec V S) → Type 0
  AreRecords sv [] = Unit {0}
  AreRecords sv (Promised c ∷ log) = AreRecords sv log
  AreRecords sv (Accepted c j w ∷ log) = (promise log ≤ c) × AreRecords sv log
  AreRecords sv (Known j w ∷ log) = (j ≡ suc (length (known log))) × AreRecords sv log
  AreRecords sv (Checkpoint version k s ∷ log) = ((0 < k) × (offset log ≤ k) × (k ≤ length (known log)) × (s ≡ sv.state (take k (known log)))) × AreRecords sv log
  AreRecords sv (Dropped k ∷ log) = ((offset log < k) × (k ≡ base log)) × AreRecords sv log
  AreRecords sv (Transferred values s ∷ log) = ((length (known log) < length values) × Begins (known log) values × (s ≡ sv.state values)) × AreRecords sv log

  -- no record of the nodes in who has a value for the instance below the ballot
  abbrev pub NoneBelow : ℕ → Logs V S → ℕ → ℕ → (ℕ → Bool) → Type 0
  NoneBelow n L b i who = (m : ℕ) → IsNode n m → who m ≡ true → (c : ℕ) (w : V) → c < b → HasAccepted c i w (L m) → ⊥

  -- the value is that of the greatest ballot below b among those of the nodes in who
  pub record IsGreatest (n : ℕ) (L : Logs V S) (b i : ℕ) (v : V) (who : ℕ → Bool) : Type 0 where
    pub node : ℕ
    pub ballot : ℕ
    pub node-in : IsNode n node
    pub counted : who node ≡ true
    pub below : ballot < b
    pub has : HasAccepted ballot i v (L node)
    pub most : (m : ℕ) → IsNode n m → who m ≡ true → (c : ℕ) (w : V) → c < b → HasAccepted c i w (L m) → c ≤ ballot

  -- the value may be proposed at the ballot: a majority promised the ballot or more, and none of it accepted a value for the instance below it, or the value is that of the greatest ballot below it
  pub record IsSafeAt (n : ℕ) (L : Logs V S) (b i : ℕ) (v : V) : Type 0 where
    pub quorum : Quorum n (λ m. b ≤ promise (L m))
    pub pick : NoneBelow n L b i quorum.who ⊎ IsGreatest n L b i v quorum.who

  -- the value was proposed after values that were chosen at the ballot or below, from whose state it runs
  pub record Prior (n : ℕ) (sv : Service V S) (L : Logs V S) (b i : ℕ) (v : V) : Type 0 where
    pub values : List V
    pub place : i ≡ suc (length values)
    pub chosen : AllChosenBy n L b 1 values
    pub fits : sv.fits (values ++ v ∷ []) ≡ true

  -- of all nodes' records: a ballot was promised by its own node; what was accepted was accepted by the ballot's own node too, which has one value for a ballot and an instance, one that is safe at the ballot, after chosen values; what is known is chosen, and was given its instance by a record; and so a record gives an instance a chosen value
  pub record AreSafe (n : ℕ) (sv : Service V S) (L : Logs V S) : Type 0 where
    pub sorted : (m : ℕ) → IsNode n m → AreRecords sv (L m)
    pub seen : (m b : ℕ) → IsNode n m → HasBallot b (L m) → IsNode n (node_of b) × (b ≤ promise (L (node_of b)))
    pub own : (m b i : ℕ) (v : V) → IsNode n m → HasAccepted b i v (L m) → IsNode n (node_of b) × HasAccepted b i v (L (node_of b))
    pub one : (b i : ℕ) (v w : V) → HasAccepted b i v (L (node_of b)) → HasAccepted b i w (L (node_of b)) → v ≡ w
    pub safe_at : (b i : ℕ) (v : V) → IsNode n (node_of b) → HasAccepted b i v (L (node_of b)) → IsSafeAt n L b i v
    pub prior : (b i : ℕ) (v : V) → IsNode n (node_of b) → HasAccepted b i v (L (node_of b)) → Prior n sv L b i v
    pub knows : (m : ℕ) → IsNode n m → AllChosen n L 1 (known (L m))
    pub given : (m : ℕ) → IsNode n m → AllGiven n L 1 (known (L m))
    pub gives : (m i : ℕ) (v : V) → IsNode n m → HasKnown i v (L m) → Chosen n L i v × (i ≤ length (known (L m)))

  -- what no record undoes
  pub record IsLonger (log more : List (Rec V S)) : Type 0 where
    pub keeps : (b i : ℕ) (v : V) → HasAccepted b i v log → HasAccepted b i v more
    pub rises : promise log ≤ promise more
    pub fresh : (b i : ℕ) (v : V) → HasAccepted b i v more → HasAccepted b i v log ⊎ (promise log ≤ b)
    pub has : (b : ℕ) → HasBallot b log → HasBallot b more
    pub had : (b : ℕ) → b < promise log → HasBallot b more → HasBallot b log
    pub learns : Begins (known log) (known more)
    pub gives : (i : ℕ) (v : V) → HasKnown i v log → HasKnown i v more

  pub record Grows (L M : Logs V S) : Type 0 where
    pub at : (m : ℕ) → IsLonger (L m) (M m)

  -- ---- a node that leads

  -- node q promised b, and the list covers what it accepted below b past what the leading node knows
  pub record HasHeard (L : Logs V S) (done b : ℕ) (ps : List (Proposal V)) (q : ℕ) : Type 0 where
    pub promised : HasBallot b (L q)
    pub covers : (c i : ℕ) (w : V) → done < i → c < b → HasAccepted c i w (L q) → Covers ps i c

  -- a reported proposal is a record of a node that was counted; past what the leading node knows it is below b
  pub record WasReported (n : ℕ) (L : Logs V S) (done b : ℕ) (nodes : List ℕ) (p : Proposal V) : Type 0 where
    pub node : ℕ
    pub node-in : IsNode n node
    pub counted : is_in node nodes ≡ true
    pub has : HasAccepted p.ballot p.instance p.value (L node)
    pub below : done < p.instance → p.ballot < b

  -- an open proposal is of the next instance, and those who are counted for it accepted it
  pub record Open (n : ℕ) (L : Logs V S) (log : List (Rec V S)) (b : ℕ) (accepted_by : List ℕ) (p : Proposal V) : Type 0 where
    pub next : p.instance ≡ suc (length (known log))
    pub own : HasAccepted b p.instance p.value log
    pub acked : (q : ℕ) → IsNode n q → is_in q accepted_by ≡ true → HasAccepted b p.instance p.value (L q)

  abbrev pub IsRightOpen : ℕ → Logs V S → List (Rec V S) → ℕ → List ℕ → Option (Proposal V) → Type 0
  IsRightOpen n L log b accepted_by None = Unit {0}
  IsRightOpen n L log b accepted_by (Some p) = Open n L log b accepted_by p

  -- a majority chose the value for the instance above b, and will never promise b
  pub record ChosenPast (n : ℕ) (L : Logs V S) (b i : ℕ) (v : V) : Type 0 where
    pub ballot : ℕ
    pub above : b < ballot
    pub quorum : Quorum n (λ q. HasAccepted ballot i v (L q) × (b < promise (L q)) × (HasBallot b (L q) → ⊥))

  -- the values were chosen at b or below, or by such majorities, for the instances from k on
  abbrev pub AllLearned : ℕ → Logs V S → ℕ → ℕ → List V → Type 0
  AllLearned n L b k [] = Unit {0}
  AllLearned n L b k (v ∷ vs) = (ChosenBy n L b k v ⊎ ChosenPast n L b k v) × AllLearned n L b (suc k) vs

  pub record LeadsRightly (n : ℕ) (L : Logs V S) (log : List (Rec V S)) (m : ℕ) (l : Lead V) : Type 0 where
    pub promised : promise log ≡ l.ballot
    pub owned : node_of l.ballot ≡ m
    pub past : (i : ℕ) (v : V) → length (known log) < i → HasAccepted l.ballot i v log → IsOpen l.proposal i v
    pub heard : (q : ℕ) → IsNode n q → is_in q l.counted ≡ true → HasHeard L (length (known log)) l.ballot l.reported q
    pub said : (p : Proposal V) → IsIn p l.reported → WasReported n L (length (known log)) l.ballot l.counted p
    pub pending : IsRightOpen n L log l.ballot l.accepted_by l.proposal
    pub knows : AllLearned n L l.ballot 1 (known log)
    pub counted : (p : Proposal V) → l.proposal ≡ Some p → is_majority n l.counted ≡ true
    pub ready : l.active ≡ true → IsReady n (length (known log)) l.counted l.reported

  abbrev pub IsRightRole : ℕ → Logs V S → List (Rec V S) → ℕ → Role V → Type 0
  IsRightRole n L log m Follower = Unit {0}
  IsRightRole n L log m (Leads l) = LeadsRightly n L log m l

  -- a node has replayed its base or more, and no more than it knows
  pub record IsReplayed (x : Node V S) : Type 0 where
    pub based : base x.log ≤ x.replayed
    pub replayed : x.replayed ≤ length (known x.log)

  -- ---- messages

  pub record IsRightPromise (n : ℕ) (L : Logs V S) (from b : ℕ) (ps : List (Proposal V)) : Type 0 where
    pub from-in : IsNode n from
    pub heard : HasHeard L (length (known (L (node_of b)))) b ps from
    pub real : (p : Proposal V) → IsIn p ps → HasAccepted p.ballot p.instance p.value (L from) × (p.ballot ≤ b)

  -- values that are told with the state after them are chosen, and records gave them their instances
  pub record IsRightSnapshot (n : ℕ) (L : Logs V S) (values : List V) : Type 0 where
    pub chosen : AllChosen n L 1 values
    pub given : AllGiven n L 1 values

  -- what the records say for a message
  abbrev pub IsJustified : ℕ → Logs V S → ℕ → Content V → Type 0
  IsJustified n L from (Prepare b first) = (0 < b) × IsNode n (node_of b) × (b ≤ promise (L (node_of b))) × (first ≤ suc (length (known (L (node_of b)))))
  IsJustified n L from (Promise b ps) = IsRightPromise n L from b ps
  IsJustified n L from (Accept b i v) = IsNode n (node_of b) × HasAccepted b i v (L (node_of b))
  IsJustified n L from (Voted b i) = IsNode n from × ((v : V) × HasAccepted b i v (L from))
  IsJustified n L from (Chose i v) = Chosen n L i v
  IsJustified n L from (Nack b p) = Unit {0}
  IsJustified n L from (Ask first) = Unit {0}
  IsJustified n L from (Snapshot values) = IsRightSnapshot n L values

  abbrev pub AreJustified : ℕ → Logs V S → List (Message V) → Type 0
  AreJustified n L ms = (x : Message V) → IsIn x ms → IsJustified n L x.from x.content

  -- ---- the cluster

  pub record IsCluster (n : ℕ) (sv : Service V S) (L : Logs V S) (R : ℕ → Role V) (ms : List (Message V)) : Type 0 where
    pub safe : AreSafe n sv L
    pub roles : (q : ℕ) → IsNode n q → IsRightRole n L (L q) q (R q)
    pub messages : AreJustified n L ms

  -- the same within a call of node m
  pub record KeepsAll (n : ℕ) (sv : Service V S) (L : Logs V S) (R : ℕ → Role V) (ms : List (Message V)) (m : ℕ) (d : Call V S) : Type 0 where
    pub safe : AreSafe n sv (with_log L m d.node.log)
    pub role : IsRightRole n (with_log L m d.node.log) d.node.log m d.node.role
    pub here : IsReplayed d.node
    pub others : (q : ℕ) → IsNode n q → q ≢ m → IsRightRole n (with_log L m d.node.log) (L q) q (R q)
    pub old : AreJustified n (with_log L m d.node.log) ms
    pub grows : Grows L (with_log L m d.node.log)
    pub out : AreJustified n (with_log L m d.node.log) d.sends
