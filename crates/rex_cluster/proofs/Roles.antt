-- What records more leave of roles and messages, and a record more within a call.
use Rattle.std.proofs.Common.{◌≡◌, ℕ, zero, suc, ◌<◌, ◌≤◌, ◌≢◌, Bool, true, false, cond, ◌⊎◌, List, [], ◌∷◌, ◌++◌, length, Option, Some, None, eqb, refl, sym, ◌∙◌, ap, subst, inl, inr, arith, le_trans, le_refl, lt_of_lt_of_le, suc-le-suc, eq-eqb}
use Rattle.std.proofs.lemmas.Bool.{ne_eqb}
use Rattle.rex_report.specs.declared.effect.Effect.{Effect}
use Rattle.rex_cluster.specs.Records.{Rec, Proposal, promise, known, HasAccepted}
use Rattle.rex_cluster.specs.Quorum.{IsNode, Logs, ChosenBy, node_of}
use Rattle.rex_cluster.specs.Node.{Service, Content, Message, Role, Node, down_node, Failure}
use Rattle.rex_cluster.specs.Node.Failure.{After}
use Rattle.rex_cluster.specs.Node.Content.{Prepare, Promise, Accept, Accepted as Voted, Chosen as Chose, Nack, Ask, Snapshot}
use Rattle.rex_cluster.specs.Node.Role.{Follower, Leads}
use Rattle.rex_cluster.specs.Invariant.{IsIn, Covers, with_log, AreRecords, Grows, HasHeard, WasReported, IsRightOpen, ChosenPast, AllLearned, IsRightRole, IsReplayed, IsJustified, AreJustified, KeepsAll}
use Rattle.rex_cluster.specs.Calls.{Call, others, append, heard, logged}
use Rattle.rex_cluster.proofs.Grow.{begins_length, grows_trans, Appends, Allowed, appends_grows, chosen_grows, all_chosen_grows, all_given_grows, chosen_by_grows}
use Rattle.rex_cluster.proofs.Step.{safe_step, has_below}
use Rattle.rex_cluster.proofs.Lists.{in_cases, base_low}

module _ {V S : Type 0} where
  pub heard_grows : {L M : Logs V S} → Grows L M → (done more b : ℕ) (ps : List (Proposal V)) (q : ℕ) → done ≤ more → HasHeard L done b ps q → HasHeard M more b ps q
  heard_grows {L} {M} g done more b ps q l h = record {
    promised = (g.at q).has b h.promised;
    covers = λ c i w p lt a. go c i w p lt ((g.at q).fresh c i w a);
  }
    where
      go : (c i : ℕ) (w : V) → more < i → c < b → HasAccepted c i w (L q) ⊎ (promise (L q) ≤ c) → Covers ps i c
      go c i w p lt (inl a) = h.covers c i w (omega arith) lt a
      go c i w p lt (inr x) = absurd (omega (arith, has_below b (L q) h.promised))

  pub said_grows : {L M : Logs V S} → Grows L M → (n done more b : ℕ) (heard : List ℕ) (p : Proposal V) → done ≤ more → WasReported n L done b heard p → WasReported n M more b heard p
  said_grows g n done more b heard p l h = record {
    node = h.node;
    node-in = h.node-in;
    counted = h.counted;
    has = (g.at h.node).keeps p.ballot p.instance p.value h.has;
    below = λ x. h.below (omega arith);
  }

  pub open_grows : {L M : Logs V S} → Grows L M → (n : ℕ) (log : List (Rec V S)) (b : ℕ) (acks : List ℕ) (o : Option (Proposal V)) → IsRightOpen n L log b acks o → IsRightOpen n M log b acks o
  open_grows g n log b acks None h = tt
  open_grows g n log b acks (Some p) h = record { next = h.next; own = h.own; acked = λ q l e. (g.at q).keeps b p.instance p.value (h.acked q l e) }

  past_grows : {L M : Logs V S} → Grows L M → (n b i : ℕ) (v : V) → ChosenPast n L b i v → ChosenPast n M b i v
  past_grows g n b i v c = record {
    ballot = c.ballot;
    above = c.above;
    quorum = record {
      who = c.quorum.who;
      big = c.quorum.big;
      each = λ m l e. let t = c.quorum.each m l e in ((g.at m).keeps c.ballot i v t.0, lt_of_lt_of_le t.1 (g.at m).rises, λ x. t.2 ((g.at m).had b t.1 x));
    };
  }

  pub knows_grows : {L M : Logs V S} → Grows L M → (n b k : ℕ) (vs : List V) → AllLearned n L b k vs → AllLearned n M b k vs
  knows_grows g n b k [] h = tt
  knows_grows {L} {M} g n b k (v ∷ vs) h = (one h.0, knows_grows g n b (suc k) vs h.1)
    where
      one : ChosenBy n L b k v ⊎ ChosenPast n L b k v → ChosenBy n M b k v ⊎ ChosenPast n M b k v
      one (inl c) = inl (chosen_by_grows g n b k v c)
      one (inr c) = inr (past_grows g n b k v c)

  pub role_grows : {L M : Logs V S} → Grows L M → (n : ℕ) (log : List (Rec V S)) (m : ℕ) (r : Role V) → IsRightRole n L log m r → IsRightRole n M log m r
  role_grows g n log m Follower h = tt
  role_grows g n log m (Leads l) h = record {
    promised = h.promised;
    owned = h.owned;
    past = h.past;
    heard = λ q x e. heard_grows g (length (known log)) (length (known log)) l.ballot l.reported q (le_refl _) (h.heard q x e);
    said = λ p x. said_grows g n (length (known log)) (length (known log)) l.ballot l.counted p (le_refl _) (h.said p x);
    pending = open_grows g n log l.ballot l.accepted_by l.proposal h.pending;
    knows = knows_grows g n l.ballot 1 (known log) h.knows;
    counted = h.counted;
    ready = h.ready;
  }

  pub just_grows : {L M : Logs V S} → Grows L M → (n from : ℕ) (b : Content V) → IsJustified n L from b → IsJustified n M from b
  just_grows g n from (Prepare b first) h = (h.0, h.1, le_trans h.2 (g.at (node_of b)).rises, le_trans h.3 (suc-le-suc (begins_length _ _ (g.at (node_of b)).learns)))
  just_grows {L} {M} g n from (Promise b ps) h = record {
    from-in = h.from-in;
    heard = heard_grows g (length (known (L (node_of b)))) (length (known (M (node_of b)))) b ps from (begins_length _ _ (g.at (node_of b)).learns) h.heard;
    real = λ p x. let t = h.real p x in ((g.at from).keeps p.ballot p.instance p.value t.0, t.1);
  }
  just_grows g n from (Accept b i v) h = (h.0, (g.at (node_of b)).keeps b i v h.1)
  just_grows g n from (Voted b i) h = (h.0, (h.1.0, (g.at from).keeps b i h.1.0 h.1.1))
  just_grows g n from (Chose i v) h = chosen_grows g n i v h
  just_grows g n from (Nack b p) h = tt
  just_grows g n from (Ask first) h = tt
  just_grows g n from (Snapshot values) h = record { chosen = all_chosen_grows g n 1 values h.chosen; given = all_given_grows g n 1 values h.given }

  pub put_same : (f : Logs V S) (m : ℕ) (x : List (Rec V S)) → with_log f m x m ≡ x
  put_same f m x = rw (eq-eqb m m refl)

  pub put_other : (f : Logs V S) (m : ℕ) (x : List (Rec V S)) (q : ℕ) → q ≢ m → with_log f m x q ≡ f q
  put_other f m x q d = rw (ne_eqb q m d)

  pub just_both : (n : ℕ) (L : Logs V S) (xs ys : List (Message V)) → AreJustified n L xs → AreJustified n L ys → AreJustified n L (xs ++ ys)
  just_both n L xs ys f g x h = go (in_cases x xs ys h)
    where
      go : IsIn x xs ⊎ IsIn x ys → IsJustified n L x.from x.content
      go (inl a) = f x a
      go (inr a) = g x a

  pub just_one : (n : ℕ) (L : Logs V S) (y : Message V) → IsJustified n L y.from y.content → AreJustified n L (y ∷ [])
  just_one n L y j x (inl e) = subst (λ z. IsJustified n L z.from z.content) (sym e) j
  just_one n L y j x (inr h) = absurd h

  pub just_others : (n k : ℕ) (L : Logs V S) (m : ℕ) (b : Content V) → IsJustified n L m b → AreJustified n L (others k m b)
  just_others n zero L m b j = λ x h. absurd h
  just_others n (suc k) L m b j = go (just_others n k L m b j) (eqb (suc k) m)
    where
      go : AreJustified n L (others k m b) → (t : Bool) → AreJustified n L (cond t (others k m b) (others k m b ++ record { from = m; to = suc k; content = b } ∷ []))
      go rest true = rest
      go rest false = just_both n L (others k m b) (record { from = m; to = suc k; content = b } ∷ []) rest (just_one n L (record { from = m; to = suc k; content = b }) j)

  -- one record more at the node in a call
  module _ (n : ℕ) (sv : Service V S) (L : Logs V S) (R : ℕ → Role V) (ms : List (Message V)) (m : ℕ) (d : Call V S) (l : IsNode n m) (good : KeepsAll n sv L R ms m d) (r : Rec V S) (h : Allowed n sv (with_log L m d.node.log) d.node.log m r) where
    abbrev pub next : Logs V S
    next = with_log L m (r ∷ d.node.log)

    appends : Appends r m (with_log L m d.node.log) next
    appends = record {
      here = put_same L m (r ∷ d.node.log) ∙ ap (λ x. r ∷ x) (sym (put_same L m d.node.log));
      away = λ q x. put_other L m (r ∷ d.node.log) q x ∙ sym (put_other L m d.node.log q x);
    }

    allowed_there : Allowed n sv (with_log L m d.node.log) (with_log L m d.node.log m) m r
    allowed_there = subst (λ x. Allowed n sv (with_log L m d.node.log) x m r) (sym (put_same L m d.node.log)) h

    pub grown : Grows (with_log L m d.node.log) next
    grown = appends_grows n sv (with_log L m d.node.log) next m r appends allowed_there

    -- the longer list is one of a node's
    records_next : AreRecords sv (r ∷ d.node.log)
    records_next = subst (AreRecords sv) (put_same L m (r ∷ d.node.log)) ((safe_step n sv (with_log L m d.node.log) next m r appends allowed_there good.safe).sorted m l)

    -- the node with it is as good, in whichever role fits
    pub next_good : (x : Node V S) (sends : List (Message V)) (effects : List Effect) → IsRightRole n next (r ∷ d.node.log) m x.role → IsReplayed (record x { log = r ∷ d.node.log }) → AreJustified n next sends → KeepsAll n sv L R ms m (record { node = record x { log = r ∷ d.node.log }; sends = sends; effects = effects })
    next_good x sends effects ok here j = record {
      safe = safe_step n sv (with_log L m d.node.log) next m r appends allowed_there good.safe;
      role = ok;
      here = here;
      others = λ q x e. role_grows grown n (L q) q (R q) (good.others q x e);
      old = λ x i. just_grows grown n x.from x.content (good.old x i);
      out = j;
      grows = grows_trans good.grows grown;
    }

    -- one that is down is
    pub next_down : (effects : List Effect) → KeepsAll n sv L R ms m (record { node = down_node (r ∷ d.node.log) None; sends = []; effects = effects })
    next_down effects = next_good (down_node (r ∷ d.node.log) None) [] effects tt (record { based = le_refl _; replayed = base_low sv (r ∷ d.node.log) records_next }) (λ y i. absurd i)

    pub out_grows : AreJustified n next d.sends
    out_grows x i = just_grows grown n x.from x.content (good.out x i)

  pub records_here : (n : ℕ) (sv : Service V S) (L : Logs V S) (R : ℕ → Role V) (ms : List (Message V)) (m : ℕ) (d : Call V S) → IsNode n m → KeepsAll n sv L R ms m d → AreRecords sv d.node.log
  records_here n sv L R ms m d l good = subst (AreRecords sv) (put_same L m d.node.log) (good.safe.sorted m l)

  -- a call that appends a record keeps the invariant where its rest does, whether the append succeeds, or fails and keeps or loses the record
  pub append_good : (n : ℕ) (sv : Service V S) (L : Logs V S) (R : ℕ → Role V) (ms : List (Message V)) (m : ℕ) (d : Call V S) → (l : IsNode n m) → (good : KeepsAll n sv L R ms m d) → (r : Rec V S) → Allowed n sv (with_log L m d.node.log) d.node.log m r → (a : Option Failure) (k : Call V S → Call V S) → ((b : Option Failure) → KeepsAll n sv L R ms m (k (logged r b d))) → KeepsAll n sv L R ms m (append a m r d k)
  append_good n sv L R ms m d l good r h None k x = x None
  append_good n sv L R ms m d l good r h (Some (After (suc before) kept)) k x = x (Some (After before kept))
  append_good n sv L R ms m d l good r h (Some (After zero true)) k x = next_down n sv L R ms m d l good r h _
  append_good n sv L R ms m d l good r h (Some (After zero false)) k x = record {
    safe = good.safe;
    role = tt;
    others = good.others;
    old = good.old;
    grows = good.grows;
    out = λ y i. absurd i;
    here = record { based = le_refl _; replayed = base_low sv d.node.log (records_here n sv L R ms m d l good) };
  }
