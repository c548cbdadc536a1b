-- What calls do to the votes of a candidacy and to the messages that ask for votes or give them.
use Rattle.std.proofs.Common.{◌≡◌, ℕ, zero, suc, ◌<◌, Bool, true, false, cond, ◌⊎◌, List, [], ◌∷◌, ◌++◌, length, Option, Some, None, eqb, refl, sym, ap, subst, inl, inr, eqb-true, leb-false}
use Rattle.std.specs.Prelude.{take, ◌==◌, nat_lt, nat_le}
use Rattle.rex_report.specs.declared.effect.Effect.{Effect}
use Rattle.rex_report.specs.declared.effect.Effect.TheVariants as effect
use Rattle.rex_cluster.specs.Records.{Rec, Proposal, promise, accepted, from_on, offset, known, base, HasAccepted}
use Rattle.rex_cluster.specs.Records.Rec.{Promised, Accepted, Known, Transferred}
use Rattle.rex_cluster.specs.Quorum.{is_in, is_majority, ballot_above, round_of}
use Rattle.rex_cluster.specs.Node.{Service, Content, Message, Lead, Role, Failure}
use Rattle.rex_cluster.specs.Node.Failure.{After}
use Rattle.rex_cluster.specs.Node.Content.{Prepare, Promise, Accept, Accepted as Voted, Chosen as Chose, Nack, Ask, Snapshot}
use Rattle.rex_cluster.specs.Node.Role.{Follower, Leads}
use Rattle.rex_cluster.specs.Calls.{Call, say, send, others, append, logged, with_role, follow, propose, decide, best, choose, lead, turn, settle, enough, own_reports, candidacy, stand, elect, promised, on_prepare, heard, on_own_promise, on_promise, has_last, on_accept, voted, on_own_vote, on_voted, tell, on_chosen, on_nack, on_snapshot, receive}
use Rattle.rex_cluster.specs.Invariant.{IsIn}
use Rattle.rex_cluster.proofs.Lists.{in_cases}
use Rattle.rex_cluster.proofs.Calls.{if_good}

module _ {V : Type 0} where
  -- what holds of the ballot, of who was counted and of what was reported, at a node that leads
  abbrev pub RoleHas : (ℕ → List ℕ → List (Proposal V) → Type 0) → Role V → Type 0
  RoleHas P Follower = Unit {0}
  RoleHas P (Leads l) = P l.ballot l.counted l.reported

  -- it neither asks for a promise nor gives one
  abbrev pub IsPlain : Content V → Type 0
  IsPlain (Prepare b first) = ⊥
  IsPlain (Promise b ps) = ⊥
  IsPlain _ = Unit {0}

  abbrev pub AreSent : (Message V → Type 0) → List (Message V) → Type 0
  AreSent Q ms = (x : Message V) → IsIn x ms → Q x

  pub sent_both : (Q : Message V → Type 0) (xs ys : List (Message V)) → AreSent Q xs → AreSent Q ys → AreSent Q (xs ++ ys)
  sent_both Q xs ys h k x i = go (in_cases x xs ys i)
    where
      go : IsIn x xs ⊎ IsIn x ys → Q x
      go (inl a) = h x a
      go (inr a) = k x a

  pub sent_one : (Q : Message V → Type 0) (y : Message V) → Q y → AreSent Q (y ∷ [])
  sent_one Q y h x (inl e) = subst Q (sym e) h
  sent_one Q y h x (inr i) = absurd i

  pub sent_others : (Q : Message V → Type 0) (n me : ℕ) (c : Content V) → ((to : ℕ) → Q (record { from = me; to = to; content = c })) → AreSent Q (others n me c)
  sent_others Q zero me c h = λ x i. absurd i
  sent_others Q (suc k) me c h = go (eqb (suc k) me) (sent_others Q k me c h)
    where
      go : (t : Bool) → AreSent Q (others k me c) → AreSent Q (cond t (others k me c) (others k me c ++ record { from = me; to = suc k; content = c } ∷ []))
      go true rest = rest
      go false rest = sent_both Q (others k me c) (record { from = me; to = suc k; content = c } ∷ []) rest (sent_one Q (record { from = me; to = suc k; content = c }) (h (suc k)))

module _ {V S : Type 0} (P : ℕ → List ℕ → List (Proposal V) → Type 0) (T : List (Rec V S) → Type 0) (Q : Message V → Type 0) where
  -- the role's votes, the records and what is sent
  pub record Votes (d : Call V S) : Type 0 where
    pub role : RoleHas P d.node.role
    pub log : T d.node.log
    pub sends : AreSent Q d.sends

  pub if_votes : (t : Bool) {d e : Call V S} → Votes d → Votes e → Votes (cond t d e)
  if_votes true h k = h
  if_votes false h k = k

  pub append_votes : (a : Option Failure) (me : ℕ) (r : Rec V S) (d : Call V S) (k : Call V S → Call V S) → Votes d → T (r ∷ d.node.log) → ((b : Option Failure) → Votes (k (logged r b d))) → Votes (append a me r d k)
  append_votes None me r d k h t c = c None
  append_votes (Some (After (suc before) kept)) me r d k h t c = c (Some (After before kept))
  append_votes (Some (After zero true)) me r d k h t c = record { role = tt; log = t; sends = λ x i. absurd i }
  append_votes (Some (After zero false)) me r d k h t c = record { role = tt; log = h.log; sends = λ x i. absurd i }

  module _ (n : ℕ) (sv : Service V S) (me : ℕ) (plain : (x : Message V) → IsPlain x.content → Q x)
      (learns : (i : ℕ) (v : V) (log : List (Rec V S)) → T log → T (Known i v ∷ log))
      (accepts : (b : ℕ) (counted : List ℕ) (reported : List (Proposal V)) (i : ℕ) (v : V) (log : List (Rec V S)) → P b counted reported → T log → T (Accepted b i v ∷ log)) where
    abbrev Goes : (Call V S → Call V S) → Type 0
    Goes k = (e : Call V S) → Votes e → Votes (k e)

    plain_more : (d : Call V S) → Votes d → (c : Content V) → IsPlain c → AreSent Q (d.sends ++ others n me c)
    plain_more d h c p = sent_both Q d.sends (others n me c) h.sends (sent_others Q n me c (λ to. plain (record { from = me; to = to; content = c }) p))

    pub propose_votes : (told : Effect) (d : Call V S) (l : Lead V) (i : ℕ) (v : V) (k : Call V S → Call V S) → P l.ballot l.counted l.reported → Votes d → Goes k → Votes (propose n me told d l i v k)
    propose_votes told d l i v k p h g =
        append_votes d.node.armed me (Accepted l.ballot i v) d _ h (accepts l.ballot l.counted l.reported i v d.node.log p h.log)
        (λ a. g _ (record { role = p; log = accepts l.ballot l.counted l.reported i v d.node.log p h.log; sends = plain_more d h (Accept l.ballot i v) tt }))

    decide_votes : (d : Call V S) (l : Lead V) (i : ℕ) (v : V) (k : Call V S → Call V S) → P l.ballot l.counted l.reported → Votes d → Goes k → Votes (decide n sv me d l i v k)
    decide_votes d l i v k p h g =
        append_votes d.node.armed me (Known i v) d _ h (learns i v d.node.log h.log)
        (λ a. g _ (record { role = p; log = learns i v d.node.log h.log; sends = plain_more d h (Chose i v) tt }))

    choose_votes : (d : Call V S) (l : Lead V) (i : ℕ) (o : Option (Proposal V)) (k : Call V S → Call V S) → P l.ballot l.counted l.reported → Votes d → Goes k → Votes (choose n sv me d l i o k)
    choose_votes d l i None k p h g = record { role = p; log = h.log; sends = h.sends }
    choose_votes d l i (Some q) k p h g = propose_votes (effect.Adopts me i (sv.size q.value)) d l i q.value k p h g

    lead_votes : (d : Call V S) (l : Lead V) (o : Option (Proposal V)) (k : Call V S → Call V S) → P l.ballot l.counted l.reported → Votes d → Goes k → Votes (lead n sv me d l o k)
    lead_votes d l (Some q) k p h g = if_votes (is_majority n l.accepted_by) (decide_votes d l q.instance q.value k p h g) h
    lead_votes d l None k p h g =
        if_votes l.active h
        (if_votes (is_majority n l.counted) (choose_votes d l (suc (length (known d.node.log))) (best (suc (length (known d.node.log))) l.reported) k p h g) h)

    turn_votes : (d : Call V S) (r : Role V) (k : Call V S → Call V S) → RoleHas P r → Votes d → Goes k → Votes (turn n sv me d r k)
    turn_votes d Follower k p h g = h
    turn_votes d (Leads l) k p h g = lead_votes d l l.proposal k p h g

    pub settle_votes : (f : ℕ) → Goes (settle f n sv me)
    settle_votes zero d h = h
    settle_votes (suc f) d h = turn_votes d d.node.role (settle f n sv me) h.role h (settle_votes f)

    -- ---- elections

    -- no round is left, or it asks for promises with what it accepted itself
    pub elect_votes : (d : Call V S) → T d.node.log → T (Promised (ballot_above me (promise d.node.log)) ∷ d.node.log) → P (ballot_above me (promise d.node.log)) (me ∷ []) (own_reports d.node.log)
        → ((to : ℕ) → Q (record { from = me; to = to; content = Prepare (ballot_above me (promise d.node.log)) (suc (length (known d.node.log))) })) → d.sends ≡ []
        → (elect n sv me d ≡ say (effect.Spent me) d) ⊎ Votes (elect n sv me d)
    elect_votes d t u p q e = go (nat_lt 4294967296 (round_of (ballot_above me (promise d.node.log))))
      where
        c : ℕ
        c = ballot_above me (promise d.node.log)

        none : AreSent Q d.sends
        none x i = absurd (subst (IsIn x) e i)

        stands : (a : Option Failure) → Votes (append a me (Promised c) d (λ e. settle (enough (own_reports d.node.log)) n sv me (send (say (effect.Candidate me c) (with_role (Leads (candidacy me c d.node.log)) e)) (others n me (Prepare c (suc (length (known d.node.log))))))))
        stands None = settle_votes (enough (own_reports d.node.log)) _ (record { role = p; log = u; sends = sent_both Q d.sends (others n me (Prepare c (suc (length (known d.node.log))))) none (sent_others Q n me (Prepare c (suc (length (known d.node.log)))) q) })
        stands (Some (After (suc before) kept)) = settle_votes (enough (own_reports d.node.log)) _ (record { role = p; log = u; sends = sent_both Q d.sends (others n me (Prepare c (suc (length (known d.node.log))))) none (sent_others Q n me (Prepare c (suc (length (known d.node.log)))) q) })
        stands (Some (After zero true)) = record { role = tt; log = u; sends = λ x i. absurd i }
        stands (Some (After zero false)) = record { role = tt; log = t; sends = λ x i. absurd i }

        go : (t : Bool) → (cond t (say (effect.Spent me) d) (stand n sv me c d) ≡ say (effect.Spent me) d) ⊎ Votes (cond t (say (effect.Spent me) d) (stand n sv me c d))
        go true = inl refl
        go false = inr (stands d.node.armed)

    -- ---- votes

    pub promise_votes : (from b : ℕ) (ps : List (Proposal V)) (d : Call V S) (r : Role V) → RoleHas P r
        → ((l : Lead V) → r ≡ Leads l → l.ballot ≡ b → P l.ballot l.counted l.reported → P l.ballot (l.counted ++ from ∷ []) (l.reported ++ ps)) → Votes d → Votes (on_promise n sv me from b ps d r)
    promise_votes from b ps d Follower p q h = record { role = h.role; log = h.log; sends = h.sends }
    promise_votes from b ps d (Leads l) p q h =
        if_good Votes (l.ballot == b) (λ e. own (eqb-true l.ballot b e) l.proposal) (λ _. record { role = h.role; log = h.log; sends = h.sends })
      where
        own : l.ballot ≡ b → (o : Option (Proposal V)) → Votes (on_own_promise n sv me from ps d l o)
        own e (Some z) = record { role = h.role; log = h.log; sends = h.sends }
        own e None =
            let more = q l refl e p in
            if_votes l.active (record { role = h.role; log = h.log; sends = h.sends })
            (if_votes (is_in from l.counted) (record { role = h.role; log = h.log; sends = h.sends })
            (if_votes (is_majority n (heard l from ps).counted) (settle_votes (enough (heard l from ps).reported) _ (record { role = more; log = h.log; sends = h.sends }))
            (record { role = more; log = h.log; sends = h.sends })))

    pub voted_votes : (from b i : ℕ) (d : Call V S) (r : Role V) → RoleHas P r → Votes d → Votes (on_voted n sv me from b i d r)
    voted_votes from b i d Follower p h = record { role = h.role; log = h.log; sends = h.sends }
    voted_votes from b i d (Leads l) p h = if_votes (l.ballot == b) (own l.proposal) (record { role = h.role; log = h.log; sends = h.sends })
      where
        own : (o : Option (Proposal V)) → Votes (on_own_vote n sv me from i d l o)
        own None = record { role = h.role; log = h.log; sends = h.sends }
        own (Some z) =
            if_votes (z.instance == i)
            (if_votes (is_in from l.accepted_by) (record { role = h.role; log = h.log; sends = h.sends })
            (if_votes (is_majority n (voted l from z).accepted_by) (settle_votes (enough (voted l from z).reported) _ (record { role = p; log = h.log; sends = h.sends }))
            (record { role = p; log = h.log; sends = h.sends })))
            (record { role = h.role; log = h.log; sends = h.sends })

-- ---- the other calls

module _ {V S : Type 0} (P : ℕ → List ℕ → List (Proposal V) → Type 0) (Q : Message V → Type 0) (n : ℕ) (sv : Service V S) (me : ℕ) (plain : (x : Message V) → IsPlain x.content → Q x) where
  -- whatever the records are
  abbrev pub Any : List (Rec V S) → Type 0
  Any log = Unit {0}

  abbrev pub Cast : Call V S → Type 0
  Cast d = Votes P Any Q d

  pub append_cast : (a : Option Failure) (r : Rec V S) (d : Call V S) (k : Call V S → Call V S) → Cast d → ((b : Option Failure) → Cast (k (logged r b d))) → Cast (append a me r d k)
  append_cast a r d k h c = append_votes P Any Q a me r d k h tt c

  pub plain_cast : (d : Call V S) (ms : List (Message V)) → AreSent (λ x. IsPlain x.content) ms → Cast d → Cast (send d ms)
  plain_cast d ms p h = record { role = h.role; log = tt; sends = sent_both Q d.sends ms h.sends (λ x i. plain x (p x i)) }

  pub one_cast : (d : Call V S) (to : ℕ) (c : Content V) → IsPlain c → Cast d → Cast (send d (record { from = me; to = to; content = c } ∷ []))
  one_cast d to c p h = plain_cast d (record { from = me; to = to; content = c } ∷ []) (sent_one (λ x. IsPlain x.content) (record { from = me; to = to; content = c }) p) h

  -- ---- messages

  accept_cast : (from b i : ℕ) (v : V) (d : Call V S) → Cast d → Cast (on_accept me from b i v d)
  accept_cast from b i v d h =
      if_votes P Any Q (nat_lt b (promise d.node.log)) (one_cast d from (Nack b (promise d.node.log)) tt h)
      (if_votes P Any Q (nat_le i (offset d.node.log)) (one_cast d from (Snapshot (take (base d.node.log) (known d.node.log))) tt h)
      (if_votes P Any Q (has_last b i (accepted d.node.log)) (one_cast d from (Voted b i) tt h)
      (append_cast d.node.armed (Accepted b i v) d _ h
      (λ a. one_cast (follow me (effect.Accepted me b i ∷ []) (logged (Accepted b i v) a d)) from (Voted b i) tt (record { role = tt; log = tt; sends = h.sends })))))

  chosen_cast : (i : ℕ) (v : V) (d : Call V S) → Cast d → Cast (on_chosen me i v d)
  chosen_cast i v d h =
      if_votes P Any Q (i == suc (length (known d.node.log)))
      (append_cast d.node.armed (Known i v) d _ h (λ a. record { role = tt; log = tt; sends = h.sends })) (record { role = h.role; log = tt; sends = h.sends })

  nack_cast : (p : ℕ) (d : Call V S) (r : Role V) → Cast d → Cast (on_nack me p d r)
  nack_cast p d Follower h = record { role = h.role; log = tt; sends = h.sends }
  nack_cast p d (Leads l) h = if_votes P Any Q (nat_lt l.ballot p) (record { role = tt; log = tt; sends = h.sends }) (record { role = h.role; log = tt; sends = h.sends })

  snapshot_cast : (values : List V) (d : Call V S) → Cast d → Cast (on_snapshot sv me values d)
  snapshot_cast values d h =
      if_votes P Any Q (nat_le (length values) (length (known d.node.log))) (record { role = h.role; log = tt; sends = h.sends })
      (append_cast d.node.armed (Transferred values (sv.state values)) d _ h (λ a. record { role = tt; log = tt; sends = h.sends }))

  told_plain : (to first i : ℕ) (vs : List V) → AreSent (λ x. IsPlain x.content) (tell me to first i vs)
  told_plain to first i [] = λ x h. absurd h
  told_plain to first i (v ∷ vs) = go (nat_le first i) (told_plain to first (suc i) vs)
    where
      go : (t : Bool) → AreSent (λ x. IsPlain x.content) (tell me to first (suc i) vs) → AreSent (λ x. IsPlain x.content) (cond t (record { from = me; to = to; content = Chose i v } ∷ tell me to first (suc i) vs) (tell me to first (suc i) vs))
      go true rest x (inl e) = subst (λ (y : Message V). IsPlain y.content) (sym e) tt
      go true rest x (inr j) = rest x j
      go false rest x j = rest x j

  in_front : (k : ℕ) (ms : List (Message V)) (x : Message V) → IsIn x (take k ms) → IsIn x ms
  in_front zero [] x i = absurd i
  in_front zero (m ∷ ms) x i = absurd i
  in_front (suc k) [] x i = absurd i
  in_front (suc k) (m ∷ ms) x (inl e) = inl e
  in_front (suc k) (m ∷ ms) x (inr i) = inr (in_front k ms x i)

  asked_cast : (from first : ℕ) (d : Call V S) → Cast d → Cast (receive n sv me from (Ask first) d)
  asked_cast from first d h =
      if_votes P Any Q (nat_le first (offset d.node.log)) (one_cast d from (Snapshot (take (base d.node.log) (known d.node.log))) tt h)
      (if_votes P Any Q (nat_lt (length (known d.node.log)) first) (record { role = h.role; log = tt; sends = h.sends })
      (plain_cast d (take 64 (tell me from first 1 (known d.node.log))) (λ x i. told_plain from first 1 (known d.node.log) x (in_front 64 (tell me from first 1 (known d.node.log)) x i)) h))

  -- what a promise brings to a candidate of its ballot
  abbrev pub Brings : ℕ → Role V → Content V → Type 0
  Brings from r (Prepare b first) = ⊥
  Brings from r (Promise b ps) = (l : Lead V) → r ≡ Leads l → l.ballot ≡ b → P l.ballot l.counted l.reported → P l.ballot (l.counted ++ from ∷ []) (l.reported ++ ps)
  Brings from r _ = Unit {0}

  pub receive_cast : (from : ℕ) (c : Content V) (d : Call V S) → Brings from d.node.role c → Cast d → Cast (receive n sv me from c d)
  receive_cast from (Prepare b first) d q h = absurd q
  receive_cast from (Promise b ps) d q h = promise_votes P Any Q n sv me plain (λ i v log t. tt) (λ b cs rs i v log p t. tt) from b ps d d.node.role h.role q h
  receive_cast from (Accept b i v) d q h = accept_cast from b i v d h
  receive_cast from (Voted b i) d q h = voted_votes P Any Q n sv me plain (λ i v log t. tt) (λ b cs rs i v log p t. tt) from b i d d.node.role h.role h
  receive_cast from (Chose i v) d q h = chosen_cast i v d h
  receive_cast from (Nack b p) d q h = nack_cast p d d.node.role h
  receive_cast from (Ask first) d q h = asked_cast from first d h
  receive_cast from (Snapshot values) d q h = snapshot_cast values d h

  -- a promise that is given lists what was accepted from the instance on that the prepare names, of which the node forgot nothing
  pub record IsGiven (from b first : ℕ) (d e : Call V S) (x : Message V) : Type 0 where
    pub from_is : x.from ≡ me
    pub content_is : x.content ≡ Promise b (from_on first (accepted d.node.log))
    pub young : offset d.node.log < first
    pub accepts : (c i : ℕ) (v : V) → HasAccepted c i v e.node.log → HasAccepted c i v d.node.log

  pub record Answers (from b first : ℕ) (d e : Call V S) : Type 0 where
    pub role : RoleHas P e.node.role
    pub sends : (x : Message V) → IsIn x e.sends → Q x ⊎ IsGiven from b first d e x

  pub prepare_answers : (from b first : ℕ) (d : Call V S) → Cast d → Answers from b first d (on_prepare me from b first d)
  prepare_answers from b first d h =
      if_good (Answers from b first d) (nat_lt b (promise d.node.log)) (λ _. ok (one_cast d from (Nack b (promise d.node.log)) tt h)) (λ _.
      if_good (Answers from b first d) (nat_le first (offset d.node.log)) (λ _. ok (one_cast d from (Snapshot (take (base d.node.log) (known d.node.log))) tt h)) (λ z.
      let young = leb-false first (offset d.node.log) z in
      if_good (Answers from b first d) (nat_lt (promise d.node.log) b) (λ _. gives young d.node.armed) (λ _. record { role = h.role; sends = given d young h.sends (λ c i v a. a) })))
    where
      ok : {e : Call V S} → Cast e → Answers from b first d e
      ok {e} k = record { role = k.role; sends = λ x i. inl (k.sends x i) }

      msg : Message V
      msg = record { from = me; to = from; content = Promise b (from_on first (accepted d.node.log)) }

      given : (e : Call V S) → offset d.node.log < first → AreSent Q e.sends → ((c i : ℕ) (v : V) → HasAccepted c i v e.node.log → HasAccepted c i v d.node.log)
          → (x : Message V) → IsIn x (e.sends ++ record { from = me; to = from; content = Promise b (from_on first (accepted d.node.log)) } ∷ []) → Q x ⊎ IsGiven from b first d (send e (record { from = me; to = from; content = Promise b (from_on first (accepted d.node.log)) } ∷ [])) x
      given e young s a x i = go (in_cases x e.sends (msg ∷ []) i)
        where
          go : IsIn x e.sends ⊎ IsIn x (msg ∷ []) → Q x ⊎ IsGiven from b first d (send e (msg ∷ [])) x
          go (inl j) = inl (s x j)
          go (inr (inl z)) = inr (record { from_is = ap (λ (y : Message V). y.from) z; content_is = ap (λ (y : Message V). y.content) z; young = young; accepts = a })
          go (inr (inr j)) = absurd j

      gives : offset d.node.log < first → (a : Option Failure) → Answers from b first d (append a me (Promised b) d (λ e. promised me from b first (follow me (effect.Promised me b ∷ []) e)))
      gives young None = record { role = tt; sends = given (follow me (effect.Promised me b ∷ []) (logged (Promised b) None d)) young h.sends (λ c i v a. a) }
      gives young (Some (After (suc before) kept)) = record { role = tt; sends = given (follow me (effect.Promised me b ∷ []) (logged (Promised b) (Some (After before kept)) d)) young h.sends (λ c i v a. a) }
      gives young (Some (After zero kept)) = record { role = tt; sends = λ x i. absurd i }
