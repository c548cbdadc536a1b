-- Each call keeps numbers in their ranges.
use Rattle.std.proofs.Common.{◌≡◌, ℕ, zero, suc, ◌+◌, ◌-◌, ◌*◌, ◌/◌, ◌<◌, ◌≤◌, ◌≢◌, Bool, true, false, cond, ◌||◌, ◌⊎◌, List, [], ◌∷◌, ◌++◌, length, Option, Some, None, eqb, ltb, leb, refl, sym, ap, subst, inl, inr, arith, le_trans, le_refl, eqb-true, ltb-true, ltb-false, leb-true}
use Rattle.std.specs.Prelude.{take, ◌==◌, nat_lt, nat_le}
use Rattle.std.proofs.lemmas.Bool.{eqb-false}
use Rattle.rex_ballot.specs.Limits.{most_nodes}
use Rattle.rex_report.specs.declared.effect.Effect.{Effect}
use Rattle.rex_report.specs.declared.effect.Effect.TheVariants as effect
use Rattle.rex_syntax.specs.declared.version.Version.{Version}
use Rattle.rex_syntax.specs.declared.version.Version.TheVariants.{Two}
use Rattle.rex_cluster.specs.Records.{Rec, Proposal, proposal_of, promise, placed, last_accepted, accepted, from_on, offset, known, base, HasAccepted, HasBallot, has_old_base}
use Rattle.rex_cluster.specs.Records.Rec.{Promised, Accepted, Known, Checkpoint, Dropped, Transferred}
use Rattle.rex_cluster.specs.Quorum.{IsNode, round_of, ballot_above, is_in, is_majority}
use Rattle.rex_cluster.specs.Node.{Service, Content, Message, Lead, Role, is_active, Failure}
use Rattle.rex_cluster.specs.Node.Failure.{After}
use Rattle.rex_cluster.specs.Node.Content.{Prepare, Promise, Accept, Accepted as Voted, Chosen as Chose, Nack, Ask, Snapshot}
use Rattle.rex_cluster.specs.Node.Role.{Follower, Leads}
use Rattle.rex_cluster.specs.Invariant.{IsIn, AreRecords}
use Rattle.rex_cluster.specs.Calls.{Call, send, others, answer, append, follow, propose, decide, best, choose, lead, turn, settle, enough, stand, elect, promised, on_prepare, heard, on_own_promise, on_promise, has_last, on_accept, voted, on_own_vote, on_voted, on_chosen, on_nack, tell, receive, ask, replay, checkpoint, migrate, logged, own_reports, answer_base, on_snapshot, drop_known}
use Rattle.std.proofs.lemmas.Option.{same_Some}
use Rattle.rex_cluster.specs.Ranges.{IsBallot, IsInstance, IsFirst, AreRising, ProposalFits, ContentFits, MessageFits, LogFits, LeadFits, RoleFits}
use Rattle.rex_cluster.proofs.Lists.{length_push, in_cases, in_from_on, accepted_real, BestOk, best_ok, base_low, offset_low}
use Rattle.rex_cluster.proofs.Calls.{above_owned}

-- ---- lists of proposals

module _ {V : Type 0} where
  pub rising_more : (i j : ℕ) (ps : List (Proposal V)) → i ≤ j → AreRising j ps → AreRising i ps
  rising_more i j [] l h = tt
  rising_more i j (p ∷ ps) l h = (omega (arith, h.0), h.1)

  placed_rising : (i : ℕ) (p : Proposal V) (ps : List (Proposal V)) → i < p.instance → AreRising i ps → AreRising i (placed p ps)
  placed_rising i p [] l h = (l, tt)
  placed_rising i p (q ∷ qs) l h = go (eqb p.instance q.instance) refl (ltb p.instance q.instance) refl (placed_rising q.instance p qs)
    where
      go : (t : Bool) → eqb p.instance q.instance ≡ t → (u : Bool) → ltb p.instance q.instance ≡ u → (q.instance < p.instance → AreRising q.instance qs → AreRising q.instance (placed p qs)) → AreRising i (cond t (p ∷ qs) (cond u (p ∷ q ∷ qs) (q ∷ placed p qs)))
      go true a u b ih = let e = eqb-true p.instance q.instance a in (l, rising_more p.instance q.instance qs (omega arith) h.1)
      go false a true b ih = (l, (ltb-true p.instance q.instance b, h.1))
      go false a false b ih = let d = eqb-false p.instance q.instance a in let k = ltb-false p.instance q.instance b in (h.0, ih (omega (arith, d, k)) h.1)

  from_on_rising : (i first : ℕ) (ps : List (Proposal V)) → AreRising i ps → AreRising i (from_on first ps)
  from_on_rising i first [] h = tt
  from_on_rising i first (p ∷ ps) h = go (leb first p.instance) (from_on_rising p.instance first ps h.1)
    where
      go : (t : Bool) → AreRising p.instance (from_on first ps) → AreRising i (cond t (p ∷ from_on first ps) (from_on first ps))
      go true r = (h.0, r)
      go false r = rising_more i p.instance (from_on first ps) (omega (arith, h.0)) r

-- ---- records

module _ {V S : Type 0} where
  has_of : (b i : ℕ) (v : V) (log : List (Rec V S)) → HasAccepted b i v log → HasBallot b log
  has_of b i v [] h = h
  has_of b i v (Promised c ∷ log) h = inr (has_of b i v log h)
  has_of b i v (Accepted c j w ∷ log) (inl e) = inl e.0
  has_of b i v (Accepted c j w ∷ log) (inr h) = inr (has_of b i v log h)
  has_of b i v (Known j w ∷ log) h = has_of b i v log h
  has_of b i v (Checkpoint version k st ∷ log) h = has_of b i v log h
  has_of b i v (Dropped k ∷ log) h = has_of b i v log h
  has_of b i v (Transferred values st ∷ log) h = has_of b i v log h

  last_rising : (log : List (Rec V S)) → ((b i : ℕ) (v : V) → HasAccepted b i v log → IsInstance i) → AreRising 0 (last_accepted log)
  last_rising [] h = tt
  last_rising (Promised c ∷ log) h = last_rising log h
  last_rising (Accepted c j w ∷ log) h = placed_rising 0 (proposal_of c j w) (last_accepted log) (h c j w (inl (refl, refl, refl))).0 (last_rising log (λ b i v x. h b i v (inr x)))
  last_rising (Known j w ∷ log) h = last_rising log h
  last_rising (Checkpoint version k st ∷ log) h = last_rising log h
  last_rising (Dropped k ∷ log) h = last_rising log h
  last_rising (Transferred values st ∷ log) h = last_rising log h

  pub accepted_rising : (log : List (Rec V S)) → ((b i : ℕ) (v : V) → HasAccepted b i v log → IsInstance i) → AreRising 0 (accepted log)
  accepted_rising log h = from_on_rising 0 (suc (offset log)) (last_accepted log) (last_rising log h)

  pub accepted_fit : (log : List (Rec V S)) → LogFits log → (p : Proposal V) → IsIn p (accepted log) → ProposalFits p
  accepted_fit log f p h = let a = accepted_real log p h in record { ballot = f.ballots p.ballot (has_of p.ballot p.instance p.value log a); instance = f.instances p.ballot p.instance p.value a }

  pub log_promised : (log : List (Rec V S)) (b : ℕ) → IsBallot b → LogFits log → LogFits (Promised b ∷ log)
  log_promised log b h f = record { ballots = λ c. elim [ inl e ↦ subst IsBallot (sym e) h | inr x ↦ f.ballots c x ]; instances = f.instances; few = f.few }

  pub log_accepted : (log : List (Rec V S)) (b i : ℕ) (v : V) → IsBallot b → IsInstance i → LogFits log → LogFits (Accepted b i v ∷ log)
  log_accepted log b i v h k f = record {
    ballots = λ c. elim [ inl e ↦ subst IsBallot (sym e) h | inr x ↦ f.ballots c x ];
    instances = λ c j w. elim [ inl e ↦ subst IsInstance (sym e.1) k | inr x ↦ f.instances c j w x ];
    few = f.few;
  }

  pub log_known : (log : List (Rec V S)) (i : ℕ) (v : V) → i ≡ suc (length (known log)) → IsInstance i → LogFits log → LogFits (Known i v ∷ log)
  log_known log i v e k f = record { ballots = f.ballots; instances = f.instances; few = omega (arith, length_push (known log) v, k.1, e) }

  pub log_checkpoint : (version : Version) (log : List (Rec V S)) (k : ℕ) (st : S) → LogFits log → LogFits (Checkpoint version k st ∷ log)
  log_checkpoint version log k st f = record { ballots = f.ballots; instances = f.instances; few = f.few }

  log_dropped : (log : List (Rec V S)) (k : ℕ) → LogFits log → LogFits (Dropped k ∷ log)
  log_dropped log k f = record { ballots = f.ballots; instances = f.instances; few = f.few }

  log_transferred : (log : List (Rec V S)) (values : List V) (st : S) → IsInstance (length values) → LogFits log → LogFits (Transferred values st ∷ log)
  log_transferred log values st h f = record { ballots = f.ballots; instances = f.instances; few = h.1 }

-- so many values from the first on are as many
length_front : {A : Type 0} (k : ℕ) (xs : List A) → k ≤ length xs → length (take k xs) ≡ k
length_front zero [] l = refl
length_front zero (x ∷ xs) l = refl
length_front (suc k) [] l = absurd (omega arith)
length_front (suc k) (x ∷ xs) l = ap suc (length_front k xs (omega arith))

-- ---- calls

module _ {V S : Type 0} (n : ℕ) (few : n ≤ most_nodes) (sv : Service V S) (me : ℕ) (min : IsNode n me) where
  -- the node's numbers and those of what it sends are in their ranges
  pub record Fits (d : Call V S) : Type 0 where
    pub log : LogFits d.node.log
    pub role : RoleFits (length (known d.node.log)) d.node.role
    pub sends : (x : Message V) → IsIn x d.sends → MessageFits n x

  pub if_fits : (t : Bool) {d e : Call V S} → (t ≡ true → Fits d) → (t ≡ false → Fits e) → Fits (cond t d e)
  if_fits true p q = p refl
  if_fits false p q = q refl

  pub append_fits : (a : Option Failure) (r : Rec V S) (d : Call V S) (k : Call V S → Call V S) → Fits d → LogFits (r ∷ d.node.log) → ((b : Option Failure) → Fits (k (logged r b d))) → Fits (append a me r d k)
  append_fits None r d k h g c = c None
  append_fits (Some (After (suc before) kept)) r d k h g c = c (Some (After before kept))
  append_fits (Some (After zero true)) r d k h g c = record { log = g; role = tt; sends = λ x i. absurd i }
  append_fits (Some (After zero false)) r d k h g c = record { log = h.log; role = tt; sends = λ x i. absurd i }

  both_fit : (xs ys : List (Message V)) → ((x : Message V) → IsIn x xs → MessageFits n x) → ((x : Message V) → IsIn x ys → MessageFits n x) → (x : Message V) → IsIn x (xs ++ ys) → MessageFits n x
  both_fit xs ys p q x h = go (in_cases x xs ys h)
    where
      go : IsIn x xs ⊎ IsIn x ys → MessageFits n x
      go (inl k) = p x k
      go (inr k) = q x k

  one_fits : (to : ℕ) (c : Content V) → IsNode n to → me ≢ to → ContentFits c → (x : Message V) → IsIn x (answer me to c) → MessageFits n x
  one_fits to c t a h x (inl e) = subst (MessageFits n) (sym e) (record { from = min; to = t; apart = a; content = h })
  one_fits to c t a h x (inr k) = absurd k

  others_fit : (k : ℕ) (c : Content V) → k ≤ n → ContentFits c → (x : Message V) → IsIn x (others k me c) → MessageFits n x
  others_fit zero c l h x i = absurd i
  others_fit (suc k) c l h x i = go (eqb (suc k) me) refl (others_fit k c (omega arith) h) i
    where
      go : (t : Bool) → eqb (suc k) me ≡ t → ((y : Message V) → IsIn y (others k me c) → MessageFits n y) → IsIn x (cond t (others k me c) (others k me c ++ record { from = me; to = suc k; content = c } ∷ [])) → MessageFits n x
      go true e rest i = rest x i
      go false e rest i = both_fit (others k me c) (answer me (suc k) c) rest (one_fits (suc k) c (omega arith, l) (λ s. eqb-false (suc k) me e (sym s)) h) x i

  propose_fits : (told : Effect) (d : Call V S) (l : Lead V) (v : V) (k : Call V S → Call V S) → Fits d → LeadFits (length (known d.node.log)) l → IsInstance (suc (length (known d.node.log))) → ((e : Call V S) → Fits e → Fits (k e)) → Fits (propose n me told d l (suc (length (known d.node.log))) v k)
  propose_fits told d l v k h f i g =
      append_fits d.node.armed (Accepted l.ballot (suc (length (known d.node.log))) v) d _ h (log_accepted d.node.log l.ballot (suc (length (known d.node.log))) v f.ballot i h.log)
      (λ b. g _ (record {
        log = log_accepted d.node.log l.ballot (suc (length (known d.node.log))) v f.ballot i h.log;
        role = record { ballot = f.ballot; reported = f.reported; next = λ p e. subst (λ (q : Proposal V). (q.instance ≡ suc (length (known d.node.log))) × IsInstance q.instance) (same_Some _ _ e) (refl, i) };
        sends = both_fit d.sends (others n me (Accept l.ballot (suc (length (known d.node.log))) v)) h.sends (others_fit n (Accept l.ballot (suc (length (known d.node.log))) v) (le_refl _) (f.ballot, i));
      }))

  decide_fits : (d : Call V S) (l : Lead V) (p : Proposal V) (k : Call V S → Call V S) → Fits d → LeadFits (length (known d.node.log)) l → l.proposal ≡ Some p → ((e : Call V S) → Fits e → Fits (k e)) → Fits (decide n sv me d l p.instance p.value k)
  decide_fits d l p k h f e g =
      let t = f.next p e in
      append_fits d.node.armed (Known p.instance p.value) d _ h (log_known d.node.log p.instance p.value t.0 t.1 h.log)
      (λ b. g _ (record {
        log = log_known d.node.log p.instance p.value t.0 t.1 h.log;
        role = record { ballot = f.ballot; reported = f.reported; next = λ q x. absurd (none q x) };
        sends = both_fit d.sends (others n me (Chose p.instance p.value)) h.sends (others_fit n (Chose p.instance p.value) (le_refl _) t.1);
      }))
    where
      none : (q : Proposal V) → None ≡ Some q → ⊥
      none q x = cc

  no_proposal : (k : ℕ) (q : Proposal V) → None ≡ Some q → (q.instance ≡ suc k) × IsInstance q.instance
  no_proposal k q x = absurd (cc)

  pub settle_fits : (f : ℕ) (d : Call V S) → Fits d → Fits (settle f n sv me d)
  settle_fits zero d h = h
  settle_fits (suc f) d h = by d.node.role h.role (settle_fits f)
    where
      choose_fits : (l : Lead V) → LeadFits (length (known d.node.log)) l → (o : Option (Proposal V)) → BestOk (suc (length (known d.node.log))) l.reported o → ((e : Call V S) → Fits e → Fits (settle f n sv me e)) → Fits (choose n sv me d l (suc (length (known d.node.log))) o (settle f n sv me))
      choose_fits l k None b g = record { log = h.log; role = record { ballot = k.ballot; reported = k.reported; next = λ q x. no_proposal (length (known d.node.log)) q x }; sends = h.sends }
      choose_fits l k (Some p) b g = propose_fits (effect.Adopts me (suc (length (known d.node.log))) (sv.size p.value)) d l p.value (settle f n sv me) h k (subst IsInstance b.1 (k.reported p b.0).instance) g

      lead_fits : (l : Lead V) → LeadFits (length (known d.node.log)) l → (o : Option (Proposal V)) → l.proposal ≡ o → ((e : Call V S) → Fits e → Fits (settle f n sv me e)) → Fits (lead n sv me d l o (settle f n sv me))
      lead_fits l k (Some p) e g = if_fits (is_majority n l.accepted_by) (λ _. decide_fits d l p (settle f n sv me) h k e g) (λ _. h)
      lead_fits l k None e g =
          if_fits l.active (λ _. h) (λ _. if_fits (is_majority n l.counted) (λ _. choose_fits l k (best (suc (length (known d.node.log))) l.reported) (best_ok (suc (length (known d.node.log))) l.reported) g) (λ _. h))

      by : (r : Role V) → RoleFits (length (known d.node.log)) r → ((e : Call V S) → Fits e → Fits (settle f n sv me e)) → Fits (turn n sv me d r (settle f n sv me))
      by Follower k g = h
      by (Leads l) k g = lead_fits l k l.proposal refl g

  first_fits : (d : Call V S) → Fits d → IsFirst (suc (length (known d.node.log)))
  first_fits d h = (omega arith, omega (arith, h.log.few))

  pub elect_fits : (d : Call V S) → Fits d → Fits (elect n sv me d)
  elect_fits d h =
      if_fits (nat_lt 4294967296 (round_of (ballot_above me (promise d.node.log)))) (λ _. record { log = h.log; role = h.role; sends = h.sends })
      (λ e. stands (ballot (ltb-false 4294967296 (round_of (ballot_above me (promise d.node.log))) e)))
    where
      b : ℕ
      b = ballot_above me (promise d.node.log)

      above : 16 ≤ ballot_above me (promise d.node.log)
      above = go (ltb (promise d.node.log) (16 + me))
        where
          go : (t : Bool) → 16 ≤ cond t (16 + me) ((promise d.node.log - me) / 16 * 16 + 16 + me)
          go true = omega arith
          go false = omega arith

      ballot : round_of (ballot_above me (promise d.node.log)) ≤ 4294967296 → IsBallot (ballot_above me (promise d.node.log))
      ballot l = record {
        some = omega (arith, above);
        few = l;
        node = subst (IsNode 9) (sym (above_owned me (promise d.node.log) (omega (arith, min.1)))) (min.0, le_trans min.1 few);
      }

      stands : IsBallot (ballot_above me (promise d.node.log)) → Fits (stand n sv me (ballot_above me (promise d.node.log)) d)
      stands k =
          append_fits d.node.armed (Promised (ballot_above me (promise d.node.log))) d _ h (log_promised d.node.log (ballot_above me (promise d.node.log)) k h.log)
          (λ a. settle_fits (enough (own_reports d.node.log)) _ (record {
            log = log_promised d.node.log (ballot_above me (promise d.node.log)) k h.log;
            role = record { ballot = k; reported = λ p i. accepted_fit d.node.log h.log p (in_from_on (suc (length (known d.node.log))) p (accepted d.node.log) i); next = λ q x. no_proposal (length (known d.node.log)) q x };
            sends = both_fit d.sends (others n me (Prepare (ballot_above me (promise d.node.log)) (suc (length (known d.node.log))))) h.sends
                (others_fit n (Prepare (ballot_above me (promise d.node.log)) (suc (length (known d.node.log)))) (le_refl _) (k, first_fits d h));
          }))

  -- from another node
  module _ (from : ℕ) (there : IsNode n from) (apart : me ≢ from) where
    send_fits : (d : Call V S) → Fits d → (c : Content V) → ContentFits c → Fits (send d (answer me from c))
    send_fits d h c k = record { log = h.log; role = h.role; sends = both_fit d.sends (answer me from c) h.sends (one_fits from c there apart k) }

    -- the base of a node that is asked for what it doesn't hold is an instance
    base_fits : (first : ℕ) (d : Call V S) → 0 < first → AreRecords sv d.node.log → nat_le first (offset d.node.log) ≡ true → Fits d → Fits (answer_base me from d)
    base_fits first d p r e h =
        send_fits d h (Snapshot (take (base d.node.log) (known d.node.log)))
        (subst IsInstance (sym (length_front (base d.node.log) (known d.node.log) (base_low sv d.node.log r)))
        (omega (arith, p, leb-true first (offset d.node.log) e, offset_low sv d.node.log r), omega (arith, base_low sv d.node.log r, h.log.few)))

    promised_fits : (b first : ℕ) (d : Call V S) → IsBallot b → Fits d → Fits (promised me from b first d)
    promised_fits b first d k h =
        send_fits d h (Promise b (from_on first (accepted d.node.log)))
        (k, from_on_rising 0 first (accepted d.node.log) (accepted_rising d.node.log h.log.instances), λ p i. accepted_fit d.node.log h.log p (in_from_on first p (accepted d.node.log) i))

    prepare_fits : (b first : ℕ) (d : Call V S) → IsBallot b → 0 < first → AreRecords sv d.node.log → Fits d → Fits (on_prepare me from b first d)
    prepare_fits b first d k p r h =
        if_fits (nat_lt b (promise d.node.log)) (λ e. send_fits d h (Nack b (promise d.node.log)) (k, ltb-true b (promise d.node.log) e)) (λ _.
        if_fits (nat_le first (offset d.node.log)) (λ e. base_fits first d p r e h) (λ _.
        if_fits (nat_lt (promise d.node.log) b)
        (λ _. append_fits d.node.armed (Promised b) d _ h (log_promised d.node.log b k h.log)
        (λ a. promised_fits b first (follow me (effect.Promised me b ∷ []) (logged (Promised b) a d)) k (record { log = log_promised d.node.log b k h.log; role = tt; sends = h.sends })))
        (λ _. promised_fits b first d k h)))

    promise_fits : (b : ℕ) (ps : List (Proposal V)) (d : Call V S) → Fits d → ((p : Proposal V) → IsIn p ps → ProposalFits p) → (r : Role V) → RoleFits (length (known d.node.log)) r → Fits (on_promise n sv me from b ps d r)
    promise_fits b ps d h m Follower k = record { log = h.log; role = h.role; sends = h.sends }
    promise_fits b ps d h m (Leads l) k = if_fits (l.ballot == b) (λ _. own l.proposal) (λ _. record { log = h.log; role = h.role; sends = h.sends })
      where
        said : (p : Proposal V) → IsIn p l.reported ⊎ IsIn p ps → ProposalFits p
        said p (inl x) = k.reported p x
        said p (inr x) = m p x

        counted : LeadFits (length (known d.node.log)) (heard l from ps)
        counted = record { ballot = k.ballot; reported = λ p x. said p (in_cases p l.reported ps x); next = λ q x. no_proposal (length (known d.node.log)) q x }

        own : (o : Option (Proposal V)) → Fits (on_own_promise n sv me from ps d l o)
        own (Some p) = record { log = h.log; role = h.role; sends = h.sends }
        own None =
            if_fits l.active (λ _. record { log = h.log; role = h.role; sends = h.sends }) (λ _. if_fits (is_in from l.counted) (λ _. record { log = h.log; role = h.role; sends = h.sends }) (λ _.
            if_fits (is_majority n (heard l from ps).counted) (λ _. settle_fits (enough (heard l from ps).reported) _ (record { log = h.log; role = counted; sends = h.sends })) (λ _. record { log = h.log; role = counted; sends = h.sends })))

    accept_fits : (b i : ℕ) (v : V) (d : Call V S) → IsBallot b → IsInstance i → AreRecords sv d.node.log → Fits d → Fits (on_accept me from b i v d)
    accept_fits b i v d k j r h =
        if_fits (nat_lt b (promise d.node.log)) (λ e. send_fits d h (Nack b (promise d.node.log)) (k, ltb-true b (promise d.node.log) e)) (λ _.
        if_fits (nat_le i (offset d.node.log)) (λ e. base_fits i d j.0 r e h) (λ _.
        if_fits (has_last b i (accepted d.node.log)) (λ _. send_fits d h (Voted b i) (k, j)) (λ _.
        append_fits d.node.armed (Accepted b i v) d _ h (log_accepted d.node.log b i v k j h.log)
        (λ a. send_fits (follow me (effect.Accepted me b i ∷ []) (logged (Accepted b i v) a d)) (record { log = log_accepted d.node.log b i v k j h.log; role = tt; sends = h.sends }) (Voted b i) (k, j)))))

    voted_fits : (b i : ℕ) (d : Call V S) → Fits d → (r : Role V) → RoleFits (length (known d.node.log)) r → Fits (on_voted n sv me from b i d r)
    voted_fits b i d h Follower k = record { log = h.log; role = h.role; sends = h.sends }
    voted_fits b i d h (Leads l) k = if_fits (l.ballot == b) (λ _. own l.proposal refl) (λ _. record { log = h.log; role = h.role; sends = h.sends })
      where
        counted : (p : Proposal V) → l.proposal ≡ Some p → LeadFits (length (known d.node.log)) (voted l from p)
        counted p e = record { ballot = k.ballot; reported = k.reported; next = λ q x. subst (λ (z : Proposal V). (z.instance ≡ suc (length (known d.node.log))) × IsInstance z.instance) (same_Some p q x) (k.next p e) }

        own : (o : Option (Proposal V)) → l.proposal ≡ o → Fits (on_own_vote n sv me from i d l o)
        own None e = record { log = h.log; role = h.role; sends = h.sends }
        own (Some p) e =
            if_fits (p.instance == i) (λ _. if_fits (is_in from l.accepted_by) (λ _. record { log = h.log; role = h.role; sends = h.sends }) (λ _.
            if_fits (is_majority n (voted l from p).accepted_by) (λ _. settle_fits (enough (voted l from p).reported) _ (record { log = h.log; role = counted p e; sends = h.sends })) (λ _. record { log = h.log; role = counted p e; sends = h.sends })))
            (λ _. record { log = h.log; role = h.role; sends = h.sends })

    chosen_fits : (i : ℕ) (v : V) (d : Call V S) → IsInstance i → Fits d → Fits (on_chosen me i v d)
    chosen_fits i v d k h =
        if_fits (i == suc (length (known d.node.log)))
        (λ e. append_fits d.node.armed (Known i v) d _ h (log_known d.node.log i v (eqb-true i (suc (length (known d.node.log))) e) k h.log)
        (λ a. record { log = log_known d.node.log i v (eqb-true i (suc (length (known d.node.log))) e) k h.log; role = tt; sends = h.sends }))
        (λ _. record { log = h.log; role = h.role; sends = h.sends })

    nack_fits : (p : ℕ) (d : Call V S) → Fits d → (r : Role V) → Fits (on_nack me p d r)
    nack_fits p d h Follower = record { log = h.log; role = h.role; sends = h.sends }
    nack_fits p d h (Leads l) = if_fits (nat_lt l.ballot p) (λ _. record { log = h.log; role = tt; sends = h.sends }) (λ _. record { log = h.log; role = h.role; sends = h.sends })

    tell_fits : (first i : ℕ) (vs : List V) → 0 < i → i + length vs ≤ 65536 → (x : Message V) → IsIn x (tell me from first i vs) → MessageFits n x
    tell_fits first i [] l k x h = absurd h
    tell_fits first i (v ∷ vs) l k x h = go (leb first i) (tell_fits first (suc i) vs (omega arith) (omega arith) x) h
      where
        go : (t : Bool) → (IsIn x (tell me from first (suc i) vs) → MessageFits n x) → IsIn x (cond t (record { from = me; to = from; content = Chose i v } ∷ tell me from first (suc i) vs) (tell me from first (suc i) vs)) → MessageFits n x
        go true rest (inl e) = one_fits from (Chose i v) there apart (l, omega arith) x (inl e)
        go true rest (inr y) = rest y
        go false rest y = rest y

    take_fits : (k : ℕ) (xs : List (Message V)) → ((x : Message V) → IsIn x xs → MessageFits n x) → (x : Message V) → IsIn x (take k xs) → MessageFits n x
    take_fits zero [] h x y = absurd y
    take_fits zero (z ∷ zs) h x y = absurd y
    take_fits (suc k) [] h x y = absurd y
    take_fits (suc k) (z ∷ zs) h x (inl e) = h x (inl e)
    take_fits (suc k) (z ∷ zs) h x (inr y) = take_fits k zs (λ u i. h u (inr i)) x y

    snapshot_fits : (values : List V) (d : Call V S) → IsInstance (length values) → Fits d → Fits (on_snapshot sv me values d)
    snapshot_fits values d k h =
        if_fits (nat_le (length values) (length (known d.node.log))) (λ _. record { log = h.log; role = h.role; sends = h.sends })
        (λ _. append_fits d.node.armed (Transferred values (sv.state values)) d _ h (log_transferred d.node.log values (sv.state values) k h.log)
        (λ a. record { log = log_transferred d.node.log values (sv.state values) k h.log; role = tt; sends = h.sends }))

    pub receive_fits : (c : Content V) → ContentFits c → (d : Call V S) → AreRecords sv d.node.log → Fits d → Fits (receive n sv me from c d)
    receive_fits (Prepare b first) k d r h = prepare_fits b first d k.0 k.1.0 r h
    receive_fits (Promise b ps) k d r h = promise_fits b ps d h k.2 d.node.role h.role
    receive_fits (Accept b i v) k d r h = accept_fits b i v d k.0 k.1 r h
    receive_fits (Voted b i) k d r h = voted_fits b i d h d.node.role h.role
    receive_fits (Chose i v) k d r h = chosen_fits i v d k h
    receive_fits (Nack b p) k d r h = nack_fits p d h d.node.role
    receive_fits (Snapshot values) k d r h = snapshot_fits values d k h
    receive_fits (Ask first) k d r h =
        if_fits (nat_le first (offset d.node.log)) (λ e. base_fits first d k.0 r e h) (λ _.
        if_fits (nat_lt (length (known d.node.log)) first) (λ _. record { log = h.log; role = h.role; sends = h.sends })
        (λ _. record { log = h.log; role = h.role; sends = both_fit d.sends (take 64 (tell me from first 1 (known d.node.log))) h.sends (take_fits 64 (tell me from first 1 (known d.node.log)) (tell_fits first 1 (known d.node.log) (omega arith) (omega (arith, h.log.few)))) }))

    pub ask_fits : (d : Call V S) → Fits d → Fits (ask me from d)
    ask_fits d h = send_fits d h (Ask (suc (length (known d.node.log)))) (first_fits d h)

  pub replay_fits : (d : Call V S) → Fits d → Fits (replay me d)
  replay_fits d h = if_fits (is_active d.node.role || d.node.replayed == length (known d.node.log)) (λ _. record { log = h.log; role = h.role; sends = h.sends }) (λ _. record { log = h.log; role = h.role; sends = h.sends })

  pub checkpoint_fits : (version : Version) (d : Call V S) → Fits d → Fits (checkpoint version sv me d)
  checkpoint_fits version d h =
      if_fits (d.node.replayed == base d.node.log) (λ _. record { log = h.log; role = h.role; sends = h.sends }) (λ _. if_fits (nat_lt 0 (length d.node.work.live)) (λ _. record { log = h.log; role = h.role; sends = h.sends }) (λ _.
      append_fits d.node.armed (Checkpoint version d.node.replayed (sv.state (take d.node.replayed (known d.node.log)))) d _ h (log_checkpoint version d.node.log d.node.replayed _ h.log)
      (λ b. record { log = log_checkpoint version d.node.log d.node.replayed _ h.log; role = h.role; sends = h.sends })))

  pub migrated_fits : (d : Call V S) → Fits d → Fits (migrate sv me d)
  migrated_fits d h =
      if_fits (has_old_base d.node.log) (λ _.
      append_fits d.node.armed (Checkpoint Two (base d.node.log) (sv.state (take (base d.node.log) (known d.node.log)))) d _ h (log_checkpoint Two d.node.log (base d.node.log) _ h.log)
      (λ b. record { log = log_checkpoint Two d.node.log (base d.node.log) _ h.log; role = h.role; sends = h.sends })) (λ _. record { log = h.log; role = h.role; sends = h.sends })

  pub drop_fits : (d : Call V S) → Fits d → Fits (drop_known me d)
  drop_fits d h =
      if_fits (base d.node.log == offset d.node.log) (λ _. record { log = h.log; role = h.role; sends = h.sends })
      (λ _. append_fits d.node.armed (Dropped (base d.node.log)) d _ h (log_dropped d.node.log (base d.node.log) h.log)
      (λ b. record { log = log_dropped d.node.log (base d.node.log) h.log; role = h.role; sends = h.sends }))

  -- an active node that proposes where an instance is left
  pub proposed_fits : (told : Effect) (d : Call V S) (l : Lead V) (v : V) (f : ℕ) → Fits d → LeadFits (length (known d.node.log)) l → length (known d.node.log) < 65535 → Fits (propose n me told d l (suc (length (known d.node.log))) v (settle f n sv me))
  proposed_fits told d l v f h k i = propose_fits told d l v (settle f n sv me) h k (omega arith, i) (settle_fits f)
