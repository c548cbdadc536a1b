-- Each message and each schedule line keeps the invariant.
use Rattle.std.proofs.Common.{◌≡◌, ℕ, zero, suc, ◌+◌, ◌-◌, ◌*◌, ◌/◌, ◌<◌, ◌≤◌, ◌≢◌, Bool, true, false, cond, ◌||◌, ◌⊎◌, List, [], ◌∷◌, ◌++◌, length, Option, Some, None, eqb, ltb, leb, refl, sym, ◌∙◌, ap, subst, inl, inr, arith, le_trans, le_refl, le_of_eq, suc-le-suc, eqb-true, eq-eqb, ltb-true, ltb-false, leb-false}
use Rattle.std.specs.Prelude.{take, ◌==◌, nat_lt, nat_le}
use Rattle.std.proofs.lemmas.Bool.{cases_lt, eqb-false, false≢true}
use Rattle.rex_ballot.specs.Limits.{most_nodes}
use Rattle.rex_report.specs.declared.effect.Effect.{Effect}
use Rattle.rex_report.specs.declared.effect.Effect.TheVariants as effect
use Rattle.rex_syntax.specs.declared.version.Version.{Version}
use Rattle.rex_syntax.specs.declared.version.Version.TheVariants.{Two}
use Rattle.rex_cluster.specs.Records.{Rec, Proposal, promise, accepted, from_on, offset, known, base, HasAccepted, HasBallot, has_old_base}
use Rattle.rex_cluster.specs.Records.Rec.{Promised, Accepted, Known, Checkpoint, Dropped, Transferred}
use Rattle.rex_cluster.specs.Quorum.{IsNode, Logs, Chosen, ChosenBy, AllChosen, AllGiven, node_of, round_of, ballot_above, is_in, is_majority}
use Rattle.rex_cluster.specs.Node.{Service, Content, Message, Lead, Role, Node, is_active}
use Rattle.rex_cluster.specs.Node.Content.{Prepare, Promise, Accept, Accepted as Voted, Chosen as Chose, Nack, Ask, Snapshot}
use Rattle.rex_cluster.specs.Node.Role.{Follower, Leads}
use Rattle.rex_cluster.specs.Invariant.{IsIn, IsOpen, IsReady, AreRecords, with_log, Grows, HasHeard, WasReported, Open, IsRightOpen, ChosenPast, AllLearned, LeadsRightly, IsRightRole, IsReplayed, IsRightSnapshot, IsJustified, AreJustified, KeepsAll}
use Rattle.rex_cluster.proofs.Migrated.{old_some}
use Rattle.rex_cluster.specs.Calls.{Call, say, send, others, answer, append, replayed_left, with_role, follow, led, propose, settle, enough, own_reports, candidacy, stand, elect, answer_base, promised, on_prepare, heard, hear, on_own_promise, on_promise, has_last, on_accept, voted, count_vote, on_own_vote, on_voted, on_chosen, on_nack, tell, with_replayed, on_snapshot, receive, ask, replay, checkpoint, drop_known, logged, migrate, restart, stop, start, arm}
use Rattle.rex_cluster.proofs.Quorums.{quorum_map}
use Rattle.rex_cluster.proofs.Grow.{begins_length, Allowed}
use Rattle.rex_cluster.proofs.Step.{acc_below}
use Rattle.rex_cluster.proofs.Roles.{knows_grows, role_grows, put_same, next, grown, next_good, out_grows, records_here, append_good, just_both, just_one, just_others}
use Rattle.rex_cluster.proofs.Lists.{length_push, in_cases, is_in_push, in_from_on, base_low, offset_low, offset_known, accepted_real, accepted_covers, from_on_covers, covers_left, covers_right}
use Rattle.rex_cluster.proofs.Settle.{at_most, free_safe_at, propose_good, settle_good}
use Rattle.rex_cluster.proofs.Fronts.{prefix_of, all_chosen_take, all_given_take}

-- ---- ballots

pub above_promise : (m p : ℕ) → p < ballot_above m p
above_promise m p = go (ltb p (16 + m)) refl
  where
    go : (t : Bool) → ltb p (16 + m) ≡ t → p < cond t (16 + m) ((p - m) / 16 * 16 + 16 + m)
    go true e = ltb-true p (16 + m) e
    go false e = let h = ltb-false p (16 + m) e in omega (arith, h)

pub above_owned : (m p : ℕ) → m < 16 → node_of (ballot_above m p) ≡ m
above_owned m p l = go (ltb p (16 + m))
  where
    go : (t : Bool) → node_of (cond t (16 + m) ((p - m) / 16 * 16 + 16 + m)) ≡ m
    go true = omega arith
    go false = omega arith

or_left : (x y : Bool) → x ≡ true → x || y ≡ true
or_left true y e = refl
or_left false y e = absurd (false≢true e)

or_right : (x y : Bool) → y ≡ true → x || y ≡ true
or_right true y e = refl
or_right false y e = e

-- a call that goes on in one of two ways is good where both are
pub if_good : {A : Type 0} (G : A → Type 0) (t : Bool) {x y : A} → (t ≡ true → G x) → (t ≡ false → G y) → G (cond t x y)
if_good G true f g = f refl
if_good G false f g = g refl

-- a node that took over so many values has replayed them
left_at : (k : ℕ) (t : Bool) → (k ≤ replayed_left t k k) × (replayed_left t k k ≤ k)
left_at k true = (le_refl _, le_refl _)
left_at k false = (le_refl _, le_refl _)

module _ {V : Type 0} where
  pub has_last_in : (b i : ℕ) (ps : List (Proposal V)) → has_last b i ps ≡ true → (p : Proposal V) × IsIn p ps × (p.ballot ≡ b) × (p.instance ≡ i)
  has_last_in b i [] e = absurd (false≢true e)
  has_last_in b i (p ∷ ps) e = go (eqb p.ballot b) refl (eqb p.instance i) refl e (has_last_in b i ps)
    where
      go : (t : Bool) → eqb p.ballot b ≡ t → (u : Bool) → eqb p.instance i ≡ u → cond t (u || has_last b i ps) (has_last b i ps) ≡ true → (has_last b i ps ≡ true → (p : Proposal V) × IsIn p ps × (p.ballot ≡ b) × (p.instance ≡ i)) → (q : Proposal V) × IsIn q (p ∷ ps) × (q.ballot ≡ b) × (q.instance ≡ i)
      go true x true y h ih = (p, inl refl, eqb-true p.ballot b x, eqb-true p.instance i y)
      go true x false y h ih = let r = ih h in (r.0, inr r.1, r.2, r.3)
      go false x true y h ih = let r = ih h in (r.0, inr r.1, r.2, r.3)
      go false x false y h ih = let r = ih h in (r.0, inr r.1, r.2, r.3)

module _ {V S : Type 0} where
  quiet_open : (n : ℕ) (M : Logs V S) (log more : List (Rec V S)) → known more ≡ known log → ((b i : ℕ) (v : V) → HasAccepted b i v log → HasAccepted b i v more) → (b : ℕ) (acks : List ℕ) (o : Option (Proposal V)) → IsRightOpen n M log b acks o → IsRightOpen n M more b acks o
  quiet_open n M log more k to b acks None h = tt
  quiet_open n M log more k to b acks (Some p) h = record { next = h.next ∙ ap (λ vs. suc (length vs)) (sym k); own = to b p.instance p.value h.own; acked = h.acked }

  -- a record that says nothing of promises, acceptances and known values leaves a role right
  quiet_role : (n : ℕ) (M : Logs V S) (log more : List (Rec V S)) → promise more ≡ promise log → known more ≡ known log → ((b i : ℕ) (v : V) → HasAccepted b i v log → HasAccepted b i v more) → ((b i : ℕ) (v : V) → HasAccepted b i v more → HasAccepted b i v log)
      → (m : ℕ) (r : Role V) → IsRightRole n M log m r → IsRightRole n M more m r
  quiet_role n M log more p k to back m Follower h = tt
  quiet_role n M log more p k to back m (Leads l) h = record {
    promised = p ∙ h.promised;
    owned = h.owned;
    past = λ i v x a. h.past i v (subst (λ vs. length vs < i) k x) (back l.ballot i v a);
    heard = λ q x t. subst (λ vs. HasHeard M (length vs) l.ballot l.reported q) (sym k) (h.heard q x t);
    said = λ q x. subst (λ vs. WasReported n M (length vs) l.ballot l.counted q) (sym k) (h.said q x);
    pending = quiet_open n M log more k to l.ballot l.accepted_by l.proposal h.pending;
    knows = subst (AllLearned n M l.ballot 1) (sym k) h.knows;
    counted = h.counted;
    ready = λ t. subst (λ vs. IsReady n (length vs) l.counted l.reported) (sym k) (h.ready t);
  }

  -- each chosen value was chosen at b or below, or by a majority that is past b
  all_learned : (n b k : ℕ) (K : Logs V S) → ((q : ℕ) → IsNode n q → HasBallot b (K q) → ⊥) → (vs : List V) → AllChosen n K k vs → AllLearned n K b k vs
  all_learned n b k K none [] h = tt
  all_learned n b k K none (v ∷ vs) h = (go (cases_lt b h.0.ballot), all_learned n b (suc k) K none vs h.1)
    where
      go : (b < h.0.ballot) ⊎ (h.0.ballot ≤ b) → ChosenBy n K b k v ⊎ ChosenPast n K b k v
      go (inl lt) =
          inr (record {
            ballot = h.0.ballot;
            above = lt;
            quorum = quorum_map n (λ q. HasAccepted h.0.ballot k v (K q)) (λ q. HasAccepted h.0.ballot k v (K q) × (b < promise (K q)) × (HasBallot b (K q) → ⊥))
                (λ q x a. (a, le_trans lt (acc_below h.0.ballot k v (K q) a), none q x)) h.0.quorum;
          })
      go (inr l) = inl (record { ballot = h.0.ballot; most = l; quorum = h.0.quorum })

  just_tell : (n : ℕ) (K : Logs V S) (m to first i : ℕ) (vs : List V) → AllChosen n K i vs → AreJustified n K (tell m to first i vs)
  just_tell n K m to first i [] h = λ x y. absurd y
  just_tell n K m to first i (v ∷ vs) h = go (leb first i) (just_tell n K m to first (suc i) vs h.1)
    where
      go : (t : Bool) → AreJustified n K (tell m to first (suc i) vs) → AreJustified n K (cond t (record { from = m; to = to; content = Chose i v } ∷ tell m to first (suc i) vs) (tell m to first (suc i) vs))
      go true rest x (inl e) = subst (λ z. IsJustified n K z.from z.content) (sym e) h.0
      go true rest x (inr y) = rest x y
      go false rest x y = rest x y

  has_promise : (b : ℕ) (log : List (Rec V S)) → promise log ≡ b → 0 < b → HasBallot b log
  has_promise b [] e l = absurd (omega arith)
  has_promise b (Promised c ∷ log) e l = go (cases_lt c b) (has_promise b log)
    where
      go : (c < b) ⊎ (b ≤ c) → (promise log ≡ b → 0 < b → HasBallot b log) → (b ≡ c) ⊎ HasBallot b log
      go (inl x) ih = inr (ih (omega arith) l)
      go (inr x) ih = inl (omega arith)
  has_promise b (Accepted c j w ∷ log) e l = go (cases_lt c b) (has_promise b log)
    where
      go : (c < b) ⊎ (b ≤ c) → (promise log ≡ b → 0 < b → HasBallot b log) → (b ≡ c) ⊎ HasBallot b log
      go (inl x) ih = inr (ih (omega arith) l)
      go (inr x) ih = inl (omega arith)
  has_promise b (Known j w ∷ log) e l = has_promise b log e l
  has_promise b (Checkpoint version k st ∷ log) e l = has_promise b log e l
  has_promise b (Dropped k ∷ log) e l = has_promise b log e l
  has_promise b (Transferred values st ∷ log) e l = has_promise b log e l

  -- leaving a role keeps what was replayed between the base and what is known
  left_ok : (x : Node V S) → IsReplayed x → (t : Bool) → (base x.log ≤ replayed_left t (base x.log) x.replayed) × (replayed_left t (base x.log) x.replayed ≤ length (known x.log))
  left_ok x h true = (le_refl _, le_trans h.based h.replayed)
  left_ok x h false = (h.based, h.replayed)

  module _ (n : ℕ) (sv : Service V S) (L : Logs V S) (R : ℕ → Role V) (ms : List (Message V)) (m : ℕ) (min : IsNode n m) where
    abbrev G : Call V S → Type 0
    G d = KeepsAll n sv L R ms m d

    abbrev K : Call V S → Logs V S
    K d = with_log L m d.node.log

    -- the same records and sends, with a role that fits
    pub good_with : (d : Call V S) → G d → (x : Node V S) (effects : List Effect) → IsRightRole n (K d) d.node.log m x.role → IsReplayed (record x { log = d.node.log }) → G (record { node = record x { log = d.node.log }; sends = d.sends; effects = effects })
    good_with d good x effects ok here = record { safe = good.safe; role = ok; here = here; others = good.others; old = good.old; grows = good.grows; out = good.out }

    pub say_good : (e : Effect) (d : Call V S) → G d → G (say e d)
    say_good e d good = good_with d good d.node (d.effects ++ e ∷ []) good.role good.here

    pub follow_good : (cause : List Effect) (d : Call V S) → G d → G (follow m cause d)
    follow_good cause d good = let h = left_ok d.node good.here (is_active d.node.role) in good_with d good (follow m cause d).node (follow m cause d).effects tt (record { based = h.0; replayed = h.1 })

    pub send_good : (d : Call V S) → G d → (xs : List (Message V)) → AreJustified n (K d) xs → G (send d xs)
    send_good d good xs j = record { safe = good.safe; role = good.role; here = good.here; others = good.others; old = good.old; grows = good.grows; out = just_both n (K d) d.sends xs good.out j }

    knows_here : (d : Call V S) → G d → AllChosen n (K d) 1 (known d.node.log)
    knows_here d good = subst (λ log. AllChosen n (K d) 1 (known log)) (put_same L m d.node.log) (good.safe.knows m min)

    given_here : (d : Call V S) → G d → AllGiven n (K d) 1 (known d.node.log)
    given_here d good = subst (λ log. AllGiven n (K d) 1 (known log)) (put_same L m d.node.log) (good.safe.given m min)

    records_at : (d : Call V S) → G d → AreRecords sv d.node.log
    records_at d good = records_here n sv L R ms m d min good

    stand_good : (d : Call V S) → G d → (b : ℕ) → promise d.node.log < b → node_of b ≡ m → G (stand n sv m b d)
    stand_good d good b lt o =
        append_good n sv L R ms m d min good (Promised b) allowed d.node.armed
        (λ e. settle (enough (own_reports d.node.log)) n sv m (send (say (effect.Candidate m b) (with_role (Leads (candidacy m b d.node.log)) e)) (others n m (Prepare b (suc (length (known d.node.log)))))))
        (λ a. settle_good n sv L R ms m min (enough (own_reports d.node.log)) _
        (next_good n sv L R ms m d min good (Promised b) allowed (record (with_role (Leads (candidacy m b d.node.log)) d).node { armed = a }) (d.sends ++ others n m (Prepare b (suc (length (known d.node.log))))) _ role
        (record { based = left.0; replayed = left.1 })
        (just_both n M d.sends (others n m (Prepare b (suc (length (known d.node.log))))) (out_grows n sv L R ms m d min good (Promised b) allowed)
        (just_others n n M m (Prepare b (suc (length (known d.node.log)))) (omega arith, owner-in, at_owner (λ log. b ≤ promise log) (omega arith), at_owner (λ log. suc (length (known d.node.log)) ≤ suc (length (known log))) (le_refl _))))))
      where
        left : (base d.node.log ≤ replayed_left (is_active d.node.role) (base d.node.log) d.node.replayed) × (replayed_left (is_active d.node.role) (base d.node.log) d.node.replayed ≤ length (known d.node.log))
        left = left_ok d.node good.here (is_active d.node.role)

        owner-in : IsNode n (node_of b)
        owner-in = subst (λ q. IsNode n q) (sym o) min

        allowed : Allowed n sv (K d) d.node.log m (Promised b)
        allowed = (omega arith, owner-in, inl (sym o))

        M : Logs V S
        M = next n sv L R ms m d min good (Promised b) allowed

        g : Grows (K d) M
        g = grown n sv L R ms m d min good (Promised b) allowed

        at_me : (Q : List (Rec V S) → Type 0) → Q (Promised b ∷ d.node.log) → Q (M m)
        at_me Q h = subst Q (sym (put_same L m (Promised b ∷ d.node.log))) h

        from_me : (Q : List (Rec V S) → Type 0) → Q (M m) → Q (Promised b ∷ d.node.log)
        from_me Q h = subst Q (put_same L m (Promised b ∷ d.node.log)) h

        at_owner : (Q : List (Rec V S) → Type 0) → Q (Promised b ∷ d.node.log) → Q (M (node_of b))
        at_owner Q h = subst (λ q. Q (M q)) (sym o) (at_me Q h)

        new : (q : ℕ) → IsNode n q → HasBallot b (K d q) → ⊥
        new q x h =
            let t = good.safe.seen q b x h in
            absurd (omega (arith, subst (λ log. b ≤ promise log) (put_same L m d.node.log) (subst (λ q. b ≤ promise (K d q)) o t.1)))

        heard : (q : ℕ) → (t : Bool) → eqb q m ≡ t → t || false ≡ true → HasHeard M (length (known d.node.log)) b (own_reports d.node.log) q
        heard q false x y = absurd (false≢true y)
        heard q true x y = subst (λ q. HasHeard M (length (known d.node.log)) b (own_reports d.node.log) q) (sym (eqb-true q m x)) (record {
          promised = at_me (HasBallot b) (inl refl);
          covers = λ c i w l lb a. from_on_covers (suc (length (known d.node.log))) (accepted d.node.log) i c l (accepted_covers sv d.node.log (records_at d good) c i w (le_trans (suc-le-suc (offset_known sv d.node.log (records_at d good))) l) (from_me (HasAccepted c i w) a));
        })

        role : IsRightRole n M (Promised b ∷ d.node.log) m (Leads (candidacy m b d.node.log))
        role = record {
          promised = omega arith;
          owned = o;
          past = λ i v l a. absurd (omega (arith, acc_below b i v d.node.log a));
          heard = λ q x t. heard q (eqb q m) refl t;
          said = λ p x. let a = accepted_real d.node.log p (in_from_on (suc (length (known d.node.log))) p (accepted d.node.log) x) in record {
            node = m;
            node-in = min;
            counted = rw (eq-eqb m m refl);
            has = at_me (HasAccepted p.ballot p.instance p.value) a;
            below = λ l. le_trans (suc-le-suc (acc_below p.ballot p.instance p.value d.node.log a)) lt;
          };
          pending = tt;
          knows = knows_grows g n b 1 (known d.node.log) (all_learned n b 1 (K d) new (known d.node.log) (knows_here d good));
          counted = λ y t. cc;
          ready = λ t. absurd (false≢true t);
        }

    pub elect_good : n ≤ most_nodes → (d : Call V S) → G d → G (elect n sv m d)
    elect_good few d good =
        if_good G (nat_lt 4294967296 (round_of (ballot_above m (promise d.node.log)))) (λ _. say_good (effect.Spent m) d good)
        (λ _. stand_good d good (ballot_above m (promise d.node.log)) (above_promise m (promise d.node.log)) (above_owned m (promise d.node.log) (omega (arith, min.1))))

    -- an active node may propose any value that fits what it knows
    pub active_proposes : (told : Effect) (v : V) (d : Call V S) → G d → (l : Lead V) → IsRightRole n (K d) d.node.log m (Leads l) → l.proposal ≡ None → l.active ≡ true → sv.fits (known d.node.log ++ v ∷ []) ≡ true → (f : ℕ) → G (propose n m told d l (suc (length (known d.node.log))) v (settle f n sv m))
    active_proposes told v d good l ok e x y f =
        let r = ok.ready x in
        propose_good n sv L R ms m min told d good l v ok e r.majority
        (free_safe_at n sv (K d) d.node.log m l good.safe ok r.majority r.nothing v)
        (record { values = known d.node.log; place = refl; chosen = at_most n sv (K d) d.node.log m l good.safe ok r.majority; fits = y })
        (settle f n sv m) (settle_good n sv L R ms m min f)

    pub checkpoint_good : (version : Version) (d : Call V S) → G d → G (checkpoint version sv m d)
    checkpoint_good version d good =
        if_good G (d.node.replayed == base d.node.log) (λ _. say_good effect.Nothing d good) (λ e.
        if_good G (nat_lt 0 (length d.node.work.live)) (λ _. say_good (effect.Live (length d.node.work.live)) d good) (λ _. new (eqb-false d.node.replayed (base d.node.log) e)))
      where
        st : S
        st = sv.state (take d.node.replayed (known d.node.log))

        new : d.node.replayed ≢ base d.node.log → G (append d.node.armed m (Checkpoint version d.node.replayed st) d (say (effect.Checkpointed m d.node.replayed)))
        new ne =
            let allowed : Allowed n sv (K d) d.node.log m (Checkpoint version d.node.replayed st) = (omega (arith, ne, good.here.based), le_trans (offset_low sv d.node.log (records_at d good)) good.here.based, good.here.replayed, refl) in
            append_good n sv L R ms m d min good (Checkpoint version d.node.replayed st) allowed d.node.armed (say (effect.Checkpointed m d.node.replayed))
            (λ a. next_good n sv L R ms m d min good (Checkpoint version d.node.replayed st) allowed (record d.node { armed = a }) d.sends _
            (quiet_role n _ d.node.log (Checkpoint version d.node.replayed st ∷ d.node.log) refl refl (λ b i v h. h) (λ b i v h. h) m d.node.role (role_grows (grown n sv L R ms m d min good (Checkpoint version d.node.replayed st) allowed) n d.node.log m d.node.role good.role))
            (record { based = le_refl _; replayed = good.here.replayed })
            (out_grows n sv L R ms m d min good (Checkpoint version d.node.replayed st) allowed))

    pub drop_good : (d : Call V S) → G d → G (drop_known m d)
    drop_good d good =
        if_good G (base d.node.log == offset d.node.log) (λ _. say_good effect.Nothing d good) (λ e. new (eqb-false (base d.node.log) (offset d.node.log) e))
      where
        r : Rec V S
        r = Dropped (base d.node.log)

        new : base d.node.log ≢ offset d.node.log → G (append d.node.armed m r d (say (effect.Dropped m (base d.node.log))))
        new ne =
            let allowed : Allowed n sv (K d) d.node.log m r = (omega (arith, ne, offset_low sv d.node.log (records_at d good)), refl) in
            append_good n sv L R ms m d min good r allowed d.node.armed (say (effect.Dropped m (base d.node.log)))
            (λ a. next_good n sv L R ms m d min good r allowed (record d.node { armed = a }) d.sends _
            (quiet_role n _ d.node.log (r ∷ d.node.log) refl refl (λ b i v h. h) (λ b i v h. h) m d.node.role (role_grows (grown n sv L R ms m d min good r allowed) n d.node.log m d.node.role good.role))
            (record { based = good.here.based; replayed = good.here.replayed })
            (out_grows n sv L R ms m d min good r allowed))

    -- the values up to the base may be told with the state after them
    base_good : (from : ℕ) (d : Call V S) → G d → G (answer_base m from d)
    base_good from d good =
        let values = take (base d.node.log) (known d.node.log) in
        send_good d good (answer m from (Snapshot values))
        (just_one n (K d) (record { from = m; to = from; content = Snapshot values })
        (record { chosen = all_chosen_take n (K d) 1 (known d.node.log) (base d.node.log) (knows_here d good); given = all_given_take n (K d) 1 (known d.node.log) (base d.node.log) (given_here d good) }))

    reply_good : (d : Call V S) → G d → (from b first : ℕ) → offset d.node.log < first → HasBallot b d.node.log → promise d.node.log ≤ b → first ≤ suc (length (known (K d (node_of b)))) → G (promised m from b first d)
    reply_good d good from b first young has low fits =
        send_good d good (answer m from (Promise b (from_on first (accepted d.node.log))))
        (just_one n (K d) (record { from = m; to = from; content = Promise b (from_on first (accepted d.node.log)) }) (record {
          from-in = min;
          heard = record {
            promised = at_me (HasBallot b) has;
            covers = λ c i w lt lb a. from_on_covers first (accepted d.node.log) i c (le_trans fits lt) (accepted_covers sv d.node.log (records_at d good) c i w (le_trans young (le_trans fits lt)) (from_me (HasAccepted c i w) a));
          };
          real = λ p x. let a = accepted_real d.node.log p (in_from_on first p (accepted d.node.log) x) in
              (at_me (HasAccepted p.ballot p.instance p.value) a, le_trans (acc_below p.ballot p.instance p.value d.node.log a) low);
        }))
      where
        at_me : (Q : List (Rec V S) → Type 0) → Q d.node.log → Q (K d m)
        at_me Q h = subst Q (sym (put_same L m d.node.log)) h

        from_me : (Q : List (Rec V S) → Type 0) → Q (K d m) → Q d.node.log
        from_me Q h = subst Q (put_same L m d.node.log) h

    prepare_good : (from b first : ℕ) (d : Call V S) → G d → IsJustified n (K d) from (Prepare b first) → G (on_prepare m from b first d)
    prepare_good from b first d good j =
        if_good G (nat_lt b (promise d.node.log))
        (λ _. send_good d good (answer m from (Nack b (promise d.node.log))) (just_one n (K d) (record { from = m; to = from; content = Nack b (promise d.node.log) }) tt))
        (λ y. if_good G (nat_le first (offset d.node.log)) (λ _. base_good from d good) (λ z.
        if_good G (nat_lt (promise d.node.log) b) (λ x. above (leb-false first (offset d.node.log) z) (ltb-true (promise d.node.log) b x)) (λ x. same (leb-false first (offset d.node.log) z) (ltb-false (promise d.node.log) b x) (ltb-false b (promise d.node.log) y))))
      where
        above : offset d.node.log < first → promise d.node.log < b → G (append d.node.armed m (Promised b) d (λ e. promised m from b first (follow m (effect.Promised m b ∷ []) e)))
        above young lt =
            let allowed : Allowed n sv (K d) d.node.log m (Promised b) = (omega arith, j.1, inr j.2) in
            let left = left_ok d.node good.here (is_active d.node.role) in
            append_good n sv L R ms m d min good (Promised b) allowed d.node.armed (λ e. promised m from b first (follow m (effect.Promised m b ∷ []) e))
            (λ a. reply_good _ (next_good n sv L R ms m d min good (Promised b) allowed (record (with_role Follower d).node { armed = a }) d.sends _ tt (record { based = left.0; replayed = left.1 }) (out_grows n sv L R ms m d min good (Promised b) allowed))
            from b first young (inl refl) (omega arith) (le_trans j.3 (suc-le-suc (begins_length _ _ ((grown n sv L R ms m d min good (Promised b) allowed).at (node_of b)).learns))))

        same : offset d.node.log < first → b ≤ promise d.node.log → promise d.node.log ≤ b → G (promised m from b first d)
        same young u w = reply_good d good from b first young (has_promise b d.node.log (omega arith) (omega (arith, j.0))) w j.3

    -- what the node's own log says of it
    own_log : (d : Call V S) (b : ℕ) → node_of b ≡ m → K d (node_of b) ≡ d.node.log
    own_log d b o = subst (λ q. K d q ≡ d.node.log) (sym o) (put_same L m d.node.log)

    promise_good : (from b : ℕ) (ps : List (Proposal V)) (d : Call V S) → G d → IsJustified n (K d) from (Promise b ps) → (r : Role V) → IsRightRole n (K d) d.node.log m r → G (on_promise n sv m from b ps d r)
    promise_good from b ps d good j Follower ok = say_good (effect.IgnoredBallot b 0) d good
    promise_good from b ps d good j (Leads l) ok =
        if_good G (l.ballot == b) (λ x. by (eqb-true l.ballot b x) l.proposal refl) (λ _. say_good (effect.IgnoredBallot b l.ballot) d good)
      where
        hears_ok : l.ballot ≡ b → l.proposal ≡ None → LeadsRightly n (K d) d.node.log m (heard l from ps)
        hears_ok e none = record {
          promised = ok.promised;
          owned = ok.owned;
          past = λ i v lt a. subst (λ o. IsOpen o i v) none (ok.past i v lt a);
          heard = λ q x t. hears q x (is_in q l.counted) refl (eqb q from) refl (sym (is_in_push q from l.counted) ∙ t);
          said = λ p x. said p (in_cases p l.reported ps x);
          pending = tt;
          knows = ok.knows;
          counted = λ y t. cc;
          ready = λ t. absurd (false≢true t);
        }
          where
            o : node_of b ≡ m
            o = subst (λ x. node_of x ≡ m) e ok.owned

            place : length (known (K d (node_of b))) ≡ length (known d.node.log)
            place = ap (λ log. length (known log)) (own_log d b o)

            hears : (q : ℕ) → IsNode n q → (u : Bool) → is_in q l.counted ≡ u → (t : Bool) → eqb q from ≡ t → u || t ≡ true → HasHeard (K d) (length (known d.node.log)) l.ballot (l.reported ++ ps) q
            hears q x true y t z w = let h = ok.heard q x y in record {
              promised = h.promised;
              covers = λ c i w lt lb a. covers_left l.reported ps i c (h.covers c i w lt lb a);
            }
            hears q x false y true z w = subst (λ q. HasHeard (K d) (length (known d.node.log)) l.ballot (l.reported ++ ps) q) (sym (eqb-true q from z)) (record {
              promised = subst (λ c. HasBallot c (K d from)) (sym e) j.heard.promised;
              covers = λ c i w lt lb a. covers_right l.reported ps i c (j.heard.covers c i w (omega (arith, place)) (omega (arith, e)) a);
            })
            hears q x false y false z w = absurd (false≢true w)

            below : (p : Proposal V) → HasAccepted p.ballot p.instance p.value (K d from) → p.ballot ≤ b → length (known d.node.log) < p.instance → p.ballot < l.ballot
            below p a low lt = go (cases_lt p.ballot l.ballot)
              where
                go : (p.ballot < l.ballot) ⊎ (l.ballot ≤ p.ballot) → p.ballot < l.ballot
                go (inl x) = x
                go (inr x) =
                    let s : p.ballot ≡ l.ballot = omega (arith, e) in
                    let t = good.safe.own from p.ballot p.instance p.value j.from-in a in
                    let a' = subst (λ log. HasAccepted l.ballot p.instance p.value log) (own_log d l.ballot ok.owned) (subst (λ c. HasAccepted c p.instance p.value (K d (node_of c))) s t.1) in
                    absurd (subst (λ o. IsOpen o p.instance p.value) none (ok.past p.instance p.value lt a'))

            said : (p : Proposal V) → IsIn p l.reported ⊎ IsIn p ps → WasReported n (K d) (length (known d.node.log)) l.ballot (l.counted ++ from ∷ []) p
            said p (inl x) = let h = ok.said p x in record { node = h.node; node-in = h.node-in; counted = is_in_push h.node from l.counted ∙ or_left (is_in h.node l.counted) (eqb h.node from) h.counted; has = h.has; below = h.below }
            said p (inr x) = let t = j.real p x in record { node = from; node-in = j.from-in; counted = is_in_push from from l.counted ∙ or_right (is_in from l.counted) (eqb from from) (eq-eqb from from refl); has = t.0; below = below p t.0 t.1 }

        counted : LeadsRightly n (K d) d.node.log m (heard l from ps) → G (hear n sv m (heard l from ps) d)
        counted h =
            let good' : G (led (Leads (heard l from ps)) d) = good_with d good (led (Leads (heard l from ps)) d).node d.effects h (record { based = good.here.based; replayed = good.here.replayed }) in
            if_good G (is_majority n (l.counted ++ from ∷ [])) (λ _. settle_good n sv L R ms m min (enough (l.reported ++ ps)) _ good') (λ _. say_good (effect.Have (length (l.counted ++ from ∷ []))) _ good')

        by : l.ballot ≡ b → (o : Option (Proposal V)) → l.proposal ≡ o → G (on_own_promise n sv m from ps d l o)
        by e (Some p) x = say_good effect.IgnoredLate d good
        by e None x =
            if_good G l.active (λ _. say_good effect.IgnoredLate d good) (λ _.
            if_good G (is_in from l.counted) (λ _. say_good (effect.IgnoredAgain from) d good) (λ _. counted (hears_ok e x)))

    accept_good : (from b i : ℕ) (v : V) (d : Call V S) → G d → IsJustified n (K d) from (Accept b i v) → G (on_accept m from b i v d)
    accept_good from b i v d good j =
        if_good G (nat_lt b (promise d.node.log))
        (λ _. send_good d good (answer m from (Nack b (promise d.node.log))) (just_one n (K d) (record { from = m; to = from; content = Nack b (promise d.node.log) }) tt))
        (λ x. if_good G (nat_le i (offset d.node.log)) (λ _. base_good from d good)
        (λ _. if_good G (has_last b i (accepted d.node.log)) have (λ _. new (ltb-false b (promise d.node.log) x))))
      where
        tells : (M : Logs V S) (u : V) → HasAccepted b i u (M m) → AreJustified n M (answer m from (Voted b i))
        tells M u a = just_one n M (record { from = m; to = from; content = Voted b i }) (min, (u, a))

        have : has_last b i (accepted d.node.log) ≡ true → G (send d (answer m from (Voted b i)))
        have x =
            let t = has_last_in b i (accepted d.node.log) x in
            let a = accepted_real d.node.log t.0 t.1 in
            send_good d good (answer m from (Voted b i)) (tells (K d) t.0.value (subst (λ log. HasAccepted b i t.0.value log) (sym (put_same L m d.node.log)) (subst (λ c. HasAccepted c i t.0.value d.node.log) t.2 (subst (λ k. HasAccepted t.0.ballot k t.0.value d.node.log) t.3 a))))

        new : promise d.node.log ≤ b → G (append d.node.armed m (Accepted b i v) d (λ e. send (follow m (effect.Accepted m b i ∷ []) e) (answer m from (Voted b i))))
        new l =
            let allowed : Allowed n sv (K d) d.node.log m (Accepted b i v) = (l, j.0, inr j.1) in
            let left = left_ok d.node good.here (is_active d.node.role) in
            append_good n sv L R ms m d min good (Accepted b i v) allowed d.node.armed (λ e. send (follow m (effect.Accepted m b i ∷ []) e) (answer m from (Voted b i)))
            (λ a. next_good n sv L R ms m d min good (Accepted b i v) allowed (record (with_role Follower d).node { armed = a }) (d.sends ++ answer m from (Voted b i)) _ tt (record { based = left.0; replayed = left.1 })
            (just_both n (next n sv L R ms m d min good (Accepted b i v) allowed) d.sends (answer m from (Voted b i)) (out_grows n sv L R ms m d min good (Accepted b i v) allowed)
            (tells (next n sv L R ms m d min good (Accepted b i v) allowed) v (subst (HasAccepted b i v) (sym (put_same L m (Accepted b i v ∷ d.node.log))) (inl (refl, refl, refl))))))

    voted_good : (from b i : ℕ) (d : Call V S) → G d → IsJustified n (K d) from (Voted b i) → (r : Role V) → IsRightRole n (K d) d.node.log m r → G (on_voted n sv m from b i d r)
    voted_good from b i d good j Follower ok = say_good (effect.IgnoredBallot b 0) d good
    voted_good from b i d good j (Leads l) ok =
        if_good G (l.ballot == b) (λ x. by (eqb-true l.ballot b x) l.proposal refl) (λ _. say_good (effect.IgnoredBallot b l.ballot) d good)
      where
        voted_ok : (p : Proposal V) → l.ballot ≡ b → l.proposal ≡ Some p → p.instance ≡ i → LeadsRightly n (K d) d.node.log m (voted l from p)
        voted_ok p e x at = record {
          promised = ok.promised;
          owned = ok.owned;
          past = λ i v lt a. subst (λ o. IsOpen o i v) x (ok.past i v lt a);
          heard = ok.heard;
          said = ok.said;
          pending = record { next = op.next; own = op.own; acked = λ q y t. acks q y (is_in q l.accepted_by) refl (eqb q from) refl (sym (is_in_push q from l.accepted_by) ∙ t) };
          knows = ok.knows;
          counted = λ y t. ok.counted p x;
          ready = ok.ready;
        }
          where
            op : Open n (K d) d.node.log l.ballot l.accepted_by p
            op = subst (IsRightOpen n (K d) d.node.log l.ballot l.accepted_by) x ok.pending

            o : node_of b ≡ m
            o = subst (λ x. node_of x ≡ m) e ok.owned

            has : HasAccepted l.ballot p.instance j.1.0 (K d from)
            has = subst (λ k. HasAccepted l.ballot k j.1.0 (K d from)) (sym at) (subst (λ c. HasAccepted c i j.1.0 (K d from)) (sym e) j.1.1)

            mine' : HasAccepted l.ballot p.instance p.value (K d (node_of l.ballot))
            mine' = subst (HasAccepted l.ballot p.instance p.value) (sym (own_log d l.ballot ok.owned)) op.own

            same : j.1.0 ≡ p.value
            same = good.safe.one l.ballot p.instance j.1.0 p.value (good.safe.own from l.ballot p.instance j.1.0 j.0 has).1 mine'

            acks : (q : ℕ) → IsNode n q → (u : Bool) → is_in q l.accepted_by ≡ u → (t : Bool) → eqb q from ≡ t → u || t ≡ true → HasAccepted l.ballot p.instance p.value (K d q)
            acks q y true z t w r = op.acked q y z
            acks q y false z true w r = subst (λ q. HasAccepted l.ballot p.instance p.value (K d q)) (sym (eqb-true q from w)) (subst (λ v. HasAccepted l.ballot p.instance v (K d from)) same has)
            acks q y false z false w r = absurd (false≢true r)

        counted : (p : Proposal V) → LeadsRightly n (K d) d.node.log m (voted l from p) → G (count_vote n sv m (voted l from p) d)
        counted p h =
            let good' : G (led (Leads (voted l from p)) d) = good_with d good (led (Leads (voted l from p)) d).node d.effects h (record { based = good.here.based; replayed = good.here.replayed }) in
            if_good G (is_majority n (l.accepted_by ++ from ∷ [])) (λ _. settle_good n sv L R ms m min (enough l.reported) _ good') (λ _. say_good (effect.Have (length (l.accepted_by ++ from ∷ []))) _ good')

        by : l.ballot ≡ b → (o : Option (Proposal V)) → l.proposal ≡ o → G (on_own_vote n sv m from i d l o)
        by e None x = say_good (effect.IgnoredInstance i 0) d good
        by e (Some p) x =
            if_good G (p.instance == i)
            (λ y. if_good G (is_in from l.accepted_by) (λ _. say_good (effect.IgnoredAgain from) d good) (λ _. counted p (voted_ok p e x (eqb-true p.instance i y))))
            (λ _. say_good (effect.IgnoredInstance i p.instance) d good)

    chosen_good : (i : ℕ) (v : V) (d : Call V S) → G d → Chosen n (K d) i v → G (on_chosen m i v d)
    chosen_good i v d good c =
        if_good G (i == suc (length (known d.node.log))) (λ x. new (eqb-true i (suc (length (known d.node.log))) x)) (λ _. say_good (effect.IgnoredInstance i (suc (length (known d.node.log)))) d good)
      where
        new : i ≡ suc (length (known d.node.log)) → G (append d.node.armed m (Known i v) d (λ e. follow m (effect.Known m i ∷ []) e))
        new e =
            let allowed : Allowed n sv (K d) d.node.log m (Known i v) = (e, c) in
            let left = left_ok d.node good.here (is_active d.node.role) in
            append_good n sv L R ms m d min good (Known i v) allowed d.node.armed (λ e. follow m (effect.Known m i ∷ []) e)
            (λ a. next_good n sv L R ms m d min good (Known i v) allowed (record (with_role Follower d).node { armed = a }) d.sends _ tt
            (record { based = left.0; replayed = omega (arith, left.1, length_push (known d.node.log) v) })
            (out_grows n sv L R ms m d min good (Known i v) allowed))

    nack_good : (p : ℕ) (d : Call V S) → G d → (r : Role V) → G (on_nack m p d r)
    nack_good p d good Follower = say_good (effect.IgnoredBallot p 0) d good
    nack_good p d good (Leads l) = if_good G (nat_lt l.ballot p) (λ _. follow_good [] d good) (λ _. say_good (effect.IgnoredBallot p l.ballot) d good)

    snapshot_good : (values : List V) (d : Call V S) → G d → IsRightSnapshot n (K d) values → G (on_snapshot sv m values d)
    snapshot_good values d good j =
        if_good G (nat_le (length values) (length (known d.node.log))) (λ _. say_good (effect.IgnoredInstance (length values) (suc (length (known d.node.log)))) d good)
        (λ x. new (leb-false (length values) (length (known d.node.log)) x))
      where
        r : Rec V S
        r = Transferred values (sv.state values)

        taking : Call V S → Call V S
        taking e = follow m (effect.Transferred m (length values) ∷ []) (with_replayed (length values) e)

        new : length (known d.node.log) < length values → G (append d.node.armed m r d taking)
        new l =
            let allowed : Allowed n sv (K d) d.node.log m r = ((l, prefix_of n sv (K d) good.safe 1 (known d.node.log) values (knows_here d good) j.chosen (omega arith), refl), j.chosen, j.given) in
            let left = left_at (length values) (is_active d.node.role) in
            append_good n sv L R ms m d min good r allowed d.node.armed taking
            (λ a. next_good n sv L R ms m d min good r allowed (taking (logged r a d)).node d.sends _ tt
            (record { based = left.0; replayed = left.1 })
            (out_grows n sv L R ms m d min good r allowed))

    just_take : (M : Logs V S) (k : ℕ) (xs : List (Message V)) → AreJustified n M xs → AreJustified n M (take k xs)
    just_take M zero [] h x y = absurd y
    just_take M (suc k) [] h x y = absurd y
    just_take M zero (z ∷ xs) h x y = absurd y
    just_take M (suc k) (z ∷ xs) h x (inl e) = h x (inl e)
    just_take M (suc k) (z ∷ xs) h x (inr y) = just_take M k xs (λ u i. h u (inr i)) x y

    pub receive_good : (from : ℕ) (c : Content V) (d : Call V S) → G d → IsJustified n (K d) from c → G (receive n sv m from c d)
    receive_good from (Prepare b first) d good j = prepare_good from b first d good j
    receive_good from (Promise b ps) d good j = promise_good from b ps d good j d.node.role good.role
    receive_good from (Accept b i v) d good j = accept_good from b i v d good j
    receive_good from (Voted b i) d good j = voted_good from b i d good j d.node.role good.role
    receive_good from (Chose i v) d good j = chosen_good i v d good j
    receive_good from (Nack b p) d good j = nack_good p d good d.node.role
    receive_good from (Ask first) d good j =
        if_good G (nat_le first (offset d.node.log)) (λ _. base_good from d good) (λ _.
        if_good G (nat_lt (length (known d.node.log)) first) (λ _. say_good effect.Nothing d good)
        (λ _. send_good d good (take 64 (tell m from first 1 (known d.node.log))) (just_take (K d) 64 (tell m from first 1 (known d.node.log)) (just_tell n (K d) m from first 1 (known d.node.log) (knows_here d good)))))
    receive_good from (Snapshot values) d good j = snapshot_good values d good j

    -- ---- schedule lines

    pub ask_good : (other : ℕ) (d : Call V S) → G d → G (ask m other d)
    ask_good other d good = send_good d good (answer m other (Ask (suc (length (known d.node.log))))) (just_one n (K d) (record { from = m; to = other; content = Ask (suc (length (known d.node.log))) }) tt)

    pub replay_good : (d : Call V S) → G d → G (replay m d)
    replay_good d good =
        if_good G (is_active d.node.role || d.node.replayed == length (known d.node.log)) (λ _. say_good (effect.UpToDate m) d good)
        (λ _. good_with d good (record d.node { replayed = length (known d.node.log) }) _ good.role (record { based = le_trans good.here.based good.here.replayed; replayed = le_refl _ }))

    pub down_good : (d : Call V S) → G d → (x : Node V S) (effects : List Effect) → x.role ≡ Follower → x.replayed ≡ base d.node.log → G (record { node = record x { log = d.node.log }; sends = d.sends; effects = effects })
    down_good d good x effects e f =
        good_with d good x effects (subst (IsRightRole n (K d) d.node.log m) (sym e) tt)
        (record { based = le_of_eq (sym f); replayed = subst (λ k. k ≤ length (known d.node.log)) (sym f) (base_low sv d.node.log (records_here n sv L R ms m d min good)) })

    pub stop_good : (d : Call V S) → G d → G (stop m d)
    stop_good d good = down_good d good (stop m d).node (stop m d).effects refl refl

    restart_good : (d : Call V S) → G d → G (restart m d)
    restart_good d good = down_good d good (restart m d).node (restart m d).effects refl refl

    -- the state at the base is written down again, and nothing has changed but the log
    migrated_good : (d : Call V S) → G d → G (migrate sv m d)
    migrated_good d good =
        if_good G (has_old_base d.node.log) new (λ _. good_with d good d.node d.effects good.role (record { based = good.here.based; replayed = good.here.replayed }))
      where
        k : ℕ
        k = base d.node.log

        r : Rec V S
        r = Checkpoint Two k (sv.state (take k (known d.node.log)))

        rs : AreRecords sv d.node.log
        rs = records_at d good

        new : has_old_base d.node.log ≡ true → G (append d.node.armed m r d (say (effect.Migrated m k)))
        new e =
            let allowed : Allowed n sv (K d) d.node.log m r = (old_some sv d.node.log rs e, offset_low sv d.node.log rs, base_low sv d.node.log rs, refl) in
            append_good n sv L R ms m d min good r allowed d.node.armed (say (effect.Migrated m k))
            (λ a. next_good n sv L R ms m d min good r allowed (record d.node { armed = a }) d.sends _
            (quiet_role n _ d.node.log (r ∷ d.node.log) refl refl (λ b i v h. h) (λ b i v h. h) m d.node.role (role_grows (grown n sv L R ms m d min good r allowed) n d.node.log m d.node.role good.role))
            (record { based = good.here.based; replayed = good.here.replayed })
            (out_grows n sv L R ms m d min good r allowed))

    pub start_good : (d : Call V S) → G d → G (start sv m d)
    start_good d good = migrated_good (restart m d) (restart_good d good)

    pub arm_good : (kept : Bool) (d : Call V S) → G d → G (arm m kept d)
    arm_good kept d good = good_with d good (arm m kept d).node (arm m kept d).effects good.role (record { based = good.here.based; replayed = good.here.replayed })
