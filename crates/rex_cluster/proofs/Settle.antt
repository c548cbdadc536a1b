-- A node that leads goes on.
use Rattle.std.proofs.Common.{◌≡◌, ℕ, zero, suc, ◌+◌, ◌*◌, ◌<◌, ◌≤◌, Bool, true, false, cond, ◌||◌, ◌⊎◌, List, [], ◌∷◌, ◌++◌, length, Option, Some, None, eqb, refl, sym, ◌∙◌, subst, inl, inr, arith, le_trans, le_refl, le_of_eq, lt-suc_self, eqb-true, ltb-true}
use Rattle.std.proofs.lemmas.Bool.{cases_lt, false≢true}
use Rattle.rex_report.specs.declared.effect.Effect.{Effect}
use Rattle.rex_report.specs.declared.effect.Effect.TheVariants as effect
use Rattle.rex_cluster.specs.Records.{Rec, Proposal, proposal_of, promise, known, base, HasAccepted, HasBallot}
use Rattle.rex_cluster.specs.Records.Rec.{Accepted, Known}
use Rattle.rex_cluster.specs.Quorum.{IsNode, count, Quorum, Logs, ChosenAt, Chosen, ChosenBy, AllChosen, AllChosenBy, node_of, is_in, is_majority}
use Rattle.rex_cluster.specs.Node.{Service, Message, Lead, Role, Node}
use Rattle.rex_cluster.specs.Node.Content.{Accept, Chosen as Chose}
use Rattle.rex_cluster.specs.Node.Role.{Follower, Leads}
use Rattle.rex_cluster.specs.Invariant.{IsIn, Covers, IsOpen, with_log, IsSafeAt, Prior, AreSafe, Grows, HasHeard, WasReported, Open, IsRightOpen, ChosenPast, AllLearned, LeadsRightly, IsRightRole, IsReplayed, KeepsAll}
use Rattle.rex_cluster.specs.Calls.{Call, say, send, others, leading, led, propose, replayed_known, learned, decide, best, choose, lead, turn, settle}
use Rattle.rex_cluster.proofs.Quorums.{overlap}
use Rattle.rex_cluster.proofs.Agree.{agreement}
use Rattle.rex_cluster.proofs.Step.{has_below}
use Rattle.rex_cluster.proofs.Grow.{Allowed, chosen_grows}
use Rattle.rex_cluster.proofs.Roles.{heard_grows, said_grows, knows_grows, put_same, next, grown, next_good, out_grows, records_here, append_good, just_both, just_others}
use Rattle.rex_cluster.proofs.Lists.{length_push, base_low, BestOk, best_ok}

abbrev pub majority : (n : ℕ) (xs : List ℕ) (P : ℕ → Type 0) → is_majority n xs ≡ true → ((q : ℕ) → IsNode n q → is_in q xs ≡ true → P q) → Quorum n P
majority n xs P e f = record { who = λ q. is_in q xs; big = ltb-true n (2 * count (λ q. is_in q xs) n) e; each = f }

module _ {V S : Type 0} where
  pub by_chosen : (n : ℕ) (L : Logs V S) (b k : ℕ) (vs : List V) → AllChosenBy n L b k vs → AllChosen n L k vs
  by_chosen n L b k [] h = tt
  by_chosen n L b k (v ∷ vs) h = (record { ballot = h.0.ballot; quorum = h.0.quorum }, by_chosen n L b (suc k) vs h.1)

  learned_push : (n : ℕ) (L : Logs V S) (b k : ℕ) (vs : List V) (v : V) → AllLearned n L b k vs → ChosenBy n L b (k + length vs) v → AllLearned n L b k (vs ++ v ∷ [])
  learned_push n L b k [] v h c = (inl (subst (λ j. ChosenBy n L b j v) (omega arith) c), tt)
  learned_push n L b k (x ∷ vs) v h c = (h.0, learned_push n L b (suc k) vs v h.1 (subst (λ j. ChosenBy n L b j v) (omega arith) c))

  -- a majority that will never promise b
  abbrev IsAgainst : ℕ → Logs V S → ℕ → Type 0
  IsAgainst n L b = Quorum n (λ q. (b < promise (L q)) × (HasBallot b (L q) → ⊥))

  by_or_against : (n : ℕ) (L : Logs V S) (b k : ℕ) (vs : List V) → AllLearned n L b k vs → AllChosenBy n L b k vs ⊎ IsAgainst n L b
  by_or_against n L b k [] h = inl tt
  by_or_against n L b k (v ∷ vs) h = go h.0 (by_or_against n L b (suc k) vs h.1)
    where
      go : ChosenBy n L b k v ⊎ ChosenPast n L b k v → AllChosenBy n L b (suc k) vs ⊎ IsAgainst n L b → AllChosenBy n L b k (v ∷ vs) ⊎ IsAgainst n L b
      go (inl c) (inl rest) = inl (c, rest)
      go (inl c) (inr q) = inr q
      go (inr c) rest = inr (record { who = c.quorum.who; big = c.quorum.big; each = λ m l e. let t = c.quorum.each m l e in (t.1, t.2) })

  pub chosen_by_at : (n : ℕ) (L : Logs V S) (b k j : ℕ) (vs : List V) → AllChosenBy n L b k vs → j < length vs → (u : V) × ChosenBy n L b (k + j) u
  chosen_by_at n L b k j [] h l = absurd (omega arith)
  chosen_by_at n L b k zero (v ∷ vs) h l = (v, subst (λ j. ChosenBy n L b j v) (omega arith) h.0)
  chosen_by_at n L b k (suc j) (v ∷ vs) h l =
      let r = chosen_by_at n L b (suc k) j vs h.1 (omega arith) in
      (r.0, subst (λ j. ChosenBy n L b j r.0) (omega arith) r.1)

  -- the chosen values of as many instances are the same
  pub all_chosen_same : (n : ℕ) (sv : Service V S) (L : Logs V S) → AreSafe n sv L → (k : ℕ) (xs ys : List V) → AllChosen n L k xs → AllChosen n L k ys → length xs ≡ length ys → xs ≡ ys
  all_chosen_same n sv L s k [] [] x y e = refl
  all_chosen_same n sv L s k [] (w ∷ ys) x y e = absurd (omega arith)
  all_chosen_same n sv L s k (v ∷ xs) [] x y e = absurd (omega arith)
  all_chosen_same n sv L s k (v ∷ xs) (w ∷ ys) x y e =
      let p = agreement n sv L s k v w x.0 y.0 in
      let q = all_chosen_same n sv L s (suc k) xs ys x.1 y.1 (omega arith) in
      cc

  module _ (n : ℕ) (sv : Service V S) (K : Logs V S) (log : List (Rec V S)) (m : ℕ) (l : Lead V) (s : AreSafe n sv K) (ok : LeadsRightly n K log m l) (maj : is_majority n l.counted ≡ true) where
    pub heard_quorum : Quorum n (λ q. HasHeard K (length (known log)) l.ballot l.reported q)
    heard_quorum = majority n l.counted (λ q. HasHeard K (length (known log)) l.ballot l.reported q) maj ok.heard

    -- what a node knows that a majority promised b was chosen at b or below
    pub at_most : AllChosenBy n K l.ballot 1 (known log)
    at_most = go (by_or_against n K l.ballot 1 (known log) ok.knows)
      where
        go : AllChosenBy n K l.ballot 1 (known log) ⊎ IsAgainst n K l.ballot → AllChosenBy n K l.ballot 1 (known log)
        go (inl h) = h
        go (inr q) =
            let r = overlap n (λ q. HasHeard K (length (known log)) l.ballot l.reported q) (λ q. (l.ballot < promise (K q)) × (HasBallot l.ballot (K q) → ⊥)) heard_quorum q in
            absurd ((q.each r.0 r.1 r.3).1 (heard_quorum.each r.0 r.1 r.2).promised)

    -- where nothing was reported for the next instance, nothing was for later ones
    pub nothing_past : BestOk (suc (length (known log))) l.reported None → (p : Proposal V) → IsIn p l.reported → p.instance ≤ length (known log)
    nothing_past none p i = go (cases_lt (length (known log)) p.instance)
      where
        d : WasReported n K (length (known log)) l.ballot l.counted p
        d = ok.said p i

        past : (lt : length (known log) < p.instance) → ⊥
        past lt = split (cases_lt (length (known log)) (length pr.values))
          where
            o : (IsNode n (node_of p.ballot)) × HasAccepted p.ballot p.instance p.value (K (node_of p.ballot))
            o = s.own d.node p.ballot p.instance p.value d.node-in d.has

            pr : Prior n sv K p.ballot p.instance p.value
            pr = s.prior p.ballot p.instance p.value o.0 o.1

            split : (length (known log) < length pr.values) ⊎ (length pr.values ≤ length (known log)) → ⊥
            split (inr x) = none p.ballot (record { it = p; inside = i; at = omega (arith, pr.place); above = le_refl _ })
            split (inl x) =
                let t = chosen_by_at n K p.ballot 1 (length (known log)) pr.values pr.chosen x in
                let r = overlap n (λ q. HasHeard K (length (known log)) l.ballot l.reported q) (λ q. HasAccepted t.1.ballot (1 + length (known log)) t.0 (K q)) heard_quorum t.1.quorum in
                let a = t.1.quorum.each r.0 r.1 r.3 in
                none t.1.ballot ((heard_quorum.each r.0 r.1 r.2).covers t.1.ballot (suc (length (known log))) t.0 (lt-suc_self _) (omega (arith, t.1.most, d.below lt)) (subst (λ j. HasAccepted t.1.ballot j t.0 (K r.0)) (omega arith) a))

        go : (length (known log) < p.instance) ⊎ (p.instance ≤ length (known log)) → p.instance ≤ length (known log)
        go (inl lt) = absurd (past lt)
        go (inr h) = h

    abbrev pub promise_quorum : Quorum n (λ q. l.ballot ≤ promise (K q))
    promise_quorum = majority n l.counted (λ q. l.ballot ≤ promise (K q)) maj (λ q x e. has_below l.ballot (K q) (ok.heard q x e).promised)

    -- an adopted value is the one of the greatest ballot
    pub adopt_safe_at : (p : Proposal V) → BestOk (suc (length (known log))) l.reported (Some p) → IsSafeAt n K l.ballot (suc (length (known log))) p.value
    adopt_safe_at p b = record {
      quorum = promise_quorum;
      pick = inr (record {
        node = d.node;
        ballot = p.ballot;
        node-in = d.node-in;
        counted = d.counted;
        below = d.below (omega (arith, b.1));
        has = subst (λ i. HasAccepted p.ballot i p.value (K d.node)) b.1 d.has;
        most = λ q x e c w lt a. b.2 c ((ok.heard q x e).covers c (suc (length (known log))) w (lt-suc_self _) lt a);
      });
    }
      where
        d : WasReported n K (length (known log)) l.ballot l.counted p
        d = ok.said p b.0

    -- an active node's value is free
    pub free_safe_at : ((p : Proposal V) → IsIn p l.reported → p.instance ≤ length (known log)) → (v : V) → IsSafeAt n K l.ballot (suc (length (known log))) v
    free_safe_at none v = record { quorum = promise_quorum; pick = inl (λ q x e c w lt a. no ((ok.heard q x e).covers c (suc (length (known log))) w (lt-suc_self _) lt a)) }
      where
        no : {c : ℕ} → Covers l.reported (suc (length (known log))) c → ⊥
        no h = absurd (omega (arith, none h.it h.inside, h.at))

    pub adopt_prior : (p : Proposal V) → BestOk (suc (length (known log))) l.reported (Some p) → Prior n sv K l.ballot (suc (length (known log))) p.value
    adopt_prior p b = record {
      values = known log;
      place = refl;
      chosen = at_most;
      fits = subst (λ vs. sv.fits (vs ++ p.value ∷ []) ≡ true) (all_chosen_same n sv K s 1 pr.values (known log) (by_chosen n K p.ballot 1 pr.values pr.chosen) (by_chosen n K l.ballot 1 (known log) at_most) (omega (arith, pr.place, b.1))) pr.fits;
    }
      where
        d : WasReported n K (length (known log)) l.ballot l.counted p
        d = ok.said p b.0

        o : (IsNode n (node_of p.ballot)) × HasAccepted p.ballot p.instance p.value (K (node_of p.ballot))
        o = s.own d.node p.ballot p.instance p.value d.node-in d.has

        pr : Prior n sv K p.ballot p.instance p.value
        pr = s.prior p.ballot p.instance p.value o.0 o.1

  -- what was replayed and the base are within what is known, with one value more
  grown_replayed : (sv : Service V S) (l : Lead V) (i : ℕ) (v : V) (x : Node V S) → IsReplayed x → i ≡ suc (length (known x.log)) → (t : Bool) → (base x.log ≤ replayed_known t i x.replayed) × (replayed_known t i x.replayed ≤ length (known x.log ++ v ∷ []))
  grown_replayed sv l i v x h e true = (omega (arith, h.based, h.replayed, e), omega (arith, length_push (known x.log) v, e))
  grown_replayed sv l i v x h e false = (h.based, omega (arith, length_push (known x.log) v, h.replayed))

  module _ (n : ℕ) (sv : Service V S) (L : Logs V S) (R : ℕ → Role V) (ms : List (Message V)) (m : ℕ) (min : IsNode n m) where
    abbrev pub G : Call V S → Type 0
    G d = KeepsAll n sv L R ms m d

    decide_good : (d : Call V S) → G d → (l : Lead V) (p : Proposal V) → LeadsRightly n (with_log L m d.node.log) d.node.log m l → l.proposal ≡ Some p → is_majority n l.accepted_by ≡ true → (k : Call V S → Call V S) → ((e : Call V S) → G e → G (k e)) → G (decide n sv m d l p.instance p.value k)
    decide_good d good l p ok e maj k kgood =
        append_good n sv L R ms m d min good (Known p.instance p.value) allowed d.node.armed
        (λ e. k (send (learned sv m l p.instance p.value (known d.node.log) e) (others n m (Chose p.instance p.value))))
        (λ a. kgood _ (next_good n sv L R ms m d min good (Known p.instance p.value) allowed (record (learned sv m l p.instance p.value (known d.node.log) d).node { armed = a }) (d.sends ++ others n m (Chose p.instance p.value)) _ role
        (record { based = (grown_replayed sv l p.instance p.value d.node good.here op.next l.active).0; replayed = (grown_replayed sv l p.instance p.value d.node good.here op.next l.active).1 })
        (just_both n (next n sv L R ms m d min good (Known p.instance p.value) allowed) d.sends (others n m (Chose p.instance p.value)) (out_grows n sv L R ms m d min good (Known p.instance p.value) allowed) (just_others n n (next n sv L R ms m d min good (Known p.instance p.value) allowed) m (Chose p.instance p.value) chosen'))))
      where
        K : Logs V S
        K = with_log L m d.node.log

        op : Open n K d.node.log l.ballot l.accepted_by p
        op = subst (IsRightOpen n K d.node.log l.ballot l.accepted_by) e ok.pending

        quorum : ChosenAt n K l.ballot p.instance p.value
        quorum = majority n l.accepted_by (λ q. HasAccepted l.ballot p.instance p.value (K q)) maj op.acked

        allowed : Allowed n sv K d.node.log m (Known p.instance p.value)
        allowed = (op.next, record { ballot = l.ballot; quorum = quorum })

        g : Grows K (next n sv L R ms m d min good (Known p.instance p.value) allowed)
        g = grown n sv L R ms m d min good (Known p.instance p.value) allowed

        chosen' : Chosen n (next n sv L R ms m d min good (Known p.instance p.value) allowed) p.instance p.value
        chosen' = chosen_grows g n p.instance p.value (record { ballot = l.ballot; quorum = quorum })

        more : length (known d.node.log) ≤ length (known d.node.log ++ p.value ∷ [])
        more = omega (arith, length_push (known d.node.log) p.value)

        knows : AllLearned n K l.ballot 1 (known d.node.log ++ p.value ∷ [])
        knows = learned_push n K l.ballot 1 (known d.node.log) p.value ok.knows (record { ballot = l.ballot; most = le_refl _; quorum = subst (λ i. ChosenAt n K l.ballot i p.value) (op.next ∙ omega arith) quorum })

        past : (i : ℕ) (v : V) → length (known d.node.log ++ p.value ∷ []) < i → HasAccepted l.ballot i v d.node.log → ⊥
        past i v lt a =
            let t = subst (λ o. IsOpen o i v) e (ok.past i v (omega (arith, length_push (known d.node.log) p.value)) a) in
            absurd (omega (arith, length_push (known d.node.log) p.value, op.next, t.0))

        role : IsRightRole n (next n sv L R ms m d min good (Known p.instance p.value) allowed) (Known p.instance p.value ∷ d.node.log) m (leading l None [] l.active)
        role = record {
          promised = ok.promised;
          owned = ok.owned;
          past = past;
          heard = λ q x t. heard_grows g _ _ l.ballot l.reported q more (ok.heard q x t);
          said = λ y x. said_grows g n _ _ l.ballot l.counted y more (ok.said y x);
          pending = tt;
          knows = knows_grows g n l.ballot 1 (known d.node.log ++ p.value ∷ []) knows;
          counted = λ y t. cc;
          ready = λ t. let r = ok.ready t in record { majority = r.majority; nothing = λ y x. le_trans (r.nothing y x) more };
        }

    pub propose_good : (told : Effect) (d : Call V S) → G d → (l : Lead V) (v : V) → LeadsRightly n (with_log L m d.node.log) d.node.log m l → l.proposal ≡ None → is_majority n l.counted ≡ true → IsSafeAt n (with_log L m d.node.log) l.ballot (suc (length (known d.node.log))) v → Prior n sv (with_log L m d.node.log) l.ballot (suc (length (known d.node.log))) v → (k : Call V S → Call V S) → ((e : Call V S) → G e → G (k e)) → G (propose n m told d l (suc (length (known d.node.log))) v k)
    propose_good told d good l v ok e maj safe_at prior k kgood =
        append_good n sv L R ms m d min good r allowed d.node.armed
        (λ e. k (send (say told (led (leading l (Some (proposal_of l.ballot i v)) (m ∷ []) l.active) e)) (others n m (Accept l.ballot i v))))
        (λ a. kgood _ (next_good n sv L R ms m d min good r allowed (record d.node { armed = a; role = leading l (Some (proposal_of l.ballot i v)) (m ∷ []) l.active }) (d.sends ++ others n m (Accept l.ballot i v)) _ role (record { based = good.here.based; replayed = good.here.replayed })
        (just_both n M d.sends (others n m (Accept l.ballot i v)) (out_grows n sv L R ms m d min good r allowed) (just_others n n M m (Accept l.ballot i v) (owner-in, at_owner)))))
      where
        K : Logs V S
        K = with_log L m d.node.log

        i : ℕ
        i = suc (length (known d.node.log))

        r : Rec V S
        r = Accepted l.ballot i v

        fresh : (w : V) → HasAccepted l.ballot i w d.node.log → v ≡ w
        fresh w a = absurd (subst (λ o. IsOpen o i w) e (ok.past i w (lt-suc_self _) a))

        owner-in : IsNode n (node_of l.ballot)
        owner-in = subst (λ q. IsNode n q) (sym ok.owned) min

        allowed : Allowed n sv K d.node.log m r
        allowed = (le_of_eq ok.promised, owner-in, inl (sym ok.owned, fresh, safe_at, prior))

        M : Logs V S
        M = next n sv L R ms m d min good r allowed

        g : Grows K M
        g = grown n sv L R ms m d min good r allowed

        at_me : HasAccepted l.ballot i v (M m)
        at_me = subst (λ log. HasAccepted l.ballot i v log) (sym (put_same L m (r ∷ d.node.log))) (inl (refl, refl, refl))

        at_owner : HasAccepted l.ballot i v (M (node_of l.ballot))
        at_owner = subst (λ q. HasAccepted l.ballot i v (M q)) (sym ok.owned) at_me

        acked : (q : ℕ) → (t : Bool) → eqb q m ≡ t → t || false ≡ true → HasAccepted l.ballot i v (M q)
        acked q true x y = subst (λ q. HasAccepted l.ballot i v (M q)) (sym (eqb-true q m x)) at_me
        acked q false x y = absurd (false≢true y)

        past : (j : ℕ) (w : V) → length (known d.node.log) < j → ((l.ballot ≡ l.ballot) × (j ≡ i) × (w ≡ v)) ⊎ HasAccepted l.ballot j w d.node.log → (i ≡ j) × (v ≡ w)
        past j w lt (inl x) = (sym x.1, sym x.2)
        past j w lt (inr a) = absurd (subst (λ o. IsOpen o j w) e (ok.past j w lt a))

        role : IsRightRole n M (r ∷ d.node.log) m (leading l (Some (proposal_of l.ballot i v)) (m ∷ []) l.active)
        role = record {
          promised = omega (arith, ok.promised);
          owned = ok.owned;
          past = past;
          heard = λ q x t. heard_grows g _ _ l.ballot l.reported q (le_refl _) (ok.heard q x t);
          said = λ y x. said_grows g n _ _ l.ballot l.counted y (le_refl _) (ok.said y x);
          pending = record { next = refl; own = inl (refl, refl, refl); acked = λ q x t. acked q (eqb q m) refl t };
          knows = knows_grows g n l.ballot 1 (known d.node.log) ok.knows;
          counted = λ y t. maj;
          ready = ok.ready;
        }

    choose_good : (d : Call V S) → G d → (l : Lead V) → LeadsRightly n (with_log L m d.node.log) d.node.log m l → l.proposal ≡ None → is_majority n l.counted ≡ true → (o : Option (Proposal V)) → BestOk (suc (length (known d.node.log))) l.reported o → (k : Call V S → Call V S) → ((e : Call V S) → G e → G (k e)) → G (choose n sv m d l (suc (length (known d.node.log))) o k)
    choose_good d good l ok e maj None b k kgood = record {
      safe = good.safe;
      others = good.others;
      old = good.old;
      grows = good.grows;
      out = good.out;
      here = record { based = base_low sv d.node.log (records_here n sv L R ms m d min good); replayed = le_refl _ };
      role = record {
        promised = ok.promised;
        owned = ok.owned;
        past = λ i v lt a. subst (λ o. IsOpen o i v) e (ok.past i v lt a);
        heard = ok.heard;
        said = ok.said;
        pending = tt;
        knows = ok.knows;
        counted = λ y t. maj;
        ready = λ t. record { majority = maj; nothing = nothing_past n sv (with_log L m d.node.log) d.node.log m l good.safe ok maj b };
      };
    }
    choose_good d good l ok e maj (Some p) b k kgood =
        propose_good (effect.Adopts m (suc (length (known d.node.log))) (sv.size p.value)) d good l p.value ok e maj
        (adopt_safe_at n sv (with_log L m d.node.log) d.node.log m l good.safe ok maj p b)
        (adopt_prior n sv (with_log L m d.node.log) d.node.log m l good.safe ok maj p b) k kgood

    lead_good : (d : Call V S) → G d → (l : Lead V) → LeadsRightly n (with_log L m d.node.log) d.node.log m l → (o : Option (Proposal V)) → l.proposal ≡ o → (k : Call V S → Call V S) → ((e : Call V S) → G e → G (k e)) → G (lead n sv m d l o k)
    lead_good d good l ok (Some p) e k kgood = go (is_majority n l.accepted_by) refl
      where
        go : (t : Bool) → is_majority n l.accepted_by ≡ t → G (cond t (decide n sv m d l p.instance p.value k) d)
        go true x = decide_good d good l p ok e x k kgood
        go false x = good
    lead_good d good l ok None e k kgood = idle l.active
      where
        i : ℕ
        i = suc (length (known d.node.log))

        go : (t : Bool) → is_majority n l.counted ≡ t → G (cond t (choose n sv m d l (suc (length (known d.node.log))) (best (suc (length (known d.node.log))) l.reported) k) d)
        go true x = choose_good d good l ok e x (best (suc (length (known d.node.log))) l.reported) (best_ok (suc (length (known d.node.log))) l.reported) k kgood
        go false x = good

        idle : (t : Bool) → G (cond t d (cond (is_majority n l.counted) (choose n sv m d l (suc (length (known d.node.log))) (best (suc (length (known d.node.log))) l.reported) k) d))
        idle true = good
        idle false = go (is_majority n l.counted) refl

    turn_good : (d : Call V S) → G d → (r : Role V) → IsRightRole n (with_log L m d.node.log) d.node.log m r → (k : Call V S → Call V S) → ((e : Call V S) → G e → G (k e)) → G (turn n sv m d r k)
    turn_good d good Follower ok k kgood = good
    turn_good d good (Leads l) ok k kgood = lead_good d good l ok l.proposal refl k kgood

    pub settle_good : (f : ℕ) (d : Call V S) → G d → G (settle f n sv m d)
    settle_good zero d good = good
    settle_good (suc f) d good = turn_good d good d.node.role good.role (settle f n sv m) (settle_good f)
