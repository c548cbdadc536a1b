-- One record more keeps what all records say.
use Rattle.std.proofs.Common.{◌≡◌, ℕ, suc, ◌+◌, ◌≤◌, ◌⊎◌, List, [], ◌∷◌, ◌++◌, length, refl, sym, ◌∙◌, ap, subst, inl, inr, arith, le_trans, add-zero, length-append}
use Rattle.rex_cluster.specs.Records.{Rec, promise, known, HasAccepted, HasKnown, HasBallot}
use Rattle.rex_cluster.specs.Records.Rec.{Promised, Accepted, Known, Checkpoint, Dropped, Transferred}
use Rattle.rex_cluster.specs.Quorum.{IsNode, Logs, Chosen, AllChosen, Given, AllGiven, node_of}
use Rattle.rex_cluster.specs.Node.{Service}
use Rattle.rex_cluster.specs.Invariant.{AreRecords, IsSafeAt, Prior, AreSafe, Grows}
use Rattle.rex_cluster.proofs.Grow.{Appends, Allowed, at_node, appends_grows, chosen_grows, all_chosen_grows, all_given_grows, prior_grows, safe_at_grows}

module _ {V S : Type 0} where
  head_acc : (r : Rec V S) (log : List (Rec V S)) (b i : ℕ) (v : V) → HasAccepted b i v (r ∷ log) → HasAccepted b i v log ⊎ (r ≡ Accepted b i v)
  head_acc (Promised c) log b i v h = inl h
  head_acc (Accepted c j w) log b i v (inl e) = inr (cc (e.0, e.1, e.2))
  head_acc (Accepted c j w) log b i v (inr h) = inl h
  head_acc (Known j w) log b i v h = inl h
  head_acc (Checkpoint version k st) log b i v h = inl h
  head_acc (Dropped k) log b i v h = inl h
  head_acc (Transferred values st) log b i v h = inl h

  -- an acceptance is an old one or the new record
  pub new_acc : (r : Rec V S) (m : ℕ) (L M : Logs V S) → Appends r m L M → (q b i : ℕ) (v : V) → HasAccepted b i v (M q) → HasAccepted b i v (L q) ⊎ ((q ≡ m) × (r ≡ Accepted b i v))
  new_acc r m L M a q b i v = at_node (λ q log. HasAccepted b i v log → HasAccepted b i v (L q) ⊎ ((q ≡ m) × (r ≡ Accepted b i v))) r m L M a (λ h. go (head_acc r (L m) b i v h)) (λ q d h. inl h) q
    where
      go : HasAccepted b i v (L m) ⊎ (r ≡ Accepted b i v) → HasAccepted b i v (L m) ⊎ ((m ≡ m) × (r ≡ Accepted b i v))
      go (inl h) = inl h
      go (inr h) = inr (refl, h)

  pub all_chosen_push : (n : ℕ) (L : Logs V S) (k : ℕ) (vs : List V) (v : V) → AllChosen n L k vs → Chosen n L (k + length vs) v → AllChosen n L k (vs ++ v ∷ [])
  all_chosen_push n L k [] v h c = (rw add-zero at c, tt)
  all_chosen_push n L k (x ∷ vs) v h c = (h.0, all_chosen_push n L (suc k) vs v h.1 (subst (λ j. Chosen n L j v) (omega arith) c))

  pub all_given_push : (n : ℕ) (L : Logs V S) (k : ℕ) (vs : List V) (v : V) → AllGiven n L k vs → Given n L (k + length vs) v → AllGiven n L k (vs ++ v ∷ [])
  all_given_push n L k [] v h c = (rw add-zero at c, tt)
  all_given_push n L k (x ∷ vs) v h c = (h.0, all_given_push n L (suc k) vs v h.1 (subst (λ j. Given n L j v) (omega arith) c))

  pub acc_below : (b i : ℕ) (v : V) (log : List (Rec V S)) → HasAccepted b i v log → b ≤ promise log
  acc_below b i v [] h = absurd h
  acc_below b i v (Promised c ∷ log) h = let x = acc_below b i v log h in omega arith
  acc_below b i v (Accepted c j w ∷ log) (inl e) = omega (arith, e.0)
  acc_below b i v (Accepted c j w ∷ log) (inr h) = let x = acc_below b i v log h in omega arith
  acc_below b i v (Known j w ∷ log) h = acc_below b i v log h
  acc_below b i v (Checkpoint version k st ∷ log) h = acc_below b i v log h
  acc_below b i v (Dropped k ∷ log) h = acc_below b i v log h
  acc_below b i v (Transferred values st ∷ log) h = acc_below b i v log h

  pub has_below : (b : ℕ) (log : List (Rec V S)) → HasBallot b log → b ≤ promise log
  has_below b [] h = absurd h
  has_below b (Promised c ∷ log) (inl e) = omega arith
  has_below b (Promised c ∷ log) (inr h) = let x = has_below b log h in omega arith
  has_below b (Accepted c j w ∷ log) (inl e) = omega arith
  has_below b (Accepted c j w ∷ log) (inr h) = let x = has_below b log h in omega arith
  has_below b (Known j w ∷ log) h = has_below b log h
  has_below b (Checkpoint version k st ∷ log) h = has_below b log h
  has_below b (Dropped k ∷ log) h = has_below b log h
  has_below b (Transferred values st ∷ log) h = has_below b log h

  module _ (n : ℕ) (sv : Service V S) (L M : Logs V S) (m : ℕ) (r : Rec V S) (a : Appends r m L M) (h : Allowed n sv L (L m) m r) (s : AreSafe n sv L) where
    g : Grows L M
    g = appends_grows n sv L M m r a h

    sorted_head : (r : Rec V S) → Allowed n sv L (L m) m r → AreRecords sv (L m) → AreRecords sv (r ∷ L m)
    sorted_head (Promised c) h t = t
    sorted_head (Accepted c j w) h t = (h.0, t)
    sorted_head (Known j w) h t = (h.0, t)
    sorted_head (Checkpoint version k st) h t = (h, t)
    sorted_head (Dropped k) h t = (h, t)
    sorted_head (Transferred values st) h t = (h.0, t)

    -- a ballot of the longer log
    seen_head : (r : Rec V S) → Allowed n sv L (L m) m r → M m ≡ r ∷ L m → IsNode n m → (b : ℕ) → HasBallot b (r ∷ L m) → (IsNode n (node_of b)) × (b ≤ promise (M (node_of b)))
    seen_head r h e l b x = go r h e x
      where
        old : HasBallot b (L m) → (IsNode n (node_of b)) × (b ≤ promise (M (node_of b)))
        old y = let t = s.seen m b l y in (t.0, le_trans t.1 (g.at (node_of b)).rises)

        at_own : (r : Rec V S) → M m ≡ r ∷ L m → HasBallot b (r ∷ L m) → m ≡ node_of b → b ≤ promise (M (node_of b))
        at_own r e y o = subst (λ q. b ≤ promise (M q)) o (subst (λ log. b ≤ promise log) (sym e) (has_below b (r ∷ L m) y))

        go : (r : Rec V S) → Allowed n sv L (L m) m r → M m ≡ r ∷ L m → HasBallot b (r ∷ L m) → (IsNode n (node_of b)) × (b ≤ promise (M (node_of b)))
        go (Promised c) h e (inr y) = old y
        go (Promised c) h e (inl q) = (subst (λ x. IsNode n (node_of x)) (sym q) h.1, by h.2)
          where
            by : (m ≡ node_of c) ⊎ (c ≤ promise (L (node_of c))) → b ≤ promise (M (node_of b))
            by (inl o) = at_own (Promised c) e (inl q) (o ∙ ap node_of (sym q))
            by (inr y) = subst (λ x. x ≤ promise (M (node_of x))) (sym q) (le_trans y (g.at (node_of c)).rises)
        go (Accepted c j w) h e (inr y) = old y
        go (Accepted c j w) h e (inl q) = (subst (λ x. IsNode n (node_of x)) (sym q) h.1, by h.2)
          where
            by : ((m ≡ node_of c) × ((u : V) → HasAccepted c j u (L m) → w ≡ u) × IsSafeAt n L c j w × Prior n sv L c j w) ⊎ HasAccepted c j w (L (node_of c)) → b ≤ promise (M (node_of b))
            by (inl o) = at_own (Accepted c j w) e (inl q) (o.0 ∙ ap node_of (sym q))
            by (inr y) = subst (λ x. x ≤ promise (M (node_of x))) (sym q) (le_trans (acc_below c j w (L (node_of c)) y) (g.at (node_of c)).rises)
        go (Known j w) h e y = old y
        go (Checkpoint version k st) h e y = old y
        go (Dropped k) h e y = old y
        go (Transferred values st) h e y = old y

    allowed : (b i : ℕ) (v : V) → r ≡ Accepted b i v → Allowed n sv L (L m) m (Accepted b i v)
    allowed b i v e = subst (Allowed n sv L (L m) m) e h

    step_own : (q b i : ℕ) (v : V) → IsNode n q → HasAccepted b i v (M q) → (IsNode n (node_of b)) × HasAccepted b i v (M (node_of b))
    step_own q b i v l x = go (new_acc r m L M a q b i v x)
      where
        back : (q ≡ m) → (p : Allowed n sv L (L m) m (Accepted b i v)) → ((m ≡ node_of b) × ((w : V) → HasAccepted b i w (L m) → v ≡ w) × IsSafeAt n L b i v × Prior n sv L b i v) ⊎ HasAccepted b i v (L (node_of b)) → (IsNode n (node_of b)) × HasAccepted b i v (M (node_of b))
        back e p (inl t) = (p.1, subst (λ y. HasAccepted b i v (M y)) (e ∙ t.0) x)
        back e p (inr y) = (p.1, (g.at (node_of b)).keeps b i v y)

        go : HasAccepted b i v (L q) ⊎ ((q ≡ m) × (r ≡ Accepted b i v)) → (IsNode n (node_of b)) × HasAccepted b i v (M (node_of b))
        go (inl y) = let t = s.own q b i v l y in (t.0, (g.at (node_of b)).keeps b i v t.1)
        go (inr e) = let p = allowed b i v e.1 in back e.0 p p.2

    new_old : (b i : ℕ) (v w : V) → node_of b ≡ m → Allowed n sv L (L m) m (Accepted b i v) → HasAccepted b i w (L (node_of b)) → v ≡ w
    new_old b i v w e p y = go p.2
      where
        go : ((m ≡ node_of b) × ((w : V) → HasAccepted b i w (L m) → v ≡ w) × IsSafeAt n L b i v × Prior n sv L b i v) ⊎ HasAccepted b i v (L (node_of b)) → v ≡ w
        go (inl t) = t.1 w (subst (λ q. HasAccepted b i w (L q)) e y)
        go (inr x) = s.one b i v w x y

    step_one : (b i : ℕ) (v w : V) → HasAccepted b i v (M (node_of b)) → HasAccepted b i w (M (node_of b)) → v ≡ w
    step_one b i v w x y = go (new_acc r m L M a (node_of b) b i v x) (new_acc r m L M a (node_of b) b i w y)
      where
        go : HasAccepted b i v (L (node_of b)) ⊎ ((node_of b ≡ m) × (r ≡ Accepted b i v)) → HasAccepted b i w (L (node_of b)) ⊎ ((node_of b ≡ m) × (r ≡ Accepted b i w)) → v ≡ w
        go (inl x) (inl y) = s.one b i v w x y
        go (inr x) (inl y) = new_old b i v w x.0 (allowed b i v x.1) y
        go (inl x) (inr y) = sym (new_old b i w v y.0 (allowed b i w y.1) x)
        go (inr x) (inr y) = cc (x.1, y.1)

    step_safe_at : (b i : ℕ) (v : V) → IsNode n (node_of b) → HasAccepted b i v (M (node_of b)) → IsSafeAt n M b i v × Prior n sv M b i v
    step_safe_at b i v o x = go (new_acc r m L M a (node_of b) b i v x)
      where
        old : HasAccepted b i v (L (node_of b)) → IsSafeAt n M b i v × Prior n sv M b i v
        old y = (safe_at_grows g n b i v (s.safe_at b i v o y), prior_grows g n sv b i v (s.prior b i v o y))

        back : ((m ≡ node_of b) × ((w : V) → HasAccepted b i w (L m) → v ≡ w) × IsSafeAt n L b i v × Prior n sv L b i v) ⊎ HasAccepted b i v (L (node_of b)) → IsSafeAt n M b i v × Prior n sv M b i v
        back (inl t) = (safe_at_grows g n b i v t.2, prior_grows g n sv b i v t.3)
        back (inr y) = old y

        go : HasAccepted b i v (L (node_of b)) ⊎ ((node_of b ≡ m) × (r ≡ Accepted b i v)) → IsSafeAt n M b i v × Prior n sv M b i v
        go (inl y) = old y
        go (inr e) = let p = allowed b i v e.1 in back p.2

    knows_head : (r : Rec V S) → Allowed n sv L (L m) m r → AllChosen n L 1 (known (L m)) → AllChosen n L 1 (known (r ∷ L m))
    knows_head (Promised c) h t = t
    knows_head (Accepted c j w) h t = t
    knows_head (Known j w) h t = all_chosen_push n L 1 (known (L m)) w t (subst (λ j. Chosen n L j w) (h.0 ∙ omega arith) h.1)
    knows_head (Checkpoint version k st) h t = t
    knows_head (Dropped k) h t = t
    knows_head (Transferred values st) h t = h.1

    given_head : (r : Rec V S) → Allowed n sv L (L m) m r → IsNode n m → M m ≡ r ∷ L m → AllGiven n L 1 (known (L m)) → AllGiven n M 1 (known (r ∷ L m))
    given_head (Promised c) h l e t = all_given_grows g n 1 (known (L m)) t
    given_head (Accepted c j w) h l e t = all_given_grows g n 1 (known (L m)) t
    given_head (Known j w) h l e t =
        all_given_push n M 1 (known (L m)) w (all_given_grows g n 1 (known (L m)) t)
        (record { node = m; node-in = l; has = subst (HasKnown (1 + length (known (L m))) w) (sym e) (inl (sym (h.0 ∙ omega arith), refl)) })
    given_head (Checkpoint version k st) h l e t = all_given_grows g n 1 (known (L m)) t
    given_head (Dropped k) h l e t = all_given_grows g n 1 (known (L m)) t
    given_head (Transferred values st) h l e t = all_given_grows g n 1 values h.2

    -- a value that a record gives
    gives_head : (r : Rec V S) → Allowed n sv L (L m) m r → ((i : ℕ) (v : V) → HasKnown i v (L m) → Chosen n L i v × (i ≤ length (known (L m)))) → (i : ℕ) (v : V) → HasKnown i v (r ∷ L m) → Chosen n M i v × (i ≤ length (known (r ∷ L m)))
    gives_head (Promised c) h t i v x = let y = t i v x in (chosen_grows g n i v y.0, y.1)
    gives_head (Accepted c j w) h t i v x = let y = t i v x in (chosen_grows g n i v y.0, y.1)
    gives_head (Known j w) h t i v (inl e) =
        (chosen_grows g n i v (subst (λ k. Chosen n L k v) (sym e.0) (subst (Chosen n L j) (sym e.1) h.1)), omega (arith, e.0, h.0, length-append (known (L m)) (w ∷ [])))
    gives_head (Known j w) h t i v (inr x) = let y = t i v x in (chosen_grows g n i v y.0, omega (arith, y.1, length-append (known (L m)) (w ∷ [])))
    gives_head (Checkpoint version k st) h t i v x = let y = t i v x in (chosen_grows g n i v y.0, y.1)
    gives_head (Dropped k) h t i v x = let y = t i v x in (chosen_grows g n i v y.0, y.1)
    gives_head (Transferred values st) h t i v x = let y = t i v x in (chosen_grows g n i v y.0, omega (arith, y.1, h.0.0))

    pub safe_step : AreSafe n sv M
    safe_step = record {
      sorted = at_node (λ q log. IsNode n q → AreRecords sv log) r m L M a (λ l. sorted_head r h (s.sorted m l)) (λ q d. s.sorted q);
      seen = λ q b l x. at_node (λ q log. IsNode n q → (b : ℕ) → HasBallot b log → (IsNode n (node_of b)) × (b ≤ promise (M (node_of b)))) r m L M a
          (λ l b x. seen_head r h a.here l b x)
          (λ q d l b x. let t = s.seen q b l x in (t.0, le_trans t.1 (g.at (node_of b)).rises)) q l b x;
      own = step_own;
      one = step_one;
      safe_at = λ b i v o x. (step_safe_at b i v o x).0;
      prior = λ b i v o x. (step_safe_at b i v o x).1;
      knows = at_node (λ q log. IsNode n q → AllChosen n M 1 (known log)) r m L M a
          (λ l. all_chosen_grows g n 1 (known (r ∷ L m)) (knows_head r h (s.knows m l)))
          (λ q d l. all_chosen_grows g n 1 (known (L q)) (s.knows q l));
      given = at_node (λ q log. IsNode n q → AllGiven n M 1 (known log)) r m L M a
          (λ l. given_head r h l a.here (s.given m l))
          (λ q d l. all_given_grows g n 1 (known (L q)) (s.given q l));
      gives = λ q i v l x. at_node (λ q log. IsNode n q → (i : ℕ) (v : V) → HasKnown i v log → Chosen n M i v × (i ≤ length (known log))) r m L M a
          (λ l i v x. gives_head r h (λ j w y. s.gives m j w l y) i v x)
          (λ q d l i v x. let y = s.gives q i v l x in (chosen_grows g n i v y.0, y.1)) q l i v x;
    }
