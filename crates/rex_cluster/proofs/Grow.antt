-- What more records leave as it was.
use Rattle.std.proofs.Common.{◌≡◌, ℕ, suc, ◌<◌, ◌≤◌, ◌≢◌, Bool, true, false, ◌⊎◌, List, [], ◌∷◌, ◌++◌, length, eqb, refl, sym, ◌∙◌, ap, subst, inl, inr, arith, le_trans, le_refl, eqb-true, length-append, append-nil, append_assoc}
use Rattle.std.specs.Prelude.{take}
use Rattle.std.proofs.lemmas.Bool.{eqb-false}
use Rattle.rex_cluster.specs.Records.{Rec, promise, known, base, offset, HasAccepted}
use Rattle.rex_cluster.specs.Records.Rec.{Promised, Accepted, Known, Checkpoint, Dropped, Transferred}
use Rattle.rex_cluster.specs.Quorum.{IsNode, Logs, Chosen, ChosenBy, AllChosen, AllChosenBy, Given, AllGiven, node_of}
use Rattle.rex_cluster.specs.Node.{Service}
use Rattle.rex_cluster.specs.Invariant.{Begins, NoneBelow, IsGreatest, IsSafeAt, Prior, IsLonger, Grows}
use Rattle.rex_cluster.proofs.Quorums.{quorum_map}

module _ {V : Type 0} where
  pub begins_trans : (xs ys zs : List V) → Begins xs ys → Begins ys zs → Begins xs zs
  begins_trans xs ys zs p q = (p.0 ++ q.0, sym (append_assoc xs p.0 q.0) ∙ (ap (λ l. l ++ q.0) p.1 ∙ q.1))

  pub begins_same : (xs : List V) → Begins xs xs
  begins_same xs = ([], append-nil xs)

  pub begins_length : (xs ys : List V) → Begins xs ys → length xs ≤ length ys
  begins_length xs ys b = omega (arith, length-append xs b.0, ap length b.1)

module _ {V S : Type 0} where
  pub longer_trans : (x y z : List (Rec V S)) → IsLonger x y → IsLonger y z → IsLonger x z
  longer_trans x y z p q = record {
    keeps = λ b i v h. q.keeps b i v (p.keeps b i v h);
    rises = le_trans p.rises q.rises;
    fresh = λ b i v h. fresh b i v (q.fresh b i v h);
    has = λ b h. q.has b (p.has b h);
    had = λ b l h. p.had b l (q.had b (le_trans l p.rises) h);
    learns = begins_trans (known x) (known y) (known z) p.learns q.learns;
    gives = λ i v h. q.gives i v (p.gives i v h);
  }
    where
      fresh : (b i : ℕ) (v : V) → HasAccepted b i v y ⊎ (promise y ≤ b) → HasAccepted b i v x ⊎ (promise x ≤ b)
      fresh b i v (inl h) = p.fresh b i v h
      fresh b i v (inr l) = inr (le_trans p.rises l)

  pub grows_trans : {L M N : Logs V S} → Grows L M → Grows M N → Grows L N
  grows_trans {L} {M} {N} p q = record { at = λ m. longer_trans (L m) (M m) (N m) (p.at m) (q.at m) }

  pub chosen_grows : {L M : Logs V S} → Grows L M → (n i : ℕ) (v : V) → Chosen n L i v → Chosen n M i v
  chosen_grows {L} {M} g n i v c = record {
    ballot = c.ballot;
    quorum = quorum_map n (λ m. HasAccepted c.ballot i v (L m)) (λ m. HasAccepted c.ballot i v (M m)) (λ m l. (g.at m).keeps c.ballot i v) c.quorum;
  }

  pub all_chosen_grows : {L M : Logs V S} → Grows L M → (n k : ℕ) (vs : List V) → AllChosen n L k vs → AllChosen n M k vs
  all_chosen_grows g n k [] h = tt
  all_chosen_grows g n k (v ∷ vs) h = (chosen_grows g n k v h.0, all_chosen_grows g n (suc k) vs h.1)

  pub chosen_by_grows : {L M : Logs V S} → Grows L M → (n b i : ℕ) (v : V) → ChosenBy n L b i v → ChosenBy n M b i v
  chosen_by_grows {L} {M} g n b i v c = record {
    ballot = c.ballot;
    most = c.most;
    quorum = quorum_map n (λ m. HasAccepted c.ballot i v (L m)) (λ m. HasAccepted c.ballot i v (M m)) (λ m l. (g.at m).keeps c.ballot i v) c.quorum;
  }

  pub all_chosen_by_grows : {L M : Logs V S} → Grows L M → (n b k : ℕ) (vs : List V) → AllChosenBy n L b k vs → AllChosenBy n M b k vs
  all_chosen_by_grows g n b k [] h = tt
  all_chosen_by_grows g n b k (v ∷ vs) h = (chosen_by_grows g n b k v h.0, all_chosen_by_grows g n b (suc k) vs h.1)

  pub given_grows : {L M : Logs V S} → Grows L M → (n i : ℕ) (v : V) → Given n L i v → Given n M i v
  given_grows g n i v h = record { node = h.node; node-in = h.node-in; has = (g.at h.node).gives i v h.has }

  pub all_given_grows : {L M : Logs V S} → Grows L M → (n k : ℕ) (vs : List V) → AllGiven n L k vs → AllGiven n M k vs
  all_given_grows g n k [] h = tt
  all_given_grows g n k (v ∷ vs) h = (given_grows g n k v h.0, all_given_grows g n (suc k) vs h.1)

  pub prior_grows : {L M : Logs V S} → Grows L M → (n : ℕ) (sv : Service V S) (b i : ℕ) (v : V) → Prior n sv L b i v → Prior n sv M b i v
  prior_grows g n sv b i v p = record { values = p.values; place = p.place; chosen = all_chosen_by_grows g n b 1 p.values p.chosen; fits = p.fits }

  pub safe_at_grows : {L M : Logs V S} → Grows L M → (n b i : ℕ) (v : V) → IsSafeAt n L b i v → IsSafeAt n M b i v
  safe_at_grows {L} {M} g n b i v p = record {
    quorum = record { who = p.quorum.who; big = p.quorum.big; each = λ m l e. le_trans (p.quorum.each m l e) (g.at m).rises };
    pick = pick p.pick;
  }
    where
      old : (m : ℕ) → IsNode n m → p.quorum.who m ≡ true → (c : ℕ) (w : V) → c < b → HasAccepted c i w (M m) → HasAccepted c i w (L m)
      old m l e c w lt a = go (p.quorum.each m l e) ((g.at m).fresh c i w a)
        where
          go : b ≤ promise (L m) → HasAccepted c i w (L m) ⊎ (promise (L m) ≤ c) → HasAccepted c i w (L m)
          go h (inl x) = x
          go h (inr x) = absurd (omega arith)

      pick : NoneBelow n L b i p.quorum.who ⊎ IsGreatest n L b i v p.quorum.who → NoneBelow n M b i p.quorum.who ⊎ IsGreatest n M b i v p.quorum.who
      pick (inl none) = inl (λ m l e c w lt a. none m l e c w lt (old m l e c w lt a))
      pick (inr t) = inr (record {
        node = t.node;
        ballot = t.ballot;
        node-in = t.node-in;
        counted = t.counted;
        below = t.below;
        has = (g.at t.node).keeps t.ballot i v t.has;
        most = λ m l e c w lt a. t.most m l e c w lt (old m l e c w lt a);
      })

  -- one node wrote one record more
  pub record Appends (r : Rec V S) (m : ℕ) (L M : Logs V S) : Type 0 where
    pub here : M m ≡ r ∷ L m
    pub away : (q : ℕ) → q ≢ m → M q ≡ L q

  -- what node m may write after this log
  abbrev pub Allowed : ℕ → Service V S → Logs V S → List (Rec V S) → ℕ → Rec V S → Type 0
  Allowed n sv L log m (Promised b) = (promise log ≤ b) × (IsNode n (node_of b)) × ((m ≡ node_of b) ⊎ (b ≤ promise (L (node_of b))))
  Allowed n sv L log m (Accepted b i v) = (promise log ≤ b) × (IsNode n (node_of b)) × (((m ≡ node_of b) × ((w : V) → HasAccepted b i w log → v ≡ w) × IsSafeAt n L b i v × Prior n sv L b i v) ⊎ HasAccepted b i v (L (node_of b)))
  Allowed n sv L log m (Known i v) = (i ≡ suc (length (known log))) × Chosen n L i v
  Allowed n sv L log m (Checkpoint version k s) = (0 < k) × (offset log ≤ k) × (k ≤ length (known log)) × (s ≡ sv.state (take k (known log)))
  Allowed n sv L log m (Dropped k) = (offset log < k) × (k ≡ base log)
  Allowed n sv L log m (Transferred values s) = ((length (known log) < length values) × Begins (known log) values × (s ≡ sv.state values)) × AllChosen n L 1 values × AllGiven n L 1 values

  -- what holds of the longer log and of the others holds of all
  pub at_node : (Q : ℕ → List (Rec V S) → Type 0) (r : Rec V S) (m : ℕ) (L M : Logs V S) → Appends r m L M → Q m (r ∷ L m) → ((q : ℕ) → q ≢ m → Q q (L q)) → (q : ℕ) → Q q (M q)
  at_node Q r m L M a here away q = go (eqb q m) refl
    where
      go : (x : Bool) → eqb q m ≡ x → Q q (M q)
      go true e = subst (λ x. Q x (M x)) (sym (eqb-true q m e)) (subst (Q m) (sym a.here) here)
      go false e = subst (Q q) (sym (a.away q (eqb-false q m e))) (away q (eqb-false q m e))

  pub longer_same : (log : List (Rec V S)) → IsLonger log log
  longer_same log = record { keeps = λ b i v h. h; rises = le_refl _; fresh = λ b i v h. inl h; has = λ b h. h; had = λ b l h. h; learns = begins_same _; gives = λ i v h. h }

  longer : (n : ℕ) (sv : Service V S) (L : Logs V S) (m : ℕ) (r : Rec V S) → Allowed n sv L (L m) m r → IsLonger (L m) (r ∷ L m)
  longer n sv L m (Promised b) h = record {
    keeps = λ b i v h. h;
    rises = omega arith;
    fresh = λ b i v h. inl h;
    has = λ c x. inr x;
    had = λ c l. elim [ inl e ↦ absurd (omega (arith, h.0)) | inr x ↦ x ];
    learns = begins_same _;
    gives = λ i v h. h;
  }
  longer n sv L m (Accepted b i v) h = record {
    keeps = λ c j w a. inr a;
    rises = omega arith;
    fresh = λ c j w. elim [ inl e ↦ inr (subst (λ x. promise (L m) ≤ x) (sym e.0) h.0) | inr a ↦ inl a ];
    has = λ c x. inr x;
    had = λ c l. elim [ inl e ↦ absurd (omega (arith, h.0)) | inr x ↦ x ];
    learns = begins_same _;
    gives = λ j w h. h;
  }
  longer n sv L m (Known i v) h = record { keeps = λ b i v h. h; rises = le_refl _; fresh = λ b i v h. inl h; has = λ b h. h; had = λ b l h. h; learns = (v ∷ [], refl); gives = λ j w h. inr h }
  longer n sv L m (Checkpoint version k st) h = record { keeps = λ b i v h. h; rises = le_refl _; fresh = λ b i v h. inl h; has = λ b h. h; had = λ b l h. h; learns = begins_same _; gives = λ i v h. h }
  longer n sv L m (Dropped k) h = record { keeps = λ b i v h. h; rises = le_refl _; fresh = λ b i v h. inl h; has = λ b h. h; had = λ b l h. h; learns = begins_same _; gives = λ i v h. h }
  longer n sv L m (Transferred values st) h = record { keeps = λ b i v h. h; rises = le_refl _; fresh = λ b i v h. inl h; has = λ b h. h; had = λ b l h. h; learns = h.0.1; gives = λ i v h. h }

  pub grows_same : (L : Logs V S) → Grows L L
  grows_same L = record { at = λ m. longer_same (L m) }

  pub appends_grows : (n : ℕ) (sv : Service V S) (L M : Logs V S) (m : ℕ) (r : Rec V S) → Appends r m L M → Allowed n sv L (L m) m r → Grows L M
  appends_grows n sv L M m r a h = record { at = at_node (λ q log. IsLonger (L q) log) r m L M a (longer n sv L m r h) (λ q d. longer_same (L q)) }
