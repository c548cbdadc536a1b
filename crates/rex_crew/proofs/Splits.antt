-- Seats that are dealt to workers, and gathered again.
use Rattle.std.proofs.Common.{◌≡◌, ◌≢◌, ◌⊎◌, ℕ, ◌+◌, ◌%◌, ◌<◌, ◌≤◌, List, [], ◌∷◌, ◌++◌, length, sym, refl, ap, subst, ⊎_elim, inl, inr, arith}
use Rattle.std.specs.declared.vec.Vec.{Vec}
use Rattle.std.specs.declared.alloc.Global.{Global}
use Rattle.rex_event.specs.Order.{Has}
use Rattle.rex_clocks.proofs.Leads.{has_left, has_right, has_parts}
use Rattle.rex_board.specs.declared.seat.LaneSeat.{LaneSeat}
use Rattle.rex_crew.specs.declared.dealing.Job.{Job}
use Rattle.rex_crew.specs.Dealing.{IsOwn, IsSplit, AreJobsSoFar, AreJobs, AreGathered}

only : {X : Type 0} (x y : X) → Has y (x ∷ []) → x ≡ y
only x y (inl e) = e
only x y (inr h) = absurd h

one_more : {X : Type 0} (xs : List X) (x : X) → length (xs ++ x ∷ []) ≡ length xs + 1
one_more [] x = refl
one_more (y ∷ ys) x = let h = one_more ys x in omega (arith, h)

above : (a k : ℕ) → k ≤ a → (a ≡ k → ⊥) → k + 1 ≤ a
above a k le ne = let d : a ≢ k = ne in omega arith

over : (a b : ℕ) → a ≤ b → b < a → ⊥
over a b le lt = omega arith

pub shorter : {X : Type 0} (xs ys : List X) (x : X) → xs ≡ ys ++ x ∷ [] → length ys < length xs
shorter xs ys x e = let a = ap length e in let b = one_more ys x in omega (arith, a, b)

module _ (n w : ℕ) (ms : List LaneSeat) where
  module _ (rest own others : List LaneSeat) (x : LaneSeat) (s : IsSplit n w ms (rest ++ x ∷ []) own others) where
    still_left : (m : LaneSeat) → Has m rest → Has m ms
    still_left m h = s.left m (has_left m rest (x ∷ []) h)

    popped : Has x ms
    popped = s.left x (has_right x rest (x ∷ []) (inl refl))

    pub splits_own : IsOwn n w x → IsSplit n w ms rest (own ++ x ∷ []) others
    splits_own is = record {
      left = still_left;
      is_own = λ m h. ⊎_elim (λ (k : Has m own). s.is_own m k) (λ (k : Has m (x ∷ [])). subst (λ (y : LaneSeat). Has y ms × IsOwn n w y) (only x m k) (popped, is)) (has_parts m own (x ∷ []) h);
      is_other = s.is_other;
      every = λ m h. ⊎_elim
          (λ (k : Has m (rest ++ x ∷ [])). ⊎_elim (λ (l : Has m rest). inl l) (λ (l : Has m (x ∷ [])). inr (inl (has_right m own (x ∷ []) l))) (has_parts m rest (x ∷ []) k))
          (λ (k : Has m own ⊎ Has m others). ⊎_elim (λ (l : Has m own). inr (inl (has_left m own (x ∷ []) l))) (λ (l : Has m others). inr (inr l)) k)
          (s.every m h);
    }

    pub splits_other : (IsOwn n w x → ⊥) → IsSplit n w ms rest own (others ++ x ∷ [])
    splits_other is = record {
      left = still_left;
      is_own = s.is_own;
      is_other = λ m h. ⊎_elim (λ (k : Has m others). s.is_other m k) (λ (k : Has m (x ∷ [])). subst (λ (y : LaneSeat). Has y ms × (IsOwn n w y → ⊥)) (only x m k) (popped, is)) (has_parts m others (x ∷ []) h);
      every = λ m h. ⊎_elim
          (λ (k : Has m (rest ++ x ∷ [])). ⊎_elim (λ (l : Has m rest). inl l) (λ (l : Has m (x ∷ [])). inr (inr (has_right m others (x ∷ []) l))) (has_parts m rest (x ∷ []) k))
          (λ (k : Has m own ⊎ Has m others). ⊎_elim (λ (l : Has m own). inr (inl l)) (λ (l : Has m others). inr (inr (has_left m others (x ∷ []) l))) k)
          (s.every m h);
    }

module _ (n : ℕ) (ms : List LaneSeat) where
  module _ (k : ℕ) (rest own others : List LaneSeat) (js : List Job) (j : Job) (s : AreJobsSoFar n k ms rest js) (d : IsSplit n k rest [] own others) (worker : j.worker ≡ k) (seats : j.seats.items ≡ own) where
    last_own : (m : LaneSeat) → Has m j.seats.items → Has m ms × IsOwn n j.worker m
    last_own m h = let q = d.is_own m (subst (λ (l : List LaneSeat). Has m l) seats h) in ((s.left m q.0).0, subst (λ (l : ℕ). IsOwn n l m) (sym worker) q.1)

    abbrev Placed : LaneSeat → Type 0
    Placed m = Has m others ⊎ ((i : Job) × Has i (js ++ j ∷ []) × Has m i.seats.items)

    placed : (m : LaneSeat) → Has m rest ⊎ ((i : Job) × Has i js × Has m i.seats.items) → Placed m
    placed m (inl h) = ⊎_elim (λ (l : Has m []). absurd l)
        (λ (l : Has m own ⊎ Has m others). ⊎_elim (λ (o : Has m own). inr (j, has_right j js (j ∷ []) (inl refl), subst (λ (x : List LaneSeat). Has m x) (sym seats) o)) (λ (o : Has m others). inl o) l)
        (d.every m h)
    placed m (inr q) = inr (q.0, has_left q.0 js (j ∷ []) q.1, q.2)

    pub one_more_job : AreJobsSoFar n (k + 1) ms others (js ++ j ∷ [])
    one_more_job = record {
      left = λ m h. let q = d.is_other m h in let l = s.left m q.0 in (l.0, above (m.lane % n) k l.1 q.1);
      own = λ i m h g. ⊎_elim (λ (l : Has i js). s.own i m l g) (λ (l : Has i (j ∷ [])). subst (λ (y : Job). Has m y.seats.items → Has m ms × IsOwn n y.worker m) (only j i l) (last_own m) g) (has_parts i js (j ∷ []) h);
      every = λ m h. placed m (s.every m h);
    }

  pub all_jobs : (rest : List LaneSeat) (js : List Job) → ((a : ℕ) → a % n < n) → AreJobsSoFar n n ms rest js → AreJobs n ms js
  all_jobs rest js small s = record {
    own = s.own;
    every = λ m h. ⊎_elim (λ (l : Has m rest). let a = (s.left m l).1 in let b = small m.lane in absurd (over n (m.lane % n) a b)) (λ (l : (j : Job) × Has j js × Has m j.seats.items). l) (s.every m h);
  }

module _ (vs : List (Vec LaneSeat Global)) where
  pub gathers_more : (rest : List (Vec LaneSeat Global)) (v : Vec LaneSeat Global) (ms : List LaneSeat) → AreGathered vs (rest ++ v ∷ []) ms → AreGathered vs rest (ms ++ v.items)
  gathers_more rest v ms g = record {
    left = λ u h. g.left u (has_left u rest (v ∷ []) h);
    each = λ m h. ⊎_elim (λ (l : Has m ms). g.each m l) (λ (l : Has m v.items). (v, g.left v (has_right v rest (v ∷ []) (inl refl)), l)) (has_parts m ms v.items h);
    every = λ u m h k. ⊎_elim
        (λ (l : Has u (rest ++ v ∷ [])). ⊎_elim (λ (o : Has u rest). inl o) (λ (o : Has u (v ∷ [])). inr (has_right m ms v.items (subst (λ (y : Vec LaneSeat Global). Has m y.items) (sym (only v u o)) k))) (has_parts u rest (v ∷ []) l))
        (λ (l : Has m ms). inr (has_left m ms v.items l))
        (g.every u m h k);
  }
