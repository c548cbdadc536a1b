-- The node at a place of a world.
use Rattle.rex_world.proofs.Common.{◌≡◌, ℕ, zero, suc, ◌+◌, ◌-◌, ◌<◌, ◌≤◌, List, [], ◌∷◌, length, get_or, refl, sym, ◌∙◌, ap, subst, arith, length-set, slice_index_or, slice_set, Declarations, IsNode, Begins, Here, AreRead, log_of, Value, node_at, put, Member, AreKept, AreMembers, AreWithin, IsMember, StaysMember, faults_of, here_at, heres, records_at, records_of, IsOwnMember}
use Rattle.std.proofs.Common.{◌≢◌}
use Rattle.std.proofs.lemmas.Bool.{ne_eqb}
use Rattle.rex_world.specs.Members.{all_records}

past_one : {i : ℕ} → suc (suc i) ≢ 1
past_one e = absurd (omega arith)

-- a node that isn't the first one is among the others
pub later_at : (x : Here) (xs : List Here) (i : ℕ) → node_at (x ∷ xs) (suc (suc i)) ≡ node_at xs (suc i)
later_at x xs i = let e : suc (suc i) - 1 ≡ suc i = omega arith in rw (ne_eqb (suc (suc i)) 1 (past_one), e) refl

later_put : {x : Here} (xs : List Here) (i : ℕ) (y : Here) → put (x ∷ xs) (suc (suc i)) y ≡ x ∷ put xs (suc i) y
later_put xs i y = let e : suc (suc i) - 1 ≡ suc i = omega arith in rw (ne_eqb (suc (suc i)) 1 (past_one), e) refl

-- a node's records are its keeper's
records_index : (xs : List Member) (i : ℕ) (d : Member) → i < length xs → get_or (all_records xs) i [] ≡ records_of (get_or xs i d).keeper
records_index [] i d l = absurd (omega arith)
records_index (x ∷ xs) zero d l = refl
records_index (x ∷ xs) (suc i) d l = records_index xs i d (omega arith)

records_set : (xs : List Member) (i : ℕ) (y : Member) → i < length xs → get_or (all_records (slice_set xs i y)) i [] ≡ records_of y.keeper
records_set [] i y l = absurd (omega arith)
records_set (x ∷ xs) zero y l = refl
records_set (x ∷ xs) (suc i) y l = records_set xs i y (omega arith)

module _ (service : Declarations) (past : List Value) where
  pub many_here : (xs : List Member) → length (heres service past xs) ≡ length xs
  many_here [] = refl
  many_here (x ∷ xs) = ap suc (many_here xs)

  pub here_index : (xs : List Member) (i : ℕ) (d : Member) → i < length xs → node_at (heres service past xs) (suc i) ≡ here_at service past (get_or xs i d)
  here_index [] i d l = absurd (omega arith)
  here_index (x ∷ xs) zero d l = refl
  here_index (x ∷ xs) (suc i) d l = later_at _ _ i ∙ here_index xs i d (omega arith)

  put_index : (xs : List Member) (i : ℕ) (y : Member) → i < length xs → heres service past (slice_set xs i y) ≡ put (heres service past xs) (suc i) (here_at service past y)
  put_index [] i y l = absurd (omega arith)
  put_index (x ∷ xs) zero y l = refl
  put_index (x ∷ xs) (suc i) y l = ap (λ hs. here_at service past x ∷ hs) (put_index xs i y (omega arith)) ∙ sym (later_put _ i _)

  new_index : (xs : List Member) (i : ℕ) (y : Member) → i < length xs → node_at (heres service past (slice_set xs i y)) (suc i) ≡ here_at service past y
  new_index [] i y l = absurd (omega arith)
  new_index (x ∷ xs) zero y l = refl
  new_index (x ∷ xs) (suc i) y l = later_at _ _ i ∙ new_index xs i y (omega arith)

  -- its log is read from its records
  log_index : (xs : List Member) (i : ℕ) → i < length xs → (node_at (heres service past xs) (suc i)).log ≡ log_of service past (get_or (all_records xs) i [])
  log_index [] i l = absurd (omega arith)
  log_index (x ∷ xs) zero l = refl
  log_index (x ∷ xs) (suc i) l = ap (λ y. y.log) (later_at _ _ i) ∙ log_index xs i (omega arith)

  module _ (seed nodes : ℕ) where
    read_index : (k : ℕ) (xs : List Member) (i : ℕ) → AreMembers service past seed nodes k xs → i < length xs → AreRead service past (get_or (all_records xs) i [])
    read_index k [] i all l = absurd (omega arith)
    read_index k (x ∷ xs) zero all l = all.0.keeping.read
    read_index k (x ∷ xs) (suc i) all l = read_index (suc k) xs i all.1 (omega arith)

    member_from : (k : ℕ) (xs : List Member) (i : ℕ) (d : Member) → AreMembers service past seed nodes k xs → i < length xs → IsMember service past seed nodes (k + i) (get_or xs i d)
    member_from k [] i d all l = absurd (omega arith)
    member_from k (x ∷ xs) zero d all l = let e : k + 0 ≡ k = omega arith in subst (λ m. IsMember service past seed nodes m x) (sym e) all.0
    member_from k (x ∷ xs) (suc i) d all l =
        let e : suc k + i ≡ k + suc i = omega arith in
        subst (λ m. IsMember service past seed nodes m (get_or xs i d)) e (member_from (suc k) xs i d all.1 (omega arith))

    members_from : (k : ℕ) (xs : List Member) (i : ℕ) {y : Member} → AreMembers service past seed nodes k xs → IsMember service past seed nodes (k + i) y → AreMembers service past seed nodes k (slice_set xs i y)
    members_from k [] i all one = tt
    members_from k (x ∷ xs) zero {y} all one = let e : k + 0 ≡ k = omega arith in (subst (λ m. IsMember service past seed nodes m y) e one, all.1)
    members_from k (x ∷ xs) (suc i) {y} all one =
        let e : k + suc i ≡ suc k + i = omega arith in
        (all.0, members_from (suc k) xs i all.1 (subst (λ m. IsMember service past seed nodes m y) e one))

-- ---- how often keepers fail

within_from : {most : ℕ} (xs : List Member) (i : ℕ) (y : Member) → AreWithin most xs → faults_of y.keeper ≤ most → AreWithin most (slice_set xs i y)
within_from [] i y all one = tt
within_from (x ∷ xs) zero y all one = (one, all.1)
within_from {most} (x ∷ xs) (suc i) y all one = (all.0, within_from xs i y all.1 one)

within_at : {most : ℕ} (xs : List Member) (i : ℕ) (d : Member) → AreWithin most xs → i < length xs → faults_of (get_or xs i d).keeper ≤ most
within_at [] i d all l = absurd (omega arith)
within_at (x ∷ xs) zero d all l = all.0
within_at {most} (x ∷ xs) (suc i) d all l = within_at xs i d all.1 (omega arith)

pub within_more : {most more : ℕ} (xs : List Member) → AreWithin most xs → most ≤ more → AreWithin more xs
within_more [] all l = tt
within_more {most} {more} (x ∷ xs) all l = (let h = all.0 in omega arith, within_more xs all.1 l)

-- ---- the node of a number

module _ (xs : List Member) {number : ℕ} (there : IsNode (length xs) number) where
  is_next : number ≡ suc (number - 1)
  is_next = omega (arith, there.0)

  pub inside : number - 1 < length xs
  inside = omega (arith, there.0, there.1)

  pub records_now : (y : Member) → records_at (slice_set xs (number - 1) y) number ≡ records_of y.keeper
  records_now y = records_set xs _ y inside

  module _ (d : Member) where
    pub records_was : records_at xs number ≡ records_of (slice_index_or xs (number - 1) d).keeper
    records_was = records_index xs _ d inside

    pub within_is : {most : ℕ} → AreWithin most xs → faults_of (slice_index_or xs (number - 1) d).keeper ≤ most
    within_is {most} all = within_at xs _ d all inside

  pub set_within : {most : ℕ} (y : Member) → AreWithin most xs → faults_of y.keeper ≤ most → AreWithin most (slice_set xs (number - 1) y)
  set_within {most} y all one = within_from xs _ y all one

  module _ (service : Declarations) (past : List Value) where
    pub here_is : (d : Member) → node_at (heres service past xs) number ≡ here_at service past (slice_index_or xs (number - 1) d)
    here_is d = subst (λ m. node_at (heres service past xs) m ≡ here_at service past (slice_index_or xs (number - 1) d)) (sym is_next) (here_index service past xs _ d inside)

    pub member_is : (d : Member) {seed nodes : ℕ} → AreMembers service past seed nodes 1 xs → IsMember service past seed nodes number (slice_index_or xs (number - 1) d)
    member_is d {seed} {nodes} all =
        let e : 1 + (number - 1) ≡ number = omega (arith, there.0) in
        subst (λ m. IsMember service past seed nodes m (slice_index_or xs (number - 1) d)) e (member_from service past seed nodes 1 xs _ d all inside)

    pub log_is : (node_at (heres service past xs) number).log ≡ log_of service past (records_at xs number)
    log_is = subst (λ m. (node_at (heres service past xs) m).log ≡ log_of service past (records_at xs number)) (sym is_next) (log_index service past xs _ inside)

    pub read_is : (seed nodes : ℕ) → AreMembers service past seed nodes 1 xs → AreRead service past (records_at xs number)
    read_is seed nodes all = read_index service past seed nodes 1 xs _ all inside

    pub new_is : (y : Member) → node_at (heres service past (slice_set xs (number - 1) y)) number ≡ here_at service past y
    new_is y = subst (λ m. node_at (heres service past (slice_set xs (number - 1) y)) m ≡ here_at service past y) (sym is_next) (new_index service past xs _ y inside)

    pub put_is : (y : Member) → heres service past (slice_set xs (number - 1) y) ≡ put (heres service past xs) number (here_at service past y)
    put_is y = subst (λ m. heres service past (slice_set xs (number - 1) y) ≡ put (heres service past xs) m (here_at service past y)) (sym is_next) (put_index service past xs _ y inside)

    pub set_members : {seed nodes : ℕ} {y : Member} → AreMembers service past seed nodes 1 xs → IsMember service past seed nodes number y → AreMembers service past seed nodes 1 (slice_set xs (number - 1) y)
    set_members {seed} {nodes} {y} all one =
        let e : number ≡ 1 + (number - 1) = omega (arith, there.0) in
        members_from service past seed nodes 1 xs _ all (subst (λ m. IsMember service past seed nodes m y) e one)

    -- so it is of a node that is at its place
    module _ {x : Member} (x_is : x ≡ slice_index_or xs (number - 1) x) where
      pub here_so : node_at (heres service past xs) number ≡ here_at service past x
      here_so = here_is x ∙ ap (here_at service past) (sym x_is)

      pub member_so : (seed nodes : ℕ) → AreMembers service past seed nodes 1 xs → IsOwnMember service past x
      member_so seed nodes all =
          let m : IsMember service past seed nodes number x = subst (IsMember service past seed nodes number) (sym x_is) (member_is x all) in
          record { id = refl; nodes_are = refl; seed_is = refl; node = m.node; keeping = m.keeping; whole = m.whole }

-- ---- where the node of a number is another one

module _ (xs : List Member) {ys : List Member} {number : ℕ} (there : IsNode (length xs) number) {old : Member} (new : Member) (old_is : old ≡ slice_index_or xs (number - 1) old) (ys_are : ys ≡ slice_set xs (number - 1) new) where
  pub many_are : length ys ≡ length xs
  many_are = ap length ys_are ∙ length-set xs (number - 1) new

  pub records_were : records_at xs number ≡ records_of old.keeper
  records_were = records_was xs there old ∙ ap (λ z. records_of z.keeper) (sym old_is)

  pub records_grown : Begins (records_of old.keeper) (records_of new.keeper) → Begins (records_at xs number) (records_at ys number)
  records_grown grown =
      subst (λ zs. Begins (records_at xs number) (records_at zs number)) (sym ys_are)
      (subst (λ rs. Begins rs (records_at (slice_set xs (number - 1) new) number)) (sym records_were)
      (subst (Begins (records_of old.keeper)) (sym (records_now xs there new)) grown))

  pub old_within : {most : ℕ} → AreWithin most xs → faults_of old.keeper ≤ most
  old_within {most} all = subst (λ z. faults_of z.keeper ≤ most) (sym old_is) (within_is xs there old all)

  pub new_within : {most : ℕ} → AreWithin most xs → faults_of new.keeper ≤ most → AreWithin most ys
  new_within {most} all one = subst (AreWithin most) (sym ys_are) (set_within xs there new all one)

  module _ (service : Declarations) (past : List Value) where
    pub at_old : node_at (heres service past xs) number ≡ here_at service past old
    at_old = here_is xs there service past old ∙ ap (here_at service past) (sym old_is)

    pub at_new : node_at (heres service past ys) number ≡ here_at service past new
    at_new = ap (λ zs. node_at (heres service past zs) number) ys_are ∙ new_is xs there service past new

    pub now_put : heres service past ys ≡ put (heres service past xs) number (here_at service past new)
    now_put = ap (heres service past) ys_are ∙ put_is xs there service past new

    pub others_are : heres service past ys ≡ put (heres service past xs) number (node_at (heres service past ys) number)
    others_are = now_put ∙ ap (put (heres service past xs) number) (sym at_new)

    module _ (seed nodes : ℕ) where
      pub old_member : AreMembers service past seed nodes 1 xs → IsMember service past seed nodes number old
      old_member all = subst (IsMember service past seed nodes number) (sym old_is) (member_is xs there service past old all)

      pub new_members : AreMembers service past seed nodes 1 xs → IsMember service past seed nodes number new → AreMembers service past seed nodes 1 ys
      new_members all one = subst (AreMembers service past seed nodes 1) (sym ys_are) (set_members xs there service past all one)

      -- where the node stays, all do
      pub all_stay : {most : ℕ} → StaysMember service past seed nodes number old new → AreKept service past seed nodes most xs → AreKept service past seed nodes most ys
      all_stay {most} stays all = record {
        members = new_members all.members stays.member;
        within = let l = old_within all.within in new_within all.within (omega (arith, l, stays.within));
      }
