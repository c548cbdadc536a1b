-- Counts that are merged, and counts with one more event.
use Rattle.std.proofs.Common.{◌≡◌, ◌≢◌, ⊎_elim, ℕ, zero, suc, max, ◌+◌, ◌-◌, ◌<◌, ◌≤◌, cond, List, [], ◌∷◌, length, set, refl, ap, sym, subst, arith}
use Rattle.std.specs.Prelude.{nat_eq}
use Rattle.std.proofs.lemmas.Bool.{cases_eq, cases_lt, eq-eqb}
use Rattle.std.proofs.lemmas.List.{ext_get_or, get_or_past, get_or-replicate, get_or-set_same, get_or-set_other, length-set}
use Rattle.rex_event.specs.Cuts.{count_at}
use Rattle.rex_event.specs.declared.event.TheConstants.{LANES}
use Rattle.rex_clocks.specs.Counts.{none, ticked, unticked, merged}

pub count_none : (lane : ℕ) → count_at none lane ≡ 0
count_none lane =
    ⊎_elim (λ (l : lane < LANES). get_or-replicate LANES lane 0 0 l) (λ (l : LANES ≤ lane). get_or_past none lane 0 l) (cases_lt lane LANES)

-- ---- merging

pub count_merged : (a b : List ℕ) (lane : ℕ) → count_at (merged a b) lane ≡ max (count_at a lane) (count_at b lane)
count_merged [] b lane = omega arith
count_merged (x ∷ a) [] lane = omega arith
count_merged (x ∷ a) (y ∷ b) zero = refl
count_merged (x ∷ a) (y ∷ b) (suc lane) = count_merged a b lane

pub merged_long : (a b : List ℕ) → length (merged a b) ≡ max (length a) (length b)
merged_long [] b = omega arith
merged_long (x ∷ a) [] = omega arith
merged_long (x ∷ a) (y ∷ b) = let l = merged_long a b in omega arith

-- counts that are the same lane by lane
pub same_counts : (a b : List ℕ) → length a ≡ length b → ((lane : ℕ) → count_at a lane ≡ count_at b lane) → a ≡ b
same_counts a b l h = ext_get_or 0 a b l (λ lane k. h lane)

-- ---- one more

pub ticked_long : (counts : List ℕ) (lane : ℕ) → length (ticked counts lane) ≡ length counts
ticked_long counts lane = length-set counts lane (count_at counts lane + 1)

pub ticked_same : (counts : List ℕ) (lane : ℕ) → lane < length counts → count_at (ticked counts lane) lane ≡ count_at counts lane + 1
ticked_same counts lane l = get_or-set_same counts lane (count_at counts lane + 1) 0 l

pub ticked_other : (counts : List ℕ) (lane other : ℕ) → other ≢ lane → count_at (ticked counts lane) other ≡ count_at counts other
ticked_other counts lane other n = get_or-set_other counts lane other (count_at counts lane + 1) 0 n

ticked_past : (counts : List ℕ) (lane : ℕ) → length counts ≤ lane → count_at (ticked counts lane) lane ≡ 0
ticked_past counts lane l = get_or_past (ticked counts lane) lane 0 (let t = ticked_long counts lane in omega arith)

-- at most one more of the lane
pub ticked_within : (counts : List ℕ) (lane other : ℕ) → count_at (ticked counts lane) other ≤ cond (nat_eq lane other) 1 0 + count_at counts other
ticked_within counts lane other =
    ⊎_elim (λ (q : lane ≡ other).
    let t = eq-eqb _ _ q in
    rw t (subst (λ (x : ℕ). count_at (ticked counts lane) x ≤ 1 + count_at counts x) q
    (⊎_elim (λ (l : lane < length counts). let s = ticked_same counts lane l in omega arith) (λ (l : length counts ≤ lane). let s = ticked_past counts lane l in omega arith) (cases_lt lane (length counts)))))
    (λ (q : lane ≡ other → ⊥). let o = ticked_other counts lane other (λ z. q (sym z)) in omega arith)
    (cases_eq lane other)

-- no count falls, in a lane that is counted
pub ticked_more : (counts : List ℕ) (lane other : ℕ) → lane < length counts → count_at counts other ≤ count_at (ticked counts lane) other
ticked_more counts lane other l =
    ⊎_elim (λ (q : other ≡ lane). subst (λ (x : ℕ). count_at counts x ≤ count_at (ticked counts lane) x) (sym q) (let s = ticked_same counts lane l in omega arith))
    (λ (q : other ≡ lane → ⊥). let o = ticked_other counts lane other q in omega arith)
    (cases_eq other lane)

-- ---- one less

pub unticked_within : (counts : List ℕ) (lane other : ℕ) → count_at (unticked counts lane) other ≤ count_at counts other
unticked_within [] lane other = omega arith
unticked_within (x ∷ counts) zero zero = omega arith
unticked_within (x ∷ counts) zero (suc other) = omega arith
unticked_within (x ∷ counts) (suc lane) zero = omega arith
unticked_within (x ∷ counts) (suc lane) (suc other) = unticked_within counts lane other

-- one more and one less
pub unticked_ticked : (counts : List ℕ) (lane : ℕ) → lane < length counts → unticked (ticked counts lane) lane ≡ counts
unticked_ticked [] lane l = absurd (omega (arith, l))
unticked_ticked (x ∷ counts) zero l = let e : x + 1 - 1 ≡ x = omega arith in ap (λ (n : ℕ). n ∷ counts) e
unticked_ticked (x ∷ counts) (suc lane) l = ap (λ (xs : List ℕ). x ∷ xs) (unticked_ticked counts lane (omega (arith, l)))

-- one less is merged as all are, but for its lane
pub merged_unticked : (a b : List ℕ) (lane : ℕ) → lane < length b → set (merged a b) lane (max (count_at a lane) (count_at b lane - 1)) ≡ merged a (unticked b lane)
merged_unticked a [] lane l = absurd (omega (arith, l))
merged_unticked [] (y ∷ b) lane l = let e : max 0 (count_at (y ∷ b) lane - 1) ≡ count_at (y ∷ b) lane - 1 = omega arith in ap (set (y ∷ b) lane) e
merged_unticked (x ∷ a) (y ∷ b) zero l = refl
merged_unticked (x ∷ a) (y ∷ b) (suc lane) l = ap (λ (xs : List ℕ). max x y ∷ xs) (merged_unticked a b lane (omega (arith, l)))
