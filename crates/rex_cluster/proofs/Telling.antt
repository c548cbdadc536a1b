-- The chosen values that a node tells who asks for them, in their order.
use Rattle.std.proofs.Common.{◌≡◌, ℕ, zero, suc, ◌+◌, ◌-◌, ◌<◌, ◌≤◌, ◌⊎◌, inl, inr, cond, List, [], ◌∷◌, ◌++◌, length, get_or, take, drop, refl, sym, ap, ◌∙◌, arith, min, le-leb}
use Rattle.std.proofs.lemmas.Bool.{lt-leb}
use Rattle.std.proofs.lemmas.List.{take_all, get_or-drop, length-drop}
use Rattle.rex_cluster.specs.Node.{Message}
use Rattle.rex_cluster.specs.Calls.{tell}
use Rattle.std.proofs.Math.Seq.{take-suc}
use Rattle.rex_cluster.specs.Node.Content.{Chosen}

pub take_none : {A : Type 0} (xs : List A) → take zero xs ≡ []
take_none [] = refl
take_none (x ∷ xs) = refl

module _ {V : Type 0} (me to first : ℕ) where
  -- that a value was chosen for an instance
  abbrev pub chose : ℕ → V → Message V
  chose i v = record { from = me; to = to; content = Chosen i v }

  -- those before the first are left out
  tell_from : (n i : ℕ) (vs : List V) → (n ≡ 0) ⊎ (i + n ≤ first) → tell me to first i vs ≡ tell me to first (i + n) (drop n vs)
  tell_from zero i vs l = ap (λ j. tell me to first j vs) (same i)
    where
      same : (j : ℕ) → j ≡ j + 0
      same j = omega arith
  tell_from (suc n) i [] l = refl
  tell_from (suc n) i (v ∷ vs) (inl e) = absurd (omega (arith, e))
  tell_from (suc n) i (v ∷ vs) (inr l) =
      ap (λ t. cond t (chose i v ∷ tell me to first (suc i) vs) (tell me to first (suc i) vs)) (lt-leb first i (omega (arith, l)))
      ∙ tell_from n (suc i) vs (inr (omega (arith, l)))
      ∙ ap (λ j. tell me to first j (drop n vs)) (more i n)
    where
      more : (j m : ℕ) → suc j + m ≡ j + suc m
      more j m = omega arith

  -- each from it on is told
  tells_all : {i : ℕ} {v : V} (vs : List V) → first ≤ i → tell me to first i (v ∷ vs) ≡ chose i v ∷ tell me to first (suc i) vs
  tells_all {i} {v} vs l = ap (λ t. cond t (chose i v ∷ tell me to first (suc i) vs) (tell me to first (suc i) vs)) (le-leb first i l)

  tells_many : (i : ℕ) (vs : List V) → first ≤ i → length (tell me to first i vs) ≡ length vs
  tells_many i [] l = refl
  tells_many i (v ∷ vs) l = ap length (tells_all vs l) ∙ ap suc (tells_many (suc i) vs (omega (arith, l)))

  tells_at : {i : ℕ} (vs : List V) (n : ℕ) (d : Message V) (w : V) → first ≤ i → n < length vs → get_or (tell me to first i vs) n d ≡ chose (i + n) (get_or vs n w)
  tells_at [] n d w l h = absurd (omega arith)
  tells_at {i} (v ∷ vs) zero d w l h = ap (λ ms. get_or ms 0 d) (tells_all vs l) ∙ ap (λ j. chose j v) (same i)
    where
      same : (j : ℕ) → j ≡ j + 0
      same j = omega arith
  tells_at {i} (v ∷ vs) (suc n) d w l h =
      ap (λ ms. get_or ms (suc n) d) (tells_all vs l)
      ∙ tells_at vs n d w (omega (arith, l)) (omega (arith, h))
      ∙ ap (λ j. chose j (get_or vs n w)) (more i n)
    where
      more : (j m : ℕ) → suc j + m ≡ j + suc m
      more j m = omega arith

  module _ (known : List V) {skipped : ℕ} (skips : skipped ≡ first - 1) where
    whole : tell me to first 1 known ≡ tell me to first (1 + skipped) (drop skipped known)
    whole = tell_from skipped 1 known (by first skips)
      where
        by : (f : ℕ) → skipped ≡ f - 1 → (skipped ≡ 0) ⊎ (1 + skipped ≤ f)
        by zero e = inl (omega (arith, e))
        by (suc f) e = inr (omega (arith, e))

    reaches : first ≤ 1 + skipped
    reaches = omega (arith, skips)

    many : length (tell me to first 1 known) ≡ length known - skipped
    many = ap length whole ∙ tells_many _ _ reaches ∙ length-drop skipped known

    -- the next one
    pub told_next : {place : ℕ} {v : V} (w : V) → skipped ≤ place → place < length known → v ≡ get_or known place w
        → take (place - skipped) (tell me to first 1 known) ++ chose (place + 1) v ∷ [] ≡ take (place + 1 - skipped) (tell me to first 1 known)
    told_next {place} {v} w l h e =
        let n : ℕ = place - skipped in
        sym (ap (λ m. take m (tell me to first 1 known)) (more place skipped l)
        ∙ take-suc (tell me to first 1 known) (place - skipped) (chose 0 v) (omega (arith, many, l, h))
        ∙ ap (λ m. take (place - skipped) (tell me to first 1 known) ++ m ∷ [])
        (ap (λ ms. get_or ms (place - skipped) (chose 0 v)) whole
        ∙ tells_at _ _ _ w reaches (omega (arith, length-drop skipped known, l, h))
        ∙ ap (λ j. chose j (get_or (drop skipped known) (place - skipped) w)) (at place skipped l)
        ∙ ap (chose (place + 1)) (get_or-drop skipped known (place - skipped) w ∙ ap (λ j. get_or known j w) (back place skipped l) ∙ sym e)))
      where
        more : (p s : ℕ) → s ≤ p → p + 1 - s ≡ suc (p - s)
        more p s k = omega arith

        at : (p s : ℕ) → s ≤ p → 1 + s + (p - s) ≡ p + 1
        at p s k = omega arith

        back : (p s : ℕ) → s ≤ p → s + (p - s) ≡ p
        back p s k = omega arith

    -- all of them, or at most 64
    pub told_all : {end : ℕ} → end ≡ min (length known) (skipped + 64) → skipped ≤ length known → take (end - skipped) (tell me to first 1 known) ≡ take 64 (tell me to first 1 known)
    told_all {end} e l = by (end - skipped) refl
      where
        go : (n : ℕ) → (n ≡ 64) ⊎ ((length (tell me to first 1 known) ≤ n) × (length (tell me to first 1 known) ≤ 64)) → take n (tell me to first 1 known) ≡ take 64 (tell me to first 1 known)
        go n (inl s) = ap (λ m. take m (tell me to first 1 known)) s
        go n (inr s) = take_all n (tell me to first 1 known) s.0 ∙ sym (take_all 64 (tell me to first 1 known) s.1)

        by : (n : ℕ) → end - skipped ≡ n → take n (tell me to first 1 known) ≡ take 64 (tell me to first 1 known)
        by n f = go n (cases (length known) skipped end n e f l many)
          where
            cases : (k s b m : ℕ) → b ≡ min k (s + 64) → b - s ≡ m → s ≤ k → length (tell me to first 1 known) ≡ k - s → (m ≡ 64) ⊎ ((length (tell me to first 1 known) ≤ m) × (length (tell me to first 1 known) ≤ 64))
            cases k s b m g h i j = grind arith
