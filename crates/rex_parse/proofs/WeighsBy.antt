-- The least of some codes, by their numbers.
use Rattle.std.proofs.Common.{◌≡◌, ℕ, ◌<◌, ◌≤◌, Option, Some, None, refl, ap, subst, arith}
use Rattle.std.specs.Prelude.{◌↔◌}
use Rattle.rex_parse.specs.LeastCode.{IsLeast, IsLeastOf}

-- what is answered has the least number of these codes, or is none where there is none
abbrev pub WeighsBy : {C : Type 0} → (C → ℕ) → (C → Type 0) → Option C → Type 0
WeighsBy n P None = (c : _) → P c → ⊥
WeighsBy n P (Some c) = P c × ((d : _) → P d → n c ≤ n d)

-- codes that are the same are weighed alike
pub by_same : {C : Type 0} (n : C → ℕ) (P Q : C → Type 0) (o : Option C) → ((c : C) → P c → Q c) → ((c : C) → Q c → P c) → WeighsBy n P o → WeighsBy n Q o
by_same n P Q None to from h = λ c q. h c (from c q)
by_same n P Q (Some c) to from h = (to c h.0, λ d q. h.1 d (from d q))

is_least : {C : Type 0} (n : C → ℕ) → ((c d : C) → n c ≡ n d → c ≡ d) → (P : C → Type 0) (o : Option C) (c : C) → WeighsBy n P o → (o ≡ Some c) ↔ IsLeast n P c
is_least n one P None c h = (λ e. absurd cc, λ l. absurd (h c l.among))
is_least n one P (Some b) c h = (
  λ e. let same : b ≡ c = cc in subst (IsLeast n P) same (record { among = h.0; least = λ d lt p. let far : n b ≤ n d = h.1 d p in omega arith }),
  λ l. ap (λ x. Some x) (one b c (let far : n b ≤ n c = h.1 c l.among in let near : n b < n c → ⊥ = λ lt. l.least b lt h.0 in omega arith)),
)

is_none : {C : Type 0} (n : C → ℕ) (P : C → Type 0) (o : Option C) → WeighsBy n P o → (o ≡ None) ↔ ((c : C) → ¬ (P c))
is_none n P None h = (λ e c p. h c p, λ none. refl)
is_none n P (Some b) h = (λ e. absurd cc, λ none. absurd (none b h.0))

-- what is weighed is the least, where two codes with one number are one
pub least_by : {C : Type 0} (n : C → ℕ) → ((c d : C) → n c ≡ n d → c ≡ d) → (P : C → Type 0) (o : Option C) → WeighsBy n P o → IsLeastOf n P o
least_by n one P o h = record { least = λ c. is_least n one P o c h; none = is_none n P o h }

not_less : (m n : ℕ) → ¬ (n < m) → m ≤ n
not_less m n h = omega arith

-- and the least is weighed
pub weighs_by : {C : Type 0} (n : C → ℕ) (P : C → Type 0) (o : Option C) → IsLeastOf n P o → WeighsBy n P o
weighs_by n P None l = l.none.0 refl
weighs_by n P (Some c) l = let is : IsLeast n P c = (l.least c).0 refl in (is.among, λ d p. not_less (n c) (n d) (λ lt. is.least d lt p))
