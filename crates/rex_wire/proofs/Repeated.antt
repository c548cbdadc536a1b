-- Reading items one after the other, as a loop does.
use Rattle.std.proofs.Common.{◌≡◌, ℕ, zero, suc, ◌-◌, ◌+◌, ◌≤◌, ◌<◌, Ok, Err, refl, sym, ap, ◌∙◌, arith}
use Rattle.rex_wire.specs.Reading.{Left, Reading, ◌>>=◌}
use Rattle.rex_wire.specs.Decoding.{Fails}
use Rattle.rex_wire.specs.declared.fault.DecodeError.{DecodeError}
use Rattle.rex_wire.specs.declared.fault.DecodeError.TheVariants.{Bad, OutOfMemory}

-- reading goes on by one item at a time; what is read so far is joined to what is read then
pub record IsRepeated {S A M : Type 0} (read : S → Left → Reading A) (next : S → A → S) (none : M) (one : A → M) (join : M → M → M) (all : S → ℕ → Left → Reading M) : Type 0 where
  pub at_zero : (s : S) (l : Left) → all s zero l ≡ Ok (none, l)
  pub at_suc : (s : S) (n : ℕ) (l : Left) → all s (suc n) l ≡ (read s l >>= λ x. all (next s x.0) n x.1 >>= λ y. Ok (join (one x.0) y.0, y.1))
  pub nothing : (m : M) → join m none ≡ m
  pub joined : (a b c : M) → join (join a b) c ≡ join a (join b c)

-- what was read before, and what is still read
abbrev pub with_front : {M : Type 0} → (M → M → M) → M → Reading M → Reading M
with_front join front read = read >>= λ y. Ok (join front y.0, y.1)

module _ {S A M : Type 0} (read : S → Left → Reading A) (next : S → A → S) (none : M) (one : A → M) (join : M → M → M) (all : S → ℕ → Left → Reading M) (h : IsRepeated read next none one join all) where
  regroup : (front : M) (x : A) (r : Reading M) → with_front join front (r >>= λ y. Ok (join (one x) y.0, y.1)) ≡ with_front join (join front (one x)) r
  regroup front x (Ok y) = ap (λ (m : M). let r : Reading M = Ok (m, y.1) in r) (sym (h.joined front (one x) y.0))
  regroup front x (Err at) = refl

  at_more : (s : S) (count i : ℕ) (l : Left) → i < count → all s (count - i) l ≡ (read s l >>= λ x. all (next s x.0) (count - (i + 1)) x.1 >>= λ y. Ok (join (one x.0) y.0, y.1))
  at_more s count i l lt =
      let k : count - i ≡ suc (count - (i + 1)) = omega arith in
      ap (λ (n : ℕ). all s n l) k ∙ h.at_suc s (count - (i + 1)) l

  pub goes_on : (s : S) (count i : ℕ) (l : Left) (front : M) (x : A) (after : Left) (total : Reading M) → i < count → read s l ≡ Ok (x, after) → with_front join front (all s (count - i) l) ≡ total → with_front join (join front (one x)) (all (next s x) (count - (i + 1)) after) ≡ total
  goes_on s count i l front x after total lt e so_far =
      let rest = all (next s x) (count - (i + 1)) after in
      let now : all s (count - i) l ≡ (rest >>= λ y. Ok (join (one x) y.0, y.1)) = at_more s count i l lt ∙ ap (λ (r : Reading A). r >>= λ x. all (next s x.0) (count - (i + 1)) x.1 >>= λ y. Ok (join (one x.0) y.0, y.1)) e in
      sym (regroup front x rest) ∙ ap (with_front join front) (sym now) ∙ so_far

  pub stops : (s : S) (count i : ℕ) (l : Left) (front : M) (at : ℕ) (total : Reading M) → i < count → read s l ≡ Err at → with_front join front (all s (count - i) l) ≡ total → total ≡ Err at
  stops s count i l front at total lt e so_far =
      let now : all s (count - i) l ≡ Err at = at_more s count i l lt ∙ ap (λ (r : Reading A). r >>= λ x. all (next s x.0) (count - (i + 1)) x.1 >>= λ y. Ok (join (one x.0) y.0, y.1)) e in
      sym so_far ∙ ap (with_front join front) now

  pub fails : (e : DecodeError) (s : S) (count i : ℕ) (l : Left) (front : M) (total : Reading M) → i < count → Fails e (read s l) → with_front join front (all s (count - i) l) ≡ total → Fails e total
  fails (Bad at) s count i l front total lt bad so_far = stops s count i l front at total lt bad so_far
  fails OutOfMemory s count i l front total lt bad so_far = tt

  pub is_done : (s : S) (count i : ℕ) (l : Left) (front : M) (total : Reading M) → count ≤ i → with_front join front (all s (count - i) l) ≡ total → total ≡ Ok (front, l)
  is_done s count i l front total le so_far =
      let k : count - i ≡ 0 = omega arith in
      let now : all s (count - i) l ≡ Ok (none, l) = ap (λ (n : ℕ). all s n l) k ∙ h.at_zero s l in
      sym so_far ∙ ap (with_front join front) now ∙ ap (λ (m : M). let r : Reading M = Ok (m, l) in r) (h.nothing front)
