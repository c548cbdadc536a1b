-- What stands at the places of rows.
use Rattle.std.proofs.Common.{◌≡◌, ⊎_elim, ℕ, zero, suc, cond, List, [], ◌∷◌, length, get_or, set, refl, ap, sym, ◌∙◌, subst, arith}
use Rattle.std.specs.Prelude.{nat_eq, Some}
use Rattle.std.proofs.lemmas.Bool.{cases_eq, eq-eqb, ne_eqb}
use Rattle.std.proofs.lemmas.List.{get_or-set_same, get_or-set_other}
use Rattle.rex_reduce.specs.declared.summary.Summary.{Summary}
use Rattle.rex_reduce.specs.Summaries.{nothing, joined}
use Rattle.rex_reduce.specs.Rows.{numbered, row_at, summaries, AreApart}
use Rattle.rex_reduce.specs.Tables.{at, AreAddedAt}

-- ---- reading

pub at_row : (rows : List Summary) (numbers : List ℕ) (place : ℕ) → at (summaries rows numbers) place ≡ row_at rows numbers place
at_row rows [] place = refl
at_row rows (number ∷ numbers) zero = refl
at_row rows (number ∷ numbers) (suc place) = at_row rows numbers place

-- ---- writing

row_written : (rows : List Summary) (numbers : List ℕ) (place index : ℕ) (s : Summary) (k n : ℕ) → AreApart (length rows) numbers → get_or numbers place 0 ≡ suc index → get_or numbers k 0 ≡ n → numbered (set rows index s) n ≡ cond (nat_eq place k) s (numbered rows n)
row_written rows numbers place index s k zero a r q =
    let e = ne_eqb place k (λ (h : place ≡ k). let b = ap (λ (x : ℕ). get_or numbers x 0) h in absurd (omega arith)) in
    rw e refl
row_written rows numbers place index s k (suc j) a r q = ⊎_elim
    (λ (h : j ≡ index).
    let w = a.within place in
    let here = get_or-set_same rows index s nothing (omega arith) in
    let e = eq-eqb place k (a.apart place k (omega arith) (omega arith)) in
    subst (λ (x : ℕ). numbered (set rows index s) (suc x) ≡ cond (nat_eq place k) s (numbered rows (suc x))) (sym h) (rw (here, e) refl))
    (λ (h : j ≡ index → ⊥).
    let there = get_or-set_other rows index j s nothing h in
    let e = ne_eqb place k (λ (p : place ≡ k). let b = ap (λ (x : ℕ). get_or numbers x 0) p in h (omega arith)) in
    rw (there, e) refl)
    (cases_eq j index)

by_place : (place k : ℕ) (x y z : Summary) → (place ≡ k → x ≡ y) → cond (nat_eq place k) x z ≡ cond (nat_eq place k) y z
by_place place k x y z h = ⊎_elim
    (λ (q : place ≡ k). let e = eq-eqb _ _ q in let w = h q in rw (e, w) refl)
    (λ (q : place ≡ k → ⊥). let e = ne_eqb _ _ q in rw e refl)
    (cases_eq place k)

-- a row has what stood at its place
pub row_was : (was : List Summary) (old rows : List Summary) (olds numbers : List ℕ) (place index : ℕ) → was ≡ summaries old olds → get_or numbers place 0 ≡ suc index → ((k : ℕ) → row_at rows numbers k ≡ row_at old olds k) → get_or rows index nothing ≡ at was place
row_was was old rows olds numbers place index w r same =
    sym (ap (numbered rows) r) ∙ same place ∙ sym (at_row old olds place) ∙ ap (λ (x : List Summary). at x place) (sym w)

-- a row is written, and nothing else is changed
pub row_added : (was : List Summary) (old rows : List Summary) (olds numbers : List ℕ) (place index : ℕ) (s own : Summary) → was ≡ summaries old olds → AreApart (length rows) numbers → get_or numbers place 0 ≡ suc index → ((k : ℕ) → row_at rows numbers k ≡ row_at old olds k) → s ≡ joined (at was place) own
    → AreAddedAt was (Some place) own (summaries (set rows index s) numbers)
row_added was old rows olds numbers place index s own w a r same is k =
    let before : row_at rows numbers k ≡ at was k = same k ∙ sym (at_row old olds k) ∙ ap (λ (x : List Summary). at x k) (sym w) in
    at_row (set rows index s) numbers k
    ∙ row_written rows numbers place index s k (get_or numbers k 0) a r refl
    ∙ ap (cond (nat_eq place k) s) before
    ∙ by_place place k s (joined (at was k) own) (at was k) (λ (p : place ≡ k). is ∙ ap (λ (x : ℕ). joined (at was x) own) p)
