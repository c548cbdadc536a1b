-- The least of codes, over the words of a line.
use Rattle.std.proofs.Common.{◌≡◌, ℕ, ◌+◌, ◌-◌, ◌<◌, ◌≤◌, List, [], ◌∷◌, ◌++◌, length, get_or, drop, take, Option, Some, None, refl, sym, ap, ◌∙◌, arith, inl, inr, ◌⊎◌}
use Rattle.std.specs.Borrow.{Bor}
use Rattle.std.proofs.lemmas.Bool.{cases_lt, le-leb, lt-leb}
use Rattle.std.proofs.lemmas.List.{take_rest, take_more, drop_more, map-append}
use Rattle.rex_text.specs.Text.{Word}
use Rattle.rex_parse.specs.Words.{least, lesser, rank}
use Rattle.rex_parse.specs.Table.{operand_code, operator_code, expr_code, parameter_code, parameters_code}
use Rattle.rex_parse.specs.Answers.{texts}
use Rattle.rex_parse.specs.declared.language.Above.{Above}
use Rattle.rex_parse.specs.declared.language.ServiceCode.{ServiceCode}

pub least_none : (x : Option ServiceCode) → least x None ≡ x
least_none None = refl
least_none (Some c) = refl

-- ---- the least of three

pub cases_le : (m n : ℕ) → (m ≤ n) ⊎ (n < m)
cases_le m n = elim (cases_lt n m) [ inl lt ↦ inr lt | inr le ↦ inl le ]

pub lesser_le : (a b : ServiceCode) → rank a ≤ rank b → lesser a b ≡ a
lesser_le a b le = rw (le-leb _ _ le) refl

pub lesser_gt : (a b : ServiceCode) → rank b < rank a → lesser a b ≡ b
lesser_gt a b gt = rw (lt-leb _ _ gt) refl

abbrev Assoc : ServiceCode → ServiceCode → ServiceCode → Type 0
Assoc a b c = lesser (lesser a b) c ≡ lesser a (lesser b c)

assoc_low : (a b c : ServiceCode) → rank a ≤ rank b → (rank b ≤ rank c) ⊎ (rank c < rank b) → Assoc a b c
assoc_low a b c ab (inl bc) = let ac : rank a ≤ rank c = omega arith in ap (λ x. lesser x c) (lesser_le a b ab) ∙ lesser_le a c ac ∙ sym (ap (λ x. lesser a x) (lesser_le b c bc) ∙ lesser_le a b ab)
assoc_low a b c ab (inr cb) = ap (λ x. lesser x c) (lesser_le a b ab) ∙ sym (ap (λ x. lesser a x) (lesser_gt b c cb))

assoc_high : (a b c : ServiceCode) → rank b < rank a → (rank b ≤ rank c) ⊎ (rank c < rank b) → Assoc a b c
assoc_high a b c ba (inl bc) = ap (λ x. lesser x c) (lesser_gt a b ba) ∙ lesser_le b c bc ∙ sym (ap (λ x. lesser a x) (lesser_le b c bc) ∙ lesser_gt a b ba)
assoc_high a b c ba (inr cb) = let ca : rank c < rank a = omega arith in ap (λ x. lesser x c) (lesser_gt a b ba) ∙ lesser_gt b c cb ∙ sym (ap (λ x. lesser a x) (lesser_gt b c cb) ∙ lesser_gt a c ca)

assoc_cases : (a b c : ServiceCode) → (rank a ≤ rank b) ⊎ (rank b < rank a) → Assoc a b c
assoc_cases a b c (inl ab) = assoc_low a b c ab (cases_le (rank b) (rank c))
assoc_cases a b c (inr ba) = assoc_high a b c ba (cases_le (rank b) (rank c))

lesser_assoc : (a b c : ServiceCode) → Assoc a b c
lesser_assoc a b c = assoc_cases a b c (cases_le (rank a) (rank b))

pub least_assoc : (x y z : Option ServiceCode) → least (least x y) z ≡ least x (least y z)
least_assoc None y z = refl
least_assoc (Some a) None z = refl
least_assoc (Some a) (Some b) None = refl
least_assoc (Some a) (Some b) (Some c) = ap (λ k. Some k) (lesser_assoc a b c)

-- ---- an expression

pair_step : (a : Above) (ws : List (Bor Word)) (d : Bor Word) → 2 ≤ length ws
    → expr_code a (texts ws) ≡ least (least (operand_code a (get_or ws 0 d).now) (operator_code (get_or ws 1 d).now)) (expr_code a (texts (drop 2 ws)))
unfolding expr_code
pair_step a [] d two = absurd (omega arith)
pair_step a (w ∷ []) d two = absurd (omega arith)
pair_step a (w ∷ o ∷ ws) d two = refl

-- one turn over an operand and an operator
pub expr_step : (a : Above) (ws : List (Bor Word)) (d : Bor Word) (code pair new total : Option ServiceCode) → 2 ≤ length ws
    → pair ≡ least (operand_code a (get_or ws 0 d).now) (operator_code (get_or ws 1 d).now) → new ≡ least code pair
    → least code (expr_code a (texts ws)) ≡ total → least new (expr_code a (texts (take (length ws - 2) (drop 2 ws)))) ≡ total
expr_step a ws d code pair new total two p n so_far =
    let e : expr_code a (texts ws) ≡ least pair (expr_code a (texts (drop 2 ws))) = rw p (pair_step a ws d two) in
    rw (take_rest ws 2, n, least_assoc code pair (expr_code a (texts (drop 2 ws))), ← e) so_far

-- ---- a heading

heading_more : (a : Above) (ws : List (Bor Word)) (i : ℕ) (d : Bor Word) → i < length ws
    → parameters_code a (texts (take i ws)) (texts (drop i ws)) ≡ least (parameter_code a (texts (take i ws)) (get_or ws i d).now) (parameters_code a (texts (take (i + 1) ws)) (texts (drop (i + 1) ws)))
heading_more a ws i d lt =
    let before : texts (take (i + 1) ws) ≡ texts (take i ws) ++ (get_or ws i d).now ∷ [] = rw (take_more ws i d lt) (map-append (λ w. w.now) (take i ws) (get_or ws i d ∷ [])) in
    rw (before, drop_more ws i d lt) refl

-- one turn over a parameter
pub heading_step : (a : Above) (ws : List (Bor Word)) (i : ℕ) (d : Bor Word) (code one new total : Option ServiceCode) → i < length ws
    → one ≡ parameter_code a (texts (take i ws)) (get_or ws i d).now → new ≡ least code one
    → least code (parameters_code a (texts (take i ws)) (texts (drop i ws))) ≡ total
    → least new (parameters_code a (texts (take (i + 1) ws)) (texts (drop (i + 1) ws))) ≡ total
heading_step a ws i d code one new total lt o n so_far =
    let after : Option ServiceCode = parameters_code a (texts (take (i + 1) ws)) (texts (drop (i + 1) ws)) in
    let e : parameters_code a (texts (take i ws)) (texts (drop i ws)) ≡ least one after = rw o (heading_more a ws i d lt) in
    rw (n, least_assoc code one after, ← e) so_far
