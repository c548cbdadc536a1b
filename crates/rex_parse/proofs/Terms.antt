-- What follows an expression's first operand.
use Rattle.std.proofs.Common.{◌≡◌, ◌-◌, ◌<◌, ◌≤◌, List, [], ◌∷◌, ◌++◌, length, get_or, drop, take, Option, Some, None, refl, sym, ap, ◌∙◌, arith, append-nil}
use Rattle.std.specs.Prelude.{nat_lt, unwrap_or}
use Rattle.std.specs.Borrow.{Bor}
use Rattle.std.proofs.lemmas.Bool.{lt-leb}
use Rattle.std.proofs.lemmas.List.{take_rest, length-map, append_assoc}
use Rattle.rex_text.specs.Text.{Word}
use Rattle.rex_syntax.specs.declared.expr.Operand.{Operand}
use Rattle.rex_syntax.specs.declared.expr.Operator.{Operator}
use Rattle.rex_syntax.specs.declared.expr.Operator.TheVariants.{Add}
use Rattle.rex_syntax.specs.declared.expr.Term.{Term}
use Rattle.rex_parse.specs.After.{operand_of, terms_of}
use Rattle.rex_parse.specs.Answers.{texts}
use Rattle.rex_parse.specs.Following.{rest_code}
use Rattle.rex_parse.specs.Table.{expr_code, operand_code, operator_code, operator_of, whole_expr_code}
use Rattle.rex_parse.specs.Words.{fits, least}
use Rattle.rex_parse.specs.declared.language.Above.{Above}
use Rattle.rex_parse.specs.declared.language.ServiceCode.{ServiceCode}
use Rattle.rex_parse.specs.declared.language.ServiceCode.TheVariants.{BadExpression}
use Rattle.rex_parse.proofs.Weighing.{least_assoc, least_none}

-- where fewer than two words are left, all terms are there
pub terms_done : (a : Above) (ws : List (Bor Word)) (terms total : List Term) → length ws < 2 → terms ++ terms_of a (texts ws) ≡ total → terms ≡ total
terms_done a [] terms total lt e = sym (append-nil terms) ∙ e
terms_done a (w ∷ []) terms total lt e = sym (append-nil terms) ∙ e
terms_done a (w ∷ o ∷ ws) terms total lt e = absurd (omega arith)

-- an expression is an operand and what follows it
first_and_rest : (a : Above) (w : Word) (ws : List Word) → expr_code a (w ∷ ws) ≡ least (operand_code a w) (rest_code a ws)
unfolding expr_code
first_and_rest a w [] = sym (least_none (operand_code a w))
first_and_rest a w (o ∷ ws) = least_assoc (operand_code a w) (operator_code o) (expr_code a ws)

pair_behind : (a : Above) (ws : List (Bor Word)) (d : Bor Word) → 2 ≤ length ws
    → rest_code a (texts ws) ≡ least (least (operator_code (get_or ws 0 d).now) (operand_code a (get_or ws 1 d).now)) (rest_code a (texts (drop 2 ws)))
pair_behind a [] d two = absurd (omega arith)
pair_behind a (o ∷ []) d two = absurd (omega arith)
pair_behind a (o ∷ w ∷ ws) d two =
    ap (least (operator_code o.now)) (first_and_rest a w.now (texts ws)) ∙ sym (least_assoc (operator_code o.now) (operand_code a w.now) (rest_code a (texts ws)))

-- one turn over an operator and an operand
pub rest_step : (a : Above) (ws : List (Bor Word)) (d : Bor Word) (code pair new total : Option ServiceCode) → 2 ≤ length ws
    → pair ≡ least (operator_code (get_or ws 0 d).now) (operand_code a (get_or ws 1 d).now) → new ≡ least code pair
    → least code (rest_code a (texts ws)) ≡ total → least new (rest_code a (texts (take (length ws - 2) (drop 2 ws)))) ≡ total
rest_step a ws d code pair new total two p n so_far =
    let e : rest_code a (texts ws) ≡ least pair (rest_code a (texts (drop 2 ws))) = rw p (pair_behind a ws d two) in
    rw (take_rest ws 2, n, least_assoc code pair (rest_code a (texts (drop 2 ws))), ← e) so_far

pub terms_step : (a : Above) (ws : List (Bor Word)) (d : Bor Word) (terms new total : List Term) (op : Operator) (x : Operand) → 2 ≤ length ws
    → op ≡ unwrap_or (operator_of (get_or ws 0 d).now) Add → x ≡ operand_of a (get_or ws 1 d).now → new ≡ terms ++ (record { operator = op; operand = x }) ∷ []
    → terms ++ terms_of a (texts ws) ≡ total → new ++ terms_of a (texts (take (length ws - 2) (drop 2 ws))) ≡ total
terms_step a [] d terms new total op x two o h n so_far = absurd (omega arith)
terms_step a (v ∷ []) d terms new total op x two o h n so_far = absurd (omega arith)
terms_step a (v ∷ w ∷ ws) d terms new total op x two o h n so_far =
    let term : Term = record { operator = op; operand = x } in
    let same : terms_of a (texts (v ∷ w ∷ ws)) ≡ term ∷ terms_of a (texts ws) = rw (o, h) refl in
    rw (take_rest (v ∷ w ∷ ws) 2, n, append_assoc terms (term ∷ []) (terms_of a (texts ws))) (rw (← same) so_far)

-- ---- the whole expression

pub no_words : (a : Above) (ws : List (Bor Word)) → length ws < 1 → Some BadExpression ≡ whole_expr_code a (texts ws)
unfolding expr_code
no_words a [] lt = refl
no_words a (w ∷ ws) lt = absurd (omega arith)

short_fits : (ws : List (Bor Word)) → length ws ≤ 15 → fits (nat_lt 15 (length (texts ws))) BadExpression ≡ None
short_fits ws le = rw (length-map ws (λ w. w.now), lt-leb 16 (length ws) (omega (arith, le))) refl

pub short_code : (a : Above) (ws : List (Bor Word)) (d : Bor Word) (code : Option ServiceCode) → 1 ≤ length ws → length ws ≤ 15
    → code ≡ least (operand_code a (get_or ws 0 d).now) (rest_code a (texts (take (length ws - 1) (drop 1 ws)))) → code ≡ whole_expr_code a (texts ws)
short_code a [] d code one le e = absurd (omega arith)
short_code a (w ∷ ws) d code one le e =
    let whole : code ≡ expr_code a (texts (w ∷ ws)) = (rw (← take_rest (w ∷ ws) 1) e) ∙ sym (first_and_rest a w.now (texts ws)) in
    whole ∙ ap (λ (c : Option ServiceCode). least c (expr_code a (texts (w ∷ ws)))) (sym (short_fits (w ∷ ws) le))
