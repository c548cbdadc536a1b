-- The lines of agreed values, one value after the other.
use Rattle.std.proofs.Common.{◌≡◌, ℕ, suc, ◌+◌, ◌<◌, ◌≤◌, List, [], ◌∷◌, ◌++◌, length, get_or, take, sym, ap, ◌∙◌, arith, append-nil, append_assoc}
use Rattle.std.proofs.lemmas.List.{length-take-le, take_more}
use Rattle.rex_syntax.specs.declared.service.Declarations.{Declarations}
use Rattle.rex_report.specs.Trace.{delta_text}
use Rattle.rex_cluster.specs.Values.{Value, delta_of}
use Rattle.rex_steps.specs.Tracing.{values_text}

-- with the lines of one value behind them
values_push : (service : Declarations) (instance : ℕ) (vs : List Value) (v : Value) → values_text service instance (vs ++ v ∷ []) ≡ values_text service instance vs ++ delta_text service (length vs + instance) (delta_of v)
values_push service instance [] v = append-nil (delta_text service instance (delta_of v)) ∙ ap (λ (n : ℕ). delta_text service n (delta_of v)) (let e : instance ≡ 0 + instance = omega arith in e)
values_push service instance (w ∷ vs) v =
    ap (λ (t : List ℕ). delta_text service instance (delta_of w) ++ t) (values_push service (suc instance) vs v)
    ∙ sym (append_assoc (delta_text service instance (delta_of w)) (values_text service (suc instance) vs) (delta_text service (length vs + suc instance) (delta_of v)))
    ∙ ap (λ (n : ℕ). (delta_text service instance (delta_of w) ++ values_text service (suc instance) vs) ++ delta_text service n (delta_of v)) (let e : length vs + suc instance ≡ suc (length vs) + instance = omega arith in e)

-- with the lines of one value more
pub values_more : (service : Declarations) (values : List Value) (i : ℕ) (value : Value) (had before after : List ℕ) → i < length values → value ≡ get_or values i value → before ≡ had ++ values_text service 1 (take i values)
    → after ≡ before ++ delta_text service (i + 1) (delta_of value) → after ≡ had ++ values_text service 1 (take (i + 1) values)
values_more service values i value had before after there is before_is after_is =
    after_is ∙ ap (λ (t : List ℕ). t ++ delta_text service (i + 1) (delta_of value)) before_is
    ∙ append_assoc had (values_text service 1 (take i values)) (delta_text service (i + 1) (delta_of value))
    ∙ ap (λ (t : List ℕ). had ++ t)
    (ap (λ (n : ℕ). values_text service 1 (take i values) ++ delta_text service (n + 1) (delta_of value)) (sym (length-take-le i values (let l : i ≤ length values = omega (arith, there) in l)))
    ∙ sym (values_push service 1 (take i values) value)
    ∙ ap (values_text service 1) (ap (λ (v : Value). take i values ++ v ∷ []) is ∙ sym (take_more values i value there)))
