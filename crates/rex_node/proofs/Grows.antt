-- Where the whole of a call runs on, so does what is left of it.
use Rattle.rex_node.proofs.Common.{◌≡◌, true, List, [], ◌∷◌, None, sym, ap, subst, ◌∙◌, refl, ℕ, Declarations, Answer, known, Value, values_fit, CallHere, Draft, NodeValue, LeadsOn, RunsOn, later, one_later, so_far}

pub later_none : (written : List (List ℕ)) → later written None ≡ None
later_none [] = refl
later_none (bytes ∷ written) = ap one_later (later_none written)

-- where the whole runs on, so does what is left of it
pub rest_runs : {K : Type 0} {records : K → List (List ℕ)} {gives : K → List ℕ → Answer → K → Type 0} {faults : K → ℕ} {service : Declarations} (past : List Value) {whole rest : CallHere → CallHere} (x y : NodeValue K) (before after : Draft)
    → LeadsOn records gives faults service whole rest x.keeper y.keeper (so_far records service past x before) (so_far records service past y after)
    → RunsOn service whole (so_far records service past x before) → RunsOn service rest (so_far records service past y after)
rest_runs {records} {service} past {whole} x y before after h runs =
    subst (λ d. values_fit service (known d.node.log) ≡ true)
    (ap (λ f. whole (record (so_far records service past x before) { node = record (so_far records service past x before).node { armed = f } })) (sym (later_none h.written)) ∙ h.comes None)
    runs
