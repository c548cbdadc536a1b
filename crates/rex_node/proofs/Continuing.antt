-- A call whose first parts are done goes on to its last one.
use Rattle.rex_node.proofs.Common.{◌≡◌, ℕ, List, Result, Ok, Err, subst, IfOk, Declarations, Answer, CallHere, Going, On, Down, Draft, Ends, Fell, Leads, so_far, NodeValue, Value}
use Rattle.rex_node.proofs.GoingLemmas.{leads_then, leads_fell}

module _ {K : Type 0} {records : K → List (List ℕ)} {gives : K → List ℕ → Answer → K → Type 0} {faults : K → ℕ} {service : Declarations} {past : List Value} {whole rest : CallHere → CallHere} (x z : NodeValue K) {w : NodeValue K} (before mid after : Draft) where
  -- the whole ends where the rest does
  pub ends_then : (going : Going) → z.id ≡ x.id → Leads records gives faults service whole rest x.keeper z.keeper (so_far records service past x before) (so_far records service past z mid)
      → Ends records gives faults service past rest z w mid after going → Ends records gives faults service past whole x w before after going
  ends_then On id l h = (
    (
      leads_then l h.0.0,
      h.0.1,
      h.0.2,
    ),
    h.1,
  )
  ends_then Down id l h = (
    (
      leads_fell l
          (subst (λ i. Fell records gives faults service rest i z.keeper w.keeper (so_far records service past z mid) (so_far records service past w after)) id h.0.0),
      h.0.1,
    ),
    h.1,
  )

-- the same of what it answers
pub ends_if : {K : Type 0} {records : K → List (List ℕ)} {gives : K → List ℕ → Answer → K → Type 0} {faults : K → ℕ} {service : Declarations} (past : List Value) {whole rest : CallHere → CallHere} (x z w : NodeValue K) (before mid after : Draft) {E : Type 0} (end : Result Going E) → z.id ≡ x.id
    → Leads records gives faults service whole rest x.keeper z.keeper (so_far records service past x before) (so_far records service past z mid)
    → IfOk end (Ends records gives faults service past rest z w mid after) → IfOk end (Ends records gives faults service past whole x w before after)
ends_if past x z w before mid after (Ok going) id l h = ends_then x z before mid after going id l h
ends_if past x z w before mid after (Err e) id l h = tt
