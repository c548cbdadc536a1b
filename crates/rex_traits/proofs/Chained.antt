-- Appends one after the other are one chain.
use Rattle.std.proofs.Common.{◌≡◌, ℕ, List, [], ◌∷◌, ◌++◌, Ok, Err, refl, subst}
use Rattle.std.specs.Prelude.{MatchResult}
use Rattle.rex_traits.specs.declared.keeper.KeepFault.{KeepFault}
use Rattle.rex_traits.specs.Chains.{Answer, AppendsInTurn, AreChained}

abbrev done : Answer
done = Ok tt

abbrev failed : KeepFault → Answer
failed fault = Err fault

module _ {K : Type 0} (gives : K → List ℕ → Answer → K → Type 0) where
  one : (old new : K) (bytes : List ℕ) (result : Answer) → gives old bytes result new → AppendsInTurn gives old (bytes ∷ []) result new
  one old new bytes (Ok x) h = (Ok x, new, h, (refl, refl))
  one old new bytes (Err fault) h = (Err fault, new, h, (refl, refl))

  more : (old between new : K) (first later : List (List ℕ)) (result : Answer) → AppendsInTurn gives old first done between → AppendsInTurn gives between later result new → AppendsInTurn gives old (first ++ later) result new
  more old between new [] later result h rest = subst (λ (k : K). AppendsInTurn gives k later result new) h.1 rest
  more old between new (bytes ∷ first) later result h rest = by h.0 h.1 h.2 (λ k chain. more k between new first later result chain rest) h.3
    where
      by : (answer : Answer) (k : K) → gives old bytes answer k → ((j : K) → AppendsInTurn gives j first done between → AppendsInTurn gives j (first ++ later) result new) → MatchResult answer (λ _. AppendsInTurn gives k first done between) (λ e. (done ≡ Err e) × (between ≡ k)) → AppendsInTurn gives old (bytes ∷ (first ++ later)) result new
      by (Ok x) k g next chain = (Ok x, k, g, next k chain)
      by (Err e) k g next end = absurd (let no : done ≡ failed e = end.0 in cc)

  ended : (old new : K) (first later : List (List ℕ)) (fault : KeepFault) → AppendsInTurn gives old first (failed fault) new → AppendsInTurn gives old (first ++ later) (failed fault) new
  ended old new [] later fault h = absurd (let no : failed fault ≡ done = h.0 in cc)
  ended old new (bytes ∷ first) later fault h = by h.0 h.1 h.2 (λ k chain. ended k new first later fault chain) h.3
    where
      by : (answer : Answer) (k : K) → gives old bytes answer k → ((j : K) → AppendsInTurn gives j first (failed fault) new → AppendsInTurn gives j (first ++ later) (failed fault) new) → MatchResult answer (λ _. AppendsInTurn gives k first (failed fault) new) (λ e. (failed fault ≡ Err e) × (new ≡ k)) → AppendsInTurn gives old (bytes ∷ (first ++ later)) (failed fault) new
      by (Ok x) k g next chain = (Ok x, k, g, next k chain)
      by (Err e) k g next end = (Err e, k, g, end)

  pub chained : AreChained gives
  chained = record { one = one; more = more; ended = ended }
