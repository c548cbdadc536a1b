-- The least of the codes that fit the slots of a line.
use Rattle.std.proofs.Common.{◌≡◌, ℕ, zero, suc, ◌<◌, ◌≤◌, ◌⊎◌, ◌++◌, List, [], ◌∷◌, length, Option, refl, sym, subst, arith, inl, inr}
use Rattle.std.specs.Prelude.{is_some, nat_lt}
use Rattle.std.proofs.lemmas.Bool.Decides.{Decides-ltb}
use Rattle.rex_text.specs.Text.{Word}
use Rattle.rex_parse.specs.Words.{least, fits, rank}
use Rattle.rex_parse.specs.Table.{Slot, Fixed, Count, Number, New, Heading, LockName, LockOf, SemaphoreName, ConditionName, VariableName, LocalName, Expression, count_of, operand_code, operator_code, expr_code, whole_expr_code, new_code, parameters_code, heading_code, slot_code, slots_code}
use Rattle.rex_parse.specs.Fitting.{Kind, AnyLock, LockOfKind, ASemaphore, ACondition, AVariable, ALocal, NumberFrom, SignedNumber, NameOf, NewName, Operand, Operator, Place, At, Whole, term_places, new_places, slot_places, places, IsEven}
use Rattle.rex_parse.specs.declared.language.Above.{Above}
use Rattle.rex_parse.specs.declared.language.ServiceCode.{ServiceCode}
use Rattle.rex_parse.specs.declared.language.ServiceCode.TheVariants.{BadExpression}
use Rattle.rex_parse.proofs.Weighed.{Weighs, weighs_same, weighs_both, weighs_test, somewhere_more, somewhere_parts}
use Rattle.rex_parse.proofs.PlacesWeighed.{FitsPlace, FitsPlaces, count_by, signed, new_place, first_new, named, name_code, operand, operator, lock_place, lock_of_place, semaphore_place, condition_place, variable_place, local_place}

-- one place alone
alone : (a : Above) (p : Place) (o : Option ServiceCode) → Weighs (FitsPlace a p) o → Weighs (FitsPlaces a (p ∷ [])) o
alone a p o h = weighs_same (FitsPlace a p) (FitsPlaces a (p ∷ [])) o (λ c f. inl f) (λ c f. elim f [ inl x ↦ x | inr y ↦ absurd y ]) h

-- ---- an expression

-- an expression of so many words has an even number of them
abbrev FitsEven : ℕ → ServiceCode → Type 0
FitsEven n c = (c ≡ BadExpression) × IsEven n

even_none : IsEven 0
even_none = (0, refl)

one_odd : IsEven 1 → ⊥
one_odd (k, e) = omega arith

even_more : (n : ℕ) → IsEven n → IsEven (suc (suc n))
even_more n (k, e) = (suc k, omega arith)

even_less : (n : ℕ) → IsEven (suc (suc n)) → IsEven n
even_less n (zero, e) = absurd (omega arith)
even_less n (suc k, e) = (k, omega arith)

empty_least : (a : Above) (d : ServiceCode) → FitsEven 0 d ⊎ FitsPlaces a [] d → rank BadExpression ≤ rank d
empty_least a d (inl h) = rw h.0 (omega arith)
empty_least a d (inr h) = absurd h

terms_to : (a : Above) (w o : Word) (ws : List Word) (c : ServiceCode) → (FitsPlace a (At Operand w) c ⊎ FitsPlace a (At Operator o) c) ⊎ (FitsEven (length ws) c ⊎ FitsPlaces a (term_places ws) c)
    → FitsEven (length (w ∷ o ∷ ws)) c ⊎ FitsPlaces a (term_places (w ∷ o ∷ ws)) c
terms_to a w o ws c (inl (inl h)) = inr (inl h)
terms_to a w o ws c (inl (inr h)) = inr (inr (inl h))
terms_to a w o ws c (inr (inl h)) = inl (h.0, even_more (length ws) h.1)
terms_to a w o ws c (inr (inr h)) = inr (inr (inr h))

terms_from : (a : Above) (w o : Word) (ws : List Word) (c : ServiceCode) → FitsEven (length (w ∷ o ∷ ws)) c ⊎ FitsPlaces a (term_places (w ∷ o ∷ ws)) c
    → (FitsPlace a (At Operand w) c ⊎ FitsPlace a (At Operator o) c) ⊎ (FitsEven (length ws) c ⊎ FitsPlaces a (term_places ws) c)
terms_from a w o ws c (inl h) = inr (inl (h.0, even_less (length ws) h.1))
terms_from a w o ws c (inr (inl h)) = inl (inl h)
terms_from a w o ws c (inr (inr (inl h))) = inl (inr h)
terms_from a w o ws c (inr (inr (inr h))) = inr (inr h)

terms_weighed : (a : Above) (ws : List Word) → Weighs (λ c. FitsEven (length ws) c ⊎ FitsPlaces a (term_places ws) c) (expr_code a ws)
unfolding expr_code
terms_weighed a [] = (inl (refl, even_none), empty_least a)
terms_weighed a (w ∷ []) =
    weighs_same (FitsPlace a (At Operand w)) (λ c. FitsEven 1 c ⊎ FitsPlaces a (term_places (w ∷ [])) c) (operand_code a w)
    (λ c h. inr (inl h)) (λ c h. elim h [ inl x ↦ absurd (one_odd x.1) | inr (inl y) ↦ y | inr (inr z) ↦ absurd z ]) (operand a w)
terms_weighed a (w ∷ o ∷ ws) =
    weighs_same _ (λ c. FitsEven (length (w ∷ o ∷ ws)) c ⊎ FitsPlaces a (term_places (w ∷ o ∷ ws)) c) (least (least (operand_code a w) (operator_code o)) (expr_code a ws))
    (terms_to a w o ws) (terms_from a w o ws)
    (weighs_both _ _ (least (operand_code a w) (operator_code o)) (expr_code a ws) (weighs_both _ _ (operand_code a w) (operator_code o) (operand a w) (operator a o)) (terms_weighed a ws))

whole_to : (a : Above) (n : ℕ) (spots : List Place) (c : ServiceCode) → ((c ≡ BadExpression) × (15 < n)) ⊎ (FitsEven n c ⊎ FitsPlaces a spots c) → FitsPlaces a (Whole n ∷ spots) c
whole_to a n spots c (inl h) = inl (subst (FitsPlace a (Whole n)) (sym h.0) (inr h.1))
whole_to a n spots c (inr (inl h)) = inl (subst (FitsPlace a (Whole n)) (sym h.0) (inl h.1))
whole_to a n spots c (inr (inr h)) = inr h

whole_place : (a : Above) (n : ℕ) (c : ServiceCode) → FitsPlace a (Whole n) c → (c ≡ BadExpression) × (IsEven n ⊎ (15 < n))
whole_place a n BadExpression h = (refl, h)
whole_place a n _ h = absurd h

whole_from : (a : Above) (n : ℕ) (spots : List Place) (c : ServiceCode) → FitsPlaces a (Whole n ∷ spots) c → ((c ≡ BadExpression) × (15 < n)) ⊎ (FitsEven n c ⊎ FitsPlaces a spots c)
whole_from a n spots c (inl h) =
    let parts : (c ≡ BadExpression) × (IsEven n ⊎ (15 < n)) = whole_place a n c h in
    elim parts.1 [ inl even ↦ inr (inl (parts.0, even)) | inr long ↦ inl (parts.0, long) ]
whole_from a n spots c (inr h) = inr (inr h)

expression : (a : Above) (ws : List Word) → Weighs (FitsPlaces a (Whole (length ws) ∷ term_places ws)) (whole_expr_code a ws)
expression a ws =
    weighs_same _ (FitsPlaces a (Whole (length ws) ∷ term_places ws)) (whole_expr_code a ws) (whole_to a (length ws) (term_places ws)) (whole_from a (length ws) (term_places ws))
    (weighs_both _ _ (fits (nat_lt 15 (length ws)) BadExpression) (expr_code a ws) (weighs_test (15 < length ws) (nat_lt 15 (length ws)) BadExpression (Decides-ltb 15 (length ws))) (terms_weighed a ws))

-- ---- a heading

parameters : (a : Above) (before ws : List Word) → Weighs (FitsPlaces a (new_places before ws)) (parameters_code a before ws)
parameters a before [] = λ c h. h
parameters a before (w ∷ ws) = weighs_both _ _ _ (parameters_code a (before ++ w ∷ []) ws) (new_place a before w) (parameters a (before ++ w ∷ []) ws)

new_alone : (a : Above) (w : Word) → Weighs (FitsPlace a (At (NewName []) w)) (new_code a w)
new_alone a w = subst (Weighs (FitsPlace a (At (NewName []) w))) (first_new a w) (new_place a [] w)

heading : (a : Above) (w : Word) (ws : List Word) → Weighs (FitsPlaces a (new_places [] (w ∷ ws))) (heading_code a w ws)
heading a w ws = weighs_both _ _ (new_code a w) (parameters_code a (w ∷ []) ws) (new_alone a w) (parameters a (w ∷ []) ws)

-- ---- slots

one_name : (a : Above) (kind : Kind) (w : Word) (o : Option ServiceCode) → name_code a kind w ≡ o → Weighs (FitsPlaces a (At (NameOf kind) w ∷ [])) o
one_name a kind w o e = alone a (At (NameOf kind) w) o (subst (Weighs (FitsPlace a (At (NameOf kind) w))) e (named a kind w))

slot : (a : Above) (s : Slot) (w : Word) (ws : List Word) → Weighs (FitsPlaces a (slot_places s w ws)) (slot_code a s w ws)
slot a (Fixed f) w ws = λ c h. h
slot a (Count low high) w ws = alone a (At (NumberFrom low high) w) _ (count_by a low high w (is_some (count_of low high w)) refl)
slot a Number w ws = alone a (At SignedNumber w) _ (signed a w)
slot a New w ws = alone a (At (NewName []) w) _ (new_alone a w)
slot a Heading w ws = heading a w ws
slot a LockName w ws = one_name a AnyLock w _ (lock_place a w)
slot a (LockOf kind) w ws = one_name a (LockOfKind kind) w _ (lock_of_place a kind w)
slot a SemaphoreName w ws = one_name a ASemaphore w _ (semaphore_place a w)
slot a ConditionName w ws = one_name a ACondition w _ (condition_place a w)
slot a VariableName w ws = one_name a AVariable w _ (variable_place a w)
slot a LocalName w ws = one_name a ALocal w _ (local_place a w)
slot a Expression w ws = expression a (w ∷ ws)

-- the places of the slots
pub slots_weighed : (a : Above) (ss : List Slot) (ws : List Word) → Weighs (FitsPlaces a (places ss ws)) (slots_code a ss ws)
slots_weighed a [] ws = λ c h. h
slots_weighed a (s ∷ ss) [] = λ c h. h
slots_weighed a (s ∷ ss) (w ∷ ws) =
    weighs_same _ (FitsPlaces a (slot_places s w ws ++ places ss ws)) (least (slot_code a s w ws) (slots_code a ss ws))
    (λ c. somewhere_more (λ p. FitsPlace a p c) (slot_places s w ws) (places ss ws)) (λ c. somewhere_parts (λ p. FitsPlace a p c) (slot_places s w ws) (places ss ws))
    (weighs_both _ _ (slot_code a s w ws) (slots_code a ss ws) (slot a s w ws) (slots_weighed a ss ws))
