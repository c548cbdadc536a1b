-- The least of the codes that fit, over what they fit.
use Rattle.std.proofs.Common.{◌≡◌, zero, suc, ◌<◌, ◌≤◌, ◌⊎◌, ◌++◌, List, [], ◌∷◌, get_or, Option, Some, None, Bool, true, false, refl, sym, ap, subst, ◌∙◌, arith, inl, inr}
use Rattle.std.specs.Bool.{Decides}
use Rattle.std.specs.List.{Any}
use Rattle.rex_parse.specs.Words.{least, lesser, rank, fits}
use Rattle.rex_parse.specs.LeastCode.{IsLeastOf}
use Rattle.rex_parse.specs.declared.language.ServiceCode.{ServiceCode}
use Rattle.rex_parse.specs.declared.language.ServiceCode.TheVariants.{BadByte, Misplaced, BadForm, NoName, NoNumber, BadExpression, Undeclared, WrongKind, Taken, TooDeep, TooMany, LanesFirst, ReplyInBlock, Unended}
use Rattle.rex_parse.proofs.WeighsBy.{WeighsBy, by_same, least_by}
use Rattle.rex_parse.proofs.Weighing.{cases_le, lesser_le, lesser_gt}

-- what is answered is the least of these codes, or none where there is none
abbrev pub Weighs : (ServiceCode → Type 0) → Option ServiceCode → Type 0
Weighs P o = WeighsBy rank P o

-- codes that are the same are weighed alike
pub weighs_same : (P Q : ServiceCode → Type 0) (o : Option ServiceCode) → ((c : ServiceCode) → P c → Q c) → ((c : ServiceCode) → Q c → P c) → Weighs P o → Weighs Q o
weighs_same P Q o to from h = by_same rank P Q o to from h

both_by : (P Q : ServiceCode → Type 0) (a b : ServiceCode) → (rank a ≤ rank b) ⊎ (rank b < rank a) → Weighs P (Some a) → Weighs Q (Some b) → Weighs (λ c. P c ⊎ Q c) (Some (lesser a b))
both_by P Q a b (inl le) p q =
    rw (lesser_le a b le) (inl p.0, λ d h. elim h [ inl x ↦ p.1 d x | inr y ↦ let far : rank b ≤ rank d = q.1 d y in omega arith ])
both_by P Q a b (inr gt) p q =
    rw (lesser_gt a b gt) (inr q.0, λ d h. elim h [ inl x ↦ let far : rank a ≤ rank d = p.1 d x in omega arith | inr y ↦ q.1 d y ])

-- the least of both is the least of all
pub weighs_both : (P Q : ServiceCode → Type 0) (x y : Option ServiceCode) → Weighs P x → Weighs Q y → Weighs (λ c. P c ⊎ Q c) (least x y)
weighs_both P Q None None p q = λ c h. elim h [ inl x ↦ p c x | inr y ↦ q c y ]
weighs_both P Q None (Some b) p q = (inr q.0, λ d h. elim h [ inl x ↦ absurd (p d x) | inr y ↦ q.1 d y ])
weighs_both P Q (Some a) None p q = (inl p.0, λ d h. elim h [ inl x ↦ p.1 d x | inr y ↦ absurd (q d y) ])
weighs_both P Q (Some a) (Some b) p q = both_by P Q a b (cases_le (rank a) (rank b)) p q

-- a code that fits where a test holds
pub weighs_test : (P : Type 0) (b : Bool) (c : ServiceCode) → Decides b P → Weighs (λ d. (d ≡ c) × P) (fits b c)
weighs_test P true c h = ((refl, h.0 refl), λ d e. rw e.0 (omega arith))
weighs_test P false c h = λ d e. absurd (let t : false ≡ true = h.1 e.1 in cc)

-- ---- the answer

by_number : List ServiceCode
by_number = Unended ∷ BadByte ∷ Misplaced ∷ BadForm ∷ NoName ∷ NoNumber ∷ BadExpression ∷ Undeclared ∷ WrongKind ∷ Taken ∷ TooDeep ∷ TooMany ∷ LanesFirst ∷ ReplyInBlock ∷ Unended ∷ []

back : (c : ServiceCode) → get_or by_number (rank c) Unended ≡ c
unfolding by_number
back BadByte = refl
back Misplaced = refl
back BadForm = refl
back NoName = refl
back NoNumber = refl
back BadExpression = refl
back Undeclared = refl
back WrongKind = refl
back Taken = refl
back TooDeep = refl
back TooMany = refl
back LanesFirst = refl
back ReplyInBlock = refl
back Unended = refl

-- two codes with one number are one
rank_is : (c d : ServiceCode) → rank c ≡ rank d → c ≡ d
rank_is c d e = sym (back c) ∙ ap (λ n. get_or by_number n Unended) e ∙ back d

-- what is weighed is the least
pub least_of : (P : ServiceCode → Type 0) (o : Option ServiceCode) → Weighs P o → IsLeastOf rank P o
least_of P o h = least_by rank rank_is P o h

-- ---- of lists

-- P holds of one of these
abbrev pub Somewhere : {X : Type 0} → (X → Type 0) → List X → Type 0
Somewhere P [] = ⊥
Somewhere P (x ∷ xs) = P x ⊎ Somewhere P xs

pub any_from : {X : Type 0} (P : X → Type 0) (xs : List X) → Somewhere P xs → Any P xs
any_from P [] h = absurd h
any_from P (x ∷ xs) (inl p) = (0, x, omega arith, refl, p)
any_from P (x ∷ xs) (inr h) = let i : Any P xs = any_from P xs h in (suc i.0, i.1, omega (arith, i.2), i.3, i.4)

pub any_to : {X : Type 0} (P : X → Type 0) (xs : List X) → Any P xs → Somewhere P xs
any_to P [] h = absurd (omega (arith, h.2))
any_to P (x ∷ xs) (zero, y, lt, e, p) = inl (subst P (sym e) p)
any_to P (x ∷ xs) (suc k, y, lt, e, p) = inr (any_to P xs (k, y, omega arith, e, p))

pub somewhere_more : {X : Type 0} (P : X → Type 0) (xs ys : List X) → Somewhere P xs ⊎ Somewhere P ys → Somewhere P (xs ++ ys)
somewhere_more P [] ys (inl h) = absurd h
somewhere_more P [] ys (inr h) = h
somewhere_more P (x ∷ xs) ys (inl h) = elim h [ inl p ↦ inl p | inr r ↦ inr (somewhere_more P xs ys (inl r)) ]
somewhere_more P (x ∷ xs) ys (inr h) = inr (somewhere_more P xs ys (inr h))

pub somewhere_parts : {X : Type 0} (P : X → Type 0) (xs ys : List X) → Somewhere P (xs ++ ys) → Somewhere P xs ⊎ Somewhere P ys
somewhere_parts P [] ys h = inr h
somewhere_parts P (x ∷ xs) ys (inl p) = inl (inl p)
somewhere_parts P (x ∷ xs) ys (inr h) = elim (somewhere_parts P xs ys h) [ inl p ↦ inl (inr p) | inr q ↦ inr q ]
