-- Steps that lead from one to another, and what stands before what in a list.
use Rattle.std.proofs.Common.{◌⊎◌, inl, inr, ⊎_elim, List, [], ◌∷◌, ◌++◌, refl}
use Rattle.std.specs.List.{All}
use Rattle.std.proofs.lemmas.List.Elements.{All-nil, All-cons}
use Rattle.rex_event.specs.Order.{Has, Precedes, Chain, IsLed}

-- ---- chains of steps

chain_joined : {X : Type 0} (S : X → X → Type 0) (d m e : X) (first second : List X) → Chain S d first m → Chain S m second e → Chain S d (first ++ m ∷ second) e
chain_joined S d m e [] second h k = (h, k)
chain_joined S d m e (y ∷ first) second h k = (h.0, chain_joined S y m e first second h.1 k)

chain_through : {X : Type 0} (R S : X → X → Type 0) (d e : X) (via : List X) → ((x y : X) → R x y → IsLed S x y) → Chain R d via e → IsLed S d e
chain_through R S d e [] step h = step d e h
chain_through R S d e (y ∷ via) step h =
    let a = step d y h.0 in
    let b = chain_through R S y e via step h.1 in
    (a.0 ++ y ∷ b.0, chain_joined S d y e a.0 b.0 a.1 b.1)

-- where each step of one kind leads by steps of another, a chain of the one does
pub leads_through : {X : Type 0} (R S : X → X → Type 0) → ((x y : X) → R x y → IsLed S x y) → (d e : X) → IsLed R d e → IsLed S d e
leads_through R S step d e h = chain_through R S d e h.0 step h.1

chain_back : {X : Type 0} (S : X → X → Type 0) (P : X → Type 0) (d e : X) (via : List X) → ((x y : X) → S x y → P y → P x) → Chain S d via e → P e → P d
chain_back S P d e [] step h p = step d e h p
chain_back S P d e (y ∷ via) step h p = step d y h.0 (chain_back S P y e via step h.1 p)

-- what each step hands back, a chain hands back
pub leads_back : {X : Type 0} (S : X → X → Type 0) (P : X → Type 0) → ((x y : X) → S x y → P y → P x) → (d e : X) → IsLed S d e → P e → P d
leads_back S P step d e h p = chain_back S P d e h.0 step h.1 p

-- ---- places in lists

pub precedes_first : {X : Type 0} (d e : X) (es : List X) → Precedes d e es → Has d es
precedes_first d e [] h = h
precedes_first d e (y ∷ es) (inl h) = inl h.0
precedes_first d e (y ∷ es) (inr h) = inr (precedes_first d e es h)

pub precedes_second : {X : Type 0} (d e : X) (es : List X) → Precedes d e es → Has e es
precedes_second d e [] h = h
precedes_second d e (y ∷ es) (inl h) = inr h.1
precedes_second d e (y ∷ es) (inr h) = inr (precedes_second d e es h)

pub has_left : {X : Type 0} (d : X) (xs ys : List X) → Has d xs → Has d (xs ++ ys)
has_left d [] ys h = absurd h
has_left d (x ∷ xs) ys (inl h) = inl h
has_left d (x ∷ xs) ys (inr h) = inr (has_left d xs ys h)

pub has_right : {X : Type 0} (d : X) (xs ys : List X) → Has d ys → Has d (xs ++ ys)
has_right d [] ys h = h
has_right d (x ∷ xs) ys h = inr (has_right d xs ys h)

pub has_parts : {X : Type 0} (d : X) (xs ys : List X) → Has d (xs ++ ys) → Has d xs ⊎ Has d ys
has_parts d [] ys h = inr h
has_parts d (x ∷ xs) ys (inl h) = inl (inl h)
has_parts d (x ∷ xs) ys (inr h) = ⊎_elim (λ (a : Has d xs). inl (inr a)) (λ (b : Has d ys). inr b) (has_parts d xs ys h)

-- what is in the first part stands before what is in the second
pub precedes_across : {X : Type 0} (d e : X) (xs ys : List X) → Has d xs → Has e ys → Precedes d e (xs ++ ys)
precedes_across d e [] ys h k = absurd h
precedes_across d e (x ∷ xs) ys (inl h) k = inl (h, has_right e xs ys k)
precedes_across d e (x ∷ xs) ys (inr h) k = inr (precedes_across d e xs ys h k)

pub precedes_left : {X : Type 0} (d e : X) (xs ys : List X) → Precedes d e xs → Precedes d e (xs ++ ys)
precedes_left d e [] ys h = absurd h
precedes_left d e (x ∷ xs) ys (inl h) = inl (h.0, has_left e xs ys h.1)
precedes_left d e (x ∷ xs) ys (inr h) = inr (precedes_left d e xs ys h)

-- what holds of whatever is among these holds of all
pub all_from_has : {X : Type 0} (P : X → Type 0) (xs : List X) → ((x : X) → Has x xs → P x) → All P xs
all_from_has P [] h = All-nil P
all_from_has P (x ∷ xs) h = All-cons P x xs (h x (inl refl)) (all_from_has P xs (λ y k. h y (inr k)))
