-- Lists in which nothing stands twice, and their rearrangements.
use Rattle.std.proofs.Common.{◌≡◌, ◌⊎◌, inl, inr, ⊎_elim, Bool, true, false, cond, List, [], ◌∷◌, ◌++◌, refl, sym, ap, ◌∙◌, subst}
use Rattle.std.specs.List.{filter}
use Rattle.std.proofs.lemmas.Bool.{true≢false}
use Rattle.rex_event.specs.Order.{Has, Precedes, Chain}
use Rattle.rex_clocks.proofs.Leads.{precedes_second, has_right, has_parts}

module _ {X : Type 0} where
  -- ---- places

  pub has_more : (ps qs : List X) (f y : X) → Has y (ps ++ qs) → Has y (ps ++ f ∷ qs)
  has_more [] qs f y h = inr h
  has_more (p ∷ ps) qs f y (inl e) = inl e
  has_more (p ∷ ps) qs f y (inr h) = inr (has_more ps qs f y h)

  pub has_less : (ps qs : List X) (f y : X) → Has y (ps ++ f ∷ qs) → (f ≡ y) ⊎ Has y (ps ++ qs)
  has_less [] qs f y h = h
  has_less (p ∷ ps) qs f y (inl e) = inr (inl e)
  has_less (p ∷ ps) qs f y (inr h) = ⊎_elim (λ (e : f ≡ y). inl e) (λ (k : Has y (ps ++ qs)). inr (inr k)) (has_less ps qs f y h)

  pub precedes_more : (ps qs : List X) (f x y : X) → Precedes x y (ps ++ qs) → Precedes x y (ps ++ f ∷ qs)
  precedes_more [] qs f x y h = inr h
  precedes_more (p ∷ ps) qs f x y (inl h) = inl (h.0, has_more ps qs f y h.1)
  precedes_more (p ∷ ps) qs f x y (inr h) = inr (precedes_more ps qs f x y h)

  pub precedes_right : (ps qs : List X) (x y : X) → Precedes x y qs → Precedes x y (ps ++ qs)
  precedes_right [] qs x y h = h
  precedes_right (p ∷ ps) qs x y h = inr (precedes_right ps qs x y h)

  pub precedes_parts : (ps qs : List X) (x y : X) → Precedes x y (ps ++ qs) → Precedes x y ps ⊎ ((Has x ps × Has y qs) ⊎ Precedes x y qs)
  precedes_parts [] qs x y h = inr (inr h)
  precedes_parts (p ∷ ps) qs x y (inl h) = first_parts ps h.1
    where
      first_parts : (ps : List X) → Has y (ps ++ qs) → Precedes x y (p ∷ ps) ⊎ ((Has x (p ∷ ps) × Has y qs) ⊎ Precedes x y qs)
      first_parts ps k = ⊎_elim (λ (a : Has y ps). inl (inl (h.0, a))) (λ (b : Has y qs). inr (inl (inl h.0, b))) (has_parts y ps qs k)
  precedes_parts (p ∷ ps) qs x y (inr h) =
      ⊎_elim (λ (a : Precedes x y ps). inl (inr a))
      (λ b. ⊎_elim (λ (c : Has x ps × Has y qs). inr (inl (inr c.0, c.1))) (λ (c : Precedes x y qs). inr (inr c)) b)
      (precedes_parts ps qs x y h)

  -- ---- nothing twice

  -- nothing stands twice in the list
  abbrev pub NoneTwice : List X → Type 0
  NoneTwice [] = Unit {0}
  NoneTwice (x ∷ xs) = (Has x xs → ⊥) × NoneTwice xs

  pub none_again : (ps qs : List X) (f : X) → NoneTwice (ps ++ f ∷ qs) → Has f (ps ++ qs) → ⊥
  none_again [] qs f n h = n.0 h
  none_again (p ∷ ps) qs f n (inl e) = n.0 (has_right p ps (f ∷ qs) (inl (sym e)))
  none_again (p ∷ ps) qs f n (inr h) = none_again ps qs f n.1 h

  pub none_less : (ps qs : List X) (f : X) → NoneTwice (ps ++ f ∷ qs) → NoneTwice (ps ++ qs)
  none_less [] qs f n = n.1
  none_less (p ∷ ps) qs f n = (λ h. n.0 (has_more ps qs f p h), none_less ps qs f n.1)

  pub precedes_through : (xs : List X) (x y z : X) → NoneTwice xs → Precedes x y xs → Precedes y z xs → Precedes x z xs
  precedes_through [] x y z n h k = h
  precedes_through (w ∷ xs) x y z n (inl h) (inl k) = inl (h.0, k.1)
  precedes_through (w ∷ xs) x y z n (inl h) (inr k) = inl (h.0, precedes_second y z xs k)
  precedes_through (w ∷ xs) x y z n (inr h) (inl k) = absurd (n.0 (subst (λ (v : X). Has v xs) (sym k.0) (precedes_second x y xs h)))
  precedes_through (w ∷ xs) x y z n (inr h) (inr k) = inr (precedes_through xs x y z n.1 h k)

  -- steps that each go forward in the list go forward
  pub chain_forward : (S : X → X → Type 0) (xs : List X) (x z : X) (via : List X) → NoneTwice xs → ((a b : X) → S a b → Precedes a b xs) → Chain S x via z → Precedes x z xs
  chain_forward S xs x z [] n step h = step x z h
  chain_forward S xs x z (y ∷ via) n step h = precedes_through xs x y z n (step x y h.0) (chain_forward S xs y z via n step h.1)

  -- ---- the same elements

  -- two lists have the same elements, neither of them any twice
  pub record AreAlike (xs ys : List X) : Type 0 where
    pub to : (x : X) → Has x xs → Has x ys
    pub back : (x : X) → Has x ys → Has x xs
    pub none : NoneTwice xs
    pub other : NoneTwice ys

  -- an element with what stands before and behind it
  pub record Place (f : X) (xs : List X) : Type 0 where
    pub before : List X
    pub behind : List X
    pub is : xs ≡ before ++ f ∷ behind

  pub place_of : (f : X) (xs : List X) → Has f xs → Place f xs
  place_of f [] h = absurd h
  place_of f (x ∷ xs) (inl e) = record { before = []; behind = xs; is = ap (λ (y : X). y ∷ xs) e }
  place_of f (x ∷ xs) (inr h) = let p = place_of f xs h in record { before = x ∷ p.before; behind = p.behind; is = ap (◌∷◌ x) p.is }

  -- both lists without the first of the second one
  pub alike_less : (ps qs ys : List X) (f : X) → AreAlike (ps ++ f ∷ qs) (f ∷ ys) → AreAlike (ps ++ qs) ys
  alike_less ps qs ys f a = record {
    to = λ x h. ⊎_elim (λ (e : f ≡ x). absurd (none_again ps qs f a.none (subst (λ (v : X). Has v (ps ++ qs)) (sym e) h))) (λ (k : Has x ys). k) (a.to x (has_more ps qs f x h));
    back = λ x h. ⊎_elim (λ (e : f ≡ x). absurd (a.other.0 (subst (λ (v : X). Has v ys) (sym e) h))) (λ (k : Has x (ps ++ qs)). k) (has_less ps qs f x (a.back x (inr h)));
    none = none_less ps qs f a.none;
    other = a.other.1;
  }

  -- ---- part of a list

  module _ (keep : X → Bool) where
    there_by : (b : Bool) (y x : X) (xs : List X) → keep y ≡ b → (Has x (filter keep xs) → Has x xs × (keep x ≡ true)) → Has x (cond b (y ∷ filter keep xs) (filter keep xs)) → Has x (y ∷ xs) × (keep x ≡ true)
    there_by true y x xs k r (inl e) = (inl e, subst (λ (v : X). keep v ≡ true) e k)
    there_by true y x xs k r (inr h) = let w = r h in (inr w.0, w.1)
    there_by false y x xs k r h = let w = r h in (inr w.0, w.1)

    -- what is kept was there, and passes
    pub kept_there : (xs : List X) (x : X) → Has x (filter keep xs) → Has x xs × (keep x ≡ true)
    kept_there [] x h = absurd h
    kept_there (y ∷ xs) x h = there_by (keep y) y x xs refl (kept_there xs x) h

    kept_by : (b : Bool) (y x : X) (xs : List X) → keep y ≡ b → (Has x xs → Has x (filter keep xs)) → keep x ≡ true → Has x (y ∷ xs) → Has x (cond b (y ∷ filter keep xs) (filter keep xs))
    kept_by true y x xs k r t (inl e) = inl e
    kept_by true y x xs k r t (inr h) = inr (r h)
    kept_by false y x xs k r t (inl e) = absurd (true≢false (sym t ∙ ap keep (sym e) ∙ k))
    kept_by false y x xs k r t (inr h) = r h

    pub has_kept : (xs : List X) (x : X) → keep x ≡ true → Has x xs → Has x (filter keep xs)
    has_kept [] x t h = h
    has_kept (y ∷ xs) x t h = kept_by (keep y) y x xs refl (has_kept xs x t) t h

    order_by : (b : Bool) (z x y : X) (xs : List X) → keep z ≡ b → (Precedes x y xs → Precedes x y (filter keep xs)) → keep x ≡ true → keep y ≡ true → Precedes x y (z ∷ xs) → Precedes x y (cond b (z ∷ filter keep xs) (filter keep xs))
    order_by true z x y xs k r t u (inl h) = inl (h.0, has_kept xs y u h.1)
    order_by true z x y xs k r t u (inr h) = inr (r h)
    order_by false z x y xs k r t u (inl h) = absurd (true≢false (sym t ∙ ap keep (sym h.0) ∙ k))
    order_by false z x y xs k r t u (inr h) = r h

    -- two that are kept stay in their order
    pub precedes_kept : (xs : List X) (x y : X) → keep x ≡ true → keep y ≡ true → Precedes x y xs → Precedes x y (filter keep xs)
    precedes_kept [] x y t u h = h
    precedes_kept (z ∷ xs) x y t u h = order_by (keep z) z x y xs refl (precedes_kept xs x y t u) t u h

    order_back : (b : Bool) (z x y : X) (xs : List X) → (Precedes x y (filter keep xs) → Precedes x y xs) → Precedes x y (cond b (z ∷ filter keep xs) (filter keep xs)) → Precedes x y (z ∷ xs)
    order_back true z x y xs r (inl h) = inl (h.0, (kept_there xs y h.1).0)
    order_back true z x y xs r (inr h) = inr (r h)
    order_back false z x y xs r h = inr (r h)

    pub kept_precedes : (xs : List X) (x y : X) → Precedes x y (filter keep xs) → Precedes x y xs
    kept_precedes [] x y h = h
    kept_precedes (z ∷ xs) x y h = order_back (keep z) z x y xs (kept_precedes xs x y) h
