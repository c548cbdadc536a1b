-- Words that keys own, and their numbers.
use Rattle.std.proofs.Common.{◌≡◌, ℕ, ◌+◌, ◌<◌, Bool, true, false, cond, eqb, List, [], ◌∷◌, ◌++◌, length, map, Option, Some, refl, sym, ap, ◌∙◌, arith}
use Rattle.std.specs.Prelude.{option_map, position}
use Rattle.std.specs.List.{list_any, position_or_len}
use Rattle.std.specs.Str.{bytes_eq}
use Rattle.std.proofs.lemmas.Bool.{lt-ltb}
use Rattle.std.proofs.lemmas.List.{length-map, length-append, map-append}
use Rattle.std.proofs.lemmas.List.Folds.{position_or_len_push}
use Rattle.std.proofs.lemmas.Slice.Eq.{bytes_eq-Decides}
use Rattle.rex_syntax.specs.Names.{number_of, with_word}

same_by : (a b : Bool) → (a ≡ true → b ≡ true) → (b ≡ true → a ≡ true) → a ≡ b
same_by true b f g = sym (f refl)
same_by false true f g = g refl
same_by false false f g = refl

-- bytes are compared alike from both sides
pub bytes_eq_sym : (a b : List ℕ) → bytes_eq a b ≡ bytes_eq b a
bytes_eq_sym a b =
    same_by (bytes_eq a b) (bytes_eq b a) (λ e. (bytes_eq-Decides b a).1 (sym ((bytes_eq-Decides a b).0 e))) (λ e. (bytes_eq-Decides a b).1 (sym ((bytes_eq-Decides b a).0 e)))

-- ---- a test of words as one of keys

module _ {K : Type 0} (word_of : K → List ℕ) (p : List ℕ → Bool) (q : K → Bool) (same : (k : K) → p (word_of k) ≡ q k) where
  pub place_of_keys : (ks : List K) → position_or_len p (map word_of ks) ≡ position_or_len q ks
  place_of_keys [] = refl
  place_of_keys (k ∷ ks) = rw (same k, place_of_keys ks) refl

  pub any_of_keys : (ks : List K) → list_any p (map word_of ks) ≡ list_any q ks
  any_of_keys [] = refl
  any_of_keys (k ∷ ks) = rw (same k, any_of_keys ks) refl

  pub position_of_keys : (ks : List K) → position p (map word_of ks) ≡ position q ks
  position_of_keys ks = rw (place_of_keys ks, length-map ks word_of) refl

-- ---- the number after an insertion

within_by : (p : List ℕ → Bool) (w : List ℕ) (ws : List (List ℕ)) (b : Bool) → p w ≡ b → (list_any p ws ≡ true → position_or_len p ws < length ws)
    → list_any p (w ∷ ws) ≡ true → position_or_len p (w ∷ ws) < length (w ∷ ws)
within_by p w ws true e more any = rw e (omega arith)
within_by p w ws false e more any =
    let rest : list_any p ws ≡ true = rw e at any in
    let h : position_or_len p ws < length ws = more rest in
    rw e (omega arith)

any_within : (p : List ℕ → Bool) (ws : List (List ℕ)) → list_any p ws ≡ true → position_or_len p ws < length ws
any_within p [] any = absurd cc
any_within p (w ∷ ws) any = within_by p w ws (p w) refl (λ e. any_within p ws e) any

past_by : (p : List ℕ → Bool) (w : List ℕ) (ws : List (List ℕ)) (b : Bool) → p w ≡ b → (list_any p ws ≡ false → position_or_len p ws ≡ length ws)
    → list_any p (w ∷ ws) ≡ false → position_or_len p (w ∷ ws) ≡ length (w ∷ ws)
past_by p w ws true e more none = let h : true ≡ false = rw e at none in absurd cc
past_by p w ws false e more none =
    let rest : list_any p ws ≡ false = rw e at none in
    let h : position_or_len p ws ≡ length ws = more rest in
    rw e (omega arith)

none_past : (p : List ℕ → Bool) (ws : List (List ℕ)) → list_any p ws ≡ false → position_or_len p ws ≡ length ws
none_past p [] none = refl
none_past p (w ∷ ws) none = past_by p w ws (p w) refl (λ e. none_past p ws e) none

placed_by : (p : List ℕ → Bool) (ws : List (List ℕ)) (w : List ℕ) (b : Bool) → p w ≡ true → list_any p ws ≡ b → position p (cond b ws (ws ++ w ∷ [])) ≡ Some (position_or_len p ws)
placed_by p ws w true is any = rw (lt-ltb _ _ (any_within p ws any)) refl
placed_by p ws w false is any =
    let past : position_or_len p ws ≡ length ws = none_past p ws any in
    let at : position_or_len p (ws ++ w ∷ []) ≡ length ws = position_or_len_push p ws w ∙ pushed (position_or_len p ws) (length ws) (p w) past is in
    let long : length (ws ++ w ∷ []) ≡ length ws + 1 = length-append ws (w ∷ []) in
    let lt : length ws < length ws + 1 = omega arith in
    rw (at, long, lt-ltb _ _ lt, past) refl
  where
    pushed : (n m : ℕ) (b : Bool) → n ≡ m → b ≡ true → cond (eqb n m) (m + cond b 0 1) n ≡ m
    pushed n m b e t = elim (eqb n m) as (λ v. cond v (m + cond b 0 1) n ≡ m) [ true ↦ rw t (omega arith) | false ↦ e ]

-- the number of a word after its insertion
pub number_after : (ws : List (List ℕ)) (w : List ℕ) → number_of (with_word ws w) w ≡ Some (position_or_len (λ x. bytes_eq x w) ws + 1)
number_after ws w =
    ap (λ (o : Option ℕ). option_map (λ place. place + 1) o) (placed_by (λ x. bytes_eq x w) ws w (list_any (λ x. bytes_eq x w) ws) ((bytes_eq-Decides w w).1 refl) refl)

-- ---- keys that own their words

module _ {K : Type 0} (word_of : K → List ℕ) where
  pub got : (ks : List K) (words : List (List ℕ)) (word : List ℕ) (found : Option ℕ) → map word_of ks ≡ words → found ≡ position (λ k. bytes_eq word (word_of k)) ks
      → option_map (λ place. place + 1) found ≡ number_of words word
  got ks words word found view is =
      rw (← view, position_of_keys word_of (λ w. bytes_eq w word) (λ k. bytes_eq word (word_of k)) (λ k. bytes_eq_sym (word_of k) word) ks, is) refl

  pub inserted : (eq : K → Bool) (ks : List K) (own : K) (words : List (List ℕ)) (word : List ℕ) → map word_of ks ≡ words → word_of own ≡ word
      → ((k : K) → eq k ≡ bytes_eq word (word_of k)) → map word_of (cond (list_any eq ks) ks (ks ++ own ∷ [])) ≡ with_word words word
  inserted eq ks own words word view own_is same =
      let any : list_any (λ w. bytes_eq w word) (map word_of ks) ≡ list_any eq ks = any_of_keys word_of (λ w. bytes_eq w word) eq (λ k. bytes_eq_sym (word_of k) word ∙ sym (same k)) ks in
      rw (← view, any) (joined (list_any eq ks) ks own word own_is)
    where
      joined : (b : Bool) (ks : List K) (own : K) (word : List ℕ) → word_of own ≡ word → map word_of (cond b ks (ks ++ own ∷ [])) ≡ cond b (map word_of ks) (map word_of ks ++ word ∷ [])
      joined true ks own word e = refl
      joined false ks own word e = rw (map-append, e) refl

  pub inserted_at : (eq : K → Bool) (ks : List K) (words : List (List ℕ)) (word : List ℕ) (index : ℕ) → map word_of ks ≡ words
      → ((k : K) → eq k ≡ bytes_eq word (word_of k)) → index ≡ position_or_len eq ks → number_of (with_word words word) word ≡ Some (index + 1)
  inserted_at eq ks words word index view same is =
      let at : position_or_len (λ w. bytes_eq w word) (map word_of ks) ≡ position_or_len eq ks = place_of_keys word_of (λ w. bytes_eq w word) eq (λ k. bytes_eq_sym (word_of k) word ∙ sym (same k)) ks in
      rw is (number_after words word ∙ ap (λ (n : ℕ). Some (n + 1)) (rw (← view) at))
