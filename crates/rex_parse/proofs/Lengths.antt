-- Words that are compared with those of their length alone.
use Rattle.std.proofs.Common.{◌≡◌, ℕ, ◌&&◌, ◌||◌, Bool, true, false, cond, List, [], ◌∷◌, length, Option, Some, None, refl, sym, ap, ◌∙◌, ◌≢◌, true≢false}
use Rattle.std.specs.Prelude.{◌==◌, find, option_map}
use Rattle.std.specs.List.{filter, list_any}
use Rattle.std.specs.Str.{bytes_eq}
use Rattle.std.proofs.lemmas.Bool.{eq-eqb, ne_eqb}
use Rattle.std.proofs.lemmas.Map.Views.{any-filter_same}
use Rattle.std.proofs.lemmas.Slice.Eq.{bytes_eq-Decides}
use Rattle.rex_text.specs.Text.{Word}
use Rattle.rex_parse.specs.Table.{form_of, forms}
use Rattle.rex_parse.specs.Words.{is_reserved, reserved}
use Rattle.rex_parse.specs.declared.language.Form.{Form}

-- how long the words of the language are
abbrev pub is_usual : ℕ → Bool
is_usual n = n == 2 || n == 3 || n == 4 || n == 5 || n == 6 || n == 7 || n == 9

among_kind : (p : Word → Bool) (w : Word) (rs : List Word) → list_any (λ r. bytes_eq r w) (filter p rs) ≡ (p w && list_any (λ r. bytes_eq r w) rs)
among_kind p w rs = any-filter_same (λ r. bytes_eq r w) p (p w) (λ k e. ap p ((bytes_eq-Decides k w).0 e)) rs

-- a word of the language is among those of its length
pub reserved_of : (n : ℕ) (w : Word) → length w ≡ n → list_any (λ r. bytes_eq r w) (filter (λ r. length r == n) reserved) ≡ is_reserved w
reserved_of n w e =
    let own : (length w == n) ≡ true = eq-eqb (length w) n e in
    among_kind (λ r. length r == n) w reserved ∙ ap (λ b. b && is_reserved w) own

-- a length that is none of these
other_length : (n : ℕ) → n ≢ 2 → n ≢ 3 → n ≢ 4 → n ≢ 5 → n ≢ 6 → n ≢ 7 → n ≢ 9 → is_usual n ≡ false
other_length n e2 e3 e4 e5 e6 e7 e9 = rw (ne_eqb n 2 e2, ne_eqb n 3 e3, ne_eqb n 4 e4, ne_eqb n 5 e5, ne_eqb n 6 e6, ne_eqb n 7 e7, ne_eqb n 9 e9) refl

-- a word of another length is none of them
pub none_reserved : (w : Word) → length w ≢ 2 → length w ≢ 3 → length w ≢ 4 → length w ≢ 5 → length w ≢ 6 → length w ≢ 7 → length w ≢ 9 → false ≡ is_reserved w
none_reserved w e2 e3 e4 e5 e6 e7 e9 =
    sym (among_kind (λ r. is_usual (length r)) w reserved ∙ ap (λ b. b && is_reserved w) (other_length (length w) e2 e3 e4 e5 e6 e7 e9))

none_either : (b : Bool) → cond {A = Option (Word × Form)} b None None ≡ None
none_either true = refl
none_either false = refl

-- one turn: where the entry is found, it is kept just where the word is
find_step : (kept own same : Bool) (f : Word × Form) (w : Word) (rest fs : List (Word × Form)) → (same ≡ true → kept ≡ own)
    → find (λ g. bytes_eq w g.0) rest ≡ cond own (find (λ g. bytes_eq w g.0) fs) None → bytes_eq w f.0 ≡ same
    → find (λ g. bytes_eq w g.0) (cond kept (f ∷ rest) rest) ≡ cond own (cond same (Some f) (find (λ g. bytes_eq w g.0) fs)) None
find_step true true true f w rest fs alike so_far is = rw is refl
find_step true true false f w rest fs alike so_far is = rw is so_far
find_step true false true f w rest fs alike so_far is = absurd (true≢false (alike refl))
find_step true false false f w rest fs alike so_far is = rw is so_far
find_step false true true f w rest fs alike so_far is = absurd (true≢false (sym (alike refl)))
find_step false false true f w rest fs alike so_far is = so_far
find_step false true false f w rest fs alike so_far is = so_far
find_step false false false f w rest fs alike so_far is = so_far

find_kind : (p : Word → Bool) (w : Word) (fs : List (Word × Form)) → find (λ f. bytes_eq w f.0) (filter (λ f. p f.0) fs) ≡ cond (p w) (find (λ f. bytes_eq w f.0) fs) None
find_kind p w [] = sym (none_either (p w))
find_kind p w (f ∷ fs) = find_step (p f.0) (p w) (bytes_eq w f.0) f w (filter (λ g. p g.0) fs) fs (λ e. sym (ap p ((bytes_eq-Decides w f.0).0 e))) (find_kind p w fs) refl

-- a first word of lines is among those of its length
pub form_among : (n : ℕ) (w : Word) → length w ≡ n → option_map (λ f. f.1) (find (λ f. bytes_eq w f.0) (filter (λ f. length f.0 == n) forms)) ≡ form_of w
form_among n w e =
    ap (λ o. option_map (λ f. f.1) o) (find_kind (λ r. length r == n) w forms ∙ ap (λ b. cond b (find (λ f. bytes_eq w f.0) forms) None) (eq-eqb (length w) n e))

-- a word of another length is none of them
pub none_begins : (w : Word) → length w ≢ 2 → length w ≢ 3 → length w ≢ 4 → length w ≢ 5 → length w ≢ 6 → length w ≢ 7 → length w ≢ 9 → None ≡ form_of w
none_begins w e2 e3 e4 e5 e6 e7 e9 =
    sym (ap (λ o. option_map (λ f. f.1) o) (find_kind (λ r. is_usual (length r)) w forms ∙ ap (λ b. cond b (find (λ f. bytes_eq w f.0) forms) None) (other_length (length w) e2 e3 e4 e5 e6 e7 e9)))
