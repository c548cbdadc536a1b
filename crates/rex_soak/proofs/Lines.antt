-- Texts as lines, and lines as words.
use Rattle.std.proofs.Common.{◌≡◌, ℕ, suc, zero, ◌+◌, ◌-◌, ◌<◌, ◌≤◌, Bool, true, false, eqb, ◌&&◌, not, List, [], ◌∷◌, ◌++◌, length, All, get_or, refl, ap, ◌∙◌, arith, append_assoc, length-append}
use Rattle.std.specs.Prelude.{nat_le}
use Rattle.std.specs.List.{list_all, filter, slice_split}
use Rattle.std.specs.Str.Lines.{lines_of_parts, strip_carriage_return}
use Rattle.std.proofs.lemmas.Bool.{and_parts, ne_eqb, leb-true, le-leb}
use Rattle.std.proofs.lemmas.List.Elements.{All-nil, All-cons}
use Rattle.std.proofs.lemmas.List.Folds.{list_all-append}
use Rattle.std.proofs.lemmas.List.Splits.{slice_split_at, slice_split_none, length-slice_split}
use Rattle.rex_text.specs.Text.{lines_of, words_of, is_blank, is_allowed}

-- a visible byte of ASCII
abbrev pub is_visible : ℕ → Bool
is_visible b = nat_le 33 b && nat_le b 126

-- such a byte, or a space
abbrev pub is_plain : ℕ → Bool
is_plain b = nat_le 32 b && nat_le b 126

-- one visible byte or more
pub record IsWord (w : List ℕ) : Type 0 where
  pub some : 0 < length w
  pub visible : list_all is_visible w ≡ true

-- what a test that holds of each visible byte says of visible bytes
pub weaker : (p q : ℕ → Bool) → ((b : ℕ) → p b ≡ true → q b ≡ true) → (w : List ℕ) → list_all p w ≡ true → list_all q w ≡ true
weaker p q h [] e = refl
weaker p q h (b ∷ bs) e = let f = and_parts (p b) (list_all p bs) e in rw (h b f.0, weaker p q h bs f.1) refl

pub none_pass : (p q : ℕ → Bool) → ((b : ℕ) → p b ≡ true → q b ≡ false) → (w : List ℕ) → list_all p w ≡ true → All (λ b. q b ≡ false) w
none_pass p q h [] e = All-nil (λ b. q b ≡ false)
none_pass p q h (b ∷ bs) e = let f = and_parts (p b) (list_all p bs) e in All-cons (λ b. q b ≡ false) b bs (h b f.0) (none_pass p q h bs f.1)

range : (lo hi b : ℕ) → (nat_le lo b && nat_le b hi) ≡ true → (lo ≤ b) × (b ≤ hi)
range lo hi b e = let f = and_parts (nat_le lo b) (nat_le b hi) e in (leb-true lo b f.0, leb-true b hi f.1)

pub in_range : (lo hi b : ℕ) → lo ≤ b → b ≤ hi → (nat_le lo b && nat_le b hi) ≡ true
in_range lo hi b l h = rw (le-leb lo b l, le-leb b hi h) refl

visible_plain : (b : ℕ) → is_visible b ≡ true → is_plain b ≡ true
visible_plain b e = let r = range 33 126 b e in in_range 32 126 b (omega (arith, r.0)) r.1

plain_allowed : (b : ℕ) → is_plain b ≡ true → is_allowed b ≡ true
plain_allowed b e = rw e refl

plain_no_end : (b : ℕ) → is_plain b ≡ true → eqb b 10 ≡ false
plain_no_end b e = let r = range 32 126 b e in ne_eqb b 10 (λ z. omega (arith, r.0))

visible_no_blank : (b : ℕ) → is_visible b ≡ true → is_blank b ≡ false
visible_no_blank b e = let r = range 33 126 b e in rw (ne_eqb b 32 (λ z. omega (arith, r.0)), ne_eqb b 9 (λ z. omega (arith, r.0))) refl

-- ---- lines

no_return : (w : List ℕ) (i : ℕ) → list_all is_plain w ≡ true → eqb (get_or w i 0) 13 ≡ false
no_return [] i e = refl
no_return (b ∷ bs) zero e = let f = and_parts (is_plain b) (list_all is_plain bs) e in let r = range 32 126 b f.0 in ne_eqb b 13 (λ z. omega (arith, r.0))
no_return (b ∷ bs) (suc i) e = no_return bs i ((and_parts (is_plain b) (list_all is_plain bs) e).1)

unstripped : (w : List ℕ) → list_all is_plain w ≡ true → strip_carriage_return w ≡ w
unstripped w e = rw (no_return w (length w - 1) e) refl

parts_cons : (x : List ℕ) (parts : List (List ℕ)) → 0 < length parts → lines_of_parts (x ∷ parts) ≡ strip_carriage_return x ∷ lines_of_parts parts
parts_cons x [] l = absurd (omega arith)
parts_cons x (y ∷ more) l = refl

-- a plain line and a LF are taken off a text
pub line_cut : (w rest : List ℕ) → list_all is_plain w ≡ true → lines_of (w ++ 10 ∷ rest) ≡ w ∷ lines_of rest
line_cut w rest e =
    let p : ℕ → Bool = λ b. eqb b 10 in
    ap lines_of_parts (slice_split_at p w 10 rest (none_pass is_plain p plain_no_end w e) refl)
    ∙ parts_cons w (slice_split p rest) (omega (arith, length-slice_split p rest))
    ∙ ap (λ x. x ∷ lines_of rest) (unstripped w e)

-- the bytes of a plain line are allowed
pub plain_clean : (w : List ℕ) → list_all is_plain w ≡ true → list_all is_allowed w ≡ true
plain_clean w e = weaker is_plain is_allowed plain_allowed w e

-- ---- words

kept : (w : List ℕ) (ws : List (List ℕ)) → 0 < length w → filter (λ w. not (eqb (length w) 0)) (w ∷ ws) ≡ w ∷ filter (λ w. not (eqb (length w) 0)) ws
kept w ws some = rw (ne_eqb (length w) 0 (λ z. omega arith)) refl

-- a word and a space are taken off a line
pub word_cut : (w rest : List ℕ) → IsWord w → words_of (w ++ 32 ∷ rest) ≡ w ∷ words_of rest
word_cut w rest h =
    ap (filter (λ w. not (eqb (length w) 0))) (slice_split_at is_blank w 32 rest (none_pass is_visible is_blank visible_no_blank w h.visible) refl)
    ∙ kept w (slice_split is_blank rest) h.some

-- the last word
pub last_word : (w : List ℕ) → IsWord w → words_of w ≡ w ∷ []
last_word w h =
    ap (filter (λ w. not (eqb (length w) 0))) (slice_split_none is_blank w (none_pass is_visible is_blank visible_no_blank w h.visible))
    ∙ kept w [] h.some

pub plain_word : (w : List ℕ) → IsWord w → list_all is_plain w ≡ true
plain_word w h = weaker is_visible is_plain visible_plain w h.visible

-- ---- words with a space between each two

abbrev pub AreWords : List (List ℕ) → Type 0
AreWords [] = Unit {0}
AreWords (w ∷ ws) = IsWord w × AreWords ws

abbrev pub spaced : List (List ℕ) → List ℕ
spaced [] = []
spaced (w ∷ []) = w
spaced (w ∷ v ∷ ws) = w ++ 32 ∷ spaced (v ∷ ws)

pub spaced_words : (ws : List (List ℕ)) → AreWords ws → words_of (spaced ws) ≡ ws
spaced_words [] h = refl
spaced_words (w ∷ []) h = last_word w h.0
spaced_words (w ∷ v ∷ ws) h = word_cut w (spaced (v ∷ ws)) h.0 ∙ ap (λ x. w ∷ x) (spaced_words (v ∷ ws) h.1)

pub spaced_plain : (ws : List (List ℕ)) → AreWords ws → list_all is_plain (spaced ws) ≡ true
spaced_plain [] h = refl
spaced_plain (w ∷ []) h = plain_word w h.0
spaced_plain (w ∷ v ∷ ws) h = rw (list_all-append is_plain w (32 ∷ spaced (v ∷ ws)), plain_word w h.0, spaced_plain (v ∷ ws) h.1) refl

-- the bytes of the words, each with the byte after it
abbrev pub size : List (List ℕ) → ℕ
size [] = 0
size (w ∷ ws) = length w + 1 + size ws

pub length-spaced : (w : List ℕ) (ws : List (List ℕ)) → length (spaced (w ∷ ws) ++ 10 ∷ []) ≡ size (w ∷ ws)
length-spaced w [] = omega (arith, length-append w (10 ∷ []))
length-spaced w (v ∷ ws) =
    let a = append_assoc w (32 ∷ spaced (v ∷ ws)) (10 ∷ []) in
    ap length a ∙ omega (arith, length-append w (32 ∷ (spaced (v ∷ ws) ++ 10 ∷ [])), length-spaced v ws)
