-- The first line and the first word of a list of bytes.
use Rattle.std.proofs.Common.{◌≡◌, ℕ, suc, ◌+◌, ◌-◌, ◌<◌, ◌≤◌, Bool, true, false, cond, eqb, ltb, Option, Some, None, not, unwrap_or}
use Rattle.std.proofs.Common.{List, [], ◌∷◌, length, get_or, take, drop, All, refl, sym, ap, ◌∙◌, add-zero, arith, inl, inr}
use Rattle.std.specs.List.{filter, slice_split, position_or_len, before_first, after_first}
use Rattle.std.specs.Str.Lines.{lines, lines_of_parts, strip_carriage_return}
use Rattle.std.proofs.lemmas.List.{take_all, drop_more, get_or-drop, get_or-take, length-take, length-drop, nil_from_length, take_rest}
use Rattle.std.proofs.lemmas.List.Sums.{fails_before_first, passes_at_first, position_or_len_is, prefix_len-le-length}
use Rattle.std.proofs.lemmas.List.Splits.{slice_split_none, slice_split_first, slice_split-cons_yes, length-slice_split}
use Rattle.std.proofs.lemmas.Bool.{ne_eqb, cases_lt, lt-ltb, le-ltb, eq-eqb, eqb-true, eqb-false}
use Rattle.memchr.specs.Find.{IsFirstByte, is_byte}
use Rattle.rex_text.specs.Text.{is_blank, is_skipped, words_of}

-- ---- where the first byte that passes stands

-- `position` of std, or the length where it finds none
pub place_found : (p : ℕ → Bool) (bs : List ℕ) (found : Option ℕ) → found ≡ cond (ltb (position_or_len p bs) (length bs)) (Some (position_or_len p bs)) None
    → unwrap_or found (length bs) ≡ position_or_len p bs
place_found p bs found e = elim (cases_lt (position_or_len p bs) (length bs)) [
  | inl lt ↦ rw (e, lt-ltb _ _ lt) refl
  | inr ge ↦ rw (e, le-ltb _ _ ge) (omega (arith, prefix_len-le-length (λ x. not (p x)) bs))
]

-- the first byte that is the one looked for, or the length where there is none
pub first_place : (byte : ℕ) (bs : List ℕ) (found : Option ℕ) → IsFirstByte (is_byte byte) bs found
    → unwrap_or found (length bs) ≡ position_or_len (λ b. eqb b byte) bs
first_place byte bs None none =
    let before : (k : ℕ) → k < length bs → eqb (get_or bs k 0) byte ≡ false =
    λ k lt. ne_eqb (get_or bs k 0) byte (λ e. none k (omega arith) lt (eq-eqb _ _ e)) in
    sym (position_or_len_is (λ b. eqb b byte) bs (length bs) 0 (omega arith) before (λ lt. absurd (omega arith)))
first_place byte bs (Some place) here =
    let before : (k : ℕ) → k < place → eqb (get_or bs k 0) byte ≡ false =
    λ k lt. ne_eqb (get_or bs k 0) byte (λ e. here.0.before k (omega arith) lt (eq-eqb _ _ e)) in
    sym (position_or_len_is (λ b. eqb b byte) bs place 0 (omega (arith, here.0.high)) before (λ lt. here.1))

none_passes : (p : ℕ → Bool) (bs : List ℕ) → position_or_len p bs ≡ length bs → All (λ b. p b ≡ false) bs
none_passes p bs e i d lt = fails_before_first p bs i d (omega (arith, e))

drop_all : (n : ℕ) (bs : List ℕ) → length bs ≤ n → drop n bs ≡ []
drop_all n bs le = nil_from_length (drop n bs) (omega (arith, length-drop n bs))

pub pos_from_ne : (n : ℕ) → (n ≡ 0 → ⊥) → 0 < n
pos_from_ne n h = elim (cases_lt 0 n) [ inl lt ↦ lt | inr le ↦ absurd (h (omega arith)) ]

-- ---- lines

parts_cons : (x : List ℕ) (parts : List (List ℕ)) → 0 < length parts → lines_of_parts (x ∷ parts) ≡ strip_carriage_return x ∷ lines_of_parts parts
parts_cons x [] l = absurd (omega arith)
parts_cons x (y ∷ more) l = refl

-- bytes with no LF are one line, with any CR at its end
pub last_line : (bs : List ℕ) → position_or_len (λ b. eqb b 10) bs ≡ length bs → 0 < length bs → lines bs ≡ bs ∷ []
last_line bs e some =
    ap lines_of_parts (slice_split_none (λ b. eqb b 10) bs (none_passes (λ b. eqb b 10) bs e)) ∙ ap (λ t. cond t [] (bs ∷ [])) (ne_eqb (length bs) 0 (λ z. omega arith))

-- the bytes before the first LF are a line, and those behind it have the others
pub first_line_is : (bs : List ℕ) (n : ℕ) → position_or_len (λ b. eqb b 10) bs ≡ n → n < length bs → lines bs ≡ strip_carriage_return (take n bs) ∷ lines (drop (n + 1) bs)
first_line_is bs n e lt =
    let p : ℕ → Bool = λ b. eqb b 10 in
    let lt' : position_or_len p bs < length bs = omega (arith, e) in
    rw (← e) (ap lines_of_parts (slice_split_first p bs 0 lt') ∙ parts_cons (before_first p bs) (slice_split p (after_first p bs)) (omega (arith, length-slice_split p (after_first p bs))))

-- ---- words

-- the words between bytes that pass, of which `words_of` is the case of blanks
abbrev pub words_by : (ℕ → Bool) → List ℕ → List (List ℕ)
words_by p bs = filter (λ w. not (eqb (length w) 0)) (slice_split p bs)

one_more : (n : ℕ) (b : ℕ) (bs : List ℕ) → drop (1 + n) (b ∷ bs) ≡ drop n bs
one_more n b bs = let e : 1 + n ≡ suc n = omega arith in rw e refl

begins : (p : ℕ → Bool) (b : ℕ) (bs : List ℕ) → not (p b) ≡ true → 0 < position_or_len p (b ∷ bs)
begins p b bs e = rw e (omega arith)

blank_front_step : (p : ℕ → Bool) (b : ℕ) (bs : List ℕ) (v : Bool) → p b ≡ v → words_by p (drop (position_or_len (λ b. not (p b)) bs) bs) ≡ words_by p bs
    → words_by p (drop (position_or_len (λ b. not (p b)) (b ∷ bs)) (b ∷ bs)) ≡ words_by p (b ∷ bs)
blank_front_step p b bs true e at = rw (e, one_more (position_or_len (λ b. not (p b)) bs) b bs) at
blank_front_step p b bs false e at = rw e (rw e refl)

-- leading blanks hold no word
pub blank_front : (p : ℕ → Bool) (bs : List ℕ) → words_by p (drop (position_or_len (λ b. not (p b)) bs) bs) ≡ words_by p bs
blank_front p [] = refl
blank_front p (b ∷ bs) = blank_front_step p b bs (p b) refl (blank_front p bs)

-- blanks alone hold no word
pub no_word : (p : ℕ → Bool) (bs : List ℕ) (n : ℕ) → n ≡ position_or_len (λ b. not (p b)) bs → length bs ≤ n → words_by p bs ≡ []
no_word p bs n e le = sym (blank_front p bs) ∙ rw (← e, drop_all n bs le) refl

-- the blank that ends a word holds none itself
rest_words : (p : ℕ → Bool) (bs : List ℕ) (n : ℕ) → n ≡ position_or_len p bs → n < length bs → words_by p (drop n bs) ≡ words_by p (drop (n + 1) bs)
rest_words p bs n e lt =
    let passes : p (get_or bs n 0) ≡ true = rw e (passes_at_first p bs 0 (omega (arith, e))) in
    rw (drop_more bs n 0 lt, slice_split-cons_yes p (get_or bs n 0) (drop (n + 1) bs) passes) refl

kept : (w : List ℕ) (ws : List (List ℕ)) → 0 < length w → filter (λ w. not (eqb (length w) 0)) (w ∷ ws) ≡ w ∷ filter (λ w. not (eqb (length w) 0)) ws
kept w ws some = rw (ne_eqb (length w) 0 (λ z. omega arith)) refl

-- the bytes before the first blank are a word, and the rest has the others
pub first_word : (p : ℕ → Bool) (bs : List ℕ) (n : ℕ) → n ≡ position_or_len p bs → 0 < n → n ≤ length bs → words_by p bs ≡ take n bs ∷ words_by p (drop n bs)
first_word p bs n e some le =
    elim (cases_lt n (length bs)) [
      | inl lt ↦
          let short : position_or_len p bs < length bs = omega (arith, e) in
          let cut : slice_split p bs ≡ take n bs ∷ slice_split p (drop (n + 1) bs) = rw e (slice_split_first p bs 0 short) in
          rw (rest_words p bs n e lt) (ap (filter (λ w. not (eqb (length w) 0))) cut ∙ kept (take n bs) (slice_split p (drop (n + 1) bs)) (omega (arith, length-take n bs)))
      | inr ge ↦ rw (drop_all n bs ge, take_all n bs ge, slice_split_none p bs (none_passes p bs (omega (arith, e)))) (kept bs [] (omega arith))
    ]

-- the word behind the leading blanks is not empty
pub word_begins : (p : ℕ → Bool) (bs : List ℕ) (k n : ℕ) → k ≡ position_or_len (λ b. not (p b)) bs → k < length bs → n ≡ position_or_len p (drop k bs) → 0 < n
word_begins p bs k n e lt d =
    let at : not (p (get_or bs k 0)) ≡ true = rw e (passes_at_first (λ b. not (p b)) bs 0 (omega (arith, e))) in
    rw (d, drop_more bs k 0 lt) (begins p (get_or bs k 0) (drop (k + 1) bs) at)

-- ---- one turn of the iterator over words, whose slices are written with their lengths

-- nothing is behind the leading blanks
pub ends_words : (p : ℕ → Bool) (bs : List ℕ) (k : ℕ) → k ≡ position_or_len (λ b. not (p b)) bs → k ≤ length bs → eqb (length (take (length bs - k) (drop k bs))) 0 ≡ true
    → (words_by p bs ≡ []) × (words_by p (take (length bs - k) (drop k bs)) ≡ [])
ends_words p bs k e le empty =
    let none : length (take (length bs - k) (drop k bs)) ≡ 0 = eqb-true _ _ empty in
    let past : length bs ≤ k = omega (arith, length-take (length bs - k) (drop k bs), length-drop k bs) in
    (no_word p bs k e past, rw (take_rest bs k, drop_all k bs past) refl)

-- a word is behind the leading blanks
pub steps_words : (p : ℕ → Bool) (bs : List ℕ) (k n : ℕ) → k ≡ position_or_len (λ b. not (p b)) bs → k ≤ length bs → eqb (length (take (length bs - k) (drop k bs))) 0 ≡ false
    → n ≡ position_or_len p (take (length bs - k) (drop k bs)) → n ≤ length (take (length bs - k) (drop k bs))
    → words_by p bs ≡ take n (take (length bs - k) (drop k bs)) ∷ words_by p (take (length (take (length bs - k) (drop k bs)) - n) (drop n (take (length bs - k) (drop k bs))))
steps_words p bs k n e le full d within =
    let some : 0 < length (take (length bs - k) (drop k bs)) = pos_from_ne _ (eqb-false _ _ full) in
    let short : k < length bs = omega (arith, length-take (length bs - k) (drop k bs), length-drop k bs) in
    let d' : n ≡ position_or_len p (drop k bs) = rw (← take_rest bs k) d in
    let within' : n ≤ length (drop k bs) = rw (← take_rest bs k) within in
    let w : 0 < n = word_begins p bs k n e short d' in
    let front : words_by p (drop k bs) ≡ words_by p bs = rw e (blank_front p bs) in
    rw (take_rest bs k, take_rest (drop k bs) n) (sym front ∙ first_word p (drop k bs) n d' w within')

-- ---- whether a line is skipped

-- a line of blanks alone is skipped
pub skips_blanks : (bs : List ℕ) (k : ℕ) → k ≡ position_or_len (λ b. not (is_blank b)) bs → k ≡ length bs → is_skipped (words_of bs) ≡ true
skips_blanks bs k e all = rw (no_word is_blank bs k e (omega arith)) refl

-- another line is skipped if the first byte behind its leading blanks is '#'
pub skips_by_first : (bs : List ℕ) (k : ℕ) → k ≡ position_or_len (λ b. not (is_blank b)) bs → k < length bs → is_skipped (words_of bs) ≡ eqb (get_or bs k 0) 35
skips_by_first bs k e lt =
    let n = position_or_len is_blank (drop k bs) in
    let some : 0 < n = word_begins is_blank bs k n e lt refl in
    let within : n ≤ length (drop k bs) = prefix_len-le-length (λ x. not (is_blank x)) (drop k bs) in
    let front : words_of (drop k bs) ≡ words_of bs = rw e (blank_front is_blank bs) in
    let first : get_or (take n (drop k bs)) 0 0 ≡ get_or bs k 0 = get_or-take n (drop k bs) 0 0 some ∙ get_or-drop k bs 0 0 ∙ rw (add-zero k) refl in
    rw (← front, first_word is_blank (drop k bs) n refl some within, first) refl
