-- The words of a line that one loop over its bytes finds.
use Rattle.std.proofs.Common.{◌≡◌, ℕ, ◌+◌, ◌-◌, ◌<◌, ◌≤◌, Bool, true, false, cond, eqb, ltb, not}
use Rattle.std.proofs.Common.{List, [], ◌∷◌, ◌++◌, length, get_or, take, drop, All, refl, sym, ap, ◌∙◌, arith, inl, inr}
use Rattle.std.specs.Prelude.{Result, Ok, Err, OnOk}
use Rattle.std.specs.List.{filter, slice_split, position_or_len}
use Rattle.std.proofs.lemmas.Bool.{cases_lt, lt-ltb, le-ltb, ne_eqb}
use Rattle.std.proofs.lemmas.List.{append-nil, append_assoc, drop-drop, get_or-drop, get_or_default, length-take, length-drop, take_all}
use Rattle.std.proofs.lemmas.List.Sums.{position_or_len_is}
use Rattle.std.proofs.lemmas.List.Splits.{slice_split_none, slice_split_first}
use Rattle.rex_text.specs.Text.{word_between}
use Rattle.rex_text.proofs.Splits.{words_by}

-- the bytes from one place up to another do not pass
abbrev NonePass : (ℕ → Bool) → List ℕ → ℕ → ℕ → Type 0
NonePass p bs start end = (k : ℕ) → start ≤ k → k < end → p (get_or bs k 0) ≡ false

-- a part is a word if it has bytes
part_kept : (w : List ℕ) (ws : List (List ℕ)) (start end : ℕ) → length w ≡ end - start
    → filter (λ w. not (eqb (length w) 0)) (w ∷ ws) ≡ cond (ltb start end) (w ∷ []) [] ++ filter (λ w. not (eqb (length w) 0)) ws
part_kept w ws start end long = elim (cases_lt start end) [
  | inl lt ↦ rw (lt-ltb start end lt, ne_eqb (length w) 0 (λ z. omega arith)) refl
  | inr ge ↦ let none : length w ≡ 0 = omega arith in rw (le-ltb start end ge, none) refl
]

-- behind `start` the first byte that passes stands at `end`
place_behind : (p : ℕ → Bool) (bs : List ℕ) (start end : ℕ) → start ≤ end → end < length bs → NonePass p bs start end → p (get_or bs end 0) ≡ true
    → position_or_len p (drop start bs) ≡ end - start
place_behind p bs start end le lt plain at =
    position_or_len_is p (drop start bs) (end - start) 0 (omega (arith, length-drop start bs))
    (λ k l. rw (get_or-drop start bs k 0) (plain (start + k) (omega arith) (omega arith)))
    (λ l. let e : start + (end - start) ≡ end = omega arith in rw (get_or-drop start bs (end - start) 0, e) at)

-- the byte at `end` ends a word
pub word_ends : (p : ℕ → Bool) (bs : List ℕ) (start end : ℕ) → start ≤ end → end < length bs → NonePass p bs start end → p (get_or bs end 0) ≡ true
    → words_by p (drop start bs) ≡ word_between bs start end ++ words_by p (drop (end + 1) bs)
word_ends p bs start end le lt plain at =
    let front : List ℕ = take (end - start) (drop start bs) in
    let place : position_or_len p (drop start bs) ≡ end - start = place_behind p bs start end le lt plain at in
    let short : position_or_len p (drop start bs) < length (drop start bs) = omega (arith, length-drop start bs) in
    let next : start + (end - start + 1) ≡ end + 1 = omega arith in
    let behind : drop (end - start + 1) (drop start bs) ≡ drop (end + 1) bs = rw (drop-drop (end - start + 1) start bs, next) refl in
    let cut : slice_split p (drop start bs) ≡ front ∷ slice_split p (drop (end + 1) bs) =
    rw (← behind, ← place) (slice_split_first p (drop start bs) 0 short) in
    let long : length front ≡ end - start = omega (arith, length-take (end - start) (drop start bs), length-drop start bs) in
    ap (filter (λ w. not (eqb (length w) 0))) cut ∙ part_kept front (slice_split p (drop (end + 1) bs)) start end long

none_behind : (p : ℕ → Bool) (bs : List ℕ) (start : ℕ) → NonePass p bs start (length bs) → All (λ b. p b ≡ false) (drop start bs)
none_behind p bs start plain i d lt =
    let l : i < length bs - start = omega (arith, length-drop start bs) in
    let within : start + i < length bs = omega arith in
    let at : get_or (drop start bs) i d ≡ get_or bs (start + i) 0 = get_or-drop start bs i d ∙ get_or_default bs (start + i) d 0 within in
    rw at (plain (start + i) (omega arith) within)

-- the end of the line ends the last word
pub last_word : (p : ℕ → Bool) (bs : List ℕ) (start : ℕ) → start ≤ length bs → NonePass p bs start (length bs)
    → words_by p (drop start bs) ≡ word_between bs start (length bs)
last_word p bs start le plain =
    let rest : List ℕ = drop start bs in
    let whole : take (length bs - start) rest ≡ rest = take_all (length bs - start) rest (omega (arith, length-drop start bs)) in
    let part : List (List ℕ) = filter (λ w. not (eqb (length w) 0)) (rest ∷ []) in
    let kept : part ≡ cond (ltb start (length bs)) (rest ∷ []) [] = part_kept rest [] start (length bs) (length-drop start bs) ∙ append-nil _ in
    ap (filter (λ w. not (eqb (length w) 0))) (slice_split_none p rest (none_behind p bs start plain)) ∙ rw whole kept

-- a byte that doesn't pass leaves it so
pub none_more : (p : ℕ → Bool) (bs : List ℕ) (start end : ℕ) → NonePass p bs start end → p (get_or bs end 0) ≡ false → NonePass p bs start (end + 1)
none_more p bs start end plain at k low high = elim (cases_lt k end) [
  | inl lt ↦ plain k low lt
  | inr ge ↦ let e : k ≡ end = omega arith in rw e at
]

-- the word that ended goes from those that are to come to those found
pub more_found : (old new some rest behind all : List (List ℕ)) → new ≡ old ++ some → old ++ rest ≡ all → rest ≡ some ++ behind → new ++ behind ≡ all
more_found old new some rest behind all now before cut = rw now (append_assoc old some behind ∙ sym (ap (λ ws. old ++ ws) cut) ∙ before)

-- the last word goes to those found, where there is memory
pub all_found : {A B : Type 0} (r : Result A B) (old new some rest all : List (List ℕ)) → OnOk r (new ≡ old ++ some) → old ++ rest ≡ all → rest ≡ some → OnOk r (new ≡ all)
all_found (Ok a) old new some rest all now before cut = now ∙ sym (ap (λ ws. old ++ ws) cut) ∙ before
all_found (Err b) old new some rest all now before cut = tt
