-- What a name stands for is found at its number.
use Rattle.std.proofs.Common.{◌≡◌, ℕ, ◌+◌, ◌-◌, ◌<◌, ◌≤◌, Bool, true, false, cond, ◌||◌, ltb, List, [], ◌∷◌, ◌++◌, length, Option, Some, None, refl, sym, ap, subst, ◌∙◌, arith}
use Rattle.std.specs.Prelude.{zero, suc, not, is_some, find, option_map, slice_get, IfSome}
use Rattle.std.specs.List.{All, list_any, position_or_len}
use Rattle.std.specs.Str.{bytes_eq}
use Rattle.std.proofs.lemmas.Bool.{ltb-true, ltb-false}
use Rattle.std.proofs.lemmas.List.{length-append}
use Rattle.std.proofs.lemmas.List.Elements.{All-head, All-tail, All-push}
use Rattle.std.proofs.lemmas.List.Folds.{find_at}
use Rattle.std.proofs.lemmas.Slice.Eq.{bytes_eq-Decides}
use Rattle.rex_text.specs.Text.{Word}
use Rattle.rex_syntax.specs.Names.{number_of, with_word}
use Rattle.rex_parse.specs.Above.{is_declared, meaning_in}
use Rattle.rex_parse.specs.Words.{is_name, fits}
use Rattle.rex_parse.specs.Table.{new_code}
use Rattle.rex_parse.specs.Entries.{entries_of, AreNamed}
use Rattle.rex_parse.specs.declared.language.Above.{Above}
use Rattle.rex_parse.specs.declared.language.Entry.{Entry}
use Rattle.rex_parse.specs.declared.language.Meaning.{Meaning}
use Rattle.rex_parse.specs.declared.language.ServiceCode.{ServiceCode}
use Rattle.rex_parse.specs.declared.language.ServiceCode.TheVariants.{NoName, Taken}

abbrev IsNamed : Word → Type 0
IsNamed w = is_name w ≡ true

-- ---- a look-up

place_of : (w : Word) (ws : List Word) (ms : List Meaning) → length ws ≡ length ms
    → position_or_len (λ (e : Entry). bytes_eq e.name w) (entries_of ws ms) ≡ position_or_len (λ x. bytes_eq x w) ws
place_of w [] ms same = refl
place_of w (x ∷ ws) [] same = absurd (omega arith)
place_of w (x ∷ ws) (m ∷ ms) same = let rest : length ws ≡ length ms = omega arith in rw (place_of w ws ms rest) refl

meaning_at : (ws : List Word) (ms : List Meaning) (i : ℕ) → length ws ≡ length ms → option_map meaning_in (slice_get (entries_of ws ms) i) ≡ slice_get ms i
meaning_at [] [] i same = refl
meaning_at [] (m ∷ ms) i same = absurd (omega arith)
meaning_at (w ∷ ws) [] i same = absurd (omega arith)
meaning_at (w ∷ ws) (m ∷ ms) zero same = refl
meaning_at (w ∷ ws) (m ∷ ms) (suc i) same = let rest : length ws ≡ length ms = omega arith in meaning_at ws ms i rest

found_at : (w : Word) (ws : List Word) (ms : List Meaning) → length ws ≡ length ms
    → option_map meaning_in (find (λ (e : Entry). bytes_eq e.name w) (entries_of ws ms)) ≡ slice_get ms (position_or_len (λ x. bytes_eq x w) ws)
found_at w ws ms same =
    ap (λ (o : Option Entry). option_map meaning_in o) (find_at (λ (e : Entry). bytes_eq e.name w) (entries_of ws ms))
    ∙ ap (λ (i : ℕ). option_map meaning_in (slice_get (entries_of ws ms) i)) (place_of w ws ms same)
    ∙ meaning_at ws ms (position_or_len (λ x. bytes_eq x w) ws) same

get_past : (ms : List Meaning) (i : ℕ) → length ms ≤ i → slice_get ms i ≡ None
get_past [] i le = refl
get_past (m ∷ ms) zero le = absurd (omega arith)
get_past (m ∷ ms) (suc i) le = let rest : length ms ≤ i = omega arith in get_past ms i rest

unnumbered : (b : Bool) (n : ℕ) → option_map (λ place. place + 1) (cond b (Some n) None) ≡ None → b ≡ false
unnumbered true n e = absurd cc
unnumbered false n e = refl

numbered : (b : Bool) (n k : ℕ) → Some k ≡ option_map (λ place. place + 1) (cond b (Some n) None) → k ≡ n + 1
numbered true n k e = cc
numbered false n k e = absurd cc

-- a name without a number stands for nothing
pub none_found : (w : Word) (ws : List Word) (ms : List Meaning) → length ws ≡ length ms → None ≡ number_of ws w
    → None ≡ option_map meaning_in (find (λ (e : Entry). bytes_eq e.name w) (entries_of ws ms))
none_found w ws ms same e =
    let place : ℕ = position_or_len (λ x. bytes_eq x w) ws in
    let past : length ws ≤ place = ltb-false place (length ws) (unnumbered (ltb place (length ws)) place (sym e)) in
    let le : length ms ≤ place = omega arith in
    sym (found_at w ws ms same ∙ get_past ms place le)

-- a name with a number stands for what stands at that number
pub some_found : (w : Word) (ws : List Word) (ms : List Meaning) (n : ℕ) → length ws ≡ length ms → Some n ≡ number_of ws w
    → slice_get ms (n - 1) ≡ option_map meaning_in (find (λ (e : Entry). bytes_eq e.name w) (entries_of ws ms))
some_found w ws ms n same e =
    let place : ℕ = position_or_len (λ x. bytes_eq x w) ws in
    let k : n ≡ place + 1 = numbered (ltb place (length ws)) place n e in
    let at : n - 1 ≡ place = omega arith in
    ap (slice_get ms) at ∙ sym (found_at w ws ms same)

-- ---- what is found is a name

by_first : (b : Bool) (x w : Word) (p n : ℕ) → (b ≡ true → x ≡ w) → cond (not b) (1 + p) 0 < 1 + n → is_name x ≡ true → (p < n → is_name w ≡ true) → is_name w ≡ true
by_first true x w p n same below named more = subst (λ (y : Word). is_name y ≡ true) (same refl) named
by_first false x w p n same below named more = more (omega arith)

named_at : (w : Word) (ws : List Word) → All IsNamed ws → position_or_len (λ x. bytes_eq x w) ws < length ws → is_name w ≡ true
named_at w [] names below = absurd (omega arith)
named_at w (x ∷ ws) names below =
    let less : cond (not (bytes_eq x w)) (1 + position_or_len (λ x. bytes_eq x w) ws) 0 < 1 + length ws = omega arith in
    by_first (bytes_eq x w) x w (position_or_len (λ x. bytes_eq x w) ws) (length ws) (bytes_eq-Decides x w).0 less (All-head IsNamed x ws names) (named_at w ws (All-tail IsNamed x ws names))

placed : (b : Bool) (n k : ℕ) → Some k ≡ option_map (λ place. place + 1) (cond b (Some n) None) → b ≡ true
placed true n k e = refl
placed false n k e = absurd cc

-- a word with a number is a name, where all of them are
pub numbered_is_name : (w : Word) (ws : List Word) (n : ℕ) → All IsNamed ws → Some n ≡ number_of ws w → is_name w ≡ true
numbered_is_name w ws n names e =
    let place : ℕ = position_or_len (λ x. bytes_eq x w) ws in
    named_at w ws names (ltb-true place (length ws) (placed (ltb place (length ws)) place n e))

-- what holds anyway holds where something is found
pub if_any : (o : Option Meaning) (P : Type 0) → P → IfSome o (λ _. P)
if_any None P h = tt
if_any (Some m) P h = h

-- ---- a further name

entries_more : (ws : List Word) (ms : List Meaning) (w : Word) (m : Meaning) → length ws ≡ length ms → entries_of (ws ++ w ∷ []) (ms ++ m ∷ []) ≡ entries_of ws ms ++ (record { name = w; meaning = m }) ∷ []
entries_more [] [] w m same = refl
entries_more [] (n ∷ ms) w m same = absurd (omega arith)
entries_more (x ∷ ws) [] w m same = absurd (omega arith)
entries_more (x ∷ ws) (n ∷ ms) w m same = let rest : length ws ≡ length ms = omega arith in rw (entries_more ws ms w m rest) refl

absent_by : (b : Bool) (e : Entry) (o : Option Entry) (any : Bool) → cond b (Some e) o ≡ None → (o ≡ None → any ≡ false) → (b || any) ≡ false
absent_by true e o any h more = absurd cc
absent_by false e o any h more = more h

absent : (w : Word) (ws : List Word) (ms : List Meaning) → length ws ≡ length ms → find (λ (e : Entry). bytes_eq e.name w) (entries_of ws ms) ≡ None → list_any (λ x. bytes_eq x w) ws ≡ false
absent w [] ms same h = refl
absent w (x ∷ ws) [] same h = absurd (omega arith)
absent w (x ∷ ws) (m ∷ ms) same h =
    let rest : length ws ≡ length ms = omega arith in
    absent_by (bytes_eq x w) (record { name = x; meaning = m }) (find (λ (e : Entry). bytes_eq e.name w) (entries_of ws ms)) (list_any (λ x. bytes_eq x w) ws) h (absent w ws ms rest)

new_word : (w : Word) (ws : List Word) (ms : List Meaning) → length ws ≡ length ms → find (λ (e : Entry). bytes_eq e.name w) (entries_of ws ms) ≡ None → with_word ws w ≡ ws ++ w ∷ []
new_word w ws ms same h = rw (absent w ws ms same h) refl

longer : (w : Word) (ws : List Word) (ms : List Meaning) (m : Meaning) → length ws ≡ length ms → find (λ (e : Entry). bytes_eq e.name w) (entries_of ws ms) ≡ None
    → length (with_word ws w) ≡ length (ms ++ m ∷ [])
longer w ws ms m same h = rw (new_word w ws ms same h) (simp length-append (ap (λ (n : ℕ). n + 1) same))

pub more_named : (w : Word) (ws : List Word) (ms : List Meaning) (m : Meaning) → AreNamed ws ms → is_name w ≡ true → find (λ (e : Entry). bytes_eq e.name w) (entries_of ws ms) ≡ None
    → AreNamed (with_word ws w) (ms ++ m ∷ [])
more_named w ws ms m named name h =
    record {
      paired = longer w ws ms m named.paired h;
      names = rw (new_word w ws ms named.paired h) (All-push IsNamed ws w named.names name);
    }

-- a word that no entry has goes last
pub new_entry : (w : Word) (ws : List Word) (ms : List Meaning) (m : Meaning) → length ws ≡ length ms → find (λ (e : Entry). bytes_eq e.name w) (entries_of ws ms) ≡ None
    → entries_of (with_word ws w) (ms ++ m ∷ []) ≡ entries_of ws ms ++ (record { name = w; meaning = m }) ∷ []
new_entry w ws ms m same h = rw (new_word w ws ms same h) (entries_more ws ms w m same)

-- ---- what a line declares is a name, and new

new_by : (b : Bool) (o : Option Entry) → cond b (fits (is_some (option_map meaning_in o)) Taken) (Some NoName) ≡ None → o ≡ None
new_by true None e = refl
new_by true (Some x) e = absurd cc
new_by false o e = absurd cc

pub name_is_new : (a : Above) (w : Word) → new_code a w ≡ None → find (λ (e : Entry). bytes_eq e.name w) a.names ≡ None
unfolding new_code
name_is_new a w e = new_by (is_name w) (find (λ (e : Entry). bytes_eq e.name w) a.names) e

name_by : (b : Bool) (o : Option ServiceCode) → cond b o (Some NoName) ≡ None → b ≡ true
name_by true o e = refl
name_by false o e = absurd cc

pub new_is_name : (a : Above) (w : Word) → new_code a w ≡ None → is_name w ≡ true
unfolding new_code
new_is_name a w e = name_by (is_name w) (fits (is_declared a w) Taken) e
