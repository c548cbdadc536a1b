-- Records that are read each behind those before it.
use Rattle.std.proofs.Common.{◌≡◌, ℕ, suc, ◌+◌, ◌<◌, ◌≤◌, List, [], ◌∷◌, ◌++◌, length, get_or, take, drop, map, Result, Ok, Err, refl, sym, ap, subst, ◌∙◌, arith, append-nil, append_assoc, take-append-drop}
use Rattle.std.proofs.lemmas.List.{length_push, take_more, take_all}
use Rattle.std.proofs.Math.Seq.{drop-cons}
use Rattle.rex_wire.proofs.Fields.{IsBytes}
use Rattle.rex_wire.proofs.Whole.{whole_found}
use Rattle.rex_durable.specs.declared.records.Rec.{Rec}
use Rattle.rex_durable.specs.declared.recovery.Recovered.{Recovered}
use Rattle.rex_durable.specs.declared.fault.RecoverFault.{RecoverFault}
use Rattle.rex_durable.specs.declared.fault.RecoverFault.TheVariants.{BadRecord, OutOfMemory}
use Rattle.rex_durable.specs.Spelling.{AreRecords, Follows, Spells, record_bytes}
use Rattle.rex_durable.specs.Reading.{record_in}
use Rattle.rex_durable.specs.Recovery.{recovered, after, standing, standing_of}
use Rattle.rex_durable.specs.declared.records.Standing.{Standing}
use Rattle.rex_durable.specs.Kept.{Spell, IsFirstBad, IsBadRecord, Place, and_then, records_behind, told, recovered_in, Answers, Refuses, RefusesAt}
use Rattle.rex_durable.proofs.RecordLaws.{record_spelled}
use Rattle.rex_durable.proofs.RecordsAgain.{record_read}
use Rattle.rex_durable.proofs.OneMore.{Counts, counts_all, standing_is, one_more, at_seam, spell_none, spell_more}

-- ---- one list of bytes

-- what is read is spelled so
pub record_found : (place : Standing) (bytes : List ℕ) (r : Rec) → place.count ≤ 65535 → IsBytes bytes → record_in place bytes ≡ Ok r → Spells place bytes r
unfolding record_in
record_found place bytes r few fits e =
    let f = whole_found (record_spelled place few) bytes r fits e in
    record { spelling = f.has.spelling; due = f.has.due; bytes_are = f.bytes_are }

-- ---- many of them

abbrev Reads : Type 0
Reads = Result (List Rec) Place

abbrev read_all : List Rec → Reads
read_all rs = Ok rs

same_records : (rs others : List Rec) → read_all rs ≡ read_all others → rs ≡ others
same_records rs others e = cc

-- first some, and then others
behind-append : (before : List Rec) (xs ys : List (List ℕ)) (rs : List Rec) → records_behind before xs ≡ Ok rs → records_behind before (xs ++ ys) ≡ records_behind rs ys
behind-append before [] ys rs e = ap (λ (b : List Rec). records_behind b ys) (same_records before rs e)
behind-append before (bytes ∷ xs) ys rs e = by (record_in (standing before) bytes) e (λ others h. behind-append others xs ys rs h)
  where
    by : (read : Result Rec ℕ) → and_then read before (λ others. records_behind others xs) ≡ Ok rs → ((others : List Rec) → records_behind others xs ≡ Ok rs → records_behind others (xs ++ ys) ≡ records_behind rs ys) → and_then read before (λ others. records_behind others (xs ++ ys)) ≡ records_behind rs ys
    by (Ok r) h next = next (before ++ r ∷ []) h
    by (Err at) h next = absurd cc

spelled_behind : (before rs : List Rec) → AreRecords (before ++ rs) → records_behind before (map record_bytes rs) ≡ Ok (before ++ rs)
spelled_behind before [] h = ap read_all (sym (append-nil before))
spelled_behind before (r ∷ rs) h =
    let seam = at_seam before r rs h in
    let one = record_read (standing before) r seam.spelling seam.due in
    let whole = append_assoc before (r ∷ []) rs in
    ap (λ read. and_then read before (λ others. records_behind others (map record_bytes rs))) one
    ∙ spelled_behind (before ++ r ∷ []) rs (rw whole h)
    ∙ ap read_all whole

pub spelled_read : (kept : List (List ℕ)) (rs : List Rec) → Spell kept rs → records_behind [] kept ≡ Ok rs
spelled_read kept rs h = ap (λ (bs : List (List ℕ)). records_behind [] bs) h.bytes ∙ spelled_behind [] rs h.records

pub spelled_recovered : (kept : List (List ℕ)) (rs : List Rec) → Spell kept rs → recovered_in kept ≡ Ok (recovered rs)
unfolding recovered_in
spelled_recovered kept rs h = ap told (spelled_read kept rs h)

-- the list behind a front
at_place : (kept : List (List ℕ)) (n : ℕ) → n < length kept → kept ≡ take n kept ++ get_or kept n [] ∷ drop (suc n) kept
at_place kept n lt = sym (take-append-drop n kept) ∙ ap (λ (bs : List (List ℕ)). take n kept ++ bs) (drop-cons kept n [] lt)

pub bad_refused : (kept : List (List ℕ)) (number at : ℕ) → IsFirstBad kept number at → recovered_in kept ≡ Err (record { number = number; at = at })
unfolding recovered_in
bad_refused kept number at h =
    let n = length h.before in
    let rest = drop (suc n) kept in
    let front = spelled_read (take n kept) h.before h.spelled in
    let numbered : n + 1 ≡ number = sym h.numbered in
    ap (λ (bs : List (List ℕ)). told (records_behind [] bs)) (at_place kept n h.there)
    ∙ ap told (behind-append [] (take n kept) (get_or kept n [] ∷ rest) h.before front)
    ∙ ap (λ read. told (and_then read h.before (λ others. records_behind others rest))) h.bad
    ∙ ap (λ (m : ℕ). refused m) numbered
  where
    refused : ℕ → Result Recovered Place
    refused m = Err (record { number = m; at = at })

-- ---- a loop

-- what the first so many lists say
pub record ReadSoFar (kept : List (List ℕ)) (n : ℕ) (x : Recovered) : Type 0 where
  pub rs : List Rec
  pub is : x ≡ recovered rs
  pub long : length rs ≡ n
  pub spelled : Spell (take n kept) rs

pub read_none : (kept : List (List ℕ)) (x : Recovered) → x ≡ recovered [] → ReadSoFar kept 0 x
read_none kept x e = record { rs = []; is = e; long = refl; spelled = spell_none }

counts : (kept : List (List ℕ)) (n : ℕ) (x : Recovered) (h : ReadSoFar kept n x) → Counts h.rs
counts kept n x h = counts_all h.rs h.spelled.records

-- where the next record stands
place_is : (kept : List (List ℕ)) (n : ℕ) (x : Recovered) (h : ReadSoFar kept n x) → standing_of x ≡ standing h.rs
place_is kept n x h = ap (λ (y : Recovered). standing_of y) h.is ∙ sym (standing_is h.rs (counts kept n x h))

pub count_few : (kept : List (List ℕ)) (n : ℕ) (x : Recovered) → ReadSoFar kept n x → (standing_of x).count ≤ 65535
count_few kept n x h = subst (λ (s : Standing). s.count ≤ 65535) (sym (place_is kept n x h)) (counts kept n x h).few

pub base_within : (kept : List (List ℕ)) (n : ℕ) (x : Recovered) → ReadSoFar kept n x → (standing_of x).base ≤ (standing_of x).count
base_within kept n x h = subst (λ (s : Standing). s.base ≤ s.count) (sym (place_is kept n x h)) (counts kept n x h).high

pub read_more : (kept : List (List ℕ)) (n : ℕ) (x y : Recovered) (r : Rec) → ReadSoFar kept n x → n < length kept → Spells (standing_of x) (get_or kept n []) r → y ≡ after x r → ReadSoFar kept (n + 1) y
read_more kept n x y r h lt found next =
    let follows : Follows h.rs r = record { spelling = found.spelling; due = rw (place_is kept n x h) at found.due } in
    let front : take (n + 1) kept ≡ take n kept ++ record_bytes r ∷ [] = take_more kept n [] lt ∙ ap (λ (b : List ℕ). take n kept ++ b ∷ []) found.bytes_are in
    record {
      rs = h.rs ++ r ∷ [];
      is = next ∙ ap (λ (z : Recovered). after z r) h.is ∙ sym (one_more h.rs r (counts kept n x h) follows);
      long = let e2 = length_push h.rs r in omega (arith, h.long);
      spelled = rw front (spell_more (take n kept) h.rs r h.spelled follows);
    }

-- what all lists say
pub record ReadWhole (kept : List (List ℕ)) (x : Recovered) : Type 0 where
  pub rs : List Rec
  pub spelled : Spell kept rs
  pub is : x ≡ recovered rs

pub read_whole : (kept : List (List ℕ)) (n : ℕ) (x : Recovered) → ReadSoFar kept n x → length kept ≤ n → ReadWhole kept x
read_whole kept n x h le = record { rs = h.rs; spelled = rw (take_all n kept le) at h.spelled; is = h.is }

pub read_bad : (kept : List (List ℕ)) (n at : ℕ) (x : Recovered) → ReadSoFar kept n x → n < length kept → record_in (standing_of x) (get_or kept n []) ≡ Err at → IsFirstBad kept (n + 1) at
read_bad kept n at x h lt e =
    let place = place_is kept n x h in
    let long = h.long in
    record {
      before = h.rs;
      spelled = rw long h.spelled;
      numbered = omega arith;
      there = omega arith;
      bad = rw (long, ← place) e;
    }

-- ---- answers

-- no other records are spelled so
pub spelled_same : (kept : List (List ℕ)) (rs others : List Rec) → Spell kept rs → Spell kept others → rs ≡ others
spelled_same kept rs others h k = same_records rs others (sym (spelled_read kept rs h) ∙ spelled_read kept others k)

pub only_one : (kept : List (List ℕ)) (x : Recovered) → ReadWhole kept x → (rs : List Rec) → Spell kept rs → (let r : Result Recovered Place = Ok (recovered rs) in r) ≡ Ok x
only_one kept x h rs spelled =
    let same : h.rs ≡ rs = spelled_same kept h.rs rs h.spelled spelled in
    let is : recovered rs ≡ x = ap (λ (others : List Rec). recovered others) (sym same) ∙ sym h.is in
    ap (λ (y : Recovered). answer y) is
  where
    answer : Recovered → Result Recovered Place
    answer y = Ok y

pub answers_spelled : (result : Result Recovered RecoverFault) (kept : List (List ℕ)) → Answers result (recovered_in kept) → (rs : List Rec) → Spell kept rs → Answers result (Ok (recovered rs))
answers_spelled result kept h rs spelled = subst (λ due. Answers result due) (spelled_recovered kept rs spelled) h

pub answers_bad : (kept : List (List ℕ)) (e : RecoverFault) → IsBadRecord kept e → Refuses e (recovered_in kept)
answers_bad kept (BadRecord number at) h = bad_refused kept number at h
answers_bad kept OutOfMemory h = tt

-- the record at this place is bad, unless memory ran out
pub is_bad : (kept : List (List ℕ)) (n : ℕ) (x : Recovered) (e : RecoverFault) → ReadSoFar kept n x → n < length kept → RefusesAt e (n + 1) (record_in (standing_of x) (get_or kept n [])) → IsBadRecord kept e
is_bad kept n x (BadRecord number at) h lt r = rw r.0 (read_bad kept n at x h lt r.1)
is_bad kept n x OutOfMemory h lt r = tt
