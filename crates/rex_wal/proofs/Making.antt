-- What each write of a journal makes of its bytes, whole or torn.
use Rattle.std.proofs.Common.{◌≡◌, ◌≢◌, ◌⊎◌, inl, inr, ⊎_elim, Bool, true, false, ℕ, suc, ◌+◌, ◌-◌, ◌≤◌, Some, None, Option, List, [], ◌∷◌, ◌++◌, length, take, drop, replicate, refl, sym, ◌∙◌, ap, subst, arith, append_assoc, length-append, take-append-drop}
use Rattle.std.proofs.lemmas.Bool.{cases_lt}
use Rattle.std.proofs.lemmas.List.{append-nil, drop-drop, drop_all, drop_at, drop-replicate, get_or-drop, get_or-replicate, get_or_past, length-replicate, replicate-append-replicate, take_at}
use Rattle.std.proofs.lemmas.List.Elements.{All-push}
use Rattle.std.specs.Prelude.{All}
use Rattle.rex_disk.specs.Stops.{overwritten}
use Rattle.rex_file.specs.Mixing.{Mixed, byte_at}
use Rattle.rex_wal.specs.Appending.{IsWritten}
use Rattle.rex_wal.specs.Keeping.{IsClean}
use Rattle.rex_wal.specs.Opening.{IsCleaning, IsFound}
use Rattle.rex_wal.specs.Journal.{BeginsNone, HasRecords, Holds, IsBad, IsBegun, NoneLater, IsRecord, StandsFor, entries, entry, head}
use Rattle.rex_wal.proofs.BytesLaws.{holds_one}
use Rattle.rex_wal.proofs.Spelling.{Covers, covered_later, covered_none, entries_push, entry_later, torn_entry, zeros_later, zeros_none}

-- ---- bytes 0

pub zero_at : (n i : ℕ) → byte_at (replicate n 0) i ≡ 0
zero_at n i = ⊎_elim (λ lt. get_or-replicate n i 0 0 lt) (λ le. get_or_past (replicate n 0) i 0 (omega (arith, le, length-replicate {A = ℕ} n 0))) (cases_lt i n)

pub all_zero : (xs : List ℕ) → ((i : ℕ) → byte_at xs i ≡ 0) → xs ≡ replicate (length xs) 0
all_zero [] all = refl
all_zero (x ∷ xs) all = ap (λ (k : ℕ). k ∷ xs) (all 0) ∙ ap (λ (ys : List ℕ). 0 ∷ ys) (all_zero xs (λ i. all (suc i)))

-- ---- a torn write

-- each byte from there on is the old one or the one that was written
pub mixed_byte : (at : ℕ) (bytes old new : List ℕ) → Mixed at bytes old new → (i : ℕ) → (byte_at new (at + i) ≡ byte_at old (at + i)) ⊎ (byte_at new (at + i) ≡ byte_at bytes i)
mixed_byte at bytes old new m i = ⊎_elim (λ lt. m.each i lt) (λ le. inl (same le)) (cases_lt i (length bytes))
  where
    same : length bytes ≤ i → byte_at new (at + i) ≡ byte_at old (at + i)
    same le =
        let there : at + i ≡ (at + length bytes) + (i - length bytes) = omega (arith, le) in
        ap (λ (k : ℕ). byte_at new k) there ∙ sym (get_or-drop (at + length bytes) new (i - length bytes) 0) ∙ ap (λ (xs : List ℕ). byte_at xs (i - length bytes)) m.torn.behind
        ∙ get_or-drop (at + length bytes) old (i - length bytes) 0 ∙ ap (λ (k : ℕ). byte_at old k) (sym there)

-- a file with these records up to a place
module _ (records : List (List ℕ)) (rest file : List ℕ) (split : file ≡ head ++ (entries records ++ rest)) (at : ℕ) (place : at ≡ length head + length (entries records)) where
  abbrev front : List ℕ
  front = head ++ entries records

  long : length front ≡ at
  long = omega (arith, length-append head (entries records), place)

  is : file ≡ front ++ rest
  is = split ∙ sym (append_assoc head (entries records) rest)

  pub front_is : take at file ≡ front
  front_is = ap (λ (xs : List ℕ). take at xs) is ∙ take_at front rest at long

  pub rest_is : drop at file ≡ rest
  rest_is = ap (λ (xs : List ℕ). drop at xs) is ∙ drop_at front rest at long

  pub within : at ≤ length file
  within = omega (arith, long, ap length is, length-append front rest)

  module _ (bytes image : List ℕ) (m : Mixed at bytes file image) where
    pub mixed_split : image ≡ head ++ (entries records ++ drop at image)
    mixed_split = sym (take-append-drop at image) ∙ ap (λ (xs : List ℕ). xs ++ drop at image) (m.torn.before ∙ front_is) ∙ append_assoc head (entries records) (drop at image)

    pub mixed_rest : (i : ℕ) → (byte_at (drop at image) i ≡ byte_at rest i) ⊎ (byte_at (drop at image) i ≡ byte_at bytes i)
    mixed_rest i =
        let new = get_or-drop at image i 0 in
        let old : byte_at file (at + i) ≡ byte_at rest i = sym (get_or-drop at file i 0) ∙ ap (λ (xs : List ℕ). byte_at xs i) rest_is in
        ⊎_elim (λ e. inl (new ∙ e ∙ old)) (λ e. inr (new ∙ e)) (mixed_byte at bytes file image m i)

  -- 0 is written over what stands behind the records
  pub zeros_keep : (n : ℕ) (image : List ℕ) → All IsRecord records → BeginsNone rest → NoneLater rest → Mixed at (replicate n 0) file image → HasRecords image records
  zeros_keep n image each none later m =
      let covers : Covers rest (drop at image) = λ i. ⊎_elim (λ e. inr e) (λ e. inl (e ∙ zero_at n i)) (mixed_rest (replicate n 0) image m i) in
      record {
        front = record { rest = drop at image; split = mixed_split (replicate n 0) image m; ended = covered_none rest (drop at image) none covers; each = each };
        none_later = covered_later rest (drop at image) later covers;
      }

  pub zeros_clean : IsClean (overwritten at (replicate (length file - at) 0) file) records
  zeros_clean =
      let n = length file - at in
      let past : drop (at + length {A = ℕ} (replicate n 0)) file ≡ [] = drop_all (at + length {A = ℕ} (replicate n 0)) file (omega (arith, length-replicate {A = ℕ} n 0, within)) in
      record {
        zeros = n;
        split = ap (λ (xs : List ℕ). xs ++ replicate n 0 ++ drop (at + length {A = ℕ} (replicate n 0)) file) front_is ∙ ap (λ (xs : List ℕ). front ++ replicate n 0 ++ xs) past ∙ append-nil (front ++ replicate n 0)
            ∙ append_assoc head (entries records) (replicate n 0);
      }

-- ---- a record is appended to a clean file

module _ (records : List (List ℕ)) (file : List ℕ) (clean : IsClean file records) (at : ℕ) (place : at ≡ length head + length (entries records)) where
  pub clean_holds : All IsRecord records → Holds file records
  clean_holds each = inl record {
    front = record { rest = replicate clean.zeros 0; split = clean.split; ended = zeros_none (replicate clean.zeros 0) (zero_at clean.zeros); each = each };
    none_later = zeros_later (replicate clean.zeros 0) (zero_at clean.zeros);
  }

  module _ (bytes written : List ℕ) (w : IsWritten bytes written) where
    pub append_stands : (image : List ℕ) → All IsRecord records → IsRecord bytes → Mixed at written file image → StandsFor records (Some bytes) image
    append_stands image each is_record m = by (torn_entry bytes (replicate w.zeros 0) (drop at image) (zero_at w.zeros) covers)
      where
        split : image ≡ head ++ (entries records ++ drop at image)
        split = mixed_split records (replicate clean.zeros 0) file clean.split at place written image m

        covers : Covers (entry bytes ++ replicate w.zeros 0) (drop at image)
        covers i = ⊎_elim (λ e. inl (e ∙ zero_at clean.zeros i)) (λ e. inr (e ∙ ap (λ (xs : List ℕ). byte_at xs i) w.is)) (mixed_rest records (replicate clean.zeros 0) file clean.split at place written image m i)

        by : ((more : List ℕ) × (drop at image ≡ entry bytes ++ more) × ((i : ℕ) → byte_at more i ≡ 0)) ⊎ BeginsNone (drop at image) → StandsFor records (Some bytes) image
        by (inl (more, is, zeros)) = inr (inl record {
          front = record {
            rest = more;
            split = split ∙ ap (λ (xs : List ℕ). head ++ (entries records ++ xs)) is ∙ ap (λ (xs : List ℕ). head ++ xs) (sym (entries_push records bytes more));
            ended = zeros_none more zeros;
            each = All-push IsRecord records bytes each is_record;
          };
          none_later = zeros_later more zeros;
        })
        by (inr none) = inl (inl record {
          front = record { rest = drop at image; split = split; ended = none; each = each };
          none_later = covered_later (entry bytes ++ replicate w.zeros 0) (drop at image) (entry_later bytes (replicate w.zeros 0) is_record (zero_at w.zeros)) covers;
        })

    pub append_clean : IsClean (overwritten at written file) (records ++ bytes ∷ [])
    append_clean =
        let front = head ++ entries records in
        let left = clean.zeros - length written in
        let behind : drop (at + length written) file ≡ replicate left 0 =
        sym (drop-drop (length written) at file) ∙ ap (λ (xs : List ℕ). drop (length written) xs) (rest_is records (replicate clean.zeros 0) file clean.split at place) ∙ drop-replicate (length written) clean.zeros 0 in
        let zeros = replicate w.zeros 0 in
        record {
          zeros = w.zeros + left;
          split = ap (λ (xs : List ℕ). xs ++ written ++ drop (at + length written) file) (front_is records (replicate clean.zeros 0) file clean.split at place)
              ∙ ap (λ (xs : List ℕ). front ++ xs ++ drop (at + length written) file) w.is
              ∙ ap (λ (xs : List ℕ). front ++ (entry bytes ++ zeros) ++ xs) behind
              ∙ append_assoc front (entry bytes ++ zeros) (replicate left 0)
              ∙ ap (λ (xs : List ℕ). front ++ xs) (append_assoc (entry bytes) zeros (replicate left 0) ∙ ap (λ (xs : List ℕ). entry bytes ++ xs) (replicate-append-replicate w.zeros left 0))
              ∙ append_assoc head (entries records) (entry bytes ++ replicate (w.zeros + left) 0)
              ∙ ap (λ (xs : List ℕ). head ++ xs) (sym (entries_push records bytes (replicate (w.zeros + left) 0)));
        }

pub append_place : (records : List (List ℕ)) (at : ℕ) → at ≡ length head + length (entries records) → (bytes : List ℕ) → at + length (entry bytes) ≡ length head + length (entries (records ++ bytes ∷ []))
append_place records at place bytes =
    let more : length (entries (records ++ bytes ∷ []) ++ []) ≡ length (entries records ++ (entry bytes ++ [])) = ap length (entries_push records bytes []) in
    omega (arith, place, more, length-append (entries (records ++ bytes ∷ [])) [], length-append (entries records) (entry bytes ++ []), length-append (entry bytes) [])

pub written_long : (bytes written : List ℕ) → IsWritten bytes written → length (entry bytes) ≤ length written
written_long bytes written w = omega (arith, ap length w.is, length-append (entry bytes) (replicate w.zeros 0))

-- ---- the head is written

pub begun_clean : (file : List ℕ) → IsBegun file → IsClean (overwritten 0 head file) []
begun_clean file begun =
    let past = drop 8 file in
    let zeros : past ≡ replicate (length past) 0 = all_zero past (λ i. get_or-drop 8 file i 0 ∙ ⊎_elim (λ e. e) (λ e. e ∙ get_or_past head (8 + i) 0 (omega arith)) (begun (8 + i))) in
    record { zeros = length past; split = ap (λ (xs : List ℕ). head ++ xs) zeros }

pub begun_keep : (file image : List ℕ) → IsBegun file → Mixed 0 head file image → IsBegun image
begun_keep file image begun m i = subst (λ (k : ℕ). (byte_at image k ≡ 0) ⊎ (byte_at image k ≡ byte_at head i)) there (by (mixed_byte 0 head file image m i))
  where
    there : 0 + i ≡ i
    there = omega arith

    by : (byte_at image (0 + i) ≡ byte_at file (0 + i)) ⊎ (byte_at image (0 + i) ≡ byte_at head i) → (byte_at image (0 + i) ≡ 0) ⊎ (byte_at image (0 + i) ≡ byte_at head i)
    by (inl e) = subst (λ (k : ℕ). (k ≡ 0) ⊎ (k ≡ byte_at head i)) (sym (e ∙ ap (λ (k : ℕ). byte_at file k) there)) (begun i)
    by (inr e) = inr e

-- ---- what is written as a journal is opened

pub begun_cleaning : (file : List ℕ) (records : List (List ℕ)) (end : ℕ) → IsFound file records end true → IsCleaning file records 0 head
begun_cleaning file records end (begun, none, place) = rw none record {
  within = omega arith;
  few = omega arith;
  reaches = omega arith;
  cleans = begun_clean file begun;
  keeps = λ image m. inr (begun_keep file image begun m, refl);
}

pub record_cleaning : (file : List ℕ) (records : List (List ℕ)) (end : ℕ) → IsFound file records end false → IsCleaning file records end (replicate (length file - end) 0)
record_cleaning file records end (has, place) = record {
  within = within records has.front.rest file has.front.split end place;
  few = omega (arith, length-replicate {A = ℕ} (length file - end) 0);
  reaches = omega (arith, place, within records has.front.rest file has.front.split end place);
  cleans = zeros_clean records has.front.rest file has.front.split end place;
  keeps = λ image m. inl (zeros_keep records has.front.rest file has.front.split end place (length file - end) image has.front.each has.front.ended has.none_later m);
}

-- ---- what is read as a journal is opened

place_of : (file : List ℕ) (records : List (List ℕ)) (rest : List ℕ) → file ≡ head ++ (entries records ++ rest) → length file - length rest ≡ length head + length (entries records)
place_of file records rest split = omega (arith, ap length split, length-append head (entries records ++ rest), length-append (entries records) rest)

pub read_found : (file : List ℕ) (records : List (List ℕ)) (rest : List ℕ) → file ≡ head ++ (entries records ++ rest) → All IsRecord records → BeginsNone rest → NoneLater rest → IsFound file records (length file - length rest) false
read_found file records rest split each none later = (record { front = record { rest = rest; split = split; ended = none; each = each }; none_later = later }, place_of file records rest split)

pub read_gap : (file : List ℕ) (records : List (List ℕ)) (rest : List ℕ) → file ≡ head ++ (entries records ++ rest) → All IsRecord records → BeginsNone rest → (i : ℕ) × (byte_at rest i ≡ 255) × (byte_at rest (i + 1) ≡ 1) × (byte_at rest (i + 2) ≢ 0) → IsBad file (length file - length rest)
read_gap file records rest split each none (i, mark, end, some) = inr record {
  records = records;
  front = record { rest = rest; split = split; ended = none; each = each };
  place = place_of file records rest split;
  later = i;
  mark = mark;
  end = end;
  some = some;
}

-- what was found the file holds
pub found_holds : (file : List ℕ) (records : List (List ℕ)) (end : ℕ) (begun : Bool) → IsFound file records end begun → Holds file records
found_holds file records end true (begun, none, place) = inr (begun, none)
found_holds file records end false (has, place) = inl has

-- a file that holds these records and stands for others stands for them as long as it holds these
pub stands_on : (file image : List ℕ) (found records : List (List ℕ)) (pending : Option (List ℕ)) → Holds file found → StandsFor records pending file → Holds image found → StandsFor records pending image
stands_on file image found records pending holds (inl same) now = inl (subst (λ (rs : List (List ℕ)). Holds image rs) (holds_one file found records holds same) now)
stands_on file image found records None holds (inr more) now = absurd more
stands_on file image found records (Some one_more) holds (inr more) now = inr (subst (λ (rs : List (List ℕ)). Holds image rs) (holds_one file found (records ++ one_more ∷ []) holds more) now)
