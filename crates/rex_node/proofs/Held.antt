-- What the records of a keeper hold.
use Rattle.rex_node.proofs.Common.{◌≡◌, ℕ, suc, ◌+◌, ◌-◌, ◌^◌, ◌<◌, Bool, true, false, List, [], ◌∷◌, ◌++◌, length, take, drop, take-append-drop, get_or, Result, Ok, Err, Option, Some, None, ◌⊎◌, inl, inr, refl, sym, ap, subst, ◌∙◌, arith, fold, nat_lt, IsOk, slice_index_or, if◌then◌else◌, length-map, take_more, fold_push, Declarations, delta_in, state_in, Transferred, HasSpelling, record_bytes, Spell, Recovered, Saved, checkpoint_in, snapshot_of, StateValue, filter_map, same_Some, Place, IsFound, IsSaved, bad_at, bad_in, ends_old, first_bad, has_state, old_in, place_or, state_at}
use Rattle.std.proofs.Common.{drop-cons}
use Rattle.std.specs.Prelude.{not, ◌||◌}
use Rattle.std.proofs.Math.Seq.{drop-length}
use Rattle.std.proofs.lemmas.List.{get_or-map}
use Rattle.std.proofs.lemmas.Nat.{from_be_bytes-to_be_bytes_4}
use Rattle.rex_durable.specs.declared.records.Rec.{Rec}
use Rattle.rex_durable.specs.declared.records.Rec.TheVariants.{Promised, Known, Checkpoint}
use Rattle.rex_durable.specs.Recovery.{checkpoint, offset}
use Rattle.rex_node.specs.Restarting.{IsRead, bad_behind, is_held, is_state, old_behind}
use Rattle.rex_node.specs.Stated.{is_state_kind}

-- ---- one record

-- no list of fewer bytes says an instance
pub short_isn't_held : (offset : ℕ) (bytes : List ℕ) → length bytes < 5 → is_held offset bytes ≡ false
short_isn't_held offset (k ∷ a ∷ b ∷ c ∷ d ∷ content) l = absurd (omega arith)
short_isn't_held offset _ l = refl

-- the instance of a known value is above the offset or isn't
known_held : (offset : ℕ) {instance : ℕ} {value : List ℕ} → HasSpelling (Known instance value) → is_held offset (record_bytes (Known instance value)) ≡ nat_lt offset instance
known_held offset {instance} s =
    let few : instance < 2 ^ 32 = (let last = s.in_range.0.last in omega arith) in
    ap (λ n. nat_lt offset n) (from_be_bytes-to_be_bytes_4 instance few)

-- a state is looked into where none comes behind it
only_last : (later : Bool) {last bad : Option ℕ} → (later ≡ false → last ≡ bad) → (if not later then last else None) ≡ (if later then None else bad)
only_last true h = refl
only_last false h = h refl

-- a record with a state, behind which none comes, is the one whose state was read, and this is where that is bad, if it is
abbrev pub IsLast : Declarations → Option ℕ → Rec → List Rec → Type 0
IsLast service last r rs = (saved : Saved) → checkpoint_in r ≡ Some saved → has_state rs ≡ false → last ≡ bad_at (state_in service saved.snapshot)

-- what a record holds is bad where the record is
pub bad_is : (service : Declarations) (offset : ℕ) {last : Option ℕ} (r : Rec) (rs : List Rec) → HasSpelling r → IsLast service last r rs
    → bad_behind last (get_or (record_bytes r) 0 0) (is_held offset (record_bytes r)) (drop 9 (record_bytes r)) (has_state rs) ≡ bad_in service offset r rs
bad_is service offset (Known instance value) rs s h =
    ap (λ held. if held then bad_at (delta_in value) else None) (known_held offset s)
bad_is service offset {last} (Checkpoint deltas snapshot) rs s h =
    only_last _ (h (record { deltas = deltas; snapshot = snapshot }) refl)
bad_is service offset {last} (Transferred deltas snapshot) rs s h =
    only_last _ (h (record { deltas = deltas; snapshot = snapshot }) refl)
bad_is service offset _ rs s h = refl

-- ---- the last state that records have

-- the one before them, where they have none
none_later : (rs : List Rec) {before : Option Saved} → has_state rs ≡ false → fold (λ (b : Option Saved) x. Some x) before (filter_map checkpoint_in rs) ≡ before
none_later [] e = refl
none_later (Checkpoint deltas snapshot ∷ rs) e = absurd (cc)
none_later (Transferred deltas snapshot ∷ rs) e = absurd (cc)
none_later (_ ∷ rs) e = none_later rs e

-- that of a record behind which none comes
last_later : (front : List Rec) (r : Rec) (rs : List Rec) {saved : Saved} (before : Option Saved) → checkpoint_in r ≡ Some saved → has_state rs ≡ false
    → fold (λ (b : Option Saved) x. Some x) before (filter_map checkpoint_in (front ++ r ∷ rs)) ≡ Some saved
last_later [] (Checkpoint deltas snapshot) rs before is e = none_later rs e ∙ is
last_later [] (Transferred deltas snapshot) rs before is e = none_later rs e ∙ is
last_later [] _ rs before is e = absurd (cc)
last_later (Checkpoint deltas snapshot ∷ front) r rs before is e = last_later front r rs _ is e
last_later (Transferred deltas snapshot ∷ front) r rs before is e = last_later front r rs _ is e
last_later (_ ∷ front) r rs before is e = last_later front r rs before is e

-- so it is the one that was read
pub is_last : (service : Declarations) {last : Option ℕ} {all : List Rec} (front : List Rec) (r : Rec) (rs : List Rec) → all ≡ front ++ r ∷ rs → last ≡ bad_at (state_at service (snapshot_of (checkpoint all)))
    → IsLast service last r rs
is_last service {all} front r rs parts read = λ saved is none.
    let found : checkpoint all ≡ Some saved = ap checkpoint parts ∙ last_later front r rs None is none in
    read ∙ ap (λ o. bad_at (state_at service (snapshot_of o))) found

-- so is the version of the last checkpoint, if there is one, where this record is the last one
old_is : (before : Bool) (r : Rec) → old_behind before (get_or (record_bytes r) 0 0) (drop 9 (record_bytes r)) ≡ old_in before r
old_is before (Promised ballot) = refl
old_is before _ = refl

-- and whether a state comes behind the record, or is in it
kind_of : (r : Rec) (later : Bool) → (later || is_state_kind (get_or (record_bytes r) 0 0)) ≡ (if is_state r then true else later)
kind_of (Promised ballot) true = refl
kind_of (Promised ballot) false = refl
kind_of _ true = refl
kind_of _ false = refl

-- ---- one list of bytes

module _ {kept : List (List ℕ)} {rs : List Rec} (s : Spell kept rs) where
  -- there are as many records
  pub many : length kept ≡ length rs
  many = ap length s.bytes ∙ length-map rs record_bytes

  -- each list of bytes spells its record
  pub spelled_at : {index : ℕ} (d : Rec) → index < length rs → slice_index_or kept index [] ≡ record_bytes (get_or rs index d)
  spelled_at {index} d there = ap (λ lists. slice_index_or lists index []) s.bytes ∙ get_or-map record_bytes rs index d [] there

-- ---- from the last record on

-- the last records, so many, were looked into: this is the first bad place in them, where the last state is bad here, if it is; and whether one with a state is among them
pub record IsLooked (offset : ℕ) (kept : List (List ℕ)) (last : Option ℕ) (back : ℕ) (found : Option Place) (later : Bool) : Type 0 where
  pub bad : (service : Declarations) (rs : List Rec) → Spell kept rs → last ≡ bad_at (state_at service (snapshot_of (checkpoint rs)))
      → found ≡ first_bad service offset (suc (length rs - back)) (drop (length rs - back) rs)
  pub more : (rs : List Rec) → Spell kept rs → later ≡ has_state (drop (length rs - back) rs)

pub looked_none : {offset : ℕ} {kept : List (List ℕ)} {last : Option ℕ} → IsLooked offset kept last 0 None false
looked_none {offset} = record {
  bad = λ service rs h read. ap (first_bad service offset (suc (length rs - 0))) (sym (none_left rs));
  more = λ rs h. ap has_state (sym (none_left rs));
}
  where
    none_left : (rs : List Rec) → drop (length rs - 0) rs ≡ []
    none_left rs = ap (λ n. drop n rs) (let e : length rs - 0 ≡ length rs = omega arith in e) ∙ drop-length rs

module _ {offset : ℕ} {kept : List (List ℕ)} {last : Option ℕ} {back index : ℕ} {found now : Option Place} {later now_later : Bool} {bytes : List ℕ} {bad : Option ℕ} (h : IsLooked offset kept last back found later)
    (few : back < length kept) (index_is : index ≡ length kept - 1 - back) (bytes_are : bytes ≡ slice_index_or kept index [])
    (bad_is_so : bad ≡ bad_behind last (get_or bytes 0 0) (is_held offset bytes) (drop 9 bytes) later)
    (now_is : now ≡ place_or (index + 1) bad found) (then_is : now_later ≡ (later || is_state_kind (get_or bytes 0 0))) where
  module _ (rs : List Rec) (s : Spell kept rs) where
    abbrev d : Rec
    d = Promised 0

    -- the records that were looked into
    abbrev behind : List Rec
    behind = drop (length rs - back) rs

    long : length kept ≡ length rs
    long = many s

    there : index < length rs
    there = omega (arith, few, index_is, long)

    abbrev r : Rec
    r = get_or rs index d

    spelling : HasSpelling r
    spelling = (s.records.each index d there).spelling

    spelled : bytes ≡ record_bytes r
    spelled = bytes_are ∙ spelled_at s d there

    after : length rs - back ≡ suc index
    after = omega (arith, few, index_is, long)

    at : length rs - (back + 1) ≡ index
    at = omega (arith, few, index_is, long)

    from_here : drop index rs ≡ r ∷ behind
    from_here = drop-cons rs index d there ∙ ap (λ n. r ∷ drop n rs) (sym after)

    parts : drop (length rs - (back + 1)) rs ≡ r ∷ behind
    parts = ap (λ n. drop n rs) at ∙ from_here

    whole : rs ≡ take index rs ++ r ∷ behind
    whole = sym (take-append-drop index rs) ∙ ap (λ others. take index rs ++ others) from_here

    more_now : now_later ≡ has_state (drop (length rs - (back + 1)) rs)
    more_now =
        then_is ∙ ap (λ b. later || is_state_kind (get_or b 0 0)) spelled ∙ kind_of r later ∙ ap (λ t. if is_state r then true else t) (h.more rs s)
        ∙ ap has_state (sym parts)

    module _ (service : Declarations) (read : last ≡ bad_at (state_at service (snapshot_of (checkpoint rs)))) where
      bad_here : bad ≡ bad_in service offset r behind
      bad_here =
          bad_is_so ∙ ap (λ b. bad_behind last (get_or b 0 0) (is_held offset b) (drop 9 b) later) spelled
          ∙ ap (bad_behind last (get_or (record_bytes r) 0 0) (is_held offset (record_bytes r)) (drop 9 (record_bytes r))) (h.more rs s)
          ∙ bad_is service offset r _ spelling (is_last service _ r _ whole read)

      bad_now : now ≡ first_bad service offset (suc (length rs - (back + 1))) (drop (length rs - (back + 1)) rs)
      bad_now =
          now_is ∙ ap (λ o. place_or (index + 1) o found) bad_here ∙ ap (place_or (index + 1) (bad_in service offset r behind)) (h.bad service rs s read)
          ∙ ap (λ n. place_or n (bad_in service offset r behind) (first_bad service offset (suc (length rs - back)) behind)) (let e : index + 1 ≡ suc (length rs - (back + 1)) = omega (arith, at) in e)
          ∙ ap (λ n. place_or (suc (length rs - (back + 1))) (bad_in service offset r behind) (first_bad service offset (suc n) behind)) (let e : length rs - back ≡ suc (length rs - (back + 1)) = omega (arith, at, after) in e)
          ∙ ap (first_bad service offset (suc (length rs - (back + 1)))) (sym parts)

  pub looked_more : IsLooked offset kept last (back + 1) now now_later
  looked_more = record { bad = λ service rs s read. bad_now rs s service read; more = more_now }

-- ---- from the first record on

-- the first records, so many, were looked into: whether the last checkpoint among them is in the old version
pub record EndsSo (kept : List (List ℕ)) (index : ℕ) (old : Bool) : Type 0 where
  pub is : (rs : List Rec) → Spell kept rs → old ≡ ends_old (take index rs)

pub ends_more : {kept : List (List ℕ)} {index : ℕ} {before after : Bool} {bytes : List ℕ} → EndsSo kept index before → index < length kept → bytes ≡ slice_index_or kept index []
    → after ≡ old_behind before (get_or bytes 0 0) (drop 9 bytes) → EndsSo kept (index + 1) after
ends_more {kept} {index} {before} {after} h lt bytes_are e = record { is = is }
  where
    is : (rs : List Rec) → Spell kept rs → after ≡ ends_old (take (index + 1) rs)
    is rs s =
        let d = Promised 0 in
        let there : index < length rs = omega (arith, lt, many s) in
        let r = get_or rs index d in
        e ∙ ap (λ b. old_behind before (get_or b 0 0) (drop 9 b)) (bytes_are ∙ spelled_at s d there)
        ∙ old_is before r ∙ ap (λ b. old_in b r) (h.is rs s) ∙ sym (fold_push old_in false (take index rs) r)
        ∙ ap (λ others. ends_old others) (sym (take_more rs index d there))

-- ---- the last state

none_of : (number : ℕ) (o : Option ℕ) {later : Option Place} → place_or number o later ≡ None → (o ≡ None) × (later ≡ None)
none_of number None e = (refl, e)
none_of number (Some at) e = absurd (cc)

good_of : (q : Result StateValue ℕ) → bad_at q ≡ None → IsOk q
good_of (Ok s) e = refl
good_of (Err at) e = absurd (cc)

-- the last snapshot spells a state, unless it stands before these records
abbrev IsGood : Declarations → List Rec → Option Saved → Saved → Type 0
IsGood service rs before saved = ((has_state rs ≡ false) × (before ≡ Some saved)) ⊎ IsOk (state_in service saved.snapshot)

-- so it does with a record more before them that has a state
good_more : (service : Declarations) {deltas : ℕ} {snapshot : List ℕ} (rs : List Rec) {saved : Saved} → (if has_state rs then None else bad_at (state_in service snapshot)) ≡ None
    → IsGood service rs (Some (record { deltas = deltas; snapshot = snapshot })) saved → IsOk (state_in service saved.snapshot)
good_more service {snapshot} rs {saved} none (inl h) =
    let here : bad_at (state_in service snapshot) ≡ None = ap (λ t. if t then None else bad_at (state_in service snapshot)) (sym h.0) ∙ none in
    let same : snapshot ≡ saved.snapshot = ap (λ x. x.snapshot) (same_Some _ saved h.1) in
    subst (λ bytes. IsOk (state_in service bytes)) same (good_of _ here)
good_more service rs none (inr h) = h

-- where no record is bad, the last snapshot spells a state, unless it stands before them
last_good : (service : Declarations) (offset : ℕ) (rs : List Rec) (n : ℕ) {before : Option Saved} {saved : Saved} → first_bad service offset n rs ≡ None
    → fold (λ (b : Option Saved) x. Some x) before (filter_map checkpoint_in rs) ≡ Some saved → IsGood service rs before saved
last_good service offset [] n good e = inl (refl, e)
last_good service offset (Known instance value ∷ rs) n {before} {saved} good e =
    last_good service offset rs (suc n) (none_of n _ good).1 e
last_good service offset (Checkpoint deltas snapshot ∷ rs) n {saved} good e =
    let parts = none_of n _ good in
    inr (good_more service rs parts.0 (last_good service offset rs (suc n) parts.1 e))
last_good service offset (Transferred deltas snapshot ∷ rs) n {saved} good e =
    let parts = none_of n _ good in
    inr (good_more service rs parts.0 (last_good service offset rs (suc n) parts.1 e))
last_good service offset (_ ∷ rs) n good e = last_good service offset rs (suc n) good e

-- so it is of all records
pub saved_good : (service : Declarations) (offset : ℕ) (rs : List Rec) {snapshot : List ℕ} → first_bad service offset 1 rs ≡ None → snapshot_of (checkpoint rs) ≡ Some snapshot → IsOk (state_in service snapshot)
saved_good service offset rs {snapshot} good e = by (checkpoint rs) refl e
  where
    or_none : (saved : Saved) → IsGood service rs None saved → IsOk (state_in service saved.snapshot)
    or_none saved (inl h) = let f = h.1 in absurd (cc)
    or_none saved (inr h) = h

    by : (o : Option Saved) → checkpoint rs ≡ o → snapshot_of o ≡ Some snapshot → IsOk (state_in service snapshot)
    by None f g = absurd (cc)
    by (Some saved) f g = subst (λ bytes. IsOk (state_in service bytes)) (same_Some saved.snapshot snapshot g) (or_none saved (last_good service offset rs 1 good f))

-- so the state that was read isn't bad
pub read_good : (service : Declarations) (offset : ℕ) (rs : List Rec) → first_bad service offset 1 rs ≡ None → bad_at (state_at service (snapshot_of (checkpoint rs))) ≡ None
read_good service offset rs good = by (snapshot_of (checkpoint rs)) refl
  where
    fine : (q : Result StateValue ℕ) → IsOk q → bad_at q ≡ None
    fine (Ok s) h = refl
    fine (Err e) h = absurd (cc)

    by : (o : Option (List ℕ)) → snapshot_of (checkpoint rs) ≡ o → bad_at (state_at service o) ≡ None
    by None e = refl
    by (Some snapshot) e = fine (state_in service snapshot) (saved_good service offset rs good e)

-- ---- records that were read

module _ (service : Declarations) {kept : List (List ℕ)} {x : Recovered} (r : IsRead kept x) where
  pub none_bad : {found : Option Place} → found ≡ first_bad service x.offset 1 r.rs → found ≡ None → IsFound service kept x
  none_bad is none = record { read = r; good = ap (λ y. first_bad service y.offset 1 r.rs) (sym r.is) ∙ sym is ∙ none }

  -- so it isn't bad where no record is
  pub not_bad : (at : ℕ) → IsFound service kept x → Err at ≡ state_at service x.snapshot → ⊥
  not_bad at f is = some_none (read_last_of f ∙ read_good service _ f.read.rs f.good)
    where
      read_last_of : (f : IsFound service kept x) → bad_at {A = StateValue} (Err at) ≡ bad_at (state_at service (snapshot_of (checkpoint f.read.rs)))
      read_last_of f = ap bad_at is ∙ ap (λ y. bad_at (state_at service y.snapshot)) f.read.is

      some_none : bad_at {A = StateValue} (Err at) ≡ None → ⊥
      some_none e = cc

pub saved_so : (service : Declarations) (snapshot : Option (List ℕ)) {s : StateValue} → Ok s ≡ state_at service snapshot → IsSaved service snapshot s
saved_so service None e = cc
saved_so service (Some bytes) e = sym e
