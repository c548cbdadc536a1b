-- What the bytes of a record give to the agreed values.
use Rattle.rex_world.proofs.Common.{◌≡◌, ℕ, ◌+◌, ◌≤◌, ◌<◌, Bool, true, false, List, [], ◌∷◌, ◌++◌, length, take, drop, Ok, Err, refl, sym, ap, subst, ◌∙◌, arith, add-one, append-nil, ◌⊎◌, inl, inr, ◌==◌, ◌&&◌, nat_le, if◌then◌else◌, eqb-true, KeptRec, Value, learned, learned_in, drop-cons}
use Rattle.std.specs.Prelude.{get_or}
use Rattle.std.specs.Int.{w8, w32, from_be_bytes}
use Rattle.std.proofs.lemmas.Bool.{le-leb}
use Rattle.rex_wire.specs.Reading.{Left, all_left, number_at}
use Rattle.std.proofs.lemmas.List.{drop-drop}
use Rattle.rex_wire.proofs.Fields.{bind_ok, test_ok}
use Rattle.rex_durable.specs.declared.records.Rec.TheVariants as rec
use Rattle.rex_durable.specs.declared.records.Standing.{Standing}
use Rattle.rex_durable.specs.Reading.{content_at, record_at, record_in}
use Rattle.rex_durable.proofs.KnownRead.{content_ok, is_known, IsKnownAt, IsNumber, IsOther, IsThree, length_drop, number_ok}
use Rattle.rex_world.specs.Agreed.{gives_next, instance_in, value_in}
use Rattle.std.proofs.Math.ListN.{drop_of_length-le}

-- ---- the bytes of a record

first_byte : (bytes : List ℕ) → 1 ≤ length bytes → from_be_bytes w8 (take 1 bytes) ≡ get_or bytes 0 0
first_byte [] l = absurd (omega arith)
first_byte (b ∷ bytes) l = refl

-- those of a known value say which instance it is of
pub record SaysKnown (s : Standing) (bytes : List ℕ) (i : ℕ) (v : Value) : Type 0 where
  pub due : i ≡ s.count + 1
  pub gives : (count : ℕ) → gives_next count bytes ≡ (i == count + 1)
  pub value : value_in bytes ≡ v

pub record SaysOther (bytes : List ℕ) (r : KeptRec) : Type 0 where
  pub known_not : is_known r ≡ false
  pub gives : (count : ℕ) → gives_next count bytes ≡ false

abbrev Says : Standing → List ℕ → KeptRec → Type 0
Says s bytes (rec.Known i v) = SaysKnown s bytes i v
Says s bytes r = SaysOther bytes r

other_says : (s : Standing) {bytes : List ℕ} (r : KeptRec) → is_known r ≡ false → SaysOther bytes r → Says s bytes r
other_says s (rec.Promised b) e h = h
other_says s (rec.Accepted b i v) e h = h
other_says s (rec.Known i v) e h = absurd (let no : true ≡ false = e in cc)
other_says s (rec.Checkpoint k v) e h = h
other_says s (rec.Dropped k) e h = h
other_says s (rec.Transferred k v) e h = h

no_more : (xs : List ℕ) → (length xs == 0) ≡ true → xs ≡ []
no_more [] e = refl
no_more (x ∷ xs) e = absurd (omega (arith, eqb-true (length (x ∷ xs)) 0 e))

module _ (s : Standing) (bytes : List ℕ) where
  three_says : {code : ℕ × Left} {x : KeptRec × Left} {r : KeptRec} → IsNumber w8 (all_left bytes) code → (length x.1.rest == 0) ≡ true → x.0 ≡ r → IsThree s code.0 code.1 x → Says s bytes r
  three_says {code} {x} number none same h = subst (Says s bytes) (sym k.is ∙ same) known
    where
      k : IsKnownAt s code.1 x
      k = h.at

      rest : code.1.rest ≡ drop 1 bytes
      rest = ap (λ y. y.1.rest) number.is

      long : 9 ≤ length bytes
      long = let n = length_drop bytes number.long in let l = k.long in omega (arith, n, l, ap length rest)

      kind : (get_or bytes 0 0 == 3) ≡ true
      kind = ap (λ n. n == 3) (sym (first_byte bytes number.long) ∙ ap (λ y. y.0) (sym number.is)) ∙ h.code_is

      instance_is : instance_in bytes ≡ k.instance
      instance_is = ap (λ xs. from_be_bytes w32 (take 4 xs)) (sym rest) ∙ k.instance_is

      value_is : value_in bytes ≡ k.value
      value_is =
          sym (drop-drop 4 5 bytes) ∙ ap (drop 4) (sym (drop-drop 4 1 bytes)) ∙ ap (λ xs. drop 4 (drop 4 xs)) (sym rest) ∙ sym k.parts
          ∙ ap (λ xs. k.value ++ xs) (no_more x.1.rest none) ∙ append-nil k.value

      known : SaysKnown s bytes k.instance k.value
      known = record {
        due = k.due;
        gives = λ count. rw (le-leb 9 (length bytes) long, kind, instance_is) refl;
        value = value_is;
      }

  other_gives : {code : ℕ × Left} → IsNumber w8 (all_left bytes) code → (code.0 == 3) ≡ false → (count : ℕ) → gives_next count bytes ≡ false
  other_gives number e count =
      let kind : (get_or bytes 0 0 == 3) ≡ false = ap (λ n. n == 3) (sym (first_byte bytes number.long) ∙ ap (λ y. y.0) (sym number.is)) ∙ e in
      ap (λ b. nat_le 9 (length bytes) && (b && instance_in bytes == count + 1)) kind ∙ nothing (nat_le 9 (length bytes))
    where
      nothing : (b : Bool) → (b && false) ≡ false
      nothing true = refl
      nothing false = refl

  pub says : {r : KeptRec} → record_in s bytes ≡ Ok r → Says s bytes r
  unfolding record_in record_at
  says {r} e =
      let w = bind_ok (record_at s (all_left bytes)) (λ x. if length x.1.rest == 0 then Ok x.0 else Err x.1.at) r e in
      let t = test_ok (length w.0.1.rest == 0) w.0.1.at w.0.0 r w.2 in
      let c = bind_ok (number_at w8 (all_left bytes)) (λ code. content_at s 0 code.0 code.1) w.0 w.1 in
      let number = number_ok c.1 in
      by c.0 w.0 number t.0 t.1 (content_ok 0 c.0.0 c.0.1 w.0 c.2)
    where
      by : (code : ℕ × Left) (x : KeptRec × Left) → IsNumber w8 (all_left bytes) code → (length x.1.rest == 0) ≡ true → x.0 ≡ r → IsThree s code.0 code.1 x ⊎ IsOther code.0 x → Says s bytes r
      by code x number none same (inl h) = three_says number none same h
      by code x number none same (inr h) =
          let not : is_known r ≡ false = subst (λ q. is_known q ≡ false) same h.known_not in
          other_says s r not (record { known_not = not; gives = other_gives number h.code_is })

-- ---- the agreed values

-- how they grow by a record
abbrev pub learned_of : List Value → KeptRec → List Value
learned_of values (rec.Known i v) = if i == length values + 1 then values ++ v ∷ [] else values
learned_of values _ = values

pub learned_as : (s : Standing) (bytes : List ℕ) {r : KeptRec} (values : List Value) → record_in s bytes ≡ Ok r → learned_in values bytes ≡ learned_of values r
learned_as s bytes {r} values e = by r (says s bytes e)
  where
    other : (q : KeptRec) → SaysOther bytes q → learned_in values bytes ≡ values
    other q h = ap (λ b. if b then values ++ value_in bytes ∷ [] else values) (h.gives (length values))

    by : (q : KeptRec) → Says s bytes q → learned_in values bytes ≡ learned_of values q
    by (rec.Known i v) h =
        ap (λ b. if b then values ++ value_in bytes ∷ [] else values) (h.gives (length values))
        ∙ ap (λ x. if i == length values + 1 then values ++ x ∷ [] else values) h.value
    by (rec.Promised b) h = other (rec.Promised b) h
    by (rec.Accepted b i v) h = other (rec.Accepted b i v) h
    by (rec.Checkpoint k v) h = other (rec.Checkpoint k v) h
    by (rec.Dropped k) h = other (rec.Dropped k) h
    by (rec.Transferred k v) h = other (rec.Transferred k v) h

-- a known value is of the instance after those that are known before
pub known_due : (s : Standing) (bytes : List ℕ) {i : ℕ} {v : Value} → record_in s bytes ≡ Ok (rec.Known i v) → i ≡ s.count + 1
known_due s bytes {i} {v} e = (says s bytes e).due

-- ---- records one after the other

-- one record more was taken in
pub learned_next : (values : List Value) {now : List Value} (records : List (List ℕ)) {i : ℕ} {bytes : List ℕ} (d : List ℕ) → i < length records → bytes ≡ get_or records i d → now ≡ learned_in values bytes → learned now (drop (i + 1) records) ≡ learned values (drop i records)
learned_next values records {i} d l is e =
    ap (λ vs. learned vs (drop (i + 1) records)) (e ∙ ap (learned_in values) is)
    ∙ ap (λ k. learned (learned_in values (get_or records i d)) (drop k records)) (add-one i)
    ∙ sym (ap (learned values) (drop-cons records i d l))

-- all were taken in
pub learned_end : {values : List Value} (records : List (List ℕ)) {i : ℕ} → length records ≤ i → learned values (drop i records) ≡ values
learned_end {values} records l = ap (learned values) (drop_of_length-le records l)
