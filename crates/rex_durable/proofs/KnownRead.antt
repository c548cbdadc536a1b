-- Bytes that are read as a record: what they say where it is one of a known value, and that its kind is the third just then.
use Rattle.std.proofs.Common.{◌≡◌, ℕ, ◌+◌, ◌≤◌, Bool, true, false, List, ◌++◌, length, take, drop, Ok, Err, refl, sym, ap, subst, ◌∙◌, arith, take-append-drop, ◌⊎◌, inl, inr}
use Rattle.std.specs.Prelude.{◌==◌, ◌&&◌, if◌then◌else◌, max, nat_lt}
use Rattle.std.specs.Int.{Width, w32, w64, byte_len, from_be_bytes}
use Rattle.std.proofs.lemmas.Bool.{eqb-true, ltb-false}
use Rattle.std.proofs.lemmas.List.{length-drop}
use Rattle.rex_wire.specs.Reading.{◌>>=◌, Left, Reading, past, number_at, allowed_at, bytes_at, value_at, is_length}
use Rattle.rex_wire.specs.Ranges.{is_between}
use Rattle.rex_wire.proofs.Fields.{bind_ok, guard_ok, test_ok}
use Rattle.rex_ballot.specs.Ballot.{is_ballot, is_instance}
use Rattle.rex_durable.specs.declared.records.Rec.{Rec}
use Rattle.rex_durable.specs.declared.records.Rec.TheVariants as rec
use Rattle.rex_durable.specs.declared.records.Standing.{Standing}
use Rattle.rex_durable.specs.Reading.{promised_at, accepted_at, known_at, checkpoint_at, dropped_at, transferred_at, content_at}
use Rattle.rex_durable.proofs.Allowed.{next-true}

-- ---- fields

-- a number that was read
pub record IsNumber (w : Width) (l : Left) (x : ℕ × Left) : Type 0 where
  pub long : byte_len w ≤ length l.rest
  pub is : x ≡ (from_be_bytes w (take (byte_len w) l.rest), past (byte_len w) l)

pub number_ok : {w : Width} {l : Left} {x : ℕ × Left} → number_at w l ≡ Ok x → IsNumber w l x
number_ok {w} {l} {x} e =
    let g = guard_ok (nat_lt (length l.rest) (byte_len w)) l.at (from_be_bytes w (take (byte_len w) l.rest), past (byte_len w) l) x e in
    record { long = ltb-false (length l.rest) (byte_len w) g.0; is = sym g.1 }

-- one that is allowed
record IsAllowed (w : Width) (may : ℕ → Bool) (l : Left) (x : ℕ × Left) : Type 0 where
  number : IsNumber w l x
  may_be : may x.0 ≡ true

allowed_ok : (w : Width) (may : ℕ → Bool) (l : Left) {x : ℕ × Left} → allowed_at w may l ≡ Ok x → IsAllowed w may l x
allowed_ok w may l {x} e =
    let b = bind_ok (number_at w l) (λ n. if may n.0 then Ok n else Err l.at) x e in
    let t = test_ok (may b.0.0) l.at b.0 x b.2 in
    record { number = subst (IsNumber w l) t.1 (number_ok b.1); may_be = subst (λ y. may y.0 ≡ true) t.1 t.0 }

-- a value that was read, with what is left after it, is what stands behind its length
record IsValueAt (l : Left) (x : List ℕ × Left) : Type 0 where
  long : 4 ≤ length l.rest
  parts : x.0 ++ x.1.rest ≡ drop 4 l.rest

value_ok : {l : Left} {x : List ℕ × Left} → value_at l ≡ Ok x → IsValueAt l x
unfolding value_at
value_ok {l} {x} e =
    let b = bind_ok (allowed_at w32 is_length l) (λ count. bytes_at count.0 count.1) x e in
    let a = allowed_ok w32 is_length l b.1 in
    let g = guard_ok (nat_lt (length b.0.1.rest) b.0.0) b.0.1.at (take b.0.0 b.0.1.rest, past b.0.0 b.0.1) x b.2 in
    record {
      long = a.number.long;
      parts = ap (λ y. y.0 ++ y.1.rest) (sym g.1) ∙ take-append-drop b.0.0 b.0.1.rest ∙ ap (λ y. y.1.rest) a.number.is;
    }

-- ---- a record

-- a record of a known value that was read
pub record IsKnownAt (s : Standing) (l : Left) (x : Rec × Left) : Type 0 where
  pub instance : ℕ
  pub value : List ℕ
  pub is : x.0 ≡ rec.Known instance value
  pub due : instance ≡ s.count + 1
  pub long : 8 ≤ length l.rest
  pub instance_is : from_be_bytes w32 (take 4 l.rest) ≡ instance
  pub parts : value ++ x.1.rest ≡ drop 4 (drop 4 l.rest)

pub length_drop : {n : ℕ} (xs : List ℕ) → n ≤ length xs → n + length (drop n xs) ≡ length xs
length_drop {n} xs l = let e = length-drop n xs in omega (arith, e)

known_ok : {s : Standing} {l : Left} {x : Rec × Left} → known_at s l ≡ Ok x → IsKnownAt s l x
unfolding known_at
known_ok {s} {l} {x} e =
    let b = bind_ok (allowed_at w32 (λ n. is_instance n && n == s.count + 1) l) (λ instance. value_at instance.1 >>= λ value. Ok (rec.Known instance.0 value.0, value.1)) x e in
    let a = allowed_ok w32 (λ n. is_instance n && n == s.count + 1) l b.1 in
    let c = bind_ok (value_at b.0.1) (λ value. Ok (rec.Known b.0.0 value.0, value.1)) x b.2 in
    let v = value_ok c.1 in
    let rest : b.0.1.rest ≡ drop 4 l.rest = ap (λ y. y.1.rest) a.number.is in
    let made : (rec.Known b.0.0 c.0.0, c.0.1) ≡ x = same_pair (rec.Known b.0.0 c.0.0, c.0.1) x c.2 in
    record {
      instance = b.0.0;
      value = c.0.0;
      is = ap (λ y. y.0) (sym made);
      due = (next-true s.count b.0.0 a.may_be).next;
      long = let n = length_drop l.rest a.number.long in omega (arith, n, v.long, ap length rest, a.number.long);
      instance_is = ap (λ y. y.0) (sym a.number.is);
      parts = ap (λ y. c.0.0 ++ y.1.rest) (sym made) ∙ v.parts ∙ ap (drop 4) rest;
    }
  where
    same_pair : (y z : Rec × Left) → ◌≡◌ {A = Reading Rec} (Ok y) (Ok z) → y ≡ z
    same_pair y z f = cc

-- the record is one of a known value
abbrev pub is_known : Rec → Bool
is_known (rec.Known i v) = true
is_known _ = false

abbrev read_of : Rec × Left → Reading Rec
read_of x = Ok x

made_other : {y x : Rec × Left} → read_of y ≡ read_of x → is_known y.0 ≡ false → is_known x.0 ≡ false
made_other {y} {x} e h = subst (λ z. is_known z.0 ≡ false) (let same : y ≡ x = cc in same) h

promised_other : (l : Left) {x : Rec × Left} → promised_at l ≡ Ok x → is_known x.0 ≡ false
unfolding promised_at
promised_other l {x} e =
    let a = bind_ok (allowed_at w64 is_ballot l) (λ ballot. Ok (rec.Promised ballot.0, ballot.1)) x e in
    made_other a.2 refl

accepted_other : (l : Left) {x : Rec × Left} → accepted_at l ≡ Ok x → is_known x.0 ≡ false
unfolding accepted_at
accepted_other l {x} e =
    let a = bind_ok (allowed_at w64 is_ballot l) (λ ballot. allowed_at w32 is_instance ballot.1 >>= λ instance. value_at instance.1 >>= λ value. Ok (rec.Accepted ballot.0 instance.0 value.0, value.1)) x e in
    let b = bind_ok (allowed_at w32 is_instance a.0.1) (λ instance. value_at instance.1 >>= λ value. Ok (rec.Accepted a.0.0 instance.0 value.0, value.1)) x a.2 in
    let c = bind_ok (value_at b.0.1) (λ value. Ok (rec.Accepted a.0.0 b.0.0 value.0, value.1)) x b.2 in
    made_other c.2 refl

checkpoint_other : (s : Standing) (l : Left) {x : Rec × Left} → checkpoint_at s l ≡ Ok x → is_known x.0 ≡ false
unfolding checkpoint_at
checkpoint_other s l {x} e =
    let a = bind_ok (allowed_at w32 (is_between (max 1 s.offset) s.count) l) (λ deltas. value_at deltas.1 >>= λ snapshot. Ok (rec.Checkpoint deltas.0 snapshot.0, snapshot.1)) x e in
    let b = bind_ok (value_at a.0.1) (λ snapshot. Ok (rec.Checkpoint a.0.0 snapshot.0, snapshot.1)) x a.2 in
    made_other b.2 refl

dropped_other : (s : Standing) (l : Left) {x : Rec × Left} → dropped_at s l ≡ Ok x → is_known x.0 ≡ false
unfolding dropped_at
dropped_other s l {x} e =
    let a = bind_ok (allowed_at w32 (λ n. is_instance n && (nat_lt s.offset n && n == s.base)) l) (λ deltas. Ok (rec.Dropped deltas.0, deltas.1)) x e in
    made_other a.2 refl

transferred_other : (s : Standing) (l : Left) {x : Rec × Left} → transferred_at s l ≡ Ok x → is_known x.0 ≡ false
unfolding transferred_at
transferred_other s l {x} e =
    let a = bind_ok (allowed_at w32 (λ n. is_instance n && nat_lt s.count n) l) (λ deltas. value_at deltas.1 >>= λ snapshot. Ok (rec.Transferred deltas.0 snapshot.0, snapshot.1)) x e in
    let b = bind_ok (value_at a.0.1) (λ snapshot. Ok (rec.Transferred a.0.0 snapshot.0, snapshot.1)) x a.2 in
    made_other b.2 refl

-- behind the number of its kind
pub record IsOther (code : ℕ) (x : Rec × Left) : Type 0 where
  pub code_is : (code == 3) ≡ false
  pub known_not : is_known x.0 ≡ false

pub record IsThree (s : Standing) (code : ℕ) (l : Left) (x : Rec × Left) : Type 0 where
  pub code_is : (code == 3) ≡ true
  pub at : IsKnownAt s l x

not_three : (code k : ℕ) → (code == k) ≡ true → (k == 3) ≡ false → (code == 3) ≡ false
not_three code k e f = ap (λ n. n == 3) (eqb-true code k e) ∙ f

pub content_ok : {s : Standing} (at code : ℕ) (l : Left) (x : Rec × Left) → content_at s at code l ≡ Ok x → IsThree s code l x ⊎ IsOther code x
content_ok {s} at code l x e = one (code == 1) refl e
  where
    six : (b : Bool) → (code == 6) ≡ b → (code == 3) ≡ false → (if b then transferred_at s l else Err at) ≡ Ok x → IsThree s code l x ⊎ IsOther code x
    six true f none h = inr (record { code_is = none; known_not = transferred_other s l h })
    six false f none h = absurd (let no : ◌≡◌ {A = Reading Rec} (Err at) (Ok x) = h in cc)

    five : (b : Bool) → (code == 5) ≡ b → (code == 3) ≡ false → (if b then dropped_at s l else if code == 6 then transferred_at s l else Err at) ≡ Ok x → IsThree s code l x ⊎ IsOther code x
    five true f none h = inr (record { code_is = none; known_not = dropped_other s l h })
    five false f none h = six (code == 6) refl none h

    four : (b : Bool) → (code == 4) ≡ b → (code == 3) ≡ false → (if b then checkpoint_at s l else if code == 5 then dropped_at s l else if code == 6 then transferred_at s l else Err at) ≡ Ok x → IsThree s code l x ⊎ IsOther code x
    four true f none h = inr (record { code_is = none; known_not = checkpoint_other s l h })
    four false f none h = five (code == 5) refl none h

    three : (b : Bool) → (code == 3) ≡ b → (if b then known_at s l else if code == 4 then checkpoint_at s l else if code == 5 then dropped_at s l else if code == 6 then transferred_at s l else Err at) ≡ Ok x → IsThree s code l x ⊎ IsOther code x
    three true f h = inl (record { code_is = f; at = known_ok h })
    three false f h = four (code == 4) refl f h

    two : (b : Bool) → (code == 2) ≡ b → (if b then accepted_at l else if code == 3 then known_at s l else if code == 4 then checkpoint_at s l else if code == 5 then dropped_at s l else if code == 6 then transferred_at s l else Err at) ≡ Ok x → IsThree s code l x ⊎ IsOther code x
    two true f h = inr (record { code_is = not_three code 2 f refl; known_not = accepted_other l h })
    two false f h = three (code == 3) refl h

    one : (b : Bool) → (code == 1) ≡ b → (if b then promised_at l else if code == 2 then accepted_at l else if code == 3 then known_at s l else if code == 4 then checkpoint_at s l else if code == 5 then dropped_at s l else if code == 6 then transferred_at s l else Err at) ≡ Ok x → IsThree s code l x ⊎ IsOther code x
    one true f h = inr (record { code_is = not_three code 1 f refl; known_not = promised_other l h })
    one false f h = two (code == 2) refl h
