-- What follows from how groups are laid out.
use Rattle.std.proofs.Common.{◌≡◌, inl, inr, ℕ, ◌+◌, ◌-◌, ◌<◌, ◌≤◌, ltb, List, [], ◌∷◌, ◌++◌, length, take, drop, Ok, refl, sym, ◌∙◌, ap, subst, arith, append_assoc, length-append}
use Rattle.std.specs.Prelude.{slice_range}
use Rattle.std.proofs.Math.Seq.{take-add}
use Rattle.std.proofs.lemmas.Bool.{ltb-false}
use Rattle.std.specs.Int.{w32, to_be_bytes, from_be_bytes}
use Rattle.std.specs.List.{All, flat_map}
use Rattle.std.proofs.lemmas.List.{append-nil, drop_at, length-take-le, take_at}
use Rattle.std.proofs.lemmas.List.Elements.{All-head, All-tail}
use Rattle.rex_wire.specs.Spelling.{value_bytes}
use Rattle.rex_wire.specs.Reading.{Left, all_left, bytes_at, number_at, past}
use Rattle.rex_wire.proofs.Fields.{IsBytes, guard_ok}
use Rattle.rex_wire.proofs.Numbers.{number_spelled, wide32}
use Rattle.rex_group.specs.Laws.{HoldAllOne, HoldsOne}
use Rattle.rex_group.specs.Groups.{BeginsNone, BeginsWith, HoldAll, Holds, IsGroupOf, IsNoGroup, IsShort, group}

-- ---- one record after another

-- parts of the same length are the same
same_parts : (a b x y : List ℕ) → length a ≡ length b → a ++ x ≡ b ++ y → (a ≡ b) × (x ≡ y)
same_parts a b x y long is =
    (sym (take_at a x (length b) long) ∙ ap (λ (xs : List ℕ). take (length b) xs) is ∙ take_at b y (length b) refl, sym (drop_at a x (length b) long) ∙ ap (λ (xs : List ℕ). drop (length b) xs) is ∙ drop_at b y (length b) refl)

-- the bytes before a record tell how long it is
abbrev pub length_bytes : List ℕ → List ℕ
length_bytes r = to_be_bytes w32 (length r)

pub length_bytes_long : (r : List ℕ) → length (length_bytes r) ≡ 4
length_bytes_long r = wide32.long (length r)

same_value : (r s x y : List ℕ) → IsShort r → IsShort s → value_bytes r ++ x ≡ value_bytes s ++ y → (r ≡ s) × (x ≡ y)
same_value r s x y short_r short_s is =
    let front = same_parts (length_bytes r) (length_bytes s) (r ++ x) (s ++ y) (length_bytes_long r ∙ sym (length_bytes_long s)) (sym (append_assoc (length_bytes r) r x) ∙ is ∙ append_assoc (length_bytes s) s y) in
    let long : length r ≡ length s = sym (wide32.again (length r) short_r) ∙ ap (λ (xs : List ℕ). from_be_bytes w32 xs) front.0 ∙ wide32.again (length s) short_s in
    same_parts r s x y long front.1

-- a record behind its length has some bytes
some_bytes : (r x : List ℕ) → 4 + length r + length x ≡ length (value_bytes r ++ x)
some_bytes r x = omega (arith, length_bytes_long r, length-append (value_bytes r) x, length-append (length_bytes r) r)

-- ---- a group holds one list of records

same_values : (rs ss : List (List ℕ)) → All IsShort rs → All IsShort ss → flat_map value_bytes rs ≡ flat_map value_bytes ss → rs ≡ ss
same_values [] [] hr hs is = refl
same_values [] (s ∷ ss) hr hs is =
    let long : length {A = ℕ} [] ≡ length (value_bytes s ++ flat_map value_bytes ss) = ap length is in
    absurd (omega (arith, long, some_bytes s (flat_map value_bytes ss)))
same_values (r ∷ rs) [] hr hs is =
    let long : length (value_bytes r ++ flat_map value_bytes rs) ≡ length {A = ℕ} [] = ap length is in
    absurd (omega (arith, long, some_bytes r (flat_map value_bytes rs)))
same_values (r ∷ rs) (s ∷ ss) hr hs is =
    let both = same_value r s (flat_map value_bytes rs) (flat_map value_bytes ss) (All-head IsShort r rs hr) (All-head IsShort s ss hs) is in
    let rest = same_values rs ss (All-tail IsShort r rs hr) (All-tail IsShort s ss hs) both.1 in
    ap (λ (t : List ℕ). t ∷ rs) both.0 ∙ ap (λ (ts : List (List ℕ)). s ∷ ts) rest

same_group : (bytes : List ℕ) (rs ss : List (List ℕ)) → IsGroupOf bytes rs → IsGroupOf bytes ss → rs ≡ ss
same_group bytes rs ss a b = same_values rs ss a.short b.short (ap (λ (xs : List ℕ). drop 1 xs) (sym a.is ∙ b.is))

pub holds_one : HoldsOne
holds_one bytes rs ss (inl a) (inl b) = same_group bytes rs ss a b
holds_one bytes rs ss (inl a) (inr b) = absurd (b.0 rs a)
holds_one bytes rs ss (inr a) (inl b) = absurd (a.0 ss b)
holds_one bytes rs ss (inr a) (inr b) = a.1 ∙ sym b.1

pub hold_all_one : HoldAllOne
hold_all_one [] rs ss a b = a ∙ sym b
hold_all_one (bytes ∷ below) rs ss a b =
    let first = holds_one bytes a.0 b.0 a.2 b.2 in
    let others = hold_all_one below a.1 b.1 a.3 b.3 in
    a.4 ∙ ap (λ (xs : List (List ℕ)). xs ++ a.1) first ∙ ap (λ (xs : List (List ℕ)). b.0 ++ xs) others ∙ sym b.4

-- ---- what is no group

-- records with something behind them that begins with none
ended : (rs ss : List (List ℕ)) (rest : List ℕ) → All IsShort rs → All IsShort ss → flat_map value_bytes rs ++ rest ≡ flat_map value_bytes ss → 0 < length rest → BeginsNone rest → ⊥
ended [] [] rest hr hs is some none = let long : length rest ≡ length {A = ℕ} [] = ap length is in absurd (omega (arith, long, some))
ended [] (s ∷ ss) rest hr hs is some none = none s (flat_map value_bytes ss) (All-head IsShort s ss hs) is
ended (r ∷ rs) [] rest hr hs is some none =
    let long : length ((value_bytes r ++ flat_map value_bytes rs) ++ rest) ≡ length {A = ℕ} [] = ap length is in
    absurd (omega (arith, long, some, length-append (value_bytes r ++ flat_map value_bytes rs) rest))
ended (r ∷ rs) (s ∷ ss) rest hr hs is some none =
    let both = same_value r s (flat_map value_bytes rs ++ rest) (flat_map value_bytes ss) (All-head IsShort r rs hr) (All-head IsShort s ss hs) (sym (append_assoc (value_bytes r) (flat_map value_bytes rs) rest) ∙ is) in
    ended rs ss rest (All-tail IsShort r rs hr) (All-tail IsShort s ss hs) both.1 some none

pub no_group : (rs : List (List ℕ)) (bytes rest : List ℕ) → All IsShort rs → bytes ≡ group rs ++ rest → 0 < length rest → BeginsNone rest → IsNoGroup bytes
no_group rs bytes rest short is some none = λ ss g. ended rs ss rest short g.short (ap (λ (xs : List ℕ). drop 1 xs) (sym is ∙ g.is)) some none

-- ---- reading

-- what a reader takes for a record and its length stands there
pub reads_one : (bytes taken : List ℕ) (start mid end : Left) (count : ℕ) → IsBytes bytes → start ≡ all_left bytes → number_at w32 start ≡ Ok (count, mid) → bytes_at count mid ≡ Ok (taken, end) → BeginsWith bytes count
reads_one bytes taken start mid end count fits is number text =
    let at_start = subst (λ (l : Left). number_at w32 l ≡ Ok (count, mid)) is number in
    let t = (number_spelled wide32).takes (all_left bytes) (count, mid) fits at_start in
    let g = guard_ok (ltb (length mid.rest) count) mid.at (take count mid.rest, past count mid) (taken, end) text in
    let enough : count ≤ length mid.rest = ltb-false _ _ g.0 in
    let four : length (to_be_bytes w32 count) ≡ 4 = wide32.long count in
    let front : take 4 bytes ≡ to_be_bytes w32 count = ap (λ (xs : List ℕ). take 4 xs) t.0.parts ∙ take_at (to_be_bytes w32 count) mid.rest 4 four in
    let behind : drop 4 bytes ≡ mid.rest = ap (λ (xs : List ℕ). drop 4 xs) t.0.parts ∙ drop_at (to_be_bytes w32 count) mid.rest 4 four in
    let n : (4 + count) - 4 ≡ count = omega arith in
    let one : slice_range bytes 4 (4 + count) ≡ take count mid.rest = ap (λ (k : ℕ). take k (drop 4 bytes)) n ∙ ap (λ (xs : List ℕ). take count xs) behind in
    let long : length (slice_range bytes 4 (4 + count)) ≡ count = ap length one ∙ length-take-le count mid.rest enough in
    record {
      short = t.1;
      within = omega (arith, enough, four, ap length t.0.parts, length-append (to_be_bytes w32 count) mid.rest);
      front = take-add 4 count bytes ∙ ap (λ (xs : List ℕ). xs ++ take count (drop 4 bytes)) (front ∙ ap (λ (k : ℕ). to_be_bytes w32 k) (sym long)) ∙ ap (λ (xs : List ℕ). to_be_bytes w32 (length (slice_range bytes 4 (4 + count))) ++ xs) (ap (λ (xs : List ℕ). take count xs) behind ∙ sym one);
    }

-- ---- one record more below

pub hold_push : (below records more : List (List ℕ)) (bytes : List ℕ) → HoldAll below records → Holds bytes more → HoldAll (below ++ bytes ∷ []) (records ++ more)
hold_push [] records more bytes all h = (more, [], h, refl, ap (λ (xs : List (List ℕ)). xs ++ more) all ∙ sym (append-nil more))
hold_push (b ∷ below) records more bytes all h =
    (all.0, all.1 ++ more, all.2, hold_push below all.1 more bytes all.3 h, ap (λ (xs : List (List ℕ)). xs ++ more) all.4 ∙ append_assoc all.0 all.1 more)
