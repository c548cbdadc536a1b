-- What follows from how records are spelled.
use Rattle.std.proofs.Common.{◌≡◌, ◌≢◌, ◌⊎◌, ⊎_elim, ◌<◌, ◌≤◌, ◌+◌, ◌-◌, inl, inr, ℕ, zero, suc, List, [], ◌∷◌, ◌++◌, length, get_or, take, drop, refl, sym, ◌∙◌, ap, subst, arith, append_assoc, length-append}
use Rattle.std.proofs.lemmas.Bool.{cases_lt, cond_above, cond_below}
use Rattle.std.proofs.Math.ListN.{set}
use Rattle.std.proofs.Math.Seq.{drop-cons, set-append_seam, take-suc}
use Rattle.std.proofs.lemmas.List.{append-nil, get_or-append_right, get_or-drop, length-take-le}
use Rattle.std.proofs.lemmas.List.Elements.{All-take}
use Rattle.std.specs.Prelude.{All}
use Rattle.rex_file.specs.Mixing.{byte_at}
use Rattle.rex_wal.specs.Spelled.{HasNoFront}
use Rattle.rex_wal.specs.Journal.{BeginsNone, IsRecord, NoneLater, entries, entry, mark, marks}

-- ---- marks

mark_low : (b : ℕ) → b < 254 → mark b ≡ (b + 1) ∷ []
mark_low b lt = sym (cond_below b 254 ((b + 1) ∷ []) (255 ∷ (b - 252) ∷ []) lt)

mark_high : (b : ℕ) → 254 ≤ b → mark b ≡ 255 ∷ (b - 252) ∷ []
mark_high b le = sym (cond_above b 254 ((b + 1) ∷ []) (255 ∷ (b - 252) ∷ []) (255 ∷ (b - 252) ∷ []) le refl)

low_or_high : (b : ℕ) → (b < 254) ⊎ (254 ≤ b)
low_or_high b = cases_lt b 254

-- the first and the second of some bytes
abbrev first : List ℕ → ℕ
first xs = get_or xs 0 0

abbrev second : List ℕ → ℕ
second xs = get_or xs 1 0

pub same_mark : (b c : ℕ) (x y : List ℕ) → mark b ++ x ≡ mark c ++ y → (b ≡ c) × (x ≡ y)
same_mark b c x y is = by (low_or_high b) (low_or_high c)
  where
    by : (b < 254) ⊎ (254 ≤ b) → (c < 254) ⊎ (254 ≤ c) → (b ≡ c) × (x ≡ y)
    by (inl b_low) (inl c_low) =
        let e : (b + 1) ∷ x ≡ (c + 1) ∷ y = ap (λ (m : List ℕ). m ++ x) (sym (mark_low b b_low)) ∙ is ∙ ap (λ (m : List ℕ). m ++ y) (mark_low c c_low) in
        let f : b + 1 ≡ c + 1 = ap first e in
        (omega (arith, f), ap (λ (xs : List ℕ). drop 1 xs) e)
    by (inl b_low) (inr c_high) =
        let e : (b + 1) ∷ x ≡ 255 ∷ (c - 252) ∷ y = ap (λ (m : List ℕ). m ++ x) (sym (mark_low b b_low)) ∙ is ∙ ap (λ (m : List ℕ). m ++ y) (mark_high c c_high) in
        let f : b + 1 ≡ 255 = ap first e in absurd (omega (arith, f, b_low))
    by (inr b_high) (inl c_low) =
        let e : 255 ∷ (b - 252) ∷ x ≡ (c + 1) ∷ y = ap (λ (m : List ℕ). m ++ x) (sym (mark_high b b_high)) ∙ is ∙ ap (λ (m : List ℕ). m ++ y) (mark_low c c_low) in
        let f : 255 ≡ c + 1 = ap first e in absurd (omega (arith, f, c_low))
    by (inr b_high) (inr c_high) =
        let e : 255 ∷ (b - 252) ∷ x ≡ 255 ∷ (c - 252) ∷ y = ap (λ (m : List ℕ). m ++ x) (sym (mark_high b b_high)) ∙ is ∙ ap (λ (m : List ℕ). m ++ y) (mark_high c c_high) in
        let f : b - 252 ≡ c - 252 = ap second e in
        (omega (arith, f, b_high, c_high), ap (λ (xs : List ℕ). drop 2 xs) e)

pub no_end : (b : ℕ) (x y : List ℕ) → mark b ++ x ≡ 255 ∷ 1 ∷ y → ⊥
no_end b x y is = by (low_or_high b)
  where
    by : (b < 254) ⊎ (254 ≤ b) → ⊥
    by (inl low) =
        let e : (b + 1) ∷ x ≡ 255 ∷ 1 ∷ y = ap (λ (m : List ℕ). m ++ x) (sym (mark_low b low)) ∙ is in
        let f : b + 1 ≡ 255 = ap first e in absurd (omega (arith, f, low))
    by (inr high) =
        let e : 255 ∷ (b - 252) ∷ x ≡ 255 ∷ 1 ∷ y = ap (λ (m : List ℕ). m ++ x) (sym (mark_high b high)) ∙ is in
        let f : b - 252 ≡ 1 = ap second e in absurd (omega (arith, f, high))

pub marks_push : (r : List ℕ) (b : ℕ) → marks (r ++ b ∷ []) ≡ marks r ++ mark b
marks_push [] b = append-nil (mark b)
marks_push (c ∷ r) b = ap (λ (xs : List ℕ). mark c ++ xs) (marks_push r b) ∙ sym (append_assoc (mark c) (marks r) (mark b))

-- ---- entries

pub entry_next : (b : ℕ) (r x : List ℕ) → entry (b ∷ r) ++ x ≡ mark b ++ (entry r ++ x)
entry_next b r x =
    ap (λ (xs : List ℕ). xs ++ x) (append_assoc (mark b) (marks r) (255 ∷ 1 ∷ [])) ∙ append_assoc (mark b) (entry r) x

pub same_entry : (r s x y : List ℕ) → entry r ++ x ≡ entry s ++ y → (r ≡ s) × (x ≡ y)
same_entry [] [] x y is = (refl, ap (λ (xs : List ℕ). drop 2 xs) is)
same_entry [] (c ∷ s) x y is = absurd (no_end c (entry s ++ y) x (sym (entry_next c s y) ∙ sym is))
same_entry (b ∷ r) [] x y is = absurd (no_end b (entry r ++ x) y (sym (entry_next b r x) ∙ is))
same_entry (b ∷ r) (c ∷ s) x y is =
    let both = same_mark b c (entry r ++ x) (entry s ++ y) (sym (entry_next b r x) ∙ is ∙ entry_next c s y) in
    let rest = same_entry r s x y both.1 in
    (ap (λ (k : ℕ). k ∷ r) both.0 ∙ ap (λ (xs : List ℕ). c ∷ xs) rest.0, rest.1)

pub entries_push : (records : List (List ℕ)) (r rest : List ℕ) → entries (records ++ r ∷ []) ++ rest ≡ entries records ++ (entry r ++ rest)
entries_push [] r rest = ap (λ (xs : List ℕ). xs ++ rest) (append-nil (entry r))
entries_push (s ∷ records) r rest =
    append_assoc (entry s) (entries (records ++ r ∷ [])) rest ∙ ap (λ (xs : List ℕ). entry s ++ xs) (entries_push records r rest) ∙ sym (append_assoc (entry s) (entries records) (entry r ++ rest))

-- ---- no byte of an entry is 0

abbrev NoZero : List ℕ → Type 0
NoZero [] = Unit {0}
NoZero (x ∷ xs) = (x ≢ 0) × NoZero xs

no_zero_append : (xs ys : List ℕ) → NoZero xs → NoZero ys → NoZero (xs ++ ys)
no_zero_append [] ys nx ny = ny
no_zero_append (x ∷ xs) ys nx ny = (nx.0, no_zero_append xs ys nx.1 ny)

no_zero_mark : (b : ℕ) → NoZero (mark b)
no_zero_mark b = by (low_or_high b)
  where
    by : (b < 254) ⊎ (254 ≤ b) → NoZero (mark b)
    by (inl low) = subst NoZero (sym (mark_low b low)) (λ e. omega (arith, e), tt)
    by (inr high) = subst NoZero (sym (mark_high b high)) (λ e. omega (arith, e), (λ e. omega (arith, e, high), tt))

no_zero_marks : (r : List ℕ) → NoZero (marks r)
no_zero_marks [] = tt
no_zero_marks (b ∷ r) = no_zero_append (mark b) (marks r) (no_zero_mark b) (no_zero_marks r)

no_zero_entry : (r : List ℕ) → NoZero (entry r)
no_zero_entry r = no_zero_append (marks r) (255 ∷ 1 ∷ []) (no_zero_marks r) (λ e. omega (arith, e), (λ e. omega (arith, e), tt))

some_byte : (xs ys : List ℕ) (k : ℕ) → NoZero xs → k < length xs → byte_at (xs ++ ys) k ≢ 0
some_byte [] ys k n lt = absurd (omega (arith, lt))
some_byte (x ∷ xs) ys zero n lt = n.0
some_byte (x ∷ xs) ys (suc k) n lt = some_byte xs ys k n.1 (omega (arith, lt))

-- an entry begins with a byte that isn't 0
pub entry_some : (r behind : List ℕ) → byte_at (entry r ++ behind) 0 ≢ 0
entry_some r behind = some_byte (entry r) behind 0 (no_zero_entry r) (omega (arith, length-append (marks r) (255 ∷ 1 ∷ [])))

-- bytes that are all 0 begin no record
pub zeros_none : (xs : List ℕ) → ((i : ℕ) → byte_at xs i ≡ 0) → BeginsNone xs
zeros_none xs all r behind is_record is =
    entry_some r behind (ap (λ (ys : List ℕ). byte_at ys 0) (sym is) ∙ all 0)

-- ---- bytes of which each is 0 or the one that other bytes have there

abbrev pub Covers : List ℕ → List ℕ → Type 0
Covers over xs = (i : ℕ) → (byte_at xs i ≡ 0) ⊎ (byte_at xs i ≡ byte_at over i)

-- what stands whole in them stands in the others
agree : (s over xs behind : List ℕ) → NoZero s → xs ≡ s ++ behind → Covers over xs → (more : List ℕ) × (over ≡ s ++ more)
agree [] over xs behind n is covers = (over, refl)
agree (c ∷ s) over xs behind n is covers = by over covers (λ others rest. agree s others (s ++ behind) behind n.1 refl rest) (covers 0)
  where
    there : byte_at xs 0 ≡ c
    there = ap (λ (ys : List ℕ). byte_at ys 0) is

    by : (over : List ℕ) → Covers over xs → ((others : List ℕ) → Covers others (s ++ behind) → (more : List ℕ) × (others ≡ s ++ more)) → (byte_at xs 0 ≡ 0) ⊎ (byte_at xs 0 ≡ byte_at over 0)
        → (more : List ℕ) × (over ≡ (c ∷ s) ++ more)
    by over covers again (inl z) = absurd (n.0 (sym there ∙ z))
    by [] covers again (inr e) = absurd (n.0 (sym there ∙ e))
    by (d ∷ over) covers again (inr e) =
        let rest = again over (λ i. subst (λ (ys : List ℕ). (byte_at ys (suc i) ≡ 0) ⊎ (byte_at ys (suc i) ≡ byte_at over i)) is (covers (suc i))) in
        (rest.0, ap (λ (k : ℕ). k ∷ over) (sym e ∙ there) ∙ ap (λ (ys : List ℕ). c ∷ ys) rest.1)

-- where the others begin no record, neither do they
pub covered_none : (over xs : List ℕ) → BeginsNone over → Covers over xs → BeginsNone xs
covered_none over xs none covers r behind is_record is =
    let found = agree (entry r) over xs behind (no_zero_entry r) is covers in
    none r found.0 is_record found.1

-- either all of some bytes stand at the front, or one of them is 0 there
reach : (e z xs : List ℕ) → Covers (e ++ z) xs → ((more : List ℕ) × (xs ≡ e ++ more) × Covers z more) ⊎ ((k : ℕ) × (k < length e) × (byte_at xs k ≡ 0))
reach [] z xs covers = inl (xs, refl, covers)
reach (c ∷ e) z [] covers = inr (0, omega arith, refl)
reach (c ∷ e) z (x ∷ xs) covers = by (covers 0) (reach e z xs (λ i. covers (suc i)))
  where
    by : (x ≡ 0) ⊎ (x ≡ c) → ((more : List ℕ) × (xs ≡ e ++ more) × Covers z more) ⊎ ((k : ℕ) × (k < length e) × (byte_at xs k ≡ 0))
        → ((more : List ℕ) × (x ∷ xs ≡ (c ∷ e) ++ more) × Covers z more) ⊎ ((k : ℕ) × (k < length (c ∷ e)) × (byte_at (x ∷ xs) k ≡ 0))
    by (inl is_zero) rest = inr (0, omega arith, is_zero)
    by (inr same) (inl (more, is, rest)) = inl (more, ap (λ (k : ℕ). k ∷ xs) same ∙ ap (λ (ys : List ℕ). c ∷ ys) is, rest)
    by (inr same) (inr (k, lt, is_zero)) = inr (suc k, omega (arith, lt), is_zero)

-- bytes that are all 0 have no end mark
pub zeros_later : (xs : List ℕ) → ((i : ℕ) → byte_at xs i ≡ 0) → NoneLater xs
zeros_later xs all i first_is second_is = all (i + 2)

-- behind an end mark in them only 0 stands if that is so in the others
pub covered_later : (over xs : List ℕ) → NoneLater over → Covers over xs → NoneLater xs
covered_later over xs later covers i first_is second_is = by (covers i) (covers (i + 1)) (covers (i + 2))
  where
    by : (byte_at xs i ≡ 0) ⊎ (byte_at xs i ≡ byte_at over i) → (byte_at xs (i + 1) ≡ 0) ⊎ (byte_at xs (i + 1) ≡ byte_at over (i + 1)) → (byte_at xs (i + 2) ≡ 0) ⊎ (byte_at xs (i + 2) ≡ byte_at over (i + 2)) → byte_at xs (i + 2) ≡ 0
    by (inl z) b c = absurd (omega (arith, z, first_is))
    by (inr a) (inl z) c = absurd (omega (arith, z, second_is))
    by (inr a) (inr b) (inl z) = z
    by (inr a) (inr b) (inr c) = c ∙ later i (sym a ∙ first_is) (sym b ∙ second_is)

-- one byte on
shift : (k : ℕ) (xs : List ℕ) → NoneLater xs → (j : ℕ) → byte_at (k ∷ xs) (suc j) ≡ 255 → byte_at (k ∷ xs) (suc j + 1) ≡ 1 → byte_at (k ∷ xs) (suc j + 2) ≡ 0
shift k xs later j first_is second_is =
    let one : suc j + 1 ≡ suc (j + 1) = omega arith in
    let two : suc j + 2 ≡ suc (j + 2) = omega arith in
    ap (λ (n : ℕ). byte_at (k ∷ xs) n) two ∙ later j first_is (ap (λ (n : ℕ). byte_at (k ∷ xs) n) (sym one) ∙ second_is)

shift_none : (z : List ℕ) → ((i : ℕ) → byte_at z i ≡ 0) → NoneLater (1 ∷ z)
shift_none z zeros zero first_is second_is = zeros 1
shift_none z zeros (suc i) first_is second_is = shift 1 z (zeros_later z zeros) i first_is second_is

-- the end mark of an entry is its last
pub entry_later : (r z : List ℕ) → IsRecord r → ((i : ℕ) → byte_at z i ≡ 0) → NoneLater (entry r ++ z)
entry_later [] z each zeros zero first_is second_is = zeros 0
entry_later [] z each zeros (suc zero) first_is second_is = absurd (omega (arith, first_is))
entry_later [] z each zeros (suc (suc i)) first_is second_is = shift 255 (1 ∷ z) (shift_none z zeros) (suc i) first_is second_is
entry_later (b ∷ r) z each zeros i first_is second_is = by (low_or_high b) (entry_later r z (λ k. each (suc k)) zeros)
  where
    is : entry (b ∷ r) ++ z ≡ mark b ++ (entry r ++ z)
    is = entry_next b r z

    low : (k : ℕ) → NoneLater (entry r ++ z) → k ≢ 255 → NoneLater (k ∷ (entry r ++ z))
    low k later other zero f s = absurd (other f)
    low k later other (suc j) f s = shift k (entry r ++ z) later j f s

    high : (k : ℕ) → NoneLater (entry r ++ z) → k ≢ 255 → k ≢ 1 → NoneLater (255 ∷ k ∷ (entry r ++ z))
    high k later other one zero f s = absurd (one s)
    high k later other one (suc j) f s = shift 255 (k ∷ (entry r ++ z)) (low k later other) j f s

    by : (b < 254) ⊎ (254 ≤ b) → NoneLater (entry r ++ z) → byte_at (entry (b ∷ r) ++ z) (i + 2) ≡ 0
    by (inl lt) rest = subst NoneLater (sym (is ∙ ap (λ (m : List ℕ). m ++ (entry r ++ z)) (mark_low b lt))) (low (b + 1) rest (λ e. omega (arith, e, lt))) i first_is second_is
    by (inr le) rest = subst NoneLater (sym (is ∙ ap (λ (m : List ℕ). m ++ (entry r ++ z)) (mark_high b le))) (high (b - 252) rest (λ e. omega (arith, e, le, each 0)) (λ e. omega (arith, e, le))) i first_is second_is

-- of a record's entry and bytes 0 behind it all of the entry is left, and only 0 behind it, or no record
pub torn_entry : (r z xs : List ℕ) → ((i : ℕ) → byte_at z i ≡ 0) → Covers (entry r ++ z) xs → ((more : List ℕ) × (xs ≡ entry r ++ more) × ((i : ℕ) → byte_at more i ≡ 0)) ⊎ BeginsNone xs
torn_entry r z xs zeros covers = by (reach (entry r) z xs covers)
  where
    all_zero : (more : List ℕ) → Covers z more → (i : ℕ) → byte_at more i ≡ 0
    all_zero more rest i = ⊎_elim (λ e. e) (λ e. e ∙ zeros i) (rest i)

    by : ((more : List ℕ) × (xs ≡ entry r ++ more) × Covers z more) ⊎ ((k : ℕ) × (k < length (entry r)) × (byte_at xs k ≡ 0)) → ((more : List ℕ) × (xs ≡ entry r ++ more) × ((i : ℕ) → byte_at more i ≡ 0)) ⊎ BeginsNone xs
    by (inl (more, is, rest)) = inl (more, is, all_zero more rest)
    by (inr (k, lt, is_zero)) = inr (λ s behind is_record is.
        let found = agree (entry s) (entry r ++ z) xs behind (no_zero_entry s) is covers in
        let same = same_entry r s z found.0 found.1 in
        let here : xs ≡ entry r ++ behind = is ∙ ap (λ (t : List ℕ). entry t ++ behind) (sym same.0) in
        some_byte (entry r) behind k (no_zero_entry r) lt (ap (λ (ys : List ℕ). byte_at ys k) (sym here) ∙ is_zero))

-- ---- reading

-- a byte that isn't 0 or 255 is the mark of the one before it
pub mark_back : (x : ℕ) (behind : List ℕ) → x ≢ 0 → x ≢ 255 → x < 256 → x ∷ behind ≡ mark (x - 1) ++ behind
mark_back x behind some low byte =
    let back : (x - 1) + 1 ≡ x = omega (arith, some) in
    ap (λ (k : ℕ). k ∷ behind) (sym back) ∙ ap (λ (m : List ℕ). m ++ behind) (sym (mark_low (x - 1) (omega (arith, some, low, byte))))

pub record_push : (r : List ℕ) (b : ℕ) → IsRecord r → b < 256 → IsRecord (r ++ b ∷ [])
record_push [] b each byte zero = byte
record_push [] b each byte (suc i) = omega arith
record_push (c ∷ r) b each byte zero = each 0
record_push (c ∷ r) b each byte (suc i) = record_push r b (λ k. each (suc k)) byte i

-- where neither a byte nor an end is at the front, what stands there is no record
pub nothing_none : (r rest : List ℕ) → HasNoFront rest → BeginsNone (marks r ++ rest)
nothing_none [] rest h [] behind each is = h.no_end behind is
nothing_none [] rest h (b ∷ s) behind each is = h.no_byte b (entry s ++ behind) (each 0) (is ∙ entry_next b s behind)
nothing_none (b ∷ r) rest h [] behind each is = no_end b (marks r ++ rest) behind (sym (append_assoc (mark b) (marks r) rest) ∙ is)
nothing_none (b ∷ r) rest h (c ∷ s) behind each is =
    let both = same_mark b c (marks r ++ rest) (entry s ++ behind) (sym (append_assoc (mark b) (marks r) rest) ∙ is ∙ entry_next c s behind) in
    nothing_none r rest h s behind (λ k. each (suc k)) both.1

-- ---- bytes of which each takes one mark

low_long : (xs : List ℕ) → All (λ b. b < 254) xs → length (marks xs) ≡ length xs
low_long [] low = refl
low_long (b ∷ xs) low =
    let here : b < 254 = low 0 0 (omega arith) in
    let rest : length (marks xs) ≡ length xs = low_long xs (λ k d lt. low (suc k) d (omega (arith, lt))) in
    omega (arith, length-append (mark b) (marks xs), ap length (mark_low b here), rest)

-- the next one is spelled
pub low_next : (bytes : List ℕ) (i : ℕ) → i < length bytes → All (λ b. b < 254) bytes
    → set (marks (take i bytes) ++ drop i bytes) i (get_or bytes i 0 + 1) ≡ marks (take (suc i) bytes) ++ drop (suc i) bytes
low_next bytes i lt low =
    let b = get_or bytes i 0 in
    let front = marks (take i bytes) in
    let long : length front ≡ i = low_long (take i bytes) (All-take (λ k. k < 254) i bytes low) ∙ length-take-le i bytes (omega (arith, lt)) in
    let there : drop i bytes ≡ b ∷ drop (suc i) bytes = drop-cons bytes i 0 lt in
    let spelled : set (front ++ b ∷ drop (suc i) bytes) i (b + 1) ≡ front ++ (b + 1) ∷ drop (suc i) bytes = subst (λ (k : ℕ). set (front ++ b ∷ drop (suc i) bytes) k (b + 1) ≡ front ++ (b + 1) ∷ drop (suc i) bytes) long (set-append_seam front b (drop (suc i) bytes) (b + 1)) in
    let next : marks (take (suc i) bytes) ≡ front ++ (b + 1) ∷ [] = ap (λ (xs : List ℕ). marks xs) (take-suc bytes i 0 lt) ∙ marks_push (take i bytes) b ∙ ap (λ (m : List ℕ). front ++ m) (mark_low b (low i 0 lt)) in
    ap (λ (xs : List ℕ). set (front ++ xs) i (b + 1)) there ∙ spelled ∙ sym (append_assoc front ((b + 1) ∷ []) (drop (suc i) bytes)) ∙ ap (λ (xs : List ℕ). xs ++ drop (suc i) bytes) (sym next)

-- and it isn't spelled before
pub low_here : (bytes : List ℕ) (i : ℕ) → i < length bytes → All (λ b. b < 254) bytes → get_or (marks (take i bytes) ++ drop i bytes) i 0 ≡ get_or bytes i 0
low_here bytes i lt low =
    let long : length (marks (take i bytes)) ≡ i = low_long (take i bytes) (All-take (λ k. k < 254) i bytes low) ∙ length-take-le i bytes (omega (arith, lt)) in
    let same : i - i ≡ 0 = omega arith in
    get_or-append_right (marks (take i bytes)) (drop i bytes) i i 0 long (omega arith) ∙ ap (λ (k : ℕ). get_or (drop i bytes) k 0) same ∙ get_or-drop i bytes 0 0 ∙ ap (λ (k : ℕ). get_or bytes k 0) (omega arith)
