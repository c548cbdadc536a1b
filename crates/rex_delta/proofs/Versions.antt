-- Which kinds the events of a version have.
use Rattle.std.proofs.Common.{◌≡◌, ◌⊎◌, inl, inr, ℕ, zero, suc, ◌<◌, ◌≤◌, Bool, true, false, List, [], ◌∷◌, length, refl, sym, arith, true≢false, eqb}
use Rattle.std.proofs.lemmas.Bool.{or_parts, ne_eqb, eqb-true, eqb-false}
use Rattle.std.specs.Prelude.{◌&&◌, ◌||◌, ◌==◌, not, is_some, if◌then◌else◌}
use Rattle.std.specs.List.{All}
use Rattle.std.proofs.lemmas.List.Elements.{All-head, All-tail, All-cons, All-nil}
use Rattle.rex_event.specs.declared.event.Kind.{Kind}
use Rattle.rex_event.specs.declared.event.Kind.TheVariants.{Down, Up}
use Rattle.rex_event.specs.declared.event.Event.{Event}
use Rattle.rex_event.specs.Conflict.{named_semaphore}
use Rattle.rex_delta.specs.Spelling.{IsBetween, code_of, has_counting, version_of}
use Rattle.rex_delta.specs.Reading.{least_kind, most_kind}
use Rattle.rex_delta.proofs.KindLaws.{code_between}

-- the event is on a semaphore
abbrev pub is_counting : Kind → Bool
is_counting kind = is_some (named_semaphore kind)

-- an event on a semaphore has a kind past 14
pub counting_code : (kind : Kind) → is_counting kind ≡ true → 15 ≤ code_of kind
counting_code (Down semaphore) h = omega arith
counting_code (Up semaphore) h = omega arith
counting_code _ h = absurd (true≢false (sym h))

-- and no other
pub other_code : (kind : Kind) → is_counting kind ≡ false → code_of kind ≤ 14
other_code (Down semaphore) h = absurd (true≢false h)
other_code (Up semaphore) h = absurd (true≢false h)
other_code _ h = omega arith

-- ---- the range of a kind

some_later : (n : ℕ) → eqb (suc n) 0 ≡ false
some_later n = ne_eqb (suc n) 0 (λ e. absurd (omega (arith, e)))

-- where none is due, or events come after, every kind is allowed
pub least_free : (due : Bool) (later : ℕ) → (due ≡ false) ⊎ (0 < later) → least_kind due later ≡ 1
least_free true zero (inl h) = absurd (true≢false h)
least_free true zero (inr h) = absurd (omega arith)
least_free true (suc n) h = rw (some_later n) refl
least_free false n h = refl

pub least_some : (due : Bool) (later : ℕ) → 1 ≤ least_kind due later
least_some true zero = omega arith
least_some true (suc n) = omega (arith, least_free true (suc n) (inr (omega arith)))
least_some false n = omega arith

least_most : (due : Bool) (later : ℕ) → least_kind due later ≤ 15
least_most true zero = omega arith
least_most true (suc n) = omega (arith, least_free true (suc n) (inr (omega arith)))
least_most false n = omega arith

pub most_few : (version : ℕ) → most_kind version ≤ 16
most_few version = by (version == 2)
  where
    by : (b : Bool) → (if b then 16 else 14) ≤ 16
    by true = omega arith
    by false = omega arith

-- ---- the events of a version

-- the greatest kind is kept to, and an event on a semaphore is among these where one is due
pub record Suits (most : ℕ) (due : Bool) (es : List Event) : Type 0 where
  pub few : All (λ e. code_of e.kind ≤ most) es
  pub some : due ≡ true → has_counting es ≡ true

-- the first event of these is on a semaphore, or one of the others
either : (a b : Bool) → (a || b) ≡ true → a ≡ false → b ≡ true
either true b h n = absurd (true≢false n)
either false b h n = h

suits_by : (most : ℕ) (due counting : Bool) (e : Event) (es : List Event) → is_counting e.kind ≡ counting → Suits most due (e ∷ es) → (due && not counting) ≡ true → has_counting es ≡ true
suits_by most true true e es is h d = absurd (true≢false (sym d))
suits_by most true false e es is h d = either (is_counting e.kind) (has_counting es) (h.some refl) is
suits_by most false counting e es is h d = absurd (true≢false (sym d))

-- what is left after the first event
pub suits_rest : (most : ℕ) (due : Bool) (e : Event) (es : List Event) → Suits most due (e ∷ es) → Suits most (due && not (is_counting e.kind)) es
suits_rest most due e es h = record {
  few = All-tail (λ (x : Event). code_of x.kind ≤ most) e es h.few;
  some = suits_by most due (is_counting e.kind) e es refl h;
}

range_by : (most : ℕ) (due counting : Bool) (later : ℕ) (e : Event) (es : List Event) → is_counting e.kind ≡ counting → later ≡ length es → Suits most due (e ∷ es) → least_kind due later ≤ code_of e.kind
range_by most due true later e es is l h = omega (arith, counting_code e.kind is, least_most due later)
range_by most false false later e es is l h = omega (arith, (code_between e.kind).0)
range_by most true false (suc n) e es is l h = omega (arith, (code_between e.kind).0, least_free true (suc n) (inr (omega arith)))
range_by most true false zero e [] is l h = absurd (true≢false (sym (either (is_counting e.kind) false (h.some refl) is)))
range_by most true false zero e (x ∷ xs) is l h = absurd (omega arith)

-- the kind of the first event is in its range
pub suits_range : (most : ℕ) (due : Bool) (later : ℕ) (e : Event) (es : List Event) → later ≡ length es → Suits most due (e ∷ es) → IsBetween (least_kind due later) most (code_of e.kind)
suits_range most due later e es l h = (range_by most due (is_counting e.kind) later e es refl l h, All-head (λ (x : Event). code_of x.kind ≤ most) e es h.few)

some_by : (due counting : Bool) (later : ℕ) (e : Event) (es : List Event) → is_counting e.kind ≡ counting → least_kind due later ≤ code_of e.kind → later ≡ length es
    → (0 < length es → (due && not counting) ≡ true → has_counting es ≡ true) → due ≡ true → (is_counting e.kind || has_counting es) ≡ true
some_by due true later e es is range l rest d = rw is refl
some_by true false zero e es is range l rest d = absurd (omega (arith, other_code e.kind is))
some_by true false (suc n) e es is range l rest d = rw is (rest (omega arith) refl)
some_by false false later e es is range l rest d = absurd (true≢false (sym d))

-- events read one after the other: where one is due and there are any, one is among them
pub some_counts : (due : Bool) (later : ℕ) (e : Event) (es : List Event) → least_kind due later ≤ code_of e.kind → later ≡ length es
    → (0 < length es → (due && not (is_counting e.kind)) ≡ true → has_counting es ≡ true) → due ≡ true → has_counting (e ∷ es) ≡ true
some_counts due later e es range l rest d = some_by due (is_counting e.kind) later e es refl range l rest d

-- ---- versions

none_by : (counting : Bool) (e : Event) → is_counting e.kind ≡ counting → code_of e.kind ≤ 14 → is_counting e.kind ≡ false
none_by true e is h = absurd (omega (arith, counting_code e.kind is))
none_by false e is h = is

none_counts : (es : List Event) → All (λ e. code_of e.kind ≤ 14) es → has_counting es ≡ false
none_counts [] h = refl
none_counts (e ∷ es) h =
    let first : is_counting e.kind ≡ false = none_by (is_counting e.kind) e refl (All-head (λ (x : Event). code_of x.kind ≤ 14) e es h) in
    rw first (none_counts es (All-tail (λ (x : Event). code_of x.kind ≤ 14) e es h))

version_by : (version : ℕ) (es : List Event) (b : Bool) → (version == 2) ≡ b → IsBetween 1 2 version → Suits (most_kind version) (version == 2) es → version ≡ version_of es
version_by version es true is range h =
    let two : version ≡ 2 = eqb-true version 2 is in
    let any : has_counting es ≡ true = h.some is in
    rw any two
version_by version es false is range h =
    let few : All (λ e. code_of e.kind ≤ 14) es = rw is at h.few in
    let none : has_counting es ≡ false = none_counts es few in
    let other : (version ≡ 2 → ⊥) = eqb-false version 2 is in
    rw none (one version range other)
  where
    one : (n : ℕ) → IsBetween 1 2 n → (n ≡ 2 → ⊥) → n ≡ 1
    one n range other = omega (arith, range.0, range.1, other)

-- the version that was read is that of the events
pub version_is : (version : ℕ) (es : List Event) → IsBetween 1 2 version → Suits (most_kind version) (version == 2) es → version ≡ version_of es
version_is version es range h = version_by version es (version == 2) refl range h

codes_few : (es : List Event) → All (λ e. code_of e.kind ≤ 16) es
codes_few [] = All-nil (λ (e : Event). code_of e.kind ≤ 16)
codes_few (e ∷ es) = All-cons (λ (x : Event). code_of x.kind ≤ 16) e es (few (is_counting e.kind) refl) (codes_few es)
  where
    most : (kind : Kind) → is_counting kind ≡ true → code_of kind ≤ 16
    most (Down semaphore) h = omega arith
    most (Up semaphore) h = omega arith
    most _ h = absurd (true≢false (sym h))

    few : (b : Bool) → is_counting e.kind ≡ b → code_of e.kind ≤ 16
    few true is = most e.kind is
    few false is = omega (arith, other_code e.kind is)

codes_plain : (es : List Event) → has_counting es ≡ false → All (λ e. code_of e.kind ≤ 14) es
codes_plain [] h = All-nil (λ (e : Event). code_of e.kind ≤ 14)
codes_plain (e ∷ es) h =
    let p = or_parts (is_counting e.kind) (has_counting es) h in
    All-cons (λ (x : Event). code_of x.kind ≤ 14) e es (other_code e.kind p.0) (codes_plain es p.1)

suits_version : (es : List Event) (b : Bool) → has_counting es ≡ b → Suits (most_kind (version_of es)) (version_of es == 2) es
suits_version es true is = rw is (record { few = codes_few es; some = λ d. is })
suits_version es false is = rw is (record { few = codes_plain es is; some = λ d. absurd (true≢false (sym d)) })

-- events suit their version
pub version_suits : (es : List Event) → Suits (most_kind (version_of es)) (version_of es == 2) es
version_suits es = suits_version es (has_counting es) refl

-- a version is 1 or 2
pub version_between : (es : List Event) → IsBetween 1 2 (version_of es)
version_between es = by (has_counting es)
  where
    by : (b : Bool) → IsBetween 1 2 (if b then 2 else 1)
    by true = (omega arith, omega arith)
    by false = (omega arith, omega arith)
