-- Clients' entries: those that were entered are known, and those that are known are entered.
use Rattle.std.proofs.Common.{◌≡◌, ◌⊎◌, inl, inr, ℕ, ℤ, zero, suc, ◌+◌, ◌-◌, ◌<◌, ◌≤◌, Bool, true, false, List, [], ◌∷◌, ◌++◌, length, replicate, set, get_or, refl, ap, sym, ◌∙◌, subst, arith, append_assoc, length-append, length-set, eqb, eqb-true}
use Rattle.std.specs.Prelude.{Option}
use Rattle.std.specs.List.{All}
use Rattle.std.proofs.lemmas.Bool.{eqb-false, ne_eqb}
use Rattle.std.proofs.lemmas.List.{append-nil, length-replicate}
use Rattle.std.proofs.lemmas.List.Elements.{All-head, All-tail}
use Rattle.rex_event.specs.Order.{Has}
use Rattle.rex_state.specs.declared.lane.Entry.{Entry}
use Rattle.rex_state.specs.Machine.{no_entry}
use Rattle.rex_state.specs.Start.{no_entries}
use Rattle.rex_snapshot.specs.declared.parts.Known.{Known}
use Rattle.rex_snapshot.specs.Parts.{known_of, known_if, known_from, entered}
use Rattle.rex_snapshot.specs.Spelling.{EntryFits}

-- ---- a place in a list

pub set_at : {X : Type 0} (xs ys : List X) (x y : X) → set (xs ++ x ∷ ys) (length xs) y ≡ xs ++ y ∷ ys
set_at [] ys x y = refl
set_at (z ∷ xs) ys x y = ap (λ zs. z ∷ zs) (set_at xs ys x y)

replicate-add : {X : Type 0} (m n : ℕ) (x : X) → replicate (m + n) x ≡ replicate m x ++ replicate n x
replicate-add {X} zero n x = let z : 0 + n ≡ n = omega arith in ap (λ (k : ℕ). replicate k x) z
replicate-add {X} (suc m) n x =
    let z : suc m + n ≡ suc (m + n) = omega arith in
    ap (λ (k : ℕ). replicate k x) z ∙ ap (λ (xs : List X). x ∷ xs) (replicate-add m n x)

-- ---- what is known of a list of entries

known_append : (n : ℕ) (xs ys : List Entry) → known_from n (xs ++ ys) ≡ known_from n xs ++ known_from (n + length xs) ys
known_append n [] ys = let z : n + 0 ≡ n = omega arith in ap (λ (m : ℕ). known_from m ys) (sym z)
known_append n (x ∷ xs) ys =
    let z : n + 1 + length xs ≡ n + suc (length xs) = omega arith in
    ap (λ (ks : List Known). known_if n x ++ ks) (known_append (n + 1) xs ys ∙ ap (λ (m : ℕ). known_from (n + 1) xs ++ known_from m ys) z)
    ∙ sym (append_assoc (known_if n x) (known_from (n + 1) xs) (known_from (n + suc (length xs)) ys))

known_none : (n m : ℕ) → known_from n (replicate m no_entry) ≡ []
known_none n zero = refl
known_none n (suc m) = known_none (n + 1) m

-- a client that has sent something, above this one
pub record IsAbove (above : ℕ) (k : Known) : Type 0 where
  pub above_it : above < k.client
  pub most : k.client ≤ 256
  pub sent : 1 ≤ k.entry.sequence

-- each client is above the one before
abbrev pub AreRising : ℕ → List Known → Type 0
AreRising above [] = Unit {0}
AreRising above (k ∷ ks) = IsAbove above k × AreRising k.client ks

sent_known : (client : ℕ) (e : Entry) → 1 ≤ e.sequence → known_if client e ≡ known_of client e ∷ []
sent_known client e some = rw (ne_eqb e.sequence 0 (λ z. absurd (omega arith))) refl

-- the entries, when those of one client more are entered
enter_one : (front : List Entry) (gap m : ℕ) (client : ℕ) (e : Entry) → length front + gap ≡ client → set (front ++ replicate (gap + suc m) no_entry) client e ≡ ((front ++ replicate gap no_entry) ++ e ∷ []) ++ replicate m no_entry
enter_one front gap m client e at =
    let before = front ++ replicate gap no_entry in
    let long : length before ≡ client = length-append front (replicate gap no_entry) ∙ omega (arith, length-replicate gap no_entry) in
    let split : front ++ replicate (gap + suc m) no_entry ≡ before ++ no_entry ∷ replicate m no_entry = ap (λ (xs : List Entry). front ++ xs) (replicate-add gap (suc m) no_entry) ∙ sym (append_assoc front (replicate gap no_entry) (replicate (suc m) no_entry)) in
    ap (λ (xs : List Entry). set xs client e) split
    ∙ ap (λ (n : ℕ). set (before ++ no_entry ∷ replicate m no_entry) n e) (sym long)
    ∙ set_at before (replicate m no_entry) no_entry e
    ∙ sym (append_assoc before (e ∷ []) (replicate m no_entry))

known_one : (front : List Entry) (gap client : ℕ) (e : Entry) → length front + gap ≡ client → 1 ≤ e.sequence → known_from 0 ((front ++ replicate gap no_entry) ++ e ∷ []) ≡ known_from 0 front ++ known_of client e ∷ []
known_one front gap client e at some =
    let before = front ++ replicate gap no_entry in
    let long : 0 + length before ≡ client = omega (arith, length-append front (replicate gap no_entry), length-replicate gap no_entry) in
    let blank : known_from 0 before ≡ known_from 0 front = known_append 0 front (replicate gap no_entry) ∙ ap (λ (ks : List Known). known_from 0 front ++ ks) (known_none (0 + length front) gap) ∙ append-nil (known_from 0 front) in
    let last : known_from client (e ∷ []) ≡ known_of client e ∷ [] = append-nil (known_if client e) ∙ sent_known client e some in
    known_append 0 before (e ∷ []) ∙ ap (λ (n : ℕ). known_from 0 before ++ known_from n (e ∷ [])) long ∙ ap (λ (ks : List Known). known_from 0 before ++ ks) last ∙ ap (λ (ks : List Known). ks ++ known_of client e ∷ []) blank

entered_known : (above m : ℕ) (front : List Entry) (ks : List Known) → length front ≡ above + 1 → above + 1 + m ≡ 257 → AreRising above ks → known_from 0 (entered (front ++ replicate m no_entry) ks) ≡ known_from 0 front ++ ks
entered_known above m front [] long all rising =
    known_append 0 front (replicate m no_entry) ∙ ap (λ (ks : List Known). known_from 0 front ++ ks) (known_none (0 + length front) m)
entered_known above m front (k ∷ ks) long all rising =
    let up = rising.0.above_it in
    let most = rising.0.most in
    let gap = k.client - above - 1 in
    let left = 256 - k.client in
    let split : gap + suc left ≡ m = omega arith in
    let at : length front + gap ≡ k.client = omega arith in
    let front2 = (front ++ replicate gap no_entry) ++ k.entry ∷ [] in
    let long2 : length front2 ≡ k.client + 1 = length-append (front ++ replicate gap no_entry) (k.entry ∷ []) ∙ omega (arith, length-append front (replicate gap no_entry), length-replicate gap no_entry) in
    let all2 : k.client + 1 + left ≡ 257 = omega arith in
    let one : set (front ++ replicate m no_entry) k.client k.entry ≡ front2 ++ replicate left no_entry = ap (λ (n : ℕ). set (front ++ replicate n no_entry) k.client k.entry) (sym split) ∙ enter_one front gap left k.client k.entry at in
    ap (λ (es : List Entry). known_from 0 (entered es ks)) one
    ∙ entered_known k.client left front2 ks long2 all2 rising.1
    ∙ ap (λ (xs : List Known). xs ++ ks) (known_one front gap k.client k.entry at rising.0.sent)
    ∙ append_assoc (known_from 0 front) (k ∷ []) ks

-- clients that rise are known once their entries are entered
pub known_again : (ks : List Known) → AreRising 0 ks → known_from 0 (entered no_entries ks) ≡ ks
known_again ks rising = entered_known 0 256 (no_entry ∷ []) ks refl refl rising

-- ---- entries that are entered again

none_is : (e : Entry) → EntryFits e → e.sequence ≡ 0 → e ≡ no_entry
none_is e fits z =
    let make : ℕ → Option ℤ → Entry = λ n r. record { sequence = n; reply = r } in
    ap (λ (n : ℕ). make n e.reply) z ∙ ap (make 0) (fits.none z)

re_enter : (front es : List Entry) → All EntryFits es → entered (front ++ replicate (length es) no_entry) (known_from (length front) es) ≡ front ++ es
re_enter front [] fit = refl
re_enter front (e ∷ es) fit = by (eqb e.sequence 0) refl (re_enter (front ++ e ∷ []) es (All-tail EntryFits e es fit)) (All-head EntryFits e es fit)
  where
    long : length (front ++ e ∷ []) ≡ length front + 1
    long = length-append front (e ∷ [])

    rest : (ks : List Known) → known_from (length front + 1) es ≡ known_from (length (front ++ e ∷ [])) es
    rest ks = ap (λ (n : ℕ). known_from n es) (sym long)

    on : entered ((front ++ e ∷ []) ++ replicate (length es) no_entry) (known_from (length (front ++ e ∷ [])) es) ≡ (front ++ e ∷ []) ++ es → entered (front ++ e ∷ replicate (length es) no_entry) (known_from (length front + 1) es) ≡ front ++ e ∷ es
    on h =
        ap (λ (xs : List Entry). entered xs (known_from (length front + 1) es)) (sym (append_assoc front (e ∷ []) (replicate (length es) no_entry)))
        ∙ ap (λ (ks : List Known). entered ((front ++ e ∷ []) ++ replicate (length es) no_entry) ks) (rest [])
        ∙ h ∙ append_assoc front (e ∷ []) es

    by : (b : Bool) → eqb e.sequence 0 ≡ b → entered ((front ++ e ∷ []) ++ replicate (length es) no_entry) (known_from (length (front ++ e ∷ [])) es) ≡ (front ++ e ∷ []) ++ es → EntryFits e → entered (front ++ replicate (suc (length es)) no_entry) (known_from (length front) (e ∷ es)) ≡ front ++ e ∷ es
    by true z h fits =
        let none : no_entry ≡ e = sym (none_is e fits (eqb-true e.sequence 0 z)) in
        let nothing : known_if (length front) e ≡ [] = rw z refl in
        ap (λ (ks : List Known). entered (front ++ no_entry ∷ replicate (length es) no_entry) (ks ++ known_from (length front + 1) es)) nothing
        ∙ ap (λ (x : Entry). entered (front ++ x ∷ replicate (length es) no_entry) (known_from (length front + 1) es)) none ∙ on h
    by false z h fits =
        let one : known_if (length front) e ≡ known_of (length front) e ∷ [] = rw z refl in
        ap (λ (ks : List Known). entered (front ++ no_entry ∷ replicate (length es) no_entry) (ks ++ known_from (length front + 1) es)) one
        ∙ ap (λ (xs : List Entry). entered xs (known_from (length front + 1) es)) (set_at front (replicate (length es) no_entry) no_entry e) ∙ on h

-- known entries lead back to all of them
pub entries_again : (es : List Entry) → length es ≡ 257 → All EntryFits es → entered no_entries (known_from 0 es) ≡ es
entries_again es long fit = ap (λ (n : ℕ). entered (replicate n no_entry) (known_from 0 es)) (sym long) ∙ re_enter [] es fit

pub length-entered : (es : List Entry) (ks : List Known) → length (entered es ks) ≡ length es
length-entered es [] = refl
length-entered es (k ∷ ks) = length-entered (set es k.client k.entry) ks ∙ length-set es k.client k.entry

-- ---- a known client and its entry

-- a client of which something is known has that entry
pub record IsEntryOf (n : ℕ) (es : List Entry) (k : Known) : Type 0 where
  pub place : ℕ
  pub there : place < length es
  pub client : k.client ≡ n + place
  pub entry_is : k.entry ≡ get_or es place no_entry
  pub sent : 1 ≤ k.entry.sequence

has_both : (k : Known) (xs ys : List Known) → Has k (xs ++ ys) → Has k xs ⊎ Has k ys
has_both k [] ys h = inr h
has_both k (x ∷ xs) ys (inl e) = inl (inl e)
has_both k (x ∷ xs) ys (inr h) = by (has_both k xs ys h)
  where
    by : Has k xs ⊎ Has k ys → Has k (x ∷ xs) ⊎ Has k ys
    by (inl p) = inl (inr p)
    by (inr q) = inr q

if_known : (n : ℕ) (e : Entry) (k : Known) → Has k (known_if n e) → (k ≡ known_of n e) × (1 ≤ e.sequence)
if_known n e k h = by (eqb e.sequence 0) refl h
  where
    by : (b : Bool) → eqb e.sequence 0 ≡ b → Has k (known_if n e) → (k ≡ known_of n e) × (1 ≤ e.sequence)
    by true z h = absurd (rw z at h)
    by false z h = one (rw z at h)
      where
        one : Has k (known_of n e ∷ []) → (k ≡ known_of n e) × (1 ≤ e.sequence)
        one (inl q) = (sym q, some (eqb-false e.sequence 0 z))
          where
            some : (e.sequence ≡ 0 → ⊥) → 1 ≤ e.sequence
            some nonzero = omega (arith, nonzero)
        one (inr q) = absurd q

pub known_entry : (n : ℕ) (es : List Entry) (k : Known) → Has k (known_from n es) → IsEntryOf n es k
known_entry n [] k h = absurd h
known_entry n (e ∷ es) k h = by (has_both k (known_if n e) (known_from (n + 1) es) h) (λ q. known_entry (n + 1) es k q)
  where
    by : Has k (known_if n e) ⊎ Has k (known_from (n + 1) es) → (Has k (known_from (n + 1) es) → IsEntryOf (n + 1) es k) → IsEntryOf n (e ∷ es) k
    by (inl p) later =
        let i = if_known n e k p in
        record { place = 0; there = omega arith; client = ap (λ (x : Known). x.client) i.0 ∙ omega arith; entry_is = ap (λ (x : Known). x.entry) i.0; sent = subst (λ (x : Entry). 1 ≤ x.sequence) (sym (ap (λ (x : Known). x.entry) i.0)) i.1 }
    by (inr q) later =
        let r = later q in
        record { place = suc r.place; there = omega (arith, r.there); client = r.client ∙ omega arith; entry_is = r.entry_is; sent = r.sent }

has_right : (k : Known) (xs ys : List Known) → Has k ys → Has k (xs ++ ys)
has_right k [] ys h = h
has_right k (x ∷ xs) ys h = inr (has_right k xs ys h)

-- a client that has sent something is known
pub entry_known : (n : ℕ) (es : List Entry) (place : ℕ) → place < length es → 1 ≤ (get_or es place no_entry).sequence → Has (known_of (n + place) (get_or es place no_entry)) (known_from n es)
entry_known n [] place h some = absurd (omega arith)
entry_known n (e ∷ es) zero h some =
    let z : n + 0 ≡ n = omega arith in
    let first : Has (known_of n e) (known_if n e ++ known_from (n + 1) es) = rw (sent_known n e some) (inl refl) in
    subst (λ (m : ℕ). Has (known_of m e) (known_from n (e ∷ es))) (sym z) first
entry_known n (e ∷ es) (suc place) h some =
    let z : n + 1 + place ≡ n + suc place = omega arith in
    has_right _ (known_if n e) (known_from (n + 1) es) (subst (λ (m : ℕ). Has (known_of m (get_or es place no_entry)) (known_from (n + 1) es)) z (entry_known (n + 1) es place (omega arith) some))
