-- The past of an event: what stands before it in a numbered list, the latest first.
use Rattle.std.proofs.Common.{◌≡◌, inl, inr, ⊎_elim, ℕ, ◌+◌, ◌<◌, cond, List, [], ◌∷◌, ◌++◌, length, reverse, refl, ap, sym, ◌∙◌, subst, arith}
use Rattle.std.specs.Prelude.{nat_eq}
use Rattle.std.proofs.lemmas.Bool.{cases_eq, eq-eqb, ne_eqb}
use Rattle.std.proofs.lemmas.List.{append_assoc, reverse-append}
use Rattle.rex_event.specs.declared.event.Event.{Event}
use Rattle.rex_event.specs.Order.{Has, Precedes}
use Rattle.rex_event.specs.Cuts.{count_at, counted, counted_all, AreNumbered}
use Rattle.rex_clocks.proofs.Leads.{precedes_second, has_left, has_right, has_parts}
use Rattle.rex_clocks.proofs.Numbered.{counted_same, counted_other, counted_long, numbered_later}

-- how many of these are of a lane
abbrev pub tally : List Event → ℕ → ℕ
tally [] lane = 0
tally (d ∷ past) lane = cond (nat_eq d.lane lane) 1 0 + tally past lane

-- each event's index is the base of its lane and how many of the lane are further back
abbrev pub IsPast : List ℕ → List Event → Type 0
IsPast bases [] = Unit {0}
IsPast bases (d ∷ past) = (d.lane < length bases) × (d.index ≡ count_at bases d.lane + tally past d.lane) × IsPast bases past

pub reverse_more : (d : Event) (past rest : List Event) → reverse (d ∷ past) ++ rest ≡ reverse past ++ d ∷ rest
reverse_more d past rest =
    ap (λ (x : List Event). x ++ rest) (reverse-append (d ∷ []) past) ∙ append_assoc (reverse past) (d ∷ []) rest

-- ---- what is in the past

pub has_reverse : (d : Event) (past : List Event) → Has d past → Has d (reverse past)
has_reverse d [] h = absurd h
has_reverse d (y ∷ past) h =
    subst (Has d) (sym (reverse-append (y ∷ []) past))
    (⊎_elim (λ (q : y ≡ d). has_right d (reverse past) (y ∷ []) (inl q)) (λ (k : Has d past). has_left d (reverse past) (y ∷ []) (has_reverse d past k)) h)

pub has_reversed : (d : Event) (past : List Event) → Has d (reverse past) → Has d past
has_reversed d [] h = absurd h
has_reversed d (y ∷ past) h =
    ⊎_elim (λ (k : Has d (reverse past)). inr (has_reversed d past k))
    (λ (k : Has d (y ∷ [])). ⊎_elim (λ (q : y ≡ d). inl q) (λ (z : ⊥). absurd z) k)
    (has_parts d (reverse past) (y ∷ []) (subst (Has d) (reverse-append (y ∷ []) past) h))

-- what stands before an event of a numbered list is in the front
in_front : (counts : List ℕ) (front : List Event) (e : Event) (rest : List Event) (d : Event) → AreNumbered counts (front ++ e ∷ rest) → Precedes d e (front ++ e ∷ rest) → Has d front
in_front counts [] e rest d n p =
    let late : Has e rest = ⊎_elim (λ (a : (e ≡ d) × Has e rest). a.1) (λ (b : Precedes d e rest). precedes_second d e rest b) p in
    let l = numbered_later counts e rest e n late refl in
    absurd (omega arith)
in_front counts (y ∷ front) e rest d n p =
    ⊎_elim (λ (a : (y ≡ d) × Has e (front ++ e ∷ rest)). inl a.0) (λ (b : Precedes d e (front ++ e ∷ rest)). inr (in_front (counted counts y) front e rest d n.2 b)) p

pub before_is_past : (bases : List ℕ) (past : List Event) (e : Event) (rest : List Event) (d : Event) → AreNumbered bases (reverse past ++ e ∷ rest) → Precedes d e (reverse past ++ e ∷ rest) → Has d past
before_is_past bases past e rest d n p = has_reversed d past (in_front bases (reverse past) e rest d n p)

-- ---- how a past is numbered

counted_append : (counts : List ℕ) (xs : List Event) (e : Event) → counted_all counts (xs ++ e ∷ []) ≡ counted (counted_all counts xs) e
counted_append counts [] e = refl
counted_append counts (x ∷ xs) e = counted_append (counted counts x) xs e

pub counted_reverse : (bases : List ℕ) (past : List Event) (d : Event) → counted_all bases (reverse (d ∷ past)) ≡ counted (counted_all bases (reverse past)) d
counted_reverse bases past d = ap (counted_all bases) (reverse-append (d ∷ []) past) ∙ counted_append bases (reverse past) d

-- what is known of a past and of the rest of the list
pub record IsSplit (bases : List ℕ) (past rest : List Event) : Type 0 where
  pub placed : IsPast bases past
  pub long : length (counted_all bases (reverse past)) ≡ length bases
  pub tallied : (lane : ℕ) → lane < length bases → count_at (counted_all bases (reverse past)) lane ≡ count_at bases lane + tally past lane
  pub after : AreNumbered (counted_all bases (reverse past)) rest

tallied_more : (bases counts : List ℕ) (past : List Event) (d : Event) (lane : ℕ) → d.lane < length counts → d.index ≡ count_at counts d.lane → count_at counts lane ≡ count_at bases lane + tally past lane → count_at (counted counts d) lane ≡ count_at bases lane + tally (d ∷ past) lane
tallied_more bases counts past d lane l i t =
    ⊎_elim (λ (q : d.lane ≡ lane).
    let b = eq-eqb _ _ q in
    let s = counted_same counts d l in
    let u = ap (count_at (counted counts d)) q in
    let v = ap (count_at counts) q in
    rw b (omega arith))
    (λ (q : d.lane ≡ lane → ⊥).
    let b = ne_eqb _ _ q in
    let s = counted_other counts d lane (λ z. q (sym z)) in
    rw b (omega arith))
    (cases_eq d.lane lane)

pub is_split : (bases : List ℕ) (past rest : List Event) → AreNumbered bases (reverse past ++ rest) → IsSplit bases past rest
is_split bases [] rest n = record { placed = tt; long = refl; tallied = λ lane l. omega arith; after = n }
is_split bases (d ∷ past) rest n =
    let s = is_split bases past (d ∷ rest) (subst (AreNumbered bases) (reverse_more d past rest) n) in
    let counts = counted_all bases (reverse past) in
    let same : counted_all bases (reverse (d ∷ past)) ≡ counted counts d = counted_reverse bases past d in
    let long = s.long in
    let first = s.after.0 in
    let l : d.lane < length bases = omega arith in
    record {
      placed = (l, s.after.1 ∙ s.tallied d.lane l, s.placed);
      long = ap (λ (x : List ℕ). length x) same ∙ counted_long counts d ∙ long;
      tallied = λ lane k. ap (λ (x : List ℕ). count_at x lane) same ∙ tallied_more bases counts past d lane first s.after.1 (s.tallied lane k);
      after = subst (λ (x : List ℕ). AreNumbered x rest) (sym same) s.after.2;
    }

-- the latest of a lane
pub record IsLatest (bases : List ℕ) (past : List Event) (lane n : ℕ) : Type 0 where
  pub event : Event
  pub there : Has event past
  pub of : event.lane ≡ lane
  pub at : event.index ≡ count_at bases lane + n

pub latest_of : (bases : List ℕ) (past : List Event) (lane n : ℕ) → IsPast bases past → tally past lane ≡ n + 1 → IsLatest bases past lane n
latest_of bases [] lane n p t = absurd (omega arith)
latest_of bases (d ∷ past) lane n p t =
    ⊎_elim (λ (q : d.lane ≡ lane).
    let b = eq-eqb _ _ q in
    let u : 1 + tally past lane ≡ n + 1 = rw b at t in
    let i = p.1 in
    let v = ap (count_at bases) q in
    let w = ap (tally past) q in
    record { event = d; there = inl refl; of = q; at = omega arith })
    (λ (q : d.lane ≡ lane → ⊥).
    let b = ne_eqb _ _ q in
    let u : 0 + tally past lane ≡ n + 1 = rw b at t in
    let r = latest_of bases past lane n p.2 (omega arith) in
    record { event = r.event; there = inr r.there; of = r.of; at = r.at })
    (cases_eq d.lane lane)
