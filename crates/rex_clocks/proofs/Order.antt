-- What the clocks of events cover.
use Rattle.std.proofs.Common.{◌≡◌, ◌⊎◌, inl, inr, ⊎_elim, ℕ, zero, suc, ◌+◌, ◌<◌, ◌≤◌, Bool, true, false, cond, List, [], ◌∷◌, ◌++◌, length, reverse, refl, ap, sym, ◌∙◌, subst, arith}
use Rattle.std.specs.Prelude.{nat_eq}
use Rattle.std.proofs.lemmas.Bool.{cases_eq, cases_lt, cases_Bool, eq-eqb, ne_eqb, cond_both, ltb-true, lt-ltb, or_left}
use Rattle.rex_event.specs.declared.event.Event.{Event}
use Rattle.rex_event.specs.Conflict.{conflict}
use Rattle.rex_event.specs.Order.{Has, Precedes, ConflictsBefore, Chain, IsOrdered}
use Rattle.rex_event.specs.Cuts.{count_at, AreNumbered}
use Rattle.rex_event.specs.declared.event.TheConstants.{LANES}
use Rattle.rex_clocks.specs.Counts.{ticked, merged}
use Rattle.rex_clocks.specs.Clocks.{merged_clocks, clock_before, clock_of}
use Rattle.rex_clocks.specs.Laws.{IsClockOf}
use Rattle.rex_clocks.proofs.Counts.{count_none, count_merged, merged_long, ticked_long, ticked_same, ticked_within, ticked_more}
use Rattle.rex_clocks.proofs.Leads.{precedes_across}
use Rattle.rex_clocks.proofs.Past.{tally, IsPast, reverse_more, has_reverse, before_is_past, is_split, latest_of}

-- ---- counts

pub clocks_long : (holds : Event → Bool) (past : List Event) → length (merged_clocks holds past) ≡ LANES
clocks_long holds [] = refl
clocks_long holds (d ∷ past) =
    let c = merged_clocks (λ (x : Event). conflict x d) past in
    let own : length (ticked c d.lane) ≡ LANES = ticked_long c d.lane ∙ clocks_long (λ (x : Event). conflict x d) past in
    let rest = clocks_long holds past in
    let long = merged_long (ticked c d.lane) (merged_clocks holds past) in
    cond_both (holds d) (merged (ticked c d.lane) (merged_clocks holds past)) (merged_clocks holds past) (λ (x : List ℕ). length x ≡ LANES) (λ b. omega arith) (λ b. rest)

-- no more events of a lane are covered than there are
pub counts_within : (holds : Event → Bool) (past : List Event) (lane : ℕ) → count_at (merged_clocks holds past) lane ≤ tally past lane
counts_within holds [] lane = let z = count_none lane in omega arith
counts_within holds (d ∷ past) lane =
    let c = merged_clocks (λ (x : Event). conflict x d) past in
    let own = counts_within (λ (x : Event). conflict x d) past lane in
    let one = ticked_within c d.lane lane in
    let rest = counts_within holds past lane in
    let both = count_merged (ticked c d.lane) (merged_clocks holds past) lane in
    cond_both (holds d) (merged (ticked c d.lane) (merged_clocks holds past)) (merged_clocks holds past) (λ (x : List ℕ). count_at x lane ≤ cond (nat_eq d.lane lane) 1 0 + tally past lane)
    (λ b. omega arith) (λ b. omega arith)

pub counts_kept : (holds : Event → Bool) (d : Event) (past : List Event) (lane : ℕ) → count_at (merged_clocks holds past) lane ≤ count_at (merged_clocks holds (d ∷ past)) lane
counts_kept holds d past lane =
    let both = count_merged (clock_of past d) (merged_clocks holds past) lane in
    cond_both (holds d) (merged (clock_of past d) (merged_clocks holds past)) (merged_clocks holds past) (λ (x : List ℕ). count_at (merged_clocks holds past) lane ≤ count_at x lane)
    (λ b. omega arith) (λ b. omega arith)

pub counts_own : (holds : Event → Bool) (d : Event) (past : List Event) (lane : ℕ) → holds d ≡ true → count_at (clock_of past d) lane ≤ count_at (merged_clocks holds (d ∷ past)) lane
counts_own holds d past lane h =
    let both = count_merged (clock_of past d) (merged_clocks holds past) lane in
    rw h (omega arith)

-- ---- steps

-- what leads to an event leads to it by a last step
pub record IsLast (es : List Event) (d e : Event) : Type 0 where
  pub event : Event
  pub leads : (d ≡ event) ⊎ IsOrdered es d event
  pub step : ConflictsBefore es event e

last_of_chain : (es : List Event) (d : Event) (via : List Event) (e : Event) → Chain (ConflictsBefore es) d via e → IsLast es d e
last_of_chain es d [] e h = record { event = d; leads = inl refl; step = h }
last_of_chain es d (y ∷ via) e h =
    let r = last_of_chain es y via e h.1 in
    record {
      event = r.event;
      leads = inr (⊎_elim (λ (q : y ≡ r.event). ([], subst (ConflictsBefore es d) q h.0)) (λ (o : IsOrdered es y r.event). (y ∷ o.0, (h.0, o.1))) r.leads);
      step = r.step;
    }

pub last_step : (es : List Event) (d e : Event) → IsOrdered es d e → IsLast es d e
last_step es d e h = last_of_chain es d h.0 e h.1

chain_more : (es : List Event) (d : Event) (via : List Event) (m e : Event) → Chain (ConflictsBefore es) d via m → ConflictsBefore es m e → Chain (ConflictsBefore es) d (via ++ m ∷ []) e
chain_more es d [] m e h s = (h, s)
chain_more es d (y ∷ via) m e h s = (h.0, chain_more es y via m e h.1 s)

-- what leads to the event before a step leads on
pub leads_on : (es : List Event) (d m e : Event) → (d ≡ m) ⊎ IsOrdered es d m → ConflictsBefore es m e → IsOrdered es d e
leads_on es d m e h s =
    ⊎_elim (λ (q : d ≡ m). ([], subst (λ (x : Event). ConflictsBefore es x e) (sym q) s))
    (λ (o : IsOrdered es d m). (o.0 ++ m ∷ [], chain_more es d o.0 m e o.1 s)) h

-- an event of the past that conflicts with an event has to come before it
pub past_before : (es past rest : List Event) (m e : Event) → es ≡ reverse past ++ e ∷ rest → Has m past → conflict m e ≡ true → ConflictsBefore es m e
past_before es past rest m e q h c =
    record { before = subst (Precedes m e) (sym q) (precedes_across m e (reverse past) (e ∷ rest) (has_reverse m past h) (inl refl)); meets = c }

pub same_lane : (d e : Event) → d.lane ≡ e.lane → conflict d e ≡ true
same_lane d e q = or_left _ _ (eq-eqb _ _ q)

-- ---- the counts of each clock are large enough

-- an event is below the counts of a clock
pub record IsBelow (bases clock : List ℕ) (d : Event) : Type 0 where
  pub is : d.index < count_at bases d.lane + count_at clock d.lane

pub below_more : (bases first second : List ℕ) (d : Event) → IsBelow bases first d → count_at first d.lane ≤ count_at second d.lane → IsBelow bases second d
below_more bases first second d b l = let i = b.is in record { is = omega arith }

-- an event's clock counts the events of its lane before it, where the clocks of its past count the events that they merge
pub own_full :
    (bases : List ℕ) (past : List Event) (d : Event) → IsPast bases past
    → ((m : Event) → Has m past → conflict m d ≡ true → IsBelow bases (clock_before past d) m)
    → tally past d.lane ≤ count_at (clock_before past d) d.lane
own_full bases past d p reach =
    ⊎_elim (λ (l : 0 < tally past d.lane).
    let n : (k : ℕ) × (tally past d.lane ≡ k + 1) = pred_of (tally past d.lane) l in
    let q = latest_of bases past d.lane n.0 p n.1 in
    let b = (reach q.event q.there (same_lane q.event d q.of)).is in
    let i = q.at in
    let u = ap (count_at bases) q.of in
    let v = ap (count_at (clock_before past d)) q.of in
    let w = n.1 in
    omega arith)
    (λ (l : tally past d.lane ≤ 0). omega arith)
    (cases_lt 0 (tally past d.lane))
  where
    pred_of : (n : ℕ) → 0 < n → (k : ℕ) × (n ≡ k + 1)
    pred_of zero l = absurd (omega arith)
    pred_of (suc k) l = (k, omega arith)

ticked_below : (bases clock : List ℕ) (lane : ℕ) (d : Event) → length clock ≡ LANES → lane < LANES → IsBelow bases clock d → IsBelow bases (ticked clock lane) d
ticked_below bases clock lane d long l b = below_more bases clock (ticked clock lane) d b (ticked_more clock lane d.lane (omega arith))

own_below : (bases : List ℕ) (past : List Event) (d : Event) → length bases ≤ LANES → IsPast bases (d ∷ past) → tally past d.lane ≤ count_at (clock_before past d) d.lane → IsBelow bases (clock_of past d) d
own_below bases past d few p full =
    let long = clocks_long (λ (x : Event). conflict x d) past in
    let l = p.0 in
    let i = p.1 in
    let s = ticked_same (clock_before past d) d.lane (omega arith) in
    record { is = omega arith }

-- a clock counts each event that it merges
pub merged_below : (bases : List ℕ) (past : List Event) (holds : Event → Bool) (m : Event) → length bases ≤ LANES → IsPast bases past → Has m past → holds m ≡ true → IsBelow bases (merged_clocks holds past) m
merged_below bases [] holds m few p h t = absurd h
merged_below bases (d ∷ past) holds m few p h t =
    ⊎_elim (λ (q : d ≡ m).
    subst (IsBelow bases (merged_clocks holds (d ∷ past))) q
    (below_more bases (clock_of past d) (merged_clocks holds (d ∷ past)) d
    (own_below bases past d few p (own_full bases past d p.2 (λ x k c. merged_below bases past (λ (y : Event). conflict y d) x few p.2 k c)))
    (counts_own holds d past d.lane (subst (λ (x : Event). holds x ≡ true) (sym q) t))))
    (λ (k : Has m past).
    below_more bases (merged_clocks holds past) (merged_clocks holds (d ∷ past)) m (merged_below bases past holds m few p.2 k t) (counts_kept holds d past m.lane))
    h

pub full : (bases : List ℕ) (past : List Event) (d : Event) → length bases ≤ LANES → IsPast bases past → tally past d.lane ≡ count_at (clock_before past d) d.lane
full bases past d few p =
    let low = own_full bases past d p (λ x k c. merged_below bases past (λ (y : Event). conflict y d) x few p k c) in
    let high = counts_within (λ (x : Event). conflict x d) past d.lane in
    omega arith

-- the clock of an event counts the event and what has to come before it
pub clock_all :
    (bases : List ℕ) (es past rest : List Event) (e d : Event) → length bases ≤ LANES → AreNumbered bases es → es ≡ reverse past ++ e ∷ rest → IsPast bases (e ∷ past)
    → ((m : Event) → Has m past → conflict m e ≡ true → (d ≡ m) ⊎ IsOrdered es d m → IsBelow bases (clock_before past e) d)
    → (d ≡ e) ⊎ IsOrdered es d e → IsBelow bases (clock_of past e) d
clock_all bases es past rest e d few n q p earlier o =
    let own = own_below bases past e few p (let f = full bases past e few p.2 in omega arith) in
    let l = p.0 in
    ⊎_elim (λ (z : d ≡ e). subst (IsBelow bases (clock_of past e)) (sym z) own)
    (λ (z : IsOrdered es d e).
    let s = last_step es d e z in
    let there = before_is_past bases past e rest s.event (subst (AreNumbered bases) q n) (subst (Precedes s.event e) q s.step.before) in
    ticked_below bases (clock_before past e) e.lane d (clocks_long (λ (x : Event). conflict x e) past) (omega arith) (earlier s.event there s.step.meets s.leads))
    o

-- a clock counts what has to come before an event that it merges
pub merged_all :
    (bases : List ℕ) (es past rest : List Event) (holds : Event → Bool) (m d : Event) → length bases ≤ LANES → AreNumbered bases es → es ≡ reverse past ++ rest → IsPast bases past
    → Has m past → holds m ≡ true → (d ≡ m) ⊎ IsOrdered es d m → IsBelow bases (merged_clocks holds past) d
merged_all bases es [] rest holds m d few n q p h t o = absurd h
merged_all bases es (e ∷ past) rest holds m d few n q p h t o =
    let split : es ≡ reverse past ++ e ∷ rest = q ∙ reverse_more e past rest in
    ⊎_elim (λ (w : e ≡ m).
    below_more bases (clock_of past e) (merged_clocks holds (e ∷ past)) d
    (clock_all bases es past rest e d few n split p (λ x k c i. merged_all bases es past (e ∷ rest) (λ (y : Event). conflict y e) x d few n split p.2 k c i)
    (subst (λ (x : Event). (d ≡ x) ⊎ IsOrdered es d x) (sym w) o))
    (counts_own holds e past d.lane (subst (λ (x : Event). holds x ≡ true) (sym w) t)))
    (λ (k : Has m past).
    below_more bases (merged_clocks holds past) (merged_clocks holds (e ∷ past)) d (merged_all bases es past (e ∷ rest) holds m d few n split p.2 k t o) (counts_kept holds e past d.lane))
    h

-- ---- and not too large

-- a place of a lane is of an event that leads to an event of the past, for which this holds
pub record IsFound (bases : List ℕ) (es past : List Event) (holds : Event → Bool) (lane place : ℕ) : Type 0 where
  pub first : Event
  pub last : Event
  pub of : first.lane ≡ lane
  pub at : first.index ≡ count_at bases lane + place
  pub there : Has last past
  pub holding : holds last ≡ true
  pub leads : (first ≡ last) ⊎ IsOrdered es first last

found_later : (bases : List ℕ) (es past : List Event) (holds : Event → Bool) (e : Event) (lane place : ℕ) → IsFound bases es past holds lane place → IsFound bases es (e ∷ past) holds lane place
found_later bases es past holds e lane place f =
    record { first = f.first; last = f.last; of = f.of; at = f.at; there = inr f.there; holding = f.holding; leads = f.leads }

-- what the clock of an event covers is the event itself, or leads to what conflicts with it
pub clock_only :
    (bases : List ℕ) (es past rest : List Event) (e : Event) (lane place : ℕ) → length bases ≤ LANES → es ≡ reverse past ++ e ∷ rest → IsPast bases (e ∷ past)
    → (place < count_at (clock_before past e) lane → IsFound bases es past (λ (x : Event). conflict x e) lane place)
    → place < count_at (clock_of past e) lane
    → (d : Event) × (d.lane ≡ lane) × (d.index ≡ count_at bases lane + place) × ((d ≡ e) ⊎ IsOrdered es d e)
clock_only bases es past rest e lane place few q p found l =
    ⊎_elim (λ (k : place < count_at (clock_before past e) lane).
    let f = found k in
    (f.first, f.of, f.at, inr (leads_on es f.first f.last e f.leads (past_before es past rest f.last e q f.there f.holding))))
    (λ (k : count_at (clock_before past e) lane ≤ place).
    let one = ticked_within (clock_before past e) e.lane lane in
    ⊎_elim (λ (w : e.lane ≡ lane).
    let b = eq-eqb _ _ w in
    let u : count_at (clock_of past e) lane ≤ 1 + count_at (clock_before past e) lane = rw b at one in
    let v = full bases past e few p.2 in
    let i = p.1 in
    let x = ap (count_at bases) w in
    let y = ap (count_at (clock_before past e)) w in
    (e, w, omega arith, inl refl))
    (λ (w : e.lane ≡ lane → ⊥).
    let b = ne_eqb _ _ w in
    let u : count_at (clock_of past e) lane ≤ 0 + count_at (clock_before past e) lane = rw b at one in
    absurd (omega arith))
    (cases_eq e.lane lane))
    (cases_lt place (count_at (clock_before past e) lane))

pub merged_only :
    (bases : List ℕ) (es past rest : List Event) (holds : Event → Bool) (lane place : ℕ) → length bases ≤ LANES → es ≡ reverse past ++ rest → IsPast bases past
    → place < count_at (merged_clocks holds past) lane → IsFound bases es past holds lane place
merged_only bases es [] rest holds lane place few q p l = let z = count_none lane in absurd (omega arith)
merged_only bases es (e ∷ past) rest holds lane place few q p l =
    let split : es ≡ reverse past ++ e ∷ rest = q ∙ reverse_more e past rest in
    let later = λ (k : place < count_at (merged_clocks holds past) lane). found_later bases es past holds e lane place (merged_only bases es past (e ∷ rest) holds lane place few split p.2 k) in
    ⊎_elim (λ (t : holds e ≡ true).
    let u : place < count_at (merged (clock_of past e) (merged_clocks holds past)) lane = rw t at l in
    let both = count_merged (clock_of past e) (merged_clocks holds past) lane in
    ⊎_elim (λ (k : place < count_at (clock_of past e) lane).
    let r = clock_only bases es past rest e lane place few split p (λ j. merged_only bases es past (e ∷ rest) (λ (x : Event). conflict x e) lane place few split p.2 j) k in
    record { first = r.0; last = e; of = r.1; at = r.2; there = inl refl; holding = t; leads = r.3 })
    (λ (k : count_at (clock_of past e) lane ≤ place). later (omega arith))
    (cases_lt place (count_at (clock_of past e) lane)))
    (λ (t : holds e ≡ false). later (rw t at l))
    (cases_Bool (holds e))

-- ---- the clock of an event

pub clock_is :
    (bases : List ℕ) (past : List Event) (e : Event) (rest : List Event) → length bases ≤ LANES → AreNumbered bases (reverse past ++ e ∷ rest)
    → IsClockOf bases (reverse past ++ e ∷ rest) e (clock_of past e)
clock_is bases past e rest few n =
    let es = reverse past ++ e ∷ rest in
    let s = is_split bases (e ∷ past) rest (subst (AreNumbered bases) (sym (reverse_more e past rest)) n) in
    let p = s.placed in
    record {
      all = λ d place o i.
          let b =
          (clock_all bases es past rest e d few n refl p (λ m k c l. merged_all bases es past (e ∷ rest) (λ (x : Event). conflict x e) m d few n refl p.2 k c l) o).is in
          lt-ltb place (count_at (clock_of past e) d.lane) (omega arith);
      only = λ lane place c.
          clock_only bases es past rest e lane place few refl p
          (λ k. merged_only bases es past (e ∷ rest) (λ (x : Event). conflict x e) lane place few refl p.2 k)
          (ltb-true place (count_at (clock_of past e) lane) c);
    }
