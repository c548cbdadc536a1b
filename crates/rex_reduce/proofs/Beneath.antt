-- What the clocks before an event cover, and those beneath it.
use Rattle.std.proofs.Common.{◌≡◌, ◌⊎◌, inl, inr, ⊎_elim, ℕ, ◌+◌, ◌<◌, ◌≤◌, Bool, true, false, List, [], ◌∷◌, ◌++◌, length, reverse, refl, sym, ◌∙◌, subst, arith}
use Rattle.std.proofs.lemmas.Bool.{cases_lt, cases_Bool, cond_both}
use Rattle.rex_event.specs.declared.event.Event.{Event}
use Rattle.rex_event.specs.Conflict.{conflict}
use Rattle.rex_event.specs.Order.{Has, Precedes, ConflictsBefore, Chain, IsOrdered}
use Rattle.rex_event.specs.Cuts.{count_at, AreNumbered}
use Rattle.rex_event.specs.declared.event.TheConstants.{LANES}
use Rattle.rex_clocks.specs.Counts.{merged}
use Rattle.rex_clocks.specs.Clocks.{clock_before}
use Rattle.rex_clocks.proofs.Counts.{count_none, count_merged}
use Rattle.rex_clocks.proofs.Past.{IsPast, reverse_more, before_is_past, is_split}
use Rattle.rex_clocks.proofs.Order.{last_step, leads_on, past_before, IsBelow, below_more, merged_all, merged_only}
use Rattle.rex_reduce.specs.Clocks.{merged_befores, clock_beneath}

-- an event stands in a list of no more lanes than a clock counts right after its past
pub record Stands (bases : List ℕ) (es past rest : List Event) (e : Event) : Type 0 where
  pub few : length bases ≤ LANES
  pub numbered : AreNumbered bases es
  pub split : es ≡ reverse past ++ e ∷ rest
  pub placed : IsPast bases (e ∷ past)

pub stands : (bases : List ℕ) (es past rest : List Event) (e : Event) → length bases ≤ LANES → AreNumbered bases es → es ≡ reverse past ++ e ∷ rest → Stands bases es past rest e
stands bases es past rest e few n q =
    let s = is_split bases (e ∷ past) rest (subst (AreNumbered bases) (q ∙ sym (reverse_more e past rest)) n) in
    record { few = few; numbered = n; split = q; placed = s.placed }

-- an event of a lane at a place, that leads to another one
pub record IsAt (bases : List ℕ) (es : List Event) (lane place : ℕ) (e : Event) : Type 0 where
  pub event : Event
  pub of : event.lane ≡ lane
  pub at : event.index ≡ count_at bases lane + place
  pub leads : IsOrdered es event e

-- ---- before

pub before_all : (bases : List ℕ) (es past rest : List Event) (d e : Event) → Stands bases es past rest e → IsOrdered es d e → IsBelow bases (clock_before past e) d
before_all bases es past rest d e s o =
    let l = last_step es d e o in
    let there = before_is_past bases past e rest l.event (subst (AreNumbered bases) s.split s.numbered) (subst (Precedes l.event e) s.split l.step.before) in
    merged_all bases es past (e ∷ rest) (λ (x : Event). conflict x e) l.event d s.few s.numbered s.split s.placed.2 there l.step.meets l.leads

pub before_only : (bases : List ℕ) (es past rest : List Event) (e : Event) (lane place : ℕ) → Stands bases es past rest e → place < count_at (clock_before past e) lane → IsAt bases es lane place e
before_only bases es past rest e lane place s l =
    let f = merged_only bases es past (e ∷ rest) (λ (x : Event). conflict x e) lane place s.few s.split s.placed.2 l in
    record { event = f.first; of = f.of; at = f.at; leads = leads_on es f.first f.last e f.leads (past_before es past rest f.last e s.split f.there f.holding) }

-- ---- beneath

befores_kept : (holds : Event → Bool) (d : Event) (past : List Event) (lane : ℕ) → count_at (merged_befores holds past) lane ≤ count_at (merged_befores holds (d ∷ past)) lane
befores_kept holds d past lane =
    let both = count_merged (clock_before past d) (merged_befores holds past) lane in
    cond_both (holds d) (merged (clock_before past d) (merged_befores holds past)) (merged_befores holds past) (λ (x : List ℕ). count_at (merged_befores holds past) lane ≤ count_at x lane)
    (λ b. omega arith) (λ b. omega arith)

befores_own : (holds : Event → Bool) (d : Event) (past : List Event) (lane : ℕ) → holds d ≡ true → count_at (clock_before past d) lane ≤ count_at (merged_befores holds (d ∷ past)) lane
befores_own holds d past lane h =
    let both = count_merged (clock_before past d) (merged_befores holds past) lane in
    rw h (omega arith)

later : (bases : List ℕ) (es past rest : List Event) (e : Event) → length bases ≤ LANES → AreNumbered bases es → es ≡ reverse (e ∷ past) ++ rest → IsPast bases (e ∷ past) → Stands bases es past rest e
later bases es past rest e few n q p = record { few = few; numbered = n; split = q ∙ reverse_more e past rest; placed = p }

befores_all :
    (bases : List ℕ) (es past rest : List Event) (holds : Event → Bool) (m d : Event) → length bases ≤ LANES → AreNumbered bases es → es ≡ reverse past ++ rest → IsPast bases past
    → Has m past → holds m ≡ true → IsOrdered es d m → IsBelow bases (merged_befores holds past) d
befores_all bases es [] rest holds m d few n q p h t o = absurd h
befores_all bases es (e ∷ past) rest holds m d few n q p h t o =
    let s = later bases es past rest e few n q p in
    ⊎_elim (λ (w : e ≡ m).
    below_more bases (clock_before past e) (merged_befores holds (e ∷ past)) d
    (before_all bases es past rest d e s (subst (λ (x : Event). IsOrdered es d x) (sym w) o))
    (befores_own holds e past d.lane (subst (λ (x : Event). holds x ≡ true) (sym w) t)))
    (λ (k : Has m past).
    below_more bases (merged_befores holds past) (merged_befores holds (e ∷ past)) d (befores_all bases es past (e ∷ rest) holds m d few n s.split p.2 k t o) (befores_kept holds e past d.lane))
    h

-- a place of a lane is of an event that has to come before one of a past for which this holds
record IsUnder (bases : List ℕ) (es past : List Event) (holds : Event → Bool) (lane place : ℕ) : Type 0 where
  last : Event
  first : IsAt bases es lane place last
  there : Has last past
  holding : holds last ≡ true

befores_only :
    (bases : List ℕ) (es past rest : List Event) (holds : Event → Bool) (lane place : ℕ) → length bases ≤ LANES → AreNumbered bases es → es ≡ reverse past ++ rest → IsPast bases past
    → place < count_at (merged_befores holds past) lane → IsUnder bases es past holds lane place
befores_only bases es [] rest holds lane place few n q p l = let z = count_none lane in absurd (omega arith)
befores_only bases es (e ∷ past) rest holds lane place few n q p l =
    let s = later bases es past rest e few n q p in
    let rest_of = λ (k : place < count_at (merged_befores holds past) lane).
    let u = befores_only bases es past (e ∷ rest) holds lane place few n s.split p.2 k in
    let r : IsUnder bases es (e ∷ past) holds lane place = record { last = u.last; first = u.first; there = inr u.there; holding = u.holding } in r in
    ⊎_elim (λ (t : holds e ≡ true).
    let u : place < count_at (merged (clock_before past e) (merged_befores holds past)) lane = rw t at l in
    let both = count_merged (clock_before past e) (merged_befores holds past) lane in
    ⊎_elim (λ (k : place < count_at (clock_before past e) lane).
    let r : IsUnder bases es (e ∷ past) holds lane place = record { last = e; first = before_only bases es past rest e lane place s k; there = inl refl; holding = t } in r)
    (λ (k : count_at (clock_before past e) lane ≤ place). rest_of (omega arith))
    (cases_lt place (count_at (clock_before past e) lane)))
    (λ (t : holds e ≡ false). rest_of (rw t at l))
    (cases_Bool (holds e))

pub joined_order : (es : List Event) (d m e : Event) → IsOrdered es d m → (m ≡ e) ⊎ IsOrdered es m e → IsOrdered es d e
joined_order es d m e o p =
    ⊎_elim (λ (q : m ≡ e). subst (IsOrdered es d) q o)
    (λ (q : IsOrdered es m e). chained d o.0 o.1 q)
    p
  where
    chained : (x : Event) (via : List Event) → Chain (ConflictsBefore es) x via m → IsOrdered es m e → IsOrdered es x e
    chained x [] h q = (m ∷ q.0, (h, q.1))
    chained x (y ∷ via) h q = let r = chained y via h.1 q in (y ∷ r.0, (h.0, r.1))

-- what comes before something before an event is beneath it
pub beneath_all : (bases : List ℕ) (es past rest : List Event) (d m e : Event) → Stands bases es past rest e → IsOrdered es d m → IsOrdered es m e → IsBelow bases (clock_beneath past e) d
beneath_all bases es past rest d m e s o p =
    let l = last_step es m e p in
    let there = before_is_past bases past e rest l.event (subst (AreNumbered bases) s.split s.numbered) (subst (Precedes l.event e) s.split l.step.before) in
    befores_all bases es past (e ∷ rest) (λ (x : Event). conflict x e) l.event d s.few s.numbered s.split s.placed.2 there l.step.meets (joined_order es d m l.event o l.leads)

-- and nothing else is
pub record IsBetween (bases : List ℕ) (es : List Event) (lane place : ℕ) (e : Event) : Type 0 where
  pub middle : Event
  pub first : IsAt bases es lane place middle
  pub leads : IsOrdered es middle e

pub beneath_only : (bases : List ℕ) (es past rest : List Event) (e : Event) (lane place : ℕ) → Stands bases es past rest e → place < count_at (clock_beneath past e) lane → IsBetween bases es lane place e
beneath_only bases es past rest e lane place s l =
    let u = befores_only bases es past (e ∷ rest) (λ (x : Event). conflict x e) lane place s.few s.numbered s.split s.placed.2 l in
    record { middle = u.last; first = u.first; leads = ([], past_before es past rest u.last e s.split u.there u.holding) }
