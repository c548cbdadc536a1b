-- The steps of the loops.
use Rattle.std.proofs.Common.{◌≡◌, inl, inr, ⊎_elim, ℕ, suc, ◌+◌, ◌-◌, ◌<◌, ◌≤◌, Bool, true, false, ◌||◌, cond, List, [], ◌∷◌, ◌++◌, length, get_or, set, take, drop, reverse, refl, ap, sym, ◌∙◌, subst, arith}
use Rattle.std.specs.Prelude.{nat_eq, Option, Some, None}
use Rattle.std.specs.List.{All}
use Rattle.std.proofs.lemmas.Bool.{cases_lt, cases_eq}
use Rattle.std.proofs.lemmas.List.{append_assoc, drop_more, take_more, take-append-drop, reverse-append, reverse-reverse, get_or_past, get_or-set_same, get_or-set_other, length-set}
use Rattle.std.proofs.lemmas.List.Elements.{All-head, All-tail}
use Rattle.rex_event.specs.declared.event.Event.{Event}
use Rattle.rex_event.specs.declared.event.Kind.{Kind}
use Rattle.rex_event.specs.declared.delta.Cause.{Cause}
use Rattle.rex_event.specs.Conflict.{same_name, conflict}
use Rattle.rex_event.specs.Order.{Has}
use Rattle.rex_event.specs.Cuts.{count_at, AreNumbered}
use Rattle.rex_clocks.specs.Counts.{ticked, unticked}
use Rattle.rex_clocks.specs.Clocks.{merged_clocks, clock_before, clock_of}
use Rattle.rex_clocks.proofs.Counts.{count_none, unticked_ticked}
use Rattle.rex_clocks.proofs.Leads.{all_from_has, has_left, has_right}
use Rattle.rex_clocks.proofs.Numbered.{numbered_lane}
use Rattle.rex_clocks.proofs.Past.{tally, latest_of, has_reverse, is_split}
use Rattle.rex_clocks.proofs.Order.{clocks_long, counts_within}
use Rattle.rex_reduce.specs.declared.summary.Summary.{Summary}
use Rattle.rex_reduce.specs.declared.uses.Uses.{Uses}
use Rattle.rex_reduce.specs.Summaries.{joined, alone, summary_of}
use Rattle.rex_reduce.specs.Names.{waker_slot, is_waker_at}
use Rattle.rex_reduce.specs.Tables.{at, AreAddedAt, AreAddedWoken}
use Rattle.rex_reduce.specs.Uses.{met, AreAdded}
use Rattle.rex_clocks.specs.Lanes.{HasLane}
use Rattle.rex_reduce.specs.Reduced.{HasNext, IsTrace}
use Rattle.rex_reduce.specs.Reduction.{first_indices, uncovered, reduced_causes, reduced_from}
use Rattle.rex_reduce.proofs.Joined.{joined_twice}
use Rattle.rex_reduce.proofs.Conflicts.{or_false}
use Rattle.rex_reduce.proofs.Kept.{KeepAll, met_is, own_of, more_all}
use Rattle.rex_reduce.proofs.Beneath.{stands}
use Rattle.rex_event.specs.declared.event.TheConstants.{LANES}
use Rattle.rex_reduce.proofs.First.{first_long, numbered_first}

-- ---- adding at the places of a signal

woken_by : (a b : Bool) (row own : Summary) → cond b (joined (cond a (joined row own) row) own) (cond a (joined row own) row) ≡ cond (a || b) (joined row own) row
woken_by true true row own = joined_twice row own
woken_by true false row own = refl
woken_by false true row own = refl
woken_by false false row own = refl

woken_at : (rows mid more : List Summary) (kind : Kind) (own : Summary) (n : ℕ) (place : Option ℕ) → place ≡ waker_slot kind n → AreAddedWoken rows kind own n mid → AreAddedAt mid place own more → AreAddedWoken rows kind own (suc n) more
woken_at rows mid more kind own n None q w a k =
    a k ∙ w k
    ∙ ap (λ (x : Bool). cond x (joined (at rows k) own) (at rows k))
    (sym (or_false (is_waker_at kind (Some k) n)) ∙ ap (λ (x : Option ℕ). is_waker_at kind (Some k) n || same_name x (Some k)) q)
woken_at rows mid more kind own n (Some place) q w a k =
    a k ∙ ap (λ (x : Summary). cond (nat_eq place k) (joined x own) x) (w k)
    ∙ woken_by (is_waker_at kind (Some k) n) (nat_eq place k) (at rows k) own
    ∙ ap (λ (x : Option ℕ). cond (is_waker_at kind (Some k) n || same_name x (Some k)) (joined (at rows k) own) (at rows k)) q

pub woken_more : (rows mid more : List Summary) (kind : Kind) (own : Summary) (n : ℕ) (place : Option ℕ) → place ≡ waker_slot kind n → AreAddedWoken rows kind own n mid → AreAddedAt mid place own more → AreAddedWoken rows kind own (n + 1) more
woken_more rows mid more kind own n place q w a =
    let s : suc n ≡ n + 1 = omega arith in
    subst (λ (x : ℕ). AreAddedWoken rows kind own x more) s (woken_at rows mid more kind own n place q w a)

-- ---- a trace

pub trace_lanes : (es : List Event) → IsTrace es → All (HasLane LANES) es
trace_lanes es t =
    all_from_has (HasLane LANES) es (λ e h. let few = t.few in let l = numbered_lane t.bases es e t.numbered h in record { below = omega arith })

all_has : {X : Type 0} (P : X → Type 0) (xs : List X) (x : X) → All P xs → Has x xs → P x
all_has P [] x a h = absurd h
all_has P (y ∷ xs) x a (inl h) = subst P h (All-head P y xs a)
all_has P (y ∷ xs) x a (inr h) = all_has P xs x (All-tail P y xs a) h

first_room : (es : List Event) (lane : ℕ) → All HasNext es → count_at (first_indices es) lane < 4294967295
first_room [] lane a = let z = count_none lane in omega arith
first_room (e ∷ es) lane a =
    let own = (All-head HasNext e es a).index in
    let rest = first_room es lane (All-tail HasNext e es a) in
    ⊎_elim (λ (q : lane ≡ e.lane).
    subst (λ (x : ℕ). count_at (first_indices (e ∷ es)) x < 4294967295) (sym q)
    (⊎_elim (λ (l : e.lane < length (first_indices es)). let s = get_or-set_same (first_indices es) e.lane e.index 0 l in omega arith)
    (λ (l : length (first_indices es) ≤ e.lane). let s = past_set (first_indices es) e.lane e.index l in omega arith)
    (cases_lt e.lane (length (first_indices es)))))
    (λ (q : lane ≡ e.lane → ⊥). let o = get_or-set_other (first_indices es) e.lane lane e.index 0 q in omega arith)
    (cases_eq lane e.lane)
  where
    past_set : (xs : List ℕ) (k v : ℕ) → length xs ≤ k → get_or (set xs k v) k 0 ≡ 0
    past_set xs k v l = get_or_past (set xs k v) k 0 (let t = length-set xs k v in omega arith)

-- what a clock of a past counts stays below the numbers of events
pub counts_room : (es past rest : List Event) (holds : Event → Bool) (lane : ℕ) → IsTrace es → All HasNext es → es ≡ reverse past ++ rest → count_at (first_indices es) lane + count_at (merged_clocks holds past) lane ≤ 4294967295
counts_room es past rest holds lane t left q =
    let first = first_indices es in
    let n = numbered_first t.bases es t.few t.numbered in
    let s = is_split first past rest (subst (AreNumbered first) q n) in
    let within = counts_within holds past lane in
    let low = first_room es lane left in
    ⊎_elim (λ (l : 0 < tally past lane).
    let w : tally past lane ≡ tally past lane - 1 + 1 = omega arith in
    let e = latest_of first past lane (tally past lane - 1) s.placed w in
    let i = e.at in
    let there : Has e.event es = subst (Has e.event) (sym q) (has_left e.event (reverse past) rest (has_reverse e.event past e.there)) in
    let r = (all_has HasNext es e.event left there).index in
    omega arith)
    (λ (l : tally past lane ≤ 0). omega arith)
    (cases_lt 0 (tally past lane))

-- ---- a turn

pub record IsTurn (es : List Event) (i : ℕ) (e : Event) : Type 0 where
  pub split : es ≡ reverse (reverse (take i es)) ++ e ∷ drop (i + 1) es
  pub past : reverse (take (i + 1) es) ≡ e ∷ reverse (take i es)
  pub rest : drop i es ≡ e ∷ drop (i + 1) es

pub turn : (es : List Event) (i : ℕ) (e : Event) → i < length es → e ≡ get_or es i e → IsTurn es i e
turn es i e l q =
    let rest = drop_more es i e l ∙ ap (λ (x : Event). x ∷ drop (i + 1) es) (sym q) in
    record {
      split = sym (take-append-drop i es) ∙ ap (λ (x : List Event). take i es ++ x) rest ∙ ap (λ (x : List Event). x ++ e ∷ drop (i + 1) es) (sym (reverse-reverse (take i es)));
      past = ap (λ (x : List Event). reverse x) (take_more es i e l ∙ ap (λ (x : Event). take i es ++ x ∷ []) (sym q)) ∙ reverse-append (take i es) (e ∷ []);
      rest = rest;
    }

pub turn_there : (es : List Event) (i : ℕ) (e : Event) → IsTurn es i e → Has e es
turn_there es i e r = subst (Has e) (sym r.split) (has_right e (reverse (reverse (take i es))) (e ∷ drop (i + 1) es) (inl refl))

pub turn_lane : (es : List Event) (i : ℕ) (e : Event) → IsTrace es → IsTurn es i e → e.lane < LANES
turn_lane es i e t r = (all_has (HasLane LANES) es e (trace_lanes es t) (turn_there es i e r)).below

past_lanes : (es past rest : List Event) → IsTrace es → es ≡ reverse past ++ rest → (d : Event) → Has d past → d.lane < LANES
past_lanes es past rest t q d h = (all_has (HasLane LANES) es d (trace_lanes es t) (subst (Has d) (sym q) (has_left d (reverse past) rest (has_reverse d past h)))).below

pub turn_met : (es : List Event) (i : ℕ) (e : Event) (u : Uses) (m : Summary) → IsTrace es → IsTurn es i e → KeepAll (reverse (take i es)) u → m ≡ met u e → m ≡ summary_of (λ (d : Event). conflict d e) (reverse (take i es))
turn_met es i e u m t r k q =
    q ∙ met_is (reverse (take i es)) u e k (turn_lane es i e t r) (past_lanes es (reverse (take i es)) (e ∷ drop (i + 1) es) t r.split)

-- the clock of the event tells its summary
pub turn_own : (es : List Event) (i : ℕ) (e : Event) (m : Summary) (own : List ℕ) → IsTrace es → IsTurn es i e → m ≡ summary_of (λ (d : Event). conflict d e) (reverse (take i es)) → own ≡ ticked m.clocks e.lane → alone own e.lane ≡ own_of (reverse (take i es)) e
turn_own es i e m own t r q o =
    let past = reverse (take i es) in
    let long = clocks_long (λ (d : Event). conflict d e) past in
    let clock : own ≡ clock_of past e = o ∙ ap (λ (x : Summary). ticked x.clocks e.lane) q in
    let before : unticked own e.lane ≡ clock_before past e = ap (λ (x : List ℕ). unticked x e.lane) clock ∙ unticked_ticked (clock_before past e) e.lane (omega (arith, long, turn_lane es i e t r)) in
    λ j. record { clocks = clock j; befores = before j }

-- the tables keep one more
pub turn_kept : (es : List Event) (i : ℕ) (e : Event) (u more : Uses) (own : Summary) → IsTurn es i e → KeepAll (reverse (take i es)) u → own ≡ own_of (reverse (take i es)) e → AreAdded u e own more → KeepAll (reverse (take (i + 1) es)) more
turn_kept es i e u more own r k q a = subst (λ (x : List Event). KeepAll x more) (sym r.past) (more_all (reverse (take i es)) e own u more q k a)

-- the causes of one more event
pub turn_causes : (es : List Event) (first : List ℕ) (i : ℕ) (e : Event) (m : Summary) (causes : List (List Cause)) (own : List Cause) → IsTurn es i e → m ≡ summary_of (λ (d : Event). conflict d e) (reverse (take i es)) → own ≡ uncovered first m.clocks m.befores e.lane LANES → (causes ++ own ∷ []) ++ reduced_from first (reverse (take (i + 1) es)) (drop (i + 1) es) ≡ causes ++ reduced_from first (reverse (take i es)) (drop i es)
turn_causes es first i e m causes own r q o =
    append_assoc causes (own ∷ []) (reduced_from first (reverse (take (i + 1) es)) (drop (i + 1) es))
    ∙ ap (λ (x : List Cause). causes ++ x ∷ reduced_from first (reverse (take (i + 1) es)) (drop (i + 1) es)) (o ∙ ap (λ (x : Summary). uncovered first x.clocks x.befores e.lane LANES) q)
    ∙ ap (λ (x : List Event). causes ++ reduced_causes first (reverse (take i es)) e ∷ reduced_from first x (drop (i + 1) es)) r.past
    ∙ ap (λ (x : List Event). causes ++ reduced_from first (reverse (take i es)) x) (sym r.rest)

pub turn_room : (es : List Event) (i : ℕ) (e : Event) (m : Summary) (lane : ℕ) → IsTrace es → All HasNext es → IsTurn es i e → m ≡ summary_of (λ (d : Event). conflict d e) (reverse (take i es)) → count_at (first_indices es) lane + count_at m.clocks lane ≤ 4294967296
turn_room es i e m lane t left r q =
    let past = reverse (take i es) in
    let c = counts_room es past (e ∷ drop (i + 1) es) (λ (d : Event). conflict d e) lane t left r.split in
    subst (λ (x : Summary). count_at (first_indices es) lane + count_at x.clocks lane ≤ 4294967296) (sym q) (omega arith)

pub turn_next : (es : List Event) (i : ℕ) (e : Event) (m : Summary) → IsTrace es → All HasNext es → IsTurn es i e → m ≡ summary_of (λ (d : Event). conflict d e) (reverse (take i es)) → count_at m.clocks e.lane < 4294967295
turn_next es i e m t left r q =
    let past = reverse (take i es) in
    let first = first_indices es in
    let l = first_long es in
    let s = stands first es past (drop (i + 1) es) e (omega arith) (numbered_first t.bases es t.few t.numbered) r.split in
    let index = s.placed.1 in
    let within = counts_within (λ (d : Event). conflict d e) past e.lane in
    let room = (all_has HasNext es e left (turn_there es i e r)).index in
    subst (λ (x : Summary). count_at x.clocks e.lane < 4294967295) (sym q) (omega arith)
