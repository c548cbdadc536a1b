-- The summary of an event covers those of the events before it that conflict with it.
use Rattle.std.proofs.Common.{◌≡◌, ⊎_elim, ℕ, ◌<◌, ◌≤◌, Bool, true, false, ◌&&◌, ◌||◌, not, cond, List, [], ◌∷◌, length, refl, ap, sym, ◌∙◌, subst, arith}
use Rattle.std.specs.Prelude.{nat_eq, Option, Some, None}
use Rattle.std.proofs.lemmas.Bool.{cases_lt, cases_eq}
use Rattle.std.proofs.lemmas.List.{get_or_past}
use Rattle.rex_event.specs.declared.event.Event.{Event}
use Rattle.rex_event.specs.Conflict.{named_lock, is_sharing, named_client, named_semaphore, same_name, conflict}
use Rattle.rex_event.specs.Cuts.{count_at}
use Rattle.rex_clocks.specs.Counts.{ticked, merged}
use Rattle.rex_clocks.specs.Clocks.{merged_clocks, clock_before}
use Rattle.rex_clocks.proofs.Counts.{count_merged, merged_long, same_counts, ticked_long, ticked_other, ticked_more}
use Rattle.rex_reduce.specs.declared.summary.Summary.{Summary}
use Rattle.rex_reduce.specs.declared.uses.Uses.{Uses}
use Rattle.rex_reduce.specs.Clocks.{merged_befores}
use Rattle.rex_reduce.specs.Summaries.{joined, summary_of}
use Rattle.rex_reduce.specs.Names.{exclusive_lock}
use Rattle.rex_reduce.specs.Tables.{Covers}
use Rattle.rex_reduce.specs.Uses.{CoversUses}
use Rattle.rex_reduce.proofs.Joined.{summary_or, summary_agree}
use Rattle.rex_reduce.proofs.Conflicts.{same_none}
use Rattle.rex_reduce.proofs.Kept.{Keeps, KeepAll, own_of}

-- ---- counts

record Within (a b : List ℕ) : Type 0 where
  long : length a ≤ length b
  each : (lane : ℕ) → count_at a lane ≤ count_at b lane

within_merged : (a b : List ℕ) → Within a b → merged a b ≡ b
within_merged a b w =
    same_counts (merged a b) b (let l = merged_long a b in let k = w.long in omega arith) (λ lane. let m = count_merged a b lane in let k = w.each lane in omega arith)

merged_within : (a b : List ℕ) → merged a b ≡ b → Within a b
merged_within a b q = record {
  long = let l = merged_long a b in let e = ap length q in omega arith;
  each = λ lane. let m = count_merged a b lane in let e = ap (λ (x : List ℕ). count_at x lane) q in omega arith;
}

never_less : (counts : List ℕ) (lane other : ℕ) → count_at counts other ≤ count_at (ticked counts lane) other
never_less counts lane other =
    ⊎_elim (λ (l : lane < length counts). ticked_more counts lane other l)
    (λ (l : length counts ≤ lane).
    ⊎_elim (λ (q : other ≡ lane). let none : count_at counts other ≡ 0 = get_or_past counts other 0 (omega arith) in omega (arith, none))
    (λ (q : other ≡ lane → ⊥). let o = ticked_other counts lane other q in omega arith)
    (cases_eq other lane))
    (cases_lt lane (length counts))

within_ticked : (a b : List ℕ) (lane : ℕ) → Within a b → Within a (ticked b lane)
within_ticked a b lane w = record {
  long = let l = ticked_long b lane in let k = w.long in omega arith;
  each = λ other. let n = never_less b lane other in let k = w.each other in omega arith;
}

within_both : (a b c d : List ℕ) → Within a b → Within c d → Within (merged a c) (merged b d)
within_both a b c d w v = record {
  long = let l = merged_long a c in let m = merged_long b d in let j = w.long in let k = v.long in omega arith;
  each = λ lane. let l = count_merged a c lane in let m = count_merged b d lane in let j = w.each lane in let k = v.each lane in omega arith;
}

within_same : (a : List ℕ) → Within a a
within_same a = record { long = omega arith; each = λ lane. omega arith }

within_next : (a b c : List ℕ) → Within a b → Within b c → Within a c
within_next a b c w v = record {
  long = let j = w.long in let k = v.long in omega arith;
  each = λ lane. let j = w.each lane in let k = v.each lane in omega arith;
}

-- what comes before some events is covered with them
befores_within : (holds : Event → Bool) (past : List Event) → Within (merged_befores holds past) (merged_clocks holds past)
befores_within holds [] = within_same _
befores_within holds (d ∷ past) = by (holds d) (befores_within holds past)
  where
    by : (b : Bool) → Within (merged_befores holds past) (merged_clocks holds past) → Within (cond b (merged (clock_before past d) (merged_befores holds past)) (merged_befores holds past)) (cond b (merged (ticked (clock_before past d) d.lane) (merged_clocks holds past)) (merged_clocks holds past))
    by true w = within_both _ _ _ _ (within_ticked (clock_before past d) (clock_before past d) d.lane (within_same (clock_before past d))) w
    by false w = w

-- ---- summaries

covered : (holds : Event → Bool) (past : List Event) (e : Event) → ((d : Event) → (holds d || conflict d e) ≡ conflict d e) → joined (summary_of holds past) (own_of past e) ≡ own_of past e
covered holds past e h =
    let meets : Event → Bool = λ d. conflict d e in
    let q = sym (summary_or holds meets past) ∙ summary_agree (λ (d : Event). holds d || meets d) meets past (λ d t. h d) in
    let w = merged_within (merged_clocks holds past) (clock_before past e) (ap (λ (s : Summary). s.clocks) q) in
    let a = within_merged _ _ (within_ticked (merged_clocks holds past) (clock_before past e) e.lane w) in
    let b = within_merged _ _ (within_next _ _ _ (befores_within holds past) w) in
    rw (a, b) refl

table_covered : (name : Event → Option ℕ) (past : List Event) (e : Event) (own : Summary) (rows : List Summary) (place : Option ℕ) → place ≡ name e → own ≡ own_of past e → Keeps (λ (d : Event) (p : Option ℕ). same_name (name d) p) past rows
    → ((d : Event) → (same_name (name d) (name e) || conflict d e) ≡ conflict d e) → Covers own rows place
table_covered name past e own rows None n q k h = tt
table_covered name past e own rows (Some p) n q k h =
    let holds : Event → Bool = λ d. same_name (name d) (Some p) in
    let c = covered holds past e (λ d. subst (λ (x : Option ℕ). (same_name (name d) x || conflict d e) ≡ conflict d e) (sym n) (h d)) in
    ap (λ (x : Summary). joined x own) (k.each p) ∙ ap (λ (x : Summary). joined (summary_of holds past) x) q ∙ c ∙ sym q

-- ---- what conflicts

first_of : (a r : Bool) → (a || (a || r)) ≡ (a || r)
first_of true r = refl
first_of false r = refl

lock_of : (sd se : Bool) (nd ne : Option ℕ) (f r : Bool) → (same_name (cond sd None nd) (cond se None ne) || (f || ((same_name nd ne && not (sd && se)) || r))) ≡ (f || ((same_name nd ne && not (sd && se)) || r))
lock_of true se nd ne f r = refl
lock_of false true nd ne f r = rw (same_none nd) refl
lock_of false false nd ne f r = by (same_name nd ne) f
  where
    by : (a f : Bool) → (a || (f || ((a && true) || r))) ≡ (f || ((a && true) || r))
    by true true = refl
    by true false = refl
    by false f = refl

third_of : (a f l r : Bool) → (a || (f || (l || (a || r)))) ≡ (f || (l || (a || r)))
third_of true true l r = refl
third_of true false true r = refl
third_of true false false r = refl
third_of false f l r = refl

fourth_of : (a f l c r : Bool) → (a || (f || (l || (c || (a || r))))) ≡ (f || (l || (c || (a || r))))
fourth_of true true l c r = refl
fourth_of true false true c r = refl
fourth_of true false false true r = refl
fourth_of true false false false r = refl
fourth_of false f l c r = refl

pub uses_covered : (past : List Event) (e : Event) (own : Summary) (u : Uses) → own ≡ own_of past e → KeepAll past u → CoversUses own u e
uses_covered past e own u q k = record {
  lanes = table_covered (λ (d : Event). Some d.lane) past e own u.lanes (Some e.lane) refl q k.lanes (λ d. first_of (nat_eq d.lane e.lane) _);
  exclusive = table_covered (λ (d : Event). exclusive_lock d.kind) past e own u.exclusive (exclusive_lock e.kind) refl q k.exclusive (λ d. lock_of (is_sharing d.kind) (is_sharing e.kind) (named_lock d.kind) (named_lock e.kind) (nat_eq d.lane e.lane) _);
  clients = table_covered (λ (d : Event). named_client d.kind) past e own u.clients (named_client e.kind) refl q k.clients (λ d. third_of (same_name (named_client d.kind) (named_client e.kind)) (nat_eq d.lane e.lane) _ _);
  semaphores = table_covered (λ (d : Event). named_semaphore d.kind) past e own u.semaphores (named_semaphore e.kind) refl q k.semaphores (λ d. fourth_of (same_name (named_semaphore d.kind) (named_semaphore e.kind)) (nat_eq d.lane e.lane) _ _ _);
}
