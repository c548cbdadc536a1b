-- A journal on a disk in memory obeys its arming.
use Rattle.std.specs.Prelude.{◌≡◌, ◌≤◌, ◌==◌, ◌+◌, ◌&&◌, ◌||◌, ℕ, Bool, true, false, not, List, [], ◌∷◌, ◌++◌, Result, Ok, Err, Option, Some, None, refl}
use Rattle.std.specs.List.{list_any}
use Rattle.std.proofs.Common.{ap, sym, ◌∙◌, inl, inr, arith}
use Rattle.std.proofs.lemmas.Bool.{and_parts, eqb-true}
use Rattle.rex_disk.specs.Calls.Call.{Writes, Syncs}
use Rattle.rex_disk.specs.Memory.{DiskValue, DoesCall, Follows, Reserved, plan_after_sync, plan_after_write, sync_fails, write_fails}
use Rattle.rex_disk.specs.Record.{are_within}
use Rattle.rex_disk.specs.declared.plan.Plan.{Plan}
use Rattle.rex_disk.specs.declared.plan.Plan.TheVariants.{Write, Sync}
use Rattle.rex_journal.specs.Giving.{Adds, Appends, Breaks, GivesUp, records_left}
use Rattle.rex_journal.specs.Keeping.{JournalValue}
use Rattle.rex_journal.specs.Storing.{armed_by, fails_as_armed, is_empty, is_of_fate}
use Rattle.rex_journal.specs.declared.file.GateLeft.{GateLeft}
use Rattle.rex_journal.specs.declared.file.GateLeft.TheVariants.{Closed, Unknown, Open}
use Rattle.rex_traits.specs.Stores.{StoreValue, Obeys, value_by, with_record}
use Rattle.rex_traits.specs.declared.keeper.KeepFault.{KeepFault}
use Rattle.rex_traits.specs.declared.keeper.KeepFault.TheVariants.{Failed, OutOfMemory}
use Rattle.rex_traits.specs.declared.mem_keeper.Fate.{Fate}
use Rattle.rex_traits.specs.declared.mem_keeper.Fate.TheVariants.{Kept, Lost}

-- what contracts see of it
abbrev pub meets : DiskValue → Bool
meets d = are_within d.first d.done

abbrev pub faults : DiskValue → ℕ
faults d = d.faults

abbrev pub value_of : JournalValue DiskValue → StoreValue
value_of k = value_by (λ (j : JournalValue DiskValue). j.records) (λ j. j.disk.faults + j.refused) (λ j. armed_by j.disk.plan) (λ j. j.broken) fails_as_armed k

-- no call is named
none_named : (failing : List ℕ) → is_empty failing ≡ true → failing ≡ []
none_named [] e = refl
none_named (n ∷ ns) e = absurd (let untrue : false ≡ true = e in cc)

-- where no call is named, a call fails as is planned
by_plan : (failing : List ℕ) (made : ℕ) (failed planned : Bool) → failing ≡ [] → failed ≡ (list_any (λ number. number == made) failing || planned) → failed ≡ planned
by_plan [] made failed planned e is = is
by_plan (n ∷ ns) made failed planned e is = absurd (cc)

-- room changes neither the plan nor which calls are named
room_plan : (old mid : DiskValue) → Reserved old mid → (mid.plan ≡ old.plan) × (mid.failing ≡ old.failing)
room_plan old mid r = (ap (λ (d : DiskValue). d.plan) r.same, ap (λ (d : DiskValue). d.failing) r.same)

-- what the four calls of an append make of a plan: whether each failed, and what is planned at last
four : (p : Option Plan) → is_of_fate p ≡ true → false ≡ write_fails p → false ≡ sync_fails (plan_after_write p) → false ≡ write_fails (plan_after_sync (plan_after_write p)) → false ≡ sync_fails (plan_after_write (plan_after_sync (plan_after_write p))) → p ≡ None
four None of a b c d = refl
four (Some Write) of a b c d = absurd (cc)
four (Some (Sync n)) of a b c d =
    let two : n ≡ 2 = eqb-true n 2 of in
    absurd (let untrue : false ≡ true = d ∙ ap (λ (m : ℕ). sync_fails (plan_after_write (plan_after_sync (plan_after_write (Some (Sync m)))))) two in cc)

first_fails : (p : Option Plan) → is_of_fate p ≡ true → true ≡ write_fails p → p ≡ Some Write
first_fails None of a = absurd (cc)
first_fails (Some Write) of a = refl
first_fails (Some (Sync n)) of a = absurd (cc)

second_fails : (p : Option Plan) → is_of_fate p ≡ true → true ≡ sync_fails (plan_after_write p) → ⊥
second_fails None of a = cc
second_fails (Some Write) of a = cc
second_fails (Some (Sync n)) of a = let two : n ≡ 2 = eqb-true n 2 of in let untrue : true ≡ false = a ∙ ap (λ (m : ℕ). sync_fails (plan_after_write (Some (Sync m)))) two in cc

third_fails : (p : Option Plan) → is_of_fate p ≡ true → false ≡ write_fails p → true ≡ write_fails (plan_after_sync (plan_after_write p)) → ⊥
third_fails None of a b = cc
third_fails (Some Write) of a b = cc
third_fails (Some (Sync n)) of a b = let two : n ≡ 2 = eqb-true n 2 of in let untrue : true ≡ false = b ∙ ap (λ (m : ℕ). write_fails (plan_after_sync (plan_after_write (Some (Sync m))))) two in cc

fourth_fails : (p : Option Plan) → is_of_fate p ≡ true → false ≡ write_fails p → true ≡ sync_fails (plan_after_write (plan_after_sync (plan_after_write p))) → p ≡ Some (Sync 2)
fourth_fails None of a b = absurd (cc)
fourth_fails (Some Write) of a b = absurd (cc)
fourth_fails (Some (Sync n)) of a b = ap (λ (m : ℕ). let q : Option Plan = Some (Sync m) in q) (eqb-true n 2 of)

-- a call as the plan has it, where none is named
pub record IsPlanned (old new : DiskValue) (failed planned : Bool) (plan : Option Plan) : Type 0 where
  pub fails : failed ≡ planned
  pub after : new.plan ≡ plan
  pub none : new.failing ≡ []

wrote : (old new : DiskValue) (at : ℕ) (bytes : List ℕ) (failed : Bool) (p : Option Plan) → old.plan ≡ p → old.failing ≡ [] → Follows old (Writes at bytes) failed new → IsPlanned old new failed (write_fails p) (plan_after_write p)
wrote old new at bytes failed p is none f = record {
  fails = by_plan old.failing new.made failed (write_fails old.plan) none f.fails ∙ ap write_fails is;
  after = f.planned ∙ ap plan_after_write is;
  none = f.same_failing ∙ none;
}

synced : (old new : DiskValue) (failed : Bool) (p : Option Plan) → old.plan ≡ p → old.failing ≡ [] → Follows old Syncs failed new → IsPlanned old new failed (sync_fails p) (plan_after_sync p)
synced old new failed p is none f = record {
  fails = by_plan old.failing new.made failed (sync_fails old.plan) none f.fails ∙ ap sync_fails is;
  after = f.planned ∙ ap plan_after_sync is;
  none = f.same_failing ∙ none;
}

-- the store after an append of it, in its parts
module _ (old new : JournalValue DiskValue) (always : fails_as_armed old ≡ true) (whole : old.broken ≡ false) where
  empty : old.disk.failing ≡ []
  empty = none_named old.disk.failing (and_parts (is_empty old.disk.failing) (is_of_fate old.disk.plan && (meets old.disk && not old.unsure)) always).0

  rest : (is_of_fate old.disk.plan && (meets old.disk && not old.unsure)) ≡ true
  rest = (and_parts (is_empty old.disk.failing) (is_of_fate old.disk.plan && (meets old.disk && not old.unsure)) always).1

  of_fate : is_of_fate old.disk.plan ≡ true
  of_fate = (and_parts (is_of_fate old.disk.plan) (meets old.disk && not old.unsure) rest).0

  met : meets old.disk ≡ true
  met = (and_parts (meets old.disk) (not old.unsure) (and_parts (is_of_fate old.disk.plan) (meets old.disk && not old.unsure) rest).1).0

  -- it fails as it is armed after a call after which no call is named, nothing is planned and what is read is known
  stays_armed : new.disk.failing ≡ [] → new.disk.plan ≡ None → meets new.disk ≡ meets old.disk → new.unsure ≡ false → fails_as_armed new ≡ true
  stays_armed a b c d = rw (a, b, c ∙ met, d) refl

  added : (bytes : List ℕ) → Adds DoesCall meets faults old new bytes → Obeys (value_of old) (value_of new) bytes (let r : Result (Unit {0}) KeepFault = Ok tt in r)
  added bytes h =
      let p = old.disk.plan in
      let room = room_plan old.disk h.mid h.room in
      let a = wrote h.mid h.calls.0 _ _ false p room.0 (room.1 ∙ empty) h.calls.1 in
      let b = synced h.calls.0 h.calls.2.0 false _ a.after a.none h.calls.2.1 in
      let c = wrote h.calls.2.0 h.calls.2.2.0 _ _ false _ b.after b.none h.calls.2.2.1 in
      let d = synced h.calls.2.2.0 h.calls.2.2.2.0 false _ c.after c.none h.calls.2.2.2.1 in
      let last : new.disk ≡ h.calls.2.2.2.0 = h.calls.2.2.2.2 in
      let none : p ≡ None = four p of_fate a.fails b.fails c.fails d.fails in
      let planned : new.disk.plan ≡ None = ap (λ (x : DiskValue). x.plan) last ∙ d.after ∙ ap (λ (q : Option Plan). plan_after_sync (plan_after_write (plan_after_sync (plan_after_write q)))) none in
      let named : new.disk.failing ≡ [] = ap (λ (x : DiskValue). x.failing) last ∙ d.none in
      let unsure : new.unsure ≡ old.unsure = ap (λ (k : JournalValue DiskValue). k.unsure) h.value in
      let records : new.records ≡ old.records ++ bytes ∷ [] = ap (λ (k : JournalValue DiskValue). k.records) h.value in
      let refused : new.refused ≡ old.refused = ap (λ (k : JournalValue DiskValue). k.refused) h.value in
      let broken : new.broken ≡ old.broken = ap (λ (k : JournalValue DiskValue). k.broken) h.value in
      let stays : fails_as_armed new ≡ fails_as_armed old = rw (named, empty, planned, none, h.model, unsure) refl in
      let same : value_of new ≡ with_record bytes (value_of old) = rw (stays, records, h.counted, refused, broken, planned, none) refl in
      (rw none refl, same)

  -- the store after an append in which the disk failed
  after_break : (bytes : List ℕ) (f : Fate) (left : GateLeft) → old.disk.plan ≡ Some (Rattle.rex_journal.specs.Storing.plan_of f) → new ≡ record old { disk = new.disk; records = records_left left old.records bytes; broken = true; unsure = false } → new.disk.plan ≡ None → new.disk.failing ≡ [] → meets new.disk ≡ meets old.disk → faults new.disk ≡ faults old.disk + 1
      → (let s : StoreValue = record (value_of old) { records = records_left left old.records bytes; armed = None; faults = faults old.disk + 1 + old.refused; broken = true } in value_of new ≡ s)
  after_break bytes f left plan value planned named model counted =
      let unsure : new.unsure ≡ false = ap (λ (k : JournalValue DiskValue). k.unsure) value in
      let records : new.records ≡ records_left left old.records bytes = ap (λ (k : JournalValue DiskValue). k.records) value in
      let refused : new.refused ≡ old.refused = ap (λ (k : JournalValue DiskValue). k.refused) value in
      let broken : new.broken ≡ true = ap (λ (k : JournalValue DiskValue). k.broken) value in
      let stays : fails_as_armed new ≡ fails_as_armed old = stays_armed named planned model unsure ∙ sym always in
      rw (stays, records, counted, refused, broken, planned) refl

  count_moves : (a b : ℕ) → a + 1 + b ≡ a + b + 1
  count_moves a b = Prim.omega arith

  broke_closed : (bytes : List ℕ) → old.disk.plan ≡ Some Write → new ≡ record old { disk = new.disk; records = old.records; broken = true; unsure = false } → new.disk.plan ≡ None → new.disk.failing ≡ [] → meets new.disk ≡ meets old.disk → faults new.disk ≡ faults old.disk + 1 → Obeys (value_of old) (value_of new) bytes (let r : Result (Unit {0}) KeepFault = Err Failed in r)
  broke_closed bytes plan value planned named model counted =
      let broken : new.broken ≡ true = ap (λ (k : JournalValue DiskValue). k.broken) value in
      (rw plan refl, after_break bytes Lost Closed plan value planned named model counted ∙ rw (plan, broken, count_moves (faults old.disk) old.refused) refl)

  broke_open : (bytes : List ℕ) → old.disk.plan ≡ Some (Sync 2) → new ≡ record old { disk = new.disk; records = old.records ++ bytes ∷ []; broken = true; unsure = false } → new.disk.plan ≡ None → new.disk.failing ≡ [] → meets new.disk ≡ meets old.disk → faults new.disk ≡ faults old.disk + 1 → Obeys (value_of old) (value_of new) bytes (let r : Result (Unit {0}) KeepFault = Err Failed in r)
  broke_open bytes plan value planned named model counted =
      let broken : new.broken ≡ true = ap (λ (k : JournalValue DiskValue). k.broken) value in
      (rw plan refl, after_break bytes Kept Open plan value planned named model counted ∙ rw (plan, broken, count_moves (faults old.disk) old.refused) refl)

  broke : (bytes : List ℕ) → Breaks DoesCall meets faults old new bytes → Obeys (value_of old) (value_of new) bytes (let r : Result (Unit {0}) KeepFault = Err Failed in r)
  broke bytes h = by h.left h.calls h.value
    where
      by : (left : GateLeft) → Rattle.rex_journal.specs.Giving.Commits DoesCall h.gate (Rattle.rex_journal.specs.Journal.entry bytes) h.mid new.disk (Rattle.rex_journal.specs.Giving.left_as left) → new ≡ record old { disk = new.disk; records = records_left left old.records bytes; broken = true; unsure = Rattle.rex_journal.specs.Giving.unsure_left left } → Obeys (value_of old) (value_of new) bytes (let r : Result (Unit {0}) KeepFault = Err Failed in r)
      by Closed (inl f) value =
          let room = room_plan old.disk h.mid h.room in
          let start : f.between ≡ h.mid = f.before in
          let a = wrote f.between new.disk _ _ true old.disk.plan (ap (λ (x : DiskValue). x.plan) start ∙ room.0) (ap (λ (x : DiskValue). x.failing) start ∙ room.1 ∙ empty) f.fails in
          let plan : old.disk.plan ≡ Some Write = first_fails old.disk.plan of_fate a.fails in
          broke_closed bytes plan value (a.after ∙ ap plan_after_write plan) a.none h.model h.counted
      by Closed (inr f) value =
          let room = room_plan old.disk h.mid h.room in
          let a = wrote h.mid f.before.0 _ _ false old.disk.plan room.0 (room.1 ∙ empty) f.before.1 in
          let start : f.between ≡ f.before.0 = f.before.2 in
          let b = synced f.between new.disk true _ (ap (λ (x : DiskValue). x.plan) start ∙ a.after) (ap (λ (x : DiskValue). x.failing) start ∙ a.none) f.fails in
          absurd (second_fails old.disk.plan of_fate b.fails)
      by Unknown f value =
          let room = room_plan old.disk h.mid h.room in
          let a = wrote h.mid f.before.0 _ _ false old.disk.plan room.0 (room.1 ∙ empty) f.before.1 in
          let b = synced f.before.0 f.before.2.0 false _ a.after a.none f.before.2.1 in
          let start : f.between ≡ f.before.2.0 = f.before.2.2 in
          let c = wrote f.between new.disk _ _ true _ (ap (λ (x : DiskValue). x.plan) start ∙ b.after) (ap (λ (x : DiskValue). x.failing) start ∙ b.none) f.fails in
          absurd (third_fails old.disk.plan of_fate a.fails c.fails)
      by Open f value =
          let room = room_plan old.disk h.mid h.room in
          let a = wrote h.mid f.before.0 _ _ false old.disk.plan room.0 (room.1 ∙ empty) f.before.1 in
          let b = synced f.before.0 f.before.2.0 false _ a.after a.none f.before.2.1 in
          let c = wrote f.before.2.0 f.before.2.2.0 _ _ false _ b.after b.none f.before.2.2.1 in
          let start : f.between ≡ f.before.2.2.0 = f.before.2.2.2 in
          let d = synced f.between new.disk true _ (ap (λ (x : DiskValue). x.plan) start ∙ c.after) (ap (λ (x : DiskValue). x.failing) start ∙ c.none) f.fails in
          let plan : old.disk.plan ≡ Some (Sync 2) = fourth_fails old.disk.plan of_fate a.fails d.fails in
          broke_open bytes plan value (d.after ∙ ap (λ (q : Option Plan). plan_after_sync (plan_after_write (plan_after_sync (plan_after_write q)))) plan) d.none h.model h.counted

  gave_up : (bytes : List ℕ) → GivesUp DoesCall meets faults old new bytes → value_of new ≡ value_of old
  gave_up bytes h =
      let room = room_plan old.disk new.disk h.room in
      let unsure : new.unsure ≡ old.unsure = ap (λ (k : JournalValue DiskValue). k.unsure) h.value in
      let records : new.records ≡ old.records = ap (λ (k : JournalValue DiskValue). k.records) h.value in
      let refused : new.refused ≡ old.refused = ap (λ (k : JournalValue DiskValue). k.refused) h.value in
      let broken : new.broken ≡ old.broken = ap (λ (k : JournalValue DiskValue). k.broken) h.value in
      let stays : fails_as_armed new ≡ fails_as_armed old = rw (room.0, room.1, h.model, unsure) refl in
      rw (stays, records, h.counted, refused, broken, room.0) refl

pub journal_obeys : (old new : JournalValue DiskValue) (bytes : List ℕ) (result : Result (Unit {0}) KeepFault) → Appends DoesCall meets faults old bytes result new → fails_as_armed old ≡ true → old.broken ≡ false → Obeys (value_of old) (value_of new) bytes result
journal_obeys old new bytes (Ok x) h always whole = added old new always whole bytes h
journal_obeys old new bytes (Err Failed) (inl refused) always whole = absurd (let untrue : true ≡ false = sym refused.0 ∙ whole in cc)
journal_obeys old new bytes (Err Failed) (inr h) always whole = broke old new always whole bytes h
journal_obeys old new bytes (Err OutOfMemory) (inl same) always whole = ap value_of same
journal_obeys old new bytes (Err OutOfMemory) (inr h) always whole = gave_up old new always whole bytes h

-- an append fails once at most
pub journal_counts : (old new : JournalValue DiskValue) (bytes : List ℕ) (result : Result (Unit {0}) KeepFault) → Appends DoesCall meets faults old bytes result new → new.disk.faults + new.refused ≤ old.disk.faults + old.refused + 1
journal_counts old new bytes (Ok x) h = let r = ap (λ (k : JournalValue DiskValue). k.refused) h.value in let c = h.counted in Prim.omega arith
journal_counts old new bytes (Err Failed) (inl h) = let r = ap (λ (k : JournalValue DiskValue). k.refused) h.1 in let d = ap (λ (k : JournalValue DiskValue). k.disk.faults) h.1 in Prim.omega arith
journal_counts old new bytes (Err Failed) (inr h) = let r = ap (λ (k : JournalValue DiskValue). k.refused) h.value in let c = h.counted in Prim.omega arith
journal_counts old new bytes (Err OutOfMemory) (inl h) = let r = ap (λ (k : JournalValue DiskValue). k.disk.faults + k.refused) h in Prim.omega arith
journal_counts old new bytes (Err OutOfMemory) (inr h) = let r = ap (λ (k : JournalValue DiskValue). k.refused) h.value in let c = h.counted in Prim.omega arith
