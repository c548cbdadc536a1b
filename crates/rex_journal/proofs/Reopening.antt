-- What a journal on a disk in memory is once it was reopened, or memory ran out.
use Rattle.std.proofs.Common.{◌≡◌, ◌⊎◌, inl, inr, ◌+◌, ℕ, true, false, IsTrue, IsFalse, List, [], ◌∷◌, None, Result, Ok, Err, refl, sym, ◌∙◌, ap, arith}
use Rattle.std.specs.Prelude.{◌&&◌, not, IfErr, OnErr, OnOk}
use Rattle.std.proofs.lemmas.Bool.{and_parts, not-true}
use Rattle.rex_disk.specs.Memory.{DiskValue, DoesCall}
use Rattle.rex_disk.specs.Record.{seen_after}
use Rattle.rex_journal.specs.Giving.{EndsAs, HasNoRoom, Looks, Opens}
use Rattle.rex_journal.specs.Journal.{Holds, IsBad}
use Rattle.rex_journal.specs.Keeping.{IsFront, JournalValue}
use Rattle.rex_journal.specs.Opening.{CountsFailed, IsCauseIn, unsure_refused}
use Rattle.rex_journal.specs.Storing.{IsSpared, fails_as_armed, is_empty, is_of_fate}
use Rattle.rex_journal.specs.StoringLaws.{faults, meets}
use Rattle.rex_journal.specs.declared.fault.OpenFault.{OpenFault}
use Rattle.rex_journal.specs.declared.fault.OpenFault.TheVariants.{Failed, BadJournal, OutOfMemory}
use Rattle.rex_journal.proofs.BytesLaws.{at_rest_holds, bad_none}
use Rattle.rex_journal.proofs.Calm.{IsCalm, goes_calm, no_end}
use Rattle.rex_journal.proofs.Same.{found_is}
use Rattle.rex_journal.proofs.Steps.{at_rest}

abbrev seen : DiskValue → List ℕ
seen d = seen_after d.first d.done

empty_is : (failing : List ℕ) → is_empty failing ≡ true → failing ≡ []
empty_is [] e = refl
empty_is (n ∷ ns) e = absurd (let untrue : false ≡ true = e in cc)

module _ (old : JournalValue DiskValue) (gate : ℕ) (front : IsFalse old.unsure → IsFront meets seen old.disk old.records gate) (always : IsTrue (fails_as_armed old)) (disk : DiskValue) (unplanned : disk ≡ record old.disk { plan = None }) where
  rest : (is_of_fate old.disk.plan && (meets old.disk && not old.unsure)) ≡ true
  rest = (and_parts (is_empty old.disk.failing) (is_of_fate old.disk.plan && (meets old.disk && not old.unsure)) always).1

  known : (meets old.disk && not old.unsure) ≡ true
  known = (and_parts (is_of_fate old.disk.plan) (meets old.disk && not old.unsure) rest).1

  met : meets disk ≡ true
  met = ap meets unplanned ∙ (and_parts (meets old.disk) (not old.unsure) known).0

  none : old.disk.failing ≡ []
  none = empty_is old.disk.failing (and_parts (is_empty old.disk.failing) (is_of_fate old.disk.plan && (meets old.disk && not old.unsure)) always).0

  calm : IsCalm disk
  calm = record { none = ap (λ (d : DiskValue). d.failing) unplanned ∙ none; unplanned = ap (λ (d : DiskValue). d.plan) unplanned }

  sure : old.unsure ≡ false
  sure = not-true old.unsure (and_parts (meets old.disk) (not old.unsure) known).1

  -- the disk's bytes are the list, and then a gate that is closed
  f : IsFront meets seen old.disk old.records gate
  f = front sure

  rests : Rattle.rex_journal.specs.Journal.IsAtRest old.records (seen disk)
  rests = at_rest old.records gate f.place (seen disk) (ap (λ (d : DiskValue). Rattle.std.specs.Prelude.take (gate + 1) (seen d)) unplanned ∙ f.front (and_parts (meets old.disk) (not old.unsure) known).0)

  named : (new : DiskValue) → IsCalm new → new.failing ≡ old.disk.failing
  named new c = c.none ∙ sym none

  short_of_memory : (fault : OpenFault) (new : DiskValue) → (IsTrue (meets disk) → IsCauseIn IsBad (seen disk) fault) → EndsAs DoesCall disk new fault → fault ≡ OutOfMemory
  short_of_memory Failed new cause ends = absurd (no_end disk new calm ends)
  short_of_memory (BadJournal at) new cause ends = absurd (bad_none (seen disk) at old.records (cause met) (at_rest_holds (seen disk) old.records f.short rests))
  short_of_memory OutOfMemory new cause ends = refl

  -- no call of the disk is named where there was no memory
  short_named : (new : DiskValue) → Looks DoesCall disk new ⊎ HasNoRoom DoesCall disk new → new.failing ≡ old.disk.failing
  short_named new (inl looks) = named new (goes_calm looks.0 disk new calm looks.2)
  short_named new (inr (calls, bytes, room)) = ap (λ (d : DiskValue). d.failing) room.same ∙ ap (λ (d : DiskValue). d.failing) unplanned

  pub is_memory : (result : Result (Unit {0}) OpenFault) (new : DiskValue) → (IsTrue (meets disk) → IfErr result (IsCauseIn IsBad (seen disk))) → Opens DoesCall disk new result → IfErr result (λ e. e ≡ OutOfMemory)
  is_memory (Ok x) new cause opens = tt
  is_memory (Err fault) new cause opens = short_of_memory fault new cause opens

  -- whether it was reopened or memory ran out
  pub spared_is : (result : Result (Unit {0}) OpenFault) (k : JournalValue DiskValue) → (IsTrue (meets disk) → OnOk result (Holds (seen disk) k.records)) → OnOk result ((k.broken ≡ false) × (k.unsure ≡ false) × (k.refused ≡ old.refused))
      → OnErr result ((k.broken ≡ true) × (k.records ≡ old.records) × (k.refused ≡ old.refused)) → IfErr result (λ e. k.unsure ≡ unsure_refused e old.unsure) → (IsTrue (meets disk) → IfErr result (IsCauseIn IsBad (seen disk)))
      → Opens DoesCall disk k.disk result → CountsFailed (faults disk) (faults k.disk) result → meets k.disk ≡ meets disk → IsSpared old k
  spared_is (Ok x) k holds whole left unsure cause opens counted model = record {
    records = found_is (seen disk) k.records old.records 0 rests.rest (holds met) f.short (omega arith) rests.split;
    sure = whole.1;
    refused = whole.2;
    faults = counted ∙ ap faults unplanned;
    failing = named k.disk (goes_calm opens.0 disk k.disk calm opens.1);
    model = model ∙ ap meets unplanned;
  }
  spared_is (Err Failed) k holds whole left unsure cause opens counted model = absurd (no_end disk k.disk calm opens)
  spared_is (Err (BadJournal at)) k holds whole left unsure cause opens counted model = absurd (bad_none (seen disk) at old.records (cause met) (at_rest_holds (seen disk) old.records f.short rests))
  spared_is (Err OutOfMemory) k holds whole left unsure cause opens counted model = record {
    records = left.1;
    sure = unsure ∙ sure;
    refused = left.2;
    faults = counted ∙ ap faults unplanned;
    failing = short_named k.disk opens;
    model = model ∙ ap meets unplanned;
  }
