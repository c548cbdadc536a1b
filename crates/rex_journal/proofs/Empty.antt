-- A journal that was opened on an empty disk in memory.
use Rattle.std.proofs.Common.{◌≡◌, ℕ, true, false, IsTrue, List, [], ◌∷◌, length, inl, inr, refl, ◌∙◌, ap, subst, arith, length-append}
use Rattle.rex_disk.specs.Memory.{DiskValue, DoesCall, new_disk}
use Rattle.rex_disk.specs.Record.{seen_after}
use Rattle.rex_journal.specs.Giving.{EndsAs, Goes}
use Rattle.rex_journal.specs.Journal.{Holds, IsBad, open_records}
use Rattle.rex_journal.specs.Keeping.{JournalValue}
use Rattle.rex_journal.specs.Opening.{IsCauseIn}
use Rattle.rex_journal.specs.StoringLaws.{faults, meets, value_of}
use Rattle.rex_journal.specs.declared.fault.OpenFault.{OpenFault}
use Rattle.rex_journal.specs.declared.fault.OpenFault.TheVariants.{Failed, BadJournal, OutOfMemory}
use Rattle.rex_journal.proofs.Calm.{IsCalm, goes_calm, no_end}
use Rattle.rex_traits.specs.Stores.{fresh_store}

abbrev seen : DiskValue → List ℕ
seen d = seen_after d.first d.done

-- no bytes hold no records
none_held : (records : List (List ℕ)) → Holds [] records → records ≡ []
none_held records (inl unused) = unused.1
none_held records (inr ends) = absurd (omega (arith, ap length ends.split, length-append (open_records records) (ends.gate ∷ ends.rest)))

module _ (disk : DiskValue) (empty : disk ≡ new_disk [] []) where
  calm : IsCalm disk
  calm = record { none = ap (λ (d : DiskValue). d.failing) empty; unplanned = ap (λ (d : DiskValue). d.plan) empty }

  met : meets disk ≡ true
  met = ap meets empty

  unwritten : seen disk ≡ []
  unwritten = ap seen empty

  pub opened_fresh : (k : JournalValue DiskValue) → (IsTrue (meets disk) → Holds (seen disk) k.records) → Goes DoesCall disk k.disk → (k.broken ≡ false) × (k.unsure ≡ false) × (k.refused ≡ 0) → faults k.disk ≡ faults disk → meets k.disk ≡ meets disk → value_of k ≡ fresh_store
  opened_fresh k holds goes whole cause model =
      let end = goes_calm goes.0 disk k.disk calm goes.1 in
      let records : k.records ≡ [] = none_held k.records (subst (λ (bytes : List ℕ). Holds bytes k.records) unwritten (holds met)) in
      let counted : faults k.disk ≡ 0 = cause ∙ ap faults empty in
      let still : meets k.disk ≡ true = model ∙ met in
      rw (records, end.none, end.unplanned, counted, whole.0, whole.1, whole.2, still) refl

  pub opened_unless_short : (fault : OpenFault) (new : DiskValue) → (IsTrue (meets disk) → IsCauseIn IsBad (seen disk) fault) → EndsAs DoesCall disk new fault → fault ≡ OutOfMemory
  opened_unless_short Failed new cause ends = absurd (no_end disk new calm ends)
  opened_unless_short (BadJournal at) new cause ends = let bad = cause met in let long : length (seen disk) ≡ 0 = ap length unwritten in absurd (omega (arith, bad.long, long))
  opened_unless_short OutOfMemory new cause ends = refl
