-- How the calls of opening end.
use Rattle.std.proofs.Common.{◌≡◌, inl, inr, ◌⊎◌, ℕ, Bool, true, List, [], Result, refl}
use Rattle.std.specs.Prelude.{IsErrAnd}
use Rattle.std.proofs.lemmas.Result.{err_from_is_err_and}
use Rattle.rex_disk.specs.Calls.{Call}
use Rattle.rex_journal.specs.Giving.{HasNoRoom, IsLook, IsOfDevice, Looks, WriteFails}
use Rattle.rex_wal.specs.Opening.{Ends, EndsAs, LooksInto, Opens}
use Rattle.rex_journal.specs.declared.fault.OpenFault.{OpenFault}
use Rattle.rex_journal.specs.declared.fault.OpenFault.TheVariants as open_fault

module _ {D : Type 0} (gives : D → Call → Bool → D → Type 0) where
  pub looks_none : (old : D) → Looks gives old old
  looks_none old = ([], tt, refl)

  pub look_ends : (call : Call) (old mid new : D) → Looks gives old mid → IsLook call → IsOfDevice call → gives mid call true new → Ends gives old new
  look_ends call old mid new looks look of h = (mid, looks, inl (call, look, of, h))

  pub write_ends : (at : ℕ) (written : List ℕ) (old mid new : D) → Looks gives old mid → WriteFails gives at written mid new → Ends gives old new
  write_ends at written old mid new looks h = (mid, looks, inr (at, written, h))

  pub looks_failed : {T : Type 0} (old new : D) (r : Result T OpenFault) → IsErrAnd r (λ e. e ≡ open_fault.Failed) → Ends gives old new → LooksInto gives old new r
  looks_failed old new r h ends = let p = err_from_is_err_and r h in rw (p.1, p.2) ends

  pub looks_short : {T : Type 0} (old new : D) (r : Result T OpenFault) → IsErrAnd r (λ e. e ≡ open_fault.OutOfMemory) → Looks gives old new ⊎ HasNoRoom gives old new → LooksInto gives old new r
  looks_short old new r h ends = let p = err_from_is_err_and r h in rw (p.1, p.2) ends

  pub opens_failed : {T : Type 0} (old new : D) (r : Result T OpenFault) → IsErrAnd r (λ e. e ≡ open_fault.Failed) → Ends gives old new → Opens gives old new r
  opens_failed old new r h ends = let p = err_from_is_err_and r h in rw (p.1, p.2) ends

  pub opens_short : {T : Type 0} (old new : D) (r : Result T OpenFault) → IsErrAnd r (λ e. e ≡ open_fault.OutOfMemory) → Looks gives old new → Opens gives old new r
  opens_short old new r h looks = let p = err_from_is_err_and r h in rw (p.1, p.2) (inl looks)

  ends_unwritten : (old new : D) → Looks gives old new → (fault : OpenFault) → (fault ≡ open_fault.Failed → ⊥) → EndsAs gives old new fault
  ends_unwritten old new looks open_fault.Failed whole = absurd (whole refl)
  ends_unwritten old new looks (open_fault.BadJournal at) whole = looks
  ends_unwritten old new looks open_fault.OutOfMemory whole = inl looks

  -- where what was read isn't good
  pub opens_unwritten : {T : Type 0} (old new : D) (r : Result T OpenFault) (fault : OpenFault) → IsErrAnd r (λ e. e ≡ fault) → Looks gives old new → (fault ≡ open_fault.Failed → ⊥) → Opens gives old new r
  opens_unwritten old new r fault h looks whole = let p = err_from_is_err_and r h in rw (p.1, p.2) (ends_unwritten old new looks fault whole)
