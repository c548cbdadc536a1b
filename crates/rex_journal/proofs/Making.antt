-- How calls of a disk follow one another.
use Rattle.std.proofs.Common.{◌≡◌, inl, inr, ◌⊎◌, ℕ, Bool, true, false, List, [], ◌∷◌, ◌++◌, Result, refl}
use Rattle.std.specs.Prelude.{IsErrAnd}
use Rattle.std.proofs.lemmas.Result.{err_from_is_err_and}
use Rattle.rex_disk.specs.Calls.{Call, CallsInTurn, FailsInTurn}
use Rattle.rex_disk.specs.Calls.Call.{Writes, Syncs}
use Rattle.rex_journal.specs.Giving.{AreLooks, Ends, EndsAs, Goes, HasNoRoom, IsLook, IsOfDevice, Looks, LooksInto, Opens, WriteFails}
use Rattle.rex_journal.specs.declared.fault.OpenFault.{OpenFault}
use Rattle.rex_journal.specs.declared.fault.OpenFault.TheVariants as open_fault

module _ {D : Type 0} (gives : D → Call → Bool → D → Type 0) where
  calls_then : (xs ys : List Call) (old mid new : D) → CallsInTurn gives old xs mid → CallsInTurn gives mid ys new → CallsInTurn gives old (xs ++ ys) new
  calls_then [] ys old mid new first second = let same : mid ≡ old = first in rw (← same) second
  calls_then (x ∷ xs) ys old mid new first second = (first.0, first.1, calls_then xs ys first.0 mid new first.2 second)

  pub goes_then : (old mid new : D) → Goes gives old mid → Goes gives mid new → Goes gives old new
  goes_then old mid new first second = (first.0 ++ second.0, calls_then first.0 second.0 old mid new first.1 second.1)

  looks_append : (xs ys : List Call) → AreLooks xs → AreLooks ys → AreLooks (xs ++ ys)
  looks_append [] ys first second = second
  looks_append (x ∷ xs) ys first second = (first.0, looks_append xs ys first.1 second)

  pub looks_one : (call : Call) (old new : D) → IsLook call → gives old call false new → Looks gives old new
  looks_one call old new look h = (call ∷ [], (look, tt), (new, h, refl))

  pub looks_then : (old mid new : D) → Looks gives old mid → Looks gives mid new → Looks gives old new
  looks_then old mid new first second = (first.0 ++ second.0, looks_append first.0 second.0 first.1 second.1, calls_then first.0 second.0 old mid new first.2 second.2)

  pub looks_go : (old new : D) → Looks gives old new → Goes gives old new
  looks_go old new looks = (looks.0, looks.2)

  pub look_ends : (call : Call) (old mid new : D) → Looks gives old mid → IsLook call → IsOfDevice call → gives mid call true new → Ends gives old new
  look_ends call old mid new looks look of h = (mid, looks, inl (call, look, of, h))

  pub write_ends : (gate : ℕ) (old mid new : D) → Looks gives old mid → WriteFails gives gate (0 ∷ []) mid new → Ends gives old new
  write_ends gate old mid new looks h = (mid, looks, inr (gate, h))

  pub looks_failed : {T : Type 0} (old new : D) (r : Result T OpenFault) → IsErrAnd r (λ e. e ≡ open_fault.Failed) → Ends gives old new → LooksInto gives old new r
  looks_failed old new r h ends = let p = err_from_is_err_and r h in rw (p.1, p.2) ends

  -- the calls that were made, and the one that failed
  pub ends_calls : (old new : D) → Ends gives old new → (calls : List Call) × (call : Call) × IsOfDevice call × FailsInTurn gives old calls call new
  ends_calls old new (mid, looks, inl (call, look, of, h)) = (looks.0, call, of, record { between = mid; before = looks.2; fails = h })
  ends_calls old new (mid, looks, inr (gate, inl f)) = (looks.0 ++ [], Writes gate (0 ∷ []), tt, record { between = f.between; before = calls_then looks.0 [] old mid f.between looks.2 f.before; fails = f.fails })
  ends_calls old new (mid, looks, inr (gate, inr f)) = (looks.0 ++ Writes gate (0 ∷ []) ∷ [], Syncs, tt, record { between = f.between; before = calls_then looks.0 (Writes gate (0 ∷ []) ∷ []) old mid f.between looks.2 f.before; fails = f.fails })

  pub opens_failed : {T : Type 0} (old new : D) (r : Result T OpenFault) → IsErrAnd r (λ e. e ≡ open_fault.Failed) → Ends gives old new → Opens gives old new r
  opens_failed old new r h ends = let p = err_from_is_err_and r h in rw (p.1, p.2) ends

  pub looks_short : {T : Type 0} (old new : D) (r : Result T OpenFault) → IsErrAnd r (λ e. e ≡ open_fault.OutOfMemory) → Looks gives old new ⊎ HasNoRoom gives old new → LooksInto gives old new r
  looks_short old new r h ends = let p = err_from_is_err_and r h in rw (p.1, p.2) ends

  ends_unwritten : (old new : D) → Looks gives old new → (fault : OpenFault) → (fault ≡ open_fault.Failed → ⊥) → EndsAs gives old new fault
  ends_unwritten old new looks open_fault.Failed whole = absurd (whole refl)
  ends_unwritten old new looks (open_fault.BadJournal at) whole = looks
  ends_unwritten old new looks open_fault.OutOfMemory whole = inl looks

  -- where what was read isn't good, or there was no memory for it
  pub opens_unwritten : {T : Type 0} (old new : D) (r : Result T OpenFault) (fault : OpenFault) → IsErrAnd r (λ e. e ≡ fault) → Looks gives old new → (fault ≡ open_fault.Failed → ⊥) → Opens gives old new r
  opens_unwritten old new r fault h looks whole = let p = err_from_is_err_and r h in rw (p.1, p.2) (ends_unwritten old new looks fault whole)
