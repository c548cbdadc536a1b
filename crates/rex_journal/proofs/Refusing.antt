-- What a refusal leaves of the bytes that are read.
use Rattle.std.proofs.Common.{◌≡◌, ℕ, List, Result, Ok, Err}
use Rattle.std.specs.Prelude.{IfErr, IsErrAnd}
use Rattle.rex_journal.specs.Journal.{IsBad}
use Rattle.rex_journal.specs.Opening.{Leaves}
use Rattle.rex_journal.specs.declared.fault.OpenFault.{OpenFault}
use Rattle.rex_journal.specs.declared.fault.OpenFault.TheVariants.{Failed, BadJournal, OutOfMemory}

leaves_same : (old now : List ℕ) → now ≡ old → (fault : OpenFault) → Leaves IsBad old now fault
leaves_same old now same Failed = λ at bad. same
leaves_same old now same (BadJournal at) = same
leaves_same old now same OutOfMemory = same

-- where all bytes are as they were
pub stays : {T : Type 0} (old now : List ℕ) → now ≡ old → (r : Result T OpenFault) → IfErr r (Leaves IsBad old now)
stays old now same (Ok x) = tt
stays old now same (Err fault) = leaves_same old now same fault

leaves_good : (old now : List ℕ) → ((at : ℕ) → IsBad old at → ⊥) → (fault : OpenFault) → fault ≡ Failed → Leaves IsBad old now fault
leaves_good old now good Failed e = λ at bad. absurd (good at bad)
leaves_good old now good (BadJournal at) e = absurd (cc)
leaves_good old now good OutOfMemory e = absurd (cc)

-- where the disk failed and the journal isn't bad
pub fails_good : {T : Type 0} (old now : List ℕ) → ((at : ℕ) → IsBad old at → ⊥) → (r : Result T OpenFault) → IsErrAnd r (λ e. e ≡ Failed) → IfErr r (Leaves IsBad old now)
fails_good old now good (Ok x) h = tt
fails_good old now good (Err fault) h = leaves_good old now good fault h
