-- What the check answers.
use Rattle.rex_lockset.specs.declared.refusal.Refused.{Refused as Refusal}
use Rattle.rex_lockset.specs.declared.answer.CheckError.{CheckError}
use Rattle.rex_lockset.specs.declared.answer.CheckError.TheVariants.{Refused, OutOfMemory}

-- this holds of what is refused, if the answer is a refusal
abbrev pub IfRefused : CheckError → (Refusal → Type 0) → Type 0
IfRefused (Refused refused) P = P refused
IfRefused OutOfMemory P = Unit {0}
