-- The status after an answer was given whose status is 0.
use Rattle.std.proofs.Common.{◌≡◌, ◌⊎◌, ℕ, inl, inr, ap, ◌∙◌}
use Rattle.rex_traits.specs.Causes.{Rose}
use Rattle.rex_answer.specs.Due.{Due}
use Rattle.rex_answer.specs.Outcome.{Ends}

-- where 0 is due and the sink counted no fault, the status is 0 or 6
pub ended_well : (d due : Due) (status before after : ℕ) → d ≡ due → Ends d before after status → due.status ≡ 0 → (Rose before after → ⊥) → (status ≡ 0) ⊎ (status ≡ 6)
ended_well d due status before after same (inl is) zero quiet = inl (is ∙ ap (λ (x : Due). x.status) same ∙ zero)
ended_well d due status before after same (inr (inl failed)) zero quiet = absurd (quiet failed.1)
ended_well d due status before after same (inr (inr short)) zero quiet = inr short
