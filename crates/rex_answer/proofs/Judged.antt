-- What an answer's status says of the service is what each status is caused by.
use Rattle.std.proofs.Common.{◌≡◌, ℕ, Option, Some, None, inl, inr, refl}
use Rattle.std.specs.Prelude.{◌↔◌}
use Rattle.rex_syntax.specs.declared.service.Declarations.{Declarations}
use Rattle.rex_answer.specs.Causes.{Judges, IsBroken}

-- 1 where there is no service
pub unread : (o : Option Declarations) (status : ℕ) → Judges o status → (status ≡ 1) ↔ (o ≡ None)
unread None status j = (λ _. refl, λ _. j)
unread (Some s) status (inl j) = (λ one. absurd (let zero = j.0 in cc), λ none. absurd cc)
unread (Some s) status (inr j) = (λ one. absurd (let three = j.0 in cc), λ none. absurd cc)

-- 3 where there is one that isn't checked
pub unchecked : (o : Option Declarations) (status : ℕ) → Judges o status → (status ≡ 3) ↔ IsBroken o
unchecked None status j = (λ three. absurd cc, λ broken. absurd broken)
unchecked (Some s) status (inl j) = (λ three. absurd (let zero = j.0 in cc), λ broken. absurd (broken j.1))
unchecked (Some s) status (inr j) = (λ _. j.1, λ _. j.0)

-- 2 never
pub never_two : (o : Option Declarations) (status : ℕ) → Judges o status → status ≡ 2 → ⊥
never_two None status j two = cc
never_two (Some s) status (inl j) two = let zero = j.0 in cc
never_two (Some s) status (inr j) two = let three = j.0 in cc
