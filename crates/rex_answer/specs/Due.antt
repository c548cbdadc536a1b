-- What is due: a status and a text, and those of a refusal.
use Rattle.std.specs.Prelude.{ℕ, List}
use Rattle.rex_syntax.specs.declared.service.Declarations.{Declarations}
use Rattle.rex_lockset.specs.declared.refusal.Refused.{Refused}
use Rattle.rex_answer.specs.Refusals.{text_refusal, check_refusal}

-- a status and a text
pub record Due : Type 0 where
  pub status : ℕ
  pub text : List ℕ

-- an input that is refused at a line with a code is answered so
abbrev pub due_refused : ℕ → List ℕ → Due
due_refused number code = record { status = 1; text = text_refusal number code }

-- a service that the check refuses is answered so
abbrev pub due_unchecked : Declarations → Refused → Due
due_unchecked service refused = record { status = 3; text = check_refusal service refused }
