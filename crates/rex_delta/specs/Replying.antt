-- Replies to a client.
use Rattle.std.specs.Prelude.{◌≡◌, ℕ, ℤ, List, ◌∷◌, ◌++◌}
use Rattle.std.specs.Int.{w16, to_be_bytes}
use Rattle.rex_event.specs.Order.{Has}
use Rattle.rex_event.specs.declared.event.Event.{Event}
use Rattle.rex_event.specs.declared.event.Kind.TheVariants.{Reply}

-- none of the events replies to the client
abbrev pub RepliesToNone : ℕ → List Event → Type 0
RepliesToNone client es = (e : Event) → Has e es → (value : ℤ) → e.kind ≡ Reply client value → ⊥

-- how the spelling of a reply to the client begins, behind its lane
abbrev pub reply_front : ℕ → List ℕ
reply_front client = 14 ∷ to_be_bytes w16 client

-- the run stands in the bytes, behind some of them and before the others
pub record Stands (run bytes : List ℕ) : Type 0 where
  pub before : List ℕ
  pub after : List ℕ
  pub is : bytes ≡ before ++ (run ++ after)
