-- What a migration leaves of what is recovered from a node's records.
use Rattle.std.specs.Prelude.{◌≡◌, ℕ, List}
use Rattle.rex_syntax.specs.declared.service.Declarations.{Declarations}
use Rattle.rex_state.specs.Value.{StateValue}
use Rattle.rex_durable.specs.declared.records.Rec.{Rec}
use Rattle.rex_durable.specs.declared.recovery.Recovered.{Recovered}
use Rattle.rex_durable.specs.Recovery.{recovered}
use Rattle.rex_durable.specs.Kept.{Spell}
use Rattle.rex_node.specs.Restarting.{IsSaved}

-- the same is recovered, but for the bytes of the state at the base; and where those before spell this state, those after spell it too
pub record SaysTheSame (service : Declarations) (start : StateValue) (before after : Recovered) : Type 0 where
  pub promised : after.promised ≡ before.promised
  pub accepted : after.accepted ≡ before.accepted
  pub offset : after.offset ≡ before.offset
  pub known : after.known ≡ before.known
  pub base : after.base ≡ before.base
  pub state : IsSaved service before.snapshot start → IsSaved service after.snapshot start

-- the lists of bytes spell records from which the same is recovered as from these
pub record SpellsTheSame (service : Declarations) (start : StateValue) (rs : List Rec) (kept : List (List ℕ)) : Type 0 where
  pub again : List Rec
  pub spelled : Spell kept again
  pub same : SaysTheSame service start (recovered rs) (recovered again)

-- where the lists before spell records, so do those after
abbrev pub StillSay : Declarations → StateValue → List (List ℕ) → List (List ℕ) → Type 0
StillSay service start before after = (rs : List Rec) → Spell before rs → SpellsTheSame service start rs after
