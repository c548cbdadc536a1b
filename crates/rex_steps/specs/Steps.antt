-- What a call of a node comes to.
use Rattle.std.specs.Prelude.{◌≡◌, ℕ, true, false, List, [], ◌∷◌, map, Result, Ok, Err}
use Rattle.std.specs.declared.alloc.AllocError.{AllocError}
use Rattle.rex_report.specs.declared.effect.Effect.{Effect}
use Rattle.rex_report.specs.declared.effect.Effect.TheVariants as effect
use Rattle.rex_cluster.specs.Calls.{begin, say}
use Rattle.rex_cluster.specs.Values.{Value}
use Rattle.rex_cluster.specs.Lanes.{Here, CallHere}
use Rattle.rex_node.specs.declared.refusal.Refusal.{Refusal}
use Rattle.rex_node.specs.declared.refusal.Refusal.TheVariants as why
use Rattle.rex_node.specs.declared.step.Step.{Step}
use Rattle.rex_log.specs.Messages.{message_in}

-- what is reported of a refusal, but of want of memory
abbrev pub effect_of : ℕ → Refusal → Effect
effect_of node why.Down = effect.IsDown node
effect_of node (why.NotActive role) = effect.NotActive role
effect_of node (why.Open instance) = effect.Open instance
effect_of node why.Ended = effect.Ended
effect_of node why.Nothing = effect.Nothing
effect_of node (why.Live events) = effect.Live events
effect_of node why.UpToDate = effect.UpToDate node
effect_of node why.Spent = effect.Spent node
effect_of node (why.BadSnapshot at) = effect.Nothing
effect_of node why.OutOfMemory = effect.Nothing

-- a node that is up did this call of the model, with its messages and its effects
pub record IsDone (past : List Value) (call : CallHere → CallHere) (before after : Here) (step : Step) : Type 0 where
  pub up : before.up ≡ true
  pub node : after ≡ (call (begin before)).node
  pub sends : map (message_in past) step.sends ≡ (call (begin before)).sends
  pub effects : step.effects ≡ (call (begin before)).effects

-- it refused: it is as it was, and the model's call says so too
pub record IsRefused (call : CallHere → CallHere) (number : ℕ) (before after : Here) (refusal : Refusal) : Type 0 where
  pub up : before.up ≡ true
  pub same : after ≡ before
  pub says : call (begin before) ≡ say (effect_of number refusal) (begin before)

-- it is down, and as it was
pub record WasDown (before after : Here) : Type 0 where
  pub down : before.up ≡ false
  pub same : after ≡ before

-- what a call of a node came to
abbrev pub Acts : List Value → (CallHere → CallHere) → ℕ → Here → Here → Result Step Refusal → Type 0
Acts past call number before after (Ok step) = IsDone past call before after step
Acts past call number before after (Err why.OutOfMemory) = Unit {0}
Acts past call number before after (Err why.Down) = WasDown before after
Acts past call number before after (Err refusal) = IsRefused call number before after refusal

-- the step of a call that reports one effect of what it gave, and sends nothing
pub record IsTelling (e : Effect) (step : Step) : Type 0 where
  pub effects : step.effects ≡ e ∷ []
  pub sends : step.sends ≡ []

abbrev pub TellsOf : {A : Type 0} → (A → Effect) → Result A Refusal → Result Step Refusal → Type 0
TellsOf f (Ok x) (Ok step) = IsTelling (f x) step
TellsOf f (Ok x) (Err refusal) = refusal ≡ why.OutOfMemory
TellsOf f (Err refusal) result = result ≡ Err refusal

-- a step is what the call answered, or reports why it was refused; without it memory was short
abbrev pub IsStepOf : ℕ → Result Step Refusal → Result Step AllocError → Type 0
IsStepOf number (Ok step) (Ok told) = told ≡ step
IsStepOf number (Ok step) (Err e) = ⊥
IsStepOf number (Err why.OutOfMemory) (Ok told) = ⊥
IsStepOf number (Err refusal) (Ok told) = IsTelling (effect_of number refusal) told
IsStepOf number (Err refusal) (Err e) = Unit {0}
