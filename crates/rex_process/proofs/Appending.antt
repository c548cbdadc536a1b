-- By appends alone a call of a node makes another keeper of its keeper.
use Rattle.std.proofs.Common.{◌≡◌, ℕ, List, [], ◌∷◌, Ok, Err, inl, inr, subst, Bool, true}
use Rattle.rex_syntax.specs.declared.service.Declarations.{Declarations}
use Rattle.rex_traits.specs.declared.keeper.KeepFault.TheVariants.{Failed, OutOfMemory}
use Rattle.rex_traits.specs.Chains.{Answer, AppendsInTurn}
use Rattle.rex_cluster.specs.Lanes.{CallHere}
use Rattle.rex_cluster.specs.Values.{Value}
use Rattle.rex_node.specs.declared.step.Step.{Step}
use Rattle.rex_node.specs.Calls.{Does}
use Rattle.rex_node.specs.Parts.{NodeValue, RunsShort}
use Rattle.rex_steps.specs.Serving.{IsShort, Serves, ServesIf}
use Rattle.rex_process.specs.Keeping.{ByAppends, IsAppend}
use Rattle.rex_process.proofs.Keeping.{leads_join, leads_one, leads_same}

module _ {K : Type 0} (records : K → List (List ℕ)) (gives : K → List ℕ → Answer → K → Type 0) (faults : K → ℕ) where
  one : (old new : K) (bytes : List ℕ) (answer : Answer) → gives old bytes answer new → ByAppends gives old new
  one old new bytes answer appended = leads_one (IsAppend gives) old new (record { bytes = bytes; answer = answer; appended = appended })

  join : (old between new : K) → ByAppends gives old between → ByAppends gives between new → ByAppends gives old new
  join = leads_join (IsAppend gives)

  same_keeper : (old new : K) → new ≡ old → ByAppends gives old new
  same_keeper = leads_same (IsAppend gives)

  -- appends in turn
  in_turn : (written : List (List ℕ)) (old new : K) (result : Answer) → AppendsInTurn gives old written result new → ByAppends gives old new
  in_turn [] old new result (is, same) = same_keeper old new same
  in_turn (bytes ∷ later) old new result (Ok x, between, first, rest) = join old between new (one old between bytes (Ok x) first) (in_turn later between new result rest)
  in_turn (bytes ∷ later) old new result (Err e, between, first, rest) = join old between new (one old between bytes (Err e) first) (same_keeper between new rest.1)

  -- want of memory
  in_short : (old new : K) → RunsShort gives old new → ByAppends gives old new
  in_short old new (inl same) = same_keeper old new same
  in_short old new (inr (bytes, appended)) = one old new bytes (Err OutOfMemory) appended

  module _ (service : Declarations) (past : List Value) (call : CallHere → CallHere) (old new : NodeValue K) where
    in_step : (step : Step) → Does records gives faults service past call old new step → ByAppends gives old.keeper new.keeper
    in_step step (inl h) = in_turn h.written old.keeper new.keeper (Ok tt) h.appends
    in_step step (inr h) = join old.keeper h.between new.keeper (in_turn h.written old.keeper h.between (Ok tt) h.appends) (one h.between new.keeper h.bytes (Err Failed) h.fails)

    -- a call that a node served
    pub served_appends : (step : Step) → old.up ≡ true → Serves records gives faults service past call old new step → ByAppends gives old.keeper new.keeper
    served_appends step up h = in_step step (subst (λ (u : Bool). ServesIf u records gives faults service past call old new step) up h.serves).does

    -- and one in which memory was short
    pub short_appends : IsShort records gives faults service past call old new → ByAppends gives old.keeper new.keeper
    short_appends (inl h) = in_short old.keeper new.keeper h.short
    short_appends (inr h) =
        join old.keeper h.stops.between new.keeper (in_turn h.stops.written old.keeper h.stops.between (Ok tt) h.stops.appends) (in_short h.stops.between new.keeper h.stops.short)
