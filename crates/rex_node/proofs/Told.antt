-- Calls that tell no state.
use Rattle.rex_node.proofs.Common.{◌≡◌, ℕ, List, [], ◌∷◌, Result, Ok, Err, Option, None, inl, inr, sym, subst, map, IfOk, OnOk, AllocError, All-cons, All-nil, Declarations, Answer, Content, Failure, begin, Value, CallHere, content_in, message_in, Going, On, Down, Refusal, Draft, Step, NodeValue, here_of, Does, armed_with, Ends, later, so_far, AreTold, IsTold}
use Rattle.rex_msg.specs.declared.message.Message.{Message}
use Rattle.rex_msg.specs.declared.message.Content.TheVariants as sent
use Rattle.rex_cluster.specs.Telling.{TellsNoState, TellNoState}
use Rattle.rex_node.proofs.Ending.{no_messages}

module _ (service : Declarations) (past : List Value) where
  Told : Message → Type 0
  Told m = IsTold service past m.content

  one : (c : Content) → TellsNoState (content_in past c) → IsTold service past c
  one (sent.Snapshot k bytes) h = absurd h
  one _ h = tt

  -- messages that tell no state tell none wrongly
  pub none_told : (ms : List Message) → TellNoState (map (message_in past) ms) → AreTold service past ms
  none_told [] h = All-nil (λ m. IsTold service past m.content)
  none_told (m ∷ ms) h = All-cons (λ n. IsTold service past n.content) m ms (one m.content h.0) (none_told ms h.1)

module _ {K : Type 0} (records : K → List (List ℕ)) (gives : K → List ℕ → Answer → K → Type 0) (faults : K → ℕ) (service : Declarations) (past : List Value) (call : CallHere → CallHere) (x y : NodeValue K) where
  -- a call that tells none in the model tells none
  pub does_tell : (step : Step) → ((f : Option Failure) → TellNoState (call (armed_with f (begin (here_of records service past x)))).sends) → Does records gives faults service past call x y step → AreTold service past step.sends
  does_tell step none (inl w) = none_told service past _ (subst (λ d. TellNoState d.sends) w.is (none None))
  does_tell step none (inr f) = none_told service past _ (subst (λ d. TellNoState d.sends) f.is (none _))

  pub steps_tell : (result : Result Step Refusal) → ((f : Option Failure) → TellNoState (call (armed_with f (begin (here_of records service past x)))).sends) → IfOk result (Does records gives faults service past call x y) → IfOk result (λ step. AreTold service past step.sends)
  steps_tell (Ok step) none h = does_tell step none h
  steps_tell (Err refusal) none h = tt

  -- and so does one that came to its end
  pub ends_tell : (first draft : Draft) (going : Going) → ((f : Option Failure) → TellNoState (call (armed_with f (so_far records service past x first))).sends) → Ends records gives faults service past call x y first draft going → AreTold service past draft.sends.items
  ends_tell first draft On none h = none_told service past _ (subst (λ d. TellNoState d.sends) (h.0.0.comes None) (none (later h.0.0.written None)))
  ends_tell first draft Down none h =
      subst (AreTold service past) (sym (no_messages past _ h.0.0.quiet)) (All-nil (λ m. IsTold service past m.content))

  pub ok_tells : (first draft : Draft) (result : Result Going AllocError) → ((f : Option Failure) → TellNoState (call (armed_with f (so_far records service past x first))).sends) → IfOk result (Ends records gives faults service past call x y first draft) → OnOk result (AreTold service past draft.sends.items)
  ok_tells first draft (Ok going) none h = ends_tell first draft going none h
  ok_tells first draft (Err e) none h = tt

-- a call that has sent nothing
pub nothing_tells : {K : Type 0} (records : K → List (List ℕ)) (service : Declarations) (past : List Value) (x : NodeValue K) (first : Draft) → first.sends.items ≡ [] → (f : Option Failure) → TellNoState (armed_with f (so_far records service past x first)).sends
nothing_tells records service past x first none f = subst (λ ms. TellNoState (map (message_in past) ms)) (sym none) tt
