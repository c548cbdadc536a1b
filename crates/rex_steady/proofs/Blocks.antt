-- One block after the other is led to agreement.
use Rattle.std.proofs.Common.{◌≡◌, ℕ, ◌<◌, ◌≤◌, List, [], ◌∷◌, ◌++◌, length, refl, sym, ◌∙◌, ap, subst, arith, append_assoc, append-nil, length-append}
use Rattle.std.specs.Prelude.{◌+◌, Some, map}
use Rattle.std.specs.List.{All}
use Rattle.std.proofs.lemmas.List.Elements.{All-head, All-tail}
use Rattle.rex_ballot.specs.Limits.{most_nodes}
use Rattle.rex_syntax.specs.declared.request.Request.{Request}
use Rattle.rex_syntax.specs.declared.service.Declarations.{Declarations}
use Rattle.rex_syntax.specs.Service.{IsService}
use Rattle.rex_syntax.specs.Check.{IsChecked}
use Rattle.rex_event.specs.declared.event.Event.{Event}
use Rattle.rex_delta.specs.Spelling.{HasTypedKind}
use Rattle.rex_state.specs.Value.{StateValue}
use Rattle.rex_state.specs.Start.{start_of}
use Rattle.rex_state.specs.Machine.{run}
use Rattle.rex_state.specs.Counts.{counts_of}
use Rattle.rex_schedule.specs.Fits.{RequestFits}
use Rattle.rex_cluster.specs.Values.{Value, events_of, trace_of, state_after}
use Rattle.rex_cluster.specs.Lanes.{value_at}
use Rattle.rex_cluster.specs.World.{World}
use Rattle.rex_safety.specs.Kept.{IsKept}
use Rattle.rex_cluster.specs.Takes.{Doing, does, take, after_doings}
use Rattle.rex_cluster.specs.Takes.Doing.{Does, Takes}
use Rattle.rex_safety.specs.Doings.{TakesAreKept}
use Rattle.rex_cluster.proofs.Replies.{run_split, state_is, trace_push}
use Rattle.rex_steady.specs.Schedule.{takes, agreement, agreements}
use Rattle.rex_steady.specs.Blocks.{joined, IsBlock, values_after}
use Rattle.rex_steady.specs.Steady.{AreTaken}
use Rattle.rex_steady.proofs.Elections.{Rests}
use Rattle.rex_steady.proofs.Taking.{Took, takes_on}
use Rattle.rex_steady.proofs.Agreements.{AgreesOn, agrees}

-- the trace of values is their events, one value after the other
pub trace_joined : (values : List Value) → trace_of values ≡ joined (map events_of values)
trace_joined [] = refl
trace_joined (v ∷ values) = ap (λ (es : List Event). events_of v ++ es) (trace_joined values)

module _ (service : Declarations) (requests : List Request) (seed n : ℕ) where
  pub after_both : (w : World) (xs ys : List Doing) → after_doings service requests seed n w (xs ++ ys) ≡ after_doings service requests seed n (after_doings service requests seed n w xs) ys
  after_both w [] ys = refl
  after_both w (x ∷ xs) ys = after_both (does service requests seed n w x) xs ys

  pub taken_both : (w : World) (xs ys : List Doing) → AreTaken service requests seed n w xs → AreTaken service requests seed n (after_doings service requests seed n w xs) ys → AreTaken service requests seed n w (xs ++ ys)
  taken_both w [] ys h k = k
  taken_both w (Does line ∷ xs) ys h k = taken_both (does service requests seed n w (Does line)) xs ys h k
  taken_both w (Takes m e ∷ xs) ys h k = (h.0, taken_both (take service w m e) xs ys h.1 k)

module _ (service : Declarations) (requests : List Request) (seed n : ℕ) (some : 1 ≤ n) (few : n ≤ most_nodes) (good : IsService service) (checked : IsChecked service) (fit : All (RequestFits service) requests) (keeps : TakesAreKept) (s : StateValue) where
  agreed_block : (values : List Value) (block : List Event) (t : StateValue) (w : World) → 0 < length block → Rests n values block w → IsKept service seed n w → length values < 65535
      → run service (start_of service) (trace_of values ++ block) ≡ Some t → All HasTypedKind block → AgreesOn service requests seed n some few good checked fit values block t w
  agreed_block values [] t w l h k room r typed = absurd (omega (arith, l))
  agreed_block values (x ∷ xs) t w l h k room r typed = agrees service requests seed n some few good checked fit values x xs t w h k room r typed

  -- the world after blocks, each of which was agreed
  pub record Leads (values : List Value) (before : List Event) (blocks : List (List Event)) (w : World) : Type 0 where
    pub rests : Rests n (values ++ values_after service before blocks) [] (after_doings service requests seed n w (agreements blocks))
    pub taken : AreTaken service requests seed n w (agreements blocks)
    pub events : map events_of (values_after service before blocks) ≡ blocks

  pub leads_on : (values : List Value) (before : List Event) (blocks : List (List Event)) (w : World) → trace_of values ≡ before → Rests n values [] w → IsKept service seed n w → All IsBlock blocks
      → length values + length blocks ≤ 65535 → run service (start_of service) (before ++ joined blocks) ≡ Some s → Leads values before blocks w
  leads_on values before [] w e h k is l r = record { rests = subst (λ (vs : List Value). Rests n vs [] w) (sym (append-nil values)) h; taken = tt; events = refl }
  leads_on values before (block ∷ blocks) w e h k is l r =
      let b : IsBlock block = All-head IsBlock block blocks is in
      let split = run_split service (start_of service) s (before ++ block) (joined blocks) (ap (run service (start_of service)) (append_assoc before block (joined blocks)) ∙ r) in
      let own : run service (start_of service) (trace_of values ++ block) ≡ Some split.0 = ap (λ (es : List Event). run service (start_of service) (es ++ block)) e ∙ split.1 in
      let took : Took service requests seed n some few good checked keeps values [] w block = takes_on service requests seed n some few good checked keeps values [] w block split.0 h k b.begins own b.few in
      let agreed : AgreesOn service requests seed n some few good checked fit values block (state_after service (before ++ block)) (after_doings service requests seed n w (takes block)) =
      subst (λ (t : StateValue). AgreesOn service requests seed n some few good checked fit values block t (after_doings service requests seed n w (takes block))) (sym (state_is service (before ++ block) split.0 split.1))
      (agreed_block values block split.0 (after_doings service requests seed n w (takes block)) b.some took.rests took.kept (omega (arith, l)) own b.typed) in
      go agreed took
      (leads_on (values ++ value_at (counts_of (state_after service (before ++ block))) block ∷ []) (before ++ block) blocks (after_doings service requests seed n (after_doings service requests seed n w (takes block)) agreement)
      (trace_push values (value_at (counts_of (state_after service (before ++ block))) block) ∙ (ap (λ (es : List Event). trace_of values ++ es) agreed.events ∙ ap (λ (es : List Event). es ++ block) e))
      agreed.rests agreed.kept (All-tail IsBlock block blocks is)
      (omega (arith, l, length-append values (value_at (counts_of (state_after service (before ++ block))) block ∷ [])))
      (ap (run service (start_of service)) (append_assoc before block (joined blocks)) ∙ r))
    where
      go : AgreesOn service requests seed n some few good checked fit values block (state_after service (before ++ block)) (after_doings service requests seed n w (takes block)) → Took service requests seed n some few good checked keeps values [] w block
          → Leads (values ++ value_at (counts_of (state_after service (before ++ block))) block ∷ []) (before ++ block) blocks (after_doings service requests seed n (after_doings service requests seed n w (takes block)) agreement)
          → Leads values before (block ∷ blocks) w
      go agreed took rest = record {
        rests =
            subst (Rests n (values ++ values_after service before (block ∷ blocks)) []) (sym (after_both service requests seed n w (takes block) (agreement ++ agreements blocks)))
            (subst (λ (vs : List Value). Rests n vs [] (after_doings service requests seed n (after_doings service requests seed n w (takes block)) (agreement ++ agreements blocks))) (append_assoc values (value_at (counts_of (state_after service (before ++ block))) block ∷ []) (values_after service (before ++ block) blocks))
            rest.rests);
        taken = taken_both service requests seed n w (takes block) (agreement ++ agreements blocks) took.taken rest.taken;
        events = ap (λ (es : List Event). es ∷ map events_of (values_after service (before ++ block) blocks)) agreed.events ∙ ap (λ (bs : List (List Event)). block ∷ bs) rest.events;
      }
