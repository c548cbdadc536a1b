-- The causes of each agreed delta are the least that are right, and consistent cuts of the agreed trace go first.
use Rattle.std.proofs.Common.{◌≡◌, ℕ, ◌≤◌, Bool, true, List, [], ◌∷◌, ◌++◌, length, refl, sym, ◌∙◌, ap, subst, inl, inr, Some}
use Rattle.std.specs.Prelude.{Result, Ok, Err, take}
use Rattle.std.specs.List.{list_all}
use Rattle.std.proofs.lemmas.Bool.{and_parts, false≢true}
use Rattle.std.proofs.lemmas.List.{length-map}
use Rattle.rex_ballot.specs.Limits.{most_nodes}
use Rattle.rex_syntax.specs.declared.request.Request.{Request}
use Rattle.rex_syntax.specs.declared.service.Declarations.{Declarations}
use Rattle.rex_syntax.specs.Service.{IsService}
use Rattle.rex_syntax.specs.Check.{IsChecked}
use Rattle.rex_event.specs.declared.delta.Delta.{Delta}
use Rattle.rex_event.specs.Cuts.{AreNumbered, IsConsistent}
use Rattle.rex_state.specs.Commute.{GoesFirst}
use Rattle.rex_state.proofs.Cuts.{cuts_go_first}
use Rattle.rex_event.specs.declared.event.TheConstants.{LANES}
use Rattle.rex_reduce.specs.Reduced.{AreLeast}
use Rattle.rex_reduce.specs.Reduction.{reduced}
use Rattle.rex_reduce.proofs.Reduced.{reduced_least}
use Rattle.rex_delta.specs.Reading.{delta_in}
use Rattle.rex_state.specs.Value.{StateValue}
use Rattle.rex_state.specs.Start.{start_of}
use Rattle.rex_state.specs.Machine.{run}
use Rattle.rex_state.specs.Sound.{IsSound}
use Rattle.rex_state.specs.Counts.{counts_of, done_of}
use Rattle.rex_state.proofs.Counts.{runs_count_on}
use Rattle.rex_state.proofs.Sounds.{run_keeps, start_keeps}
use Rattle.rex_schedule.specs.declared.scenario.ScheduleLine.{ScheduleLine}
use Rattle.rex_cluster.specs.Invariant.{IsIn}
use Rattle.rex_cluster.specs.Values.{Value, read_delta, delta_of, events_of, trace_of, is_piece, may_be_value, spells, runs, values_fit, service_of}
use Rattle.rex_cluster.specs.Agreed.{world_after, agreed, trace_at}
use Rattle.rex_cluster.specs.World.{World}
use Rattle.rex_safety.specs.Kept.{IsWorld}
use Rattle.rex_safety.proofs.Agreeing.{agreed_fits}
use Rattle.rex_cluster.proofs.Replies.{trace_both, fits_run, run_split}
use Rattle.rex_cluster.proofs.Sames.{lists_are}
use Rattle.rex_safety.proofs.Steps.{reached_ok}

-- ---- a value among others

-- a value that is in a list stands between two parts of it
parts_at : (v : Value) (vs : List Value) → IsIn v vs → (front : List Value) × (rest : List Value) × (vs ≡ front ++ v ∷ rest)
parts_at v [] h = absurd h
parts_at v (w ∷ vs) (inl e) = ([], vs, ap (λ x. x ∷ vs) (sym e))
parts_at v (w ∷ vs) (inr h) = let r = parts_at v vs h in (w ∷ r.0, r.1, ap (λ xs. w ∷ xs) r.2)

spelled_at : (p : Value → Bool) (v : Value) (vs : List Value) → IsIn v vs → list_all p vs ≡ true → p v ≡ true
spelled_at p v [] h k = absurd h
spelled_at p v (w ∷ vs) (inl e) k = subst (λ x. p x ≡ true) (sym e) (and_parts _ _ k).0
spelled_at p v (w ∷ vs) (inr h) k = spelled_at p v vs h (and_parts _ _ k).1

-- ---- its causes

piece_causes : (service : Declarations) (r : Result Delta ℕ) → is_piece service r ≡ true → (read_delta r).causes ≡ reduced (read_delta r).events
piece_causes service (Ok d) h = lists_are d.causes (reduced d.events) (and_parts _ _ h).1
piece_causes service (Err at) h = absurd (false≢true h)

module _ (service : Declarations) (good : IsService service) (checked : IsChecked service) where
  -- the events of a value after others run from a sound state, so they are numbered on from its counts
  value_least : (front : List Value) (v : Value) (rest : List Value) (t : StateValue) → run service (start_of service) (trace_of (front ++ v ∷ rest)) ≡ Some t → spells service v ≡ true → AreLeast (delta_of v).events (delta_of v).causes
  value_least front v rest t h k =
      let a = run_split service (start_of service) t (trace_of front) (events_of v ++ trace_of rest) (subst (λ es. run service (start_of service) es ≡ Some t) (trace_both front (v ∷ rest)) h) in
      let b = run_split service a.0 t (events_of v) (trace_of rest) a.2 in
      let sound : IsSound service a.0 = run_keeps service (start_of service) a.0 (trace_of front) good (start_keeps service good checked) a.1 in
      let long : length (counts_of a.0) ≡ service.lanes = length-map a.0.lanes done_of ∙ sound.by.complete.lanes in
      let n : AreNumbered (counts_of a.0) (events_of v) = (runs_count_on service a.0 b.0 (events_of v) b.1).numbered in
      subst (AreLeast (delta_of v).events) (sym (piece_causes service (delta_in v) (and_parts (may_be_value v) (is_piece service (delta_in v)) k).1))
      (reduced_least (events_of v) (record { bases = counts_of a.0; few = subst (λ (lanes : ℕ). lanes ≤ LANES) (sym long) good.lanes; numbered = n }))

  pub values_least : (vs : List Value) → values_fit service vs ≡ true → (v : Value) → IsIn v vs → AreLeast (delta_of v).events (delta_of v).causes
  values_least vs fit v i =
      let p = parts_at v vs i in
      let r = fits_run service vs fit in
      value_least p.0 v p.1 r.0 (subst (λ xs. run service (start_of service) (trace_of xs) ≡ Some r.0) p.2 r.1) (spelled_at (spells service) v vs i (and_parts (list_all (spells service) vs) (runs service (trace_of vs)) fit).0)

whole : (vs : List Value) → take (length vs) vs ≡ vs
whole [] = refl
whole (v ∷ vs) = ap (λ xs. v ∷ xs) (whole vs)

module _ (service : Declarations) (seed n : ℕ) (w : World) (ok : IsWorld n (service_of service seed) w) (good : IsService service) (checked : IsChecked service) where
  pub least_agreed : (v : Value) → IsIn v (agreed w) → AreLeast (delta_of v).events (delta_of v).causes
  least_agreed = values_least service good checked (agreed w) (subst (λ vs. values_fit service vs ≡ true) (whole (agreed w)) (agreed_fits n (service_of service seed) w ok refl (length (agreed w))))

  -- ---- cuts

  pub cuts_first : (k : ℕ) (cut : List ℕ) → IsConsistent (trace_at w k) cut → (s : StateValue) × (run service (start_of service) (trace_at w k) ≡ Some s) × GoesFirst service (start_of service) s cut (trace_at w k)
  cuts_first k cut closed =
      let r = fits_run service (take k (agreed w)) (agreed_fits n (service_of service seed) w ok refl k) in
      (r.0, r.1, cuts_go_first service (start_of service) r.0 cut (trace_at w k) good (start_keeps service good checked) closed r.1)

-- ---- after lines

module _ (service : Declarations) (requests : List Request) (seed n : ℕ) (lines : List ScheduleLine) (few : n ≤ most_nodes) (good : IsService service) (checked : IsChecked service) where
  abbrev w : World
  w = world_after service requests seed n lines

  pub agreed_least : (v : Value) → IsIn v (agreed w) → AreLeast (delta_of v).events (delta_of v).causes
  agreed_least = least_agreed service seed n w (reached_ok service requests seed n few lines) good checked

  pub agreed_cuts : (k : ℕ) (cut : List ℕ) → IsConsistent (trace_at w k) cut → (s : StateValue) × (run service (start_of service) (trace_at w k) ≡ Some s) × GoesFirst service (start_of service) s cut (trace_at w k)
  agreed_cuts = cuts_first service seed n w (reached_ok service requests seed n few lines) good checked
