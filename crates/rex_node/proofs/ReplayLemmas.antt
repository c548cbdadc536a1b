-- What a node has still to replay leads from the state that it has replayed to the one after all that it knows.
use Rattle.rex_node.proofs.Common.{◌≡◌, ℕ, ◌≤◌, ◌||◌, inl, eqb, le_refl, Bool, true, false, List, [], ◌∷◌, length, take, drop, refl, sym, ap, subst, ◌∙◌, arith, append-nil, IsSome, is_some, map, ◌==◌, if◌then◌else◌, false≢true, take_all, Declarations, IsService, IsChecked, StateValue, start_of, run, IsSound, run-then, run_keeps, start_keeps, Replayed, Answer, known, is_active, begin, say, replay, Here, CallHere, Value, runs, trace_of, trace_both, fits_run, Step, message_in, Does, log_of, NodeValue, IsKept, IsResting, IsUp, StaysResting, here_of, reached_at}
use Rattle.std.specs.Prelude.{Option, Some, None}
use Rattle.std.proofs.lemmas.List.{take-append-drop}
use Rattle.rex_report.specs.declared.effect.Effect.TheVariants.{UpToDate}
use Rattle.rex_node.proofs.Appended.{IsLogged, Beside, logged_of, beside_of, up_of}
use Rattle.rex_node.proofs.Leaving.{role_active}
use Rattle.rex_node.proofs.Reaching.{now_reached}

module _ {K : Type 0} {records : K → List (List ℕ)} {service : Declarations} {past : List Value} {x : NodeValue K} (node : IsKept records service past x) (up : x.up ≡ true) where
  module _ (count : ℕ) {from : StateValue} (from_runs : run service (start_of service) (trace_of (take count x.known)) ≡ Some from) where
    pub from_sound : IsService service → IsChecked service → IsSound service from
    from_sound good checked = run_keeps service _ from _ good (start_keeps service good checked) from_runs

    pub rest_runs_to : {rest : List Value} → rest ≡ drop count x.known → run service from (trace_of rest) ≡ run service (start_of service) (trace_of x.known)
    rest_runs_to rest_is =
        ap (λ vs. run service from (trace_of vs)) rest_is
        ∙ sym (run-then service (start_of service) from (trace_of (take count x.known)) _ from_runs)
        ∙ ap (run service (start_of service)) (sym (trace_both (take count x.known) (drop count x.known)) ∙ ap trace_of (take-append-drop count x.known))

    pub rest_runs : {rest : List Value} → rest ≡ drop count x.known → IsSome (run service from (trace_of rest))
    rest_runs {rest} rest_is =
        let r = fits_run service x.known (node.up up).fits in
        subst (λ o. IsSome o) (sym (rest_runs_to rest_is ∙ r.1)) refl

-- ---- all that the node knows was replayed

module _ {K : Type 0} {records : K → List (List ℕ)} (gives : K → List ℕ → Answer → K → Type 0) (faults : K → ℕ) {service : Declarations} {past : List Value} {x : NodeValue K} (node : IsResting records service past x) (up : x.up ≡ true) (none : x.acting ≡ None) {n : ℕ} (n_is : n ≡ length x.known) (s : StateValue) where
  abbrev pub after_replay : NodeValue K
  after_replay = record x { replayed = n; ahead = Some s; reached = reached_at x.offset x.base n s }

  u : IsUp service x (here_of records service past x)
  u = node.up up

  pub replay_does : eqb x.replayed n ≡ false → {step : Step} → step.effects ≡ Replayed x.id n ∷ [] → step.sends ≡ []
      → Does records gives faults service past (replay x.id) x after_replay step
  replay_does old {step} effects sends = inl (record {
    written = [];
    grown = sym (append-nil (records x.keeper));
    appends = (refl, refl);
    counted = refl;
    stated = refl;
    many = omega arith;
    is =
        ap (λ t. replay_if t) idle
        ∙ ap (λ k. record { node = record h { replayed = k }; sends = []; effects = Replayed x.id k ∷ [] }) (sym here)
        ∙ ap (λ ms. record { node = record h { replayed = n }; sends = map (message_in past) ms; effects = Replayed x.id n ∷ [] }) (sym sends)
        ∙ ap (λ es. record { node = record h { replayed = n }; sends = map (message_in past) step.sends; effects = es }) (sym effects);
  })
    where
      h : Here
      h = here_of records service past x

      here : n ≡ length (known (here_of records service past x).log)
      here = n_is ∙ ap length u.known

      replay_if : Bool → CallHere
      replay_if t =
          if t then say (UpToDate x.id) (begin (here_of records service past x))
          else record { node = record (here_of records service past x) { replayed = length (known (here_of records service past x).log) }; sends = []; effects = Replayed x.id (length (known (here_of records service past x).log)) ∷ [] }

      idle : (is_active (here_of records service past x).role || (x.replayed == length (known (here_of records service past x).log))) ≡ false
      idle =
          ap (λ t. t || (x.replayed == length (known (here_of records service past x).log))) (role_active service x.known x.acceptor _ x.acting u.acting ∙ ap (λ w. is_some w) none)
          ∙ ap (λ k. x.replayed == k) (sym here) ∙ old

  pub replay_stays : run service (start_of service) (trace_of x.known) ≡ Some s → StaysResting records service past x after_replay
  replay_stays runs = record {
    same = record { id = refl; nodes = refl; seed = refl; decoded = refl };
    kept = record { id = node.id; few = node.few; up = λ t. up_after; reached = now_reached service x.offset x.base x.known (subst (λ k. k ≤ length x.known) (sym n_is) (le_refl (length x.known))) (ap (λ vs. run service (start_of service) (trace_of vs)) whole ∙ runs); decoded = node.decoded; rests = node.rests };
  }
    where
      l : IsLogged service x (log_of service past (records x.keeper))
      l = logged_of records service past x u

      b : Beside records service past x
      b = beside_of records service past x u

      whole : take n x.known ≡ x.known
      whole = take_all n x.known (omega arith)

      up_after : IsUp service after_replay (here_of records service past after_replay)
      up_after = up_of records service past _
          (record { promised = l.promised; accepted = l.accepted; offset_is = l.offset_is; low = l.low; known = l.known; base = l.base; old_base = l.old_base; few = l.few; start = l.start; short = l.short; fits = l.fits; numbers = l.numbers })
          (record {
            based = subst (λ k. x.base ≤ k) (sym n_is) l.few;
            replayed = subst (λ k. k ≤ length x.known) (sym n_is) (le_refl (length x.known));
            ahead = λ _. ap (λ vs. run service (start_of service) (trace_of vs)) whole ∙ runs;
            caught_up = λ _. n_is;
            proposer = b.proposer;
            acting = b.acting;
            stamped = b.stamped;
            role = b.role;
          })

-- nothing is there
pub none_there : {A : Type 0} (o : Option A) → false ≡ is_some o → o ≡ None
none_there None e = refl
none_there (Some a) e = absurd (false≢true e)
