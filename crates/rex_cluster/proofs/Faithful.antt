-- A cut whose delta has a spelling is faithful.
use Rattle.std.proofs.Common.{eq-eqb, le-leb, ◌≤◌, ◌≡◌, ℕ, Bool, length, true, List, [], ◌∷◌, ◌++◌, refl, ◌∙◌, ap, Option, Some, Ok}
use Rattle.std.specs.Prelude.{is_some}
use Rattle.std.specs.List.{list_all}
use Rattle.std.proofs.lemmas.Bool.{and_parts, and_from}
use Rattle.rex_syntax.specs.declared.service.Declarations.{Declarations}
use Rattle.rex_syntax.specs.Service.{IsService}
use Rattle.rex_syntax.specs.Check.{IsChecked}
use Rattle.rex_event.specs.declared.event.Event.{Event}
use Rattle.rex_event.specs.Cuts.{below}
use Rattle.rex_cut.specs.Greatest.{greatest_cut, IsCutOf}
use Rattle.rex_reduce.specs.Reduction.{reduced}
use Rattle.rex_cut.specs.Delta.{delta_at, bases_from}
use Rattle.rex_cut.proofs.Lowered.{lowered_long}
use Rattle.rex_cut.proofs.Bases.{bases_long}
use Rattle.rex_cut.proofs.Highest.{greatest_is}
use Rattle.rex_delta.specs.Spelling.{IsDelta, HasSpelling}
use Rattle.rex_delta.specs.Reading.{delta_in}
use Rattle.rex_delta.proofs.EventsAgain.{delta_read}
use Rattle.rex_state.specs.Value.{StateValue}
use Rattle.rex_state.specs.Start.{start_of}
use Rattle.rex_state.specs.Machine.{run}
use Rattle.rex_state.specs.Sound.{IsSound}
use Rattle.rex_state.specs.Commute.{GoesFirst}
use Rattle.rex_state.proofs.Run.{run-then}
use Rattle.rex_state.proofs.Cuts.{cuts_go_first}
use Rattle.rex_cluster.specs.Records.{Proposal}
use Rattle.rex_cluster.specs.Node.{Work}
use Rattle.rex_cluster.specs.Values.{Value, read_delta, events_of, trace_of, is_piece, spells, values_fit}
use Rattle.rex_cluster.specs.Same.{same_events}
use Rattle.rex_cluster.specs.Lanes.{value_at, is_faithful}
use Rattle.rex_cluster.specs.Acting.{IsActing}
use Rattle.rex_cluster.proofs.Replies.{trace_push}
use Rattle.rex_cluster.proofs.Bytes.{delta_bytes_are}
use Rattle.rex_cluster.proofs.Sames.{events_same, lists_same}

spells_push : (p : Value → Bool) (vs : List Value) (v : Value) → list_all p vs ≡ true → p v ≡ true → list_all p (vs ++ v ∷ []) ≡ true
spells_push p [] v h k = and_from _ _ k refl
spells_push p (x ∷ xs) v h k = let q = and_parts _ _ h in and_from _ _ q.0 (spells_push p xs v q.1 k)

-- a cut of events that go on from the values that are known
module _ (service : Declarations) (seed : ℕ) (vs : List Value) (start state : StateValue) (live : List Event) (counts : List ℕ) (good : IsService service) (fit : values_fit service vs ≡ true) where
  abbrev cut : List ℕ
  cut = greatest_cut counts live

  pub faithful_at : IsSound service start → run service (start_of service) (trace_of vs) ≡ Some start → run service start live ≡ Some state → IsCutOf live counts → length counts ≡ service.lanes
      → delta_in (value_at (greatest_cut counts live) live) ≡ Ok (delta_at (greatest_cut counts live) live) → IsDelta (delta_at (greatest_cut counts live) live) → length (value_at (greatest_cut counts live) live) ≤ 4194304
      → is_faithful service seed vs (greatest_cut counts live) live ≡ true
  faithful_at sound known_runs live_runs is many read d short = and_from _ _ fits (ap (λ es. same_events es (below cut live)) events ∙ events_same (below cut live))
    where
      events : events_of (value_at cut live) ≡ below cut live
      events = ap (λ r. (read_delta r).events) read

      long : length cut ≡ service.lanes
      long = lowered_long [] counts live ∙ many

      spelt : spells service (value_at cut live) ≡ true
      spelt = and_from _ _ (and_from _ _ (le-leb (length (value_at cut live)) 4194304 short) (delta_bytes_are (delta_at cut live) d).each) (ap (is_piece service) read
          ∙ and_from _ _ (eq-eqb (length (bases_from live 0 cut)) service.lanes (bases_long live 0 cut ∙ long))
          (lists_same (reduced (below cut live))))

      go : GoesFirst service start state cut live
      go = cuts_go_first service start state cut live good sound (greatest_is counts live is).consistent live_runs

      run_on : run service (start_of service) (trace_of (vs ++ value_at cut live ∷ [])) ≡ Some go.state
      run_on = ap (run service (start_of service)) (trace_push vs (value_at cut live))
          ∙ (run-then service (start_of service) start (trace_of vs) (events_of (value_at cut live)) known_runs
          ∙ (ap (run service start) events ∙ go.first))

      fits : values_fit service (vs ++ value_at cut live ∷ []) ≡ true
      fits = and_from _ _ (spells_push (spells service) vs (value_at cut live) (and_parts _ _ fit).0 spelt) (ap is_some run_on)

pub faithful : (service : Declarations) (seed : ℕ) (vs : List Value) (o : Option (Proposal Value)) (w : Work) (counts : List ℕ) → IsService service → IsChecked service → values_fit service vs ≡ true → IsActing service vs o w → IsCutOf w.live counts → length counts ≡ service.lanes
    → HasSpelling (delta_at (greatest_cut counts w.live) w.live) → length (value_at (greatest_cut counts w.live) w.live) ≤ 4194304 → is_faithful service seed vs (greatest_cut counts w.live) w.live ≡ true
faithful service seed vs o w counts good checked fit a is many spelled short =
    faithful_at service seed vs a.start a.state w.live counts good fit a.recorder.sound a.known_runs a.recorder.runs is many (delta_read (delta_at (greatest_cut counts w.live) w.live) spelled) spelled.delta short
