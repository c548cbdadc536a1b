-- The counts below which a node cuts are a cut of its live events, and what it proposes is faithful.
use Rattle.rex_node.proofs.Common.{◌≡◌, ℕ, ◌≤◌, true, List, [], ◌∷◌, ◌++◌, length, Option, Some, None, Ok, sym, ap, subst, ◌∙◌, and_parts, length-map, Declarations, IsService, Event, IsConsistent, IsWithin, below, beyond, delta_in, start_of, run, GoesFirst, counts_of, runs_rise, cuts_go_first, run-then, IsRecorder, value_at, is_faithful, Value, read_delta, events_of, trace_of, state_after, values_fit, trace_push, state_is, Piece, IsPieceOf, counts_in, cut_in, ActingValue, Executes, IsCutAt}
use Rattle.std.proofs.Math.Nat.{le_refl, le_trans}
use Rattle.rex_event.specs.Limits.{most_lanes}
use Rattle.rex_cut.specs.Delta.{delta_at}
use Rattle.rex_cut.specs.Greatest.{IsCutOf}
use Rattle.rex_cut.proofs.Highest.{greatest_is}
use Rattle.rex_state.specs.Counts.{CountsOn, done_of}
use Rattle.rex_state.proofs.Counts.{RiseBy, runs_count_on}
use Rattle.rex_cluster.specs.Same.{same_events}
use Rattle.rex_cluster.specs.Values.{still_live}
use Rattle.rex_cluster.proofs.Acting.{IsLiveCut, beyond_same}
use Rattle.rex_cluster.proofs.Between.{between_long, between_from, between_to}
use Rattle.rex_cluster.proofs.Faithful.{faithful_at}
use Rattle.rex_node.specs.Calls.{AreLimits}

-- ---- counts

module _ {service : Declarations} (a : ActingValue) (h : IsRecorder service a.recorder) where
  -- a count for each lane
  pub firsts_long : length (counts_of a.recorder.start) ≡ service.lanes
  firsts_long = length-map a.recorder.start.lanes done_of ∙ h.sound.by.complete.lanes

  rises : RiseBy (length a.recorder.live) (counts_of a.recorder.start) (counts_of a.recorder.state)
  rises = runs_rise service _ _ _ h.runs

  pub lasts_long : length (counts_of a.recorder.state) ≡ service.lanes
  lasts_long = rises.long ∙ firsts_long

  counts_live : (limits : Option (List ℕ)) → AreLimits service limits → IsLiveCut a.recorder.start a.recorder.state (counts_in a limits)
  counts_live None many = record { long = rises.long; from = rises.rise; to = λ lane. le_refl _ }
  counts_live (Some limits) many = record {
    long = between_long _ _ limits rises.long (many ∙ sym firsts_long);
    from = λ lane. between_from _ _ limits lane rises.long (many ∙ sym firsts_long) rises.rise;
    to = λ lane. between_to _ _ limits lane;
  }

  pub counts_long : (limits : Option (List ℕ)) → AreLimits service limits → length (counts_in a limits) ≡ service.lanes
  counts_long limits many = (counts_live limits many).long ∙ firsts_long

  -- they are a cut of the live events
  pub counts_cut : IsService service → (limits : Option (List ℕ)) → AreLimits service limits → IsCutOf a.recorder.live (counts_in a limits)
  counts_cut good limits many =
      let c : CountsOn a.recorder.start a.recorder.live a.recorder.state = runs_count_on service _ _ _ h.runs in
      let live = counts_live limits many in
      record {
        bases = counts_of a.recorder.start;
        few = subst (λ n. n ≤ most_lanes) (sym (counts_long limits many)) good.lanes;
        long = sym live.long;
        numbered = c.numbered;
        from = live.from;
        to = subst (λ cs. IsWithin cs (counts_in a limits)) (sym c.counts) live.to;
      }

  pub trace_cut : {live : List Event} {counts : List ℕ} (limits : Option (List ℕ)) → live ≡ a.recorder.live → counts ≡ counts_in a limits → IsService service → AreLimits service limits → IsCutOf live counts
  trace_cut {counts} limits live_is counts_are good many =
      subst (λ es. IsCutOf es counts) (sym live_is) (subst (λ cs. IsCutOf a.recorder.live cs) (sym counts_are) (counts_cut good limits many))

-- ---- a piece

module _ {service : Declarations} (good : IsService service) {values : List Value} {a : ActingValue} (h : Executes service values a) (fit : values_fit service values ≡ true) (limits : Option (List ℕ)) (many : AreLimits service limits) {p : Piece} (piece : IsPieceOf a (cut_in a limits) p) where
  abbrev cut : List ℕ
  cut = cut_in a limits

  abbrev live : List Event
  live = a.recorder.live

  cut_of : IsCutOf live (counts_in a limits)
  cut_of = counts_cut a h.recorder good limits many

  read : delta_in (value_at cut live) ≡ Ok (delta_at cut live)
  read = subst (λ v. delta_in v ≡ Ok (delta_at cut live)) piece.value piece.again

  -- what it proposes is faithful, and runs on after what is known
  pub piece_faithful : (seed : ℕ) → is_faithful service seed values (cut_in a limits) a.recorder.live ≡ true
  piece_faithful seed =
      faithful_at service seed values _ _ live _ good fit h.recorder.sound h.known h.recorder.runs cut_of
      (counts_long a h.recorder limits many) read piece.spelled.delta piece.spelled.short

  pub piece_fits : values_fit service (values ++ p.value ∷ []) ≡ true
  piece_fits =
      subst (λ v. values_fit service (values ++ v ∷ []) ≡ true) (sym piece.value)
      (and_parts (values_fit service (values ++ value_at cut live ∷ [])) (same_events (events_of (value_at cut live)) (below cut live)) (piece_faithful 0)).0

  consistent : IsConsistent live cut
  consistent = (greatest_is _ live cut_of).consistent

  go : GoesFirst service a.recorder.start a.recorder.state cut live
  go = cuts_go_first service _ _ cut live good h.recorder.sound consistent h.recorder.runs

  events : events_of p.value ≡ below cut live
  events = ap (λ r. (read_delta r).events) piece.again

  mid : state_after service (trace_of (values ++ p.value ∷ [])) ≡ go.state
  mid =
      state_is service _ go.state
      (ap (run service (start_of service)) (trace_push values p.value)
      ∙ run-then service (start_of service) _ (trace_of values) _ h.known
      ∙ ap (run service a.recorder.start) events ∙ go.first)

  others : still_live service (values ++ p.value ∷ []) live ≡ beyond cut live
  others =
      ap (λ s. beyond (counts_of s) live) mid
      ∙ beyond_same service _ go.state _ cut live go.first go.rest

  within : IsWithin (counts_of a.recorder.state) cut
  within lane = le_trans ((greatest_is _ live cut_of).within lane) ((counts_live a h.recorder limits many).to lane)

  -- it is a cut of what is executed
  pub piece_cut : IsCutAt service values (record a { proposed = p.cut.counts }) p.value
  piece_cut =
      subst (λ c. IsCutAt service values (record a { proposed = c }) p.value) (sym piece.cut_is)
      (record { consistent = consistent; within = within; events = events; others = others })
