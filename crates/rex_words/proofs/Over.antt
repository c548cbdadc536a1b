-- Lanes' seats come back over.
use Rattle.std.proofs.Common.{◌≡◌, ℕ, zero, suc, ◌<◌, arith, List, [], ◌∷◌, length, get_or, refl, ap, sym, ◌∙◌, subst}
use Rattle.std.specs.Prelude.{◌⊎◌, slice_index_or}
use Rattle.rex_event.specs.declared.event.Event.{Event}
use Rattle.rex_syntax.specs.declared.service.Declarations.{Declarations}
use Rattle.rex_syntax.specs.declared.request.Request.{Request}
use Rattle.rex_state.specs.Value.{StateValue}
use Rattle.rex_state.specs.Start.{start_of}
use Rattle.rex_state.specs.Sound.{IsSound}
use Rattle.rex_state.proofs.Sounds.{run_keeps, start_keeps}
use Rattle.rex_words.specs.declared.seat.WordSeat.{WordSeat}
use Rattle.rex_words.specs.declared.table.Words.{Words}
use Rattle.rex_words.specs.Tables.{assignment_of, table_of, IsWords}
use Rattle.rex_words.specs.Alone.{service_of}
use Rattle.rex_words.specs.Own.{IsOwn}
use Rattle.rex_words.specs.Stamps.{lane_list}
use Rattle.rex_words.specs.Dealing.{IsAssignmentOf, AreDealt}
use Rattle.rex_words.specs.Histories.{IsSeatAt, AreSeats, IsHistoryOf, HasEnded, IsRecording}
use Rattle.rex_words.specs.Jobs.{AreOver}
use Rattle.rex_words.specs.Turns.{IsIdle, IsFull}
use Rattle.rex_words.proofs.Ending.{has_ended}

-- the element at a place inside a list
record IsAt (xs : List WordSeat) (i : ℕ) : Type 0 where
  seat : WordSeat
  is : (d : WordSeat) → get_or xs i d ≡ seat

at_place : (xs : List WordSeat) (i : ℕ) → i < length xs → IsAt xs i
at_place [] i h = absurd (omega arith)
at_place (x ∷ xs) zero h = record { seat = x; is = λ d. refl }
at_place (x ∷ xs) (suc i) h = let p = at_place xs i (omega arith) in record { seat = p.seat; is = p.is }

module _ (w : Words) (n : ℕ) (ms ns : List WordSeat) (dealt : AreDealt (assignment_of w) (table_of w) n ms) (long : length ns ≡ length ms) (over : AreOver w ms ns) where
  inside : (lane : ℕ) → lane < n → lane < length ms
  inside lane h = subst (λ (x : ℕ). lane < x) (sym dealt.count) h

  seat_at : (lane : ℕ) (d : WordSeat) → lane < n → IsSeatAt (assignment_of w) (table_of w) lane (slice_index_or ns lane d)
  seat_at lane d h = let o = over lane d d (inside lane h) in record { seat = o.seat; lane_is = o.lane ∙ (dealt.each lane d h).lane_is }

  pub come_back : (lanes : ℕ) → lanes ≡ n → AreSeats (assignment_of w) (table_of w) lanes ns
  come_back lanes e = subst (λ (x : ℕ). AreSeats (assignment_of w) (table_of w) x ns) (sym e) (record { count = long ∙ dealt.count; each = seat_at })

  module _ (words : IsWords w) (history : List Event) (recorded : IsHistoryOf (assignment_of w) ns history) where
    abbrev svc : Declarations
    svc = service_of (assignment_of w)

    sound : IsSound svc recorded.state
    sound =
        let a = words.whole.right in
        run_keeps svc (start_of svc) recorded.state history a.good (start_keeps svc a.good a.checked) recorded.runs

    ended : (lane : ℕ) → lane < n → lane < svc.lanes → HasEnded (assignment_of w) recorded.state lane (lane_list recorded.list lane)
    ended lane h there =
        let p = at_place ns lane (subst (λ (x : ℕ). lane < x) (sym long) (inside lane h)) in
        let at : IsSeatAt (assignment_of w) (table_of w) lane p.seat =
        subst (IsSeatAt (assignment_of w) (table_of w) lane) (p.is p.seat) (seat_at lane p.seat h) in
        let own : IsOwn svc lane p.seat.state recorded.state =
        subst (λ (m : WordSeat). IsOwn svc lane m.state recorded.state) (p.is p.seat) (recorded.own lane p.seat there) in
        let mine : lane_list recorded.list lane ≡ p.seat.events.items =
        recorded.mine lane p.seat there ∙ ap (λ (m : WordSeat). m.events.items) (p.is p.seat) in
        let end : IsIdle (assignment_of w) p.seat ⊎ IsFull (assignment_of w) p.seat =
        subst (λ (m : WordSeat). IsIdle (assignment_of w) m ⊎ IsFull (assignment_of w) m) (p.is p.seat) (over lane p.seat p.seat (inside lane h)).over in
        let here : IsOwn svc p.seat.lane p.seat.state recorded.state =
        subst (λ (x : ℕ). IsOwn svc x p.seat.state recorded.state) (sym at.lane_is) own in
        subst (λ (x : ℕ). HasEnded (assignment_of w) recorded.state x (lane_list recorded.list lane)) at.lane_is
        (has_ended (assignment_of w) recorded.state sound p.seat at.seat.lane here (lane_list recorded.list lane) mine end)

  pub all_over : (service : Declarations) (requests : List Request) (seed : ℕ) (history : List Event) → service.lanes ≡ n → IsWords w
      → IsAssignmentOf (assignment_of w) service requests seed → IsHistoryOf (assignment_of w) ns history → IsRecording service requests seed history
  all_over service requests seed history e words of recorded = record {
    assignment = assignment_of w;
    of = of;
    seats = ns;
    table = table_of w;
    recorded = recorded;
    over = λ lane d h. let inside' : lane < n = subst (λ (x : ℕ). lane < x) e h in record { at = seat_at lane d inside'; over = (over lane d d (inside lane inside')).over };
    ends = λ lane h.
        ended words history recorded lane (subst (λ (x : ℕ). lane < x) e h) (subst (λ (x : Declarations). lane < x.lanes) (sym of.service_is) h);
  }
