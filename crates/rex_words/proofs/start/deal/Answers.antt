use Rattle.std.proofs.Common.{◌≡◌, ◌<◌, ◌+◌, ℕ, List, subst, sym, refl, ap, ◌∙◌}
use Rattle.rand_pcg.specs.Lcg.{Lcg, started, increment_of}
use Rattle.rand_pcg.specs.Pcg.{pcg32, multiplier_64}
use Rattle.rex_words.specs.declared.seat.WordSeat.{WordSeat}
use Rattle.rex_words.specs.Alone.{dice_of}
use Rattle.rex_event.specs.Order.{Has}
use Rattle.rex_syntax.specs.declared.service.Declarations.{Declarations}
use Rattle.rex_syntax.specs.declared.request.Request.{Request}
use Rattle.rex_state.specs.Start.{start_of}
use Rattle.rex_words.specs.Dealing.{requests_for}
use Rattle.rex_words.proofs.Keeps.{deals}
use Rattle.rex_words.proofs.Dealt.{fresh_seat}
use Rattle.rex_words.proofs.start.deal.Goals as goal

pub requests_of_lane-requires-clause-clients : goal.requests_of_lane-requires-clause-clients
requests_of_lane-requires-clause-clients c = λ q h. (c.requires.right.clients q (subst (λ (qs : List Request). Has q qs) (sym c.requires.of.requests_are) h)).0

pub split_seat-seat-requires : goal.split_seat-seat-requires
split_seat-seat-requires c = (
  c.requires.hosting.0.table,
  c.requires.table,
  deals _ _ _ c.requires.hosting.0.role (subst (λ (x : ℕ × Declarations). x.0 < x.1.lanes) (λ i. (sym c.requires.hosting.1 i, sym c.requires.of.service_is i)) c.requires.lane) c.requires.hosting.0.gathered,
)

pub returns-clause-seat : goal.returns-clause-seat
returns-clause-seat c =
    let m : WordSeat = record { seat = c.split_seat-seat.result; lane = c.args.lane; state = c.in_ok-state.state; events = c.in_ok-events.events; stamp = 0; requests = c.in_ok-requests.requests; begun = 0; random = c.next_word-random.result; dice = c.next_word-random.new.self } in
    let dice : c.new-dice.result ≡ dice_of c.args.words.now.key c.args.lane = c.new-dice.ensures ∙ ap (λ (n : ℕ). started 64 multiplier_64 n (increment_of 64 (c.args.lane + 1))) (sym c.requires.of.seed_is) in
    fresh_seat c.args.words.now.key c.requires.right m record {
      there = subst (λ (d : Declarations). c.args.lane < d.lanes) (sym c.requires.of.service_is) c.requires.lane;
      state = c.in_ok-state.ensures.start ∙ ap start_of (sym c.requires.of.service_is);
      events = c.in_ok-events.ensures.items;
      room = c.in_ok-events.ensures.capacity;
      stamp = refl;
      requests = c.in_ok-requests.ensures ∙ (λ i. requests_for ((c.declarations.ensures.whole ∙ sym c.requires.of.service_is) i).lanes c.args.lane (sym c.requires.of.requests_are i));
      begun = refl;
      random = ap (λ (x : ℕ × Lcg). x.0) c.next_word-random.ensures ∙ ap (λ (x : Lcg). (pcg32 x).0) dice;
      dice = ap (λ (x : ℕ × Lcg). x.1) c.next_word-random.ensures ∙ ap (λ (x : Lcg). (pcg32 x).1) dice;
    } c.args.words.now.table_id c.args.host.now.me.0 c.requires.hosting.0.key c.requires.hosting.1 (c.split_seat-seat.ensures.3 ∙ c.requires.hosting.0.table) c.split_seat-seat.ensures.4
