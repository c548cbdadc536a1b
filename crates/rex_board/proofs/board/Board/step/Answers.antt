use Rattle.std.proofs.Common.{◌<◌, ℕ, List, refl, sym, ◌∙◌, subst}
use Rattle.rex_event.specs.Limits.{most_lanes}
use Rattle.rex_event.specs.declared.delta.Cause.{Cause}
use Rattle.rex_event.specs.Order.{Has}
use Rattle.rex_board.specs.Recorded.{service_of}
use Rattle.rex_board.specs.Boards.{recording_of}
use Rattle.rex_board.specs.Turns.{IsFirstMissing}
use Rattle.rex_board.proofs.Stepping.{at_end, lanes_of_causes, names_lock, is_ready, is_blocked, is_done, is_placed, is_at, done_small}
use Rattle.rex_board.proofs.board.Board.step.Goals as goal

pub returns-then-me-self-clause-turn : goal.returns-then-me-self-clause-turn
returns-then-me-self-clause-turn c = (at_end _ _ _ _ _ _ c.requires.board.replays c.args.me.now c.requires.seat c.if-me-self.true, refl)

pub first_missing-requires-clause-lanes : goal.first_missing-requires-clause-lanes
first_missing-requires-clause-lanes c =
    subst (λ (l : List Cause). (d : Cause) → Has d l → d.lane < most_lanes) (sym (c.as_slice.ensures ∙ sym c.index-self-me-2.is))
    (lanes_of_causes _ _ _ _ _ _ c.requires.board.replays c.args.me.now c.requires.seat c.if-me-self.false c.index-self-me.result c.index-self-me-2.result c.index-self-me-2.is)

pub returns-in-Some-clause-turn : goal.returns-in-Some-clause-turn
returns-in-Some-clause-turn c =
    is_blocked _ _ _ _ _ _ c.requires.board.replays c.args.me.now c.requires.seat c.if-me-self.false c.first_missing.new.self c.first_missing.ensures.looking c.index-self-me.result c.index-self-me-2.result c.index-self-me-2.is _ _
    (subst (λ (l : List Cause). IsFirstMissing c.first_missing.new.self.bounds l c.in-Some.cause) (c.as_slice.ensures ∙ sym c.index-self-me-2.is) c.in-Some.ensures.missing.0) c.in-Some.ensures.missing.1

pub do_event-requires-clause-ready : goal.do_event-requires-clause-ready
do_event-requires-clause-ready c = is_ready _ _ _ _ _ _ c.requires.board.replays c.args.me.now c.requires.seat c.if-me-self.false c.first_missing.new.self c.first_missing.ensures.looking c.index-self-me.result c.index-self-me-2.result c.index-self-me-2.is (λ d h. c.in_default.ensures.missing d (subst (λ (l : List Cause). Has d l) (sym (c.as_slice.ensures ∙ sym c.index-self-me-2.is)) h))

pub do_event-requires-clause-names : goal.do_event-requires-clause-names
do_event-requires-clause-names c = names_lock _ _ _ _ _ _ c.requires.board.replays c.args.me.now c.requires.seat c.if-me-self.false c.index-self-me.result

pub returns-clause-seat : goal.returns-clause-seat
returns-clause-seat c =
    let looking = c.first_missing.ensures.looking in let later = c.do_event.ensures.later in
    record {
      table = later.table ∙ looking.later.table ∙ c.requires.seat.table;
      key = later.key ∙ looking.later.key ∙ c.requires.seat.key;
      lane = subst (λ (x : ℕ). x < most_lanes) (sym (later.lane ∙ looking.later.lane)) c.requires.seat.lane;
      there = subst (λ (x : ℕ). x < (service_of (recording_of c.args.self.now)).lanes) (sym (later.lane ∙ looking.later.lane)) c.requires.seat.there;
      small = done_small _ _ _ _ _ _ c.requires.board.replays c.args.me.now c.requires.seat c.if-me-self.false c.first_missing.new.self c.first_missing.ensures.looking c.index-self-me.result c.index-self-me-2.result c.index-self-me-2.is c.do_event.new.self c.do_event.ensures.later c.do_event.ensures.done c.do_event.ensures.bounds;
      wide = c.do_event.ensures.wide;
      placed = is_placed _ _ _ _ _ _ c.requires.board.replays c.args.me.now c.requires.seat c.if-me-self.false c.first_missing.new.self c.first_missing.ensures.looking c.index-self-me.result c.index-self-me-2.result c.index-self-me-2.is c.do_event.new.self c.do_event.ensures.later c.do_event.ensures.done c.do_event.ensures.bounds c.do_event.ensures.place _ (c.next_place-me.ensures c.args.self.now.events.now (c.as_slice-2.ensures.value ∙ c.requires.board.event_lanes));
      next = is_at _ _ _ _ _ _ c.requires.board.replays c.args.me.now c.requires.seat c.if-me-self.false c.first_missing.new.self c.first_missing.ensures.looking c.index-self-me.result c.index-self-me-2.result c.index-self-me-2.is c.do_event.new.self c.do_event.ensures.later c.do_event.ensures.done c.do_event.ensures.bounds c.do_event.ensures.place _ (c.next_place-me.ensures c.args.self.now.events.now (c.as_slice-2.ensures.value ∙ c.requires.board.event_lanes));
    }

pub returns-clause-turn : goal.returns-clause-turn
returns-clause-turn c =
    let done = is_done _ _ _ _ _ _ c.requires.board.replays c.args.me.now c.requires.seat c.if-me-self.false c.first_missing.new.self c.first_missing.ensures.looking c.index-self-me.result c.index-self-me-2.result c.index-self-me-2.is c.do_event.new.self c.do_event.ensures.later c.do_event.ensures.done c.do_event.ensures.bounds c.do_event.ensures.store
    (λ d h. c.in_default.ensures.missing d (subst (λ (l : List Cause). Has d l) (sym (c.as_slice.ensures ∙ sym c.index-self-me-2.is)) h)) in
    record { next = done.next; covered = done.covered; one_more = done.one_more; store = record { before = done.store.before; after = done.store.after } }
