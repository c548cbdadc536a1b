use Rattle.std.proofs.Common.{◌≡◌, List, refl, sym, subst}
use Rattle.std.specs.Prelude.{IsSome}
use Rattle.std.specs.List.{All}
use Rattle.rex_state.specs.Machine.{run}
use Rattle.rex_state.specs.Start.{start_of}
use Rattle.rex_event.specs.declared.event.Event.{Event}
use Rattle.rex_syntax.specs.declared.request.Request.{Request}
use Rattle.rex_delta.specs.Spelling.{HasTypedKind}
use Rattle.rex_cluster.specs.Takes.{BeginsInRange}
use Rattle.rex_lead.specs.Lead.{blocks_of, live_text}
use Rattle.rex_words.specs.Dealing.{CanRecord}
use Rattle.rexlive_cli.specs.Recording.{IsHistoryBy}
use Rattle.rexlive_cli.proofs.Played.{may_be_led}
use Rattle.rexlive_cli.proofs.Worded.{can_record}
use Rattle.rexlive_cli.proofs.answers.play_scenario.Goals as goal

pub history_by-requires-after_bounds : goal.history_by-requires-after_bounds
history_by-requires-after_bounds g c lifetimes bounds words =
    subst (CanRecord c.args.svc.now) (sym c.as_slice-requests.ensures) (can_record c.args.svc.now c.args.scenario.now.requests (c.requires.plain words) c.requires.fits.requests)

pub lead_by_crew-requires-clause-few : goal.lead_by_crew-requires-clause-few
lead_by_crew-requires-clause-few g c lifetimes bounds =
    let made = subst (λ (requests : List Request). IsHistoryBy c.args.recording c.args.svc.now requests c.args.scenario.now.seed c.in_ok-events.events) c.as_slice-requests.ensures c.in_ok-events.ensures in
    let led = may_be_led c.args.recording c.args.svc.now c.args.scenario.now.requests c.args.scenario.now.seed c.in_ok-events.events c.requires.fits.requests c.histories_run.ensures c.events_are_told.ensures
    c.declarations-service.ensures.sound c.declarations-service.ensures.checked made in
    rw c.as_slice.ensures led.few

pub lead_by_crew-requires-clause-begins : goal.lead_by_crew-requires-clause-begins
lead_by_crew-requires-clause-begins g c lifetimes bounds =
    let made = subst (λ (requests : List Request). IsHistoryBy c.args.recording c.args.svc.now requests c.args.scenario.now.seed c.in_ok-events.events) c.as_slice-requests.ensures c.in_ok-events.ensures in
    let led = may_be_led c.args.recording c.args.svc.now c.args.scenario.now.requests c.args.scenario.now.seed c.in_ok-events.events c.requires.fits.requests c.histories_run.ensures c.events_are_told.ensures
    c.declarations-service.ensures.sound c.declarations-service.ensures.checked made in
    subst (All BeginsInRange) (sym c.as_slice.ensures) led.begins

pub lead_by_crew-requires-clause-runs : goal.lead_by_crew-requires-clause-runs
lead_by_crew-requires-clause-runs g c lifetimes bounds =
    let made = subst (λ (requests : List Request). IsHistoryBy c.args.recording c.args.svc.now requests c.args.scenario.now.seed c.in_ok-events.events) c.as_slice-requests.ensures c.in_ok-events.ensures in
    let led = may_be_led c.args.recording c.args.svc.now c.args.scenario.now.requests c.args.scenario.now.seed c.in_ok-events.events c.requires.fits.requests c.histories_run.ensures c.events_are_told.ensures
    c.declarations-service.ensures.sound c.declarations-service.ensures.checked made in
    subst (λ (es : List Event). IsSome (run c.args.svc.now (start_of c.args.svc.now) es)) (sym c.as_slice.ensures) (subst IsSome (sym led.runs) refl)

pub returns : goal.returns
returns g c =
    let made = subst (λ (requests : List Request). IsHistoryBy c.args.recording c.args.svc.now requests c.args.scenario.now.seed c.in_ok-events.events) c.as_slice-requests.ensures c.in_ok-events.ensures in
    let led = may_be_led c.args.recording c.args.svc.now c.args.scenario.now.requests c.args.scenario.now.seed c.in_ok-events.events c.requires.fits.requests c.histories_run.ensures c.events_are_told.ensures
    c.declarations-service.ensures.sound c.declarations-service.ensures.checked made in
    record {
      history = c.in_ok-events.events;
      made = made;
      led = c.histories_are_led.ensures c.args.svc.now c.args.scenario.now c.in_ok-events.events led.state c.declarations-service.ensures.sound c.declarations-service.ensures.checked c.requires.fits led.few led.begins
          (subst (All HasTypedKind) c.as_slice.ensures c.in_ok-text.ensures.typed) led.runs;
      status = refl;
      text = subst (λ (es : List Event). c.in_ok-text.text.items ≡ live_text c.args.svc.now c.args.scenario.now (blocks_of es)) c.as_slice.ensures c.in_ok-text.ensures.text;
    }
