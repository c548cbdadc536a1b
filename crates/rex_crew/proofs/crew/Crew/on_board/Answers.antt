use Rattle.std.proofs.Common.{ap}
use Rattle.rex_syntax.specs.declared.service.Declarations.{Declarations}
use Rattle.rex_state.proofs.Sounds.{run_keeps}
use Rattle.rex_crew.proofs.Returns.{same_run, all_dealt, all_finished}
use Rattle.rex_crew.proofs.crew.Crew.on_board.Goals as goal

pub by_workers-requires-clause-seats : goal.by_workers-requires-clause-seats
by_workers-requires-clause-seats g c κs within = all_dealt _ _ _ _ c.in_ok-board.ensures.seats (ap (λ (d : Declarations). d.lanes) c.in_ok-board.ensures.recording.service_is)

pub finish-requires-clause-seats : goal.finish-requires-clause-seats
finish-requires-clause-seats g c = all_finished _ _ _ _ c.in_ok-seats.ensures c.in-Some.ensures.kept c.in-Some.ensures.finished

pub returns-clause-sound : goal.returns-clause-sound
returns-clause-sound g c =
    let r = c.in_ok-board.ensures.recording in
    run_keeps _ _ _ _ c.requires.good c.requires.sound (same_run _ _ _ _ _ _ _ r.service_is r.start_is r.events_are c.finish.ensures)
