use Rattle.rex_crew.proofs.Causing.{is_trace, has_room, is_recording, same_recording}
use Rattle.rex_crew.proofs.crew.Crew.replay.Goals as goal

pub reduce-requires-clause-trace : goal.reduce-requires-clause-trace
reduce-requires-clause-trace g c = is_trace _ _ _ c.declarations-service.ensures.sound c.requires.sound c.requires.runs c.requires.counted

pub reduce-requires-clause-room : goal.reduce-requires-clause-room
reduce-requires-clause-room g c = has_room _ _ _ c.declarations-service.ensures.sound c.requires.sound c.requires.runs c.requires.counted

pub on_board-requires-after_bounds : goal.on_board-requires-after_bounds
on_board-requires-after_bounds g c κs within =
    same_recording _ _ _ _ _ _ c.in_ok-recorded.ensures c.from_vec-causes.ensures
    (is_recording _ _ _ c.declarations-service.ensures.sound c.requires.sound c.requires.runs c.requires.counted _ c.in_ok-reduce.ensures.is c.in_ok-reduce.ensures.least)
