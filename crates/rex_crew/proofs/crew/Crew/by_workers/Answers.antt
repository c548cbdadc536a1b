use Rattle.std.specs.declared.vec.Vec.{Vec}
use Rattle.std.specs.declared.alloc.Global.{Global}
use Rattle.std.proofs.lemmas.Result.{IfOk-weaker}
use Rattle.rex_board.specs.declared.seat.LaneSeat.{LaneSeat}
use Rattle.rex_crew.proofs.Returns.{still_all, are_jobs, all_back}
use Rattle.rex_crew.proofs.crew.Crew.by_workers.Goals as goal

pub returns-then-workers-le1 : goal.returns-then-workers-le1
returns-then-workers-le1 g c = still_all _ _ _ _ c.requires.seats c.work.ensures.seats c.work.ensures.lanes

pub together-requires-after_bounds : goal.together-requires-after_bounds
together-requires-after_bounds g c κs within = are_jobs c.args.board.now _ _ _ c.requires.seats c.in_ok-jobs.ensures c.requires.board

pub returns : goal.returns
returns g c = IfOk-weaker c.gather.result _ _ (λ (v : Vec LaneSeat Global) h. all_back c.args.board.now _ _ _ c.requires.seats c.in_ok-jobs.ensures _ _ c.in_ok-together.ensures.long c.in_ok-together.ensures.handed h) c.gather.ensures
