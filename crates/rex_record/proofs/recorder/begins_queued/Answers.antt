use Rattle.std.proofs.Common.{◌∙◌}
use Rattle.rex_record.proofs.Takes.{found_there}
use Rattle.rex_record.proofs.recorder.begins_queued.Goals as goal

pub returns-in-Begin : goal.returns-in-Begin
returns-in-Begin c = rw c.in-Begin.is (c.is_some.ensures ∙ found_there c.find_request.result c.args.queue.now.items c.in-Begin.client c.find_request.ensures)
