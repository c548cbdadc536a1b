use Rattle.rex_world.proofs.Common.{take, Sends}
use Rattle.rex_world.proofs.calls.send_all.Given as goal

abbrev pub invariant-loop-message : goal.invariant-loop-message
invariant-loop-message l = Sends (take l.message-index l.messages) l.initial.net l.net l.initial.handed.items l.handed.items l.initial.sent.items l.sent.items
