use Rattle.std.proofs.Common.{◌≡◌, ◌++◌, take}
use Rattle.std.specs.List.{flat_map}
use Rattle.rex_frames.specs.Answering.{message_frame}
use Rattle.rex_serve.proofs.answering.push_messages.Given as goal

abbrev pub invariant-loop-message : goal.invariant-loop-message
invariant-loop-message l = l.out.items ≡ l.initial.out.items ++ flat_map message_frame (take l.message-index l.messages)
