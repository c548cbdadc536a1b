use Rattle.std.proofs.Common.{sym}
use Rattle.rex_text.specs.Left.{words_left}
use Rattle.rex_frames.proofs.Typed.{arguments_fit}
use Rattle.rex_frames.proofs.requests.request_in.Goals as goal

pub returns-clause-typed : goal.returns-clause-typed
returns-clause-typed c = record { arguments = arguments_fit (words_left c.next-3.new.self) c.in_ok-arguments.arguments (sym c.in_ok-arguments.ensures) }
