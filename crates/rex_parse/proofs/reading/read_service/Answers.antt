use Rattle.rex_parse.proofs.Typed.{services_typed}
use Rattle.rex_parse.proofs.reading.read_service.Goals as goal

pub returns-clause-typed : goal.returns-clause-typed
returns-clause-typed c = rw c.finish.ensures (services_typed c.args.bytes.now c.read_text.new.parser c.in_ok-read_text.ensures.read)
