use Rattle.std.proofs.Common.{ap, sym, ◌∙◌}
use Rattle.rex_delta.specs.Reading.{delta_in}
use Rattle.rex_delta.specs.Counts.{count_of}
use Rattle.rex_delta.proofs.EventsAgain.{delta_read}
use Rattle.rex_delta.proofs.Tallies.{counted_whole}
use Rattle.rex_delta.proofs.check_delta.check.Goals as goal

pub returns-in-Ok-clause-only : goal.returns-in-Ok-clause-only
returns-in-Ok-clause-only c = λ d has e. sym c.in-Ok.ensures.read ∙ counted_whole c.args.bytes.now ∙ ap count_of (ap delta_in e ∙ delta_read d has)

pub returns-in-Ok-clause-exact : goal.returns-in-Ok-clause-exact
returns-in-Ok-clause-exact c = sym c.in-Ok.ensures.read ∙ counted_whole c.args.bytes.now

pub returns-in-Err-Bad-clause-only : goal.returns-in-Err-Bad-clause-only
returns-in-Err-Bad-clause-only c = λ d has e. sym (rw c.in-Err-Bad.field-0-is at c.in-Err-Bad.ensures.read) ∙ counted_whole c.args.bytes.now ∙ ap count_of (ap delta_in e ∙ delta_read d has)

pub returns-in-Err-Bad-clause-exact : goal.returns-in-Err-Bad-clause-exact
returns-in-Err-Bad-clause-exact c = sym (rw c.in-Err-Bad.field-0-is at c.in-Err-Bad.ensures.read) ∙ counted_whole c.args.bytes.now
