use Rattle.std.proofs.Common.{sym, subst, ◌∙◌}
use Rattle.rex_delta.specs.Parts.{GivesInto}
use Rattle.rex_delta.proofs.Tallies.{behind_whole, error_given}
use Rattle.rex_delta.proofs.events_alone.append_events.Goals as goal

pub returns-then-is_err-clause-exact : goal.returns-then-is_err-clause-exact
returns-then-is_err-clause-exact c =
    error_given c.push_whole-end.result c.push_whole-end.new.events.items c.truncate.new.self.items _ (sym c.is_err.ensures.value ∙ c.if-is_err.true)
    (subst (λ r. GivesInto c.push_whole-end.result c.push_whole-end.new.events.items r) (behind_whole c.args.events.now.items c.args.bytes.now) c.push_whole-end.ensures.read)

pub returns-else-is_err-clause-exact : goal.returns-else-is_err-clause-exact
returns-else-is_err-clause-exact c =
    subst (λ r. GivesInto c.push_whole-end.result c.push_whole-end.new.events.items r) (behind_whole c.args.events.now.items c.args.bytes.now) c.push_whole-end.ensures.read
