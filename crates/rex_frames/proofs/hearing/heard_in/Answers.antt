use Rattle.std.proofs.Common.{rules}
use Rattle.rex_frames.proofs.Heard.{heard_fits}
use Rattle.rex_frames.proofs.hearing.heard_in.Goals as goal

pub returns-then-is_for-clause-fits : goal.returns-then-is_for-clause-fits
returns-then-is_for-clause-fits c = heard_fits c.args.id c.args.nodes c.in-Ok.message c.requires c.in-Ok.ensures.found.0 (search rules)
