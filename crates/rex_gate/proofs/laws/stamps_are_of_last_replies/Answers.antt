use Rattle.std.proofs.Common.{refl}
use Rattle.rex_gate.proofs.Stamps.{stamps_are}
use Rattle.rex_gate.proofs.laws.stamps_are_of_last_replies.Goals as goal

pub returns-clause-stamps : goal.returns-clause-stamps
returns-clause-stamps c = stamps_are

pub returns-clause-start : goal.returns-clause-start
returns-clause-start c = refl
