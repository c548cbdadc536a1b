use Rattle.std.proofs.Common.{ap, ◌∙◌}
use Rattle.rex_gate.specs.Numbers.{numbers_in}
use Rattle.rex_gate.proofs.Noted.{state_in}
use Rattle.rex_gate.proofs.numbers.Numbers.at.Goals as goal

pub returns : goal.returns
returns c = ap numbers_in c.in_ok-stamps_of.ensures ∙ state_in c.args.clients.now c.requires
