use Rattle.std.proofs.Common.{◌∙◌, ap, List}
use Rattle.rex_gate.specs.declared.numbers.Stamp.{Stamp}
use Rattle.rex_gate.specs.Numbers.{number_at}
use Rattle.rex_gate.proofs.Noted.{number_in}
use Rattle.rex_gate.proofs.numbers.Numbers.get.Goals as goal

-- the table's number is the one that is seen
pub returns : goal.returns
returns c =
    c.number_of.ensures ∙ ap (λ (t : List Stamp). number_at t c.args.client) c.deref.ensures.value ∙ number_in c.self.inside.stamps.items c.args.client
    ∙ ap (λ (t : List Stamp). number_at t c.args.client) c.self.view_is
