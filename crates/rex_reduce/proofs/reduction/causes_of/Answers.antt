use Rattle.std.proofs.Common.{sym, ◌∙◌}
use Rattle.rex_event.specs.declared.event.TheConstants.{LANES}
use Rattle.rex_clocks.specs.First.{IsAhead}
use Rattle.rex_reduce.proofs.Beyond.{none_ahead}
use Rattle.rex_reduce.proofs.reduction.causes_of.Goals as goal

pub returns-else-is_ahead : goal.returns-else-is_ahead
returns-else-is_ahead c =
    let none : IsAhead c.args.met.now.clocks c.args.met.now.befores c.args.own → ⊥ = λ a. let t = c.is_ahead.ensures.1 a in let f = c.if-is_ahead.false in cc in
    c.new.ensures ∙ sym (none_ahead c.args.first.now c.args.met.now.clocks c.args.met.now.befores c.args.own LANES none)
