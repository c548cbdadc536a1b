use Rattle.std.proofs.Common.{◌∙◌, ap, ltb, rules}
use Rattle.std.specs.Prelude.{filter, List}
use Rattle.std.proofs.lemmas.Fn.{filter_same}
use Rattle.rex_ballot.specs.declared.proposal.Proposal.{Proposal}
use Rattle.rex_durable.proofs.latest.above.Goals as goal

pub returns : goal.returns
returns c =
    let late = λ (p : Proposal). ltb c.args.instance p.instance in
    c.from_vec.ensures ∙ (filter_same _ late _ (λ x b f k. search rules) _ _ c.retain.ensures.filtered ∙ ap (λ (ps : List Proposal). filter late ps) c.into_vec-proposals.ensures)
