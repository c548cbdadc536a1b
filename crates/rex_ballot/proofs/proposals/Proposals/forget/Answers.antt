use Rattle.std.proofs.Common.{◌≡◌, ltb, refl, rules}
use Rattle.std.specs.Prelude.{filter}
use Rattle.std.proofs.lemmas.Fn.{filter_same}
use Rattle.rex_ballot.specs.declared.proposal.Proposal.{Proposal}
use Rattle.rex_ballot.proofs.Lists.{rising_filter}
use Rattle.rex_ballot.proofs.proposals.Proposals.forget.Goals as goal

kept : (c : goal.After-retain) → c.retain.new.self.items ≡ filter (λ (p : Proposal). ltb c.args.instance p.instance) c.self.inside.items.items
kept c = filter_same _ (λ (p : Proposal). ltb c.args.instance p.instance) _ (λ x b f k. search rules) _ _ c.retain.ensures.filtered

pub invariant_of-self : goal.invariant_of-self
invariant_of-self c = rw (kept c) (rising_filter (λ (p : Proposal). ltb c.args.instance p.instance) 0 c.self.inside.items.items c.self.invariant)

pub returns : goal.returns
returns c = rw (← c.self.view_is, kept c) refl
