use Rattle.std.proofs.Common.{◌≡◌, ◌-◌, ℕ, List, max, set, sym, ap, ◌∙◌, subst, arith, rules}
use Rattle.rex_event.specs.Cuts.{count_at}
use Rattle.rex_clocks.specs.Counts.{unticked, merged}
use Rattle.rex_clocks.specs.First.{HasFirst}
use Rattle.rex_clocks.proofs.Counts.{merged_unticked}
use Rattle.rex_clocks.proofs.First.{first_merged, first_unticked}
use Rattle.rex_clocks.proofs.clock.Clock.merge_before.Goals as goal

pub invariant_of-self : goal.invariant_of-self
invariant_of-self c =
    let a = c.self.inside.counts in
    let b = c.other.inside.counts in
    let m : c.max-self-inside.result ≡ max c.self.inside.lanes c.other.inside.lanes = search rules in
    let r : c.max-count.result ≡ max (count_at a c.args.lane) (count_at b c.args.lane - 1) = search rules in
    let e = ap (λ (x : List ℕ). set x c.args.lane c.max-count.result) c.merge_counts.ensures ∙ ap (set (merged a b) c.args.lane) r ∙ merged_unticked a b c.args.lane (omega (arith, c.requires, c.other.told)) in
    let h = first_merged a (unticked b c.args.lane) c.self.inside.lanes c.other.inside.lanes c.self.invariant (first_unticked b c.other.inside.lanes c.args.lane c.other.invariant) in
    subst (λ (lanes : ℕ). HasFirst lanes (set c.merge_counts.new.counts c.args.lane c.max-count.result)) (sym m) (subst (HasFirst (max c.self.inside.lanes c.other.inside.lanes)) (sym e) h)

pub returns : goal.returns
returns c =
    let a = c.self.inside.counts in
    let b = c.other.inside.counts in
    let r : c.max-count.result ≡ max (count_at a c.args.lane) (count_at b c.args.lane - 1) = search rules in
    let e = ap (λ (x : List ℕ). set x c.args.lane c.max-count.result) c.merge_counts.ensures ∙ ap (set (merged a b) c.args.lane) r ∙ merged_unticked a b c.args.lane (omega (arith, c.requires, c.other.told)) in
    rw (← c.self.view_is) (rw (← c.other.view_is) e)
