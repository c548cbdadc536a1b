use Rattle.rex_node.proofs.Common.{arith, ◌≡◌, ℕ, ◌-◌, ◌+◌, ◌<◌, suc, true, length, sym, ap, subst, ◌∙◌, replies_to, events_of}
use Rattle.std.proofs.Common.{slice_index_or}
use Rattle.rex_node.proofs.Stamping.{IsSilent, found_last}
use Rattle.rex_node.proofs.replies.last_held.Goals as goal

pub returns-then-branch : goal.returns-then-branch
returns-then-branch c =
    let i : ℕ = length c.args.known.now.values - 1 - c.loop-back.back in
    let many : length c.values-values.result.now ≡ length c.args.known.now.values = ap (λ vs. length vs) c.values-values.ensures in
    let test = c.loop-back-test.true in
    let there : c.loop-back.back < length c.args.known.now.values = omega (arith, test, many) in
    let some : replies_to c.args.client (events_of (slice_index_or c.args.known.now.values i c.index-values-count.result)) ≡ true =
    ap (λ vs. replies_to c.args.client (events_of (slice_index_or vs (length vs - 1 - c.loop-back.back) c.index-values-count.result))) (sym c.values-values.ensures)
    ∙ ap (λ v. replies_to c.args.client (events_of v)) (sym c.index-values-count.is)
    ∙ ap (λ v. replies_to c.args.client (events_of v)) (sym c.as_slice.ensures)
    ∙ sym c.in_ok-has_reply.ensures ∙ c.if-branch.true in
    (let known = c.known-last.ensures.known in let n : c.known-last.result - c.loop-back.back ≡ suc (c.args.known.now.offset + i) = omega (arith, there, known) in n)
    ∙ found_last _ _ _ _ (omega (arith, there)) some
    (subst (IsSilent c.args.client c.args.known.now.offset c.args.known.now.values) (let n : length c.args.known.now.values - c.loop-back.back ≡ suc i = omega (arith, there) in n) c.loop-back.invariant)
