-- A promise that is taken back.
use Rattle.std.proofs.Common.{◌≡◌, ℕ, ◌-◌, List, [], ◌∷◌, ◌++◌, length, take, None, ap, ◌∙◌, arith, length-append}
use Rattle.std.proofs.Math.Seq.{take-append_seam}
use Rattle.rex_ballot.specs.declared.proposal.Proposal.{Proposal}
use Rattle.rex_paxos.specs.Proposer.{ProposerValue, promise_refusal, promise_counted, with_promise, without_last}

front_of : {A : Type 0} (xs ys : List A) (n : ℕ) → n ≡ length ys → take (length (xs ++ ys) - n) (xs ++ ys) ≡ xs
front_of xs ys n e = let many : length (xs ++ ys) - n ≡ length xs = omega (arith, length-append xs ys, e) in rw many (take-append_seam xs ys)

-- a promise that was counted and is taken back leaves the proposer as it was
pub taken_back : (p : ProposerValue) (ballot from : ℕ) (reported : List Proposal) → promise_refusal p ballot from ≡ None → without_last (promise_counted p ballot from reported) (length reported) ≡ p
taken_back p ballot from reported e =
    ap (λ refusal. without_last (with_promise refusal p from reported) (length reported)) e
    ∙ ap (λ (nodes : List ℕ). record p { promised = nodes; reported = take (length (p.reported ++ reported) - length reported) (p.reported ++ reported) }) (front_of p.promised (from ∷ []) 1 (omega arith))
    ∙ ap (λ (ps : List Proposal). record p { reported = ps }) (front_of p.reported reported (length reported) (omega arith))
