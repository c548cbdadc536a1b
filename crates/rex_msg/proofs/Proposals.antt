-- Proposals: what is read is spelled so, and is read again.
use Rattle.std.proofs.Common.{◌≡◌, ℕ, ◌+◌, ◌<◌, ◌≤◌, ◌^◌, List, [], ◌∷◌, ◌++◌, length, arith}
use Rattle.std.specs.Int.{w32, w64, to_be_bytes}
use Rattle.std.specs.List.{flat_map, All}
use Rattle.std.proofs.lemmas.List.Elements.{All-nil, All-cons, All-head, All-tail}
use Rattle.rex_ballot.specs.declared.proposal.Proposal.{Proposal}
use Rattle.rex_ballot.specs.Ballot.{is_ballot}
use Rattle.rex_ballot.specs.Proposals.{IsProposal, AreRising}
use Rattle.rex_ballot.proofs.Numbers.{is_ballot-true, ballot-is, ballot-below}
use Rattle.rex_wire.specs.Reading.{Left, Reading, allowed_at, value_at}
use Rattle.rex_wire.specs.Spelling.{value_bytes}
use Rattle.rex_wire.proofs.Fields.{is_taken, Takes-then, IsSpelled, step, IsRead, IsRead-then, IsRead-last}
use Rattle.rex_wire.proofs.Numbers.{wide32, wide64, allowed_spelled, allowed_again}
use Rattle.rex_wire.proofs.Values.{value_spelled, value_again}
use Rattle.rex_wire.proofs.Repeated.{IsRepeated}
use Rattle.rex_wire.proofs.Lists.{alone, joined, list_in, list_repeated, AreEach, list_spelled, list_again}
use Rattle.rex_msg.specs.Spelling.{proposal_bytes, AreReported}
use Rattle.rex_msg.specs.Reading.{is_instance_from, least_after, proposal_at, proposals_at}
use Rattle.rex_msg.proofs.Allowed.{is_instance_from-true, instance_from-is}

-- a proposal of an instance from this one on
pub record IsProposalFrom (least : ℕ) (p : Proposal) : Type 0 where
  pub from : least ≤ p.instance
  pub is : IsProposal p

pub proposal_spelled : (least : ℕ) → IsSpelled (proposal_at least) proposal_bytes (IsProposalFrom least)
unfolding proposal_at
proposal_spelled least = record {
  takes = λ l x bytes e.
      let instance = step (allowed_spelled wide32 (is_instance_from least)) l _ x bytes e in
      let ballot = step (allowed_spelled wide64 is_ballot) instance.left _ x instance.takes.bytes instance.next in
      let value = step value_spelled ballot.left _ x ballot.takes.bytes ballot.next in
      let p : Proposal = record { instance = instance.value; ballot = ballot.value; value = value.value } in
      let t = Takes-then l instance.left value.left _ _ instance.takes (Takes-then instance.left ballot.left value.left _ _ ballot.takes value.takes) in
      let from = is_instance_from-true least instance.value instance.may in
      let is : IsProposalFrom least p = record { from = from.0; is = record { instance = from.1; ballot = is_ballot-true ballot.value ballot.may; value = record { few = value.may.few } } } in
      is_taken proposal_bytes (IsProposalFrom least) l (p, value.left) x value.next (t, is);
}

pub proposal_again : (least : ℕ) (p : Proposal) → IsProposalFrom least p → IsRead (proposal_at least) (proposal_bytes p) p
unfolding proposal_at
proposal_again least p h =
    let last = value_bytes p.value in
    IsRead-then (allowed_at w32 (is_instance_from least)) _ (to_be_bytes w32 p.instance) (to_be_bytes w64 p.ballot ++ last) p.instance p
    (allowed_again wide32 (is_instance_from least) p.instance (omega (arith, h.is.instance.last)) (instance_from-is least p.instance h.from h.is.instance))
    (IsRead-then (allowed_at w64 is_ballot) _ (to_be_bytes w64 p.ballot) last p.ballot p
    (allowed_again wide64 is_ballot p.ballot (ballot-below p.ballot h.is.ballot) (ballot-is p.ballot h.is.ballot))
    (IsRead-last value_at (λ value. let q : Proposal = record { instance = p.instance; ballot = p.ballot; value = value } in q) last p.value (value_again p.value h.is.value.few)))

-- ---- lists of proposals

abbrev pub proposals_in : ℕ → ℕ → Left → Reading (List Proposal)
proposals_in = list_in proposal_at least_after

pub proposals_repeated : IsRepeated proposal_at least_after [] alone joined proposals_in
proposals_repeated = list_repeated proposal_at least_after

each-to_all : (least : ℕ) (ps : List Proposal) → AreEach least_after IsProposalFrom least ps → All IsProposal ps
each-to_all least [] each = All-nil IsProposal
each-to_all least (p ∷ ps) each = All-cons IsProposal p ps each.0.is (each-to_all (p.instance + 1) ps each.1)

each-to_rising : (least : ℕ) (ps : List Proposal) → AreEach least_after IsProposalFrom least ps → AreRising least ps
each-to_rising least [] each = tt
each-to_rising least (p ∷ ps) each = (each.0.from, each-to_rising (p.instance + 1) ps each.1)

pub reported_from_each : (ps : List Proposal) → AreEach least_after IsProposalFrom 0 ps → AreReported ps
reported_from_each ps each = record { each = each-to_all 0 ps each; rising = each-to_rising 0 ps each }

pub each_from : (least : ℕ) (ps : List Proposal) → All IsProposal ps → AreRising least ps → AreEach least_after IsProposalFrom least ps
each_from least [] all rising = tt
each_from least (p ∷ ps) all rising =
    (record { from = rising.0; is = All-head IsProposal p ps all }, each_from (p.instance + 1) ps (All-tail IsProposal p ps all) rising.1)

-- instances that rise are few
room : (least : ℕ) (ps : List Proposal) → All IsProposal ps → AreRising least ps → least ≤ 65536 → length ps + least ≤ 65536
room least [] all rising le = omega arith
room least (p ∷ ps) all rising le =
    let first = All-head IsProposal p ps all in
    let rest = room (p.instance + 1) ps (All-tail IsProposal p ps all) rising.1 (omega (arith, first.instance.last)) in
    omega (arith, rising.0)

pub reported_few : (ps : List Proposal) → AreReported ps → length ps < 2 ^ 16
reported_few [] h = omega arith
reported_few (p ∷ ps) h =
    let first = All-head IsProposal p ps h.each in
    let rest = room (p.instance + 1) ps (All-tail IsProposal p ps h.each) h.rising.1 (omega (arith, first.instance.last)) in
    omega (arith, first.instance.first)

pub proposals_spelled : (n : ℕ) → IsSpelled (proposals_at n) (flat_map proposal_bytes) (λ ps. AreEach least_after IsProposalFrom 0 ps × (length ps ≡ n))
proposals_spelled n = list_spelled proposal_at least_after proposals_in proposals_repeated proposal_bytes IsProposalFrom proposal_spelled n 0

pub proposals_again : (ps : List Proposal) → AreReported ps → IsRead (proposals_at (length ps)) (flat_map proposal_bytes ps) ps
proposals_again ps h = list_again proposal_at least_after proposals_in proposals_repeated proposal_bytes IsProposalFrom proposal_again 0 ps (each_from 0 ps h.each h.rising)
