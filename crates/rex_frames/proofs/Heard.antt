-- The numbers of a message that may be heard are in their ranges.
use Rattle.std.proofs.Common.{◌≡◌, ℕ, ◌+◌, Bool, true, false, not, List, [], ◌∷◌, map, inl, inr, refl, sym, subst, arith}
use Rattle.std.specs.Prelude.{◌==◌, ◌&&◌}
use Rattle.std.specs.List.{All}
use Rattle.std.proofs.lemmas.Bool.{and_parts, eqb-true}
use Rattle.std.proofs.lemmas.List.Elements.{All-head, All-tail}
use Rattle.rex_ballot.specs.declared.proposal.Proposal.{Proposal as Kept}
use Rattle.rex_ballot.specs.Ballot as ballot
use Rattle.rex_ballot.specs.Proposals as proposals
use Rattle.rex_wire.proofs.Ranges.{is_between-true}
use Rattle.rex_msg.specs.declared.message.Message.{Message}
use Rattle.rex_msg.specs.declared.message.Content.{Content}
use Rattle.rex_msg.specs.declared.message.Content.TheVariants as says
use Rattle.rex_msg.specs.Spelling as message
use Rattle.rex_schedule.specs.Fits.{IsNode}
use Rattle.rex_cluster.specs.Records.{Proposal}
use Rattle.rex_cluster.specs.Invariant.{IsIn}
use Rattle.rex_cluster.specs.Ranges.{IsBallot, IsInstance, AreRising, ProposalFits, ContentFits}
use Rattle.rex_cluster.specs.Values.{Value}
use Rattle.rex_log.specs.Log.{proposal_in}
use Rattle.rex_log.specs.Messages.{content_in}
use Rattle.rex_frames.specs.Hearing.{is_another, tells_state, has_askers_ballot, is_for, HeardFits}

-- ---- ranges

ballot_fits : (b : ℕ) → ballot.IsBallot b → IsBallot b
ballot_fits b h = record { some = omega (arith, h.first); few = h.last; node = (omega (arith, h.node.first), h.node.last) }

instance_fits : (i : ℕ) → ballot.IsInstance i → IsInstance i
instance_fits i h = (omega (arith, h.first), h.last)

-- ---- proposals

rising_fit : (before : ℕ) (ps : List Kept) → proposals.AreRising (before + 1) ps → AreRising before (map proposal_in ps)
rising_fit before [] h = tt
rising_fit before (p ∷ ps) h = (omega (arith, h.0), rising_fit p.instance ps h.1)

all_rising_fit : (ps : List Kept) → All proposals.IsProposal ps → proposals.AreRising 0 ps → AreRising 0 (map proposal_in ps)
all_rising_fit [] each h = tt
all_rising_fit (p ∷ ps) each h =
    let first : proposals.IsProposal p = All-head proposals.IsProposal p ps each in
    (omega (arith, first.instance.first), rising_fit p.instance ps h.1)

proposals_fit : (ps : List Kept) → All proposals.IsProposal ps → (p : Proposal Value) → IsIn p (map proposal_in ps) → ProposalFits p
proposals_fit [] each p i = absurd i
proposals_fit (q ∷ ps) each p (inl e) =
    let h : proposals.IsProposal q = All-head proposals.IsProposal q ps each in
    let fits : ProposalFits (proposal_in q) = record { ballot = ballot_fits q.ballot h.ballot; instance = instance_fits q.instance h.instance } in
    subst ProposalFits (sym e) fits
proposals_fit (q ∷ ps) each p (inr i) = proposals_fit ps (All-tail proposals.IsProposal q ps each) p i

-- ---- messages

-- what a message says that tells no state
content_fits : (past : List Value) (c : Content) → tells_state c ≡ false → message.ContentFits c → ContentFits (content_in past c)
content_fits past (says.Prepare b first) n h = (ballot_fits b h.0, (omega (arith, h.1.0), h.1.1))
content_fits past (says.Promise b ps) n h = (ballot_fits b h.0, all_rising_fit ps h.1.each h.1.rising, proposals_fit ps h.1.each)
content_fits past (says.Accept b i v) n h = (ballot_fits b h.0, instance_fits i h.1)
content_fits past (says.Accepted b i) n h = (ballot_fits b h.0, instance_fits i h.1)
content_fits past (says.Chosen i v) n h = instance_fits i h.0
content_fits past (says.Nack b p) n h = (ballot_fits b h.0, h.1)
content_fits past (says.Ask first) n h = (omega (arith, h.0), h.1)
content_fits past (says.Snapshot k bytes) n h = absurd cc

-- what each part of the test says
record Parts (id nodes : ℕ) (m : Message) : Type 0 where
  to : m.to ≡ id
  from : IsNode nodes m.from
  stateless : tells_state m.content ≡ false
  asker : has_askers_ballot m.from m.to m.content ≡ true

not_true : (b : Bool) → not b ≡ true → b ≡ false
not_true true e = absurd cc
not_true false e = refl

parts : (id nodes : ℕ) (m : Message) → is_for id nodes m ≡ true → Parts id nodes m
parts id nodes m h =
    let last = and_parts (m.to == id && is_another id nodes m.from && not (tells_state m.content)) (has_askers_ballot m.from m.to m.content) h in
    let state = and_parts (m.to == id && is_another id nodes m.from) (not (tells_state m.content)) last.0 in
    let first = and_parts (m.to == id) (is_another id nodes m.from) state.0 in
    let range = is_between-true 1 nodes m.from (and_parts _ _ first.1).0 in
    record { to = eqb-true _ _ first.0; from = (omega (arith, range.0), range.1); stateless = not_true _ state.1; asker = last.1 }

pub heard_fits : (id nodes : ℕ) (m : Message) → IsNode nodes id → message.HasSpelling m → is_for id nodes m ≡ true → HeardFits id nodes m
heard_fits id nodes m node has h =
    let p = parts id nodes m h in
    record {
      here = p.to;
      stateless = p.stateless;
      asker = p.asker;
      spelling = has;
      numbers = λ past. record {
        from = p.from;
        to = subst (IsNode nodes) (sym p.to) node;
        apart = λ e. has.message.another (sym e);
        content = content_fits past m.content p.stateless has.message.content;
      };
    }
