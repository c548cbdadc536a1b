-- Messages whose numbers are in their ranges, and whose values aren't too long, have spellings.
use Rattle.std.proofs.Common.{◌≡◌, ℕ, ◌+◌, ◌≤◌, List, [], ◌∷◌, length, map, inl, inr, refl, sym, subst, arith}
use Rattle.std.specs.List.{All}
use Rattle.std.proofs.lemmas.List.Elements.{All-cons, All-nil}
use Rattle.rex_ballot.specs.Limits.{most_nodes}
use Rattle.rex_ballot.specs.declared.proposal.Proposal.{Proposal as Kept}
use Rattle.rex_ballot.specs.Ballot as ballot
use Rattle.rex_ballot.specs.Proposals as proposals
use Rattle.rex_msg.specs.declared.message.Content.{Content as Says}
use Rattle.rex_msg.specs.declared.message.Content.TheVariants as says
use Rattle.rex_msg.specs.declared.message.Message.{Message as Said}
use Rattle.rex_msg.specs.Spelling as message
use Rattle.rex_cluster.specs.Invariant.{IsIn}
use Rattle.rex_cluster.specs.Quorum.{IsNode}
use Rattle.rex_cluster.specs.Records.{Proposal}
use Rattle.rex_cluster.specs.Node.{Content}
use Rattle.rex_cluster.specs.Node.Content.{Accept, Chosen, Promise}
use Rattle.rex_cluster.specs.Ranges.{IsBallot, IsInstance, IsFirst, AreRising, ProposalFits, ContentFits, MessageFits}
use Rattle.rex_cluster.specs.Values.{Value, greatest_value}
use Rattle.rex_log.specs.Log.{first, proposal_in}
use Rattle.rex_log.specs.Messages.{content_in, message_in}
use Rattle.rex_log.proofs.Firsts.{first_length}

-- ---- ranges

node_fits : {n m : ℕ} → n ≤ most_nodes → IsNode n m → ballot.IsNode m
node_fits few l = record { first = omega (arith, l.0); last = omega (arith, l.1) }

ballot_fits : {b : ℕ} → IsBallot b → ballot.IsBallot b
ballot_fits h = record { first = omega (arith, h.some); last = omega (arith, h.few); node = record { first = omega (arith, h.node.0); last = omega (arith, h.node.1) } }

instance_fits : {i : ℕ} → IsInstance i → ballot.IsInstance i
instance_fits h = record { first = omega (arith, h.0); last = h.1 }

first_fits : {i : ℕ} → IsFirst i → message.IsFirst i
first_fits h = (omega (arith, h.0), h.1)

-- ---- proposals

rising_fit : (before : ℕ) {least : ℕ} (ps : List Kept) → least ≤ before + 1 → AreRising before (map proposal_in ps) → proposals.AreRising least ps
rising_fit before [] l h = tt
rising_fit before (p ∷ ps) l h = (omega (arith, h.0), rising_fit p.instance ps (omega arith) h.1)

-- what each has that is in the list
abbrev EachHas : (Proposal Value → Type 0) → List Kept → Type 0
EachHas P ps = (p : Proposal Value) → IsIn p (map proposal_in ps) → P p

proposals_fit : (ps : List Kept) → EachHas ProposalFits ps → EachHas (λ (p : Proposal Value). length p.value ≤ greatest_value) ps → All proposals.IsProposal ps
proposals_fit [] fits short = All-nil proposals.IsProposal
proposals_fit (p ∷ ps) fits short =
    let f : ProposalFits (proposal_in p) = fits (proposal_in p) (inl refl) in
    All-cons proposals.IsProposal p ps
    (record { instance = instance_fits f.instance; ballot = ballot_fits f.ballot; value = record { few = short (proposal_in p) (inl refl) } })
    (proposals_fit ps (λ q i. fits q (inr i)) (λ q i. short q (inr i)))

-- ---- messages

-- what a message's values may be: none is too long
pub record HasShort (c : Content Value) : Type 0 where
  pub promised : (b : ℕ) (ps : List (Proposal Value)) (p : Proposal Value) → c ≡ Promise b ps → IsIn p ps → length p.value ≤ greatest_value
  pub asked : (b i : ℕ) (v : Value) → c ≡ Accept b i v → length v ≤ greatest_value
  pub told : (i : ℕ) (v : Value) → c ≡ Chosen i v → length v ≤ greatest_value

-- a state that a message tells has no more bytes than a value may have
abbrev pub TellsShort : Says → Type 0
TellsShort c = (k : ℕ) (bytes : List ℕ) → c ≡ says.Snapshot k bytes → proposals.IsValue bytes

content_fits : (past : List Value) (c : Says) → ContentFits (content_in past c) → HasShort (content_in past c) → TellsShort c → message.ContentFits c
content_fits past (says.Prepare b first) h s tells = (ballot_fits h.0, first_fits h.1)
content_fits past (says.Promise b ps) h s tells = (ballot_fits h.0, record { each = proposals_fit ps h.2 (λ p i. s.promised b (map proposal_in ps) p refl i); rising = rising_fit 0 ps (omega arith) h.1 })
content_fits past (says.Accept b i v) h s tells = (ballot_fits h.0, instance_fits h.1, record { few = s.asked b i v refl })
content_fits past (says.Accepted b i) h s tells = (ballot_fits h.0, instance_fits h.1)
content_fits past (says.Chosen i v) h s tells = (instance_fits h, record { few = s.told i v refl })
content_fits past (says.Nack b p) h s tells = (ballot_fits h.0, h.1)
content_fits past (says.Ask first) h s tells = first_fits h
content_fits past (says.Snapshot k bytes) h s tells = (instance_fits (subst IsInstance (first_length k past) h), tells k bytes refl)

pub message_fits : (past : List Value) {n : ℕ} {m : Said} → n ≤ most_nodes → MessageFits n (message_in past m) → HasShort (content_in past m.content) → TellsShort m.content → message.IsMessage m
message_fits past {n} {m} few fits short tells = record {
  from = node_fits few fits.from;
  to = node_fits few fits.to;
  another = λ e. fits.apart (sym e);
  content = content_fits past m.content fits.content short tells;
}
