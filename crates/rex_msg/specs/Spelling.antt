-- Which messages have a spelling, and what it is.
use Rattle.std.specs.Prelude.{◌≢◌, ℕ, ◌<◌, ◌^◌, List, ◌++◌, length}
use Rattle.std.specs.List.{All, flat_map}
use Rattle.std.specs.Int.{w16, w32, w64, to_be_bytes}
use Rattle.rex_ballot.specs.declared.proposal.Proposal.{Proposal}
use Rattle.rex_ballot.specs.Ballot.{IsNode, IsBallot, IsInstance}
use Rattle.rex_ballot.specs.Proposals.{IsValue, IsProposal, AreRising}
use Rattle.rex_wire.specs.Ranges.{IsBetween}
use Rattle.rex_wire.specs.Spelling.{byte, value_bytes}
use Rattle.rex_msg.specs.declared.message.Content.{Content}
use Rattle.rex_msg.specs.declared.message.Content.TheVariants.{Prepare, Promise, Accept, Accepted, Chosen, Nack, Ask, Snapshot}
use Rattle.rex_msg.specs.declared.message.Message.{Message}
use Rattle.rex_msg.specs.declared.limits.TheConstants.{GREATEST_FIRST}

-- ---- spelling

-- a proposal that was accepted
abbrev pub proposal_bytes : Proposal → List ℕ
proposal_bytes p = to_be_bytes w32 p.instance ++ to_be_bytes w64 p.ballot ++ value_bytes p.value

-- the number of a content's kind
abbrev pub kind_of : Content → ℕ
kind_of (Prepare ballot first) = 1
kind_of (Promise ballot accepted) = 2
kind_of (Accept ballot instance value) = 3
kind_of (Accepted ballot instance) = 4
kind_of (Chosen instance value) = 5
kind_of (Nack ballot promised) = 6
kind_of (Ask first) = 7
kind_of (Snapshot deltas snapshot) = 8

-- what follows the kind, the sender and the receiver
abbrev pub content_bytes : Content → List ℕ
content_bytes (Prepare ballot first) = to_be_bytes w64 ballot ++ to_be_bytes w32 first
content_bytes (Promise ballot accepted) = to_be_bytes w64 ballot ++ to_be_bytes w16 (length accepted) ++ flat_map proposal_bytes accepted
content_bytes (Accept ballot instance value) = to_be_bytes w64 ballot ++ to_be_bytes w32 instance ++ value_bytes value
content_bytes (Accepted ballot instance) = to_be_bytes w64 ballot ++ to_be_bytes w32 instance
content_bytes (Chosen instance value) = to_be_bytes w32 instance ++ value_bytes value
content_bytes (Nack ballot promised) = to_be_bytes w64 ballot ++ to_be_bytes w64 promised
content_bytes (Ask first) = to_be_bytes w32 first
content_bytes (Snapshot deltas snapshot) = to_be_bytes w32 deltas ++ value_bytes snapshot

-- version 1, the kind, the sender, the receiver, and what the message says
abbrev pub spelling_of : Message → List ℕ
spelling_of m = byte 1 ++ byte (kind_of m.content) ++ byte m.from ++ byte m.to ++ content_bytes m.content

-- ---- ranges

-- the first instance that is asked for is one that there can be, or the one after the last
abbrev pub IsFirst : ℕ → Type 0
IsFirst first = IsBetween 1 GREATEST_FIRST first

-- what a promise reports: proposals, rising by instance
pub record AreReported (accepted : List Proposal) : Type 0 where
  pub each : All IsProposal accepted
  pub rising : AreRising 0 accepted

-- what a message says is in its ranges; the promise that a ballot is refused for is any number above it
abbrev pub ContentFits : Content → Type 0
ContentFits (Prepare ballot first) = IsBallot ballot × IsFirst first
ContentFits (Promise ballot accepted) = IsBallot ballot × AreReported accepted
ContentFits (Accept ballot instance value) = IsBallot ballot × IsInstance instance × IsValue value
ContentFits (Accepted ballot instance) = IsBallot ballot × IsInstance instance
ContentFits (Chosen instance value) = IsInstance instance × IsValue value
ContentFits (Nack ballot promised) = IsBallot ballot × (ballot < promised)
ContentFits (Ask first) = IsFirst first
ContentFits (Snapshot deltas snapshot) = IsInstance deltas × IsValue snapshot

-- a message from one node to another, with all in its ranges
pub record IsMessage (m : Message) : Type 0 where
  pub from : IsNode m.from
  pub to : IsNode m.to
  pub another : m.to ≢ m.from
  pub content : ContentFits m.content

-- ---- numbers that their types keep

-- a promise is a number of its type
abbrev pub IsTyped : Content → Type 0
IsTyped (Nack ballot promised) = promised < 2 ^ 64
IsTyped _ = Unit {0}

-- a message that has a spelling
pub record HasSpelling (m : Message) : Type 0 where
  pub message : IsMessage m
  pub typed : IsTyped m.content
