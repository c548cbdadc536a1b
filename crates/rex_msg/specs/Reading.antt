-- Reading a message from left to right, a field a line, with the first field that is absent, cut short or not allowed.
use Rattle.std.specs.Prelude.{◌==◌, ℕ, ◌+◌, ◌&&◌, Bool, not, nat_lt, nat_le, List, Result, Ok, if◌then◌else◌}
use Rattle.std.specs.Int.{w8, w16, w32, w64}
use Rattle.rex_ballot.specs.declared.proposal.Proposal.{Proposal}
use Rattle.rex_ballot.specs.Ballot.{is_node, is_ballot, is_instance}
use Rattle.rex_wire.specs.Ranges.{is_between}
use Rattle.rex_wire.specs.Reading.{Left, Reading, ◌>>=◌, number_at, allowed_at, value_at, list_at, whole}
use Rattle.rex_msg.specs.declared.message.Content.{Content}
use Rattle.rex_msg.specs.declared.message.Content.TheVariants.{Prepare, Promise, Accept, Accepted, Chosen, Nack, Ask, Snapshot}
use Rattle.rex_msg.specs.declared.message.Message.{Message}
use Rattle.rex_msg.specs.declared.limits.TheConstants.{GREATEST_FIRST}

-- ---- which numbers are allowed

-- a node, but not this one
abbrev pub is_other_node : ℕ → ℕ → Bool
is_other_node node n = is_node n && not (n == node)

-- an instance from this one on
abbrev pub is_instance_from : ℕ → ℕ → Bool
is_instance_from least n = nat_le least n && is_instance n

-- an instance, or the number after the last one
abbrev pub is_first : ℕ → Bool
is_first n = is_between 1 GREATEST_FIRST n

-- ---- proposals

-- a proposal of an instance from this one on
unfoldable pub proposal_at : ℕ → Left → Reading Proposal
proposal_at least l = do
  instance ← allowed_at w32 (is_instance_from least) l
  ballot ← allowed_at w64 is_ballot instance.1
  value ← value_at ballot.1
  Ok (record { instance = instance.0; ballot = ballot.0; value = value.0 }, value.1)

-- the least instance of a proposal that stands after this one
abbrev pub least_after : ℕ → Proposal → ℕ
least_after least p = p.instance + 1

-- so many proposals, whose instances rise
abbrev pub proposals_at : ℕ → Left → Reading (List Proposal)
proposals_at count l = list_at proposal_at least_after count 0 l

-- ---- what a message says, by its kind

unfoldable pub prepare_at : Left → Reading Content
prepare_at l = do
  ballot ← allowed_at w64 is_ballot l
  first ← allowed_at w32 is_first ballot.1
  Ok (Prepare ballot.0 first.0, first.1)

unfoldable pub promise_at : Left → Reading Content
promise_at l = do
  ballot ← allowed_at w64 is_ballot l
  count ← number_at w16 ballot.1
  accepted ← proposals_at count.0 count.1
  Ok (Promise ballot.0 accepted.0, accepted.1)

unfoldable pub accept_at : Left → Reading Content
accept_at l = do
  ballot ← allowed_at w64 is_ballot l
  instance ← allowed_at w32 is_instance ballot.1
  value ← value_at instance.1
  Ok (Accept ballot.0 instance.0 value.0, value.1)

unfoldable pub accepted_at : Left → Reading Content
accepted_at l = do
  ballot ← allowed_at w64 is_ballot l
  instance ← allowed_at w32 is_instance ballot.1
  Ok (Accepted ballot.0 instance.0, instance.1)

unfoldable pub chosen_at : Left → Reading Content
chosen_at l = do
  instance ← allowed_at w32 is_instance l
  value ← value_at instance.1
  Ok (Chosen instance.0 value.0, value.1)

unfoldable pub nack_at : Left → Reading Content
nack_at l = do
  ballot ← allowed_at w64 is_ballot l
  promised ← allowed_at w64 (nat_lt ballot.0) ballot.1
  Ok (Nack ballot.0 promised.0, promised.1)

unfoldable pub ask_at : Left → Reading Content
ask_at l = do
  first ← allowed_at w32 is_first l
  Ok (Ask first.0, first.1)

unfoldable pub snapshot_at : Left → Reading Content
snapshot_at l = do
  deltas ← allowed_at w32 is_instance l
  snapshot ← value_at deltas.1
  Ok (Snapshot deltas.0 snapshot.0, snapshot.1)

-- what follows the kind, the sender and the receiver
abbrev pub content_at : ℕ → Left → Reading Content
content_at kind l =
    if kind == 1 then prepare_at l
    else if kind == 2 then promise_at l
    else if kind == 3 then accept_at l
    else if kind == 4 then accepted_at l
    else if kind == 5 then chosen_at l
    else if kind == 6 then nack_at l
    else if kind == 7 then ask_at l
    else snapshot_at l

-- ---- a message

-- a message at the front of bytes
unfoldable pub message_at : Left → Reading Message
message_at l = do
  version ← allowed_at w8 (λ n. n == 1) l
  kind ← allowed_at w8 (is_between 1 8) version.1
  from ← allowed_at w8 is_node kind.1
  to ← allowed_at w8 (is_other_node from.0) from.1
  content ← content_at kind.0 to.1
  Ok (record { from = from.0; to = to.0; content = content.0 }, content.1)

-- a message that is all of the bytes, or the offset at which the first bad field begins; of bytes after a whole message that is its length
unfoldable pub message_in : List ℕ → Result Message ℕ
message_in bytes = whole message_at bytes
