-- Which messages are for a node, and what holds of those.
use Rattle.std.specs.Prelude.{◌≡◌, ◌==◌, ◌&&◌, ℕ, Bool, true, false, not, List, Option, Some, None, Result, Ok, Err, if◌then◌else◌}
use Rattle.rex_wire.specs.Ranges.{is_between}
use Rattle.rex_ballot.specs.Ballot.{node_of}
use Rattle.rex_msg.specs.declared.message.Content.{Content}
use Rattle.rex_msg.specs.declared.message.Content.TheVariants.{Prepare, Promise, Accept, Accepted, Nack, Snapshot}
use Rattle.rex_msg.specs.declared.message.Message.{Message}
use Rattle.rex_msg.specs.Reading as bytes
use Rattle.rex_msg.specs.Spelling.{HasSpelling}
use Rattle.rex_cluster.specs.Ranges.{MessageFits}
use Rattle.rex_cluster.specs.Values.{Value}
use Rattle.rex_log.specs.Messages.{message_in}

-- a node is another one of so many
abbrev pub is_another : ℕ → ℕ → ℕ → Bool
is_another id nodes node = is_between 1 nodes node && not (node == id)

-- a content tells a state
abbrev pub tells_state : Content → Bool
tells_state (Snapshot deltas snapshot) = true
tells_state _ = false

-- from one node to another: who asks in a ballot does so in one of its own, and who answers does so in one of the node that asked
abbrev pub has_askers_ballot : ℕ → ℕ → Content → Bool
has_askers_ballot from to (Prepare ballot first) = node_of ballot == from
has_askers_ballot from to (Promise ballot accepted) = node_of ballot == to
has_askers_ballot from to (Accept ballot instance value) = node_of ballot == from
has_askers_ballot from to (Accepted ballot instance) = node_of ballot == to
has_askers_ballot from to (Nack ballot promised) = node_of ballot == to
has_askers_ballot from to _ = true

-- a message is for a node: it goes there from another one of so many, tells no state, and has the ballot of the node that asked
abbrev pub is_for : ℕ → ℕ → Message → Bool
is_for id nodes m = m.to == id && is_another id nodes m.from && not (tells_state m.content) && has_askers_ballot m.from m.to m.content

-- a message that was read, where it is for the node
abbrev pub heard_of : ℕ → ℕ → Result Message ℕ → Option Message
heard_of id nodes (Ok m) = if is_for id nodes m then Some m else None
heard_of id nodes (Err at) = None

-- the message that bytes spell, where it is for the node
abbrev pub heard_in : ℕ → ℕ → List ℕ → Option Message
heard_in id nodes b = heard_of id nodes (bytes.message_in b)

-- a message goes to this node, tells no state, has the ballot of the node that asked, and has a spelling; and beside any past its numbers are in their ranges in the cluster's model
pub record HeardFits (id nodes : ℕ) (m : Message) : Type 0 where
  pub here : m.to ≡ id
  pub stateless : tells_state m.content ≡ false
  pub asker : has_askers_ballot m.from m.to m.content ≡ true
  pub spelling : HasSpelling m
  pub numbers : (past : List Value) → MessageFits nodes (message_in past m)
