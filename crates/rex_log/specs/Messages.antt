-- Messages as the cluster's model has them.
use Rattle.std.specs.Prelude.{◌≤◌, List, length, map}
use Rattle.rex_msg.specs.declared.message.Message.{Message}
use Rattle.rex_msg.specs.declared.message.Content.{Content}
use Rattle.rex_msg.specs.declared.message.Content.TheVariants as sent
use Rattle.rex_cluster.specs.Node as model
use Rattle.rex_cluster.specs.Node.Content.{Prepare, Promise, Accept, Accepted, Chosen, Nack, Ask, Snapshot}
use Rattle.rex_cluster.specs.Values.{Value}
use Rattle.rex_log.specs.Log.{first, proposal_in}

-- a state is told as the one after the first values of the past
abbrev pub content_in : List Value → Content → model.Content Value
content_in past (sent.Prepare b i) = Prepare b i
content_in past (sent.Promise b ps) = Promise b (map proposal_in ps)
content_in past (sent.Accept b i v) = Accept b i v
content_in past (sent.Accepted b i) = Accepted b i
content_in past (sent.Chosen i v) = Chosen i v
content_in past (sent.Nack b p) = Nack b p
content_in past (sent.Ask i) = Ask i
content_in past (sent.Snapshot k bytes) = Snapshot (first k past)

abbrev pub message_in : List Value → Message → model.Message Value
message_in past m = record { from = m.from; to = m.to; content = content_in past m.content }

-- the past has the values of a state that is told
abbrev pub IsTold : List Value → Content → Type 0
IsTold past (sent.Snapshot k bytes) = k ≤ length past
IsTold past _ = Unit {0}
