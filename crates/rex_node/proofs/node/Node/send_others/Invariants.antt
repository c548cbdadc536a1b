use Rattle.rex_node.proofs.Common.{◌≡◌, ◌++◌, List, Message, others, Value, content_in, message_in, Effect}
use Rattle.std.proofs.Common.{map}
use Rattle.rex_node.proofs.node.Node.send_others.Given as goal

pub record Sent (sends had more : List (Message Value)) (effects told : List Effect) : Type 0 where
  pub sends_are : sends ≡ had ++ more
  pub effects_are : effects ≡ told

-- the message went to the nodes up to this one
abbrev pub invariant-loop-before : goal.invariant-loop-before
invariant-loop-before g l = Sent (map (message_in g.P.Past.past) l.draft.sends.items) (map (message_in g.P.Past.past) l.initial.draft.sends.items) (others l.before l.self.id (content_in g.P.Past.past l.content)) l.draft.effects.items l.initial.draft.effects.items
