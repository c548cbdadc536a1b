use Rattle.rex_node.proofs.Common.{sym}
use Rattle.rex_cluster.proofs.Silent.{value_silent}
use Rattle.rex_node.proofs.replies.has_reply.Goals as goal

pub returns-then-not-may_reply : goal.returns-then-not-may_reply
returns-then-not-may_reply c = sym (value_silent _ (c.may_reply.ensures.silent c.if-not-may_reply.true))
