use Rattle.rex_log.proofs.Pasts.{message_longer}
use Rattle.rex_log.proofs.laws.messages_say_the_same.Goals as goal

pub returns : goal.returns
returns c = message_longer
