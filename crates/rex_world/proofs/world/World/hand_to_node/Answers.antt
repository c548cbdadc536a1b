use Rattle.rex_world.proofs.Common.{◌∙◌, ◌++◌, [], ◌∷◌, ap, refl, Delivered}
use Rattle.rex_world.proofs.Stepping.{on_ok}
use Rattle.rex_world.proofs.Handed.{hand_came, hand_node, marked_running, sent_handed, sent_on, sent_within}
use Rattle.rex_world.proofs.Sending.{kind_alike}
use Rattle.rex_world.proofs.world.World.hand_to_node.Goals as goal

pub mark-requires-clause-some : goal.mark-requires-clause-some
mark-requires-clause-some g c = (sent_within _ c.requires.sent).0

pub mark-requires-clause-there : goal.mark-requires-clause-there
mark-requires-clause-there g c = let l = (sent_within _ c.requires.sent).1 in sent_handed c.requires.running l

pub call-requires : goal.call-requires
call-requires g c =
    let running = marked_running _ c.mark.ensures c.requires.running in
    let sent = sent_on c.mark.ensures c.requires.sent in
    record { running = running; there = hand_node _ _ running _ _ sent; may = ((c.args.number, sent), refl) }

pub returns : goal.returns
returns g c = record {
  comes =
      on_ok _
      (hand_came _ _ c.requires.running _ _ c.requires.sent c.mark.ensures _
      (c.in_ok-push.ensures.items ∙ ap (λ k. c.args.told.now.effects.items ++ Delivered c.args.number k c.args.message.now.from c.args.message.now.to ∷ []) (c.kind_of.ensures ∙ kind_alike _ _)) refl)
      c.call.ensures.comes;
}
