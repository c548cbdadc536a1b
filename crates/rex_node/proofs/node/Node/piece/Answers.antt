use Rattle.rex_node.proofs.Common.{sym, subst, ◌∙◌, option_copied, below, greatest_cut, RefusesThen, counts_for, refusal_of_none, here_of, whole}
use Rattle.rex_node.proofs.Executing.{up_of}
use Rattle.rex_node.proofs.Dues.{can_make, refuses_node}
use Rattle.rex_node.proofs.node.Node.piece.Goals as goal

pub own_piece-requires-clause-spelling : goal.own_piece-requires-clause-spelling
own_piece-requires-clause-spelling g c =
    can_make c.requires.node (up_of _ _ (sym c.cut_refusal.ensures.why ∙ c.in-None.is)) _ c.requires.spelling

pub returns-in-None-clause-refused : goal.returns-in-None-clause-refused
returns-in-None-clause-refused g c =
    subst (λ o. RefusesThen o (refusal_of_none (below (greatest_cut (counts_for c.args.svc.now (here_of g.K.Keeper.records c.args.svc.now g.P.Past.past (whole g.P.Past.past c.args.self.now)) (option_copied c.args.limits)) (here_of g.K.Keeper.records c.args.svc.now g.P.Past.past (whole g.P.Past.past c.args.self.now)).work.live) (here_of g.K.Keeper.records c.args.svc.now g.P.Past.past (whole g.P.Past.past c.args.self.now)).work.live)) c.own_piece.result)
    (sym (sym c.cut_refusal.ensures.why ∙ c.in-None.is))
    (refuses_node c.requires.node (up_of _ _ (sym c.cut_refusal.ensures.why ∙ c.in-None.is)) _ _ c.own_piece.ensures)
