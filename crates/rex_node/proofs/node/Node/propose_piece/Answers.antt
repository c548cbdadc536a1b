use Rattle.rex_node.proofs.Common.{rules, ap, sym, subst, ◌∙◌, ProposesCut, ProposesPiece, ProposesPieceShort, NodeValue, whole}
use Rattle.std.proofs.Common.{IfOk, OnErr}
use Rattle.rex_node.proofs.OwnPieces.{if_error, if_then, on_ok, own_cut, own_fits, piece_ends, piece_short}
use Rattle.rex_node.proofs.ProposedCuts.{on_error}
use Rattle.rex_node.proofs.node.Node.propose_piece.Goals as goal
use Rattle.rex_node.proofs.node.Node.propose_piece.Goals.{then-is_err, else-is_err}

pub propose_value-end-requires-clause-cut : goal.propose_value-end-requires-clause-cut
propose_value-end-requires-clause-cut g c =
    own_cut c.requires.node c.requires.can c.declarations-service.ensures.sound c.replace_cut-before.ensures.replaced c.as_slice.ensures

pub propose_value-end-requires-clause-fits : goal.propose_value-end-requires-clause-fits
propose_value-end-requires-clause-fits g c =
    own_fits c.requires.node c.requires.can c.declarations-service.ensures.sound
    (ap (λ z. z.known) c.replace_cut-before.ensures.replaced) c.as_slice.ensures

pub returns : goal.returns
returns g c = record {
  ends = let End = λ (y : NodeValue _). ProposesPiece g.K.Keeper.records g.K.Keeper.append_gives g.K.Keeper.faults c.args.svc.now g.P.Past.past c.args.piece.cut.counts (whole g.P.Past.past c.args.self.now) y c.args.draft.now c.propose_value-end.new.draft in
      elim c.if-is_err.branch [
        | then-is_err w ↦ if_error (End (whole g.P.Past.past c.if-is_err.self)) c.propose_value-end.result (sym c.is_err.ensures.value ∙ w.if-is_err.true)
        | else-is_err w ↦
            subst (λ (y : NodeValue _). IfOk c.propose_value-end.result (End (whole g.P.Past.past y))) (sym w.self-is)
            (if_then (ProposesCut g.K.Keeper.records g.K.Keeper.append_gives g.K.Keeper.faults c.args.svc.now g.P.Past.past c.args.piece.events c.as_slice.result.now (whole g.P.Past.past c.replace_cut-before.new.self) (whole g.P.Past.past c.propose_value-end.new.self) c.args.draft.now c.propose_value-end.new.draft)
            (End (whole g.P.Past.past c.propose_value-end.new.self)) c.propose_value-end.result
            (λ going h. piece_ends c.requires.node c.requires.can g.K.Keeper.append_gives g.K.Keeper.faults (whole g.P.Past.past c.propose_value-end.new.self) c.args.draft.now c.propose_value-end.new.draft
            c.replace_cut-before.ensures.replaced c.as_slice.ensures going h) c.propose_value-end.ensures.ends)
      ];
  stuck = let Short = λ (y : NodeValue _). ProposesPieceShort g.K.Keeper.records g.K.Keeper.append_gives g.K.Keeper.faults c.args.svc.now g.P.Past.past c.args.piece.cut.counts (whole g.P.Past.past c.args.self.now) y c.args.draft.now in
      elim c.if-is_err.branch [
        | then-is_err w ↦
            subst (λ (y : NodeValue _). OnErr c.propose_value-end.result (Short (whole g.P.Past.past y))) (sym w.self-is)
            (on_error _
            _ _
            (piece_short c.requires.node c.requires.can _ _ _ _ c.propose_value-end.new.draft
            c.replace_cut-before.ensures.replaced c.as_slice.ensures c.replace_cut-before.ensures.before w.replace_cut.ensures.replaced)
            c.propose_value-end.ensures.stuck)
        | else-is_err w ↦ on_ok _ _ (sym c.is_err.ensures.value ∙ w.if-is_err.false)
      ];
  same = search rules;
}
