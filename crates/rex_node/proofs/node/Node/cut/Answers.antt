use Rattle.rex_node.proofs.Common.{length, ap, ◌∙◌, refl, option_copied, cut, begin, counts_for, ProposesPiece, ProposesPieceShort, Ends, IsStuck, here_of, whole, armed_with, rules}
use Rattle.rex_node.proofs.Ending.{HasCome, told, down, left, kept}
use Rattle.rex_node.proofs.OwnPieces.{cut_ends, cut_short, if_then}
use Rattle.rex_node.proofs.ProposedCuts.{on_error}
use Rattle.rex_cluster.proofs.Quiet.{cut_well}
use Rattle.rex_node.proofs.Told.{steps_tell}
use Rattle.rex_cluster.proofs.TellNone.{cut_tells_none}
use Rattle.rex_node.proofs.node.Node.cut.Given.{Over}
use Rattle.rex_node.proofs.node.Node.cut.Goals as goal

-- the call that the node did
come : (g : Over) (c : goal.After-finish g)
    → HasCome g.K.Keeper.records g.K.Keeper.append_gives g.K.Keeper.faults c.args.svc.now g.P.Past.past
    (cut c.args.svc.now c.args.self.now.seed c.args.self.now.nodes c.args.self.now.id (counts_for c.args.svc.now (here_of g.K.Keeper.records c.args.svc.now g.P.Past.past (whole g.P.Past.past c.args.self.now)) (option_copied c.args.limits)))
    (whole g.P.Past.past c.args.self.now) (whole g.P.Past.past c.propose_piece-end.new.self) (whole g.P.Past.past c.finish.new.self) c.len-before.result c.new-draft.result c.propose_piece-end.new.draft c.propose_piece-end.result c.finish.result
come g c = record {
  node = c.requires.node;
  up = c.in_ok-piece.ensures.can.up;
  many = c.len-before.ensures ∙ ap (λ z. length (g.K.Keeper.records z.keeper)) c.self.view_is;
  effects = c.new-draft.ensures.effects;
  sends = c.new-draft.ensures.sends;
  ends = if_then (ProposesPiece g.K.Keeper.records g.K.Keeper.append_gives g.K.Keeper.faults c.args.svc.now g.P.Past.past c.in_ok-piece.piece.cut.counts (whole g.P.Past.past c.args.self.now) (whole g.P.Past.past c.propose_piece-end.new.self) c.new-draft.result c.propose_piece-end.new.draft)
      (Ends g.K.Keeper.records g.K.Keeper.append_gives g.K.Keeper.faults c.args.svc.now g.P.Past.past
      (cut c.args.svc.now c.args.self.now.seed c.args.self.now.nodes c.args.self.now.id (counts_for c.args.svc.now (here_of g.K.Keeper.records c.args.svc.now g.P.Past.past (whole g.P.Past.past c.args.self.now)) (option_copied c.args.limits)))
      (whole g.P.Past.past c.args.self.now) (whole g.P.Past.past c.propose_piece-end.new.self) c.new-draft.result c.propose_piece-end.new.draft) c.propose_piece-end.result
      (λ going h. cut_ends g.K.Keeper.records g.K.Keeper.append_gives g.K.Keeper.faults c.args.svc.now g.P.Past.past c.requires.node c.in_ok-piece.piece
      (record { limits = option_copied c.args.limits; many = c.requires.limits; can = c.in_ok-piece.ensures.can }) c.declarations-service.ensures.sound
      c.new-draft.result c.propose_piece-end.new.draft going h)
      c.propose_piece-end.ensures.ends;
  stuck =
      on_error (ProposesPieceShort g.K.Keeper.records g.K.Keeper.append_gives g.K.Keeper.faults c.args.svc.now g.P.Past.past c.in_ok-piece.piece.cut.counts (whole g.P.Past.past c.args.self.now) (whole g.P.Past.past c.propose_piece-end.new.self) c.new-draft.result)
      (IsStuck g.K.Keeper.records g.K.Keeper.append_gives g.K.Keeper.faults c.args.svc.now g.P.Past.past
      (cut c.args.svc.now c.args.self.now.seed c.args.self.now.nodes c.args.self.now.id (counts_for c.args.svc.now (here_of g.K.Keeper.records c.args.svc.now g.P.Past.past (whole g.P.Past.past c.args.self.now)) (option_copied c.args.limits)))
      (whole g.P.Past.past c.args.self.now) (whole g.P.Past.past c.propose_piece-end.new.self) c.new-draft.result) c.propose_piece-end.result
      (cut_short g.K.Keeper.records g.K.Keeper.append_gives g.K.Keeper.faults c.args.svc.now g.P.Past.past c.requires.node c.in_ok-piece.piece
      (record { limits = option_copied c.args.limits; many = c.requires.limits; can = c.in_ok-piece.ensures.can }) c.declarations-service.ensures.sound
      )
      c.propose_piece-end.ensures.stuck;
  same = c.propose_piece-end.ensures.same;
  finishes = c.finish.ensures;
}

pub returns : goal.returns
returns g c = record {
  refused = search rules;
  told = told (come g c);
  tells = let counts = counts_for c.args.svc.now (here_of g.K.Keeper.records c.args.svc.now g.P.Past.past (whole g.P.Past.past c.args.self.now)) (option_copied c.args.limits) in
      let x = c.args.self.now in
      steps_tell g.K.Keeper.records g.K.Keeper.append_gives g.K.Keeper.faults c.args.svc.now g.P.Past.past (cut c.args.svc.now x.seed x.nodes x.id counts) (whole g.P.Past.past x) (whole g.P.Past.past c.finish.new.self) c.finish.result
      (λ f. cut_tells_none c.args.svc.now x.seed x.nodes x.id counts (armed_with f (begin (here_of g.K.Keeper.records c.args.svc.now g.P.Past.past (whole g.P.Past.past x)))) tt) (told (come g c));
  down = down (come g c)
      (cut_well c.args.svc.now c.args.self.now.seed c.args.self.now.nodes c.args.self.now.id (counts_for c.args.svc.now (here_of g.K.Keeper.records c.args.svc.now g.P.Past.past (whole g.P.Past.past c.args.self.now)) (option_copied c.args.limits)) (begin (here_of g.K.Keeper.records c.args.svc.now g.P.Past.past (whole g.P.Past.past c.args.self.now))) (record { armed = refl; quiet = λ id h. absurd h })).quiet;
  left = left _ _ (come g c);
  same = search rules;
  kept = kept (come g c);
}
