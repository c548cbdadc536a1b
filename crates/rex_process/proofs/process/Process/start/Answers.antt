use Rattle.rex_process.proofs.Beginning.{has_come_up}
use Rattle.rex_process.proofs.process.Process.start.Goals as goal

pub replayed-requires : goal.replayed-requires
replayed-requires g c =
    has_come_up g.K.Keeper.records g.K.Keeper.faults c.args.svc.now c.args.id c.args.nodes c.args.seed c.args.keeper c.in-Ok.node c.in-Ok.ensures.up c.in_default.ensures c.in-Ok.ensures.kept c.requires.count
