use Rattle.rex_node.proofs.Common.{sym, subst, IsSound, IsLimited}
use Rattle.rex_node.proofs.Bases.{start_limited, start_sound}
use Rattle.rex_node.proofs.node.Node.tell_base.Goals as goal

pub told_bytes-requires-clause-sound : goal.told_bytes-requires-clause-sound
told_bytes-requires-clause-sound g c =
    subst (λ x. IsSound c.args.svc.now x.start) (sym c.self.view_is)
    (start_sound g.K.Keeper.records g.P.Past.past (c.requires.node.up c.requires.up) c.declarations-service.ensures.sound c.declarations-service.ensures.checked)

pub told_bytes-requires-clause-limited : goal.told_bytes-requires-clause-limited
told_bytes-requires-clause-limited g c =
    subst (λ x. IsLimited x.start) (sym c.self.view_is)
    (start_limited g.K.Keeper.records g.P.Past.past (c.requires.node.up c.requires.up) c.declarations-service.ensures.sound c.declarations-service.ensures.checked)
