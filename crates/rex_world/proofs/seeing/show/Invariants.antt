use Rattle.rex_world.proofs.Common.{◌≡◌, drop, length, seen_by_releases, stamp_at, here_at}
use Rattle.rex_world.proofs.seeing.show.Given as goal

-- the other effects lead from here where all lead from the first numbers
abbrev pub invariant-loop-effect : goal.invariant-loop-effect
invariant-loop-effect g l = record {
  shown : seen_by_releases (stamp_at (here_at l.svc g.P.Past.past l.node)) (drop l.effect-index l.effects) l.seen ≡ seen_by_releases (stamp_at (here_at l.svc g.P.Past.past l.node)) l.effects l.initial.seen;
  clients : length l.seen ≡ 257;
}
