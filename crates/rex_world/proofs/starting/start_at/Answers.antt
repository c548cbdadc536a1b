use Rattle.std.proofs.Common.{rules}
use Rattle.rex_world.proofs.Started.{is_member}
use Rattle.rex_world.proofs.starting.start_at.Goals as goal

pub come_back-requires : goal.come_back-requires
come_back-requires g c = record {
  member = is_member c.requires.member c.requires.runs c.in_ok-reopen.ensures.reopened c.in-Ok.ensures.up.keeper_is c.in-Ok.ensures.kept;
  up = search rules;
}
