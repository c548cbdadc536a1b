use Rattle.rex_group.proofs.Groups.{hold_all_one, holds_one}
use Rattle.rex_group.proofs.laws.groups_hold_one_list.Goals as goal

pub returns-clause-each : goal.returns-clause-each
returns-clause-each c = holds_one

pub returns-clause-all : goal.returns-clause-all
returns-clause-all c = hold_all_one
