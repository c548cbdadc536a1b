use Rattle.rex_node.proofs.Common.{ap, sym, ◌∙◌, bad_at}
use Rattle.rex_node.proofs.Held.{none_bad, not_bad, saved_so}
use Rattle.rex_node.proofs.restart.recall_with.Goals as goal

pub unreachable-requires : goal.unreachable-requires
unreachable-requires g c =
    let service = c.args.svc.now in
    let kept = g.K.Keeper.records c.args.keeper.now in
    let found = none_bad service c.requires.read
    (c.bad_place.ensures service c.requires.read.rs c.requires.read.spelled c.requires.read.is (c.bad_at.ensures ∙ ap bad_at c.in_ok-saved.ensures)) c.in_default.is in
    not_bad service c.requires.read c.in_default-saved.field-0 found (sym c.in_default-saved.is ∙ c.in_ok-saved.ensures)

pub returns-clause-recalled : goal.returns-clause-recalled
returns-clause-recalled g c =
    let service = c.args.svc.now in
    let kept = g.K.Keeper.records c.args.keeper.now in
    let found = none_bad service c.requires.read
    (c.bad_place.ensures service c.requires.read.rs c.requires.read.spelled c.requires.read.is (c.bad_at.ensures ∙ ap bad_at c.in_ok-saved.ensures)) c.in_default.is in
    record {
      found = found;
      start_is = saved_so service _ (sym c.in-Ok.is ∙ c.in_ok-saved.ensures);
      old_is = c.ends_old-old_base.ensures found.read.rs found.read.spelled;
    }

pub returns-clause-decoded : goal.returns-clause-decoded
returns-clause-decoded g c = c.in_ok-anew.ensures c.args.svc.now (saved_so _ _ (sym c.in-Ok.is ∙ c.in_ok-saved.ensures))
