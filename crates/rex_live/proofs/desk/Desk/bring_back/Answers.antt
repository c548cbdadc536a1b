use Rattle.rex_live.proofs.Kept.{desk_run}
use Rattle.rex_live.proofs.desk.Desk.bring_back.Goals as goal

-- the lines are run, or what they lead to is taken
pub invariant_of-self : goal.invariant_of-self
invariant_of-self g c =
    let d = c.declarations-service.ensures in
    desk_run _ c.args.svc.now _ _ _ _ _ c.self.inside.kept c.bring_back.new.kept _ _ c.args.lane c.requires.service d.sound c.self.invariant c.if-self-lane.true c.requires.there c.bring_back.ensures
