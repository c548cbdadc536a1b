use Rattle.rex_node.proofs.Common.{subst, ◌∙◌, IsRecalled, IsRestartFault, decoded_last}
use Rattle.std.proofs.lemmas.Result.{err_from_is_err_and}
use Rattle.rex_node.proofs.Deltas.{known_good}
use Rattle.rex_node.proofs.Reading.{only_memory}
use Rattle.rex_node.proofs.Restarts.{came_up, is_node, last_decoded}
use Rattle.rex_node.proofs.node.Node.start.Goals as goal

pub rise-requires-clause-deltas : goal.rise-requires-clause-deltas
rise-requires-clause-deltas g c = known_good _ c.in_ok-recalled.ensures.recalled.found

pub returns-clause-up : goal.returns-clause-up
returns-clause-up g c =
    let r = c.in_ok-recalled.recalled in
    let said = subst (λ n. IsRecalled c.args.svc.now (g.K.Keeper.records n.keeper) r.recovered r.start r.old_base) c.self.view_is c.in_ok-recalled.ensures.recalled in
    rw c.rise.ensures.risen (came_up _ _ c.args.self.now c.rise.new.self.reached (decoded_last r.decoded c.args.self.now.decoded) said)

pub returns-clause-kept : goal.returns-clause-kept
returns-clause-kept g c = λ was fit right forgotten.
    let r = c.in_ok-recalled.recalled in
    let said = subst (λ n. IsRecalled c.args.svc.now (g.K.Keeper.records n.keeper) r.recovered r.start r.old_base) c.self.view_is c.in_ok-recalled.ensures.recalled in
    rw c.rise.ensures.risen (is_node _ _ c.args.self.now _ _ said fit right forgotten c.requires.there c.requires.few c.rise.ensures.reached was
    (last_decoded _ r.decoded _ c.in_ok-recalled.ensures.decoded c.requires.decoded))

pub returns-in_err-recalled-clause-read : goal.returns-in_err-recalled-clause-read
returns-in_err-recalled-clause-read g c = λ all stated fit.
    let p = err_from_is_err_and c.from_residual.result c.from_residual.ensures.1 in
    let bad = subst (λ n. IsRestartFault c.args.svc.now (g.K.Keeper.records n.keeper) c.in_err-recalled.field-0.0) c.self.view_is c.in_err-recalled.ensures.fault in
    rw p.1 (p.2 ∙ only_memory _ _ _ _ bad all stated fit)
