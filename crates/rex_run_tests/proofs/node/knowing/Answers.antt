use Rattle.std.proofs.Common.{rules, ◌≡◌, true, [], ◌∷◌, subst, sym}
use Rattle.rex_event.specs.declared.event.Kind.TheVariants.{Begin}
use Rattle.rex_state.specs.Start.{start_of}
use Rattle.rex_state.specs.Machine.{lane_of, enabled}
use Rattle.rex_run_tests.proofs.Knowing.{SaysAll, kept, says_all}
use Rattle.rex_run_tests.proofs.node.knowing.Goals as goal

pub returns : goal.returns
returns g c =
    let lanes : c.args.svc.now.lanes ≡ 1 = search rules in
    let done : (lane_of (start_of c.args.svc.now) 0).done ≡ 0 = search rules in
    let can : enabled c.args.svc.now 0 (Begin 1 1 0 []) (start_of c.args.svc.now) ≡ true = search rules in
    let lists : c.append.new.self ≡ kept ∷ [] = search rules in
    let says : SaysAll c.args.svc.now c.append.new.self = subst (SaysAll c.args.svc.now) (sym lists) (says_all c.args.svc.now lanes done can) in
    c.in-Ok.ensures.kept says.fit says.base says.forgotten
