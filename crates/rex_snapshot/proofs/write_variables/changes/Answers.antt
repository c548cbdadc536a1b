use Rattle.std.proofs.Common.{◌≡◌, ◌+◌, ◌<◌, ◌≤◌, ◌++◌, pos, List, length, map, drop, get_or, ap, subst, ◌∙◌, arith, rules, FitsSigned, w64}
use Rattle.std.specs.List.{All, flat_map}
use Rattle.std.proofs.lemmas.Int.{to_z-of_z}
use Rattle.std.proofs.lemmas.List.{take_all}
use Rattle.std.proofs.lemmas.List.Elements.{All-more}
use Rattle.rex_syntax.specs.declared.service.Variable.{Variable}
use Rattle.rex_state.specs.Start.{first_of}
use Rattle.rex_snapshot.specs.Changes.{change_if, changes_from}
use Rattle.rex_snapshot.specs.Spelling.{change_bytes}
use Rattle.rex_snapshot.proofs.Changes.{noted_at, written_noted}
use Rattle.rex_snapshot.proofs.write_variables.changes.Goals as goal

pub loop-n-preserved : goal.loop-n-preserved
loop-n-preserved c =
    let variables = c.args.svc.now.variables in
    let values = c.args.values.now in
    let n = c.loop-n.n in
    let d = c.index-variables-n.result in
    let first : FitsSigned w64 (get_or c.as_slice-variables.result.now n d).first = search rules in
    let fits : FitsSigned w64 (get_or values n (pos 0)) = search rules in
    let are : c.as_slice-variables.result.now ≡ variables = c.as_slice-variables.ensures ∙ ap (λ s. s.variables) c.declarations.ensures.whole in
    let noted = simp to_z-of_z at c.in_ok-change_if.ensures in
    let one = change_if n (get_or variables n d).first (get_or values n (pos 0)) in
    let rest = changes_from (n + 1) (drop (n + 1) (map first_of variables)) (drop (n + 1) values) in
    let step : c.change_if.new.writer ≡ c.loop-n.writer ++ flat_map change_bytes one =
    noted ∙ ap (λ (vs : List Variable). c.loop-n.writer ++ flat_map change_bytes (change_if n (get_or vs n d).first (get_or values n (pos 0)))) are in
    let there : n < length variables = omega arith in
    record {
      spelled = written_noted c.loop-n.writer c.change_if.new.writer _ one rest _ step (noted_at n variables values d there (omega arith)) c.loop-n.invariant.spelled;
      typed = All-more (FitsSigned w64) values n (pos 0) (omega arith) c.loop-n.invariant.typed fits;
    }

pub returns-clause-typed : goal.returns-clause-typed
returns-clause-typed c =
    let end : length c.args.values.now ≤ c.loop-n.n = omega arith in
    subst (All (FitsSigned w64)) (take_all c.loop-n.n c.args.values.now end) c.loop-n.invariant.typed
