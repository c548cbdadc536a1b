use Rattle.std.proofs.Common.{◌≡◌, ◌+◌, ◌<◌, pos, List, length, map, drop, get_or, ap, ◌∙◌, arith, rules, length-append, FitsSigned, w64}
use Rattle.std.proofs.lemmas.Int.{to_z-of_z}
use Rattle.rex_syntax.specs.declared.service.Variable.{Variable}
use Rattle.rex_state.specs.Start.{first_of}
use Rattle.rex_snapshot.specs.Changes.{change_if, changes_from}
use Rattle.rex_snapshot.proofs.Changes.{noted_at, few_if}
use Rattle.rex_snapshot.proofs.write_variables.change_count.Goals as goal

pub loop-n-preserved : goal.loop-n-preserved
loop-n-preserved c =
    let variables = c.args.svc.now.variables in
    let values = c.args.values.now in
    let n = c.loop-n.n in
    let d = c.index-variables-n.result in
    let first : FitsSigned w64 (get_or c.as_slice-variables.result.now n d).first = search rules in
    let fits : FitsSigned w64 (get_or values n (pos 0)) = search rules in
    let are : c.as_slice-variables.result.now ≡ variables = c.as_slice-variables.ensures ∙ ap (λ s. s.variables) c.declarations.ensures.whole in
    let counted = simp to_z-of_z at c.count_if-count.ensures in
    let one = change_if n (get_or variables n d).first (get_or values n (pos 0)) in
    let rest = changes_from (n + 1) (drop (n + 1) (map first_of variables)) (drop (n + 1) values) in
    let step : c.count_if-count.result ≡ length one = counted ∙ ap (λ (vs : List Variable). length (change_if n (get_or vs n d).first (get_or values n (pos 0)))) are in
    let there : n < length variables = omega arith in
    let on = ap length (noted_at n variables values d there (omega arith)) ∙ length-append one rest in
    record {
      so_far = omega (arith, c.loop-n.invariant.so_far, on, step);
      few = omega (arith, c.loop-n.invariant.few, step, few_if n (get_or variables n d).first (get_or values n (pos 0)));
    }
