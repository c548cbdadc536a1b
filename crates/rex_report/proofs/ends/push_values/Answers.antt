use Rattle.std.proofs.Common.{◌≡◌, ◌++◌, ℕ, List, sym, ap, ◌∙◌, append_assoc}
use Rattle.std.proofs.lemmas.Result.{on_ok_weaker}
use Rattle.rex_report.specs.Pieces.{spaced}
use Rattle.rex_report.specs.Ends.{variable_words, semaphore_words}
use Rattle.rex_report.proofs.Spaced.{spaced-append}
use Rattle.rex_report.proofs.ends.push_values.Goals as goal

pub returns : goal.returns
returns c =
    let out = c.args.out.now.items in
    let mid = c.push_variables.new.out.items in
    let last = c.push_semaphores.new.out.items in
    let vs = variable_words c.args.service.now.variables c.args.values.now in
    let ss = semaphore_words c.args.service.now.semaphores c.args.counts.now in
    let one : mid ≡ out ++ spaced vs = rw c.as_slice.ensures at c.in_ok-push_variables.ensures in
    let two = rw c.as_slice-2.ensures at c.push_semaphores.ensures in
    on_ok_weaker c.push_semaphores.result (λ (e : last ≡ mid ++ spaced ss). e ∙ ap (λ (t : List ℕ). t ++ spaced ss) one ∙ append_assoc out (spaced vs) (spaced ss) ∙ ap (λ (t : List ℕ). out ++ t) (sym (spaced-append vs ss))) two
