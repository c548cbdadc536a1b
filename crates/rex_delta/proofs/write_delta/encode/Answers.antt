use Rattle.std.proofs.Common.{◌++◌, ℕ, List, ap, ◌∙◌}
use Rattle.rex_delta.specs.Spelling.{delta_bytes}
use Rattle.rex_delta.specs.Reading.{delta_in}
use Rattle.rex_delta.proofs.EventsAgain.{delta_read}
use Rattle.rex_delta.proofs.write_delta.encode.Goals as goal

pub returns-clause-again : goal.returns-clause-again
returns-clause-again c =
    let d = c.args.delta.now in
    let whole = c.into_vec.ensures ∙ c.in_ok-write.ensures.spelled ∙ ap (λ (start : List ℕ). start ++ delta_bytes d) c.in_ok-writer.ensures in
    ap delta_in whole ∙ delta_read d (record { delta = c.requires; typed = c.in_ok-write.ensures.typed })
