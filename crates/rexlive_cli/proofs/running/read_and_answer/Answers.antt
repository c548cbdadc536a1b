use Rattle.std.proofs.Common.{ℕ, List, subst}
use Rattle.rex_traits.proofs.Known.{for_growth}
use Rattle.rex_traits.specs.Inputs.{IsWholeInput}
use Rattle.rex_answer.specs.Causes.{Judges}
use Rattle.rexlive_cli.specs.Due.{IsDue}
use Rattle.rexlive_cli.specs.Outcome.{played_service}
use Rattle.rexlive_cli.proofs.running.read_and_answer.Goals as goal

pub returns-in-Ok-answer_input-clause-due : goal.returns-in-Ok-answer_input-clause-due
returns-in-Ok-answer_input-clause-due g c =
    for_growth (g.S.Source.given c.args.source.now) (g.S.Source.given c.read_input.new.source) c.in-Ok.input.bytes.items (λ input. IsDue c.args.recording input c.in-Ok-answer_input.answer) c.in-Ok.ensures.given
    (subst (λ (bytes : List ℕ). IsDue c.args.recording bytes c.in-Ok-answer_input.answer) c.deref.ensures.value c.in-Ok-answer_input.ensures.due)

pub returns-in-Ok-answer_input-clause-judges : goal.returns-in-Ok-answer_input-clause-judges
returns-in-Ok-answer_input-clause-judges g c =
    for_growth (g.S.Source.given c.args.source.now) (g.S.Source.given c.read_input.new.source) c.in-Ok.input.bytes.items (λ input. Judges (played_service c.args.recording input) c.in-Ok-answer_input.answer.status) c.in-Ok.ensures.given
    (subst (λ (bytes : List ℕ). Judges (played_service c.args.recording bytes) c.in-Ok-answer_input.answer.status) c.deref.ensures.value c.in-Ok-answer_input.ensures.judges)

pub returns-in-Ok-answer_input-clause-whole : goal.returns-in-Ok-answer_input-clause-whole
returns-in-Ok-answer_input-clause-whole g c =
    for_growth (g.S.Source.given c.args.source.now) (g.S.Source.given c.read_input.new.source) c.in-Ok.input.bytes.items
    (IsWholeInput (g.S.Source.ended c.read_input.new.source) (g.S.Source.left c.args.source.now) (g.S.Source.left c.read_input.new.source)) c.in-Ok.ensures.given c.in-Ok.ensures.whole
