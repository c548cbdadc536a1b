use Rattle.rex_scenario.specs.Beyond.{beyond_words}
use Rattle.rex_scenario.specs.Reading.{unscheduled_answer_of}
use Rattle.rexlive_cli.proofs.Said.{due_of, judged_of}
use Rattle.rexlive_cli.proofs.answers.answer_input.Goals as goal

pub returns-in-Ok-clause-due : goal.returns-in-Ok-clause-due
returns-in-Ok-clause-due g c =
    due_of c.args.recording (unscheduled_answer_of c.args.input.now) c.in-Ok.scenario c.in-Ok.service (beyond_words c.args.input.now) c.answer_scenario.result c.in-Ok.ensures.says c.in-Ok.ensures.beyond c.answer_scenario.ensures.due

pub returns-in-Ok-clause-judges : goal.returns-in-Ok-clause-judges
returns-in-Ok-clause-judges g c =
    judged_of c.args.recording (unscheduled_answer_of c.args.input.now) c.in-Ok.scenario c.in-Ok.service (beyond_words c.args.input.now) c.answer_scenario.result c.in-Ok.ensures.says c.in-Ok.ensures.beyond
    c.answer_scenario.ensures.judges
