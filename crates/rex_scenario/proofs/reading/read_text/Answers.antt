use Rattle.std.proofs.Common.{arith, rules}
use Rattle.rex_scenario.specs.Reading.{answer_from}
use Rattle.rex_scenario.proofs.Lines.{number_fits, answer_from-good, fits-good, scheduled-good}
use Rattle.rex_scenario.proofs.Noted.{noted_first, noted_plain}
use Rattle.rex_scenario.proofs.reading.read_text.Goals as goal

pub overflow_add-next : goal.overflow_add-next
overflow_add-next c =
    let fits = number_fits c.loop-next.lines.number c.loop-next.lines.rest.now (c.in-Some.number, c.in-Some.line.now) _ c.in-Some.ensures.steps c.loop-next.invariant.can in
    omega arith

pub loop-next-preserved : goal.loop-next-preserved
loop-next-preserved c = record {
  same =
      answer_from-good c.loop-next.reader c.line.new.self c.loop-next.next c.in-Some.number c.in-Some.line.now _ _ _ c.in-Some.ensures.steps
      c.in-Ok.ensures.takes.0 c.in-Ok.ensures.takes.1 c.loop-next.invariant.same;
  can = search rules;
  mode = scheduled-good c.loop-next.reader c.line.new.self c.in-Some.number c.in-Some.line.now c.in-Ok.ensures.takes.1 c.loop-next.invariant.mode;
  fit = fits-good c.loop-next.reader c.line.new.self c.in-Some.number c.in-Some.line.now c.loop-next.invariant.fit c.in-Ok.ensures.takes.0 c.in-Ok.ensures.takes.1 c.in-Ok.ensures.good;
}

-- the text ends well where the lines come to an end and no code fits that
pub returns-clause-beyond : goal.returns-clause-beyond
unfolding answer_from
returns-clause-beyond c = noted_first c.args._scheduled c.args.bytes.now c.loop-next.reader (search rules)

pub returns-clause-plain : goal.returns-clause-plain
unfolding answer_from
returns-clause-plain c = noted_plain c.args._scheduled c.args.bytes.now c.loop-next.reader (search rules)
