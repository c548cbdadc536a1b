use Rattle.std.proofs.Common.{◌∙◌, arith}
use Rattle.rex_parse.proofs.Lengths.{form_among, none_begins}
use Rattle.rex_parse.proofs.words.form_of.Goals as goal

pub returns-in-2 : goal.returns-in-2
returns-in-2 c = c.entry_of.ensures ∙ form_among 2 c.args.word.now c.in-2.is

pub returns-in-3 : goal.returns-in-3
returns-in-3 c = c.entry_of-in-3.ensures ∙ form_among 3 c.args.word.now c.in-3.is

pub returns-in-4 : goal.returns-in-4
returns-in-4 c = c.entry_of-in-4.ensures ∙ form_among 4 c.args.word.now c.in-4.is

pub returns-in-5 : goal.returns-in-5
returns-in-5 c = c.entry_of-in-5.ensures ∙ form_among 5 c.args.word.now c.in-5.is

pub returns-in-6 : goal.returns-in-6
returns-in-6 c = c.entry_of-in-6.ensures ∙ form_among 6 c.args.word.now c.in-6.is

pub returns-in-7 : goal.returns-in-7
returns-in-7 c = c.entry_of-in-7.ensures ∙ form_among 7 c.args.word.now c.in-7.is

pub returns-in-9 : goal.returns-in-9
returns-in-9 c = c.entry_of-in-9.ensures ∙ form_among 9 c.args.word.now c.in-9.is

pub returns-in_default : goal.returns-in_default
returns-in_default c = none_begins c.args.word.now (λ e. omega (arith, e)) (λ e. omega (arith, e)) (λ e. omega (arith, e)) (λ e. omega (arith, e)) (λ e. omega (arith, e)) (λ e. omega (arith, e)) (λ e. omega (arith, e))
