use Rattle.std.proofs.Common.{◌∙◌, arith}
use Rattle.rex_parse.proofs.Lengths.{none_reserved, reserved_of}
use Rattle.rex_parse.proofs.words.is_reserved.Goals as goal

pub returns-in-2 : goal.returns-in-2
returns-in-2 c = c.is_among.ensures ∙ reserved_of 2 c.args.word.now c.in-2.is

pub returns-in-3 : goal.returns-in-3
returns-in-3 c = c.is_among-in-3.ensures ∙ reserved_of 3 c.args.word.now c.in-3.is

pub returns-in-4 : goal.returns-in-4
returns-in-4 c = c.is_among-in-4.ensures ∙ reserved_of 4 c.args.word.now c.in-4.is

pub returns-in-5 : goal.returns-in-5
returns-in-5 c = c.is_among-in-5.ensures ∙ reserved_of 5 c.args.word.now c.in-5.is

pub returns-in-6 : goal.returns-in-6
returns-in-6 c = c.is_among-in-6.ensures ∙ reserved_of 6 c.args.word.now c.in-6.is

pub returns-in-7 : goal.returns-in-7
returns-in-7 c = c.is_among-in-7.ensures ∙ reserved_of 7 c.args.word.now c.in-7.is

pub returns-in-9 : goal.returns-in-9
returns-in-9 c = c.is_among-in-9.ensures ∙ reserved_of 9 c.args.word.now c.in-9.is

pub returns-in_default : goal.returns-in_default
returns-in_default c = none_reserved c.args.word.now (λ e. omega (arith, e)) (λ e. omega (arith, e)) (λ e. omega (arith, e)) (λ e. omega (arith, e)) (λ e. omega (arith, e)) (λ e. omega (arith, e)) (λ e. omega (arith, e))
