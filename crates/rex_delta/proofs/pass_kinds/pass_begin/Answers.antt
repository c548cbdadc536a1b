use Rattle.std.proofs.Common.{refl}
use Rattle.rex_delta.specs.Reading.{arguments_at, begin_at}
use Rattle.rex_delta.proofs.Passing.{was_read}
use Rattle.rex_delta.proofs.pass_kinds.pass_begin.Goals as goal

pub returns-clause-read : goal.returns-clause-read
unfolding begin_at
returns-clause-read c =
    let was = was_read (arguments_at c.in_ok-count.count c.u8_between.new.reader) c.pass_arguments.new.reader c.in_ok-pass_arguments.ensures.read in
    rw (c.in_ok-u16_between.ensures.read, c.in_ok-u32_between.ensures.read, c.in_ok-place.ensures.read, c.in_ok-count.ensures.read, was.is) refl
