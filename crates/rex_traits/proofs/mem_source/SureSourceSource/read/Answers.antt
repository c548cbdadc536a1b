use Rattle.rex_traits.proofs.Giving.{given_more, left_less, none_left}
use Rattle.rex_traits.proofs.mem_source.SureSourceSource.read.Goals as goal

pub returns-clause-given : goal.returns-clause-given
returns-clause-given c =
    given_more c.args.self.now.bytes.items c.copy_front-count.new.buf c.args.self.now.at c.copy_front-count.result (rw c.deref.ensures.value at c.copy_front-count.ensures.copied)

pub returns-clause-bytes : goal.returns-clause-bytes
returns-clause-bytes c = (
  left_less c.args.self.now.bytes.items c.copy_front-count.new.buf c.args.self.now.at c.copy_front-count.result (rw c.deref.ensures.value at c.copy_front-count.ensures.copied),
  none_left c.args.self.now.bytes.items c.copy_front-count.new.buf c.args.self.now.at c.copy_front-count.result (rw c.deref.ensures.value at c.copy_front-count.ensures.count),
)
