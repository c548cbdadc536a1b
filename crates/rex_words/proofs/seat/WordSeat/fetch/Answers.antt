use Rattle.std.proofs.Common.{arith, ap, ◌∙◌, subst, sym, ℕ, ℤ, ◌+◌, w64, to_z, of_z}
use Rattle.std.proofs.lemmas.Int.{of_z-to_z}
use Rattle.atomic_table.specs.Table.{step, Allows}
use mathlib.Core.Option.{none}
use Rattle.rex_words.specs.Moment.{IsMoment}
use Rattle.rex_words.specs.Steps.{fetched, with_value}
use Rattle.rex_words.proofs.Fetching.{may_fetch, fetch_settles}
use Rattle.rex_words.proofs.seat.WordSeat.fetch.Goals as goal

pub overflow_add-locks : goal.overflow_add-locks
overflow_add-locks c = omega (arith, c.requires.locks, c.requires.there.0, c.requires.right.good.locks, c.requires.right.good.few_variables)

pub load-requires : goal.load-requires
load-requires c = (
  c.requires.settled.table,
  omega (arith, c.requires.locks, c.requires.table, c.requires.there.0),
  subst (λ (n : ℕ). Allows (IsMoment c.args.words.now.key) c.args.words.now.table_id.slots c.args.self.now.seat.id c.args.self.now.seat.me (n + c.args.variable) (λ k. k) (fetched (step c.args.words.now.table_id.slots (n + c.args.variable) 0 0 none) c.args.self.now.seat.me)) (sym c.requires.locks)
      (may_fetch _ _ _ c.requires.settled _ _ c.requires.fetching c.args.variable c.requires.there.0 c.requires.there.1 _),
)

pub returns-clause-settled : goal.returns-clause-settled
returns-clause-settled c =
    fetch_settles _ _ _ c.requires.settled _ _ c.requires.fetching c.args.variable c.requires.there.0 c.requires.there.1 c.load.new.seat c.load.result (c.args.locks + c.args.variable) c.put_variable.new.self c.load.ensures.0 (ap (λ (n : ℕ). n + c.args.variable) c.requires.locks) c.load.ensures.2.0 c.load.ensures.2.1
    (c.put_variable.ensures ∙ ap (with_value c.args.self.now.state c.args.variable) (ap (λ (z : ℤ). to_z w64 (of_z w64 z)) c.cast_signed-value.ensures ∙ ap (to_z w64) (of_z-to_z w64 c.load.result c.load.type_inv)))
