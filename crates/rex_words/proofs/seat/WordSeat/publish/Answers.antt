use Rattle.std.proofs.Common.{arith, ap, ◌∙◌, subst, sym, refl, ℕ, ℤ, ◌+◌, List}
use Rattle.std.specs.Prelude.{slice_index_or, pos}
use Rattle.atomic_table.specs.Table.{step, Allows}
use mathlib.Core.Option.{none}
use Rattle.rex_words.specs.Moment.{IsMoment}
use Rattle.rex_words.specs.Steps.{published}
use Rattle.rex_words.proofs.Publishing.{may_publish, publish_more}
use Rattle.rex_words.proofs.seat.WordSeat.publish.Goals as goal

pub overflow_add-locks : goal.overflow_add-locks
overflow_add-locks c = omega (arith, c.requires.locks, c.requires.there.0, c.requires.right.good.locks, c.requires.right.good.few_variables)

pub store-requires : goal.store-requires
store-requires c = (
  c.requires.publishing.seat.table,
  omega (arith, c.requires.locks, c.requires.table, c.requires.there.0),
  subst (λ (n : ℕ). Allows (IsMoment c.args.words.now.key) c.args.words.now.table_id.slots c.args.self.now.seat.id c.args.self.now.seat.me (n + c.args.variable) (λ _. c.word_for-word.result)
      (λ _. published (step c.args.words.now.table_id.slots (n + c.args.variable) c.word_for-word.result 0 none) c.args.self.now.seat.me c.word_for-word.result)) (sym c.requires.locks)
      (may_publish _ c.requires.right _ _ _ _ c.requires.publishing c.args.variable c.requires.there.0 c.requires.there.1 _ _
      (c.word_for-word.ensures ∙ ap (λ (xs : List ℤ). slice_index_or xs c.args.variable (pos 0)) c.variables.ensures)),
)

pub returns-clause-publishing : goal.returns-clause-publishing
returns-clause-publishing c =
    publish_more _ c.requires.right _ _ _ _ c.requires.publishing c.args.variable c.requires.there.0 c.requires.there.1 c.store.new.seat (c.args.locks + c.args.variable) refl c.store.ensures.0 (ap (λ (n : ℕ). n + c.args.variable) c.requires.locks) c.store.ensures.2.0 c.store.ensures.2.1
