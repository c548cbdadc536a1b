use Rattle.std.proofs.Common.{◌≡◌, get_or, sym, ◌∙◌}
use Rattle.std.proofs.lemmas.Bool.{eqb-true}
use Rattle.rex_text.proofs.Spellings.{minus_unread, not_minus, plain_cast, plain_unread}
use Rattle.rex_text.proofs.numbers.read_i64.Goals.{else-not-is_empty-via-then-not-is_empty+else-word-eq45, else-not-is_empty-via-else-not-is_empty}
use Rattle.rex_text.proofs.numbers.read_i64.Goals as goal

pub returns-in_err-read_u64 : goal.returns-in_err-read_u64
returns-in_err-read_u64 c =
    c.from_residual.ensures ∙ sym (minus_unread c.args.word.now c.read_u64.result c.if-word-eq45.true c.read_u64.ensures c.in_err-read_u64.was)

pub returns-in_err-read_u64-2 : goal.returns-in_err-read_u64-2
returns-in_err-read_u64-2 c =
    let plain : get_or c.args.word.now 0 0 ≡ 45 → ⊥ = elim c.else-not-is_empty.branch [
      | else-not-is_empty-via-then-not-is_empty+else-word-eq45 w ↦ w.if-word-eq45.false
      | else-not-is_empty-via-else-not-is_empty w ↦ not_minus c.args.word.now (eqb-true _ _ (sym c.is_empty.ensures ∙ w.if-not-is_empty.false))
    ] in
    c.from_residual-in_err-read_u64-2.ensures ∙ sym (plain_unread c.args.word.now c.read_u64-2.result plain c.read_u64-2.ensures c.in_err-read_u64-2.was)

pub returns : goal.returns
returns c =
    let plain : get_or c.args.word.now 0 0 ≡ 45 → ⊥ = elim c.else-not-is_empty.branch [
      | else-not-is_empty-via-then-not-is_empty+else-word-eq45 w ↦ w.if-word-eq45.false
      | else-not-is_empty-via-else-not-is_empty w ↦ not_minus c.args.word.now (eqb-true _ _ (sym c.is_empty.ensures ∙ w.if-not-is_empty.false))
    ] in
    c.ok.ensures.value ∙ sym (plain_cast c.args.word.now c.in_ok-read_u64-2.field-0 c.try_from.result plain (sym c.read_u64-2.ensures ∙ c.in_ok-read_u64-2.was) c.try_from.ensures)
