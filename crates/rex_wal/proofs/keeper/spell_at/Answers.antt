use Rattle.std.proofs.Common.{rules, ◌≡◌, ◌≤◌, ◌+◌, ◌-◌, ◌++◌, ℕ, List, length, replicate, take, sym, ◌∙◌, ap, vec_len}
use Rattle.std.proofs.lemmas.List.{append-nil, take_all}
use Rattle.rex_wal.specs.Journal.{entry}
use Rattle.rex_wal.proofs.keeper.spell_at.Goals.{then-len-left+in_ok-resize, else-len-left}
use Rattle.rex_wal.proofs.keeper.spell_at.Goals as goal

pub returns-clause-written : goal.returns-clause-written
returns-clause-written c = elim c.if-len-left.branch [
  | then-len-left+in_ok-resize w ↦
      let spelled = c.in_ok-spelled.spelled in
      let n = w.len.result + 65536 in
      let long : length spelled.items ≤ n = search rules in
      let same : c.if-len-left.spelled.items ≡ take n spelled.items ++ replicate (n - vec_len spelled) 0 = search rules in
      record { zeros = n - vec_len spelled; is = same ∙ ap (λ (xs : List ℕ). xs ++ replicate (n - vec_len spelled) 0) (take_all n spelled.items long ∙ c.in_ok-spelled.ensures) }
  | else-len-left w ↦ record { zeros = 0; is = (let same : c.if-len-left.spelled.items ≡ entry c.args.bytes.now = search rules in same ∙ sym (append-nil (entry c.args.bytes.now))) }
]
