use Rattle.std.proofs.Common.{rules, ◌≡◌, [], ◌∷◌, ◌++◌, List, ℕ, sym, ◌∙◌, ap, subst, append_assoc}
use Rattle.rex_wal.specs.Journal.{BeginsNone, IsRecord, mark, marks}
use Rattle.rex_wal.proofs.Spelling.{marks_push, nothing_none, record_push}
use Rattle.rex_wal.proofs.parse.first_record.Goals as goal

pub loop-byte-preserved : goal.loop-byte-preserved
loop-byte-preserved c =
    let b = c.in-Byte.byte in
    let taken = c.loop-byte.record.items in
    let pushed : c.push.new.self.items ≡ taken ++ b ∷ [] = search rules in
    record {
      split = c.loop-byte.invariant.split ∙ ap (λ (xs : List ℕ). marks taken ++ xs) c.in-Byte.ensures.0 ∙ sym (append_assoc (marks taken) (mark b) c.in-Byte.behind.now) ∙ ap (λ (xs : List ℕ). xs ++ c.in-Byte.behind.now) (sym (marks_push taken b) ∙ ap (λ (xs : List ℕ). marks xs) (sym pushed));
      each = subst IsRecord (sym pushed) (record_push taken b c.loop-byte.invariant.each c.in-Byte.ensures.1);
    }

pub returns-in-Nothing-clause-none : goal.returns-in-Nothing-clause-none
returns-in-Nothing-clause-none c none = subst BeginsNone (sym c.loop-byte.invariant.split) (nothing_none c.loop-byte.record.items c.loop-byte.rest.now c.in-Nothing.ensures)
