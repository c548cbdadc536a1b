use Rattle.std.proofs.Common.{rules, ◌≡◌, ◌<◌, ◌+◌, suc, [], ◌∷◌, ◌++◌, length, get_or, take, sym, ◌∙◌, ap, arith}
use Rattle.std.proofs.Math.Seq.{take-suc}
use Rattle.rex_wal.specs.Journal.{mark, marks}
use Rattle.rex_wal.proofs.Spelling.{marks_push}
use Rattle.rex_wal.proofs.spell.spell_any.Goals as goal

pub loop-byte-preserved : goal.loop-byte-preserved
loop-byte-preserved c =
    let i = c.loop-byte.byte-index in
    let bytes = c.args.bytes.now in
    let lt : i < length bytes = search rules in
    let more : c.push_mark.new.spelled.items ≡ c.loop-byte.spelled.items ++ mark (get_or bytes i 0) = search rules in
    let next : take (i + 1) bytes ≡ take i bytes ++ get_or bytes i 0 ∷ [] = (let e : i + 1 ≡ suc i = omega arith in rw e (take-suc bytes i 0 lt)) in
    record { spelled = more ∙ ap (λ xs. xs ++ mark (get_or bytes i 0)) c.loop-byte.invariant.spelled ∙ sym (marks_push (take i bytes) (get_or bytes i 0)) ∙ ap (λ xs. marks xs) (sym next) }
