use Rattle.std.proofs.Common.{rules, ◌≡◌, ◌<◌, ◌+◌, suc, length, get_or, ◌∙◌, ap, arith}
use Rattle.std.proofs.lemmas.Grind.{get_or_default_zero}
use Rattle.std.proofs.lemmas.List.{length-set}
use Rattle.rex_wal.proofs.Spelling.{low_here, low_next}
use Rattle.rex_wal.proofs.spell.spell_low.Goals as goal

pub loop-i-preserved : goal.loop-i-preserved
loop-i-preserved c =
    let i = c.loop-i.i in
    let bytes = c.args.bytes.now in
    let lt : i < length bytes = search rules in
    let value : c.index_mut.result.now ≡ get_or c.loop-i.spelled.items i 0 = c.index_mut.ensures.value ∙ get_or_default_zero c.loop-i.spelled.items i c.index_mut.result.now (omega (arith, lt, c.loop-i.invariant.long)) in
    let here : get_or c.loop-i.spelled.items i 0 ≡ get_or bytes i 0 = ap (λ xs. get_or xs i 0) c.loop-i.invariant.spelled ∙ low_here bytes i lt c.requires.low in
    let next : i + 1 ≡ suc i = omega arith in
    record {
      spelled = rw (next, value ∙ here, c.loop-i.invariant.spelled) (low_next bytes i lt c.requires.low);
      long = length-set c.loop-i.spelled.items i (c.index_mut.result.now + 1) ∙ c.loop-i.invariant.long;
    }
