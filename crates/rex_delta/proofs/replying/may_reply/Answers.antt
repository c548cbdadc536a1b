use Rattle.std.proofs.Common.{ℕ, List, [], ◌∷◌, get_or, sym, ap, subst, ◌∙◌, arith}
use Rattle.memchr.specs.Find.{FindsNeedle}
use Rattle.rex_delta.specs.Replying.{reply_front}
use Rattle.rex_delta.proofs.EventLaws.{delta_found}
use Rattle.rex_delta.proofs.Silent.{found, silent}
use Rattle.rex_delta.proofs.replying.may_reply.Goals as goal

pub returns : goal.returns
returns c =
    let first : FindsNeedle c.args.bytes.now (reply_front c.args.client) 0 c.find.result =
    subst (λ run. FindsNeedle c.args.bytes.now run 0 c.find.result)
    (ap (λ (bytes : List ℕ). 14 ∷ get_or bytes 0 0 ∷ get_or bytes 1 0 ∷ []) c.to_be_bytes.ensures) c.find.ensures in
    record {
      silent = λ none d read.
          let spelled = delta_found c.args.bytes.now d (λ i. omega (arith, c.type_inv.bytes i)) read in
          silent c.args.client c.args.bytes.now c.find.result first (sym c.is_some.ensures ∙ none) d spelled.has spelled.bytes_are;
      found = λ some. found c.args.client c.args.bytes.now c.find.result first (sym c.is_some.ensures ∙ some);
    }
