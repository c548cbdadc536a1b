use Rattle.std.proofs.Common.{ap, ◌∙◌, map}
use Rattle.std.specs.Str.{bytes_eq}
use Rattle.rex_syntax.proofs.Numbered.{inserted, inserted_at}
use Rattle.rex_syntax.proofs.names.Names.insert.Goals as goal

pub returns-clause-words : goal.returns-clause-words
returns-clause-words c =
    ap (λ ks. map (λ k. k.bytes.items) ks) c.in_ok-index.ensures.keys
    ∙ inserted (λ k. k.bytes.items) _ c.self.inside.words.keys (record { bytes = c.in_ok-bytes.bytes }) c.args.self.now c.args.word.now c.self.view_is c.in_ok-bytes.ensures.items
    (λ k. ap (λ w. bytes_eq w k.bytes.items) c.in_ok-bytes.ensures.items)

pub returns-clause-number : goal.returns-clause-number
returns-clause-number c =
    rw (returns-clause-words c) (inserted_at (λ k. k.bytes.items) _ c.self.inside.words.keys c.args.self.now c.args.word.now c.in_ok-index.index c.self.view_is
    (λ k. ap (λ w. bytes_eq w k.bytes.items) c.in_ok-bytes.ensures.items) c.in_ok-index.ensures.index)
