use Rattle.std.proofs.Common.{◌≡◌, drop}
use Rattle.std.specs.List.{list_any}
use Rattle.std.specs.Str.{bytes_eq}
use Rattle.rex_parse.proofs.language.Above.is_local.Given as goal

abbrev pub invariant-loop-local : goal.invariant-loop-local
invariant-loop-local l = list_any (λ x. bytes_eq x l.word) (drop l.local-index l.local-items) ≡ list_any (λ x. bytes_eq x l.word) l.self.locals
