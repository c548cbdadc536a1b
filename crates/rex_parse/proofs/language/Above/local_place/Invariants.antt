use Rattle.std.proofs.Common.{◌≡◌, ◌+◌, drop}
use Rattle.std.specs.List.{position_or_len}
use Rattle.std.specs.Str.{bytes_eq}
use Rattle.rex_parse.proofs.language.Above.local_place.Given as goal

abbrev pub invariant-loop-local : goal.invariant-loop-local
invariant-loop-local l = record {
  place : l.place ≡ l.local-index;
  found : l.place + position_or_len (λ x. bytes_eq x l.word) (drop l.local-index l.local-items) ≡ position_or_len (λ x. bytes_eq x l.word) l.self.locals;
}
