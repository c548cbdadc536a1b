use Rattle.std.proofs.Common.{◌≡◌, drop}
use Rattle.rex_lockset.specs.Refusal.{refusal_among}
use Rattle.rex_lockset.proofs.refusal.refusal_of.Given as goal

abbrev pub invariant-loop-number : goal.invariant-loop-number
invariant-loop-number l =
    refusal_among l.service l.number (drop l.number l.service.handlers) ≡ refusal_among l.service 0 l.service.handlers
