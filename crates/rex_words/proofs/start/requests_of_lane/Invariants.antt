use Rattle.std.proofs.Common.{◌≡◌, take}
use Rattle.rex_words.specs.Dealing.{requests_for}
use Rattle.rex_words.proofs.start.requests_of_lane.Given as goal

abbrev pub invariant-loop-request : goal.invariant-loop-request
invariant-loop-request l = l.mine.items ≡ requests_for l.lanes l.lane (take l.request-index l.requests)
