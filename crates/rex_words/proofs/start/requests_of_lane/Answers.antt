use Rattle.rex_words.proofs.Listed.{has_at}
use Rattle.rex_words.proofs.start.requests_of_lane.Goals as goal

pub lane_for-requires : goal.lane_for-requires
lane_for-requires c = (c.requires.lanes, c.requires.clients c.request-item.result (has_at c.args.requests.now c.loop-request.request-index c.request-item.result c.loop-request-test.true c.request-item.is))
