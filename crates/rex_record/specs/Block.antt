-- Events that a recorder is handed as a block.
use Rattle.std.specs.Prelude.{◌-◌, ◌&&◌, Bool, not, List, [], ◌∷◌, length, nat_le}
use Rattle.std.specs.List.{list_all}
use Rattle.rex_syntax.specs.declared.request.Request.{Request}
use Rattle.rex_syntax.specs.declared.service.Declarations.{Declarations}
use Rattle.rex_event.specs.declared.event.Event.{Event}
use Rattle.rex_record.specs.Value.{RecorderValue}
use Rattle.rex_record.specs.Take.{begins_queued, taken_turn, taken}
use Rattle.rex_record.specs.declared.recorder.TheConstants.{LIVE_EVENTS}

-- the recorder after it was handed the events, one after the other
abbrev pub taken_all : Declarations → RecorderValue → List Event → RecorderValue
taken_all service r [] = r
taken_all service r (e ∷ es) = taken_all service (taken service r (taken_turn service r.state r.queue (length r.live) e)) es

-- none of the events begins a request of a client that has one queued
abbrev pub none_queued : List Request → List Event → Bool
none_queued queue es = list_all (λ e. not (begins_queued e.kind queue)) es

-- there is room for all of the events beside the live ones, and no queued request is in their way
abbrev pub has_place : List Event → List Request → List Event → Bool
has_place live queue es = nat_le (length es) (LIVE_EVENTS - length live) && none_queued queue es
