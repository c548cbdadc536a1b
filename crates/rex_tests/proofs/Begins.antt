-- What an idle lane may begin may be queued.
use Rattle.std.proofs.Common.{◌≡◌, ℕ, true, sym}
use Rattle.std.specs.Prelude.{◌&&◌, Option, Some, None, ℤ, List, length, nat_lt}
use Rattle.std.proofs.lemmas.Bool.{true≢false, and_parts}
use Rattle.rex_event.specs.declared.event.Kind.{Kind}
use Rattle.rex_syntax.specs.declared.request.Request.{Request}
use Rattle.rex_frame.specs.declared.frame.Frame.{Frame}
use Rattle.rex_syntax.specs.declared.service.Declarations.{Declarations}
use Rattle.rex_state.specs.Value.{StateValue}
use Rattle.rex_state.specs.Machine.{enabled, frame_at, own_can, locks_allow, queues_allow, client_allows, can_begin}
use Rattle.rex_record.specs.Turn.{begin_of}
use Rattle.rex_record.specs.Kept.{CanBegin}

-- only an idle lane may begin a request
idle_begins : (service : Declarations) (r : Request) (f : Option Frame) (variables : List ℤ) → own_can service (begin_of r) f variables ≡ true → can_begin service (begin_of r) ≡ true
idle_begins service r None variables h = h
idle_begins service r (Some f) variables h = absurd (true≢false (sym h))

-- where a lane may begin a request now, it may be queued
pub can_queue : (service : Declarations) (s : StateValue) (lane : ℕ) (r : Request) → enabled service lane (begin_of r) s ≡ true → CanBegin service s r
can_queue service s lane r h =
    let first : Kind = begin_of r in
    let client_may = client_allows first s.clients in
    let queues_may = queues_allow first lane s.queues in
    let locks_may = locks_allow first s.lanes in
    let own_may = own_can service first (frame_at s lane) s.variables in
    let own = and_parts own_may (locks_may && (queues_may && client_may)) (and_parts (nat_lt lane (length s.lanes)) (own_may && (locks_may && (queues_may && client_may))) h).1 in
    let rest = and_parts queues_may client_may (and_parts locks_may (queues_may && client_may) own.1).1 in
    record { handler = idle_begins service r (frame_at s lane) s.variables own.0; client = rest.1 }
