-- Queues, clients and the whole: what is spelled is read again.
use Rattle.std.proofs.Common.{◌≡◌, ℕ, ◌+◌, ◌-◌, ◌≤◌, ℤ, List, [], ◌++◌, length, Ok, sym, subst, arith, FitsSigned, w64, eq-eqb}
use Rattle.std.specs.Prelude.{◌==◌, Option, Some, None, IfSome}
use Rattle.std.specs.Int.{w8, w16, w32, to_be_bytes}
use Rattle.std.specs.List.{flat_map, count_by}
use Rattle.std.proofs.lemmas.Bool.{and_parts}
use Rattle.std.proofs.lemmas.List.Sums.{count_by-le-length}
use Rattle.rex_syntax.specs.declared.service.Declarations.{Declarations}
use Rattle.rex_syntax.specs.Service.{IsService}
use Rattle.rex_event.specs.Limits.{most_lanes}
use Rattle.rex_syntax.specs.Versions.{number_of}
use Rattle.rex_state.specs.declared.lane.Queue.{Queue}
use Rattle.rex_wire.specs.Reading.{◌>>=◌, signed_at, allowed_at, list_at}
use Rattle.rex_wire.specs.Spelling.{byte, signed}
use Rattle.rex_wire.proofs.Fields.{IsRead, IsRead-none, IsRead-then, IsRead-last}
use Rattle.rex_wire.proofs.Whole.{whole_again, begins_no_other}
use Rattle.rex_wire.proofs.Numbers.{wide8, wide16, wide32, allowed_again, signed_again}
use Rattle.rex_wire.proofs.Ranges.{is_between-true}
use Rattle.rex_snapshot.specs.declared.parts.Seat.{Seat}
use Rattle.rex_snapshot.specs.declared.parts.Known.{Known}
use Rattle.rex_snapshot.specs.declared.parts.Parts.{Parts}
use Rattle.rex_snapshot.specs.Spelling.{seat_bytes, waiter_bytes, queue_bytes, reply_bytes, known_bytes, variables_bytes, parts_bytes}
use Rattle.rex_snapshot.specs.Allowed.{is_condition, is_busy, waiters, may_be_waiter, may_be_count, may_be_client, may_be_sequence, may_be_replied}
use Rattle.rex_snapshot.specs.Reading.{with_last, counted, into_array, seats_at, waiter_at, queue_at, queues_at, given_at, reply_at, after_client, known_at, clients_at, version_at, variables_at, parts_at, parts_in}
use Rattle.rex_wire.proofs.Lists.{AreEach}
use Rattle.rex_snapshot.specs.Semaphores.{level_bytes, levels_at}
use Rattle.rex_snapshot.proofs.Levels.{levels_again}
use Rattle.rex_snapshot.proofs.ListLaws.{list_again, array_again}
use Rattle.rex_snapshot.proofs.PartLaws.{MayWait, IsQueueOf, queue_of, reply_number, reply_text, reply_parts, IsKnownAfter, client_with, AreParts, parts_with, parts_text}
use Rattle.rex_snapshot.proofs.LanesAgain.{seats_again}
use Rattle.rex_snapshot.proofs.Variables.{version_again, variables_read}

-- ---- queues

waiter_again : (seats : List Seat) (condition : ℕ) (earlier : List ℕ) (lane : ℕ) → length seats ≤ most_lanes → MayWait seats condition earlier lane → IsRead (waiter_at seats condition earlier) (waiter_bytes lane) lane
unfolding waiter_at
waiter_again seats condition earlier lane few may =
    let range = is_between-true 1 (length seats) (lane + 1) (and_parts _ _ may).0 in
    let back : (lane + 1) - 1 ≡ lane = omega arith in
    subst (λ (n : ℕ). IsRead (waiter_at seats condition earlier) (waiter_bytes lane) n) back
    (IsRead-last (allowed_at w8 (may_be_waiter seats condition earlier)) (λ n. n - 1) (waiter_bytes lane) (lane + 1)
    (allowed_again wide8 (may_be_waiter seats condition earlier) (lane + 1) (omega (arith, range.1)) may))

pub queue_again : (seats : List Seat) (condition : ℕ) (q : Queue) → length seats ≤ most_lanes → IsQueueOf seats condition q → IsRead (queue_at seats condition) (queue_bytes q) q
unfolding queue_at
queue_again seats condition q few is =
    let count = length q.lanes.items in
    let less : count ≤ length seats = omega (arith, is.long, count_by-le-length (λ s. is_condition condition s.waits) seats) in
    IsRead-then (allowed_at w8 (λ n. n == waiters seats condition)) _ (byte count) (flat_map waiter_bytes q.lanes.items) count q (allowed_again wide8 (λ n. n == waiters seats condition) count (omega (arith, less)) (eq-eqb count (waiters seats condition) is.long))
    (IsRead-last (λ l. into_array (list_at (waiter_at seats condition) with_last count [] l)) queue_of (flat_map waiter_bytes q.lanes.items) q.lanes
    (array_again (λ l. list_at (waiter_at seats condition) with_last count [] l) (flat_map waiter_bytes q.lanes.items) q.lanes.items
    (list_again (waiter_at seats condition) with_last waiter_bytes (MayWait seats condition) (λ earlier lane may. waiter_again seats condition earlier lane few may) [] q.lanes.items is.lanes)))

pub queues_again : (seats : List Seat) (qs : List Queue) → length seats ≤ most_lanes → AreEach counted (IsQueueOf seats) 0 qs → IsRead (queues_at seats (length qs)) (flat_map queue_bytes qs) qs
queues_again seats qs few each = list_again (queue_at seats) counted queue_bytes (IsQueueOf seats) (λ condition q is. queue_again seats condition q few is) 0 qs each

-- ---- clients

given_again : (value : ℤ) → FitsSigned w64 value → IsRead given_at (signed value) (Some value)
unfolding given_at
given_again value fits = IsRead-last signed_at (λ v. Some v) (signed value) value (signed_again value fits)

reply_again : (r : Option ℤ) → IfSome r (FitsSigned w64) → IsRead (reply_at (reply_number r)) (reply_text r) r
reply_again None typed = record { again = (IsRead-none None).again }
reply_again (Some value) typed = record { again = (given_again value typed).again }

reply_small : (r : Option ℤ) → reply_number r ≤ 1
reply_small None = omega arith
reply_small (Some value) = omega arith

known_again : (seats : List Seat) (s : ℕ × ℕ) (k : Known) → IsKnownAfter seats s k → IsRead (known_at seats s) (known_bytes k) k
unfolding known_at
known_again seats s k h =
    let client = is_between-true (s.0 + 1) 256 k.client (and_parts _ _ h.client).0 in
    let sequence = is_between-true 1 1000000 k.entry.sequence (and_parts _ _ h.sequence).0 in
    let number = reply_number k.entry.reply in
    let last : IsRead (λ l. allowed_at w8 (may_be_replied seats k.client) l >>= λ replied. reply_at replied.0 replied.1 >>= λ reply. Ok (client_with k.client k.entry.sequence reply.0, reply.1)) (reply_bytes k.entry.reply) k =
    subst (λ (text : List ℕ). IsRead (λ l. allowed_at w8 (may_be_replied seats k.client) l >>= λ replied. reply_at replied.0 replied.1 >>= λ reply. Ok (client_with k.client k.entry.sequence reply.0, reply.1)) text k) (sym (reply_parts k.entry.reply))
    (IsRead-then (allowed_at w8 (may_be_replied seats k.client)) (λ replied. reply_at replied.0 replied.1 >>= λ reply. Ok (client_with k.client k.entry.sequence reply.0, reply.1)) (byte number) (reply_text k.entry.reply) number k (allowed_again wide8 (may_be_replied seats k.client) number (omega (arith, reply_small k.entry.reply)) h.replied)
    (IsRead-last (reply_at number) (client_with k.client k.entry.sequence) (reply_text k.entry.reply) k.entry.reply (reply_again k.entry.reply h.typed))) in
    IsRead-then (allowed_at w16 (may_be_client seats s.0 s.1)) _ (to_be_bytes w16 k.client) _ k.client k (allowed_again wide16 (may_be_client seats s.0 s.1) k.client (omega (arith, client.1)) h.client)
    (IsRead-then (allowed_at w32 (may_be_sequence seats k.client)) _ (to_be_bytes w32 k.entry.sequence) (reply_bytes k.entry.reply) k.entry.sequence k (allowed_again wide32 (may_be_sequence seats k.client) k.entry.sequence (omega (arith, sequence.1)) h.sequence) last)

pub clients_again : (seats : List Seat) (ks : List Known) → AreEach after_client (IsKnownAfter seats) (0, length ks - 1) ks → IsRead (clients_at seats (length ks)) (flat_map known_bytes ks) ks
clients_again seats ks each = list_again (known_at seats) after_client known_bytes (IsKnownAfter seats) (known_again seats) (0, length ks - 1) ks each

-- ---- the whole

pub parts_read : (service : Declarations) (p : Parts) → IsService service → AreParts service p → IsRead (parts_at service) (parts_bytes service p) p
unfolding parts_at
parts_read service p good are =
    let lanes = length p.seats in
    let few : lanes ≤ most_lanes = omega (arith, are.lanes, good.lanes) in
    let count = length p.clients in
    let counts = is_between-true (count_by (λ s. is_busy s.lane.frame) p.seats) 256 count are.count in
    let queues : IsRead (queues_at p.seats (length service.conditions)) (flat_map queue_bytes p.queues) p.queues = subst (λ (n : ℕ). IsRead (queues_at p.seats n) (flat_map queue_bytes p.queues) p.queues) are.conditions (queues_again p.seats p.queues few are.queues) in
    subst (λ (text : List ℕ). IsRead (parts_at service) text p) (sym (parts_text service p))
    (IsRead-then (version_at service) _ (byte (number_of p.version)) _ p.version p (version_again service p.version are.version)
    (IsRead-then (allowed_at w8 (λ n. n == service.lanes)) _ (byte lanes) _ lanes p (allowed_again wide8 (λ n. n == service.lanes) lanes (omega (arith, few)) (eq-eqb lanes service.lanes are.lanes))
    (IsRead-then (seats_at service lanes) _ (flat_map seat_bytes p.seats) _ p.seats p (seats_again service good p.seats are.seats)
    (IsRead-then (variables_at service p.version) _ (variables_bytes service p.version p.variables) _ p.variables p (variables_read service p.version p.variables good are.variables)
    (IsRead-then (queues_at p.seats (length service.conditions)) _ (flat_map queue_bytes p.queues) _ p.queues p queues
    (IsRead-then (levels_at (length service.semaphores)) _ (flat_map level_bytes p.semaphores) _ p.semaphores p (levels_again (length service.semaphores) p.semaphores are.semaphores)
    (IsRead-then (allowed_at w16 (may_be_count p.seats)) _ (to_be_bytes w16 count) (flat_map known_bytes p.clients) count p (allowed_again wide16 (may_be_count p.seats) count (omega (arith, counts.1)) are.count)
    (IsRead-last (clients_at p.seats count) (λ clients. parts_with p.version p.seats p.variables p.queues p.semaphores clients) (flat_map known_bytes p.clients) p.clients (clients_again p.seats p.clients are.clients)))))))))

pub parts_whole : (service : Declarations) (p : Parts) → IsService service → AreParts service p → parts_in service (parts_bytes service p) ≡ Ok p
unfolding parts_in
parts_whole service p good are = whole_again (parts_read service p good are)

pub no_parts_begin : (service : Declarations) (p q : Parts) (rest : List ℕ) → IsService service → AreParts service p → AreParts service q → parts_bytes service p ≡ parts_bytes service q ++ rest → (p ≡ q) × (rest ≡ [])
no_parts_begin service p q rest good hp hq same_bytes = begins_no_other (parts_read service p good hp) (parts_read service q good hq) rest same_bytes
