-- Queues, clients and the whole: what is read is spelled so.
use Rattle.std.proofs.Common.{◌≡◌, ℕ, ◌+◌, ◌-◌, Bool, true, false, ℤ, List, [], ◌++◌, length, Ok, refl, sym, subst, ◌∙◌, arith, FitsSigned, w64, eqb, append_assoc}
use Rattle.std.specs.Prelude.{◌==◌, Option, Some, None, IfSome, if◌then◌else◌}
use Rattle.std.specs.Int.{w16, w32, to_be_bytes}
use Rattle.std.specs.List.{All, flat_map}
use Rattle.std.proofs.lemmas.Bool.{eqb-true, and_parts}
use Rattle.arrayvec.specs.ArrayVec.{ArrayVec}
use Rattle.rex_syntax.specs.declared.service.Declarations.{Declarations}
use Rattle.rex_syntax.specs.declared.version.Version.{Version}
use Rattle.rex_syntax.specs.Versions.{number_of, has_version}
use Rattle.rex_state.specs.declared.lane.Queue.{Queue}
use Rattle.rex_wire.specs.Reading.{Left}
use Rattle.rex_wire.specs.Spelling.{byte, signed}
use Rattle.rex_wire.proofs.Fields.{IsBytes, is_taken, Takes, Takes-none, Takes-then, IsSpelled, IsSpelled-either, step}
use Rattle.rex_wire.proofs.Whole.{whole_found}
use Rattle.rex_wire.proofs.Numbers.{wide8, wide16, wide32, allowed_spelled, signed_spelled}
use Rattle.rex_wire.proofs.Ranges.{is_between-true}
use Rattle.rex_snapshot.specs.declared.parts.Seat.{Seat}
use Rattle.rex_snapshot.specs.declared.parts.Known.{Known}
use Rattle.rex_snapshot.specs.declared.parts.Parts.{Parts}
use Rattle.rex_snapshot.specs.Spelling.{seat_bytes, waiter_bytes, queue_bytes, reply_bytes, known_bytes, variables_bytes, parts_bytes}
use Rattle.rex_snapshot.specs.Allowed.{is_served, waiters, may_be_waiter, may_be_count, may_be_client, may_be_sequence, may_be_replied}
use Rattle.rex_snapshot.specs.Reading.{with_last, counted, waiter_at, queue_at, queues_at, given_at, reply_at, after_client, known_at, clients_at, parts_at, parts_in}
use Rattle.rex_wire.proofs.Lists.{AreEach}
use Rattle.rex_snapshot.proofs.ListLaws.{list_spelled, array_spelled}
use Rattle.rex_snapshot.specs.Semaphores.{level_bytes}
use Rattle.rex_snapshot.proofs.Levels.{AreLevels, levels_spelled}
use Rattle.rex_snapshot.proofs.LaneLaws.{AreValues, IsSeat, seats_spelled}
use Rattle.rex_snapshot.proofs.Variables.{version_spelled, variables_spelled}

-- ---- queues

abbrev pub MayWait : List Seat → ℕ → List ℕ → ℕ → Type 0
MayWait seats condition earlier lane = may_be_waiter seats condition earlier (lane + 1) ≡ true

waiter_spelled : (seats : List Seat) (condition : ℕ) (earlier : List ℕ) → IsSpelled (waiter_at seats condition earlier) waiter_bytes (MayWait seats condition earlier)
unfolding waiter_at
waiter_spelled seats condition earlier = record {
  takes = λ l x bytes e.
      let a = step (allowed_spelled wide8 (may_be_waiter seats condition earlier)) l _ x bytes e in
      let range = is_between-true 1 (length seats) a.value (and_parts _ _ a.may).0 in
      let back : (a.value - 1) + 1 ≡ a.value = omega (arith, range.0) in
      let spelled : Takes l (byte ((a.value - 1) + 1)) a.left = rw back a.takes in
      let may : MayWait seats condition earlier (a.value - 1) = rw back a.may in
      is_taken waiter_bytes (MayWait seats condition earlier) l (a.value - 1, a.left) x a.next (spelled, may);
}

-- the lanes that wait at the condition, as many as do
pub record IsQueueOf (seats : List Seat) (condition : ℕ) (q : Queue) : Type 0 where
  pub long : length q.lanes.items ≡ waiters seats condition
  pub lanes : AreEach with_last (MayWait seats condition) [] q.lanes.items

abbrev pub queue_of : ArrayVec ℕ → Queue
queue_of lanes = record { lanes = lanes }

queue_taken : (l a b : Left) (count : ℕ) (lanes : ArrayVec ℕ) → Takes l (byte count) a → Takes a (flat_map waiter_bytes lanes.items) b → length lanes.items ≡ count → Takes l (queue_bytes (queue_of lanes)) b
queue_taken l a b count lanes first second long =
    let one : Takes l (byte (length lanes.items)) a = rw long first in
    Takes-then l a b (byte (length lanes.items)) (flat_map waiter_bytes lanes.items) one second

pub queue_spelled : (seats : List Seat) (condition : ℕ) → IsSpelled (queue_at seats condition) queue_bytes (IsQueueOf seats condition)
unfolding queue_at
queue_spelled seats condition = record {
  takes = λ l x bytes e.
      let count = step (allowed_spelled wide8 (λ n. n == waiters seats condition)) l _ x bytes e in
      let lanes = step (array_spelled (list_spelled (waiter_at seats condition) with_last waiter_bytes (MayWait seats condition) (waiter_spelled seats condition) count.value [])) count.left _ x count.takes.bytes count.next in
      let is : IsQueueOf seats condition (queue_of lanes.value) = record { long = lanes.may.1 ∙ eqb-true count.value (waiters seats condition) count.may; lanes = lanes.may.0 } in
      is_taken queue_bytes (IsQueueOf seats condition) l (queue_of lanes.value, lanes.left) x lanes.next (queue_taken l count.left lanes.left count.value lanes.value count.takes lanes.takes lanes.may.1, is);
}

pub queues_spelled : (seats : List Seat) (n : ℕ) → IsSpelled (queues_at seats n) (flat_map queue_bytes) (λ qs. AreEach counted (IsQueueOf seats) 0 qs × (length qs ≡ n))
queues_spelled seats n = list_spelled (queue_at seats) counted queue_bytes (IsQueueOf seats) (queue_spelled seats) n 0

-- ---- clients

-- whether there is a reply, as a number
abbrev pub reply_number : Option ℤ → ℕ
reply_number None = 0
reply_number (Some value) = 1

-- what follows that number
abbrev pub reply_text : Option ℤ → List ℕ
reply_text None = []
reply_text (Some value) = signed value

pub reply_parts : (r : Option ℤ) → reply_bytes r ≡ byte (reply_number r) ++ reply_text r
reply_parts None = refl
reply_parts (Some value) = refl

-- a reply that was read after this number
pub record IsReply (replied : ℕ) (r : Option ℤ) : Type 0 where
  pub number : reply_number r ≡ replied
  pub typed : IfSome r (FitsSigned w64)

given_spelled : (replied : ℕ) → replied ≡ 1 → IsSpelled given_at reply_text (IsReply replied)
unfolding given_at
given_spelled replied one = record {
  takes = λ l x bytes e.
      let v = step signed_spelled l _ x bytes e in
      is_taken reply_text (IsReply replied) l (Some v.value, v.left) x v.next (v.takes, record { number = sym one; typed = v.may });
}

none_spelled : (replied : ℕ) → eqb replied 0 ≡ true → IsSpelled (λ l. Ok (None, l)) reply_text (IsReply replied)
none_spelled replied none = record {
  takes = λ l x bytes e. is_taken reply_text (IsReply replied) l (None, l) x e (Takes-none l bytes, record { number = sym (eqb-true replied 0 none); typed = tt });
}

pub reply_spelled : (replied : ℕ) → (eqb replied 0 ≡ false → replied ≡ 1) → IsSpelled (reply_at replied) reply_text (IsReply replied)
reply_spelled replied one = IsSpelled-either (replied == 0) (λ l. Ok (None, l)) given_at reply_text (IsReply replied) (λ none. none_spelled replied none) (λ some. given_spelled replied (one some))

replied_is : (served : Bool) (n : ℕ) → (if served then (n == 0) else (n == 1)) ≡ true → eqb n 0 ≡ false → n ≡ 1
replied_is true n h some = absurd (cc)
replied_is false n h some = eqb-true n 1 h

-- a client that was read after the client `s.0`, with `s.1` more after it
pub record IsKnownAfter (seats : List Seat) (s : ℕ × ℕ) (k : Known) : Type 0 where
  pub client : may_be_client seats s.0 s.1 k.client ≡ true
  pub sequence : may_be_sequence seats k.client k.entry.sequence ≡ true
  pub replied : may_be_replied seats k.client (reply_number k.entry.reply) ≡ true
  pub typed : IfSome k.entry.reply (FitsSigned w64)

abbrev pub client_with : ℕ → ℕ → Option ℤ → Known
client_with client sequence reply = record { client = client; entry = record { sequence = sequence; reply = reply } }

known_taken : (l a b c d : Left) (client sequence replied : ℕ) (reply : Option ℤ) → Takes l (to_be_bytes w16 client) a → Takes a (to_be_bytes w32 sequence) b → Takes b (byte replied) c → Takes c (reply_text reply) d → reply_number reply ≡ replied → Takes l (known_bytes (client_with client sequence reply)) d
known_taken l a b c d client sequence replied reply t1 t2 t3 t4 number =
    let three : Takes b (byte (reply_number reply)) c = rw number t3 in
    let both : Takes b (reply_bytes reply) d = subst (λ (text : List ℕ). Takes b text d) (sym (reply_parts reply)) (Takes-then b c d (byte (reply_number reply)) (reply_text reply) three t4) in
    Takes-then l a d (to_be_bytes w16 client) _ t1 (Takes-then a b d (to_be_bytes w32 sequence) (reply_bytes reply) t2 both)

known_is : (seats : List Seat) (s : ℕ × ℕ) (client sequence replied : ℕ) (reply : Option ℤ) → may_be_client seats s.0 s.1 client ≡ true → may_be_sequence seats client sequence ≡ true → may_be_replied seats client replied ≡ true → IsReply replied reply → IsKnownAfter seats s (client_with client sequence reply)
known_is seats s client sequence replied reply h1 h2 h3 h4 = record { client = h1; sequence = h2; replied = rw h4.number h3; typed = h4.typed }

pub known_spelled : (seats : List Seat) (s : ℕ × ℕ) → IsSpelled (known_at seats s) known_bytes (IsKnownAfter seats s)
unfolding known_at
known_spelled seats s = record {
  takes = λ l x bytes e.
      let client = step (allowed_spelled wide16 (may_be_client seats s.0 s.1)) l _ x bytes e in
      let sequence = step (allowed_spelled wide32 (may_be_sequence seats client.value)) client.left _ x client.takes.bytes client.next in
      let replied = step (allowed_spelled wide8 (may_be_replied seats client.value)) sequence.left _ x sequence.takes.bytes sequence.next in
      let reply = step (reply_spelled replied.value (replied_is (is_served seats client.value) replied.value replied.may)) replied.left _ x replied.takes.bytes replied.next in
      is_taken known_bytes (IsKnownAfter seats s) l (client_with client.value sequence.value reply.value, reply.left) x reply.next (
        known_taken l client.left sequence.left replied.left reply.left client.value sequence.value replied.value reply.value client.takes sequence.takes replied.takes reply.takes reply.may.number,
        known_is seats s client.value sequence.value replied.value reply.value client.may sequence.may replied.may reply.may,
      );
}

pub clients_spelled : (seats : List Seat) (n : ℕ) → IsSpelled (clients_at seats n) (flat_map known_bytes) (λ ks. AreEach after_client (IsKnownAfter seats) (0, n - 1) ks × (length ks ≡ n))
clients_spelled seats n = list_spelled (known_at seats) after_client known_bytes (IsKnownAfter seats) (known_spelled seats) n (0, n - 1)

-- ---- the whole

-- parts that were read
pub record AreParts (service : Declarations) (p : Parts) : Type 0 where
  pub version : has_version service p.version ≡ true
  pub seats : AreEach with_last (IsSeat service) [] p.seats
  pub lanes : length p.seats ≡ service.lanes
  pub variables : AreValues (length service.variables) p.variables
  pub queues : AreEach counted (IsQueueOf p.seats) 0 p.queues
  pub conditions : length p.queues ≡ length service.conditions
  pub semaphores : AreLevels (length service.semaphores) p.semaphores
  pub count : may_be_count p.seats (length p.clients) ≡ true
  pub clients : AreEach after_client (IsKnownAfter p.seats) (0, length p.clients - 1) p.clients

abbrev pub parts_with : Version → List Seat → List ℤ → List Queue → List ℕ → List Known → Parts
parts_with version seats variables queues semaphores clients = record { version = version; seats = seats; variables = variables; queues = queues; semaphores = semaphores; clients = clients }

pub parts_text : (service : Declarations) (p : Parts)
    → parts_bytes service p ≡ byte (number_of p.version) ++ (byte (length p.seats) ++ (flat_map seat_bytes p.seats ++ (variables_bytes service p.version p.variables ++ (flat_map queue_bytes p.queues ++ (flat_map level_bytes p.semaphores ++ (to_be_bytes w16 (length p.clients) ++ flat_map known_bytes p.clients))))))
parts_text service p = simp append_assoc

parts_taken : (service : Declarations) (l a b c d e s f g : Left) (lanes count : ℕ) (p : Parts) → Takes l (byte (number_of p.version)) a → Takes a (byte lanes) b → Takes b (flat_map seat_bytes p.seats) c → Takes c (variables_bytes service p.version p.variables) d → Takes d (flat_map queue_bytes p.queues) e
    → Takes e (flat_map level_bytes p.semaphores) s → Takes s (to_be_bytes w16 count) f → Takes f (flat_map known_bytes p.clients) g → length p.seats ≡ lanes → length p.clients ≡ count → Takes l (parts_bytes service p) g
parts_taken service l a b c d e s f g lanes count p t1 t2 t3 t4 t5 t6 t7 t8 e2 e3 =
    let two : Takes a (byte (length p.seats)) b = rw e2 t2 in
    let seven : Takes s (to_be_bytes w16 (length p.clients)) f = rw e3 t7 in
    subst (λ (text : List ℕ). Takes l text g) (sym (parts_text service p))
    (Takes-then l a g (byte (number_of p.version)) _ t1
    (Takes-then a b g (byte (length p.seats)) _ two
    (Takes-then b c g (flat_map seat_bytes p.seats) _ t3
    (Takes-then c d g (variables_bytes service p.version p.variables) _ t4
    (Takes-then d e g (flat_map queue_bytes p.queues) _ t5
    (Takes-then e s g (flat_map level_bytes p.semaphores) _ t6
    (Takes-then s f g (to_be_bytes w16 (length p.clients)) (flat_map known_bytes p.clients) seven t8)))))))

parts_are : (service : Declarations) (lanes count : ℕ) (p : Parts) → has_version service p.version ≡ true → lanes ≡ service.lanes → AreEach with_last (IsSeat service) [] p.seats × (length p.seats ≡ lanes) → length p.variables ≡ length service.variables → AreEach counted (IsQueueOf p.seats) 0 p.queues × (length p.queues ≡ length service.conditions)
    → AreLevels (length service.semaphores) p.semaphores → may_be_count p.seats count ≡ true → AreEach after_client (IsKnownAfter p.seats) (0, count - 1) p.clients × (length p.clients ≡ count) → All (FitsSigned w64) p.variables → AreParts service p
parts_are service lanes count p has e seats variables queues semaphores counts clients typed = record {
  version = has;
  seats = seats.0;
  lanes = seats.1 ∙ e;
  variables = record { typed = typed; long = variables };
  queues = queues.0;
  conditions = queues.1;
  semaphores = semaphores;
  count = subst (λ (n : ℕ). may_be_count p.seats n ≡ true) (sym clients.1) counts;
  clients = subst (λ (n : ℕ). AreEach after_client (IsKnownAfter p.seats) (0, n - 1) p.clients) (sym clients.1) clients.0;
}

pub parts_spelled : (service : Declarations) → IsSpelled (parts_at service) (parts_bytes service) (λ p. All (FitsSigned w64) p.variables → AreParts service p)
unfolding parts_at
parts_spelled service = record {
  takes = λ l x bytes e.
      let version = step (version_spelled service) l _ x bytes e in
      let lanes = step (allowed_spelled wide8 (λ n. n == service.lanes)) version.left _ x version.takes.bytes version.next in
      let seats = step (seats_spelled service lanes.value) lanes.left _ x lanes.takes.bytes lanes.next in
      let variables = step (variables_spelled service version.value) seats.left _ x seats.takes.bytes seats.next in
      let queues = step (queues_spelled seats.value (length service.conditions)) variables.left _ x variables.takes.bytes variables.next in
      let semaphores = step (levels_spelled (length service.semaphores)) queues.left _ x queues.takes.bytes queues.next in
      let count = step (allowed_spelled wide16 (may_be_count seats.value)) semaphores.left _ x semaphores.takes.bytes semaphores.next in
      let clients = step (clients_spelled seats.value count.value) count.left _ x count.takes.bytes count.next in
      let p = parts_with version.value seats.value variables.value queues.value semaphores.value clients.value in
      is_taken (parts_bytes service) (λ q. All (FitsSigned w64) q.variables → AreParts service q) l (p, clients.left) x clients.next (
        parts_taken service l version.left lanes.left seats.left variables.left queues.left semaphores.left count.left clients.left lanes.value count.value p version.takes lanes.takes seats.takes variables.takes queues.takes semaphores.takes count.takes clients.takes seats.may.1 clients.may.1,
        λ typed. parts_are service lanes.value count.value p version.may (eqb-true lanes.value service.lanes lanes.may) seats.may variables.may queues.may semaphores.may count.may clients.may typed,
      );
}

-- what is read whole is all of the bytes
pub parts_found : (service : Declarations) (bytes : List ℕ) (p : Parts) → IsBytes bytes → parts_in service bytes ≡ Ok p → All (FitsSigned w64) p.variables → AreParts service p × (bytes ≡ parts_bytes service p)
unfolding parts_in
parts_found service bytes p are e typed = let f = whole_found (parts_spelled service) bytes p are e in (f.has typed, f.bytes_are)
