-- A snapshot is short.
use Rattle.std.proofs.Common.{◌≡◌, ℕ, zero, suc, ◌+◌, ◌-◌, ◌*◌, ◌<◌, ◌≤◌, Bool, true, false, ℤ, List, [], ◌∷◌, ◌++◌, length, get_or, refl, sym, ap, subst, arith, eqb, length-append}
use Rattle.std.specs.Prelude.{Option, Some, None, IfSome, slice_get}
use Rattle.std.specs.Int.{w16, w32, w64, to_be_bytes, cast_unsigned}
use Rattle.std.specs.List.{All, flat_map}
use Rattle.std.proofs.lemmas.List.{get_or_default, length-map, length-take-le, length_push}
use Rattle.std.proofs.lemmas.List.Concat.{length-flat_map, flat_map-append}
use Rattle.std.proofs.lemmas.List.Elements.{All-head, All-tail}
use Rattle.std.proofs.lemmas.List.Sums.{sum_by-le}
use Rattle.std.proofs.lemmas.Option.{slice_get-get_or}
use Rattle.rex_syntax.specs.declared.line.Line.{Line}
use Rattle.rex_syntax.specs.declared.line.Line.TheVariants.{Repeat, EndRepeat, EndIf}
use Rattle.rex_syntax.specs.declared.service.Declarations.{Declarations}
use Rattle.rex_syntax.specs.Service.{IsService}
use Rattle.rex_event.specs.Limits.{most_lanes}
use Rattle.rex_syntax.specs.declared.version.Version.{Version}
use Rattle.rex_syntax.specs.declared.version.Version.TheVariants.{One, Two}
use Rattle.rex_syntax.specs.Versions.{number_of}
use Rattle.rex_syntax.specs.Shape.{IsShaped, LeadsOn, open_at, open_after}
use Rattle.rex_frame.specs.declared.frame.Turn.{Turn}
use Rattle.rex_frame.specs.declared.frame.Frame.{Frame}
use Rattle.rex_frame.specs.Handlers.{FitsIn, lines_of}
use Rattle.rex_frame.specs.Weights.{body_of}
use Rattle.rex_frame.proofs.Shape.{open_at-next}
use Rattle.rex_state.specs.declared.lane.Lane.{Lane}
use Rattle.rex_state.specs.declared.lane.Queue.{Queue}
use Rattle.rex_state.specs.declared.lane.Entry.{Entry}
use Rattle.rex_state.specs.Machine.{no_lane, no_queue, frame_at, queue_at}
use Rattle.rex_state.specs.Sound.{with_flows}
use Rattle.rex_state.proofs.Names.{lane_in, waiting_there, handler_at, lines_are, locals_are}
use Rattle.rex_state.proofs.Rooms.{once_few}
use Rattle.rex_state.specs.Start.{first_of}
use Rattle.rex_wire.specs.Spelling.{byte, signed}
use Rattle.rex_wire.proofs.Numbers.{wide16, wide32, wide64}
use Rattle.rex_snapshot.specs.declared.parts.Known.{Known}
use Rattle.rex_snapshot.specs.declared.parts.Change.{Change}
use Rattle.rex_snapshot.specs.Changes.{firsts, changes_of}
use Rattle.rex_snapshot.specs.Parts.{waits_in, seat_of, seats_from, known_of, known_if, known_from, parts_of}
use Rattle.rex_snapshot.specs.Spelling.{turn_bytes, frame_bytes, busy_bytes, seat_bytes, waiter_bytes, queue_bytes, reply_bytes, known_bytes, change_bytes, changes_bytes, variables_bytes}
use Rattle.rex_snapshot.specs.Semaphores.{level_bytes}
use Rattle.rex_snapshot.specs.Laws.{SnapshotsAreShort}
use Rattle.rex_snapshot.proofs.Changes.{few_noted}
use Rattle.rex_snapshot.proofs.PartLaws.{parts_text}

-- ---- texts one after the other

both_short : (s t : List ℕ) (m n : ℕ) → length s ≤ m → length t ≤ n → length (s ++ t) ≤ m + n
both_short s t m n h k = omega (arith, h, k, length-append s t)

-- so many items, each of at most so many bytes
all_short : {A : Type 0} (spell : A → List ℕ) (most : ℕ) (xs : List A) → All (λ x. length (spell x) ≤ most) xs → length (flat_map spell xs) ≤ length xs * most
all_short spell most xs each = subst (λ (n : ℕ). n ≤ length xs * most) (sym (length-flat_map spell xs)) (sum_by-le (λ x. length (spell x)) most xs each)

two_bytes : (n : ℕ) → length (to_be_bytes w16 n) ≤ 2
two_bytes n = omega (arith, wide16.long n)

four_bytes : (n : ℕ) → length (to_be_bytes w32 n) ≤ 4
four_bytes n = omega (arith, wide32.long n)

eight_bytes : (v : ℤ) → length (signed v) ≤ 8
eight_bytes v = omega (arith, wide64.long (cast_unsigned w64 v))

values_short : (vs : List ℤ) → length (flat_map signed vs) ≤ length vs * 8
values_short vs = all_short signed 8 vs (λ i d lt. eight_bytes (get_or vs i d))

levels_short : (vs : List ℕ) → length (flat_map level_bytes vs) ≤ length vs * 4
levels_short vs = all_short level_bytes 4 vs (λ i d lt. four_bytes (get_or vs i d))

turns_short : (ts : List Turn) → length (flat_map turn_bytes ts) ≤ length ts * 2
turns_short ts = all_short turn_bytes 2 ts (λ i d lt. two_bytes (get_or ts i d).left)

-- ---- frames

few_after : (lines : List Line) (place : ℕ) (line : Line) → LeadsOn lines place line → length (open_at lines place) ≤ 4 → length (open_after line place (open_at lines place)) ≤ 4
few_after lines place (Repeat turns after) h few = omega (arith, h.room, length_push (open_at lines place) (place + 1))
few_after lines place EndRepeat h few = omega (arith, few, length-take-le (length (open_at lines place) - 1) (open_at lines place))
few_after lines place _ h few = few

-- at most four loops are open at a line
few_open : (lines : List Line) → IsShaped lines → (place : ℕ) → place < length lines → length (open_at lines place) ≤ 4
few_open lines shaped zero lt = omega arith
few_open lines shaped (suc n) lt =
    let there : n < length lines = omega (arith, lt) in
    let line = get_or lines n EndIf in
    let e : slice_get lines n ≡ Some line = slice_get-get_or lines n EndIf there in
    let next : suc n ≡ n + 1 = omega arith in
    subst (λ (k : ℕ). length (open_at lines k) ≤ 4) (sym next) (subst (λ (loops : List ℕ). length loops ≤ 4) (sym (open_at-next lines n line e)) (few_after lines n line (shaped.each n line e) (few_open lines shaped n there)))

module _ (service : Declarations) (good : IsService service) where
  few_locals : (f : Frame) → FitsIn service f → length f.locals.items ≤ 16
  few_locals f fits = omega (arith, fits.locals, locals_are service good f.handler fits.handler, (handler_at service good f.handler fits.handler).locals)

  few_turns : (f : Frame) → FitsIn service f → length f.turns.items ≤ 4
  few_turns f fits =
      let shaped : IsShaped (lines_of service f.handler) = subst IsShaped (sym (lines_are service good f.handler fits.handler)) (handler_at service good f.handler fits.handler).shaped in
      let few = few_open (lines_of service f.handler) shaped f.place fits.inside.place in
      omega (arith, few, length-map f.turns.items body_of, ap length fits.inside.turns)

  frame_short : (f : Frame) → FitsIn service f → length (frame_bytes f) ≤ 145
  frame_short f fits =
      let locals : length (flat_map signed f.locals.items) ≤ 128 = omega (arith, values_short f.locals.items, few_locals f fits) in
      let turns : length (flat_map turn_bytes f.turns.items) ≤ 8 = omega (arith, turns_short f.turns.items, few_turns f fits) in
      let values : List ℕ = flat_map signed f.locals.items ++ flat_map turn_bytes f.turns.items in
      let place : List ℕ = to_be_bytes w16 (f.place + 1) ++ values in
      let handler : List ℕ = byte (f.handler + 1) ++ place in
      let sequence : List ℕ = to_be_bytes w32 f.sequence ++ handler in
      let five = both_short (flat_map signed f.locals.items) (flat_map turn_bytes f.turns.items) 128 8 locals turns in
      let four = both_short (to_be_bytes w16 (f.place + 1)) values 2 136 (two_bytes (f.place + 1)) five in
      let three = both_short (byte (f.handler + 1)) place 1 138 (omega arith) four in
      let two = both_short (to_be_bytes w32 f.sequence) handler 4 139 (four_bytes f.sequence) three in
      both_short (to_be_bytes w16 f.client) sequence 2 143 (two_bytes f.client) two

  busy_short : (o : Option Frame) (waits : Option ℕ) → IfSome o (FitsIn service) → length (busy_bytes o waits) ≤ 146
  busy_short None waits fits = omega arith
  busy_short (Some f) waits fits = omega (arith, frame_short f fits)

  -- the frame of a lane fits, if it has one
  record LaneFits (lane : Lane) : Type 0 where
    pub frame : IfSome lane.frame (FitsIn service)

  seats_short : (queues : List Queue) (n : ℕ) (lanes : List Lane) → All LaneFits lanes → length (flat_map seat_bytes (seats_from queues n lanes)) ≤ length lanes * 150
  seats_short queues n [] fit = omega arith
  seats_short queues n (lane ∷ lanes) fit =
      let waits = waits_in queues n in
      let first = both_short (to_be_bytes w32 lane.done) (busy_bytes lane.frame waits) 4 146 (four_bytes lane.done) (busy_short lane.frame waits (All-head LaneFits lane lanes fit).frame) in
      let others = seats_short queues (n + 1) lanes (All-tail LaneFits lane lanes fit) in
      omega (arith, first, others, length-append (seat_bytes (seat_of lane waits)) (flat_map seat_bytes (seats_from queues (n + 1) lanes)))

-- ---- queues

queue_short : (q : Queue) → length q.lanes.items ≤ most_lanes → length (queue_bytes q) ≤ 65
queue_short q few =
    let each : length (flat_map waiter_bytes q.lanes.items) ≤ length q.lanes.items * 1 = all_short waiter_bytes 1 q.lanes.items (λ i d lt. omega arith) in
    omega (arith, few, each)

-- ---- clients

reply_short : (r : Option ℤ) → length (reply_bytes r) ≤ 9
reply_short None = omega arith
reply_short (Some value) = omega (arith, eight_bytes value)

known_short : (k : Known) → length (known_bytes k) ≤ 15
known_short k =
    let request : List ℕ = to_be_bytes w32 k.entry.sequence ++ reply_bytes k.entry.reply in
    both_short (to_be_bytes w16 k.client) request 2 13 (two_bytes k.client) (both_short (to_be_bytes w32 k.entry.sequence) (reply_bytes k.entry.reply) 4 9 (four_bytes k.entry.sequence) (reply_short k.entry.reply))

if_short : (n : ℕ) (e : Entry) → length (flat_map known_bytes (known_if n e)) ≤ 15
if_short n e = by (eqb e.sequence 0) refl
  where
    by : (b : Bool) → eqb e.sequence 0 ≡ b → length (flat_map known_bytes (known_if n e)) ≤ 15
    by true is =
        let none : known_if n e ≡ [] = rw is refl in
        subst (λ (ks : List Known). length (flat_map known_bytes ks) ≤ 15) (sym none) (omega arith)
    by false is =
        let one : known_if n e ≡ known_of n e ∷ [] = rw is refl in
        subst (λ (ks : List Known). length (flat_map known_bytes ks) ≤ 15) (sym one) (omega (arith, known_short (known_of n e), length-append (known_bytes (known_of n e)) []))

clients_short : (n : ℕ) (es : List Entry) → length (flat_map known_bytes (known_from n es)) ≤ length es * 15
clients_short n [] = omega arith
clients_short n (e ∷ es) =
    let parts = flat_map-append known_bytes (known_if n e) (known_from (n + 1) es) in
    omega (arith, ap length parts, length-append (flat_map known_bytes (known_if n e)) (flat_map known_bytes (known_from (n + 1) es)), if_short n e, clients_short (n + 1) es)

-- ---- variables

change_short : (c : Change) → length (change_bytes c) ≤ 10
change_short c = both_short (to_be_bytes w16 (c.variable + 1)) (signed c.value) 2 8 (two_bytes (c.variable + 1)) (eight_bytes c.value)

changes_short : (cs : List Change) (most : ℕ) → length cs ≤ most → length (changes_bytes cs) ≤ 2 + most * 10
changes_short cs most few =
    let each = all_short change_bytes 10 cs (λ i d lt. change_short (get_or cs i d)) in
    both_short (to_be_bytes w16 (length cs)) (flat_map change_bytes cs) 2 (most * 10) (two_bytes (length cs)) (omega (arith, each, few))

-- so many variables, at most 1,024, have at most 10,242 bytes in each version
variables_short : (service : Declarations) (v : Version) (vs : List ℤ) → length service.variables ≤ 1024 → length vs ≡ length service.variables → length (variables_bytes service v vs) ≤ 10242
variables_short service One vs few long = omega (arith, values_short vs, few, long)
variables_short service Two vs few long =
    let noted : length (changes_of service vs) ≤ 1024 = omega (arith, few, few_noted 0 (firsts service) vs, length-map service.variables first_of) in
    omega (arith, changes_short (changes_of service vs) 1024 noted)

-- ---- the whole

pub snapshots_are_short : SnapshotsAreShort
snapshots_are_short service version s good old sound limited =
    let p = parts_of version s in
    let few : length s.lanes ≤ most_lanes = omega (arith, sound.by.complete.lanes, good.lanes) in
    let fit : All (LaneFits service good) s.lanes = λ i d lt.
    let own : LaneFits service good (get_or s.lanes i no_lane) = record { frame = lane_in (with_flows service sound.flows) (frame_at s i) (sound.by.fits i) } in
    subst (LaneFits service good) (get_or_default s.lanes i no_lane d lt) own in
    let queued : All (λ q. length (queue_bytes q) ≤ 65) s.queues = λ i d lt.
    let short : length (queue_at s.queues i) ≤ most_lanes = once_few (queue_at s.queues i) most_lanes (sound.by.queued.once i) (λ lane h. omega (arith, waiting_there service s i lane sound.by.queued h, few)) in
    subst (λ (q : Queue). length (queue_bytes q) ≤ 65) (get_or_default s.queues i no_queue d lt) (queue_short (get_or s.queues i no_queue) short) in
    let seats : length (flat_map seat_bytes p.seats) ≤ 9600 = omega (arith, few, seats_short service good s.queues 0 s.lanes fit) in
    let variables : length (variables_bytes service version s.variables) ≤ 10242 = variables_short service version s.variables (omega (arith, good.few_variables)) sound.by.complete.variables in
    let queues : length (flat_map queue_bytes s.queues) ≤ 4160 = omega (arith, all_short queue_bytes 65 s.queues queued, sound.by.complete.queues, good.few_conditions) in
    let semaphores : length (flat_map level_bytes s.semaphores) ≤ 256 = omega (arith, levels_short s.semaphores, sound.by.complete.semaphores, good.few_semaphores) in
    let clients : length (flat_map known_bytes p.clients) ≤ 3855 = omega (arith, clients_short 0 s.clients, sound.by.complete.clients) in
    let count : List ℕ = to_be_bytes w16 (length p.clients) ++ flat_map known_bytes p.clients in
    let levels : List ℕ = flat_map level_bytes s.semaphores ++ count in
    let waiting : List ℕ = flat_map queue_bytes s.queues ++ levels in
    let values : List ℕ = variables_bytes service version s.variables ++ waiting in
    let lanes : List ℕ = flat_map seat_bytes p.seats ++ values in
    let six = both_short (to_be_bytes w16 (length p.clients)) (flat_map known_bytes p.clients) 2 3855 (two_bytes (length p.clients)) clients in
    let five = both_short (flat_map level_bytes s.semaphores) count 256 3857 semaphores six in
    let four = both_short (flat_map queue_bytes s.queues) levels 4160 4113 queues five in
    let three = both_short (variables_bytes service version s.variables) waiting 10242 8273 variables four in
    let two = both_short (flat_map seat_bytes p.seats) values 9600 18515 seats three in
    let one = both_short (byte (length p.seats)) lanes 1 28115 (omega arith) two in
    let whole = both_short (byte (number_of version)) (byte (length p.seats) ++ lanes) 1 28116 (omega arith) one in
    subst (λ (text : List ℕ). length text ≤ 65536) (sym (parts_text service p)) (omega (arith, whole))
