-- Parts that were read make a sound state within the limits, whose parts they are.
use Rattle.std.proofs.Common.{◌≡◌, ◌⊎◌, inl, inr, ℕ, suc, ◌+◌, ◌-◌, ◌<◌, ◌≤◌, Bool, true, false, ℤ, List, [], ◌∷◌, length, take, set, get_or, refl, ap, sym, ◌∙◌, subst, arith, eqb-true, eq-eqb}
use Rattle.std.specs.Prelude.{◌==◌, Option, Some, None, IfSome, not, if◌then◌else◌}
use Rattle.std.specs.List.{All, list_all, list_any, count_by}
use Rattle.std.proofs.lemmas.Bool.{true≢false, and_parts, and_from, not-true, leb-true, lt-ltb, cases_lt, cases_eq}
use Rattle.std.proofs.lemmas.List.{length-map, length-replicate, get_or-set_other, get_or_past}
use Rattle.std.proofs.lemmas.List.Folds.{list_any_at}
use Rattle.std.proofs.lemmas.List.Sums.{AllPass-from_list_all}
use Rattle.std.proofs.lemmas.List.Elements.{All-map, All-set, All-replicate, All-head, All-tail}
use Rattle.rex_syntax.specs.declared.service.Declarations.{Declarations}
use Rattle.rex_syntax.specs.Service.{IsService}
use Rattle.rex_event.specs.Order.{Has}
use Rattle.rex_frame.specs.declared.frame.Frame.{Frame}
use Rattle.rex_state.specs.declared.lane.Lane.{Lane}
use Rattle.rex_state.specs.declared.lane.Entry.{Entry}
use Rattle.rex_state.specs.Locks.{mode_in_frame}
use Rattle.rex_state.specs.Machine.{no_entry, frame_at, entry_at, queue_at}
use Rattle.rex_state.specs.Flows.{IsFlows}
use Rattle.rex_state.specs.Sound.{Fits, Placed, WaitsAt, IsServed, IsSoundBy, IsSound, with_flows}
use Rattle.rex_wire.specs.Ranges.{is_between}
use Rattle.rex_wire.proofs.Ranges.{is_between-true}
use Rattle.rex_state.specs.Start.{no_entries}
use Rattle.rex_snapshot.specs.declared.parts.Seat.{Seat}
use Rattle.rex_snapshot.specs.declared.parts.Known.{Known}
use Rattle.rex_snapshot.specs.declared.parts.Parts.{Parts}
use Rattle.rex_snapshot.specs.Parts.{lane_in, known_of, known_from, entered, HasPlace, state_of, parts_of}
use Rattle.rex_snapshot.specs.Spelling.{HasFewEvents, EntryFits, LaneIsTyped, EntryIsTyped, HasSpelling, FrameIsTyped}
use Rattle.rex_snapshot.specs.Allowed.{no_seat, serves, is_served, is_busy, is_beyond, is_skipped, has_sequence}
use Rattle.rex_snapshot.specs.Reading.{with_last, after_client}
use Rattle.rex_snapshot.proofs.Counting.{count_some, count_fewer}
use Rattle.rex_wire.proofs.Lists.{AreEach}
use Rattle.rex_snapshot.proofs.ListLaws.{AreEach-all}
use Rattle.rex_snapshot.proofs.LaneLaws.{IsPlaced, IsSeat}
use Rattle.rex_snapshot.proofs.PartLaws.{IsKnownAfter, reply_number, AreParts}
use Rattle.rex_snapshot.proofs.Entries.{AreRising, known_again, length-entered, IsEntryOf, known_entry, entry_known}
use Rattle.rex_snapshot.proofs.Sounding.{seat_lane, frame_in, busy_seat_at, line_waits, frame_sound, alone, clients_apart}
use Rattle.rex_snapshot.proofs.Queueing.{waiting_frame, queued_waits, queued_once, seats_again}

-- ---- lanes

-- the frame of a lane
pub frame_is : (p : Parts) (lane : ℕ) → frame_at (state_of p) lane ≡ frame_in p.seats lane
frame_is p lane = ap (λ (x : Lane). x.frame) (seat_lane p.seats lane)

module _ (service : Declarations) (flows : _) (good : IsService service) (right : IsFlows (with_flows service flows)) (seats : List Seat) (each : AreEach with_last (IsSeat service) [] seats) where
  fits_by : (lane : ℕ) (o : Option Frame) → frame_in seats lane ≡ o → Fits (with_flows service flows) o × Placed service o
  fits_by lane None e = (tt, tt)
  fits_by lane (Some f) e =
      let b = busy_seat_at service seats lane f each e in
      let s = frame_sound service flows good right (take lane seats) f b.busy.frame in
      (s.fits, s.placed)

-- ---- clients

rising_each : (seats : List Seat) (s : ℕ × ℕ) (ks : List Known) → AreEach after_client (IsKnownAfter seats) s ks → AreRising s.0 ks
rising_each seats s [] each = tt
rising_each seats s (k ∷ ks) each =
    let range = is_between-true (s.0 + 1) 256 k.client (and_parts _ _ each.0.client).0 in
    let some = is_between-true 1 1000000 k.entry.sequence (and_parts _ _ each.0.sequence).0 in
    (record { above_it = omega (arith, range.0); most = range.1; sent = some.0 }, rising_each seats (after_client s k) ks each.1)

-- a client was read after some other
pub record ReadAfter (seats : List Seat) (k : Known) : Type 0 where
  pub above : ℕ
  pub left : ℕ
  pub known : IsKnownAfter seats (above, left) k

read_each : (seats : List Seat) (s : ℕ × ℕ) (ks : List Known) (k : Known) → AreEach after_client (IsKnownAfter seats) s ks → Has k ks → ReadAfter seats k
read_each seats s [] k each h = absurd h
read_each seats s (x ∷ xs) k each (inl e) = subst (ReadAfter seats) e (record { above = s.0; left = s.1; known = each.0 })
read_each seats s (x ∷ xs) k each (inr h) = read_each seats (after_client s x) xs k each.1 h

-- a client of a lane is among those that were read
pub record Found (ks : List Known) (client : ℕ) : Type 0 where
  pub known : Known
  pub has : Has known ks
  pub client_is : known.client ≡ client

found_later : (k : Known) (ks : List Known) (client : ℕ) → Found ks client → Found (k ∷ ks) client
found_later k ks client f = record { known = f.known; has = inr f.has; client_is = f.client_is }

beyond_is : (above : ℕ) (f : Frame) (o : Option Frame) → o ≡ Some f → above < f.client → is_beyond above o ≡ true
beyond_is above f o e less = subst (λ (x : Option Frame). is_beyond above x ≡ true) (sym e) (lt-ltb above f.client less)

covered : (seats : List Seat) (lane : ℕ) (f : Frame) (s : ℕ × ℕ) (ks : List Known) → lane < length seats → frame_in seats lane ≡ Some f → AreEach after_client (IsKnownAfter seats) s ks → s.1 ≡ length ks - 1 → count_by (λ x. is_beyond s.0 x.lane.frame) seats ≤ length ks → s.0 < f.client → Found ks f.client
covered seats lane f s [] there e each left room less =
    absurd (omega (arith, room, count_some (λ x. is_beyond s.0 x.lane.frame) seats lane no_seat there (beyond_is s.0 f (frame_in seats lane) e less)))
covered seats lane f s (k ∷ ks) there e each left room less =
    let a = and_parts (is_between (s.0 + 1) 256 k.client) _ each.0.client in
    let b = and_parts (list_all (λ x. not (is_skipped s.0 k.client x.lane.frame)) seats) _ a.1 in
    let skipped = not-true _ (AllPass-from_list_all (λ x. not (is_skipped s.0 k.client x.lane.frame)) seats b.0 lane no_seat there) in
    let reached : k.client ≤ f.client = not_skipped skipped in
    let few : count_by (λ x. is_beyond k.client x.lane.frame) seats ≤ s.1 = leb-true _ _ b.1 in
    by reached few (cases_eq k.client f.client) (λ less2 few2. covered seats lane f (after_client s k) ks there e each.1 (omega (arith, left)) few2 less2)
  where
    not_skipped : is_skipped s.0 k.client (frame_in seats lane) ≡ false → k.client ≤ f.client
    not_skipped h = at (cases_lt f.client k.client)
      where
        at : (f.client < k.client) ⊎ (k.client ≤ f.client) → k.client ≤ f.client
        at (inl lt) = absurd (true≢false (sym (subst (λ (o : Option Frame). is_skipped s.0 k.client o ≡ true) (sym e) (and_from _ _ (lt-ltb s.0 f.client less) (lt-ltb f.client k.client lt))) ∙ h))
        at (inr le) = le

    by : k.client ≤ f.client → count_by (λ x. is_beyond k.client x.lane.frame) seats ≤ s.1 → (k.client ≡ f.client) ⊎ (k.client ≡ f.client → ⊥) → (k.client < f.client → count_by (λ x. is_beyond k.client x.lane.frame) seats ≤ length ks → Found ks f.client) → Found (k ∷ ks) f.client
    by reached few (inl same) later = record { known = k; has = inl refl; client_is = same }
    by reached few (inr other) later = found_later k ks f.client (later (omega (arith, reached, other)) (omega (arith, few, left)))

busy_beyond : (s : Seat) → is_beyond 0 s.lane.frame ≡ true → is_busy s.lane.frame ≡ true
busy_beyond s h = by s.lane.frame h
  where
    by : (o : Option Frame) → is_beyond 0 o ≡ true → is_busy o ≡ true
    by None e = e
    by (Some f) e = refl

-- some lane passes
pub record Passes (p : Seat → Bool) (seats : List Seat) : Type 0 where
  pub lane : ℕ
  pub there : lane < length seats
  pub passes : p (get_or seats lane no_seat) ≡ true

pub some_passes : (p : Seat → Bool) (seats : List Seat) → list_any p seats ≡ true → Passes p seats
some_passes p [] h = absurd (true≢false (sym h))
some_passes p (s ∷ ss) h = by (p s) refl h (λ q. some_passes p ss q)
  where
    by : (b : Bool) → p s ≡ b → list_any p (s ∷ ss) ≡ true → (list_any p ss ≡ true → Passes p ss) → Passes p (s ∷ ss)
    by true e h later = record { lane = 0; there = omega arith; passes = e }
    by false e h later = let r = later (rw e at h) in record { lane = suc r.lane; there = omega (arith, r.there); passes = r.passes }

-- a lane that serves a client has its frame
pub serving_frame : (client : ℕ) (o : Option Frame) → serves client o ≡ true → (f : Frame) × (o ≡ Some f) × (f.client ≡ client)
serving_frame client None h = absurd (true≢false (sym h))
serving_frame client (Some f) h = (f, refl, eqb-true f.client client h)

replied_served : (served : Bool) (n : ℕ) → (if served then (n == 0) else (n == 1)) ≡ true → n ≡ 0 → served ≡ true
replied_served true n h e = refl
replied_served false n h e = absurd (let one : n ≡ 1 = eqb-true n 1 h in omega arith)

served_replied : (served : Bool) (n : ℕ) → (if served then (n == 0) else (n == 1)) ≡ true → served ≡ true → n ≡ 0
served_replied true n h e = eqb-true n 0 h
served_replied false n h e = absurd (true≢false (sym e))

no_reply : (r : Option ℤ) → reply_number r ≡ 0 → r ≡ None
no_reply None e = refl
no_reply (Some v) e = absurd (omega arith)

number_none : (r : Option ℤ) → r ≡ None → reply_number r ≡ 0
number_none r e = rw e refl

sequence_of_frame : (client n : ℕ) (f : Frame) → f.client ≡ client → has_sequence client n (Some f) ≡ true → f.sequence ≡ n
sequence_of_frame client n f same h = eqb-true f.sequence n (rw (eq-eqb f.client client same) at h)

-- ---- the whole

module _ (service : Declarations) (flows : _) (good : IsService service) (right : IsFlows (with_flows service flows)) (p : Parts) (are : AreParts service p) where
  rising : AreRising 0 p.clients
  rising = rising_each p.seats (0, length p.clients - 1) p.clients are.clients

  known_are : known_from 0 (entered no_entries p.clients) ≡ p.clients
  known_are = known_again p.clients rising

  entry_of : (k : Known) → Has k p.clients → IsEntryOf 0 (entered no_entries p.clients) k
  entry_of k h = known_entry 0 (entered no_entries p.clients) k (subst (Has k) (sym known_are) h)

  entry_is : (k : Known) → Has k p.clients → entry_at (state_of p).clients k.client ≡ k.entry
  entry_is k h =
      let e = entry_of k h in
      let place : k.client ≡ e.place = e.client ∙ omega arith in
      ap (λ (n : ℕ). get_or (entered no_entries p.clients) n no_entry) place ∙ sym e.entry_is

  found_client : (lane : ℕ) (f : Frame) → frame_in p.seats lane ≡ Some f → Found p.clients f.client
  found_client lane f e =
      let b = busy_seat_at service p.seats lane f are.seats e in
      let range = is_between-true 1 256 f.client (and_parts _ _ b.busy.frame.client).0 in
      let enough = is_between-true (count_by (λ s. is_busy s.lane.frame) p.seats) 256 (length p.clients) are.count in
      covered p.seats lane f (0, length p.clients - 1) p.clients b.there e are.clients refl (omega (arith, enough.0, count_fewer (λ s. is_beyond 0 s.lane.frame) (λ s. is_busy s.lane.frame) busy_beyond p.seats)) (omega (arith, range.0))

  served_frame : (lane : ℕ) (f : Frame) → frame_in p.seats lane ≡ Some f → IsServed (state_of p) f
  served_frame lane f e =
      let b = busy_seat_at service p.seats lane f are.seats e in
      let found = found_client lane f e in
      let k = found.known in
      let read = (read_each p.seats (0, length p.clients - 1) p.clients k are.clients found.has).known in
      let range = is_between-true 1 256 f.client (and_parts _ _ b.busy.frame.client).0 in
      let sequences = (and_parts _ _ read.sequence).1 in
      let mine = AllPass-from_list_all (λ s. has_sequence k.client k.entry.sequence s.lane.frame) p.seats sequences lane no_seat b.there in
      let same : f.sequence ≡ k.entry.sequence = sequence_of_frame k.client k.entry.sequence f (sym found.client_is) (subst (λ (o : Option Frame). has_sequence k.client k.entry.sequence o ≡ true) e mine) in
      let serving : serves k.client (frame_in p.seats lane) ≡ true = subst (λ (o : Option Frame). serves k.client o ≡ true) (sym e) (eq-eqb f.client k.client (sym found.client_is)) in
      let is : is_served p.seats k.client ≡ true = list_any_at (λ s. serves k.client s.lane.frame) p.seats lane no_seat b.there serving in
      let none = no_reply k.entry.reply (served_replied (is_served p.seats k.client) (reply_number k.entry.reply) read.replied is) in
      let entry : entry_at (state_of p).clients f.client ≡ k.entry = ap (entry_at (state_of p).clients) (sym found.client_is) ∙ entry_is k found.has in
      record {
        there = omega (arith, range.1, length-entered no_entries p.clients, length-replicate 257 no_entry);
        some = omega (arith, b.busy.frame.sequence.0);
        sequence = ap (λ (x : Entry). x.sequence) entry ∙ sym same;
        open_yet = ap (λ (x : Entry). x.reply) entry ∙ none;
      }

  open_served : (client : ℕ) → 0 < (entry_at (state_of p).clients client).sequence → (entry_at (state_of p).clients client).reply ≡ None → (lane : ℕ) × (f : Frame) × (frame_at (state_of p) lane ≡ Some f) × (f.client ≡ client)
  open_served client some none =
      let es = entered no_entries p.clients in
      let inside : client < length es = by (cases_lt client (length es)) in
      let has = entry_known 0 es client inside (omega (arith, some)) in
      let k = known_of (0 + client) (get_or es client no_entry) in
      let listed : Has k p.clients = subst (Has k) known_are has in
      let read = (read_each p.seats (0, length p.clients - 1) p.clients k are.clients listed).known in
      let served = replied_served (is_served p.seats k.client) (reply_number k.entry.reply) read.replied (number_none k.entry.reply none) in
      let q = some_passes (λ s. serves k.client s.lane.frame) p.seats served in
      let f = serving_frame k.client (frame_in p.seats q.lane) q.passes in
      (q.lane, f.0, frame_is p q.lane ∙ f.1, f.2 ∙ omega arith)
    where
      by : (client < length (entered no_entries p.clients)) ⊎ (length (entered no_entries p.clients) ≤ client) → client < length (entered no_entries p.clients)
      by (inl lt) = lt
      by (inr le) = absurd (let past : entry_at (state_of p).clients client ≡ no_entry = get_or_past (entered no_entries p.clients) client no_entry le in omega (arith, some, ap (λ (x : Entry). x.sequence) past))

  queued_at : (condition lane : ℕ) → Has lane (queue_at (state_of p).queues condition) → WaitsAt service (state_of p) condition lane
  queued_at condition lane h =
      let w = queued_waits service good p.seats p.queues are.seats are.queues are.conditions condition lane h in
      let f = waiting_frame service p.seats condition lane are.seats w in
      let l = line_waits _ condition f.line in
      record { frame = f.frame; busy = frame_is p lane ∙ f.is; stays = f.stays; test = l.0; line = l.1 }

  pub sound_by : IsSoundBy (with_flows service flows) (state_of p)
  sound_by = record {
    complete = record {
      variables = are.variables.long;
      lanes = length-map p.seats lane_in ∙ are.lanes;
      queues = are.conditions;
      semaphores = are.semaphores.long;
      clients = length-entered no_entries p.clients ∙ length-replicate 257 no_entry;
    };
    fits = λ lane. subst (Fits (with_flows service flows)) (sym (frame_is p lane)) (fits_by service flows good right p.seats are.seats lane (frame_in p.seats lane) refl).0;
    alone = λ l m lock other e. ap (λ (o : Option Frame). mode_in_frame o lock) (frame_is p m) ∙ alone service flows good right p.seats l m lock are.seats other (ap (λ (o : Option Frame). mode_in_frame o lock) (sym (frame_is p l)) ∙ e);
    placed = record { each = λ lane. subst (Placed service) (sym (frame_is p lane)) (fits_by service flows good right p.seats are.seats lane (frame_in p.seats lane) refl).1 };
    queued = record { waits = queued_at; once = queued_once service good p.seats p.queues are.seats are.queues are.conditions };
    served = record {
      busy = λ lane f e. served_frame lane f (sym (frame_is p lane) ∙ e);
      apart = λ l m f g other e k. clients_apart service flows good right p.seats l m f g are.seats other (sym (frame_is p l) ∙ e) (sym (frame_is p m) ∙ k);
      others = open_served;
    };
    bounded = are.semaphores.bounded;
  }

  pub sound : IsSound service (state_of p)
  sound = record { flows = flows; right = right; by = sound_by }

-- ---- limits and types

few_events : (service : Declarations) (earlier : List Seat) (s : Seat) → IsSeat service earlier s → HasFewEvents s.lane
few_events service earlier s h = record { few = h.few }

typed_by : (service : Declarations) (earlier : List Seat) (o : Option Frame) (w : Option ℕ) → IsPlaced service earlier o w → IfSome o FrameIsTyped
typed_by service earlier None w h = tt
typed_by service earlier (Some f) w h = h.frame.locals.typed

lane_typed : (service : Declarations) (earlier : List Seat) (s : Seat) → IsSeat service earlier s → LaneIsTyped s.lane
lane_typed service earlier s h = record { locals = typed_by service earlier s.lane.frame s.waits h.placed }

pub no_entry_fits : EntryFits no_entry
no_entry_fits = record { few = omega arith; none = λ _. refl }

all_entered : (P : Entry → Type 0) (es : List Entry) (ks : List Known) → All P es → All (λ k. P k.entry) ks → All P (entered es ks)
all_entered P es [] all known = all
all_entered P es (k ∷ ks) all known = all_entered P (set es k.client k.entry) ks (All-set P es k.client k.entry (All-head (λ x. P x.entry) k ks known) all) (All-tail (λ x. P x.entry) k ks known)

entry_fits : (seats : List Seat) (s : ℕ × ℕ) (k : Known) → IsKnownAfter seats s k → EntryFits k.entry
entry_fits seats s k h =
    let range = is_between-true 1 1000000 k.entry.sequence (and_parts _ _ h.sequence).0 in
    record { few = range.1; none = λ z. absurd (omega (arith, range.0, z)) }

entry_typed : (seats : List Seat) (s : ℕ × ℕ) (k : Known) → IsKnownAfter seats s k → EntryIsTyped k.entry
entry_typed seats s k h = record { reply = h.typed }

nobody_by : (above : ℕ) (es : List Entry) (ks : List Known) → AreRising above ks → get_or (entered es ks) 0 no_entry ≡ get_or es 0 no_entry
nobody_by above es [] rising = refl
nobody_by above es (k ∷ ks) rising = nobody_by k.client (set es k.client k.entry) ks rising.1 ∙ get_or-set_other es k.client 0 k.entry no_entry (λ e. absurd (omega (arith, e, rising.0.above_it)))

pub has_spelling : (service : Declarations) (p : Parts) → AreParts service p → HasSpelling (state_of p)
has_spelling service p are = record {
  limited = record {
    lanes = All-map HasFewEvents lane_in p.seats (AreEach-all with_last (IsSeat service) (λ s. HasFewEvents s.lane) (few_events service) [] p.seats are.seats);
    nobody = nobody_by 0 no_entries p.clients (rising_each p.seats (0, length p.clients - 1) p.clients are.clients);
    entries = all_entered EntryFits no_entries p.clients (All-replicate EntryFits 257 no_entry no_entry_fits) (AreEach-all after_client (IsKnownAfter p.seats) (λ k. EntryFits k.entry) (entry_fits p.seats) (0, length p.clients - 1) p.clients are.clients);
  };
  typed = record {
    variables = are.variables.typed;
    lanes = All-map LaneIsTyped lane_in p.seats (AreEach-all with_last (IsSeat service) (λ s. LaneIsTyped s.lane) (lane_typed service) [] p.seats are.seats);
    entries = all_entered EntryIsTyped no_entries p.clients (All-replicate EntryIsTyped 257 no_entry (record { reply = tt })) (AreEach-all after_client (IsKnownAfter p.seats) (λ k. EntryIsTyped k.entry) (entry_typed p.seats) (0, length p.clients - 1) p.clients are.clients);
  };
}

-- each client has a place among the entries
has_place : (seats : List Seat) (s : ℕ × ℕ) (k : Known) → IsKnownAfter seats s k → HasPlace k
has_place seats s k h = record { inside = (is_between-true (s.0 + 1) 256 k.client (and_parts _ _ h.client).0).1 }

pub have_places : (service : Declarations) (p : Parts) → AreParts service p → All HasPlace p.clients
have_places service p are = AreEach-all after_client (IsKnownAfter p.seats) HasPlace (has_place p.seats) (0, length p.clients - 1) p.clients are.clients

-- the parts of the state are those that were read
pub parts_again : (service : Declarations) (p : Parts) → IsService service → AreParts service p → parts_of p.version (state_of p) ≡ p
parts_again service p good are =
    let make : List Seat → List Known → Parts = λ seats clients. record { version = p.version; seats = seats; variables = p.variables; queues = p.queues; semaphores = p.semaphores; clients = clients } in
    ap (λ (ss : List Seat). make ss (known_from 0 (entered no_entries p.clients))) (seats_again service good p.seats p.queues are.seats are.queues are.conditions)
    ∙ ap (make p.seats) (known_again p.clients (rising_each p.seats (0, length p.clients - 1) p.clients are.clients))
