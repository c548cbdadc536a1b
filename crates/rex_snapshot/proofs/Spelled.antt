-- A sound state within the limits has parts that are read as themselves.
use Rattle.std.proofs.Common.{◌≡◌, ◌⊎◌, inl, inr, ℕ, zero, suc, ◌+◌, ◌-◌, ◌<◌, ◌≤◌, Bool, true, false, cond, ℤ, List, [], ◌∷◌, ◌++◌, length, map, take, drop, get_or, refl, ap, sym, ◌∙◌, subst, arith, append_assoc, FitsSigned, w64, eqb, eqb-true, eq-eqb, length-set}
use Rattle.std.specs.Prelude.{◌==◌, Option, Some, None, IfSome, not, nat_lt, nat_eq, if◌then◌else◌}
use Rattle.std.specs.List.{All, count_by, position_or_len}
use Rattle.std.proofs.lemmas.Bool.{true≢false, and_from, or_from, not_from_false, false_from_ne_true, ne_eqb, lt-ltb, le-leb, cases_lt, cases_eq, ltb-true, and_parts, eqb-false}
use Rattle.std.proofs.lemmas.List.{append-nil, get_or-take, get_or_past, get_or_default, same_lists, length-map, length-take}
use Rattle.std.proofs.lemmas.List.Sums.{count_by-le-length, list_all-from_AllPass, position_or_len_is, passes_at_first}
use Rattle.std.proofs.lemmas.List.Folds.{list_any_at}
use Rattle.std.proofs.lemmas.Option.{same_Some}
use Rattle.rex_syntax.specs.declared.line.Line.{Line}
use Rattle.rex_syntax.specs.declared.line.Line.TheVariants.{Wait}
use Rattle.rex_syntax.specs.declared.locks.Mode.{Mode}
use Rattle.rex_syntax.specs.declared.locks.Mode.TheVariants.{Free, Shared, Exclusive}
use Rattle.rex_syntax.specs.declared.locks.Lockset.{Lockset}
use Rattle.rex_syntax.specs.declared.service.Declarations.{Declarations}
use Rattle.rex_syntax.specs.Service.{IsService}
use Rattle.rex_syntax.specs.declared.version.Version.{Version}
use Rattle.rex_syntax.specs.Versions.{has_version}
use Rattle.rex_syntax.specs.Locks.{mode_of, with_mode, no_locks}
use Rattle.rex_event.specs.Order.{Has}
use Rattle.rex_frame.specs.declared.frame.Phase.{Phase}
use Rattle.rex_frame.specs.declared.frame.Phase.TheVariants.{Running, Waiting}
use Rattle.rex_frame.specs.declared.frame.Frame.{Frame}
use Rattle.rex_frame.specs.Phases.{is_running}
use Rattle.rex_frame.specs.Handlers.{lines_of}
use Rattle.rex_state.specs.declared.lane.Lane.{Lane}
use Rattle.rex_state.specs.declared.lane.Queue.{Queue}
use Rattle.rex_state.specs.declared.lane.Entry.{Entry}
use Rattle.rex_state.specs.Value.{StateValue}
use Rattle.rex_state.specs.Lines.{line_of}
use Rattle.rex_state.specs.Locks.{mode_in_frame}
use Rattle.rex_state.specs.Machine.{no_lane, no_queue, no_entry, frame_at, entry_at, queue_at, is_in}
use Rattle.rex_state.specs.Touched.{held_in}
use Rattle.rex_state.specs.Flows.{flow_of}
use Rattle.rex_state.specs.Sound.{FrameFits, Fits, FramePlaced, Placed, IsOnce, WaitsAt, IsServed, IsSound, with_flows, wait_lock}
use Rattle.rex_state.proofs.Modes.{no_mode}
use Rattle.rex_state.proofs.Names.{lane_there, waiting_there}
use Rattle.rex_wire.specs.Ranges.{IsBetween}
use Rattle.rex_wire.proofs.Ranges.{between-is}
use Rattle.rex_state.specs.Start.{no_entries}
use Rattle.rex_snapshot.specs.declared.parts.Seat.{Seat}
use Rattle.rex_snapshot.specs.declared.parts.Known.{Known}
use Rattle.rex_snapshot.specs.Parts.{lane_in, waits_in, seats_from, known_of, known_if, known_from, entered, state_of, parts_of}
use Rattle.rex_snapshot.specs.Locksets.{lockset_at, may_share, is_apart}
use Rattle.rex_snapshot.specs.Spelling.{HasFewEvents, HasSpelling, FrameIsTyped}
use Rattle.rex_snapshot.specs.Allowed.{no_seat, serves, is_served, may_be_new_client, condition_of, may_stand, is_condition, waiters, is_busy, is_beyond, is_skipped, has_sequence}
use Rattle.rex_snapshot.specs.Reading.{with_last, counted, after_client, phase_of, held_by}
use Rattle.rex_snapshot.specs.Writing.{has_sent}
use Rattle.rex_snapshot.proofs.LineLocks.{LineHolds, line_holds, apart_from}
use Rattle.rex_snapshot.proofs.PartLists.{length-seats_from, length-known_from}
use Rattle.rex_snapshot.proofs.Counting.{passing, length-passing, has_passing, once_within}
use Rattle.rex_wire.proofs.Lists.{AreEach}
use Rattle.rex_snapshot.proofs.LaneLaws.{MayLine, IsFrame, WaitsFit, frame_condition, IsPlaced, IsSeat}
use Rattle.rex_snapshot.proofs.PartLaws.{MayWait, IsQueueOf, reply_number, IsKnownAfter, AreParts}
use Rattle.rex_snapshot.proofs.Entries.{entries_again, AreRising, IsEntryOf, known_entry, entry_known}
use Rattle.rex_snapshot.proofs.Sounding.{frame_in}
use Rattle.rex_snapshot.proofs.Queueing.{in_has, has_in, in_last, is_condition_of, condition_is}
use Rattle.rex_snapshot.proofs.Whole.{some_passes, serving_frame}
use Rattle.rex_snapshot.proofs.Chosen.{passing_has, once_passing, chosen, length-chosen, is_chosen, AreApart, once_chosen, client_in, has_client}

-- ---- lists by their places

pub each_from : {A : Type 0} (May : List A → A → Type 0) (earlier xs : List A) (d : A) → ((i : ℕ) → i < length xs → May (earlier ++ take i xs) (get_or xs i d)) → AreEach with_last May earlier xs
each_from {A} May earlier [] d h = tt
each_from {A} May earlier (x ∷ xs) d h = (
  subst (λ (ys : List A). May ys x) (append-nil earlier) (h 0 (omega arith)),
  each_from May (earlier ++ x ∷ []) xs d (λ i lt. subst (λ (ys : List A). May ys (get_or xs i d)) (sym (append_assoc earlier (x ∷ []) (take i xs))) (h (suc i) (omega arith))),
)

each_counted_from : {A : Type 0} (May : ℕ → A → Type 0) (n : ℕ) (xs : List A) (d : A) → ((i : ℕ) → i < length xs → May (n + i) (get_or xs i d)) → AreEach counted May n xs
each_counted_from {A} May n [] d h = tt
each_counted_from {A} May n (x ∷ xs) d h =
    let z : n + 0 ≡ n = omega arith in
    (subst (λ (m : ℕ). May m x) z (h 0 (omega arith)), each_counted_from May (n + 1) xs d (λ i lt. let more : n + suc i ≡ n + 1 + i = omega arith in subst (λ (m : ℕ). May m (get_or xs i d)) more (h (suc i) (omega arith))))

-- ---- seats of lanes

seat_lane_is : (queues : List Queue) (n : ℕ) (lanes : List Lane) (i : ℕ) → (get_or (seats_from queues n lanes) i no_seat).lane ≡ get_or lanes i no_lane
seat_lane_is queues n [] i = refl
seat_lane_is queues n (x ∷ xs) zero = refl
seat_lane_is queues n (x ∷ xs) (suc i) = seat_lane_is queues (n + 1) xs i

seat_waits_is : (queues : List Queue) (n : ℕ) (lanes : List Lane) (i : ℕ) → i < length lanes → (get_or (seats_from queues n lanes) i no_seat).waits ≡ waits_in queues (n + i)
seat_waits_is queues n [] i h = absurd (omega arith)
seat_waits_is queues n (x ∷ xs) zero h = let z : n ≡ n + 0 = omega arith in ap (waits_in queues) z
seat_waits_is queues n (x ∷ xs) (suc i) h = let z : n + 1 + i ≡ n + suc i = omega arith in seat_waits_is queues (n + 1) xs i (omega arith) ∙ ap (waits_in queues) z

pub lanes_again : (queues : List Queue) (n : ℕ) (lanes : List Lane) → map lane_in (seats_from queues n lanes) ≡ lanes
lanes_again queues n [] = refl
lanes_again queues n (x ∷ xs) = ap (λ (ls : List Lane). x ∷ ls) (lanes_again queues (n + 1) xs)

-- ---- who waits

abbrev in_queue : ℕ → Queue → Bool
in_queue lane q = is_in lane q.lanes.items

some_by : (n m c : ℕ) (b : Bool) → nat_lt n m ≡ b → cond b (Some n) None ≡ Some c → (n ≡ c) × (n < m)
some_by n m c true e h = (same_Some n c h, ltb-true n m e)
some_by n m c false e h = absurd (cc)

-- the queue that a lane waits in has it
waits_has : (queues : List Queue) (lane condition : ℕ) → waits_in queues lane ≡ Some condition → is_in lane (get_or queues condition no_queue).lanes.items ≡ true
waits_has queues lane condition e =
    let n = position_or_len (in_queue lane) queues in
    let s = some_by n (length queues) condition (nat_lt n (length queues)) refl e in
    subst (λ (k : ℕ). is_in lane (get_or queues k no_queue).lanes.items ≡ true) s.0 (passes_at_first (in_queue lane) queues no_queue s.1)

position_at : (queues : List Queue) (lane n : ℕ) → position_or_len (in_queue lane) queues ≡ n → n < length queues → waits_in queues lane ≡ Some n
position_at queues lane n e lt = rw (e, lt-ltb n (length queues) lt) refl

-- ---- modes

share_from : (x y : Mode) → (x ≡ Exclusive → y ≡ Free) → (y ≡ Exclusive → x ≡ Free) → may_share x y ≡ true
share_from Free y h k = refl
share_from Shared Free h k = refl
share_from Shared Shared h k = refl
share_from Shared Exclusive h k = absurd (let z : Shared ≡ Free = k refl in cc)
share_from Exclusive y h k = rw (h refl) refl

held_mode : (o : Option Frame) (lock : ℕ) → mode_of (held_in o) lock ≡ mode_in_frame o lock
held_mode None lock = no_mode lock
held_mode (Some f) lock = refl

nothing_held : (held : Lockset) → length held.modes ≡ 64 → ((lock : ℕ) → mode_of held lock ≡ Free) → held ≡ no_locks
nothing_held held long none =
    let wide : length no_locks.modes ≡ 64 = refl in
    let same : held.modes ≡ no_locks.modes = same_lists held.modes no_locks.modes (long ∙ sym wide) (λ k d lt. get_or_default held.modes k d Free lt ∙ none k ∙ sym (no_mode k) ∙ get_or_default no_locks.modes k Free d (omega (arith, lt, long, wide))) in
    ap (λ (ms : List Mode). let x : Lockset = record { modes = ms } in x) same

phase_is : (ph : Phase) → ph ≡ phase_of (is_running ph)
phase_is Running = refl
phase_is Waiting = refl

wait_is : (line : Line) (condition : ℕ) (test : _) → line ≡ Wait condition test → condition_of line ≡ Some condition
wait_is line condition test e = rw e refl

-- ---- lanes that wait, in order

each_waiter : (seats : List Seat) (condition : ℕ) (earlier xs : List ℕ) → ((x : ℕ) → Has x xs → (x < length seats) × (is_condition condition (get_or seats x no_seat).waits ≡ true)) → IsOnce xs → ((x : ℕ) → Has x xs → is_in x earlier ≡ false) → AreEach with_last (MayWait seats condition) earlier xs
each_waiter seats condition earlier [] may once fresh = tt
each_waiter seats condition earlier (x ∷ xs) may once fresh =
    let m = may x (inl refl) in
    let back : x ≡ x + 1 - 1 = omega arith in
    let at : is_condition condition (get_or seats (x + 1 - 1) no_seat).waits ≡ true = subst (λ (n : ℕ). is_condition condition (get_or seats n no_seat).waits ≡ true) back m.1 in
    let new : is_in (x + 1 - 1) earlier ≡ false = subst (λ (n : ℕ). is_in n earlier ≡ false) back (fresh x (inl refl)) in (
      and_from _ _ (between-is 1 (length seats) (x + 1) (omega arith, omega (arith, m.0))) (and_from _ _ at (not_from_false _ new)),
      each_waiter seats condition (earlier ++ x ∷ []) xs (λ y h. may y (inr h)) once.1 (λ y h. in_last y x earlier ∙ or_from _ _ (fresh y (inr h)) (ne_eqb x y (λ e. absurd (once.0 (subst (λ (n : ℕ). Has n xs) (sym e) h))))),
    )

-- ---- clients that rise

-- a client that is known for good
pub record IsGood (seats : List Seat) (k : Known) : Type 0 where
  pub sequence : IsBetween 1 1000000 k.entry.sequence
  pub frames : (lane : ℕ) (f : Frame) → frame_in seats lane ≡ Some f → f.client ≡ k.client → f.sequence ≡ k.entry.sequence
  pub replied : (if is_served seats k.client then (reply_number k.entry.reply == 0) else (reply_number k.entry.reply == 1)) ≡ true
  pub typed : IfSome k.entry.reply (FitsSigned w64)

has_sequence_of : (client n : ℕ) (o : Option Frame) → ((f : Frame) → o ≡ Some f → f.client ≡ client → f.sequence ≡ n) → has_sequence client n o ≡ true
has_sequence_of client n None h = refl
has_sequence_of client n (Some f) h = by (nat_eq f.client client) refl
  where
    by : (b : Bool) → nat_eq f.client client ≡ b → has_sequence client n (Some f) ≡ true
    by true e = rw e (eq-eqb f.sequence n (h f refl (eqb-true f.client client e)))
    by false e = rw e refl

-- rising clients are above the first
rising_above : (above : ℕ) (ks : List Known) (client : ℕ) → AreRising above ks → Has client (map client_in ks) → above < client
rising_above above [] client rising h = absurd h
rising_above above (k ∷ ks) client rising (inl e) = omega (arith, rising.0.above_it, e)
rising_above above (k ∷ ks) client rising (inr h) = omega (arith, rising.0.above_it, rising_above k.client ks client rising.1 h)

module _ (seats : List Seat) (apart : AreApart seats) where
  known_each : (above : ℕ) (ks : List Known) → AreRising above ks → ((k : Known) → Has k ks → IsGood seats k) → ((lane : ℕ) (f : Frame) → frame_in seats lane ≡ Some f → above < f.client → Has f.client (map client_in ks)) → AreEach after_client (IsKnownAfter seats) (above, length ks - 1) ks
  known_each above [] rising are covers = tt
  known_each above (k ∷ ks) rising are covers =
      let good = are k (inl refl) in
      let less : length (k ∷ ks) - 1 ≡ length ks = omega arith in (
        record {
          client = and_from _ _ (between-is (above + 1) 256 k.client (omega (arith, rising.0.above_it), rising.0.most)) (and_from _ _ (list_all-from_AllPass (λ s. not (is_skipped above k.client s.lane.frame)) seats skips) (le-leb _ _ (omega (arith, few))));
          sequence = and_from _ _ (between-is 1 1000000 k.entry.sequence good.sequence) (list_all-from_AllPass (λ s. has_sequence k.client k.entry.sequence s.lane.frame) seats (λ i d lt. sequences i d lt good));
          replied = good.replied;
          typed = good.typed;
        },
        subst (λ (n : ℕ). AreEach after_client (IsKnownAfter seats) (k.client, n - 1) ks) (sym less) (known_each k.client ks rising.1 (λ x h. are x (inr h)) later),
      )
    where
      later : (lane : ℕ) (f : Frame) → frame_in seats lane ≡ Some f → k.client < f.client → Has f.client (map client_in ks)
      later lane f e more = by (covers lane f e (omega (arith, rising.0.above_it, more)))
        where
          by : Has f.client (k.client ∷ map client_in ks) → Has f.client (map client_in ks)
          by (inl same) = absurd (omega (arith, same, more))
          by (inr h) = h

      skips_one : (lane : ℕ) (o : Option Frame) → frame_in seats lane ≡ o → is_skipped above k.client o ≡ true → ⊥
      skips_one lane None e h = true≢false (sym h)
      skips_one lane (Some f) e h = by (covers lane f e (ltb-true above f.client a.0))
        where
          a : (nat_lt above f.client ≡ true) × (nat_lt f.client k.client ≡ true)
          a = and_parts _ _ h

          by : Has f.client (k.client ∷ map client_in ks) → ⊥
          by (inl same) = absurd (omega (arith, same, ltb-true f.client k.client a.1))
          by (inr q) = absurd (omega (arith, ltb-true f.client k.client a.1, rising_above k.client ks f.client rising.1 q))

      skips : All (λ s. not (is_skipped above k.client s.lane.frame) ≡ true) seats
      skips = λ i d lt. subst (λ (x : Seat). not (is_skipped above k.client x.lane.frame) ≡ true) (get_or_default seats i no_seat d lt) (not_from_false _ (false_from_ne_true _ (skips_one i (frame_in seats i) refl)))

      sequences : (i : ℕ) (d : Seat) → i < length seats → IsGood seats k → has_sequence k.client k.entry.sequence (get_or seats i d).lane.frame ≡ true
      sequences i d lt good = subst (λ (x : Seat). has_sequence k.client k.entry.sequence x.lane.frame ≡ true) (get_or_default seats i no_seat d lt) (has_sequence_of k.client k.entry.sequence (frame_in seats i) (good.frames i))

      few : count_by (λ s. is_beyond k.client s.lane.frame) seats ≤ length ks
      few =
          let p : Option Frame → Bool = is_beyond k.client in
          let among = once_within (chosen (is_beyond k.client) seats) (map client_in ks) (once_chosen (is_beyond k.client) seats apart)
          (λ client h. let i = is_chosen (is_beyond k.client) seats client h in subst (λ (n : ℕ). Has n (map client_in ks)) i.client_is (later i.lane i.frame i.busy (ltb-true k.client i.frame.client i.passes))) in
          omega (arith, among, length-chosen (is_beyond k.client) seats refl, length-map ks client_in)

-- what is known of clients from a number on rises
known_rising : (n above : ℕ) (es : List Entry) → above < n → n + length es ≤ 257 → AreRising above (known_from n es)
known_rising n above [] less few = tt
known_rising n above (e ∷ es) less few = by (eqb e.sequence 0) refl (known_rising (n + 1) above es (omega (arith, less)) (omega (arith, few))) (known_rising (n + 1) n es (omega arith) (omega (arith, few)))
  where
    by : (b : Bool) → eqb e.sequence 0 ≡ b → AreRising above (known_from (n + 1) es) → AreRising n (known_from (n + 1) es) → AreRising above (known_from n (e ∷ es))
    by true z later after_it = let none : known_from n (e ∷ es) ≡ known_from (n + 1) es = rw z refl in subst (AreRising above) (sym none) later
    by false z later after_it =
        let one : known_from n (e ∷ es) ≡ known_of n e ∷ known_from (n + 1) es = rw z refl in
        let nonzero : e.sequence ≡ 0 → ⊥ = eqb-false e.sequence 0 z in
        subst (AreRising above) (sym one) (record { above_it = less; most = omega (arith, few); sent = omega (arith, nonzero) }, after_it)

-- ---- lanes of a sound state

module _ (service : Declarations) (good : IsService service) (s : StateValue) (sound : IsSound service s) (has : HasSpelling s) where
  abbrev seats : List Seat
  seats = seats_from s.queues 0 s.lanes

  long_seats : length seats ≡ length s.lanes
  long_seats = length-seats_from s.queues 0 s.lanes

  frame_same : (lane : ℕ) → frame_in seats lane ≡ frame_at s lane
  frame_same lane = ap (λ (x : Lane). x.frame) (seat_lane_is s.queues 0 s.lanes lane)

  waits_same : (lane : ℕ) → lane < length s.lanes → (get_or seats lane no_seat).waits ≡ waits_in s.queues lane
  waits_same lane lt = let z : 0 + lane ≡ lane = omega arith in seat_waits_is s.queues 0 s.lanes lane lt ∙ ap (waits_in s.queues) z

  pub are_apart : AreApart seats
  are_apart = record { apart = λ l m f g other e k. sound.by.served.apart l m f g other (sym (frame_same l) ∙ e) (sym (frame_same m) ∙ k) }

  -- a lane that waits somewhere has a frame at that condition's line
  waits_some : (lane condition : ℕ) → waits_in s.queues lane ≡ Some condition → WaitsAt service s condition lane
  waits_some lane condition e = sound.by.queued.waits condition lane (in_has lane _ (waits_has s.queues lane condition e))

  waits_none : (lane : ℕ) (w : Option ℕ) → waits_in s.queues lane ≡ w → ((condition : ℕ) → WaitsAt service s condition lane → ⊥) → w ≡ None
  waits_none lane None e h = refl
  waits_none lane (Some condition) e h = absurd (h condition (waits_some lane condition e))

  -- a lane in a queue waits there and nowhere else
  queue_waits : (condition lane : ℕ) → Has lane (queue_at s.queues condition) → waits_in s.queues lane ≡ Some condition
  queue_waits condition lane h = position_at s.queues lane condition (position_or_len_is (in_queue lane) s.queues condition no_queue (omega (arith, inside)) none (λ lt. has_in lane _ h)) inside
    where
      here : WaitsAt service s condition lane
      here = sound.by.queued.waits condition lane h

      inside : condition < length s.queues
      inside = by (cases_lt condition (length s.queues))
        where
          by : (condition < length s.queues) ⊎ (length s.queues ≤ condition) → condition < length s.queues
          by (inl lt) = lt
          by (inr le) = absurd (subst (λ (q : Queue). Has lane q.lanes.items) (get_or_past s.queues condition no_queue le) h)

      other : (k : ℕ) → WaitsAt service s k lane → k ≡ condition
      other k there =
          let f : there.frame ≡ here.frame = same_Some there.frame here.frame (sym there.busy ∙ here.busy) in
          let line : Wait k there.test ≡ Wait condition here.test = sym there.line ∙ ap (line_of service) f ∙ here.line in
          same_Some k condition (sym (wait_is (Wait k there.test) k there.test refl) ∙ ap condition_of line ∙ wait_is (Wait condition here.test) condition here.test refl)

      none : (k : ℕ) → k < condition → is_in lane (get_or s.queues k no_queue).lanes.items ≡ false
      none k lt = false_from_ne_true _ (λ q. absurd (omega (arith, lt, other k (sound.by.queued.waits k lane (in_has lane _ q)))))

  -- ---- frames

  served_of : (lane : ℕ) (f : Frame) → frame_at s lane ≡ Some f → IsServed s f
  served_of lane f e = sound.by.served.busy lane f e

  some_client : (f : Frame) → IsServed s f → 1 ≤ f.client
  some_client f h = by (cases_eq f.client 0)
    where
      by : (f.client ≡ 0) ⊎ (f.client ≡ 0 → ⊥) → 1 ≤ f.client
      by (inl z) = absurd (let e : (entry_at s.clients f.client).sequence ≡ 0 = ap (λ (n : ℕ). (entry_at s.clients n).sequence) z ∙ ap (λ (x : Entry). x.sequence) has.limited.nobody in omega (arith, e, h.sequence, h.some))
      by (inr nonzero) = omega (arith, nonzero)

  few_client : (f : Frame) → IsServed s f → f.client ≤ 256
  few_client f h = omega (arith, h.there, sound.by.complete.clients)

  few_sequence : (f : Frame) → IsServed s f → f.sequence ≤ 1000000
  few_sequence f h = let fits = has.limited.entries f.client no_entry h.there in omega (arith, h.sequence, fits.few)

  earlier_lane : (lane l : ℕ) → l < length (take lane seats) → lane < length s.lanes → (l < lane) × (get_or (take lane seats) l no_seat ≡ get_or seats l no_seat)
  earlier_lane lane l h lt = let less : l < lane = omega (arith, h, length-take lane seats) in (less, get_or-take lane seats l no_seat less)

  new_client : (lane : ℕ) (f : Frame) → lane < length s.lanes → frame_at s lane ≡ Some f → may_be_new_client (take lane seats) f.client ≡ true
  new_client lane f lt e = and_from _ _ (between-is 1 256 f.client (some_client f served, few_client f served)) (not_from_false _ (false_from_ne_true _ none))
    where
      served : IsServed s f
      served = served_of lane f e

      none : is_served (take lane seats) f.client ≡ true → ⊥
      none h =
          let q = some_passes (λ x. serves f.client x.lane.frame) (take lane seats) h in
          let at = earlier_lane lane q.lane q.there lt in
          let g = serving_frame f.client (get_or (take lane seats) q.lane no_seat).lane.frame q.passes in
          let frame : frame_at s q.lane ≡ Some g.0 = sym (frame_same q.lane) ∙ ap (λ (x : Seat). x.lane.frame) (sym at.1) ∙ g.1 in
          sound.by.served.apart q.lane lane g.0 f (λ same. absurd (omega (arith, same, at.0))) frame e g.2

  holds_line : (f : Frame) → FrameFits (with_flows service sound.flows) f → LineHolds service good (flow_of (with_flows service sound.flows) f.handler) f.handler f.place
  holds_line f fits = line_holds service good f.handler f.place (flow_of (with_flows service sound.flows) f.handler) fits.handler fits.inside.place (sound.right.each f.handler fits.handler)

  frame_fits : (lane : ℕ) (f : Frame) → frame_at s lane ≡ Some f → FrameFits (with_flows service sound.flows) f
  frame_fits lane f e = subst (Fits (with_flows service sound.flows)) e (sound.by.fits lane)

  frame_placed : (lane : ℕ) (f : Frame) → frame_at s lane ≡ Some f → FramePlaced service f
  frame_placed lane f e = subst (Placed service) e (sound.by.placed.each lane)

  held_runs : (lane : ℕ) (f : Frame) → frame_at s lane ≡ Some f → is_running f.phase ≡ true → f.held ≡ lockset_at service f.handler f.place
  held_runs lane f e run =
      let fits = frame_fits lane f e in
      same_Some f.held (lockset_at service f.handler f.place) (sym (rw run at fits.held) ∙ (holds_line f fits).is)

  held_waits : (lane : ℕ) (f : Frame) → frame_at s lane ≡ Some f → is_running f.phase ≡ false → f.held ≡ no_locks
  held_waits lane f e wait =
      let fits = frame_fits lane f e in
      let k = holds_line f fits in
      let same : with_mode f.held (wait_lock service (line_of service f)) Exclusive ≡ lockset_at service f.handler f.place = same_Some _ _ (sym (rw wait at fits.held) ∙ k.is) in
      let long : length f.held.modes ≡ 64 = sym (length-set f.held.modes (wait_lock service (line_of service f)) Exclusive) ∙ ap (λ (x : Lockset). length x.modes) same ∙ k.long in
      nothing_held f.held long ((frame_placed lane f e).waits wait).nothing

  stands_runs : (lane : ℕ) (f : Frame) → lane < length s.lanes → frame_at s lane ≡ Some f → is_running f.phase ≡ true → may_stand service (take lane seats) true f.handler f.place ≡ true
  stands_runs lane f lt e run = and_from _ _ ((frame_placed lane f e).stands run) (list_all-from_AllPass (λ x. is_apart (held_in x.lane.frame) (lockset_at service f.handler f.place)) (take lane seats) each)
    where
      one : (l : ℕ) → l < lane → is_apart (held_in (frame_in seats l)) (lockset_at service f.handler f.place) ≡ true
      one l less = apart_from 64 (held_in (frame_in seats l)) (lockset_at service f.handler f.place) (λ lock lt64.
          let x : mode_of (held_in (frame_in seats l)) lock ≡ mode_in_frame (frame_at s l) lock = held_mode (frame_in seats l) lock ∙ ap (λ (o : Option Frame). mode_in_frame o lock) (frame_same l) in
          let y : mode_of (lockset_at service f.handler f.place) lock ≡ mode_in_frame (frame_at s lane) lock = ap (λ (h : Lockset). mode_of h lock) (sym (held_runs lane f e run)) ∙ ap (λ (o : Option Frame). mode_in_frame o lock) (sym e) in
          rw (x, y) (share_from _ _ (λ h. sound.by.alone l lane lock (λ same. absurd (omega (arith, same, less))) h) (λ h. sound.by.alone lane l lock (λ same. absurd (omega (arith, same, less))) h)))

      each : All (λ x. is_apart (held_in x.lane.frame) (lockset_at service f.handler f.place) ≡ true) (take lane seats)
      each = λ l d h.
          let at = earlier_lane lane l h lt in
          let same : get_or (take lane seats) l d ≡ get_or seats l no_seat = get_or_default (take lane seats) l d no_seat h ∙ at.1 in
          subst (λ (x : Seat). is_apart (held_in x.lane.frame) (lockset_at service f.handler f.place) ≡ true) (sym same) (one l at.0)

  stands_waits : (lane : ℕ) (f : Frame) → frame_at s lane ≡ Some f → is_running f.phase ≡ false → may_stand service (take lane seats) false f.handler f.place ≡ true
  stands_waits lane f e wait = let w = (frame_placed lane f e).waits wait in rw w.line refl

  line_may : (lane : ℕ) (f : Frame) (b : Bool) → lane < length s.lanes → frame_at s lane ≡ Some f → may_stand service (take lane seats) b f.handler f.place ≡ true → MayLine service (take lane seats) b f.handler f.place
  line_may lane f b lt e h =
      let inside = (frame_fits lane f e).inside.place in
      let back : f.place ≡ f.place + 1 - 1 = omega arith in
      and_from _ _ (between-is 1 (length (lines_of service f.handler)) (f.place + 1) (omega arith, omega (arith, inside))) (subst (λ (n : ℕ). may_stand service (take lane seats) b f.handler n ≡ true) back h)

  locals_typed : (lane : ℕ) (f : Frame) → lane < length s.lanes → frame_at s lane ≡ Some f → FrameIsTyped f
  locals_typed lane f lt e = subst (λ (o : Option Frame). IfSome o FrameIsTyped) e (has.typed.lanes lane no_lane lt).locals

  frame_by : (lane : ℕ) (f : Frame) (b : Bool) → lane < length s.lanes → frame_at s lane ≡ Some f → is_running f.phase ≡ b → may_stand service (take lane seats) b f.handler f.place ≡ true → f.held ≡ held_by service b f.handler f.place → IsFrame service (take lane seats) b f
  frame_by lane f b lt e run stand held =
      let fits = frame_fits lane f e in
      let served = served_of lane f e in
      record {
        client = new_client lane f lt e;
        sequence = (omega (arith, served.some), few_sequence f served);
        handler = fits.handler;
        line = line_may lane f b lt e stand;
        locals = record { typed = locals_typed lane f lt e; long = fits.locals };
        turns = record { bodies_are = fits.inside.turns; left = fits.inside.left; most = fits.inside.most };
        held = held;
        phase = phase_is f.phase ∙ ap phase_of run;
      }

  frame_is_by : (lane : ℕ) (f : Frame) (b : Bool) → lane < length s.lanes → frame_at s lane ≡ Some f → is_running f.phase ≡ b → IsFrame service (take lane seats) b f
  frame_is_by lane f true lt e run = frame_by lane f true lt e run (stands_runs lane f lt e run) (held_runs lane f e run)
  frame_is_by lane f false lt e run = frame_by lane f false lt e run (stands_waits lane f e run) (held_waits lane f e run)

  fit_by : (lane : ℕ) (f : Frame) (ph : Phase) (w : Option ℕ) → frame_at s lane ≡ Some f → f.phase ≡ ph → waits_in s.queues lane ≡ w → WaitsFit ph w (frame_condition service f)
  fit_by lane f Running w e p k =
      waits_none lane w k (λ condition at. let same : at.frame ≡ f = same_Some at.frame f (sym at.busy ∙ e) in absurd (true≢false (sym (ap (λ (g : Frame). is_running g.phase) same ∙ ap is_running p) ∙ at.stays)))
  fit_by lane f Waiting None e p k = tt
  fit_by lane f Waiting (Some condition) e p k =
      let at = waits_some lane condition k in
      let same : at.frame ≡ f = same_Some at.frame f (sym at.busy ∙ e) in
      ap (λ (g : Frame). condition_of (line_of service g)) (sym same) ∙ wait_is (line_of service at.frame) condition at.test at.line

  placed_by : (lane : ℕ) (o : Option Frame) (w : Option ℕ) → lane < length s.lanes → frame_at s lane ≡ o → waits_in s.queues lane ≡ w → IsPlaced service (take lane seats) o w
  placed_by lane None w lt e k = waits_none lane w k (λ condition at. absurd (let z : None ≡ Some at.frame = sym e ∙ at.busy in cc))
  placed_by lane (Some f) w lt e k = record { frame = frame_is_by lane f (is_running f.phase) lt e refl; waits_fit = fit_by lane f f.phase w e refl k }

  seat_is : (lane : ℕ) → lane < length seats → IsSeat service (take lane seats) (get_or seats lane no_seat)
  seat_is lane lt =
      let there : lane < length s.lanes = omega (arith, long_seats) in
      let few = has.limited.lanes lane no_lane there in
      record {
        few = (subst HasFewEvents (sym (seat_lane_is s.queues 0 s.lanes lane)) few).few;
        placed = subst (λ (o : Option Frame). IsPlaced service (take lane seats) o (get_or seats lane no_seat).waits) (sym (frame_same lane))
            (subst (λ (w : Option ℕ). IsPlaced service (take lane seats) (frame_at s lane) w) (sym (waits_same lane there)) (placed_by lane (frame_at s lane) (waits_in s.queues lane) there refl refl));
      }

  pub seats_are : AreEach with_last (IsSeat service) [] seats
  seats_are = each_from (IsSeat service) [] seats no_seat seat_is

  -- ---- queues

  waiter_in : (condition lane : ℕ) → Has lane (queue_at s.queues condition) → (lane < length seats) × (is_condition condition (get_or seats lane no_seat).waits ≡ true)
  waiter_in condition lane h =
      let there = waiting_there service s condition lane sound.by.queued h in
      (omega (arith, there, long_seats), condition_is condition (get_or seats lane no_seat).waits (waits_same lane there ∙ queue_waits condition lane h))

  queue_is : (condition : ℕ) → IsQueueOf seats condition (get_or s.queues condition no_queue)
  queue_is condition = record {
    long = long;
    lanes = each_waiter seats condition [] items (waiter_in condition) once (λ x h. refl);
  }
    where
      items : List ℕ
      items = queue_at s.queues condition

      test : Seat → Bool
      test x = is_condition condition x.waits

      once : IsOnce (queue_at s.queues condition)
      once = sound.by.queued.once condition

      more : length (queue_at s.queues condition) ≤ waiters seats condition
      more =
          let among = once_within (queue_at s.queues condition) (passing (λ x. is_condition condition x.waits) 0 seats) once
          (λ lane h. let w = waiter_in condition lane h in let z : 0 + lane ≡ lane = omega arith in subst (λ (n : ℕ). Has n (passing (λ x. is_condition condition x.waits) 0 seats)) z (has_passing (λ x. is_condition condition x.waits) 0 seats lane no_seat w.0 w.1)) in
          omega (arith, among, length-passing (λ x. is_condition condition x.waits) 0 seats)

      fewer : waiters seats condition ≤ length (queue_at s.queues condition)
      fewer =
          let among = once_within (passing (λ x. is_condition condition x.waits) 0 seats) (queue_at s.queues condition) (once_passing (λ x. is_condition condition x.waits) 0 seats)
          (λ lane h.
          let q = passing_has (λ x. is_condition condition x.waits) 0 seats no_seat lane h in
          let there : q.place < length s.lanes = omega (arith, q.there, long_seats) in
          let at : waits_in s.queues q.place ≡ Some condition = sym (waits_same q.place there) ∙ is_condition_of condition (get_or seats q.place no_seat).waits q.passes in
          let same : q.place ≡ lane = omega (arith, q.is) in
          subst (λ (n : ℕ). Has n (queue_at s.queues condition)) same (in_has q.place _ (waits_has s.queues q.place condition at))) in
          omega (arith, among, length-passing (λ x. is_condition condition x.waits) 0 seats)

      long : length (queue_at s.queues condition) ≡ waiters seats condition
      long = omega (arith, more, fewer)

  queues_are : AreEach counted (IsQueueOf seats) 0 s.queues
  queues_are = each_counted_from (IsQueueOf seats) 0 s.queues no_queue (λ i lt. let z : i ≡ 0 + i = omega arith in subst (λ (n : ℕ). IsQueueOf seats n (get_or s.queues i no_queue)) z (queue_is i))

  -- ---- clients

  abbrev clients : List Known
  clients = known_from 0 s.clients

  first_by : (es : List Entry) → length es ≡ 257 → get_or es 0 no_entry ≡ no_entry → (known_from 0 es ≡ known_from 1 (drop 1 es)) × (length (drop 1 es) ≡ 256)
  first_by [] long first = absurd (omega arith)
  first_by (e ∷ es) long first =
      let none : known_if 0 e ≡ [] = ap (known_if 0) first in
      (ap (λ (ks : List Known). ks ++ known_from 1 es) none, omega (arith, long))

  clients_rise : AreRising 0 clients
  clients_rise =
      let f = first_by s.clients sound.by.complete.clients has.limited.nobody in
      subst (AreRising 0) (sym f.0) (known_rising 1 0 (drop 1 s.clients) (omega arith) (omega (arith, f.1)))

  few_clients : length clients ≤ 256
  few_clients =
      let f = first_by s.clients sound.by.complete.clients has.limited.nobody in
      omega (arith, ap length f.0, length-known_from 1 (drop 1 s.clients), f.1, count_by-le-length has_sent (drop 1 s.clients))

  covers : (lane : ℕ) (f : Frame) → frame_in seats lane ≡ Some f → Has f.client (map client_in clients)
  covers lane f e =
      let served = served_of lane f (sym (frame_same lane) ∙ e) in
      let has_it = entry_known 0 s.clients f.client served.there (omega (arith, served.sequence, served.some)) in
      let z : 0 + f.client ≡ f.client = omega arith in
      subst (λ (n : ℕ). Has n (map client_in clients)) z (has_client (known_of (0 + f.client) (get_or s.clients f.client no_entry)) clients has_it)

  good_client : (k : Known) → Has k clients → IsGood seats k
  good_client k h = record {
    sequence = (e.sent, few);
    frames = λ lane f at same. let served = served_of lane f (sym (frame_same lane) ∙ at) in sym served.sequence ∙ ap (λ (n : ℕ). (entry_at s.clients n).sequence) same ∙ ap (λ (x : Entry). x.sequence) mine;
    replied = replied (is_served seats k.client) refl;
    typed = subst (λ (x : Entry). IfSome x.reply (FitsSigned w64)) mine (has.typed.entries k.client no_entry inside).reply;
  }
    where
      e : IsEntryOf 0 s.clients k
      e = known_entry 0 s.clients k h

      place : k.client ≡ e.place
      place = e.client ∙ omega arith

      inside : k.client < length s.clients
      inside = omega (arith, place, e.there)

      mine : entry_at s.clients k.client ≡ k.entry
      mine = ap (λ (n : ℕ). get_or s.clients n no_entry) place ∙ sym e.entry_is

      few : k.entry.sequence ≤ 1000000
      few = subst (λ (x : Entry). x.sequence ≤ 1000000) mine (has.limited.entries k.client no_entry inside).few

      open_then : is_served seats k.client ≡ true → k.entry.reply ≡ None
      open_then q =
          let lane = some_passes (λ x. serves k.client x.lane.frame) seats q in
          let f = serving_frame k.client (frame_in seats lane.lane) lane.passes in
          let served = served_of lane.lane f.0 (sym (frame_same lane.lane) ∙ f.1) in
          ap (λ (x : Entry). x.reply) (sym mine) ∙ ap (λ (n : ℕ). (entry_at s.clients n).reply) (sym f.2) ∙ served.open_yet

      replied_then : is_served seats k.client ≡ false → k.entry.reply ≡ None → ⊥
      replied_then q none =
          let sent : 0 < (entry_at s.clients k.client).sequence = subst (λ (x : Entry). 0 < x.sequence) (sym mine) e.sent in
          let o = sound.by.served.others k.client sent (ap (λ (x : Entry). x.reply) mine ∙ none) in
          let at : frame_in seats o.0 ≡ Some o.1 = frame_same o.0 ∙ o.2 in
          let there : o.0 < length seats = omega (arith, long_seats, lane_there s.lanes o.0 o.1 o.2) in
          let serving : serves k.client (frame_in seats o.0) ≡ true = subst (λ (x : Option Frame). serves k.client x ≡ true) (sym at) (eq-eqb o.1.client k.client o.3) in
          true≢false (sym (list_any_at (λ x. serves k.client x.lane.frame) seats o.0 no_seat there serving) ∙ q)

      number_some : (r : Option ℤ) → (r ≡ None → ⊥) → (reply_number r == 1) ≡ true
      number_some None none = absurd (none refl)
      number_some (Some v) none = refl

      replied : (b : Bool) → is_served seats k.client ≡ b → (if b then (reply_number k.entry.reply == 0) else (reply_number k.entry.reply == 1)) ≡ true
      replied true q = rw (open_then q) refl
      replied false q = number_some k.entry.reply (replied_then q)

  busy_few : count_by (λ x. is_busy x.lane.frame) seats ≤ length clients
  busy_few =
      let among = once_within (chosen is_busy seats) (map client_in clients) (once_chosen is_busy seats are_apart) (λ client h. let i = is_chosen is_busy seats client h in subst (λ (n : ℕ). Has n (map client_in clients)) i.client_is (covers i.lane i.frame i.busy)) in
      omega (arith, among, length-chosen is_busy seats refl, length-map clients client_in)

  -- ---- the whole

  pub are_parts : (v : Version) → has_version service v ≡ true → AreParts service (parts_of v s)
  are_parts v old = record {
    version = old;
    seats = seats_are;
    lanes = long_seats ∙ sound.by.complete.lanes;
    variables = record { typed = has.typed.variables; long = sound.by.complete.variables };
    queues = queues_are;
    conditions = sound.by.complete.queues;
    semaphores = record { bounded = sound.by.bounded; long = sound.by.complete.semaphores };
    count = between-is (count_by (λ x. is_busy x.lane.frame) seats) 256 (length clients) (busy_few, few_clients);
    clients = known_each seats are_apart 0 clients clients_rise good_client (λ lane f e less. covers lane f e);
  }

  pub state_again : (v : Version) → state_of (parts_of v s) ≡ s
  state_again v =
      let make : List Lane → List Entry → StateValue = λ lanes entries. record { variables = s.variables; lanes = lanes; queues = s.queues; semaphores = s.semaphores; clients = entries } in
      ap (λ (ls : List Lane). make ls (entered no_entries clients)) (lanes_again s.queues 0 s.lanes) ∙ ap (make s.lanes) (entries_again s.clients sound.by.complete.clients has.limited.entries)
