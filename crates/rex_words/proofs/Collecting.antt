-- The host takes in the lanes' seats.
use Rattle.std.proofs.Common.{◌≡◌, ◌⊎◌, inl, inr, ⊎_elim, ℕ, zero, suc, ◌+◌, ◌-◌, ◌<◌, ◌≤◌, arith, List, [], ◌∷◌, ◌++◌, length, get_or, take, refl, ap, sym, ◌∙◌, subst, length-append, Bool, ◌*◌}
use Rattle.std.specs.Prelude.{slice_index_or, nat_lt}
use Rattle.std.specs.List.{filter}
use Rattle.std.proofs.lemmas.Bool.{cases_eq, cases_lt, eq-eqb, ne_eqb, lt-ltb, le-ltb}
use Rattle.std.proofs.lemmas.List.{take_all, length-map}
use mathlib.Core.Option.{some, some-ne-none}
use lib.ListN.{get_elem?}
use Rattle.atomic_table.specs.Seated.{TableId}
use Rattle.rex_event.specs.declared.event.Event.{Event}
use Rattle.rex_event.specs.Order.{Has}
use Rattle.rex_state.specs.Value.{StateValue}
use Rattle.rex_state.specs.Machine.{run}
use Rattle.rex_state.specs.Start.{start_of}
use Rattle.rex_words.specs.declared.assignment.Assignment.{Assignment}
use Rattle.rex_words.specs.declared.stamped.Stamped.{Stamped}
use Rattle.rex_words.specs.declared.seat.WordSeat.{WordSeat}
use Rattle.rex_words.specs.declared.view.Gathered.{Gathered}
use Rattle.rex_words.specs.declared.view.Knowledge.{Knowledge}
use Rattle.rex_words.specs.declared.view.View.{View}
use Rattle.rex_words.specs.declared.view.Role.TheVariants.{Host}
use Rattle.rex_words.specs.Stamps.{event_of, events_in, is_of, lane_list}
use Rattle.rex_words.specs.Alone.{service_of, AreTold, DoAlone}
use Rattle.rex_words.specs.Own.{IsOwn}
use Rattle.rex_words.specs.Moment.{IsCommon, IsBounded, IsMoment}
use Rattle.rex_words.specs.Seats.{IsSeatOf}
use Rattle.rex_words.specs.Histories.{IsSeatAt, AreSeats, IsHistoryOf, IsMerged, HostSeat, IsGathering, IsCollected, AreCollected, IsCollecting}
use Rattle.rex_words.proofs.Bounds.{in_lanes}
use Rattle.rex_words.proofs.Entering.{enter_all}
use Rattle.rex_words.proofs.Gathering.{gathered_lists_are_one}
use Rattle.rex_words.proofs.Keeps.{S, says_host}
use Rattle.rex_words.proofs.Merging.{filter_none, filter_all, kept, left_out}

-- ---- lists

before_end : {A : Type 0} (l : List A) (a d : A) (i : ℕ) → i < length l → get_or (l ++ a ∷ []) i d ≡ get_or l i d
before_end [] a d i h = absurd (omega arith)
before_end (x ∷ xs) a d zero h = refl
before_end (x ∷ xs) a d (suc i) h = before_end xs a d i (omega arith)

at_length : {A : Type 0} (l : List A) (a d : A) → get_or (l ++ a ∷ []) (length l) d ≡ a
at_length [] a d = refl
at_length (x ∷ xs) a d = at_length xs a d

at_left : {A : Type 0} (xs ys : List A) (i : ℕ) (a : A) → get_elem? xs i ≡ some a → get_elem? (xs ++ ys) i ≡ some a
at_left [] ys i a h = absurd (some-ne-none a (sym h))
at_left (x ∷ xs) ys zero a h = h
at_left (x ∷ xs) ys (suc i) a h = at_left xs ys i a h

at_seam : {A : Type 0} (xs : List A) (a : A) → get_elem? (xs ++ a ∷ []) (length xs) ≡ some a
at_seam [] a = refl
at_seam (x ∷ xs) a = at_seam xs a

record IsLast (left : List WordSeat) (m : WordSeat) (all : List WordSeat) : Type 0 where
  pub there : length left < length all
  pub at : (d : WordSeat) → get_or all (length left) d ≡ m
  pub front : left ≡ take (length left) all

last_of : (left : List WordSeat) (m : WordSeat) (all : List WordSeat) → left ++ m ∷ [] ≡ take (length (left ++ m ∷ [])) all → IsLast left m all
last_of [] m [] h = absurd (let e : m ∷ [] ≡ [] = h in cc)
last_of [] m (x ∷ xs) h = record { there = omega arith; at = λ d. let e : m ∷ [] ≡ x ∷ [] = h in let f : m ≡ x = cc in sym f; front = refl }
last_of (y ∷ left) m [] h = absurd (let e : y ∷ (left ++ m ∷ []) ≡ [] = h in cc)
last_of (y ∷ left) m (x ∷ xs) h =
    let e : y ∷ (left ++ m ∷ []) ≡ x ∷ take (length (left ++ m ∷ [])) xs = h in
    let head : y ≡ x = cc in
    let rest : left ++ m ∷ [] ≡ take (length (left ++ m ∷ [])) xs = cc in
    let l = last_of left m xs rest in
    record { there = let t = l.there in omega arith; at = l.at; front = λ i. head i ∷ l.front i }

-- ---- one more lane

module _ (r : Assignment) (z : TableId) (s s' : HostSeat) (all left : List WordSeat) (m : WordSeat) (lists : List (List Stamped)) (c : IsCollecting r z s all (left ++ m ∷ []) lists) where
  long : length (left ++ m ∷ []) ≡ length left + 1
  long = length-append left (m ∷ [])

  last : IsLast left m all
  last = last_of left m all c.front

  pub popped_seat : IsSeatAt r z (length left) m
  popped_seat = subst (IsSeatAt r z (length left)) (last.at m) (c.seats.each (length left) m last.there)

  module _ (gathering : IsGathering r z s') (list : List Stamped) (list_is : list ≡ m.events.items) (view : s'.me.0.gathered ≡ s.me.0.gathered ++ (record { lane = m.seat.me.0.lane; knows = m.seat.me.0.knows }) ∷ []) where
    abbrev q : IsSeatOf r z m
    q = popped_seat.seat

    new : IsCollected r s'.me.0.gathered all (length left) list
    new = record {
      place = length s.me.0.gathered;
      known = record { lane = m.seat.me.0.lane; knows = m.seat.me.0.knows };
      at = ap (λ (g : List Gathered). get_elem? g (length s.me.0.gathered)) view ∙ at_seam s.me.0.gathered (record { lane = m.seat.me.0.lane; knows = m.seat.me.0.knows });
      lane_is = q.lane_is ∙ popped_seat.lane_is;
      held = q.held;
      now = q.now;
      does = subst (λ (x : ℕ). DoAlone r x m.seat.me.0.knows q.held q.now) popped_seat.lane_is q.does;
      quiet = q.quiet;
      list_is = q.list ∙ sym list_is;
      own_is = λ d. q.own ∙ sym (ap (λ (x : WordSeat). x.state) (last.at d));
      few = let e : length list ≡ length m.events.items = ap (λ (xs : List Stamped). length xs) list_is in let f = q.lane.few in omega arith;
      told = subst (λ (x : ℕ × List Stamped). AreTold r x.0 x.1) (λ i. (popped_seat.lane_is i, sym list_is i)) q.lane.told;
    }

    old : (lane : ℕ) (xs : List Stamped) → IsCollected r s.me.0.gathered all lane xs → IsCollected r s'.me.0.gathered all lane xs
    old lane xs k = record {
      place = k.place;
      known = k.known;
      at = ap (λ (g : List Gathered). get_elem? g k.place) view ∙ at_left s.me.0.gathered _ k.place k.known k.at;
      lane_is = k.lane_is;
      held = k.held;
      now = k.now;
      does = k.does;
      quiet = k.quiet;
      list_is = k.list_is;
      own_is = k.own_is;
      few = k.few;
      told = k.told;
    }

    behind : (lane : ℕ) → length left < lane → lane < length all → slice_index_or (lists ++ list ∷ []) (length all - (lane + 1)) [] ≡ slice_index_or lists (length all - (lane + 1)) []
    behind lane h k = before_end lists list [] (length all - (lane + 1)) (let n = c.collected.count in let o = long in omega arith)

    here : (lane : ℕ) → lane ≡ length left → slice_index_or (lists ++ list ∷ []) (length all - (lane + 1)) [] ≡ list
    here lane h = (let e : length all - (lane + 1) ≡ length lists = (let n = c.collected.count in let o = long in let t = last.there in omega arith) in ap (λ (n : ℕ). slice_index_or (lists ++ list ∷ []) n []) e) ∙ at_length lists list []

    pub collected_more : IsCollecting r z s' all left (lists ++ list ∷ [])
    collected_more = record {
      gathering = gathering;
      seats = c.seats;
      front = last.front;
      few = let t = last.there in omega arith;
      collected = record {
        count = let n = c.collected.count in let o = long in let p = length-append lists (list ∷ []) in omega arith;
        each = λ lane low high. each lane low high (cases_eq lane (length left));
        same = λ lane d low high. same lane d low high (cases_eq lane (length left));
      };
    }
      where
        each : (lane : ℕ) → length left ≤ lane → lane < length all → (lane ≡ length left) ⊎ (lane ≡ length left → ⊥) → IsCollected r s'.me.0.gathered all lane (slice_index_or (lists ++ list ∷ []) (length all - (lane + 1)) [])
        each lane low high (inl e) = subst (IsCollected r s'.me.0.gathered all lane) (sym (here lane e)) (subst (λ (x : ℕ). IsCollected r s'.me.0.gathered all x list) (sym e) new)
        each lane low high (inr ne) = subst (IsCollected r s'.me.0.gathered all lane) (sym (behind lane (omega arith) high)) (old lane _ (c.collected.each lane (let o = long in omega arith) high))

        same : (lane : ℕ) (d : WordSeat) → length left ≤ lane → lane < length all → (lane ≡ length left) ⊎ (lane ≡ length left → ⊥) → slice_index_or (lists ++ list ∷ []) (length all - (lane + 1)) [] ≡ (slice_index_or all lane d).events.items
        same lane d low high (inl e) = here lane e ∙ (list_is ∙ sym (ap (λ (x : WordSeat). x.events.items) (ap (λ (n : ℕ). get_or all n d) e ∙ last.at d)))
        same lane d low high (inr ne) = behind lane (omega arith) high ∙ c.collected.same lane d (let o = long in omega arith) high

pub starts_collecting : (r : Assignment) (z : TableId) (s : HostSeat) (all : List WordSeat) → IsGathering r z s → AreSeats r z (length all) all → IsCollecting r z s all all []
starts_collecting r z s all g a = record {
  gathering = g;
  seats = a;
  front = sym (take_all (length all) all (omega arith));
  few = omega arith;
  collected = record { count = omega arith; each = λ lane low high. absurd (omega arith); same = λ lane d low high. absurd (omega arith) };
}

-- ---- how many events there are

abbrev below_lane : ℕ → Stamped → Bool
below_lane n x = nat_lt x.event.lane n

count_split : (n : ℕ) (xs : List Stamped) → length (filter (below_lane (suc n)) xs) ≡ length (filter (below_lane n) xs) + length (filter (is_of n) xs)
count_split n [] = refl
count_split n (x ∷ xs) = by (cases_lt x.event.lane n) (cases_eq x.event.lane n) (count_split n xs)
  where
    by : (x.event.lane < n) ⊎ (n ≤ x.event.lane) → (x.event.lane ≡ n) ⊎ (x.event.lane ≡ n → ⊥) → length (filter (below_lane (suc n)) xs) ≡ length (filter (below_lane n) xs) + length (filter (is_of n) xs)
        → length (filter (below_lane (suc n)) (x ∷ xs)) ≡ length (filter (below_lane n) (x ∷ xs)) + length (filter (is_of n) (x ∷ xs))
    by (inl h) (inl e) r = absurd (omega arith)
    by (inl h) (inr ne) r =
        let a : length (filter (below_lane (suc n)) (x ∷ xs)) ≡ suc (length (filter (below_lane (suc n)) xs)) = ap (λ (l : List Stamped). length l) (kept (below_lane (suc n)) x xs (lt-ltb x.event.lane (suc n) (omega arith))) in
        let b : length (filter (below_lane n) (x ∷ xs)) ≡ suc (length (filter (below_lane n) xs)) = ap (λ (l : List Stamped). length l) (kept (below_lane n) x xs (lt-ltb x.event.lane n h)) in
        let c : length (filter (is_of n) (x ∷ xs)) ≡ length (filter (is_of n) xs) = ap (λ (l : List Stamped). length l) (left_out (is_of n) x xs (ne_eqb x.event.lane n ne)) in
        omega arith
    by (inr h) (inl e) r =
        let a : length (filter (below_lane (suc n)) (x ∷ xs)) ≡ suc (length (filter (below_lane (suc n)) xs)) = ap (λ (l : List Stamped). length l) (kept (below_lane (suc n)) x xs (lt-ltb x.event.lane (suc n) (omega arith))) in
        let b : length (filter (below_lane n) (x ∷ xs)) ≡ length (filter (below_lane n) xs) = ap (λ (l : List Stamped). length l) (left_out (below_lane n) x xs (le-ltb x.event.lane n h)) in
        let c : length (filter (is_of n) (x ∷ xs)) ≡ suc (length (filter (is_of n) xs)) = ap (λ (l : List Stamped). length l) (kept (is_of n) x xs (eq-eqb x.event.lane n e)) in
        omega arith
    by (inr h) (inr ne) r =
        let a : length (filter (below_lane (suc n)) (x ∷ xs)) ≡ length (filter (below_lane (suc n)) xs) = ap (λ (l : List Stamped). length l) (left_out (below_lane (suc n)) x xs (le-ltb x.event.lane (suc n) (omega arith))) in
        let b : length (filter (below_lane n) (x ∷ xs)) ≡ length (filter (below_lane n) xs) = ap (λ (l : List Stamped). length l) (left_out (below_lane n) x xs (le-ltb x.event.lane n h)) in
        let c : length (filter (is_of n) (x ∷ xs)) ≡ length (filter (is_of n) xs) = ap (λ (l : List Stamped). length l) (left_out (is_of n) x xs (ne_eqb x.event.lane n ne)) in
        omega arith

few_below : (xs : List Stamped) (total : ℕ) → ((lane : ℕ) → lane < total → length (lane_list xs lane) ≤ 1000000) → (n : ℕ) → n ≤ total → length (filter (below_lane n) xs) ≤ n * 1000000
few_below xs total few zero h = let e : length (filter (below_lane 0) xs) ≡ 0 = ap (λ (l : List Stamped). length l) (filter_none (below_lane 0) xs (λ x q. le-ltb x.event.lane 0 (omega arith))) in omega arith
few_below xs total few (suc n) h =
    let s = count_split n xs in
    let a : length (filter (below_lane n) xs) ≤ n * 1000000 = few_below xs total few n (omega arith) in
    let b : length (filter (is_of n) xs) ≤ 1000000 = few n (omega arith) in
    omega arith

few_of_all : (xs : List Stamped) (total : ℕ) → ((x : Stamped) → Has x xs → x.event.lane < total) → ((lane : ℕ) → lane < total → length (lane_list xs lane) ≤ 1000000) → total ≤ 64 → length (events_in xs) ≤ 64000000
few_of_all xs total inside few small =
    let a : length (filter (below_lane total) xs) ≤ total * 1000000 = few_below xs total few total (omega arith) in
    let b : length (filter (below_lane total) xs) ≡ length xs = ap (λ (l : List Stamped). length l) (filter_all (below_lane total) xs (λ x q. lt-ltb x.event.lane total (inside x q))) in
    let c : length (events_in xs) ≡ length xs = length-map xs event_of in
    omega arith

-- ---- what the lanes did by themselves since their last steps enters

pub record HasEntered (r : Assignment) (words : List ℕ) (know : ℕ → Knowledge) (seats : List WordSeat) (lists : List (List Stamped)) (n : ℕ) : Type 0 where
  pub now : ℕ → Knowledge
  pub common : IsCommon r words now
  pub bounded : IsBounded r now
  pub done : (lane : ℕ) → lane < n → (now lane).list ≡ slice_index_or lists (length seats - (lane + 1)) []
  pub owns : (lane : ℕ) (d : WordSeat) → lane < n → (now lane).own ≡ (slice_index_or seats lane d).state
  pub rest : (lane : ℕ) → n ≤ lane → now lane ≡ know lane

module _ (r : Assignment) (s : S) (M : IsMoment r s) (id : ℕ) (v : View) (at : get_elem? s.views id ≡ some v) (role : v.role ≡ Host) (seats : List WordSeat) (lists : List (List Stamped)) (c : AreCollected r v.gathered 0 seats lists) (all : length seats ≡ (service_of r).lanes) where
  knows_is : (lane : ℕ) (xs : List Stamped) → (k : IsCollected r v.gathered seats lane xs) → M.know lane ≡ k.known.knows
  knows_is lane xs k = ap M.know (sym k.lane_is) ∙ ((says_host r s M id v at role).3 k.place k.known k.at).knows

  enters_to : (n : ℕ) → n ≤ length seats → HasEntered r s.words M.know seats lists n
  enters_to zero h = record { now = M.know; common = M.common; bounded = M.bounded; done = λ lane lt. absurd (omega arith); owns = λ lane d lt. absurd (omega arith); rest = λ lane le. refl }
  enters_to (suc n) h =
      let e = enters_to n (omega arith) in
      let k = c.each n (omega arith) (omega arith) in
      let p = enter_all r s.words M.right n (omega arith) k.held e.now e.common e.bounded k.known.knows k.now (e.rest n (omega arith) ∙ knows_is n _ k) k.does k.quiet (let f = k.few in let g : length k.now.list ≡ length (slice_index_or lists (length seats - (n + 1)) []) = ap (λ (xs : List Stamped). length xs) k.list_is in omega arith) in
      record {
        now = p.know';
        common = p.common;
        bounded = p.bounded;
        done = λ lane lt. ⊎_elim
            (λ (q : lane ≡ n). ap (λ (x : Knowledge). x.list) (ap p.know' q ∙ p.mine) ∙ (k.list_is ∙ ap (λ (x : ℕ). slice_index_or lists (length seats - (x + 1)) []) (sym q)))
            (λ (ne : lane ≡ n → ⊥). ap (λ (x : Knowledge). x.list) (p.others lane ne) ∙ e.done lane (omega arith))
            (cases_eq lane n);
        owns = λ lane d lt. ⊎_elim
            (λ (q : lane ≡ n). ap (λ (x : Knowledge). x.own) (ap p.know' q ∙ p.mine) ∙ (k.own_is d ∙ ap (λ (x : ℕ). (slice_index_or seats x d).state) (sym q)))
            (λ (ne : lane ≡ n → ⊥). ap (λ (x : Knowledge). x.own) (p.others lane ne) ∙ e.owns lane d (omega arith))
            (cases_eq lane n);
        rest = λ lane le. p.others lane (λ q. absurd (omega arith)) ∙ e.rest lane (omega arith);
      }

  ended : HasEntered r s.words M.know seats lists (length seats)
  ended = enters_to (length seats) (omega arith)

  lists_long : length lists ≡ length seats
  lists_long = let n = c.count in omega arith

  whole_is : IsMerged lists ended.common.history
  whole_is = record {
    order = ended.common.recorded.order;
    each = λ lane lt. (let e = lists_long in ap (λ (n : ℕ). slice_index_or lists (n - (lane + 1)) []) e) ∙ (sym (ended.done lane (let e = lists_long in omega arith)) ∙ (ended.common.lanes lane (let e = lists_long in omega arith)).list);
    lanes = λ x h. let i = in_lanes r s.words ended.now M.right ended.common ended.bounded x h in let e = lists_long in omega arith;
  }

  pub whole_pair : (x : List Stamped) × IsMerged lists x
  whole_pair = (ended.common.history, whole_is)

  pub history_of : (merged : List Stamped) (history : List Event) → IsMerged lists merged → history ≡ events_in merged → IsHistoryOf r seats history
  history_of merged history m events =
      let one : merged ≡ ended.common.history = gathered_lists_are_one merged ended.common.history m.order whole_is.order (λ lane. lane_same lane (cases_lt lane (length lists))) in
      record {
        list = merged;
        order = m.order;
        events = sym events;
        state = ended.common.state;
        runs = ap (run (service_of r) (start_of (service_of r))) (events ∙ ap events_in one) ∙ ended.common.recorded.runs;
        short =
            let e : length history ≡ length (events_in merged) = ap (λ (l : List Event). length l) events in
            let f = few_of_all merged (service_of r).lanes (λ x h. let l = m.lanes x h in let g = lists_long in omega arith)
            (λ lane lt. subst (λ (xs : List Stamped). length xs ≤ 1000000) (sym (list_at lane (omega arith))) (c.each lane (omega arith) (omega arith)).few) M.right.good.lanes in
            omega arith;
        lanes = λ x h. let l = m.lanes x h in let e = lists_long in omega arith;
        mine = λ lane d lt. list_at lane (omega arith) ∙ c.same lane d (omega arith) (omega arith);
        told = λ lane lt. subst (AreTold r lane) (sym (list_at lane (omega arith))) (c.each lane (omega arith) (omega arith)).told;
        own = λ lane d lt. subst (λ (o : StateValue). IsOwn (service_of r) lane o ended.common.state) (ended.owns lane d (omega arith)) (ended.common.lanes lane lt).own;
      }
    where
      none_past : (xs : List Stamped) → IsMerged lists xs → (lane : ℕ) → length lists ≤ lane → lane_list xs lane ≡ []
      none_past xs q lane h = filter_none (is_of lane) xs (λ x there. ne_eqb x.event.lane lane (λ e. absurd (let l = q.lanes x there in omega arith)))

      lane_same : (lane : ℕ) → (lane < length lists) ⊎ (length lists ≤ lane) → lane_list merged lane ≡ lane_list ended.common.history lane
      lane_same lane (inl h) = sym (m.each lane h) ∙ whole_is.each lane h
      lane_same lane (inr h) = none_past merged m lane h ∙ sym (none_past ended.common.history whole_is lane h)

      list_at : (lane : ℕ) → lane < length seats → lane_list merged lane ≡ slice_index_or lists (length seats - (lane + 1)) []
      list_at lane h = sym (m.each lane (let e = lists_long in omega arith)) ∙ (let e = lists_long in ap (λ (n : ℕ). slice_index_or lists (n - (lane + 1)) []) e)
