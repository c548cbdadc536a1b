-- What taking a lock and giving it up keep.
use Rattle.std.proofs.Common.{◌≡◌, ◌⊎◌, inl, inr, ⊎_elim, ℕ, ◌+◌, ◌*◌, ◌<◌, ◌≤◌, arith, Bool, true, false, cond, List, [], ◌∷◌, ◌++◌, length, sym, refl, ap, ◌∙◌, subst}
use Rattle.std.specs.Prelude.{ℤ, max, Some}
use Rattle.std.proofs.Math.Nat.{le-max_left}
use Rattle.std.proofs.lemmas.Bool.{eq-eqb, ne_eqb, cases_eq}
use Rattle.rex_syntax.specs.declared.locks.Mode.{Mode}
use Rattle.rex_syntax.specs.declared.locks.Mode.TheVariants.{Free, Exclusive}
use Rattle.rex_event.specs.declared.event.Kind.{Kind}
use Rattle.rex_event.specs.declared.event.Event.{Event}
use Rattle.rex_event.specs.Conflict.{named_lock}
use Rattle.rex_event.specs.Order.{Has}
use Rattle.rex_state.specs.declared.lane.Lane.{Lane}
use Rattle.rex_state.specs.Value.{StateValue}
use Rattle.rex_state.specs.Machine.{locks_allow, next}
use Rattle.rex_state.specs.Start.{start_of}
use Rattle.rex_state.specs.Sound.{mode_at, IsSound}
use Rattle.rex_state.proofs.Sounds.{run_keeps, start_keeps}
use Rattle.rex_words.specs.declared.assignment.Assignment.{Assignment}
use Rattle.rex_words.specs.declared.stamped.Stamped.{Stamped}
use Rattle.rex_words.specs.declared.view.Knowledge.{Knowledge}
use Rattle.rex_words.specs.Words.{owner_in, word_of}
use Rattle.rex_words.specs.Stamps.{comes_before, placed, events_in, is_of, is_on, greatest_stamp, lane_stamp, lock_stamp, taken_stamp, new_stamp, stamped}
use Rattle.rex_words.specs.Recorded.{IsDealt, IsRecorded}
use Rattle.rex_words.specs.Own.{value_at, HasLoaded, GoesAlong}
use Rattle.rex_words.specs.Alone.{service_of, own_event, with_event}
use Rattle.rex_words.specs.Moment.{locks_in, variables_in, lock_word, word_value, guard, IsAssignment, IsLoaded, IsKnown, IsOpen, IsOwner, IsLockWord, IsCommon}
use Rattle.rex_words.specs.Kept.{with_known}
use Rattle.std.specs.Int.{cast_signed}
use mir.Syntax.{w64}
use Rattle.std.specs.Prelude.{slice_index_or}
use Rattle.std.proofs.Common.{zero, suc}
use Rattle.std.proofs.lemmas.List.{get_or-set_same, get_or-set_other}
use Rattle.std.proofs.lemmas.Option.{same_Some}
use Rattle.rex_state.specs.Locks.{mode_in, is_free}
use Rattle.rex_state.specs.Machine.{no_lane}
use Rattle.rex_words.specs.Kept.{with_lock}
use Rattle.rex_words.proofs.Order.{stamp_below, has_kept, kept_least, has_placed}
use Rattle.rex_words.proofs.Recording.{find_their_place, above_lock}
use Rattle.rex_words.proofs.Along.{own_events_go_along, others_stay_own}
use Rattle.rex_words.proofs.Keeping.{placed_out, placed_last, other_modes, value_stays, open_word, replaced}

now_by : (b : Bool) (x y : Stamped) (ys : List Stamped) → Has x (placed x ys) → Has x (cond b (x ∷ y ∷ ys) (y ∷ placed x ys))
now_by true x y ys h = inl refl
now_by false x y ys h = inr h

has_now : (x : Stamped) (xs : List Stamped) → Has x (placed x xs)
has_now x [] = inl refl
has_now x (y ∷ ys) = now_by (comes_before x y) x y ys (has_now x ys)

pub get_past : (xs : List ℤ) (i : ℕ) (d : ℤ) → length xs ≤ i → slice_index_or xs i d ≡ d
get_past [] i d h = refl
get_past (x ∷ xs) zero d h = absurd (omega arith)
get_past (x ∷ xs) (suc i) d h = get_past xs i d (omega arith)

pub all_open : (lock : ℕ) (lanes : List Lane) → ((l : ℕ) → mode_in lock (slice_index_or lanes l no_lane) ≡ Free) → is_free lock lanes ≡ true
all_open lock [] h = refl
all_open lock (x ∷ xs) h = rw (h zero) (all_open lock xs (λ l. h (suc l)))

pub free≢exclusive : (m : Mode) → m ≡ Free → m ≡ Exclusive → ⊥
free≢exclusive m f e = let w : Free ≡ Exclusive = sym f ∙ e in cc

-- ---- an event on a lock

module _ (r : Assignment) (words : List ℕ) (know : ℕ → Knowledge) (lane : ℕ) (kind : Kind) (own : StateValue) (lock owner stamp : ℕ) (a : IsAssignment r) (wide : locks_in r + variables_in r ≤ length words) (c : IsCommon r words know) (inside : lane < (service_of r).lanes)
    (there : lock < locks_in r) (names : named_lock kind ≡ Some lock) (dealt : IsDealt (service_of r) (own_event lane (know lane) kind)) (leads : next (service_of r) (know lane).own (own_event lane (know lane) kind) ≡ Some own)
    (allow : locks_allow kind c.state.lanes ≡ true) (loaded : HasLoaded (service_of r) (own_event lane (know lane) kind) (know lane).own c.state) (stamp_is : new_stamp c.history (own_event lane (know lane) kind) ≡ stamp)
    (owned : (t : StateValue) → next (service_of r) c.state (own_event lane (know lane) kind) ≡ Some t → IsOwner t lock owner)
    (values : (t : StateValue) → next (service_of r) c.state (own_event lane (know lane) kind) ≡ Some t → (x : ℕ) → x < variables_in r → guard r x ≡ lock → IsOpen t lock → word_value r words x ≡ value_at t x) where
  abbrev event : Event
  event = own_event lane (know lane) kind

  sound : IsSound (service_of r) c.state
  sound = run_keeps (service_of r) (start_of (service_of r)) c.state (events_in c.history) a.good (start_keeps (service_of r) a.good a.checked) c.recorded.runs

  along : GoesAlong (service_of r) event own c.state
  along = own_events_go_along (service_of r) (know lane).own own c.state event a.good sound (c.lanes lane inside).own dealt leads allow loaded

  abbrev now : Stamped
  now = record { stamp = stamp; event = event }

  now_is : stamped c.history event ≡ now
  now_is = ap (λ (n : ℕ). let x : Stamped = record { stamp = n; event = event } in x) stamp_is

  recorded_now : IsRecorded (service_of r) (placed now c.history) along.state
  recorded_now = subst (λ (x : Stamped). IsRecorded (service_of r) (placed x c.history) along.state) now_is (find_their_place (service_of r) c.history c.state along.state event a.good a.checked c.recorded dealt along.next)

  above : lock_stamp c.history lock < stamp
  above = subst (λ (n : ℕ). lock_stamp c.history lock < n) stamp_is (above_lock (service_of r) a.good a.checked c.history c.state c.recorded event along.state dealt along.next lock names)

  above_own : greatest_stamp (know lane).list < stamp
  above_own = subst (λ (n : ℕ). greatest_stamp (know lane).list < n) stamp_is (let h : lane_stamp c.history lane ≤ max (lane_stamp c.history lane) (taken_stamp c.history kind) = le-max_left _ _ in let e : lane_stamp c.history lane ≡ greatest_stamp (know lane).list = ap greatest_stamp (sym (c.lanes lane inside).list) in omega arith)

  modes : (l k : ℕ) → (k ≡ lock → ⊥) → mode_at along.state l k ≡ mode_at c.state l k
  modes l k n = other_modes (service_of r) c.state along.state event l k a.good sound along.next (λ q. n (same_Some k lock (sym q ∙ names)))

  abbrev words' : List ℕ
  words' = with_lock words lock (word_of stamp owner)

  word_here : lock_word words' lock ≡ word_of stamp owner
  word_here = get_or-set_same words lock (word_of stamp owner) 0 (omega arith)

  word_other : (l : ℕ) → (l ≡ lock → ⊥) → lock_word words' l ≡ lock_word words l
  word_other l n = get_or-set_other words lock l (word_of stamp owner) 0 n

  value_same : (x : ℕ) → word_value r words' x ≡ word_value r words x
  value_same x = ap (cast_signed w64) (get_or-set_other words lock (locks_in r + x) (word_of stamp owner) 0 (λ q. absurd (omega arith)))

  old_less : lock_word words lock < word_of stamp owner
  old_less = let w = c.locks lock there in let e : lock_word words lock ≡ lock_stamp c.history lock * 128 + w.owner = w.is in let s : w.owner < 128 = w.holder.small in let b = above in omega arith

  stamp_now : lock_stamp (placed now c.history) lock ≡ stamp
  stamp_now =
      let low : stamp ≤ lock_stamp (placed now c.history) lock = stamp_below _ now (has_kept (is_on lock) (placed now c.history) now (has_now now c.history) (rw names (eq-eqb lock lock refl))) in
      let high : lock_stamp (placed now c.history) lock ≤ stamp = kept_least (is_on lock) (placed now c.history) stamp (λ y h k. ⊎_elim (λ (q : now ≡ y). subst (λ (z : Stamped). z.stamp ≤ stamp) q (omega arith)) (λ (q : Has y c.history). old y q k) (has_placed now c.history y h)) in
      omega arith
    where
      old : (y : Stamped) → Has y c.history → is_on lock y ≡ true → y.stamp ≤ stamp
      old y q k = let b : y.stamp ≤ lock_stamp c.history lock = stamp_below _ y (has_kept (is_on lock) c.history y q k) in let d = above in omega arith

  off : (l : ℕ) → (l ≡ lock → ⊥) → is_on l now ≡ false
  off l n = rw names (ne_eqb lock l (λ q. n (sym q)))

  locks_now : (l : ℕ) → l < locks_in r → IsLockWord (placed now c.history) along.state l (lock_word words' l)
  locks_now l h = by (cases_eq l lock)
    where
      by : (l ≡ lock) ⊎ (l ≡ lock → ⊥) → IsLockWord (placed now c.history) along.state l (lock_word words' l)
      by (inl q) = subst (λ (k : ℕ). IsLockWord (placed now c.history) along.state k (lock_word words' k)) (sym q) (record { owner = owner; is = word_here ∙ ap (λ (n : ℕ). word_of n owner) (sym stamp_now); holder = owned along.state along.next })
      by (inr n) =
          let w = c.locks l h in record {
            owner = w.owner;
            is = word_other l n ∙ (w.is ∙ ap (λ (xs : List Stamped). word_of (greatest_stamp xs) w.owner) (sym (placed_out (is_on l) now c.history (off l n))));
            holder = record { small = w.holder.small; held = λ m p. w.holder.held m (λ q. p (modes m l n ∙ q)); holds = λ m q f. w.holder.holds m q (sym (modes m l n) ∙ f) };
          }

  shared_now : (x : ℕ) → x < variables_in r → IsOpen along.state (guard r x) → word_value r words' x ≡ value_at along.state x
  shared_now x h o = value_same x ∙ by (cases_eq (guard r x) lock)
    where
      by : (guard r x ≡ lock) ⊎ (guard r x ≡ lock → ⊥) → word_value r words x ≡ value_at along.state x
      by (inl q) = values along.state along.next x h q (subst (λ (g : ℕ). (l : ℕ) → mode_at along.state l g ≡ Free) q o)
      by (inr n) = c.shared x h (λ l. sym (modes l (guard r x) n) ∙ o l) ∙ sym (value_stays (service_of r) c.state along.state event x a.good sound along.next (o lane))

  noted_stays : (l n : ℕ) → n ≤ lock_word words l → n ≤ lock_word words' l
  noted_stays l n h = by (cases_eq l lock)
    where
      by : (l ≡ lock) ⊎ (l ≡ lock → ⊥) → n ≤ lock_word words' l
      by (inr m) = subst (λ (w : ℕ). n ≤ w) (sym (word_other l m)) h
      by (inl q) = subst (λ (k : ℕ). n ≤ lock_word words' k) (sym q) (let g : n ≤ lock_word words lock = subst (λ (k : ℕ). n ≤ lock_word words k) q h in let e = word_here in let b = old_less in omega arith)

  mine : IsKnown r words' (placed now c.history) along.state lane (with_event (know lane) stamp event own)
  mine = record {
    list = ap (λ (xs : List Stamped). xs ++ now ∷ []) (c.lanes lane inside).list ∙ sym (placed_last (is_of lane) now c.history c.recorded.order (eq-eqb lane lane refl) less);
    own = along.own;
    noted = λ h. noted_stays (know lane).noted_lock (know lane).noted ((c.lanes lane inside).noted h);
    loaded = λ x h. absurd h;
    stored = λ x h. absurd h;
  }
    where
      less : (y : Stamped) → Has y c.history → is_of lane y ≡ true → y.stamp < stamp
      less y h k = let b : y.stamp ≤ lane_stamp c.history lane = stamp_below _ y (has_kept (is_of lane) c.history y h k) in let e : lane_stamp c.history lane ≡ greatest_stamp (know lane).list = ap greatest_stamp (sym (c.lanes lane inside).list) in let d = above_own in omega arith

  rest : (other : ℕ) → other < (service_of r).lanes → (other ≡ lane → ⊥) → IsKnown r words' (placed now c.history) along.state other (know other)
  rest other h n = record {
    list = k.list ∙ sym (placed_out (is_of other) now c.history (ne_eqb lane other (λ q. n (sym q))));
    own = others_stay_own (service_of r) (know other).own c.state along.state other event a.good sound k.own dealt along.next (λ q. n (sym q));
    noted = λ h. noted_stays (know other).noted_lock (know other).noted (k.noted h);
    loaded = λ x q. stays x (k.loaded x q);
    stored = λ x q. let w = k.stored x q in record { held = w.held; same = value_same x ∙ w.same };
  }
    where
      k : IsKnown r words c.history c.state other (know other)
      k = c.lanes other h

      stays : (x : ℕ) → IsLoaded r words c.state (know other) x → IsLoaded r words' along.state (know other) x
      stays x l = record { there = l.there; lock = l.lock; unowned = l.unowned; same = λ w. by w (cases_eq (know other).noted_lock lock) }
        where
          by : lock_word words' (know other).noted_lock ≡ (know other).noted → ((know other).noted_lock ≡ lock) ⊎ ((know other).noted_lock ≡ lock → ⊥) → value_at (know other).own x ≡ value_at along.state x
          by w (inl q) = absurd (let g : (know other).noted ≤ lock_word words lock = subst (λ (m : ℕ). (know other).noted ≤ lock_word words m) q (k.noted l.there) in let e : lock_word words' lock ≡ (know other).noted = subst (λ (m : ℕ). lock_word words' m ≡ (know other).noted) q w in let d = word_here in let b = old_less in omega arith)
          by w (inr m) =
              let old : lock_word words (know other).noted_lock ≡ (know other).noted = sym (word_other (know other).noted_lock m) ∙ w in
              let unheld : mode_at c.state lane (guard r x) ≡ Free = subst (λ (g : ℕ). mode_at c.state lane g ≡ Free) (sym l.lock) (open_word c.history c.state (know other).noted_lock (lock_word words (know other).noted_lock) (c.locks (know other).noted_lock l.there) (ap owner_in old ∙ l.unowned) lane) in
              l.same old ∙ sym (value_stays (service_of r) c.state along.state event x a.good sound along.next (modes lane (guard r x) (λ q. m (sym l.lock ∙ q)) ∙ unheld))

  pub locked : IsCommon r words' (with_known know lane (with_event (know lane) stamp event own))
  locked = record {
    history = placed now c.history;
    state = along.state;
    recorded = recorded_now;
    locks = locks_now;
    shared = shared_now;
    lanes = λ other h. replaced r words words' know (placed now c.history) along.state lane (with_event (know lane) stamp event own) other mine (rest other h);
  }
