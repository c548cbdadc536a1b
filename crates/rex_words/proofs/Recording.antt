-- What is recorded by stamps is a run.
use Rattle.std.proofs.Common.{◌≡◌, ◌⊎◌, inl, inr, ⊎_elim, ℕ, ◌<◌, ◌≤◌, arith, Bool, true, false, cond, List, [], ◌∷◌, sym, refl, ap, ◌∙◌, subst}
use Rattle.std.specs.Prelude.{ℤ, ◌&&◌, ◌||◌, max, nat_eq, Option, Some, None}
use Rattle.std.proofs.Math.Nat.{le-max_left, le-max_right}
use Rattle.std.proofs.lemmas.Option.{same_Some}
use Rattle.std.proofs.lemmas.Bool.{cases_eq, true≢false, eqb-true, eq-eqb, and_parts}
use Rattle.rex_syntax.specs.declared.service.Declarations.{Declarations}
use Rattle.rex_syntax.specs.declared.locks.Mode.{Mode}
use Rattle.rex_syntax.specs.declared.locks.Mode.TheVariants.{Free, Shared, Exclusive}
use Rattle.rex_syntax.specs.Locks.{is_exclusive}
use Rattle.rex_syntax.specs.Service.{IsService}
use Rattle.rex_syntax.specs.Check.{IsChecked}
use Rattle.rex_frame.specs.declared.frame.Frame.{Frame}
use Rattle.rex_event.specs.declared.event.Kind.{Kind}
use Rattle.rex_event.specs.declared.event.Event.{Event}
use Rattle.rex_event.specs.declared.event.Kind.TheVariants.{Begin, AcqEx, RelEx, TryOk, TryBusy, Clock, Random, Reply}
use Rattle.rex_event.specs.Conflict.{conflict, named_lock, named_client, named_semaphore, same_name, is_that, woke, wakes}
use Rattle.rex_event.specs.Order.{Has, Precedes}
use Rattle.rex_state.specs.Value.{StateValue}
use Rattle.rex_state.specs.Actions.{takes_exclusive}
use Rattle.rex_state.specs.Locks.{mode_in_frame}
use Rattle.rex_state.specs.Machine.{frame_at, own_can, next, run_from, run}
use Rattle.rex_state.specs.Start.{start_of}
use Rattle.rex_state.specs.Sound.{mode_at, IsSound}
use Rattle.rex_state.specs.Local.{IsLocal}
use Rattle.rex_state.proofs.Keep.{next_is}
use Rattle.rex_state.proofs.Run.{run-first}
use Rattle.rex_state.proofs.Sounds.{next_keeps, run_keeps, start_keeps}
use Rattle.rex_state.proofs.Local.{events_are_local, sound_states_exclude}
use Rattle.rex_state.proofs.Commute.{neighbours_commute}
use Rattle.rex_words.specs.declared.stamped.Stamped.{Stamped}
use Rattle.rex_words.specs.Stamps.{comes_before, IsInOrder, placed, events_in, is_of, is_on, lane_stamp, lock_stamp, taken_stamp, new_stamp, stamped}
use Rattle.rex_words.specs.Recorded.{is_plain, IsDealt, IsRecorded}
use Rattle.rex_words.proofs.Order.{stamp_below, has_kept, kept_least, before_stamp, in_order, has_placed, placed_order}

-- ---- kinds

-- a plain event that names a lock takes it or gives it up
pub data Names (kind : Kind) (lock : ℕ) : Type 0 where
  takes : takes_exclusive kind ≡ true → ((xs : List Stamped) → taken_stamp xs kind ≡ lock_stamp xs lock) → Names kind lock
  gives : kind ≡ RelEx lock → Names kind lock

pub names : (kind : Kind) (lock : ℕ) → is_plain kind ≡ true → named_lock kind ≡ Some lock → Names kind lock
names (AcqEx k) lock p n = takes refl (λ xs. ap (lock_stamp xs) (same_Some k lock n))
names (TryOk k) lock p n = takes refl (λ xs. ap (lock_stamp xs) (same_Some k lock n))
names (RelEx k) lock p n = gives (ap RelEx (same_Some k lock n))
names _ lock p n = absurd (cc)

not_woke : (kind : Kind) (lane : ℕ) → is_plain kind ≡ true → woke kind lane ≡ false
not_woke (Begin client sequence handler arguments) lane p = refl
not_woke (AcqEx lock) lane p = refl
not_woke (RelEx lock) lane p = refl
not_woke (TryOk lock) lane p = refl
not_woke (TryBusy lock) lane p = refl
not_woke (Clock value) lane p = refl
not_woke (Random value) lane p = refl
not_woke (Reply client value) lane p = refl
not_woke _ lane p = absurd (cc)

same_named : (a b : Option ℕ) → same_name a b ≡ true → (n : ℕ) × (a ≡ Some n) × (b ≡ Some n)
same_named (Some a) (Some b) h = (b, ap Some (eqb-true a b h), refl)
same_named (Some a) None h = absurd (cc)
same_named None b h = absurd (cc)

that_is : (a : Option ℕ) (b : ℕ) → is_that a b ≡ true → a ≡ Some b
that_is (Some a) b h = ap Some (eqb-true a b h)
that_is None b h = absurd (cc)

exclusive_is : (m : Mode) → is_exclusive m ≡ true → m ≡ Exclusive
exclusive_is Exclusive h = refl
exclusive_is Shared h = absurd (cc)
exclusive_is Free h = absurd (cc)

-- ---- holders

-- what gives up a lock held it
releases : (service : Declarations) (lock : ℕ) (o : Option Frame) (vs : List ℤ) → own_can service (RelEx lock) o vs ≡ true → mode_in_frame o lock ≡ Exclusive
releases service lock None vs h = absurd (cc)
releases service lock (Some f) vs h = exclusive_is _ ((and_parts _ _ ((and_parts _ _ h).1)).1)

free≢exclusive : (m : Mode) → m ≡ Free → m ≡ Exclusive → ⊥
free≢exclusive m f e = let w : Free ≡ Exclusive = sym f ∙ e in cc

module _ (service : Declarations) (good : IsService service) where
  abbrev First : StateValue → StateValue → Stamped → List Stamped → Type 0
  First s t x xs = (a : StateValue) × (next service s x.event ≡ Some a) × (run service a (events_in xs) ≡ Some t)

  -- the lane of an event that gives up a lock held it
  pub held_before : (s a : StateValue) (e : Event) (lock : ℕ) → next service s e ≡ Some a → e.kind ≡ RelEx lock → mode_at s e.lane lock ≡ Exclusive
  held_before s a e lock n k = releases service lock (frame_at s e.lane) s.variables (subst (λ (z : Kind). own_can service z (frame_at s e.lane) s.variables ≡ true) k (next_is service s e a n).enabled.own)

  -- after an event on a lock no other lane holds it
  free_after : (s a : StateValue) (e : Event) (lane lock : ℕ) → IsSound service s → next service s e ≡ Some a → is_plain e.kind ≡ true → named_lock e.kind ≡ Some lock → (e.lane ≡ lane → ⊥) → mode_at a lane lock ≡ Free
  free_after s a e lane lock sound n p k other = ap (λ (o : Option Frame). mode_in_frame o lock) (l.others lane (λ q. other (sym q))) ∙ by (names e.kind lock p k)
    where
      l : IsLocal s e a
      l = events_are_local service s a e good sound n

      by : Names e.kind lock → mode_at s lane lock ≡ Free
      by (takes t w) = l.free_exclusive lock lane (k, t)
      by (gives g) = sound_states_exclude service s e.lane lane lock sound other (held_before s a e lock n g)

  -- a lane has the frame that it had, or an event
  acts_or_stays : (xs : List Stamped) (s t : StateValue) (lane : ℕ) → IsSound service s → run service s (events_in xs) ≡ Some t → (frame_at t lane ≡ frame_at s lane) ⊎ ((x : Stamped) × Has x xs × (x.event.lane ≡ lane))
  acts_or_stays [] s t lane sound r = inl (ap (λ (z : StateValue). frame_at z lane) (sym (same_Some s t r)))
  acts_or_stays (x ∷ xs) s t lane sound r = by (cases_eq x.event.lane lane) (acts_or_stays xs f.0 t lane (next_keeps service s f.0 x.event good sound f.1) f.2)
    where
      f : First s t x xs
      f = run-first service s t x.event (events_in xs) r

      by : (x.event.lane ≡ lane) ⊎ (x.event.lane ≡ lane → ⊥) → (frame_at t lane ≡ frame_at f.0 lane) ⊎ ((y : Stamped) × Has y xs × (y.event.lane ≡ lane)) → (frame_at t lane ≡ frame_at s lane) ⊎ ((y : Stamped) × Has y (x ∷ xs) × (y.event.lane ≡ lane))
      by (inl e) rest = inr (x, inl refl, e)
      by (inr n) (inl q) = let l = events_are_local service s f.0 x.event good sound f.1 in inl (q ∙ l.others lane (λ e. n (sym e)))
      by (inr n) (inr q) = inr (q.0, inr q.1, q.2)

  -- an event on a lock is of the lane that holds it in the end, or an event of that lane stands behind it
  abbrev Ends : List Stamped → ℕ → Stamped → Type 0
  Ends xs lane y = (y.event.lane ≡ lane) ⊎ ((x : Stamped) × Precedes y x xs × (x.event.lane ≡ lane))

  holder_ends : (xs : List Stamped) (s t : StateValue) (lane lock : ℕ) → IsSound service s → run service s (events_in xs) ≡ Some t → ((x : Stamped) → Has x xs → is_plain x.event.kind ≡ true) → mode_at t lane lock ≡ Exclusive
      → (y : Stamped) → Has y xs → named_lock y.event.kind ≡ Some lock → Ends xs lane y
  holder_ends [] s t lane lock sound r p m y h k = absurd h
  holder_ends (x ∷ xs) s t lane lock sound r p m y (inr h) k =
      let f = run-first service s t x.event (events_in xs) r in
      let rest : Ends xs lane y = holder_ends xs f.0 t lane lock (next_keeps service s f.0 x.event good sound f.1) f.2 (λ z q. p z (inr q)) m y h k in
      ⊎_elim (λ (q : y.event.lane ≡ lane). inl q) (λ (q : (x : Stamped) × Precedes y x xs × (x.event.lane ≡ lane)). inr (q.0, inr q.1, q.2)) rest
  holder_ends (x ∷ xs) s t lane lock sound r p m y (inl e) k = by (cases_eq x.event.lane lane)
    where
      f : First s t x xs
      f = run-first service s t x.event (events_in xs) r

      by : (x.event.lane ≡ lane) ⊎ (x.event.lane ≡ lane → ⊥) → Ends (x ∷ xs) lane y
      by (inl q) = inl (sym (ap (λ (z : Stamped). z.event.lane) e) ∙ q)
      by (inr n) =
          let free : mode_at f.0 lane lock ≡ Free = free_after s f.0 x.event lane lock sound f.1 (p x (inl refl)) (ap (λ (z : Stamped). named_lock z.event.kind) e ∙ k) n in
          ⊎_elim (λ (q : frame_at t lane ≡ frame_at f.0 lane). absurd (free≢exclusive (mode_at f.0 lane lock) free (ap (λ (o : Option Frame). mode_in_frame o lock) (sym q) ∙ m)))
          (λ (q : (z : Stamped) × Has z xs × (z.event.lane ≡ lane)). inr (q.0, inl (e, q.1), q.2))
          (acts_or_stays xs f.0 t lane (next_keeps service s f.0 x.event good sound f.1) f.2)

  -- ---- a new event

  -- before events that it is apart from
  goes_before : (xs : List Stamped) (s m t : StateValue) (e : Event) → IsSound service s → run service s (events_in xs) ≡ Some m → next service m e ≡ Some t → ((x : Stamped) → Has x xs → conflict x.event e ≡ false)
      → run service s (e ∷ events_in xs) ≡ Some t
  goes_before [] s m t e sound r n h = ap (λ (o : Option StateValue). run_from service o []) (subst (λ (z : StateValue). next service z e ≡ Some t) (sym (same_Some s m r)) n)
  goes_before (x ∷ xs) s m t e sound r n h =
      let f = run-first service s m x.event (events_in xs) r in
      let rest = goes_before xs f.0 m t e (next_keeps service s f.0 x.event good sound f.1) f.2 n (λ y q. h y (inr q)) in
      let g = run-first service f.0 t e (events_in xs) rest in
      let w = neighbours_commute service s f.0 g.0 x.event e good sound (h x (inl refl)) f.1 g.1 in
      ap (λ (o : Option StateValue). run_from service o (x.event ∷ events_in xs)) w.first ∙ (ap (λ (o : Option StateValue). run_from service o (events_in xs)) w.second ∙ g.2)

  place_by : (b : Bool) (x y : Stamped) (ys : List Stamped) (s t : StateValue) → comes_before x y ≡ b → (comes_before x y ≡ true → run service s (events_in (x ∷ y ∷ ys)) ≡ Some t) → run service s (events_in (y ∷ placed x ys)) ≡ Some t
      → run service s (events_in (cond b (x ∷ y ∷ ys) (y ∷ placed x ys))) ≡ Some t
  place_by true x y ys s t k a b = a k
  place_by false x y ys s t k a b = b

  -- to its place
  finds_place : (xs : List Stamped) (s m t : StateValue) (x : Stamped) → IsSound service s → IsInOrder xs → run service s (events_in xs) ≡ Some m → next service m x.event ≡ Some t
      → ((y : Stamped) → Has y xs → x.stamp ≤ y.stamp → conflict y.event x.event ≡ false) → run service s (events_in (placed x xs)) ≡ Some t
  finds_place [] s m t x sound o r n h = goes_before [] s m t x.event sound r n (λ y q. absurd q)
  finds_place (y ∷ ys) s m t x sound o r n h =
      let f = run-first service s m y.event (events_in ys) r in
      place_by (comes_before x y) x y ys s t refl (λ b. goes_before (y ∷ ys) s m t x.event sound r n (λ z q. h z q (behind z b q)))
      (ap (λ (w : Option StateValue). run_from service w (events_in (placed x ys))) f.1 ∙ finds_place ys f.0 m t x (next_keeps service s f.0 y.event good sound f.1) o.1 f.2 n (λ z q l. h z (inr q) l))
    where
      behind : (z : Stamped) → comes_before x y ≡ true → Has z (y ∷ ys) → x.stamp ≤ z.stamp
      behind z b (inl e) = subst (λ (w : Stamped). x.stamp ≤ w.stamp) e (before_stamp x y b)
      behind z b (inr q) = let c : x.stamp ≤ y.stamp = before_stamp x y b in let d : y.stamp ≤ z.stamp = before_stamp y z (o.0 z q) in omega arith

-- ---- the laws

up : {a b c : ℕ} → a ≤ b → b ≤ c → a ≤ c
up h k = omega arith

any_of : (a b c d k f g : Bool) → (a || (b && c || (d || (k || (f || g))))) ≡ true → (a ≡ true) ⊎ ((b ≡ true) ⊎ ((d ≡ true) ⊎ ((k ≡ true) ⊎ ((f ≡ true) ⊎ (g ≡ true)))))
any_of true b c d k f g h = inl refl
any_of false true c d k f g h = inr (inl refl)
any_of false false c true k f g h = inr (inr (inl refl))
any_of false false c false true f g h = inr (inr (inr (inl refl)))
any_of false false c false false true g h = inr (inr (inr (inr (inl refl))))
any_of false false c false false false true h = inr (inr (inr (inr (inr refl))))
any_of false false c false false false false h = absurd (cc)

-- a plain event names no semaphore
no_semaphore : (kind : Kind) (semaphore : ℕ) → is_plain kind ≡ true → named_semaphore kind ≡ Some semaphore → ⊥
no_semaphore (Begin client sequence handler arguments) semaphore p n = let w : None ≡ Some semaphore = n in cc
no_semaphore (AcqEx lock) semaphore p n = let w : None ≡ Some semaphore = n in cc
no_semaphore (RelEx lock) semaphore p n = let w : None ≡ Some semaphore = n in cc
no_semaphore (TryOk lock) semaphore p n = let w : None ≡ Some semaphore = n in cc
no_semaphore (TryBusy lock) semaphore p n = let w : None ≡ Some semaphore = n in cc
no_semaphore (Clock value) semaphore p n = let w : None ≡ Some semaphore = n in cc
no_semaphore (Random value) semaphore p n = let w : None ≡ Some semaphore = n in cc
no_semaphore (Reply client value) semaphore p n = let w : None ≡ Some semaphore = n in cc
no_semaphore _ semaphore p n = absurd (cc)

module _ (service : Declarations) (good : IsService service) (checked : IsChecked service) (xs : List Stamped) (s : StateValue) (r : IsRecorded service xs s) where
  pub sound : IsSound service s
  sound = run_keeps service (start_of service) s (events_in xs) good (start_keeps service good checked) r.runs

  lane_below : (x : Stamped) (lane : ℕ) → Has x xs → x.event.lane ≡ lane → x.stamp ≤ lane_stamp xs lane
  lane_below x lane h e = stamp_below _ x (has_kept (is_of lane) xs x h (eq-eqb _ _ e))

  holder_last : (lane lock : ℕ) → mode_at s lane lock ≡ Exclusive → lock_stamp xs lock ≤ lane_stamp xs lane
  holder_last lane lock m = kept_least (is_on lock) xs (lane_stamp xs lane) (λ y h k. by y (holder_ends service good xs (start_of service) s lane lock (start_keeps service good checked) r.runs (λ z q. (r.dealt z q).plain) m y h (that_is _ lock k)) h)
    where
      by : (y : Stamped) → Ends service good xs lane y → Has y xs → y.stamp ≤ lane_stamp xs lane
      by y (inl e) h = lane_below y lane h e
      by y (inr q) h = up (before_stamp y q.0 (in_order xs y q.0 r.order q.1)) (lane_below q.0 lane (second xs y q.0 q.1) q.2)
        where
          second : (zs : List Stamped) (a b : Stamped) → Precedes a b zs → Has b zs
          second [] a b p = absurd p
          second (z ∷ zs) a b (inl p) = inr p.1
          second (z ∷ zs) a b (inr p) = inr (second zs a b p)

  module _ (e : Event) (t : StateValue) (dealt : IsDealt service e) (n : next service s e ≡ Some t) where
    pub above_lane : lane_stamp xs e.lane < new_stamp xs e
    above_lane = let a : lane_stamp xs e.lane ≤ max (lane_stamp xs e.lane) (taken_stamp xs e.kind) = le-max_left _ _ in omega arith

    above_taken : taken_stamp xs e.kind < new_stamp xs e
    above_taken = let a : taken_stamp xs e.kind ≤ max (lane_stamp xs e.lane) (taken_stamp xs e.kind) = le-max_right _ _ in omega arith

    pub above_lock : (lock : ℕ) → named_lock e.kind ≡ Some lock → lock_stamp xs lock < new_stamp xs e
    above_lock lock k = by (names e.kind lock dealt.plain k)
      where
        by : Names e.kind lock → lock_stamp xs lock < new_stamp xs e
        by (takes q w) = subst (λ (z : ℕ). z < new_stamp xs e) (w xs) above_taken
        by (gives g) = let a : lock_stamp xs lock ≤ lane_stamp xs e.lane = holder_last e.lane lock (held_before service good s t e lock n g) in let b = above_lane in omega arith

    no_lane : (x : Stamped) → Has x xs → new_stamp xs e ≤ x.stamp → x.event.lane ≡ e.lane → ⊥
    no_lane x h l q = let a : x.stamp ≤ lane_stamp xs e.lane = lane_below x e.lane h q in let b = above_lane in absurd (omega arith)

    apart : (x : Stamped) → Has x xs → new_stamp xs e ≤ x.stamp → conflict x.event e ≡ false
    apart x h l = by (conflict x.event e) refl
      where
        lock_no : (lock : ℕ) → named_lock x.event.kind ≡ Some lock → named_lock e.kind ≡ Some lock → ⊥
        lock_no lock a b =
            let c : lock_stamp xs lock < new_stamp xs e = above_lock lock b in
            let d : x.stamp ≤ lock_stamp xs lock = stamp_below _ x (has_kept (is_on lock) xs x h (rw a (eq-eqb lock lock refl))) in
            absurd (omega arith)

        client_no : (client : ℕ) → named_client x.event.kind ≡ Some client → named_client e.kind ≡ Some client → ⊥
        client_no client a b = no_lane x h l ((r.dealt x h).mine client a ∙ sym (dealt.mine client b))

        wakes_no : (kind : Kind) (lane : ℕ) (b : Bool) → is_plain kind ≡ true → (woke kind lane && b) ≡ true → ⊥
        wakes_no kind lane b p w = true≢false (sym ((and_parts _ _ w).0) ∙ not_woke kind lane p)

        by : (b : Bool) → conflict x.event e ≡ b → b ≡ false
        by false c = refl
        by true c = absurd (cases (any_of _ _ _ _ _ _ _ c))
          where
            cases : (nat_eq x.event.lane e.lane ≡ true) ⊎ ((same_name (named_lock x.event.kind) (named_lock e.kind) ≡ true) ⊎ ((same_name (named_client x.event.kind) (named_client e.kind) ≡ true) ⊎ ((same_name (named_semaphore x.event.kind) (named_semaphore e.kind) ≡ true) ⊎ ((wakes x.event e ≡ true) ⊎ (wakes e x.event ≡ true))))) → ⊥
            cases (inl q) = no_lane x h l (eqb-true _ _ q)
            cases (inr (inl q)) = let w = same_named _ _ q in lock_no w.0 w.1 w.2
            cases (inr (inr (inl q))) = let w = same_named _ _ q in client_no w.0 w.1 w.2
            cases (inr (inr (inr (inl q)))) = let w = same_named _ _ q in no_semaphore e.kind w.0 dealt.plain w.2
            cases (inr (inr (inr (inr (inl q))))) = wakes_no x.event.kind e.lane _ (r.dealt x h).plain q
            cases (inr (inr (inr (inr (inr q))))) = wakes_no e.kind x.event.lane _ dealt.plain q

    in_place : IsRecorded service (placed (stamped xs e) xs) t
    in_place = record {
      order = placed_order (stamped xs e) xs r.order (λ y h q. let a : y.stamp ≤ lane_stamp xs e.lane = lane_below y e.lane h (sym q) in let b = above_lane in omega arith);
      runs = finds_place service good xs (start_of service) s t (stamped xs e) (start_keeps service good checked) r.order r.runs n apart;
      dealt = λ x h. ⊎_elim (λ (q : stamped xs e ≡ x). subst (λ (z : Stamped). IsDealt service z.event) q dealt) (λ (q : Has x xs). r.dealt x q) (has_placed (stamped xs e) xs x h);
    }

pub holders_are_last : (service : Declarations) (xs : List Stamped) (s : StateValue) (lane lock : ℕ) → IsService service → IsChecked service → IsRecorded service xs s → mode_at s lane lock ≡ Exclusive → lock_stamp xs lock ≤ lane_stamp xs lane
holders_are_last service xs s lane lock good checked r m = holder_last service good checked xs s r lane lock m

pub new_events_are_apart : (service : Declarations) (xs : List Stamped) (s t : StateValue) (e : Event) (x : Stamped) → IsService service → IsChecked service → IsRecorded service xs s → IsDealt service e → next service s e ≡ Some t → Has x xs → new_stamp xs e ≤ x.stamp
    → conflict x.event e ≡ false
new_events_are_apart service xs s t e x good checked r dealt n h l = apart service good checked xs s r e t dealt n x h l

pub find_their_place : (service : Declarations) (xs : List Stamped) (s t : StateValue) (e : Event) → IsService service → IsChecked service → IsRecorded service xs s → IsDealt service e → next service s e ≡ Some t → IsRecorded service (placed (stamped xs e) xs) t
find_their_place service xs s t e good checked r dealt n = in_place service good checked xs s r e t dealt n
