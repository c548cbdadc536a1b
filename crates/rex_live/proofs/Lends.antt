-- What is kept while lanes' lines are out: events and lines that are brought back keep it.
use Rattle.std.proofs.Common.{◌≡◌, ◌≢◌, ◌⊎◌, inl, inr, ℕ, ◌+◌, ◌<◌, Bool, true, false, not, List, length, set, refl, ap, sym, ◌∙◌, subst, length-set}
use Rattle.std.specs.Prelude.{Option, Some, ℤ, pos}
use Rattle.std.proofs.lemmas.Bool.{true≢false, cases_Bool, cases_eq}
use Rattle.std.proofs.lemmas.List.{get_or-set_same, get_or-set_other, ext_get_or}
use Rattle.rex_syntax.specs.declared.locks.Lockset.{Lockset}
use Rattle.rex_syntax.specs.declared.locks.Mode.{Mode}
use Rattle.rex_syntax.specs.declared.locks.Mode.TheVariants.{Free, Shared, Exclusive}
use Rattle.rex_syntax.specs.declared.service.Declarations.{Declarations}
use Rattle.rex_syntax.specs.Locks.{mode_of, is_exclusive, is_free as is_free_mode}
use Rattle.rex_syntax.specs.Leads.{guard_of}
use Rattle.rex_syntax.specs.Service.{IsService}
use Rattle.rex_frame.specs.declared.frame.Frame.{Frame}
use Rattle.rex_frame.specs.Guarded.{Agree, may_read, may_write}
use Rattle.rex_event.specs.declared.event.Event.{Event}
use Rattle.rex_state.specs.declared.lane.Lane.{Lane}
use Rattle.rex_state.specs.Value.{StateValue}
use Rattle.rex_state.specs.Own.{started, ran as ran_lines, run_on}
use Rattle.rex_state.specs.Semaphores.{semaphores_after}
use Rattle.rex_state.specs.Machine.{no_lane, lane_of, frame_at, queues_after, clients_after, after}
use Rattle.rex_state.specs.Put.{with_lane, lines_lead, lines_run}
use Rattle.rex_state.specs.Flows.{CheckedFlows}
use Rattle.rex_state.specs.Sound.{mode_at, Fits, IsSoundBy, with_flows}
use Rattle.rex_state.specs.Touched.{held_in, held_at, with_variables}
use Rattle.rex_state.proofs.Fits.{IsRight}
use Rattle.rex_state.proofs.Modes.{Ran, ran_on}
use Rattle.rex_state.proofs.Keep.{IsEnabled, Effect, effect, frame_own, frame_other, lane_own, lane_other}
use Rattle.rex_state.proofs.Sounds.{sound_after}
use Rattle.rex_state.proofs.Touched.{mode_held, Alike, on_alike}
use Rattle.rex_live.specs.Lent.{begun, is_out, value_at, IsLent, IsLendingBy, IsFitting, TakesWritten}

-- ---- modes

-- a lock that one holds isn't held exclusively by the other
not_theirs : (mine other : Mode) → (other ≡ Exclusive → mine ≡ Free) → not (is_free_mode mine) ≡ true → is_exclusive other ≡ false
not_theirs Free Exclusive h n = absurd (cc)
not_theirs Shared Exclusive h n = absurd (let e : Shared ≡ Free = h refl in cc)
not_theirs Exclusive Exclusive h n = absurd (let e : Exclusive ≡ Free = h refl in cc)
not_theirs mine Shared h n = refl
not_theirs mine Free h n = refl

-- a lock that is held exclusively is held
written_read : (m : Mode) → is_exclusive m ≡ true → not (is_free_mode m) ≡ true
written_read Exclusive h = refl
written_read Shared h = refl
written_read Free h = absurd (cc)

-- ---- lanes that are out

out_here : (out : List Bool) (lane : ℕ) (b : Bool) → lane < length out → is_out (set out lane b) lane ≡ b
out_here out lane b h = get_or-set_same out lane b false h

out_there : (out : List Bool) (lane m : ℕ) (b : Bool) → m ≢ lane → is_out (set out lane b) m ≡ is_out out m
out_there out lane m b n = get_or-set_other out lane m b false n

-- a lane that is out isn't one that is back
other_lane : (out : List Bool) (l m : ℕ) → is_out out l ≡ false → is_out out m ≡ true → m ≢ l
other_lane out l m a b = λ e. true≢false (sym b ∙ ap (is_out out) e ∙ a)

module _ (p : CheckedFlows) (chk : IsRight p) (out : List Bool) (kept s : StateValue) (lends : IsLendingBy p out kept s) where
  held_by_case : (lane : ℕ) → (is_out out lane ≡ true) ⊎ (is_out out lane ≡ false) → held_at kept lane ≡ held_at s lane
  held_by_case lane (inr back) = ap held_in (lends.back lane back)
  held_by_case lane (inl gone) =
      sym (on_alike p chk (frame_at kept lane) kept.variables kept.variables (lends.fits lane) (record { long = refl; same = λ x h. refl })).held_is
      ∙ ap held_in (lends.lent lane gone).frame

  -- lanes hold what they hold in the state
  pub held_same : (lane : ℕ) → held_at kept lane ≡ held_at s lane
  held_same lane = held_by_case lane (cases_Bool (is_out out lane))

  -- what a lane holds exclusively no other one holds
  alone : (l m k : ℕ) → l ≢ m → mode_of (held_at kept l) k ≡ Exclusive → mode_of (held_at kept m) k ≡ Free
  alone l m k n h =
      let ex : mode_at s l k ≡ Exclusive = mode_held (frame_at s l) k ∙ ap (λ (x : Lockset). mode_of x k) (sym (held_same l)) ∙ h in
      ap (λ (x : Lockset). mode_of x k) (held_same m) ∙ sym (mode_held (frame_at s m) k) ∙ lends.sound.alone l m k n ex

  -- what a lane that is back reads no lane that is out holds exclusively
  pub reads_kept : (lane x : ℕ) → is_out out lane ≡ false → may_read p.service (held_at s lane) x ≡ true → value_at kept.variables x ≡ value_at s.variables x
  reads_kept lane x back h =
      let g : ℕ = guard_of p.service x in
      lends.others x (λ m b. not_theirs (mode_of (held_at s lane) g) (mode_of (held_at kept m) g) (λ ex. ap (λ (y : Lockset). mode_of y g) (sym (held_same lane)) ∙ alone m lane g (other_lane out lane m back b) ex) h)

  -- ---- lines that are run

  module _ (l : ℕ) (is : is_out out l ≡ true) (there : l < length kept.lanes) (long : l < length out) where
    abbrev ran_state : StateValue
    ran_state = lines_run p.service kept l

    ran : Ran p (frame_at kept l) kept.variables (lines_lead p.service kept l)
    ran = ran_on p chk (frame_at kept l) kept.variables (lends.fits l)

    run_here : frame_at ran_state l ≡ (lines_lead p.service kept l).0
    run_here = ap (λ (x : Lane). x.frame) (get_or-set_same kept.lanes l _ no_lane there)

    run_there : (m : ℕ) → m ≢ l → frame_at ran_state m ≡ frame_at kept m
    run_there m n = ap (λ (x : Lane). x.frame) (get_or-set_other kept.lanes l m _ no_lane n)

    fits_run : (m : ℕ) → (m ≡ l) ⊎ (m ≡ l → ⊥) → Fits p (frame_at ran_state m)
    fits_run m (inl e) = subst (λ (x : ℕ). Fits p (frame_at ran_state x)) (sym e) (subst (Fits p) (sym run_here) ran.fits)
    fits_run m (inr n) = subst (Fits p) (sym (run_there m n)) (lends.fits m)

    done_run : (m : ℕ) → (m ≡ l) ⊎ (m ≡ l → ⊥) → (lane_of ran_state m).done ≡ (lane_of kept m).done
    done_run m (inl e) =
        ap (λ (x : ℕ). (lane_of ran_state x).done) e ∙ ap (λ (x : Lane). x.done) (get_or-set_same kept.lanes l _ no_lane there) ∙ ap (λ (x : ℕ). (lane_of kept x).done) (sym e)
    done_run m (inr n) = ap (λ (x : Lane). x.done) (get_or-set_other kept.lanes l m _ no_lane n)

    back_run : (m : ℕ) → is_out (set out l false) m ≡ false → (m ≡ l) ⊎ (m ≡ l → ⊥) → frame_at ran_state m ≡ frame_at s m
    back_run m b (inl e) = ap (frame_at ran_state) e ∙ run_here ∙ (lends.lent l is).frame ∙ ap (frame_at s) (sym e)
    back_run m b (inr n) = run_there m n ∙ lends.back m (sym (out_there out l m false n) ∙ b)

    -- what another lane reads is the same after the lines
    agrees_run : (m : ℕ) → m ≢ l → Agree p.service (held_at kept m) kept.variables ran_state.variables
    agrees_run m n = record {
      long = sym ran.long;
      same = λ x h.
          let k : ℕ = guard_of p.service x in
          sym (ran.kept x (ap is_exclusive (mode_held (frame_at kept l) k) ∙ not_theirs (mode_of (held_at kept m) k) (mode_of (held_at kept l) k) (alone l m k (λ e. n (sym e))) h));
    }

    lent_other : (m : ℕ) → m ≢ l → is_out out m ≡ true → IsLent p.service ran_state s m
    lent_other m n b =
        let a : Alike p.service (held_at kept m) (run_on p.service (frame_at kept m) kept.variables) (run_on p.service (frame_at kept m) ran_state.variables) =
        on_alike p chk (frame_at kept m) kept.variables ran_state.variables (lends.fits m) (agrees_run m n) in
        let same : lines_lead p.service ran_state m ≡ run_on p.service (frame_at kept m) ran_state.variables = ap (λ (o : Option Frame). run_on p.service o ran_state.variables) (run_there m n) in
        record {
          frame = ap (λ (r : Option Frame × List ℤ). r.0) same ∙ a.frames ∙ (lends.lent m b).frame;
          guarded = λ x h.
              let read : may_read p.service (held_at kept m) x ≡ true = sym (ap (λ (o : Option Frame). may_read p.service (held_in o) x) (run_there m n)) ∙ h in
              ap (λ (r : Option Frame × List ℤ). value_at r.1 x) same ∙ sym (a.variables.same x read) ∙ (lends.lent m b).guarded x read;
        }

    lent_run : (m : ℕ) → is_out (set out l false) m ≡ true → (m ≡ l) ⊎ (m ≡ l → ⊥) → IsLent p.service ran_state s m
    lent_run m b (inl e) = absurd (true≢false (sym b ∙ ap (is_out (set out l false)) e ∙ out_here out l false long))
    lent_run m b (inr n) = lent_other m n (sym (out_there out l m false n) ∙ b)

    write_run : (x m : ℕ) → may_write p.service (held_at kept l) x ≡ false → ((i : ℕ) → is_out (set out l false) i ≡ true → may_write p.service (held_at ran_state i) x ≡ false) → is_out out m ≡ true
        → (m ≡ l) ⊎ (m ≡ l → ⊥) → may_write p.service (held_at kept m) x ≡ false
    write_run x m f c b (inl e) = ap (λ (i : ℕ). may_write p.service (held_at kept i) x) e ∙ f
    write_run x m f c b (inr n) = sym (ap (λ (o : Option Frame). may_write p.service (held_in o) x) (run_there m n)) ∙ c m (out_there out l m false n ∙ b)

    others_run : (x : ℕ) → ((i : ℕ) → is_out (set out l false) i ≡ true → may_write p.service (held_at ran_state i) x ≡ false) → (may_write p.service (held_at kept l) x ≡ true) ⊎ (may_write p.service (held_at kept l) x ≡ false)
        → value_at ran_state.variables x ≡ value_at s.variables x
    others_run x c (inl w) = (lends.lent l is).guarded x (written_read _ w)
    others_run x c (inr f) =
        ran.kept x (ap is_exclusive (mode_held (frame_at kept l) (guard_of p.service x)) ∙ f)
        ∙ lends.others x (λ m b. write_run x m f c b (cases_eq m l))

    -- lines that are brought back, or that the floor runs itself
    pub lends_run : IsLendingBy p (set out l false) ran_state s
    lends_run = record {
      sound = lends.sound;
      fits = λ m. fits_run m (cases_eq m l);
      variables = ran.long ∙ lends.variables;
      lanes = length-set kept.lanes l _ ∙ lends.lanes;
      queues = lends.queues;
      semaphores = lends.semaphores;
      clients = lends.clients;
      done = λ m. done_run m (cases_eq m l) ∙ lends.done m;
      back = λ m b. back_run m b (cases_eq m l);
      lent = λ m b. lent_run m b (cases_eq m l);
      others = λ x c. others_run x c (cases_Bool _);
    }

  -- ---- events

  module _ (e : Event) (back : is_out out e.lane ≡ false) (long : e.lane < length out) (n : IsEnabled p.service e.lane e.kind s) where
    abbrev l : ℕ
    l = e.lane

    abbrev begun_kept : StateValue
    begun_kept = begun p.service kept e

    abbrev state_then : StateValue
    state_then = after p.service e.lane e.kind s

    abbrev own : Option Frame
    own = started p.service e.kind (frame_at s e.lane)

    there : l < length kept.lanes
    there = subst (λ (n : ℕ). l < n) (sym lends.lanes) n.there

    later : IsSoundBy p state_then
    later = sound_after p chk s e lends.sound n

    does : Effect p l e.kind s state_then
    does = effect p chk l e.kind s lends.sound n

    begun_here : frame_at begun_kept l ≡ own
    begun_here = ap (λ (x : Lane). x.frame) (get_or-set_same kept.lanes l _ no_lane there) ∙ ap (started p.service e.kind) (lends.back l back)

    begun_there : (m : ℕ) → m ≢ l → frame_at begun_kept m ≡ frame_at kept m
    begun_there m k = ap (λ (x : Lane). x.frame) (get_or-set_other kept.lanes l m _ no_lane k)

    -- what the lane holds then
    held_then : held_at state_then l ≡ held_in own
    held_then =
        ap held_in (frame_own p.service l e.kind s n.there)
        ∙ (on_alike p chk own s.variables s.variables does.start (record { long = refl; same = λ x h. refl })).held_is

    -- what another lane reads the event doesn't write
    not_written : (m x : ℕ) → m ≢ l → may_read p.service (held_at kept m) x ≡ true → value_at state_then.variables x ≡ value_at s.variables x
    not_written m x k h =
        let g : ℕ = guard_of p.service x in
        let same : held_at state_then m ≡ held_at kept m = ap held_in (frame_other p.service l e.kind s m k) ∙ sym (held_same m) in
        does.writes x
        (not_theirs (mode_of (held_at kept m) g) (mode_at state_then l g)
        (λ ex. ap (λ (y : Lockset). mode_of y g) (sym same) ∙ sym (mode_held (frame_at state_then m) g) ∙ later.alone l m g (λ q. k (sym q)) ex) h)

    -- no lane that is out holds exclusively what the lane holds then
    not_out : (m x : ℕ) → is_out out m ≡ true → may_read p.service (held_in own) x ≡ true → may_write p.service (held_at kept m) x ≡ false
    not_out m x b h =
        let k : m ≢ l = other_lane out l m back b in
        let g : ℕ = guard_of p.service x in
        let same : held_at state_then m ≡ held_at kept m = ap held_in (frame_other p.service l e.kind s m k) ∙ sym (held_same m) in
        not_theirs (mode_of (held_in own) g) (mode_of (held_at kept m) g)
        (λ ex.
        let exclusive : mode_at state_then m g ≡ Exclusive = mode_held (frame_at state_then m) g ∙ ap (λ (y : Lockset). mode_of y g) same ∙ ex in
        ap (λ (y : Lockset). mode_of y g) (sym held_then) ∙ sym (mode_held (frame_at state_then l) g) ∙ later.alone m l g k exclusive)
        h

    -- the lane reads the same values from what is kept
    agrees : Agree p.service (held_in own) s.variables kept.variables
    agrees = record { long = sym lends.variables; same = λ x h. sym (lends.others x (λ m b. not_out m x b h)) }

    alike : Alike p.service (held_in own) (run_on p.service own s.variables) (run_on p.service own kept.variables)
    alike = on_alike p chk own s.variables kept.variables does.start agrees

    lent_here : IsLent p.service begun_kept state_then l
    lent_here =
        let same : lines_lead p.service begun_kept l ≡ run_on p.service own kept.variables = ap (λ (o : Option Frame). run_on p.service o kept.variables) begun_here in
        record {
          frame = ap (λ (r : Option Frame × List ℤ). r.0) same ∙ alike.frames ∙ sym (frame_own p.service l e.kind s n.there);
          guarded = λ x h.
              let read : may_read p.service (held_in own) x ≡ true = sym (ap (λ (o : Option Frame). may_read p.service (held_in o) x) begun_here) ∙ h in
              ap (λ (r : Option Frame × List ℤ). value_at r.1 x) same ∙ sym (alike.variables.same x read);
        }

    lent_there : (m : ℕ) → m ≢ l → is_out out m ≡ true → IsLent p.service begun_kept state_then m
    lent_there m k b =
        let same : lines_lead p.service begun_kept m ≡ lines_lead p.service kept m = ap (λ (o : Option Frame). run_on p.service o kept.variables) (begun_there m k) in
        record {
          frame = ap (λ (r : Option Frame × List ℤ). r.0) same ∙ (lends.lent m b).frame ∙ sym (frame_other p.service l e.kind s m k);
          guarded = λ x h.
              let read : may_read p.service (held_at kept m) x ≡ true = sym (ap (λ (o : Option Frame). may_read p.service (held_in o) x) (begun_there m k)) ∙ h in
              ap (λ (r : Option Frame × List ℤ). value_at r.1 x) same ∙ (lends.lent m b).guarded x read ∙ sym (not_written m x k read);
        }

    lent_begun : (m : ℕ) → is_out (set out l true) m ≡ true → (m ≡ l) ⊎ (m ≡ l → ⊥) → IsLent p.service begun_kept state_then m
    lent_begun m b (inl q) = subst (IsLent p.service begun_kept state_then) (sym q) lent_here
    lent_begun m b (inr k) = lent_there m k (sym (out_there out l m true k) ∙ b)

    back_begun : (m : ℕ) → is_out (set out l true) m ≡ false → (m ≡ l) ⊎ (m ≡ l → ⊥) → frame_at begun_kept m ≡ frame_at state_then m
    back_begun m b (inl q) = absurd (true≢false (sym (out_here out l true long) ∙ ap (is_out (set out l true)) (sym q) ∙ b))
    back_begun m b (inr k) = begun_there m k ∙ lends.back m (sym (out_there out l m true k) ∙ b) ∙ sym (frame_other p.service l e.kind s m k)

    fits_begun : (m : ℕ) → (m ≡ l) ⊎ (m ≡ l → ⊥) → Fits p (frame_at begun_kept m)
    fits_begun m (inl q) = subst (λ (x : ℕ). Fits p (frame_at begun_kept x)) (sym q) (subst (Fits p) (sym begun_here) does.start)
    fits_begun m (inr k) = subst (Fits p) (sym (begun_there m k)) (lends.fits m)

    done_begun : (m : ℕ) → (m ≡ l) ⊎ (m ≡ l → ⊥) → (lane_of begun_kept m).done ≡ (lane_of state_then m).done
    done_begun m (inl q) =
        ap (λ (x : ℕ). (lane_of begun_kept x).done) q ∙ ap (λ (x : Lane). x.done) (get_or-set_same kept.lanes l _ no_lane there) ∙ ap (λ (x : ℕ). x + 1) (lends.done l)
        ∙ sym (ap (λ (x : Lane). x.done) (lane_own p.service l e.kind s n.there)) ∙ ap (λ (x : ℕ). (lane_of state_then x).done) (sym q)
    done_begun m (inr k) =
        ap (λ (x : Lane). x.done) (get_or-set_other kept.lanes l m _ no_lane k) ∙ lends.done m ∙ sym (ap (λ (x : Lane). x.done) (lane_other p.service l e.kind s m k))

    others_begun : (x : ℕ) → ((i : ℕ) → is_out (set out l true) i ≡ true → may_write p.service (held_at begun_kept i) x ≡ false) → value_at kept.variables x ≡ value_at state_then.variables x
    others_begun x c =
        let mine : may_write p.service (held_in own) x ≡ false = sym (ap (λ (o : Option Frame). may_write p.service (held_in o) x) begun_here) ∙ c l (out_here out l true long) in
        let modes : is_exclusive (mode_at state_then l (guard_of p.service x)) ≡ false =
        ap is_exclusive (mode_held (frame_at state_then l) (guard_of p.service x)) ∙ ap (λ (h : Lockset). may_write p.service h x) held_then ∙ mine in
        lends.others x (λ m b.
        let k : m ≢ l = other_lane out l m back b in
        sym (ap (λ (o : Option Frame). may_write p.service (held_in o) x) (begun_there m k)) ∙ c m (out_there out l m true k ∙ b))
        ∙ sym (does.writes x modes)

    -- an event of a lane that is back
    pub lends_begun : IsLendingBy p (set out l true) begun_kept state_then
    lends_begun = record {
      sound = later;
      fits = λ m. fits_begun m (cases_eq m l);
      variables = lends.variables ∙ sym does.long;
      lanes = length-set kept.lanes l _ ∙ lends.lanes ∙ sym (length-set s.lanes l _);
      queues = ap (queues_after e.kind l) lends.queues;
      semaphores = ap (semaphores_after e.kind) lends.semaphores;
      clients = ap (clients_after e.kind) lends.clients;
      done = λ m. done_begun m (cases_eq m l);
      back = λ m b. back_begun m b (cases_eq m l);
      lent = λ m b. lent_begun m b (cases_eq m l);
      others = λ x c. others_begun x c;
    }

-- ---- what is brought back

-- the values of a list by place
values_same : (xs ys : List ℤ) → length xs ≡ length ys → ((x : ℕ) → value_at xs x ≡ value_at ys x) → xs ≡ ys
values_same xs ys l h = ext_get_or (pos 0) xs ys l (λ x k. h x)

module _ (p : CheckedFlows) (chk : IsRight p) (kept : StateValue) (lane : ℕ) (fits : Fits p (frame_at kept lane)) where
  taken_value : (lent : Frame) (lent_values values taken_to : List ℤ) → Alike p.service lent.held (run_on p.service (Some lent) kept.variables) (run_on p.service (Some lent) lent_values)
      → Ran p (Some lent) kept.variables (run_on p.service (Some lent) kept.variables) → values ≡ (run_on p.service (Some lent) lent_values).1
      → TakesWritten p.service lent.held values kept.variables taken_to → (x : ℕ) → (may_write p.service lent.held x ≡ true) ⊎ (may_write p.service lent.held x ≡ false)
      → value_at taken_to x ≡ value_at (run_on p.service (Some lent) kept.variables).1 x
  taken_value lent lent_values values taken_to same done is taken x (inl w) =
      taken.written x w ∙ ap (λ (vs : List ℤ). value_at vs x) is ∙ sym (same.variables.same x (written_read _ w))
  taken_value lent lent_values values taken_to same done is taken x (inr f) = taken.others x f ∙ sym (done.kept x f)

  -- a thread that was lent what is kept brings back what the floor would come to
  pub brings : (lent frame : Frame) (lent_values values later : List ℤ) → frame_at kept lane ≡ Some lent → Agree p.service lent.held kept.variables lent_values → (frame, values) ≡ ran_lines p.service lent lent_values
      → TakesWritten p.service lent.held values kept.variables later → with_lane (with_variables kept later) lane (lane_of kept lane).done (Some frame) ≡ lines_run p.service kept lane
  brings lent frame lent_values values later here agree is taken =
      let fits_lent : Fits p (Some lent) = subst (Fits p) here fits in
      let alike : Alike p.service lent.held (run_on p.service (Some lent) kept.variables) (run_on p.service (Some lent) lent_values) = on_alike p chk (Some lent) kept.variables lent_values fits_lent agree in
      let ran : Ran p (Some lent) kept.variables (run_on p.service (Some lent) kept.variables) = ran_on p chk (Some lent) kept.variables fits_lent in
      let values_is : values ≡ (run_on p.service (Some lent) lent_values).1 = ap (λ (r : Frame × List ℤ). r.1) is in
      let frame_is : Some frame ≡ (run_on p.service (Some lent) kept.variables).0 = ap (λ (r : Frame × List ℤ). Some r.0) is ∙ alike.frames in
      let later_is : later ≡ (run_on p.service (Some lent) kept.variables).1 =
      values_same _ _ (taken.long ∙ sym ran.long) (λ x. taken_value lent lent_values values later alike ran values_is taken x (cases_Bool _)) in
      ap (λ (r : Option Frame × List ℤ). with_lane (with_variables kept r.1) lane (lane_of kept lane).done r.0) (λ i. (frame_is i, later_is i))
      ∙ ap (λ (o : Option Frame). with_lane (with_variables kept (run_on p.service o kept.variables).1) lane (lane_of kept lane).done (run_on p.service o kept.variables).0) (sym here)

-- the same, as the code finds it
pub brings_as : (service d setting : Declarations) (kept now : StateValue) (lane done : ℕ) (lent frame : Frame) (lent_values values : List ℤ) → d ≡ service → service ≡ setting → IsService service → IsFitting service kept lane
    → frame_at kept lane ≡ Some lent → Agree d lent.held kept.variables lent_values → (frame, values) ≡ ran_lines setting lent lent_values
    → now ≡ with_variables kept now.variables → TakesWritten d lent.held values kept.variables now.variables → done ≡ (lane_of kept lane).done
    → with_lane now lane done (Some frame) ≡ lines_run service kept lane
brings_as service d setting kept now lane done lent frame lent_values values same set good fits here agree is rest taken count =
    let agree_here : Agree service lent.held kept.variables lent_values = subst (λ (x : Declarations). Agree x lent.held kept.variables lent_values) same agree in
    let taken_here : TakesWritten service lent.held values kept.variables now.variables = subst (λ (x : Declarations). TakesWritten x lent.held values kept.variables now.variables) same taken in
    let is_here : (frame, values) ≡ ran_lines service lent lent_values = is ∙ ap (λ (x : Declarations). ran_lines x lent lent_values) (sym set) in
    ap (λ (x : StateValue). with_lane x lane done (Some frame)) rest
    ∙ ap (λ (n : ℕ). with_lane (with_variables kept now.variables) lane n (Some frame)) count
    ∙ brings (with_flows service fits.flows) (record { service = good; flows = fits.right }) kept lane fits.fits lent frame lent_values values now.variables here agree_here is_here taken_here
