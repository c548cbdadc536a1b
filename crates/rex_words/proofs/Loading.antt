-- What the load of a variable keeps.
use Rattle.std.proofs.Common.{◌≡◌, ◌≢◌, ⊎_elim, ℕ, ◌<◌, List, sym, ap, ◌∙◌, subst}
use Rattle.std.specs.Prelude.{ℤ, pos}
use Rattle.std.proofs.lemmas.Bool.{cases_eq}
use Rattle.std.proofs.lemmas.List.{get_or-set_same, get_or-set_other, length-set}
use Rattle.rex_syntax.specs.declared.service.Declarations.{Declarations}
use Rattle.rex_syntax.specs.declared.locks.Mode.{Mode}
use Rattle.rex_syntax.specs.declared.locks.Mode.TheVariants.{Free, Exclusive}
use Rattle.rex_event.specs.Order.{Has}
use Rattle.rex_state.specs.declared.lane.Lane.{Lane}
use Rattle.rex_state.specs.Value.{StateValue}
use Rattle.rex_state.specs.Locks.{mode_in_frame}
use Rattle.rex_state.specs.Sound.{mode_at, IsSound, WaitsAt}
use Rattle.rex_words.specs.declared.assignment.Assignment.{Assignment}
use Rattle.rex_words.specs.declared.view.Knowledge.{Knowledge}
use Rattle.rex_words.specs.Words.{owner_in}
use Rattle.rex_words.specs.Own.{value_at, IsOwn}
use Rattle.rex_words.specs.Alone.{service_of}
use Rattle.rex_words.specs.Moment.{locks_in, variables_in, lock_word, word_value, guard, IsLoaded, IsKnown, IsCommon}
use Rattle.rex_words.specs.Steps.{with_value, with_load}
use Rattle.rex_words.specs.Kept.{with_known}
use Rattle.rex_words.proofs.Keeping.{open_word, replaced}

-- a sound state stays so with other values
pub sound_with : (service : Declarations) (s : StateValue) (x : ℕ) (value : ℤ) → IsSound service s → IsSound service (with_value s x value)
sound_with service s x value h = record {
  flows = h.flows;
  right = h.right;
  by = record {
    complete = record { variables = length-set s.variables x value ∙ h.by.complete.variables; lanes = h.by.complete.lanes; queues = h.by.complete.queues; semaphores = h.by.complete.semaphores; clients = h.by.complete.clients };
    fits = h.by.fits;
    alone = h.by.alone;
    placed = record { each = h.by.placed.each };
    queued = record { waits = λ condition lane q. waits condition lane (h.by.queued.waits condition lane q); once = h.by.queued.once };
    bounded = h.by.bounded;
    served = record { busy = λ lane f q. let w = h.by.served.busy lane f q in record { there = w.there; some = w.some; sequence = w.sequence; open_yet = w.open_yet }; apart = h.by.served.apart; others = h.by.served.others };
  };
}
  where
    waits : (condition lane : ℕ) → WaitsAt service s condition lane → WaitsAt service (with_value s x value) condition lane
    waits condition lane w = record { frame = w.frame; busy = w.busy; stays = w.stays; test = w.test; line = w.line }

exclusive_free : (m : Mode) → m ≡ Free → m ≡ Exclusive → ⊥
exclusive_free m f e = let w : Free ≡ Exclusive = sym f ∙ e in cc

module _ (r : Assignment) (words : List ℕ) (know : ℕ → Knowledge) (lane x : ℕ) (c : IsCommon r words know) (inside : lane < (service_of r).lanes) (there : x < variables_in r) (noted : (know lane).noted_lock < locks_in r)
    (lock : guard r x ≡ (know lane).noted_lock) (unowned : owner_in (know lane).noted ≡ 0) (free : mode_at (know lane).own lane (know lane).noted_lock ≡ Free) where
  abbrev k : Knowledge
  k = know lane

  abbrev own' : StateValue
  own' = with_value k.own x (word_value r words x)

  before : IsKnown r words c.history c.state lane k
  before = c.lanes lane inside

  free_here : mode_at k.own lane (guard r x) ≡ Free
  free_here = subst (λ (g : ℕ). mode_at k.own lane g ≡ Free) (sym lock) free

  other_value : (y : ℕ) → y ≢ x → value_at own' y ≡ value_at k.own y
  other_value y n = get_or-set_other k.own.variables x y (word_value r words x) (pos 0) n

  own_value : value_at own' x ≡ word_value r words x
  own_value = get_or-set_same k.own.variables x (word_value r words x) (pos 0) (subst (λ (n : ℕ). x < n) (sym before.own.sound.by.complete.variables) there)

  held_other : (y : ℕ) → mode_at k.own lane (guard r y) ≢ Free → y ≢ x
  held_other y m e = m (subst (λ (z : ℕ). mode_at k.own lane (guard r z) ≡ Free) (sym e) free_here)

  goes : IsOwn (service_of r) lane own' c.state
  goes = record {
    sound = sound_with (service_of r) k.own x (word_value r words x) before.own.sound;
    idle = before.own.idle;
    lane_is = before.own.lane_is;
    variables = λ y m. other_value y (held_other y (λ q. m (sym (ap (λ (l : Lane). mode_in_frame l.frame (guard r y)) before.own.lane_is) ∙ q))) ∙ before.own.variables y m;
    clients = before.own.clients;
  }

  loaded_x : IsLoaded r words c.state (with_load k x (word_value r words x)) x
  loaded_x = record {
    there = noted;
    lock = lock;
    unowned = unowned;
    same = λ w. own_value ∙ c.shared x there (subst (λ (g : ℕ). (l : ℕ) → mode_at c.state l g ≡ Free) (sym lock) (open_word c.history c.state k.noted_lock (lock_word words k.noted_lock) (c.locks k.noted_lock noted) (ap owner_in w ∙ unowned)));
  }

  loaded_y : (y : ℕ) → IsLoaded r words c.state k y → IsLoaded r words c.state (with_load k x (word_value r words x)) y
  loaded_y y l = ⊎_elim (λ (q : y ≡ x). subst (IsLoaded r words c.state (with_load k x (word_value r words x))) (sym q) loaded_x) (λ (q : y ≡ x → ⊥). record { there = l.there; lock = l.lock; unowned = l.unowned; same = λ w. other_value y q ∙ l.same w })
      (cases_eq y x)

  mine : IsKnown r words c.history c.state lane (with_load k x (word_value r words x))
  mine = record {
    list = before.list;
    own = goes;
    noted = before.noted;
    loaded = λ y h. ⊎_elim (λ (q : x ≡ y). subst (IsLoaded r words c.state (with_load k x (word_value r words x))) q loaded_x) (λ (q : Has y k.loaded). loaded_y y (before.loaded y q)) h;
    stored = λ y h. let w = before.stored y h in record { held = w.held; same = w.same ∙ sym (other_value y (held_other y (λ q. exclusive_free _ q w.held))) };
  }

  kept : IsCommon r words (with_known know lane (with_load k x (word_value r words x)))
  kept = record {
    history = c.history;
    state = c.state;
    recorded = c.recorded;
    locks = c.locks;
    shared = c.shared;
    lanes = λ other h. replaced r words words know c.history c.state lane (with_load k x (word_value r words x)) other mine (λ n. c.lanes other h);
  }

pub loads_keep : (r : Assignment) (words : List ℕ) (know : ℕ → Knowledge) (lane x : ℕ) → IsCommon r words know → lane < (service_of r).lanes → x < variables_in r → (know lane).noted_lock < locks_in r → guard r x ≡ (know lane).noted_lock → owner_in (know lane).noted ≡ 0
    → mode_at (know lane).own lane (know lane).noted_lock ≡ Free → IsCommon r words (with_known know lane (with_load (know lane) x (word_value r words x)))
loads_keep r words know lane x c inside there noted lock unowned free = kept r words know lane x c inside there noted lock unowned free
