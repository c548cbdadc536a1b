-- What each step makes of what is known of its lane is so.
use Rattle.std.proofs.Common.{◌≡◌, ◌⊎◌, ℕ, ◌+◌, ◌<◌, ◌≤◌, arith, List, length, refl, ◌∙◌, subst}
use Rattle.std.specs.Prelude.{Some}
use Rattle.std.specs.Int.{cast_signed}
use mir.Syntax.{w64}
use Rattle.rex_syntax.specs.declared.locks.Mode.TheVariants.{Free, Exclusive}
use Rattle.rex_event.specs.declared.event.Kind.{Kind}
use Rattle.rex_event.specs.declared.event.Kind.TheVariants.{AcqEx, RelEx, TryOk, TryBusy}
use Rattle.rex_event.specs.Conflict.{named_client}
use Rattle.rex_event.specs.Order.{Has}
use Rattle.rex_state.specs.Value.{StateValue}
use Rattle.rex_state.specs.Machine.{next}
use Rattle.rex_state.specs.Sound.{mode_at}
use Rattle.rex_words.specs.declared.assignment.Assignment.{Assignment}
use Rattle.rex_words.specs.declared.view.Knowledge.{Knowledge}
use Rattle.rex_words.specs.Words.{stamp_in, owner_in, word_of}
use Rattle.rex_words.specs.Stamps.{greatest_stamp}
use Rattle.rex_words.specs.Own.{value_at}
use Rattle.rex_words.specs.Alone.{service_of, own_event, with_event}
use Rattle.rex_words.specs.Moment.{locks_in, variables_in, lock_word, word_value, guard, events_known, IsAssignment, IsCommon, IsBounded}
use Rattle.rex_words.specs.Steps.{looking, with_load, taking_stamp, unmarked, with_store}
use Rattle.rex_words.specs.Kept.{with_known, with_lock, with_variable}
use Rattle.rex_words.proofs.Keeping.{looks_keep, quiet_events_enter}
use Rattle.rex_words.proofs.Loading.{loads_keep}
use Rattle.rex_words.proofs.Storing.{stores_keep}
use Rattle.rex_words.proofs.Taking.{takes_keep, releases_keep}
use Rattle.rex_words.proofs.Beginning.{failures_keep}
use Rattle.rex_words.proofs.Bounds.{put_here, put_else, bounded_more, bounded_same, word_few}
use Rattle.rex_words.proofs.Entering.{IsPut, one_longer, top_after}

-- one after another
pub put_after : (r : Assignment) (words words' : List ℕ) (know : ℕ → Knowledge) (lane : ℕ) (k k' : Knowledge) → (p : IsPut r words know lane k) → IsPut r words' p.know' lane k' → IsPut r words' know lane k'
put_after r words words' know lane k k' p q = record { know' = q.know'; others = λ l n. q.others l n ∙ p.others l n; mine = q.mine; common = q.common; bounded = q.bounded }

module _ (r : Assignment) (words : List ℕ) (a : IsAssignment r) (wide : locks_in r + variables_in r ≤ length words) (lane : ℕ) (inside : lane < (service_of r).lanes) (know : ℕ → Knowledge) (c : IsCommon r words know) (b : IsBounded r know) where
  -- what is known stays so where the lane's list does
  with_same : (words' : List ℕ) (k : Knowledge) → k.list ≡ (know lane).list → IsCommon r words' (with_known know lane k) → IsPut r words' know lane k
  with_same words' k same c' = record { know' = with_known know lane k; others = λ l n. put_else know lane k l n; mine = put_here know lane k lane refl; common = c'; bounded = bounded_same r know lane b inside k same }

  -- and where it has one event more, with a stamp that is at most one above all
  with_more : (words' : List ℕ) (stamp : ℕ) (kind : Kind) (own : StateValue) → length (know lane).list + 1 ≤ 1000000 → stamp ≤ events_known know (service_of r).lanes + 1
      → IsCommon r words' (with_known know lane (with_event (know lane) stamp (own_event lane (know lane) kind) own)) → IsPut r words' know lane (with_event (know lane) stamp (own_event lane (know lane) kind) own)
  with_more words' stamp kind own few low c' =
      let k : Knowledge = with_event (know lane) stamp (own_event lane (know lane) kind) own in
      let one : length k.list ≡ length (know lane).list + 1 = one_longer (know lane) stamp (own_event lane (know lane) kind) own in
      let top = b.stamps lane inside in
      record {
        know' = with_known know lane k;
        others = λ l n. put_else know lane k l n;
        mine = put_here know lane k lane refl;
        common = c';
        bounded = bounded_more r know lane b inside k one (omega arith) (top_after (know lane) stamp (own_event lane (know lane) kind) own (events_known know (service_of r).lanes + 1) (omega arith) low);
      }

  module _ (k : Knowledge) (is : know lane ≡ k) where
    pub looked_put : (lock : ℕ) → lock < locks_in r → IsPut r words know lane (looking k lock (lock_word words lock))
    looked_put lock there = subst (λ (x : Knowledge). IsPut r words know lane (looking x lock (lock_word words lock))) is
        (with_same words (looking (know lane) lock (lock_word words lock)) refl (looks_keep r words know lane lock c inside there))

    -- a busy try is one event more
    pub busy_put : (lock : ℕ) (own : StateValue) → next (service_of r) k.own (own_event lane k (TryBusy lock)) ≡ Some own → length k.list + 1 ≤ 1000000
        → IsPut r words know lane (with_event k (greatest_stamp k.list + 1) (own_event lane k (TryBusy lock)) own)
    busy_put lock own = subst
        (λ (q : Knowledge). next (service_of r) q.own (own_event lane q (TryBusy lock)) ≡ Some own → length q.list + 1 ≤ 1000000 → IsPut r words know lane (with_event q (greatest_stamp q.list + 1) (own_event lane q (TryBusy lock)) own)) is
        (λ leads few. let top = b.stamps lane inside in
        with_more words (greatest_stamp (know lane).list + 1) (TryBusy lock) own few (omega arith)
        (quiet_events_enter r words know lane (TryBusy lock) own a c inside (record { plain = refl; mine = λ client z. absurd (no_client client z) }) refl leads))
      where
        no_client : (client : ℕ) → named_client (TryBusy lock) ≡ Some client → ⊥
        no_client client z = cc

    pub loaded_put : (x : ℕ) → x < variables_in r → k.noted_lock < locks_in r → guard r x ≡ k.noted_lock → owner_in k.noted ≡ 0 → mode_at k.own lane k.noted_lock ≡ Free → IsPut r words know lane (with_load k x (word_value r words x))
    loaded_put x there = subst
        (λ (q : Knowledge). q.noted_lock < locks_in r → guard r x ≡ q.noted_lock → owner_in q.noted ≡ 0 → mode_at q.own lane q.noted_lock ≡ Free → IsPut r words know lane (with_load q x (word_value r words x))) is
        (λ noted lock unowned free. with_same words (with_load (know lane) x (word_value r words x)) refl (loads_keep r words know lane x c inside there noted lock unowned free))

    pub unmarked_put : IsPut r words know lane (unmarked k)
    unmarked_put = subst (λ (q : Knowledge). IsPut r words know lane (unmarked q)) is (with_same words (unmarked (know lane)) refl (failures_keep r words know lane c inside))

    pub stored_put : (x word : ℕ) → x < variables_in r → mode_at k.own lane (guard r x) ≡ Exclusive → cast_signed w64 word ≡ value_at k.own x → IsPut r (with_variable r words x word) know lane (with_store k x)
    stored_put x word there = subst
        (λ (q : Knowledge). mode_at q.own lane (guard r x) ≡ Exclusive → cast_signed w64 word ≡ value_at q.own x → IsPut r (with_variable r words x word) know lane (with_store q x)) is
        (λ held value. with_same (with_variable r words x word) (with_store (know lane) x) refl (stores_keep r words know lane x word a wide c inside there held value))

    pub taken_put : (kind : Kind) (own : StateValue) → k.noted_lock < locks_in r → (kind ≡ AcqEx k.noted_lock) ⊎ (kind ≡ TryOk k.noted_lock) → owner_in k.noted ≡ 0 → lock_word words k.noted_lock ≡ k.noted
        → ((x : ℕ) → x < variables_in r → guard r x ≡ k.noted_lock → Has x k.loaded) → next (service_of r) k.own (own_event lane k kind) ≡ Some own → length k.list + 1 ≤ 1000000
        → IsPut r (with_lock words k.noted_lock (word_of (taking_stamp k) (lane + 1))) know lane (with_event k (taking_stamp k) (own_event lane k kind) own)
    taken_put kind own = subst
        (λ (q : Knowledge). q.noted_lock < locks_in r → (kind ≡ AcqEx q.noted_lock) ⊎ (kind ≡ TryOk q.noted_lock) → owner_in q.noted ≡ 0 → lock_word words q.noted_lock ≡ q.noted
        → ((x : ℕ) → x < variables_in r → guard r x ≡ q.noted_lock → Has x q.loaded) → next (service_of r) q.own (own_event lane q kind) ≡ Some own → length q.list + 1 ≤ 1000000
        → IsPut r (with_lock words q.noted_lock (word_of (taking_stamp q) (lane + 1))) know lane (with_event q (taking_stamp q) (own_event lane q kind) own)) is
        (λ there takes unowned found loads leads few.
        let top = b.stamps lane inside in
        let seen : stamp_in (know lane).noted ≤ events_known know (service_of r).lanes = subst (λ (w : ℕ). stamp_in w ≤ events_known know (service_of r).lanes) found (word_few r words know a c b (know lane).noted_lock there) in
        with_more (with_lock words (know lane).noted_lock (word_of (taking_stamp (know lane)) (lane + 1))) (taking_stamp (know lane)) kind own few (omega arith)
        (takes_keep r words know lane kind own a wide c inside there takes unowned found loads leads))

    pub released_put : (lock : ℕ) (own : StateValue) → lock < locks_in r → ((x : ℕ) → x < variables_in r → guard r x ≡ lock → Has x k.stored) → next (service_of r) k.own (own_event lane k (RelEx lock)) ≡ Some own → length k.list + 1 ≤ 1000000
        → IsPut r (with_lock words lock (word_of (greatest_stamp k.list + 1) 0)) know lane (with_event k (greatest_stamp k.list + 1) (own_event lane k (RelEx lock)) own)
    released_put lock own there = subst
        (λ (q : Knowledge). ((x : ℕ) → x < variables_in r → guard r x ≡ lock → Has x q.stored) → next (service_of r) q.own (own_event lane q (RelEx lock)) ≡ Some own → length q.list + 1 ≤ 1000000
        → IsPut r (with_lock words lock (word_of (greatest_stamp q.list + 1) 0)) know lane (with_event q (greatest_stamp q.list + 1) (own_event lane q (RelEx lock)) own)) is
        (λ stored leads few. let top = b.stamps lane inside in
        with_more (with_lock words lock (word_of (greatest_stamp (know lane).list + 1) 0)) (greatest_stamp (know lane).list + 1) (RelEx lock) own few (omega arith)
        (releases_keep r words know lane lock own a wide c inside there stored leads))
