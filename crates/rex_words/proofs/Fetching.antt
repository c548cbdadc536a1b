-- A seat before and after the load of a variable.
use Rattle.std.proofs.Common.{◌≡◌, ⊎_elim, ℕ, ◌+◌, ◌<◌, ◌≤◌, arith, true, List, length, ap, sym, ◌∙◌, subst}
use Rattle.std.proofs.lemmas.Bool.{cases_lt}
use Rattle.std.specs.Int.{cast_signed}
use mir.Syntax.{w64}
use Rattle.atomic_table.specs.Seated.{TableId}
use Rattle.rex_syntax.specs.declared.locks.Mode.TheVariants.{Free}
use Rattle.rex_event.specs.Order.{Has}
use Rattle.rex_state.specs.Value.{StateValue}
use Rattle.rex_state.specs.Sound.{mode_at}
use Rattle.rex_words.specs.declared.assignment.Assignment.{Assignment}
use Rattle.rex_words.specs.declared.seat.WordSeat.{WordSeat}
use Rattle.rex_words.specs.declared.view.View.{View}
use Rattle.rex_words.specs.Words.{owner_in}
use Rattle.rex_words.specs.Alone.{service_of}
use Rattle.rex_words.specs.Moment.{locks_in, variables_in, guard}
use Rattle.rex_words.specs.Steps.{with_value, HasFetched}
use Rattle.rex_words.specs.Turns.{IsSettled, IsFetching, AreLoaded}
use Rattle.rex_words.proofs.Seated.{LaneSeat, lane_with_value}
use Rattle.rex_words.proofs.Stepped.{fetches_in}
use Rattle.atomic_table.specs.Table.{step, Allows}
use mathlib.Core.Option.{none}
use Rattle.std.specs.Prelude.{Bool}
use Rattle.rex_words.specs.Moment.{IsMoment}
use Rattle.rex_words.specs.Turns.{IsPreparing}
use Rattle.rex_words.specs.Steps.{fetched}
use Rattle.rex_syntax.specs.declared.service.Variable.{Variable}
use Rattle.rex_syntax.specs.Leads.{no_variable}
use Rattle.std.proofs.Common.{get_or, ◌-◌}
use Rattle.std.proofs.lemmas.List.{get_or_default}

module _ (r : Assignment) (z : TableId) (m : WordSeat) (q : IsSettled r z m) (lock word : ℕ) (f : IsFetching r m lock word) (x : ℕ) (there : x < variables_in r) (guarded : guard r x ≡ lock) where
  pub may_fetch : (slots : ℕ) → Allows (IsMoment r) slots m.seat.id m.seat.me (locks_in r + x) (λ n. n) (fetched (step slots (locks_in r + x) 0 0 none) m.seat.me)
  may_fetch slots = fetches_in r slots m.seat.id m.seat.me q.role q.key x there (subst (λ (n : ℕ). n < locks_in r) (sym f.lock_is) f.there) (guarded ∙ sym f.lock_is) (ap owner_in f.word_is ∙ f.unowned)
      (subst (λ (y : StateValue × ℕ × ℕ). mode_at y.0 y.1 y.2 ≡ Free) (λ i. (sym q.own i, sym q.lane_is i, sym f.lock_is i)) f.free)

  pub fetch_settles : (s : LaneSeat) (found place : ℕ) (state : StateValue) → s.table_id ≡ m.seat.table_id → place ≡ locks_in r + x → HasFetched m.seat.me.0 (place - locks_in m.seat.me.0.key) found s.me.0 → s.me.1 ≡ m.seat.me.1
      → state ≡ with_value m.state x (cast_signed w64 found) → IsSettled r z (record m { seat = s; state = state })
  fetch_settles s found place state table is h empty new =
      let same : place - locks_in m.seat.me.0.key ≡ x = ap (λ (k : Assignment). place - locks_in k) q.key ∙ omega arith in
      let own : s.me.0.knows.own ≡ with_value m.state x (cast_signed w64 found) = ap (λ (v : View). v.knows.own) h.view ∙ (λ i. with_value (q.own i) (same i) (cast_signed w64 found)) in
      let settled : IsSettled r z (record m { seat = s; state = with_value m.state x (cast_signed w64 found) }) = record {
        table = table ∙ q.table;
        key = ap (λ (v : View). v.key) h.view ∙ q.key;
        role = ap (λ (v : View). v.role) h.view ∙ q.role;
        lane_is = ap (λ (v : View). v.lane) h.view ∙ q.lane_is;
        empty = empty ∙ q.empty;
        lane = lane_with_value r m q.lane s x (cast_signed w64 found);
        list = ap (λ (v : View). v.knows.list) h.view ∙ q.list;
        own = own;
      } in
      subst (λ (t : StateValue). IsSettled r z (record m { seat = s; state = t })) (sym new) settled

pub more_loaded : (r : Assignment) (m n : WordSeat) (lock i : ℕ) (wanted : Bool) → AreLoaded r m lock i → ((x : ℕ) → Has x m.seat.me.0.knows.loaded → Has x n.seat.me.0.knows.loaded) → (guard r i ≡ lock → wanted ≡ true) → (wanted ≡ true → Has i n.seat.me.0.knows.loaded) → AreLoaded r n lock (i + 1)
more_loaded r m n lock i wanted a kept is h = record {
  each = λ x lt g. ⊎_elim (λ (q : x < i). kept x (a.each x q g)) (λ (q : i ≤ x). let e : x ≡ i = omega arith in subst (λ (y : ℕ). Has y n.seat.me.0.knows.loaded) (sym e) (h (is (ap (guard r) (sym e) ∙ g)))) (cases_lt x i);
}

-- the guard that is read from the service's declarations
pub guard_is : (r : Assignment) (vs : List Variable) (i : ℕ) (v : Variable) → vs ≡ (service_of r).variables → i < length vs → (get_or vs i v).guard ≡ guard r i
guard_is r vs i v same lt = ap (λ (x : Variable). x.guard) (get_or_default vs i v no_variable lt ∙ ap (λ (l : List Variable). get_or l i no_variable) same)

pub preparing_trans : (m n o : WordSeat) → IsPreparing m n → IsPreparing n o → IsPreparing m o
preparing_trans m n o a b = record {
  id = b.id ∙ a.id;
  lane = b.lane ∙ a.lane;
  events = b.events ∙ a.events;
  stamp = b.stamp ∙ a.stamp;
  frame = b.frame ∙ a.frame;
  loads = b.loads ∙ a.loads;
  failures = b.failures ∙ a.failures;
}
