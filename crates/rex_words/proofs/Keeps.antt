-- Each step keeps the rule of the table.
use Rattle.std.proofs.Common.{◌≡◌, ◌≢◌, ◌⊎◌, inl, inr, ⊎_elim, ℕ, zero, suc, ◌+◌, ◌-◌, ◌<◌, ◌≤◌, arith, cond, List, [], ◌∷◌, ◌++◌, length, set, refl, ap, sym, ◌∙◌, subst, length-set}
use Rattle.std.specs.Prelude.{slice_index, nat_eq, Some, None}
use Rattle.std.proofs.lemmas.Bool.{cases_eq, eq-eqb, ne_eqb}
use Rattle.std.proofs.lemmas.List.{set-get_or}
use Rattle.std.specs.Int.{cast_signed}
use mir.Syntax.{w64}
use prog.Atomic.{either}
use mathlib.Core.Option.{none, some, some-injective, some-ne-none}
use lib.ListN.{get_elem?}
use Rattle.atomic_table.specs.Table.{State, Me, Act, step, stepped, Valid, carried_after, keeps, Allows, Splits, Joins, opening}
use Rattle.atomic_table.proofs.Lists.{at_set, exchanged}
use Rattle.rex_syntax.specs.declared.locks.Mode.TheVariants.{Free, Exclusive}
use Rattle.rex_event.specs.declared.event.Event.{Event}
use Rattle.rex_event.specs.declared.event.Kind.{Kind}
use Rattle.rex_event.specs.declared.event.Kind.TheVariants.{AcqEx, RelEx, TryOk, TryBusy}
use Rattle.rex_event.specs.Order.{Has}
use Rattle.rex_state.specs.Value.{StateValue}
use Rattle.rex_state.specs.Machine.{next}
use Rattle.rex_state.specs.Sound.{mode_at}
use Rattle.rex_words.specs.declared.assignment.Assignment.{Assignment}
use Rattle.rex_words.specs.declared.view.Knowledge.{Knowledge}
use Rattle.rex_words.specs.declared.view.Gathered.{Gathered}
use Rattle.rex_words.specs.declared.view.View.{View}
use Rattle.rex_words.specs.declared.view.Role.{Role}
use Rattle.rex_words.specs.declared.view.Role.TheVariants.{Spent, Host, Lane}
use Rattle.rex_words.specs.Words.{owner_in, word_of}
use Rattle.rex_words.specs.Stamps.{greatest_stamp}
use Rattle.rex_words.specs.Own.{value_at}
use Rattle.rex_words.specs.Alone.{service_of, own_event, with_event, alone, DoAlone, IsQuiet}
use Rattle.rex_words.specs.Moment.{locks_in, variables_in, lock_word, guard, IsAssignment, first_known, IsGathered, SaysRole, Says, IsMoment}
use Rattle.rex_words.specs.Steps.{Enters, looking, looked_view, HasLowStamp, looked, tried, with_load, HasFetched, fetched, taking_stamp, failed_view, taken, with_store, HasPublished, published, released, first_view, dealt_left, dealt_right, gathered, spent}
use Rattle.rex_words.specs.Kept.{AreFirstWords}
use Rattle.rex_words.proofs.Bounds.{word_low}
use Rattle.rex_words.proofs.Entering.{IsPut, enter_all}
use Rattle.rex_words.proofs.Moving.{put_after, looked_put, loaded_put, unmarked_put, stored_put, taken_put, released_put, busy_put}
use Rattle.rex_words.proofs.Beginning.{beginnings_hold}

abbrev pub S : Type 0
S = State (Unit {0}) View

-- what a seat holds besides its view leads here, and no further by itself
pub record HoldsTo (r : Assignment) (v : View) (first : Knowledge) : Type 0 where
  pub held : List Event
  pub done : DoAlone r v.lane v.knows held first
  pub quiet : (e : Event) → Has e held → IsQuiet (service_of r) e
  pub all : alone r v.lane first ≡ None
  pub few : length first.list ≤ 1000000

-- ---- a moment is kept

module _ (r : Assignment) (s : S) (M : IsMoment r s) (id : ℕ) (v : View) (at : get_elem? s.views id ≡ some v) where
  abbrev pub says_lane : v.role ≡ Lane → SaysRole r M.know M.owner M.host M.dealt id v Lane
  says_lane role = subst (SaysRole r M.know M.owner M.host M.dealt id v) role (M.views id v at)

  abbrev pub says_host : v.role ≡ Host → SaysRole r M.know M.owner M.host M.dealt id v Host
  says_host role = subst (SaysRole r M.know M.owner M.host M.dealt id v) role (M.views id v at)

  -- the seat of a lane gets a new view of its lane
  module _ (role : v.role ≡ Lane) (w : View) (words : List ℕ) (role' : w.role ≡ Lane) (key : w.key ≡ v.key) (lane : w.lane ≡ v.lane) (wide : length words ≡ length s.words) (p : IsPut r words M.know v.lane w.knows) where
    abbrev mine : SaysRole r M.know M.owner M.host M.dealt id v Lane
    mine = says_lane role

    others : (j : ℕ) (u : View) → j ≢ id → (q : Role) → SaysRole r M.know M.owner M.host M.dealt j u q → SaysRole r p.know' M.owner M.host M.dealt j u q
    others j u ne Spent h = tt
    others j u ne Host h = (
      h.0,
      h.1,
      h.2,
      λ i g e. let o = h.3 i g e in
          let apart : g.lane ≢ v.lane = λ z. ne (sym o.mine ∙ (ap M.owner z ∙ mine.3)) in
          record { lane = o.lane; mine = o.mine; knows = p.others g.lane apart ∙ o.knows },
    )
    others j u ne Lane h =
        let apart : u.lane ≢ v.lane = λ z. ne (sym h.3 ∙ (ap M.owner z ∙ mine.3)) in
        (h.0, h.1, h.2, h.3, p.others u.lane apart ∙ h.4)

    own : Says r p.know' M.owner M.host M.dealt id w
    own = subst (SaysRole r p.know' M.owner M.host M.dealt id w) (sym role')
        (key ∙ mine.0, subst (λ (x : ℕ). x < M.dealt) (sym lane) mine.1, subst (λ (x : ℕ). x < (service_of r).lanes) (sym lane) mine.2, ap M.owner lane ∙ mine.3, ap p.know' lane ∙ p.mine)

    pub seat_moves : IsMoment r record { words = words; homes = s.homes; views = set s.views id w }
    seat_moves = record {
      right = M.right;
      wide = let l = M.wide in omega arith;
      know = p.know';
      common = p.common;
      bounded = p.bounded;
      owner = M.owner;
      host = M.host;
      dealt = M.dealt;
      views = λ j u e. ⊎_elim
          (λ (h : (j ≡ id) × (w ≡ u)). subst (λ (x : ℕ × View). Says r p.know' M.owner M.host M.dealt x.0 x.1) (λ i. (sym h.0 i, h.1 i)) own)
          (λ (h : (j ≢ id) × (get_elem? s.views j ≡ some u)). others j u h.0 u.role (M.views j u h.1))
          (at_set s.views id j w u e);
      untouched = λ l le lt. let more : v.lane < M.dealt = mine.1 in let ne : l ≢ v.lane = omega arith in p.others l ne ∙ M.untouched l le lt;
    }

-- ---- the steps of a lane's seat

module _ (slots id : ℕ) (me : Me (Unit {0}) View) (role : me.0.role ≡ Lane) where
  abbrev v : View
  v = me.0

  abbrev r : Assignment
  r = me.0.key

  module _ (s : S) (M : IsMoment r s) (at : get_elem? s.views id ≡ some v) where
    inside : v.lane < (service_of r).lanes
    inside = (says_lane r s M id v at role).2

    back : M.know v.lane ≡ v.knows
    back = (says_lane r s M id v at role).4

    entered : (first : Knowledge) → HoldsTo r v first → IsPut r s.words M.know v.lane first
    entered first h = enter_all r s.words M.right v.lane inside h.held M.know M.common M.bounded v.knows first back h.done h.quiet h.few

    -- a word that is loaded stays
    stays : (i : ℕ) → set s.words i (slice_index s.words i) ≡ s.words
    stays i = set-get_or s.words i 0

    moved : (w : View) → w.role ≡ Lane → w.key ≡ v.key → w.lane ≡ v.lane → (i : ℕ) → IsPut r s.words M.know v.lane w.knows → IsMoment r (stepped s i (slice_index s.words i) id me.1 w keeps)
    moved w role' key lane i p = subst (λ (ws : List ℕ). IsMoment r record { words = ws; homes = s.homes; views = set s.views id w }) (sym (stays i)) (seat_moves r s M id v at role w s.words role' key lane refl p)

    changed : (w : View) → w.role ≡ Lane → w.key ≡ v.key → w.lane ≡ v.lane → (i n : ℕ) → IsPut r (set s.words i n) M.know v.lane w.knows → IsMoment r (stepped s i n id me.1 w keeps)
    changed w role' key lane i n p = seat_moves r s M id v at role w (set s.words i n) role' key lane (length-set s.words i n) p

    looked_up : (lock : ℕ) → lock < locks_in r → (first : Knowledge) → HoldsTo r v first → IsPut r s.words M.know v.lane (looking first lock (slice_index s.words lock)) × HasLowStamp first (slice_index s.words lock)
    looked_up lock there first h =
        let p = entered first h in (
          put_after r s.words s.words M.know v.lane first (looking first lock (slice_index s.words lock)) p (looked_put r s.words M.right M.wide v.lane inside p.know' p.common p.bounded first p.mine lock there),
          subst (λ (x : Knowledge). HasLowStamp x (slice_index s.words lock)) p.mine (word_low r s.words p.know' M.right p.common p.bounded lock v.lane there inside),
        )

  enters : (first : Knowledge) → HoldsTo r v first → Enters v first
  enters first h = record { lane = role; known = record { events = h.held; done = h.done; all = h.all } }

  pub looks : (lock : ℕ) → lock < locks_in r → (first : Knowledge) → HoldsTo r v first → Allows (IsMoment r) slots id me lock (λ n. n) (looked (step slots lock 0 0 none) me)
  looks lock there first h s M deep at small =
      let q = looked_up s M at lock there first h in
      let w : View = looked_view v (looking first lock (slice_index s.words lock)) in
      (w, keeps, tt, moved s M at w role refl refl lock q.0, (record { first = first; enters = enters first h; low = q.1; view = refl }, refl))

  pub tries : (lock : ℕ) → lock < locks_in r → (first : Knowledge) → HoldsTo r v first → (own : StateValue) → next (service_of r) first.own (own_event v.lane first (TryBusy lock)) ≡ Some own → length first.list + 1 ≤ 1000000
      → Allows (IsMoment r) slots id me lock (λ n. n) (tried (step slots lock 0 0 none) me)
  tries lock there first h own leads more s M deep at small = by (cases_eq (owner_in (slice_index s.words lock)) 0)
    where
      by : (owner_in (slice_index s.words lock) ≡ 0) ⊎ (owner_in (slice_index s.words lock) ≡ 0 → ⊥)
          → (w : View) × (a : Act (Unit {0})) × Valid s.homes me.1 a × IsMoment r (stepped s lock (slice_index s.words lock) id me.1 w a) × tried (step slots lock 0 0 none) me (slice_index s.words lock) (w, carried_after me.1 a)
      by (inl z) =
          let q = looked_up s M at lock there first h in
          let w : View = looked_view v (looking first lock (slice_index s.words lock)) in
          (w, keeps, tt, moved s M at w role refl refl lock q.0, (record { first = first; enters = enters first h; low = q.1; free = λ _. refl; busy = λ ne. absurd (ne z) }, refl))
      by (inr ne) =
          let q = looked_up s M at lock there first h in
          let k : Knowledge = looking first lock (slice_index s.words lock) in
          let known : Knowledge = with_event k (greatest_stamp k.list + 1) (own_event v.lane k (TryBusy lock)) own in
          let w : View = looked_view v known in
          let b = busy_put r s.words M.right M.wide v.lane (inside s M at) q.0.know' q.0.common q.0.bounded k q.0.mine lock own leads more in (
            w,
            keeps,
            tt,
            moved s M at w role refl refl lock (put_after r s.words s.words M.know v.lane k known q.0 b),
            (record { first = first; enters = enters first h; low = q.1; free = λ z. absurd (ne z); busy = λ _. record { known = known; does = record { own = own; leads = leads; known = refl }; view = refl } }, refl),
          )

  pub fetches : (x : ℕ) → x < variables_in r → v.knows.noted_lock < locks_in r → guard r x ≡ v.knows.noted_lock → owner_in v.knows.noted ≡ 0 → mode_at v.knows.own v.lane v.knows.noted_lock ≡ Free
      → Allows (IsMoment r) slots id me (locks_in r + x) (λ n. n) (fetched (step slots (locks_in r + x) 0 0 none) me)
  fetches x there noted lock unowned free s M deep at small =
      let w : View = record v { knows = with_load v.knows x (cast_signed w64 (slice_index s.words (locks_in r + x))) } in
      let p = loaded_put r s.words M.right M.wide v.lane (inside s M at) M.know M.common M.bounded v.knows (back s M at) x there noted lock unowned free in
      let sub : x ≡ locks_in r + x - locks_in r = omega arith in (
        w,
        keeps,
        tt,
        moved s M at w role refl refl (locks_in r + x) p,
        (subst (λ (y : ℕ). HasFetched v y (slice_index s.words (locks_in r + x)) w) sub (record { there = noted; lock = lock; unowned = unowned; not_held = free; view = refl }), refl),
      )

  pub publishes : (x word : ℕ) → x < variables_in r → (first : Knowledge) → HoldsTo r v first → mode_at first.own v.lane (guard r x) ≡ Exclusive → cast_signed w64 word ≡ value_at first.own x
      → Allows (IsMoment r) slots id me (locks_in r + x) (λ _. word) (λ _. published (step slots (locks_in r + x) word 0 none) me word)
  publishes x word there first h held value s M deep at small =
      let p = entered s M at first h in
      let q = put_after r s.words (set s.words (locks_in r + x) word) M.know v.lane first (with_store first x) p (stored_put r s.words M.right M.wide v.lane (inside s M at) p.know' p.common p.bounded first p.mine x word there held value) in
      let w : View = record v { knows = with_store first x } in
      let sub : x ≡ locks_in r + x - locks_in r = omega arith in (
        w,
        keeps,
        tt,
        changed s M at w role refl refl (locks_in r + x) word q,
        (subst (λ (y : ℕ). HasPublished v y w) sub (record { first = first; enters = enters first h; held = held; view = refl }), refl),
      )

  pub releases : (lock word : ℕ) → lock < locks_in r → (first : Knowledge) → HoldsTo r v first → ((x : ℕ) → x < variables_in r → guard r x ≡ lock → Has x first.stored) → (own : StateValue)
      → next (service_of r) first.own (own_event v.lane first (RelEx lock)) ≡ Some own → length first.list + 1 ≤ 1000000 → word ≡ word_of (greatest_stamp first.list + 1) 0
      → Allows (IsMoment r) slots id me lock (λ _. word) (λ _. released (step slots lock word 0 none) me word)
  releases lock word there first h stored own leads more is s M deep at small =
      let p = entered s M at first h in
      let known : Knowledge = with_event first (greatest_stamp first.list + 1) (own_event v.lane first (RelEx lock)) own in
      let q : IsPut r (set s.words lock (word_of (greatest_stamp first.list + 1) 0)) M.know v.lane known = put_after r s.words _ M.know v.lane first known p (released_put r s.words M.right M.wide v.lane (inside s M at) p.know' p.common p.bounded first p.mine lock own there stored leads more) in
      let w : View = record v { knows = known } in (
        w,
        keeps,
        tt,
        changed s M at w role refl refl lock word (subst (λ (n : ℕ). IsPut r (set s.words lock n) M.know v.lane known) (sym is) q),
        (record { first = first; enters = enters first h; stored = stored; value_is = is; known = known; does = record { own = own; leads = leads; known = refl }; view = refl }, refl),
      )

  module _ (acquires : ℕ → Kind) (kinds : (acquires v.knows.noted_lock ≡ AcqEx v.knows.noted_lock) ⊎ (acquires v.knows.noted_lock ≡ TryOk v.knows.noted_lock)) (lock had new : ℕ) (is_lock : lock ≡ v.knows.noted_lock) (is_had : had ≡ v.knows.noted)
      (is_new : new ≡ word_of (taking_stamp v.knows) (v.lane + 1)) (there : v.knows.noted_lock < locks_in r) (unowned : owner_in v.knows.noted ≡ 0) (loaded : (x : ℕ) → x < variables_in r → guard r x ≡ v.knows.noted_lock → Has x v.knows.loaded) (own : StateValue)
      (leads : next (service_of r) v.knows.own (own_event v.lane v.knows (acquires v.knows.noted_lock)) ≡ Some own) (more : length v.knows.list + 1 ≤ 1000000) where
    module _ (s : S) (M : IsMoment r s) (at : get_elem? s.views id ≡ some v) where
      abbrev n : ℕ
      n = slice_index s.words lock

      abbrev Answer : ℕ → Type 0
      Answer x = (w : View) × (a : Act (Unit {0})) × Valid s.homes me.1 a × IsMoment r (stepped s lock x id me.1 w a) × taken acquires (step slots lock had new none) me n (w, carried_after me.1 a)

      hit : n ≡ had → Answer new
      hit e =
          let known : Knowledge = with_event v.knows (taking_stamp v.knows) (own_event v.lane v.knows (acquires v.knows.noted_lock)) own in
          let w : View = record v { knows = known } in
          let found : lock_word s.words v.knows.noted_lock ≡ v.knows.noted = ap (lock_word s.words) (sym is_lock) ∙ (e ∙ is_had) in
          let p : IsPut r (set s.words v.knows.noted_lock (word_of (taking_stamp v.knows) (v.lane + 1))) M.know v.lane known =
          taken_put r s.words M.right M.wide v.lane (inside s M at) M.know M.common M.bounded v.knows (back s M at) (acquires v.knows.noted_lock) own there kinds unowned found loaded leads more in
          let q : IsPut r (set s.words lock new) M.know v.lane known = subst (λ (x : ℕ × ℕ). IsPut r (set s.words x.0 x.1) M.know v.lane known) (λ i. (sym is_lock i, sym is_new i)) p in (
            w,
            keeps,
            tt,
            changed s M at w role refl refl lock new q,
            (record { lock_is = is_lock; noted_is = is_had; new_is = is_new; won = λ _. record { unowned = unowned; loaded = loaded; known = known; does = record { own = own; leads = leads; known = refl }; view = refl }; lost = λ ne. absurd (ne e) }, refl),
          )

      miss : n ≢ had → Answer n
      miss ne =
          let w : View = failed_view v had n in
          let p = unmarked_put r s.words M.right M.wide v.lane (inside s M at) M.know M.common M.bounded v.knows (back s M at) in
          (w, keeps, tt, moved s M at w role refl refl lock p, (record { lock_is = is_lock; noted_is = is_had; new_is = is_new; won = λ e. absurd (ne e); lost = λ _. refl }, refl))

    pub takes : Allows (IsMoment r) slots id me lock (λ n. either (nat_eq n had) new n) (taken acquires (step slots lock had new none) me)
    takes s M deep at small = exchanged (slice_index s.words lock) had new (Answer s M at) (hit s M at) (miss s M at)

-- ---- the host gives a lane its view, and takes one in

at_end : {A : Type 0} (l : List A) (a b : A) (j : ℕ) → get_elem? (l ++ a ∷ []) j ≡ some b → (get_elem? l j ≡ some b) ⊎ ((j ≡ length l) × (a ≡ b))
at_end [] a b zero e = inr (refl, some-injective a b e)
at_end [] a b (suc j) e = absurd (some-ne-none b (sym e))
at_end (x ∷ xs) a b zero e = inl e
at_end (x ∷ xs) a b (suc j) e = ⊎_elim (λ (h : get_elem? xs j ≡ some b). inl h) (λ (h : (j ≡ length xs) × (a ≡ b)). inr (let k : suc j ≡ suc (length xs) = ap suc h.0 in (k, h.1))) (at_end xs a b j e)

none_there : {A : Type 0} (xs : List A) (i : ℕ) (a : A) → xs ≡ [] → get_elem? xs i ≡ some a → ⊥
none_there {A = A} xs i a e h = some-ne-none a (sym h ∙ ap (λ (l : List A). get_elem? l i) e)

-- the owners with another of one lane
abbrev put_owner : (ℕ → ℕ) → ℕ → ℕ → ℕ → ℕ
put_owner f lane seat l = cond (nat_eq l lane) seat (f l)

owner_here : (f : ℕ → ℕ) (lane seat l : ℕ) → l ≡ lane → put_owner f lane seat l ≡ seat
owner_here f lane seat l e = rw (eq-eqb l lane e) refl

owner_else : (f : ℕ → ℕ) (lane seat l : ℕ) → l ≢ lane → put_owner f lane seat l ≡ f l
owner_else f lane seat l n = rw (ne_eqb l lane n) refl

pub deals : (r : Assignment) (id : ℕ) (v : View) → v.role ≡ Host → v.lane < (service_of r).lanes → v.gathered ≡ [] → Splits (IsMoment r) id v (dealt_left v) (dealt_right v)
deals r id v role small empty s M at =
    let d = says_host r s M id v at role in
    let n : ℕ = length s.views in
    let owns : ℕ → ℕ = put_owner M.owner M.dealt n in
    record {
      right = M.right;
      wide = M.wide;
      know = M.know;
      common = M.common;
      bounded = M.bounded;
      owner = owns;
      host = M.host;
      dealt = M.dealt + 1;
      views = λ j u e. ⊎_elim
          (λ (h : get_elem? (set s.views id (dealt_left v)) j ≡ some u). ⊎_elim
          (λ (g : (j ≡ id) × (dealt_left v ≡ u)). subst (λ (x : ℕ × View). Says r M.know owns M.host (M.dealt + 1) x.0 x.1) (λ i. (sym g.0 i, g.1 i))
          (subst (SaysRole r M.know owns M.host (M.dealt + 1) id (dealt_left v)) (sym role) (d.0, d.1, ap (λ (x : ℕ). x + 1) d.2, λ i g q. absurd (none_there v.gathered i g empty q))))
          (λ (g : (j ≢ id) × (get_elem? s.views j ≡ some u)). stays s M d.1 j u g.0 u.role (M.views j u g.1))
          (at_set s.views id j (dealt_left v) u h))
          (λ (h : (j ≡ length (set s.views id (dealt_left v))) × (dealt_right v ≡ u)). subst (λ (x : ℕ × View). Says r M.know owns M.host (M.dealt + 1) x.0 x.1) (λ i. (sym h.0 i, h.1 i)) (
            d.0,
            let q = d.2 in omega arith,
            small,
            owner_here M.owner M.dealt n v.lane d.2 ∙ sym (length-set s.views id (dealt_left v)),
            let q = d.2 in M.untouched v.lane (omega arith) small ∙ ap first_known (sym d.0),
          ))
          (at_end (set s.views id (dealt_left v)) (dealt_right v) u j e);
      untouched = λ l le lt. M.untouched l (omega arith) lt;
    }
  where
    stays : (s : S) (M : IsMoment r s) → id ≡ M.host → (j : ℕ) (u : View) → j ≢ id → (q : Role) → SaysRole r M.know M.owner M.host M.dealt j u q
        → SaysRole r M.know (put_owner M.owner M.dealt (length s.views)) M.host (M.dealt + 1) j u q
    stays s M hosted j u ne Spent k = tt
    stays s M hosted j u ne Host k = absurd (ne (k.1 ∙ sym hosted))
    stays s M hosted j u ne Lane k =
        let less : u.lane < M.dealt = k.1 in
        let apart : u.lane ≢ M.dealt = omega arith in
        (k.0, omega arith, k.2, owner_else M.owner M.dealt (length s.views) u.lane apart ∙ k.3, k.4)

pub gathers : (r : Assignment) (id other : ℕ) (v w : View) → v.role ≡ Host → w.role ≡ Lane → Joins (IsMoment r) id v other w (gathered v w) spent
gathers r id other v w role role' s M at ne at' =
    let was : get_elem? s.views other ≡ some w = ⊎_elim (λ (h : (other ≡ id) × (gathered v w ≡ w)). absurd (ne h.0)) (λ (h : (other ≢ id) × (get_elem? s.views other ≡ some w)). h.1) (at_set s.views id other (gathered v w) w at') in
    let d = says_host r s M id v at role in
    let k = says_lane r s M other w was role' in
    let owns : ℕ → ℕ = put_owner M.owner w.lane id in
    record {
      right = M.right;
      wide = M.wide;
      know = M.know;
      common = M.common;
      bounded = M.bounded;
      owner = owns;
      host = M.host;
      dealt = M.dealt;
      views = λ j u e. ⊎_elim
          (λ (h : (j ≡ other) × (spent ≡ u)). subst (λ (x : View). Says r M.know owns M.host M.dealt j x) h.1 tt)
          (λ (h : (j ≢ other) × (get_elem? (set s.views id (gathered v w)) j ≡ some u)). ⊎_elim
          (λ (g : (j ≡ id) × (gathered v w ≡ u)). subst (λ (x : ℕ × View). Says r M.know owns M.host M.dealt x.0 x.1) (λ i. (sym g.0 i, g.1 i))
          (subst (SaysRole r M.know owns M.host M.dealt id (gathered v w)) (sym role) (d.0, d.1, d.2, λ i g q. entries s M d.3 k.2 k.4 i g q)))
          (λ (g : (j ≢ id) × (get_elem? s.views j ≡ some u)). stays s M d.1 k.3 j u h.0 g.0 u.role (M.views j u g.1))
          (at_set s.views id j (gathered v w) u h.1))
          (at_set (set s.views id (gathered v w)) other j spent u e);
      untouched = M.untouched;
    }
  where
    entries : (s : S) (M : IsMoment r s) → ((i : ℕ) (g : Gathered) → get_elem? v.gathered i ≡ some g → IsGathered (service_of r).lanes M.know M.owner id g) → w.lane < (service_of r).lanes → M.know w.lane ≡ w.knows
        → (i : ℕ) (g : Gathered) → get_elem? (gathered v w).gathered i ≡ some g → IsGathered (service_of r).lanes M.know (put_owner M.owner w.lane id) id g
    entries s M old small knows i g q = ⊎_elim
        (λ (h : get_elem? v.gathered i ≡ some g). let o = old i g h in
        record { lane = o.lane; mine = ⊎_elim (λ (z : g.lane ≡ w.lane). owner_here M.owner w.lane id g.lane z) (λ (n : g.lane ≡ w.lane → ⊥). owner_else M.owner w.lane id g.lane n ∙ o.mine) (cases_eq g.lane w.lane); knows = o.knows })
        (λ (h : (i ≡ length v.gathered) × ((record { lane = w.lane; knows = w.knows }) ≡ g)). subst (IsGathered (service_of r).lanes M.know (put_owner M.owner w.lane id) id) h.1 (record { lane = small; mine = owner_here M.owner w.lane id w.lane refl; knows = knows }))
        (at_end v.gathered (record { lane = w.lane; knows = w.knows }) g i q)

    stays : (s : S) (M : IsMoment r s) → id ≡ M.host → M.owner w.lane ≡ other → (j : ℕ) (u : View) → j ≢ other → j ≢ id → (q : Role) → SaysRole r M.know M.owner M.host M.dealt j u q
        → SaysRole r M.know (put_owner M.owner w.lane id) M.host M.dealt j u q
    stays s M hosted owned j u nj ni Spent k = tt
    stays s M hosted owned j u nj ni Host k = absurd (ni (k.1 ∙ sym hosted))
    stays s M hosted owned j u nj ni Lane k =
        let apart : u.lane ≢ w.lane = λ z. nj (sym k.3 ∙ (ap M.owner z ∙ owned)) in
        (k.0, k.1, k.2, owner_else M.owner w.lane id u.lane apart ∙ k.3, k.4)

-- ---- the beginning

pub opens : (r : Assignment) → IsAssignment r → (words : List ℕ) → locks_in r + variables_in r ≤ length words → AreFirstWords r words → IsMoment r (opening words [] (first_view r))
opens r ok words wide first = record {
  right = ok;
  wide = wide;
  know = λ lane. first_known r;
  common = beginnings_hold r words ok first;
  bounded = record { few = λ l h. omega arith; stamps = λ l h. omega arith };
  owner = λ l. 0;
  host = 0;
  dealt = 0;
  views = λ j u e. one_view j u e;
  untouched = λ l le lt. refl;
}
  where
    one_view : (j : ℕ) (u : View) → get_elem? (first_view r ∷ []) j ≡ some u → Says r (λ lane. first_known r) (λ l. 0) 0 0 j u
    one_view zero u e = subst (Says r (λ lane. first_known r) (λ l. 0) 0 0 0) (some-injective (first_view r) u e) (refl, refl, refl, λ i g q. absurd (some-ne-none g (sym q)))
    one_view (suc j) u e = absurd (some-ne-none u (sym e))
