-- Each step keeps the rule of the board's table.
use Rattle.std.proofs.Common.{◌≡◌, ◌≢◌, inl, inr, ⊎_elim, ℕ, zero, suc, ◌+◌, ◌-◌, ◌<◌, ◌≤◌, arith, List, [], ◌∷◌, length, set, refl, ap, sym, ◌∙◌, subst, length-set, replicate, false}
use Rattle.std.specs.Prelude.{slice_index}
use Rattle.std.proofs.lemmas.Bool.{cases_eq, true≢false, le-ltb}
use Rattle.std.proofs.lemmas.List.{set-get_or, get_or-replicate}
use Rattle.std.specs.Int.{cast_signed}
use mir.Syntax.{w64}
use mathlib.Core.Option.{none, some, some-injective, some-ne-none}
use lib.ListN.{get_elem?}
use Rattle.atomic_table.specs.Table.{State, Me, step, keeps, Allows, Splits, Joins, opening}
use Rattle.atomic_table.proofs.Lists.{at_set}
use Rattle.std.specs.Prelude.{Option}
use Rattle.rex_frame.specs.declared.frame.Frame.{Frame}
use Rattle.rex_event.specs.Limits.{most_lanes}
use Rattle.rex_event.specs.declared.event.Event.{Event}
use Rattle.rex_event.specs.Order.{Has}
use Rattle.rex_event.specs.Cuts.{count_at, is_below, below}
use Rattle.rex_state.specs.Machine.{lane_of, frame_at, run}
use Rattle.rex_state.specs.Local.{Takes, GivesUp}
use Rattle.rex_state.proofs.Counts.{count_is}
use Rattle.rex_state.specs.Counts.{counts_of}
use Rattle.rex_clocks.proofs.Numbered.{numbered_above}
use Rattle.rex_board.specs.declared.recording.Recording.{Recording}
use Rattle.rex_board.specs.declared.view.Knowledge.{Knowledge}
use Rattle.rex_board.specs.declared.view.Gathered.{Gathered}
use Rattle.rex_board.specs.declared.view.View.{View}
use Rattle.rex_board.specs.declared.view.Role.{Role}
use Rattle.rex_board.specs.declared.view.Role.TheVariants.{Spent, Host, Lane}
use Rattle.rex_board.specs.Recorded.{IsRight, service_of, start_of, events_of, variables_in, value_of, IsEventAt, IsCovered}
use Rattle.rex_board.specs.Moment.{word_value, guard, HoldsAlone, IsKnown, first_known, IsGathered, SaysRole, Says, IsMoment}
use Rattle.rex_board.specs.Steps.{looked_view, looked, with_load, loaded_view, loaded, with_store, stored_view, stored, performed_by, performed_view, IsNextFrom, performed, first_view, dealt_left, dealt_right, gathered, spent}
use Rattle.rex_board.proofs.Reading.{at_end, set_most, set_up}
use Rattle.rex_board.proofs.Facts.{numbered, in_lanes, one_event, sound_at, chain_last}
use Rattle.rex_board.proofs.Lanes as lanes
use Rattle.rex_board.proofs.Lanes.{put_at, put_here, put_else, AreLanes, with_bounds}

abbrev S : Type 0
S = State (Unit {0}) View

-- ---- a moment is kept

module _ (r : Recording) (s : S) (M : IsMoment r s) where
  abbrev pub lanes_of : AreLanes r s.words M.know
  lanes_of = record { wide = M.wide; state = M.state; at = M.at; consistent = M.consistent; lanes = M.lanes; shared = M.shared }

  module _ (id : ℕ) (v : View) (at : get_elem? s.views id ≡ some v) where
    abbrev pub says_lane : v.role ≡ Lane → SaysRole r M.know M.owner M.host M.dealt id v Lane
    says_lane role = subst (SaysRole r M.know M.owner M.host M.dealt id v) role (M.views id v at)

    abbrev pub says_host : v.role ≡ Host → SaysRole r M.know M.owner M.host M.dealt id v Host
    says_host role = subst (SaysRole r M.know M.owner M.host M.dealt id v) role (M.views id v at)

    -- the seat of a lane gets a new view of its lane
    module _ (role : v.role ≡ Lane) (w : View) (k : Knowledge) (words : List ℕ) (role' : w.role ≡ Lane) (key : w.key ≡ v.key) (lane : w.lane ≡ v.lane) (knows : w.knows ≡ k) (L : AreLanes r words (put_at M.know v.lane k)) where
      abbrev mine : SaysRole r M.know M.owner M.host M.dealt id v Lane
      mine = says_lane role

      abbrev know' : ℕ → Knowledge
      know' = put_at M.know v.lane k

      others : (j : ℕ) (u : View) → j ≢ id → (q : Role) → SaysRole r M.know M.owner M.host M.dealt j u q → SaysRole r know' M.owner M.host M.dealt j u q
      others j u ne Spent h = tt
      others j u ne Host h = (
        h.0,
        h.1,
        h.2,
        λ i g e. let o = h.3 i g e in
            let apart : g.lane ≢ v.lane = λ z. ne (sym o.mine ∙ (ap M.owner z ∙ mine.3)) in
            record { lane = o.lane; mine = o.mine; knows = put_else M.know v.lane k g.lane apart ∙ o.knows },
      )
      others j u ne Lane h =
          let apart : u.lane ≢ v.lane = λ z. ne (sym h.3 ∙ (ap M.owner z ∙ mine.3)) in
          (h.0, h.1, h.2, h.3, put_else M.know v.lane k u.lane apart ∙ h.4)

      own : Says r know' M.owner M.host M.dealt id w
      own = subst (SaysRole r know' M.owner M.host M.dealt id w) (sym role')
          (key ∙ mine.0, subst (λ (x : ℕ). x < M.dealt) (sym lane) mine.1, subst (λ (x : ℕ). x < most_lanes) (sym lane) mine.2, ap M.owner lane ∙ mine.3, put_here M.know v.lane k w.lane lane ∙ sym knows)

      pub seat_moves : IsMoment r record { words = words; homes = s.homes; views = set s.views id w }
      seat_moves = record {
        right = M.right;
        wide = L.wide;
        state = L.state;
        at = L.at;
        consistent = L.consistent;
        know = know';
        lanes = L.lanes;
        shared = L.shared;
        owner = M.owner;
        host = M.host;
        dealt = M.dealt;
        views = λ j u e. ⊎_elim
            (λ (h : (j ≡ id) × (w ≡ u)). subst (λ (x : ℕ × View). Says r know' M.owner M.host M.dealt x.0 x.1) (λ i. (sym h.0 i, h.1 i)) own)
            (λ (h : (j ≢ id) × (get_elem? s.views j ≡ some u)). others j u h.0 u.role (M.views j u h.1))
            (at_set s.views id j w u e);
        untouched = λ l le lt. let more : v.lane < M.dealt = mine.1 in let ne : l ≢ v.lane = omega arith in put_else M.know v.lane k l ne ∙ M.untouched l le lt;
      }

-- ---- the steps of a lane's seat

module _ (r : Recording) (slots id : ℕ) (me : Me (Unit {0}) View) (role : me.0.role ≡ Lane) where
  abbrev v : View
  v = me.0

  pub looks : (i : ℕ) → i < most_lanes → Allows (IsMoment r) slots id me i (λ n. n) (looked (step slots i 0 0 none) me)
  looks i small_lane s M deep at small =
      let mine = says_lane r s M id v at role in
      let n : ℕ = slice_index s.words i in
      let w : View = looked_view v i n in
      let same : set s.words i n ≡ s.words = set-get_or s.words i 0 in
      let back : M.know v.lane ≡ v.knows = mine.4 in
      let known : IsKnown r s.words M.state v.lane v.knows = subst (IsKnown r s.words M.state v.lane) back (M.lanes v.lane mine.2) in
      let bounds : List ℕ = set v.knows.bounds i n in
      let up : (other : ℕ) → other < most_lanes → count_at (M.know v.lane).bounds other ≤ count_at bounds other =
      λ other lt. subst (λ (k : Knowledge). count_at k.bounds other ≤ count_at bounds other) (sym back) (set_up v.knows.bounds i n other (known.bounds i small_lane)) in
      let below : (other : ℕ) → other < most_lanes → count_at bounds other ≤ count_at s.words other =
      λ other lt. set_most v.knows.bounds i n other (count_at s.words other) (known.bounds other lt) (λ q. let a : count_at s.words other ≡ n = ap (count_at s.words) q in omega arith) in
      let L = lanes.looks r M.right s.words M.know (lanes_of r s M) v.lane mine.2 bounds up below in
      let L' : AreLanes r s.words (put_at M.know v.lane w.knows) = subst (λ (k : Knowledge). AreLanes r s.words (put_at M.know v.lane (with_bounds k bounds))) back L in
      let new : IsMoment r record { words = s.words; homes = s.homes; views = set s.views id w } = seat_moves r s M id v at role w w.knows s.words role refl refl refl L' in
      (w, keeps, tt, subst (λ (ws : List ℕ). IsMoment r record { words = ws; homes = s.homes; views = set s.views id w }) (sym same) new, (refl, known.bounds i small_lane))

  module _ (e : Event) (next : IsEventAt r v.lane v.knows.done e) (covered : IsCovered r v.knows.bounds e) where
    pub fetches : (x : ℕ) → x < variables_in r → Takes e (guard r x) → Allows (IsMoment r) slots id me (most_lanes + x) (λ n. n) (loaded (step slots (most_lanes + x) 0 0 none) me)
    fetches x room takes s M deep at small =
        let mine = says_lane r s M id v at role in
        let back : M.know v.lane ≡ v.knows = mine.4 in
        let n : ℕ = slice_index s.words (most_lanes + x) in
        let same : set s.words (most_lanes + x) n ≡ s.words = set-get_or s.words (most_lanes + x) 0 in
        let L = lanes.fetches r M.right s.words M.know (lanes_of r s M) v.lane mine.2 e (subst (λ (k : Knowledge). IsEventAt r v.lane k.done e) (sym back) next)
        (subst (λ (k : Knowledge). IsCovered r k.bounds e) (sym back) covered) x room takes in
        let L' : AreLanes r s.words (put_at M.know v.lane (with_load v.knows x (word_value s.words x))) = subst (λ (k : Knowledge). AreLanes r s.words (put_at M.know v.lane (with_load k x (word_value s.words x)))) back L in
        let new : IsMoment r record { words = s.words; homes = s.homes; views = set s.views id (loaded_view v x n) } =
        seat_moves r s M id v at role (loaded_view v x n) (with_load v.knows x (word_value s.words x)) s.words role refl refl refl L' in
        let sub : most_lanes + x - most_lanes ≡ x = omega arith in (
          loaded_view v x n,
          keeps,
          tt,
          subst (λ (ws : List ℕ). IsMoment r record { words = ws; homes = s.homes; views = set s.views id (loaded_view v x n) }) (sym same) new,
          ap (λ (y : ℕ). (loaded_view v y n, me.1)) (sym sub),
        )

    pub performs_here : ((x : ℕ) → x < variables_in r → Takes e (guard r x) → Has x v.knows.loaded) → ((x : ℕ) → x < variables_in r → GivesUp e (guard r x) → HoldsAlone v.knows.frame (guard r x) → Has x v.knows.stored)
        → Allows (IsMoment r) slots id me v.lane (λ _. v.knows.done + 1) (λ _. performed (step slots v.lane (v.knows.done + 1) 0 none) me (v.knows.done + 1))
    performs_here all_loaded all_stored s M deep at small =
        let mine = says_lane r s M id v at role in
        let key : v.key ≡ r = mine.0 in
        let back : M.know v.lane ≡ v.knows = mine.4 in
        let next' = subst (λ (k : Knowledge). IsEventAt r v.lane k.done e) (sym back) next in
        let covered' = subst (λ (k : Knowledge). IsCovered r k.bounds e) (sym back) covered in
        let L = lanes.performs r M.right s.words M.know (lanes_of r s M) v.lane mine.2 e next' covered'
        (subst (λ (k : Knowledge). (x : ℕ) → x < variables_in r → Takes e (guard r x) → Has x k.loaded) (sym back) all_loaded)
        (subst (λ (k : Knowledge). (x : ℕ) → x < variables_in r → GivesUp e (guard r x) → HoldsAlone k.frame (guard r x) → Has x k.stored) (sym back) all_stored) in
        let count : count_at s.words v.lane + 1 ≡ v.knows.done + 1 = ap (λ (x : ℕ). x + 1) (sym (M.lanes v.lane mine.2).done ∙ ap (λ (k : Knowledge). k.done) back) in
        let L' : AreLanes r (set s.words v.lane (v.knows.done + 1)) (put_at M.know v.lane (performed_by r e v.knows)) =
        subst (λ (z : ℕ × Knowledge). AreLanes r (set s.words v.lane z.0) (put_at M.know v.lane (performed_by r e z.1))) (λ i. (count i, back i)) L in
        let goes = lanes.goes r M.right s.words M.know (lanes_of r s M) v.lane mine.2 e next' covered' in
        let frame = ap (λ (l : ℕ). frame_at M.state l) next.lane_is ∙ sym (M.lanes v.lane mine.2).frame ∙ ap (λ (k : Knowledge). k.frame) back in
        let same : performed_by r e v.knows ≡ performed_by v.key e v.knows = ap (λ (z : Recording). performed_by z e v.knows) (sym key) in (
          performed_view v e,
          keeps,
          tt,
          seat_moves r s M id v at role (performed_view v e) (performed_by r e v.knows) (set s.words v.lane (v.knows.done + 1)) role refl refl (sym same) L',
          (
            record {
              event = e;
              at = subst (λ (z : Recording). IsEventAt z v.lane v.knows.done e) (sym key) next;
              only = λ d h. one_event r M.right v.lane v.knows.done d e (subst (λ (z : Recording). IsEventAt z v.lane v.knows.done d) key h) next;
              from = subst (λ (z : Recording). IsNextFrom z v.knows.frame e) (sym key) (record { from = M.state; to = goes.state; sound = sound_at r M.right s.words M.state M.at; next = goes.goes; frame_is = frame });
              view = refl;
            },
            refl,
          ),
        )

  pub publishes : (x n : ℕ) → x < variables_in r → HoldsAlone v.knows.frame (guard r x) → cast_signed w64 n ≡ value_of v.knows.copies x → Allows (IsMoment r) slots id me (most_lanes + x) (λ _. n) (λ _. stored (step slots (most_lanes + x) n 0 none) me n)
  publishes x n room held is s M deep at small =
      let mine = says_lane r s M id v at role in
      let back : M.know v.lane ≡ v.knows = mine.4 in
      let L = lanes.publishes r M.right s.words M.know (lanes_of r s M) v.lane mine.2 x n room (subst (λ (k : Knowledge). HoldsAlone k.frame (guard r x)) (sym back) held) (subst (λ (k : Knowledge). cast_signed w64 n ≡ value_of k.copies x) (sym back) is) in
      let L' : AreLanes r (set s.words (most_lanes + x) n) (put_at M.know v.lane (with_store v.knows x)) = subst (λ (k : Knowledge). AreLanes r (set s.words (most_lanes + x) n) (put_at M.know v.lane (with_store k x))) back L in
      let sub : most_lanes + x - most_lanes ≡ x = omega arith in (
        stored_view v x,
        keeps,
        tt,
        seat_moves r s M id v at role (stored_view v x) (with_store v.knows x) (set s.words (most_lanes + x) n) role refl refl refl L',
        (omega arith, ap (λ (y : ℕ). (stored_view v y, me.1)) (sym sub)),
      )

-- ---- the host deals a lane, and takes one in

none_there : {A : Type 0} (xs : List A) (i : ℕ) (a : A) → xs ≡ [] → get_elem? xs i ≡ some a → ⊥
none_there {A = A} xs i a e h = some-ne-none a (sym h ∙ ap (λ (l : List A). get_elem? l i) e)

pub deals : (r : Recording) (id : ℕ) (v : View) → v.role ≡ Host → v.lane < most_lanes → v.gathered ≡ [] → Splits (IsMoment r) id v (dealt_left v) (dealt_right v)
deals r id v role small empty s M at =
    let d = says_host r s M id v at role in
    let n : ℕ = length s.views in
    let owns : ℕ → ℕ = put_at M.owner M.dealt n in
    record {
      right = M.right;
      wide = M.wide;
      state = M.state;
      at = M.at;
      consistent = M.consistent;
      know = M.know;
      lanes = M.lanes;
      shared = M.shared;
      owner = owns;
      host = M.host;
      dealt = M.dealt + 1;
      views = λ j u e. ⊎_elim
          (λ (h : get_elem? (set s.views id (dealt_left v)) j ≡ some u). ⊎_elim
          (λ (g : (j ≡ id) × (dealt_left v ≡ u)). subst (λ (x : ℕ × View). Says r M.know owns M.host (M.dealt + 1) x.0 x.1) (λ i. (sym g.0 i, g.1 i))
          (subst (SaysRole r M.know owns M.host (M.dealt + 1) id (dealt_left v)) (sym role) (d.0, d.1, ap (λ (x : ℕ). x + 1) d.2, λ i g q. absurd (none_there v.gathered i g empty q))))
          (λ (g : (j ≢ id) × (get_elem? s.views j ≡ some u)). stays s M d.1 j u g.0 u.role (M.views j u g.1))
          (at_set s.views id j (dealt_left v) u h))
          (λ (h : (j ≡ length (set s.views id (dealt_left v))) × (dealt_right v ≡ u)). subst (λ (x : ℕ × View). Says r M.know owns M.host (M.dealt + 1) x.0 x.1) (λ i. (sym h.0 i, h.1 i)) (
            d.0,
            let q = d.2 in omega arith,
            small,
            put_here M.owner M.dealt n v.lane d.2 ∙ sym (length-set s.views id (dealt_left v)),
            let q = d.2 in M.untouched v.lane (omega arith) small ∙ ap (λ (z : Recording). first_known z v.lane) (sym d.0),
          ))
          (at_end (set s.views id (dealt_left v)) (dealt_right v) u j e);
      untouched = λ l le lt. M.untouched l (omega arith) lt;
    }
  where
    stays : (s : S) (M : IsMoment r s) → id ≡ M.host → (j : ℕ) (u : View) → j ≢ id → (q : Role) → SaysRole r M.know M.owner M.host M.dealt j u q
        → SaysRole r M.know (put_at M.owner M.dealt (length s.views)) M.host (M.dealt + 1) j u q
    stays s M hosted j u ne Spent k = tt
    stays s M hosted j u ne Host k = absurd (ne (k.1 ∙ sym hosted))
    stays s M hosted j u ne Lane k =
        let less : u.lane < M.dealt = k.1 in
        let apart : u.lane ≢ M.dealt = omega arith in
        (k.0, omega arith, k.2, put_else M.owner M.dealt (length s.views) u.lane apart ∙ k.3, k.4)

pub gathers : (r : Recording) (id other : ℕ) (v w : View) → v.role ≡ Host → w.role ≡ Lane → Joins (IsMoment r) id v other w (gathered v w) spent
gathers r id other v w role role' s M at ne at' =
    let was : get_elem? s.views other ≡ some w = ⊎_elim (λ (h : (other ≡ id) × (gathered v w ≡ w)). absurd (ne h.0)) (λ (h : (other ≢ id) × (get_elem? s.views other ≡ some w)). h.1) (at_set s.views id other (gathered v w) w at') in
    let d = says_host r s M id v at role in
    let k = says_lane r s M other w was role' in
    let owns : ℕ → ℕ = put_at M.owner w.lane id in
    record {
      right = M.right;
      wide = M.wide;
      state = M.state;
      at = M.at;
      consistent = M.consistent;
      know = M.know;
      lanes = M.lanes;
      shared = M.shared;
      owner = owns;
      host = M.host;
      dealt = M.dealt;
      views = λ j u e. ⊎_elim
          (λ (h : (j ≡ other) × (spent ≡ u)). subst (λ (x : View). Says r M.know owns M.host M.dealt j x) h.1 tt)
          (λ (h : (j ≢ other) × (get_elem? (set s.views id (gathered v w)) j ≡ some u)). ⊎_elim
          (λ (g : (j ≡ id) × (gathered v w ≡ u)). subst (λ (x : ℕ × View). Says r M.know owns M.host M.dealt x.0 x.1) (λ i. (sym g.0 i, g.1 i))
          (subst (SaysRole r M.know owns M.host M.dealt id (gathered v w)) (sym role) (d.0, d.1, d.2, λ i g q. entries s M d.3 k.2 k.4 i g q)))
          (λ (g : (j ≢ id) × (get_elem? s.views j ≡ some u)). stays s M d.1 k.3 j u h.0 g.0 u.role (M.views j u g.1))
          (at_set s.views id j (gathered v w) u h.1))
          (at_set (set s.views id (gathered v w)) other j spent u e);
      untouched = M.untouched;
    }
  where
    entries : (s : S) (M : IsMoment r s) → ((i : ℕ) (g : Gathered) → get_elem? v.gathered i ≡ some g → IsGathered M.know M.owner id g) → w.lane < most_lanes → M.know w.lane ≡ w.knows
        → (i : ℕ) (g : Gathered) → get_elem? (gathered v w).gathered i ≡ some g → IsGathered M.know (put_at M.owner w.lane id) id g
    entries s M old small knows i g q = ⊎_elim
        (λ (h : get_elem? v.gathered i ≡ some g). let o = old i g h in
        record { lane = o.lane; mine = ⊎_elim (λ (z : g.lane ≡ w.lane). put_here M.owner w.lane id g.lane z) (λ (n : g.lane ≡ w.lane → ⊥). put_else M.owner w.lane id g.lane n ∙ o.mine) (cases_eq g.lane w.lane); knows = o.knows })
        (λ (h : (i ≡ length v.gathered) × ((record { lane = w.lane; knows = w.knows }) ≡ g)). subst (IsGathered M.know (put_at M.owner w.lane id) id) h.1 (record { lane = small; mine = put_here M.owner w.lane id w.lane refl; knows = knows }))
        (at_end v.gathered (record { lane = w.lane; knows = w.knows }) g i q)

    stays : (s : S) (M : IsMoment r s) → id ≡ M.host → M.owner w.lane ≡ other → (j : ℕ) (u : View) → j ≢ other → j ≢ id → (q : Role) → SaysRole r M.know M.owner M.host M.dealt j u q
        → SaysRole r M.know (put_at M.owner w.lane id) M.host M.dealt j u q
    stays s M hosted owned j u nj ni Spent k = tt
    stays s M hosted owned j u nj ni Host k = absurd (ni (k.1 ∙ sym hosted))
    stays s M hosted owned j u nj ni Lane k =
        let apart : u.lane ≢ w.lane = λ z. nj (sym k.3 ∙ (ap M.owner z ∙ owned)) in
        (k.0, k.1, k.2, put_else M.owner w.lane id u.lane apart ∙ k.3, k.4)

-- ---- the beginning

nothing_below : (r : Recording) (ok : IsRight r) (words : List ℕ) → ((l : ℕ) → l < most_lanes → count_at words l ≡ (lane_of (start_of r) l).done) → (e : Event) → Has e (events_of r) → is_below words e ≡ false
nothing_below r ok words lanes e there =
    let above : count_at (counts_of (start_of r)) e.lane ≤ e.index = numbered_above (counts_of (start_of r)) (events_of r) e (numbered r ok) there in
    let count : count_at (counts_of (start_of r)) e.lane ≡ (lane_of (start_of r) e.lane).done = count_is (start_of r) e.lane in
    let word : count_at words e.lane ≡ (lane_of (start_of r) e.lane).done = lanes e.lane (in_lanes r ok e there) in
    le-ltb e.index (count_at words e.lane) (omega arith)

none_kept : (words : List ℕ) (es : List Event) → ((e : Event) → Has e es → is_below words e ≡ false) → below words es ≡ []
none_kept words [] h = refl
none_kept words (e ∷ es) h = rw (h e (inl refl)) (none_kept words es (λ x b. h x (inr b)))

pub opens : (r : Recording) → IsRight r → (words : List ℕ) → length words ≡ most_lanes + variables_in r → ((l : ℕ) → l < most_lanes → count_at words l ≡ (lane_of (start_of r) l).done)
    → ((x : ℕ) → x < variables_in r → word_value words x ≡ value_of (start_of r).variables x) → IsMoment r (opening words [] (first_view r))
opens r ok words wide lanes variables = record {
  right = ok;
  wide = wide;
  state = start_of r;
  at = ap (λ (l : List Event). run (service_of r) (start_of r) l) (none_kept words (events_of r) (nothing_below r ok words lanes));
  consistent = record { closed = λ x y o h. absurd (true≢false (sym h ∙ nothing_below r ok words lanes y (chain_last (events_of r) x y o.0 o.1))) };
  know = first_known r;
  lanes = λ l lt. record {
    done = sym (lanes l lt);
    bounds = λ m small. let z : count_at (replicate most_lanes 0) m ≡ 0 = get_or-replicate most_lanes m 0 0 small in omega arith;
    frame = refl;
    wide = ok.sound.by.complete.variables;
    copies = λ x h. refl;
    loaded = λ x h. absurd h;
    stored = λ x h. absurd h;
  };
  shared = λ x lt h. variables x lt;
  owner = λ l. 0;
  host = 0;
  dealt = 0;
  views = λ j u e. one_view j u e;
  untouched = λ l le lt. refl;
}
  where
    one_view : (j : ℕ) (u : View) → get_elem? (first_view r ∷ []) j ≡ some u → Says r (first_known r) (λ l. 0) 0 0 j u
    one_view zero u e = subst (Says r (first_known r) (λ l. 0) 0 0 0) (some-injective (first_view r) u e) (refl, refl, refl, λ i g q. absurd (some-ne-none g (sym q)))
    one_view (suc j) u e = absurd (some-ne-none u (sym e))

-- the same from what the seat keeps beside its view
pub performs : (r : Recording) (slots id : ℕ) (me : Me (Unit {0}) View) → me.0.role ≡ Lane → (i done : ℕ) {bounds : List ℕ} {frame : Option Frame} (e : Event) → me.0.lane ≡ i → me.0.knows.done ≡ done → me.0.knows.bounds ≡ bounds → me.0.knows.frame ≡ frame
    → IsEventAt r i done e → IsCovered r bounds e
    → ((x : ℕ) → x < variables_in r → Takes e (guard r x) → Has x me.0.knows.loaded) → ((x : ℕ) → x < variables_in r → GivesUp e (guard r x) → HoldsAlone frame (guard r x) → Has x me.0.knows.stored)
    → Allows (IsMoment r) slots id me i (λ _. done + 1) (λ _. performed (step slots i (done + 1) 0 none) me (done + 1))
performs r slots id me role i done e lane done_is bounds_are frame_is next covered all_loaded all_stored =
    subst (λ (x : ℕ × ℕ). Allows (IsMoment r) slots id me x.0 (λ _. x.1 + 1) (λ _. performed (step slots x.0 (x.1 + 1) 0 none) me (x.1 + 1))) (λ j. (lane j, done_is j))
    (performs_here r slots id me role e (subst (λ (x : ℕ × ℕ). IsEventAt r x.0 x.1 e) (λ j. (sym lane j, sym done_is j)) next) (subst (λ bs. IsCovered r bs e) (sym bounds_are) covered)
    all_loaded (λ x lt g h. all_stored x lt g (subst (λ f. HoldsAlone f (guard r x)) frame_is h)))
