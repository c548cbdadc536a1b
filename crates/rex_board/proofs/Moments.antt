-- What moments and answers tell together.
use Rattle.std.proofs.Common.{◌≡◌, ◌⊎◌, inl, inr, ⊎_elim, ℕ, ◌+◌, ◌<◌, ◌≤◌, arith, List, length, set, sym, ap, ◌∙◌, subst, length-set}
use Rattle.std.proofs.lemmas.Bool.{cases_eq, cases_lt}
use Rattle.std.proofs.lemmas.List.{get_or-set_same, get_or-set_other, get_or_past}
use Rattle.atomic_table.specs.Table.{State, Step}
use Rattle.rex_event.specs.Limits.{most_lanes}
use Rattle.rex_event.specs.declared.event.Event.{Event}
use Rattle.rex_event.specs.Cuts.{count_at}
use Rattle.rex_state.specs.Machine.{lane_of}
use Rattle.rex_board.specs.declared.view.Knowledge.{Knowledge}
use Rattle.rex_board.specs.declared.recording.Recording.{Recording}
use Rattle.rex_board.specs.declared.view.View.{View}
use Rattle.rex_board.specs.declared.view.Role.TheVariants.{Lane}
use Rattle.rex_board.specs.declared.seat.LaneSeat.{LaneSeat}
use Rattle.rex_board.specs.Recorded.{start_of, IsCovered}
use Rattle.rex_board.specs.Moment.{IsKnown, IsMoment}
use Rattle.rex_board.specs.Steps.{ViewAndSlots, IsPerformed, stored}
use Rattle.rex_board.specs.Turns.{IsLater, IsDone}
use Rattle.rex_board.specs.Laws.{HasView, DoesNoEvent, IsDue}
use Rattle.rex_board.proofs.Facts.{covers_more}
use Rattle.rex_board.proofs.Keeps.{says_lane}

pub views_know : (r : Recording) (t : State (Unit {0}) View) (now : IsMoment r t) (seat : ℕ) (v : View) → HasView t seat v → v.role ≡ Lane → IsKnown r t.words now.state v.lane v.knows
views_know r t now seat v at role = let q = says_lane r t now seat v at role in subst (IsKnown r t.words now.state v.lane) q.4 (now.lanes v.lane q.2)

pub one_view : (r : Recording) (t : State (Unit {0}) View) → IsMoment r t → (i j : ℕ) (v w : View) → HasView t i v → HasView t j w → v.role ≡ Lane → w.role ≡ Lane → v.lane ≡ w.lane → i ≡ j
one_view r t now i j v w at at' role role' same =
    let q = says_lane r t now i v at role in
    let p = says_lane r t now j w at' role' in
    sym q.3 ∙ (ap now.owner same ∙ p.3)

pub fresh_start : (r : Recording) (t : State (Unit {0}) View) (now : IsMoment r t) (lane : ℕ) → now.dealt ≤ lane → lane < most_lanes → count_at t.words lane ≡ (lane_of (start_of r) lane).done
fresh_start r t now lane fresh few = sym (now.lanes lane few).done ∙ ap (λ (k : Knowledge). k.done) (now.untouched lane fresh few)

-- a count that is one more after a number was left in some word stands in that word
one_more : (words words' : List ℕ) (word number lane : ℕ) → words' ≡ set words word number → lane < length words → count_at words' lane ≡ count_at words lane + 1 → words' ≡ set words lane (count_at words lane + 1)
one_more words words' word number lane is inside more = ⊎_elim
    (λ (same : lane ≡ word).
    let here : words' ≡ set words lane number = is ∙ ap (λ (i : ℕ). set words i number) (sym same) in
    here ∙ ap (set words lane) (sym (get_or-set_same words lane number 0 inside) ∙ ap (λ (ws : List ℕ). count_at ws lane) (sym here) ∙ more))
    (λ (other : lane ≡ word → ⊥).
    let still : count_at words' lane ≡ count_at words lane = ap (λ (ws : List ℕ). count_at ws lane) is ∙ get_or-set_other words word lane number 0 other in
    absurd (omega (arith, still, more)))
    (cases_eq lane word)

pub rises_by_one : (r : Recording) (t t' : State (Unit {0}) View) → IsMoment r t → IsMoment r t' → (seat : ℕ) (v v' : View) → HasView t seat v → HasView t' seat v' → v.role ≡ Lane → IsPerformed v v'
    → (word number : ℕ) → t'.words ≡ set t.words word number → t'.words ≡ set t.words v.lane (count_at t.words v.lane + 1)
rises_by_one r t t' now later seat v v' at at' role p word number is =
    let small : v.lane < most_lanes = (says_lane r t now seat v at role).2 in
    let lane : v'.lane ≡ v.lane = ap (λ (x : View). x.lane) p.view in
    let before : v.knows.done ≡ count_at t.words v.lane = (views_know r t now seat v at role).done in
    let after : v'.knows.done ≡ count_at t'.words v'.lane = (views_know r t' later seat v' at' (ap (λ (x : View). x.role) p.view ∙ role)).done in
    let more : count_at t'.words v.lane ≡ count_at t.words v.lane + 1 = sym (ap (count_at t'.words) lane) ∙ sym after ∙ ap (λ (x : View). x.knows.done) p.view ∙ ap (λ (n : ℕ). n + 1) before in
    one_more t.words t'.words word number v.lane is (omega (arith, small, now.wide)) more

-- what a step leaves that does no event is what was there, or stands behind the lanes' words
pub keeps_lane_words : (words words' : List ℕ) (st : Step (Unit {0})) (number : ℕ) (m m' : ViewAndSlots) → words' ≡ set words st.word number → DoesNoEvent words st number m m'
    → (lane : ℕ) → lane < most_lanes → count_at words' lane ≡ count_at words lane
keeps_lane_words words words' st number m m' is kind lane small = ap (λ (ws : List ℕ). count_at ws lane) is ∙ ⊎_elim
    (λ (same : lane ≡ st.word). ⊎_elim
    (λ (found : number ≡ count_at words st.word). put_back words st.word number lane same found)
    (λ (s : stored st m number m'). absurd (omega (arith, s.0, same, small)))
    kind)
    (λ (other : lane ≡ st.word → ⊥). get_or-set_other words st.word lane number 0 other)
    (cases_eq lane st.word)
  where
    inside : (ws : List ℕ) (w n l : ℕ) → l ≡ w → n ≡ count_at ws w → (l < length ws) ⊎ (length ws ≤ l) → count_at (set ws w n) l ≡ count_at ws l
    inside ws w n l same found (inl lt) = subst (λ (i : ℕ). count_at (set ws i n) l ≡ count_at ws l) same (get_or-set_same ws l n 0 lt ∙ found ∙ ap (count_at ws) (sym same))
    inside ws w n l same found (inr le) = get_or_past (set ws w n) l 0 (omega (arith, le, length-set ws w n)) ∙ sym (get_or_past ws l 0 le)

    put_back : (ws : List ℕ) (w n l : ℕ) → l ≡ w → n ≡ count_at ws w → count_at (set ws w n) l ≡ count_at ws l
    put_back ws w n l same found = inside ws w n l same found (cases_lt l (length ws))

pub done_was_due : (r : Recording) (m m' : LaneSeat) (e : Event) (done : IsDone r m m' e) → IsLater m m' → (t : State (Unit {0}) View) → IsMoment r t → HasView t m'.seat.id done.store.before → IsDue r t.words e
done_was_due r m m' e done later t now at =
    let v : View = done.store.before in
    let role : v.role ≡ Lane = sym (ap (λ (x : View). x.role) done.store.after) ∙ m'.seated.role in
    let lane : v.lane ≡ e.lane = sym (ap (λ (x : View). x.lane) done.store.after) ∙ (m'.seated.lane_is ∙ (later.lane ∙ sym done.next.lane_is)) in
    let count : v.knows.done + 1 ≡ m'.done = sym (ap (λ (x : View). x.knows.done) done.store.after) ∙ m'.seated.done_is in
    let bounds : v.knows.bounds ≡ m'.bounds = sym (ap (λ (x : View). x.knows.bounds) done.store.after) ∙ m'.seated.bounds_are in
    let known : IsKnown r t.words now.state v.lane v.knows = views_know r t now m'.seat.id v at role in
    let word : v.knows.done ≡ count_at t.words e.lane = known.done ∙ ap (count_at t.words) lane in
    let index : e.index ≡ m.done = done.next.index_is in
    let more : m'.done ≡ m.done + 1 = done.one_more in
    record {
      next = omega arith;
      covered = covers_more r now.right v.knows.bounds t.words e known.bounds (subst (λ (bs : List ℕ). IsCovered r bs e) (sym bounds) done.covered);
    }
