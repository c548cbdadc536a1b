-- Lists in order are merged.
use Rattle.std.proofs.Common.{◌≡◌, ◌⊎◌, inl, inr, ⊎_elim, ℕ, zero, suc, ◌+◌, ◌-◌, ◌<◌, arith, Bool, true, false, List, [], ◌∷◌, ◌++◌, length, drop, get_or, set, refl, ap, sym, ◌∙◌, subst, length-set, get_or-set_same, get_or-set_other}
use Rattle.std.specs.Prelude.{slice_index_or, replicate, if◌then◌else◌, Option, None, Some}
use Rattle.std.specs.List.{filter}
use Rattle.std.proofs.lemmas.Bool.{true≢false, eq-eqb, eqb-true, ne_eqb, cases_eq}
use Rattle.std.proofs.lemmas.List.{get_or_default, get_or-replicate, length-replicate, map-append}
use Rattle.rex_event.specs.declared.event.Event.{Event}
use Rattle.rex_event.specs.Order.{Has}
use Rattle.rex_words.specs.declared.stamped.Stamped.{Stamped}
use Rattle.rex_words.specs.Stamps.{IsInOrder, comes_before, event_of, events_in, is_of, lane_list}
use Rattle.rex_words.specs.Histories.{IsMerged, IsMergeOf, IsMerging, HasNext, IsFirstList, IsFirstOf, next_of, left_in}
use Rattle.rex_words.proofs.Order.{before_trans}
use Rattle.rex_words.proofs.Gathering.{not_before_itself}

-- ---- lists

order_tail : (done : List Stamped) (y : Stamped) (ys : List Stamped) → IsInOrder (done ++ y ∷ ys) → (z : Stamped) → Has z ys → comes_before y z ≡ true
order_tail [] y ys h z q = h.0 z q
order_tail (x ∷ done) y ys h z q = order_tail done y ys h.1 z q

has_mid : (done : List Stamped) (y : Stamped) (ys : List Stamped) → Has y (done ++ y ∷ ys)
has_mid [] y ys = inl refl
has_mid (x ∷ done) y ys = inr (has_mid done y ys)

push_assoc : (done : List Stamped) (y : Stamped) (ys : List Stamped) → done ++ y ∷ ys ≡ (done ++ y ∷ []) ++ ys
push_assoc [] y ys = refl
push_assoc (x ∷ done) y ys = ap (λ (l : List Stamped). x ∷ l) (push_assoc done y ys)

push_none : (done : List Stamped) → done ++ [] ≡ done
push_none [] = refl
push_none (x ∷ done) = ap (λ (l : List Stamped). x ∷ l) (push_none done)

events_push : (done : List Stamped) (x : Stamped) → events_in (done ++ x ∷ []) ≡ events_in done ++ x.event ∷ []
events_push done x = map-append event_of done (x ∷ [])

drop_head : (xs : List Stamped) (i : ℕ) (x : Stamped) → i < length xs → x ≡ get_or xs i x → drop i xs ≡ x ∷ drop (i + 1) xs
drop_head [] i x h e = absurd (omega arith)
drop_head (y ∷ ys) zero x h e = ap (λ (z : Stamped). z ∷ ys) (sym e)
drop_head (y ∷ ys) (suc i) x h e = let k : suc i + 1 ≡ suc (i + 1) = omega arith in rw k (drop_head ys i x (omega arith) e)

drop_there : (xs : List Stamped) (i : ℕ) (y : Stamped) (ys : List Stamped) → drop i xs ≡ y ∷ ys → (i < length xs) × ((d : Stamped) → get_or xs i d ≡ y)
drop_there [] zero y ys h = absurd (cc)
drop_there [] (suc i) y ys h = absurd (cc)
drop_there (x ∷ xs) zero y ys h = (omega arith, λ d. cc)
drop_there (x ∷ xs) (suc i) y ys h = let q = drop_there xs i y ys h in (omega (arith, q.0), q.1)

cons_rest : (x y : Stamped) (xs ys : List Stamped) → x ∷ xs ≡ y ∷ ys → xs ≡ ys
cons_rest x y xs ys h = cc

not_nil : (x : Stamped) (xs : List Stamped) → x ∷ xs ≡ [] → ⊥
not_nil x xs h = cc

pub kept : (p : Stamped → Bool) (y : Stamped) (ys : List Stamped) → p y ≡ true → filter p (y ∷ ys) ≡ y ∷ filter p ys
kept p y ys h = rw h refl

pub left_out : (p : Stamped → Bool) (y : Stamped) (ys : List Stamped) → p y ≡ false → filter p (y ∷ ys) ≡ filter p ys
left_out p y ys h = rw h refl

has_from : (p : Stamped → Bool) (ys : List Stamped) (x : Stamped) → Has x (filter p ys) → Has x ys
has_from p [] x h = h
has_from p (y ∷ ys) x h = by (p y) h (has_from p ys x)
  where
    by : (b : Bool) → Has x (if b then y ∷ filter p ys else filter p ys) → (Has x (filter p ys) → Has x ys) → Has x (y ∷ ys)
    by true (inl e) rest = inl e
    by true (inr q) rest = inr (rest q)
    by false q rest = inr (rest q)

passes : (p : Stamped → Bool) (ys : List Stamped) (x : Stamped) → Has x (filter p ys) → p x ≡ true
passes p [] x h = absurd h
passes p (y ∷ ys) x h = by (p y) refl h (passes p ys x)
  where
    by : (b : Bool) → p y ≡ b → Has x (if b then y ∷ filter p ys else filter p ys) → (Has x (filter p ys) → p x ≡ true) → p x ≡ true
    by true e (inl q) rest = subst (λ (z : Stamped). p z ≡ true) q e
    by true e (inr q) rest = rest q
    by false e q rest = rest q

pub filter_none : (p : Stamped → Bool) (xs : List Stamped) → ((x : Stamped) → Has x xs → p x ≡ false) → filter p xs ≡ []
filter_none p [] h = refl
filter_none p (x ∷ xs) h = left_out p x xs (h x (inl refl)) ∙ filter_none p xs (λ y q. h y (inr q))

pub filter_all : (p : Stamped → Bool) (xs : List Stamped) → ((x : Stamped) → Has x xs → p x ≡ true) → filter p xs ≡ xs
filter_all p [] h = refl
filter_all p (x ∷ xs) h = kept p x xs (h x (inl refl)) ∙ ap (λ (l : List Stamped). x ∷ l) (filter_all p xs (λ y q. h y (inr q)))

-- ---- which list goes first

not_before : (x : Stamped) (b : Bool) → comes_before x x ≡ b → b ≡ false
not_before x true e = absurd (not_before_itself x e)
not_before x false e = refl

not_before_either : (z x y : Stamped) → comes_before y x ≡ true → comes_before z x ≡ false → (b : Bool) → comes_before z y ≡ b → b ≡ false
not_before_either z x y h k true e = absurd (true≢false (sym (before_trans z y x e h) ∙ k))
not_before_either z x y h k false e = refl

module _ (lists : List (List Stamped)) (places : List ℕ) where
  one_next : (index : ℕ) (x y : Stamped) → HasNext lists places index → next_of lists places index x ≡ next_of lists places index y
  one_next index x y h = get_or_default (slice_index_or lists index []) (slice_index_or places index 0) x y h

  -- one more list is at its end
  pub ended_more : (n : ℕ) (first : Option ℕ) → IsFirstOf lists places n first → (HasNext lists places n → ⊥) → IsFirstOf lists places (n + 1) first
  ended_more n None f e = λ other lt there. ⊎_elim (λ (q : other ≡ n). e (subst (HasNext lists places) q there)) (λ (ne : other ≡ n → ⊥). f other (omega arith) there) (cases_eq other n)
  ended_more n (Some index) f e = record {
    within = let w = f.within in omega arith;
    there = f.there;
    first = λ other x y lt there. ⊎_elim (λ (q : other ≡ n). absurd (e (subst (HasNext lists places) q there))) (λ (ne : other ≡ n → ⊥). f.first other x y (omega arith) there) (cases_eq other n);
  }

  module _ (n index : ℕ) (f : IsFirstList lists places n index) (h : HasNext lists places n) (a b : Stamped) (a_is : a ≡ next_of lists places n a) (b_is : b ≡ next_of lists places index b) where
    -- its next event comes first
    pub goes_before : comes_before a b ≡ true → IsFirstOf lists places (n + 1) (Some n)
    goes_before before = record {
      within = omega arith;
      there = h;
      first = λ other x y lt there. ap (comes_before (next_of lists places other x)) (one_next n y a h ∙ sym a_is) ∙ ⊎_elim
          (λ (q : other ≡ n). ap (λ (z : Stamped). comes_before z a) (ap (λ (k : ℕ). next_of lists places k x) q ∙ (one_next n x a h ∙ sym a_is)) ∙ not_before a _ refl)
          (λ (ne : other ≡ n → ⊥). not_before_either (next_of lists places other x) b a before (ap (comes_before (next_of lists places other x)) b_is ∙ f.first other x b (omega arith) there) _ refl)
          (cases_eq other n);
    }

    -- it doesn't
    pub stays_behind : comes_before a b ≡ false → IsFirstOf lists places (n + 1) (Some index)
    stays_behind behind = record {
      within = let w = f.within in omega arith;
      there = f.there;
      first = λ other x y lt there. ⊎_elim
          (λ (q : other ≡ n). ap (λ (z : Stamped). comes_before z (next_of lists places index y)) (ap (λ (k : ℕ). next_of lists places k x) q ∙ (one_next n x a h ∙ sym a_is)) ∙ (ap (comes_before a) (one_next index y b f.there ∙ sym b_is) ∙ behind))
          (λ (ne : other ≡ n → ⊥). f.first other x y (omega arith) there)
          (cases_eq other n);
    }

-- ---- a step of the merge

module _ (lists : List (List Stamped)) (places : List ℕ) (events : List Event) (m : IsMerging lists places events) where
  -- the rest by its first event
  module _ (y : Stamped) (ys : List Stamped) (is : m.rest ≡ y ∷ ys) where
    merged' : IsMerged lists (m.done ++ y ∷ ys)
    merged' = subst (λ (l : List Stamped). IsMerged lists (m.done ++ l)) is m.merged

    left' : (index : ℕ) → index < length lists → drop (slice_index_or places index 0) (slice_index_or lists index []) ≡ lane_list (y ∷ ys) (length lists - (index + 1))
    left' index lt = m.left index lt ∙ ap (λ (l : List Stamped). lane_list l (length lists - (index + 1))) is

    -- the list of its lane
    abbrev own : ℕ
    own = length lists - (y.event.lane + 1)

    own_inside : own < length lists
    own_inside = let l = merged'.lanes y (has_mid m.done y ys) in omega arith

    own_left : drop (slice_index_or places own 0) (slice_index_or lists own []) ≡ y ∷ lane_list ys y.event.lane
    own_left =
        let lane : length lists - (own + 1) ≡ y.event.lane = (let l = merged'.lanes y (has_mid m.done y ys) in omega arith) in
        left' own own_inside ∙ (ap (lane_list (y ∷ ys)) lane ∙ kept (is_of y.event.lane) y ys (eq-eqb y.event.lane y.event.lane refl))

    own_there : HasNext lists places own × ((d : Stamped) → next_of lists places own d ≡ y)
    own_there = drop_there (slice_index_or lists own []) (slice_index_or places own 0) y (lane_list ys y.event.lane) own_left

    module _ (index : ℕ) (f : IsFirstList lists places (length lists) index) (x : Stamped) (x_is : x ≡ next_of lists places index x) where
      abbrev place : ℕ
      place = slice_index_or places index 0

      abbrev lane : ℕ
      lane = length lists - (index + 1)

      heads : x ∷ drop (place + 1) (slice_index_or lists index []) ≡ lane_list (y ∷ ys) lane
      heads = sym (drop_head (slice_index_or lists index []) place x f.there x_is) ∙ left' index f.within

      here : Has x (lane_list (y ∷ ys) lane)
      here = subst (Has x) heads (inl refl)

      same : y ≡ x
      same = ⊎_elim (λ (e : y ≡ x). e) (λ (q : Has x ys). absurd (true≢false (sym (order_tail m.done y ys merged'.order x q) ∙ behind))) (has_from (is_of lane) (y ∷ ys) x here)
        where
          behind : comes_before y x ≡ false
          behind = subst (λ (z : Stamped × Stamped). comes_before z.0 z.1 ≡ false) (λ k. (own_there.1 y k, sym x_is k)) (f.first own y x own_inside own_there.0)

      lane_is : y.event.lane ≡ lane
      lane_is = ap (λ (z : Stamped). z.event.lane) same ∙ eqb-true x.event.lane lane (passes (is_of lane) (y ∷ ys) x here)

      left_more : (k : ℕ) → k < length lists → (k ≡ index) ⊎ (k ≡ index → ⊥) → drop (slice_index_or (set places index (place + 1)) k 0) (slice_index_or lists k []) ≡ lane_list ys (length lists - (k + 1))
      left_more k lt (inl e) =
          let inside : index < length places = (let n = m.count in let w = f.within in omega arith) in
          subst (λ (j : ℕ). drop (slice_index_or (set places index (place + 1)) j 0) (slice_index_or lists j []) ≡ lane_list ys (length lists - (j + 1))) (sym e)
          (ap (λ (p : ℕ). drop p (slice_index_or lists index [])) (get_or-set_same places index (place + 1) 0 inside) ∙ cons_rest x y _ _ (heads ∙ kept (is_of lane) y ys (eq-eqb y.event.lane lane lane_is)))
      left_more k lt (inr ne) =
          ap (λ (p : ℕ). drop p (slice_index_or lists k [])) (get_or-set_other places index k (place + 1) 0 ne)
          ∙ (left' k lt ∙ left_out (is_of (length lists - (k + 1))) y ys (ne_eqb y.event.lane (length lists - (k + 1)) (λ e. absurd (let l = lane_is in let w = f.within in ne (omega arith)))))

      goes : IsMerging lists (set places index (place + 1)) (events ++ x.event ∷ [])
      goes = record {
        done = m.done ++ y ∷ [];
        rest = ys;
        merged = subst (IsMerged lists) (push_assoc m.done y ys) merged';
        events_are = ap (λ (z : Stamped). events ++ z.event ∷ []) (sym same) ∙ (ap (λ (es : List Event). es ++ y.event ∷ []) m.events_are ∙ sym (events_push m.done y));
        count = length-set places index (place + 1) ∙ m.count;
        left = λ k lt. left_more k lt (cases_eq k index);
      }

  -- the first of all next events is taken
  pub merged_more : (index : ℕ) → IsFirstList lists places (length lists) index → (x : Stamped) → x ≡ next_of lists places index x → IsMerging lists (set places index (slice_index_or places index 0 + 1)) (events ++ x.event ∷ [])
  merged_more index f x x_is = by m.rest refl
    where
      by : (rest : List Stamped) → m.rest ≡ rest → IsMerging lists (set places index (slice_index_or places index 0 + 1)) (events ++ x.event ∷ [])
      by [] e = absurd (not_nil x _ (sym (drop_head (slice_index_or lists index []) (slice_index_or places index 0) x f.there x_is) ∙ (m.left index f.within ∙ ap (λ (l : List Stamped). lane_list l (length lists - (index + 1))) e)))
      by (y ∷ ys) e = goes y ys e index f x x_is

  -- all lists are at their ends
  pub all_merged : IsFirstOf lists places (length lists) None → IsMergeOf lists events
  all_merged none = by m.rest refl
    where
      by : (rest : List Stamped) → m.rest ≡ rest → IsMergeOf lists events
      by [] e = record { whole = m.done; merged = subst (IsMerged lists) (ap (λ (l : List Stamped). m.done ++ l) e ∙ push_none m.done) m.merged; events_are = m.events_are }
      by (y ∷ ys) e = absurd (none (own y ys e) (own_inside y ys e) (own_there y ys e).0)

-- ---- the beginning

pub none_merged : (lists : List (List Stamped)) (whole : List Stamped) → IsMerged lists whole → IsMerging lists (replicate (length lists) 0) []
none_merged lists whole m = record {
  done = [];
  rest = whole;
  merged = m;
  events_are = refl;
  count = length-replicate (length lists) 0;
  left = λ index lt.
      ap (λ (p : ℕ). drop p (slice_index_or lists index [])) (get_or-replicate (length lists) index 0 0 lt)
      ∙ ((let e : index ≡ length lists - ((length lists - (index + 1)) + 1) = omega arith in ap (λ (n : ℕ). slice_index_or lists n []) e) ∙ m.each (length lists - (index + 1)) (omega arith));
}

-- ---- the end comes nearer

pub fewer_left : (lists : List (List Stamped)) (places : List ℕ) (index : ℕ) → index < length lists → index < length places → HasNext lists places index → left_in lists (set places index (slice_index_or places index 0 + 1)) < left_in lists places
fewer_left [] places index h k there = absurd (omega arith)
fewer_left (list ∷ lists) [] index h k there = absurd (omega arith)
fewer_left (list ∷ lists) (place ∷ places) zero h k there = omega arith
fewer_left (list ∷ lists) (place ∷ places) (suc index) h k there = let r = fewer_left lists places index (omega arith) (omega arith) there in omega arith
