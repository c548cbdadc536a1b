-- What a lane did by itself enters what is known.
use Rattle.std.proofs.Common.{◌≡◌, ◌≢◌, inl, inr, ℕ, ◌+◌, ◌<◌, ◌≤◌, arith, List, [], ◌∷◌, ◌++◌, length, sym, refl, ap, ◌∙◌, subst, length-append}
use Rattle.std.specs.Prelude.{Some, None}
use Rattle.rex_event.specs.declared.event.Event.{Event}
use Rattle.rex_event.specs.Order.{Has}
use Rattle.rex_state.specs.Value.{StateValue}
use Rattle.rex_state.specs.Machine.{next}
use Rattle.std.proofs.lemmas.Option.{same_Some}
use Rattle.rex_words.specs.declared.assignment.Assignment.{Assignment}
use Rattle.rex_words.specs.declared.view.Knowledge.{Knowledge}
use Rattle.rex_words.specs.Stamps.{greatest_stamp}
use Rattle.rex_words.specs.Alone.{service_of, own_event, with_event, alone, DoesAlone, DoAlone, IsQuiet, HasEntered}
use Rattle.rex_words.specs.Moment.{IsAssignment, IsCommon, IsBounded}
use Rattle.rex_words.specs.Kept.{with_known}
use Rattle.rex_words.proofs.Keeping.{quiet_events_enter}
use Rattle.rex_words.proofs.Bounds.{put_here, put_else, stamp_last, bounded_more}

-- other knowledge of one lane, that is so
pub record IsPut (r : Assignment) (words : List ℕ) (know : ℕ → Knowledge) (lane : ℕ) (k : Knowledge) : Type 0 where
  pub know' : ℕ → Knowledge
  pub others : (l : ℕ) → l ≢ lane → know' l ≡ know l
  pub mine : know' lane ≡ k
  pub common : IsCommon r words know'
  pub bounded : IsBounded r know'

-- ---- one event more

pub one_longer : (k : Knowledge) (stamp : ℕ) (e : Event) (own : StateValue) → length (with_event k stamp e own).list ≡ length k.list + 1
one_longer k stamp e own = length-append k.list (record { stamp = stamp; event = e } ∷ [])

-- the stamps with one more
pub top_after : (k : Knowledge) (stamp : ℕ) (e : Event) (own : StateValue) (m : ℕ) → greatest_stamp k.list ≤ m → stamp ≤ m → greatest_stamp (with_event k stamp e own).list ≤ m
top_after k stamp e own m a b = let s = stamp_last k.list (record { stamp = stamp; event = e }) in omega arith

module _ (r : Assignment) (words : List ℕ) (a : IsAssignment r) (lane : ℕ) (inside : lane < (service_of r).lanes) where
  enter_here : (know : ℕ → Knowledge) (c : IsCommon r words know) (b : IsBounded r know) (e : Event) (k' : Knowledge) → DoesAlone r lane (know lane) e k' → IsQuiet (service_of r) e → length k'.list ≤ 1000000 → IsPut r words know lane k'
  enter_here know c b e k' d q few =
      let quiet : IsQuiet (service_of r) (own_event lane (know lane) d.kind) = subst (IsQuiet (service_of r)) d.event q in
      let leads : next (service_of r) (know lane).own (own_event lane (know lane) d.kind) ≡ Some d.own = subst (λ (x : Event). next (service_of r) (know lane).own x ≡ Some d.own) d.event d.leads in
      let new : Knowledge = with_event (know lane) (greatest_stamp (know lane).list + 1) (own_event lane (know lane) d.kind) d.own in
      let is : new ≡ k' = ap (λ (x : Event). with_event (know lane) (greatest_stamp (know lane).list + 1) x d.own) (sym d.event) ∙ sym d.known in
      let one : length new.list ≡ length (know lane).list + 1 = one_longer (know lane) (greatest_stamp (know lane).list + 1) (own_event lane (know lane) d.kind) d.own in
      let top = top_after (know lane) (greatest_stamp (know lane).list + 1) (own_event lane (know lane) d.kind) d.own (greatest_stamp (know lane).list + 1) (omega arith) (omega arith) in
      let low = b.stamps lane inside in
      record {
        know' = with_known know lane new;
        others = λ l n. put_else know lane new l n;
        mine = put_here know lane new lane refl ∙ is;
        common = quiet_events_enter r words know lane d.kind d.own a c inside quiet.dealt quiet.unlocked leads;
        bounded = bounded_more r know lane b inside new one (subst (λ (x : Knowledge). length x.list ≤ 1000000) (sym is) few) (omega arith);
      }

  enter_one : (know : ℕ → Knowledge) (c : IsCommon r words know) (b : IsBounded r know) (k : Knowledge) → know lane ≡ k → (e : Event) (k' : Knowledge) → DoesAlone r lane k e k' → IsQuiet (service_of r) e → length k'.list ≤ 1000000 → IsPut r words know lane k'
  enter_one know c b k is e k' d q few = enter_here know c b e k' (subst (λ (x : Knowledge). DoesAlone r lane x e k') (sym is) d) q few

  pub more_events : (k k' : Knowledge) (es : List Event) → DoAlone r lane k es k' → length k.list ≤ length k'.list
  more_events k k' [] d = let e : length k'.list ≡ length k.list = ap (λ (x : Knowledge). length x.list) d in omega arith
  more_events k k' (e ∷ es) d =
      let rest = more_events d.0 k' es d.2 in
      let one : length d.0.list ≡ length k.list + 1 = ap (λ (x : Knowledge). length x.list) d.1.known ∙ one_longer k (greatest_stamp k.list + 1) e d.1.own in
      omega arith

  -- all that a lane did by itself enters
  pub enter_all : (es : List Event) (know : ℕ → Knowledge) → IsCommon r words know → IsBounded r know → (k k' : Knowledge) → know lane ≡ k → DoAlone r lane k es k' → ((e : Event) → Has e es → IsQuiet (service_of r) e) → length k'.list ≤ 1000000 → IsPut r words know lane k'
  enter_all [] know c b k k' is d q few = record { know' = know; others = λ l n. refl; mine = is ∙ sym d; common = c; bounded = b }
  enter_all (e ∷ es) know c b k k' is d q few =
      let more = more_events d.0 k' es d.2 in
      let p = enter_one know c b k is e d.0 d.1 (q e (inl refl)) (omega arith) in
      let o = enter_all es p.know' p.common p.bounded d.0 k' p.mine d.2 (λ x h. q x (inr h)) few in
      record { know' = o.know'; others = λ l n. o.others l n ∙ p.others l n; mine = o.mine; common = o.common; bounded = o.bounded }

-- ---- there is one way to go on

module _ (r : Assignment) (lane : ℕ) where
  does_one : (k : Knowledge) (e f : Event) (a b : Knowledge) → DoesAlone r lane k e a → DoesAlone r lane k f b → (e ≡ f) × (a ≡ b)
  does_one k e f a b p q =
      let kind : p.kind ≡ q.kind = same_Some p.kind q.kind (sym p.alone_is ∙ q.alone_is) in
      let event : e ≡ f = p.event ∙ ap (own_event lane k) kind ∙ sym q.event in
      let own : p.own ≡ q.own = same_Some p.own q.own (sym p.leads ∙ ap (next (service_of r) k.own) event ∙ q.leads) in
      (event, p.known ∙ (λ i. with_event k (greatest_stamp k.list + 1) (event i) (own i)) ∙ sym q.known)

  stuck : (k : Knowledge) (e : Event) (k' : Knowledge) → alone r lane k ≡ None → DoesAlone r lane k e k' → ⊥
  stuck k e k' none d = let x : None ≡ Some d.kind = sym none ∙ d.alone_is in cc

  alone_one : (es fs : List Event) (k a b : Knowledge) → DoAlone r lane k es a → DoAlone r lane k fs b → alone r lane a ≡ None → alone r lane b ≡ None → a ≡ b
  alone_one [] [] k a b p q na nb = p ∙ sym q
  alone_one [] (f ∷ fs) k a b p q na nb = absurd (stuck k f q.0 (ap (alone r lane) (sym p) ∙ na) q.1)
  alone_one (e ∷ es) [] k a b p q na nb = absurd (stuck k e p.0 (ap (alone r lane) (sym q) ∙ nb) p.1)
  alone_one (e ∷ es) (f ∷ fs) k a b p q na nb =
      let same : p.0 ≡ q.0 = (does_one k e f p.0 q.0 p.1 q.1).1 in
      alone_one es fs q.0 a b (subst (λ (x : Knowledge). DoAlone r lane x es a) same p.2) q.2 na nb

  -- what enters is what the lane did
  pub entered_one : (k a b : Knowledge) → HasEntered r lane k a → HasEntered r lane k b → a ≡ b
  entered_one k a b p q = alone_one p.events q.events k a b p.done q.done p.all q.all

  -- and one more of its own
  pub alone_more : (es : List Event) (k a b : Knowledge) (e : Event) → DoAlone r lane k es a → DoesAlone r lane a e b → DoAlone r lane k (es ++ e ∷ []) b
  alone_more [] k a b e p d = (b, subst (λ (x : Knowledge). DoesAlone r lane x e b) p d, refl)
  alone_more (f ∷ es) k a b e p d = (p.0, p.1, alone_more es p.0 a b e p.2 d)
