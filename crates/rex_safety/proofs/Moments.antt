-- Each released reply stands in the trace of every later leader.
use Rattle.std.proofs.Common.{◌≡◌, ℕ, zero, suc, ◌+◌, ◌<◌, ◌≤◌, true, cond, ◌⊎◌, List, [], ◌∷◌, ◌++◌, length, Option, Some, None, refl, sym, ◌∙◌, ap, subst, inl, inr, arith, eq-eqb}
use Rattle.std.specs.Prelude.{take, slice_get, get_or}
use Rattle.std.proofs.lemmas.Bool.{cases_lt, false≢true}
use Rattle.rex_ballot.specs.Limits.{most_nodes}
use Rattle.rex_syntax.specs.declared.request.Request.{Request}
use Rattle.rex_syntax.specs.declared.service.Declarations.{Declarations}
use Rattle.rex_state.specs.Value.{StateValue}
use Rattle.rex_report.specs.declared.effect.Effect.{Effect}
use Rattle.rex_report.specs.declared.effect.Effect.TheVariants as effect
use Rattle.rex_schedule.specs.declared.scenario.ScheduleLine.{ScheduleLine}
use Rattle.rex_cluster.specs.Records.{known}
use Rattle.rex_cluster.specs.Quorum.{IsNode, Logs}
use Rattle.rex_cluster.specs.Node.{Service, Message, Lead, Role, is_active, kind_of}
use Rattle.rex_cluster.specs.Node.Role.{Follower, Leads}
use Rattle.rex_cluster.specs.Calls.{begin, receive}
use Rattle.rex_cluster.specs.Values.{Value, service_of}
use Rattle.rex_cluster.specs.Lanes.{Here, CallHere}
use Rattle.rex_cluster.specs.World.{World, Row, node_at, put, logs, beginning, after, at_node, read_row, first_told, with_handed, deliver_found, message_at, step, steps_of, steps, row}
use Rattle.rex_reads.specs.declared.seen.Read.{Read as Told}
use Rattle.rex_reads.specs.declared.seen.Read.TheVariants as told
use Rattle.rex_cluster.specs.Reading.{read_at, read_effect}
use Rattle.rex_cluster.specs.Invariant.{Begins, Grows, LeadsRightly, IsRightRole}
use Rattle.std.specs.Prelude.{ℤ}
use Rattle.std.specs.List.{All}
use Rattle.std.proofs.lemmas.Option.{same_Some}
use Rattle.rex_syntax.specs.Service.{IsService}
use Rattle.rex_syntax.specs.Check.{IsChecked}
use Rattle.rex_schedule.specs.Fits.{RequestFits}
use Rattle.rex_cluster.specs.Node.{own_ballot}
use Rattle.rex_cluster.specs.Values.{trace_of, values_fit}
use Rattle.rex_cluster.specs.Lanes.{node_trace}
use Rattle.rex_cluster.specs.Stands.{Stands}
use Rattle.rex_cluster.specs.Agreed.{known_at, agreed}
use Rattle.rex_safety.specs.Laws.{ReleasesStand, ReleasesAreAgreed}
use Rattle.rex_cluster.specs.Releases.{IsAmong, Moment, receiver_of, node_in, step_moments, moments, IsLater}
use Rattle.rex_cluster.proofs.Traces.{stands_more}
use Rattle.rex_cluster.proofs.Grow.{grows_same, grows_trans}
use Rattle.rex_cluster.proofs.Fronts.{fits_front}
use Rattle.rex_safety.proofs.Lawful.{of_step}
use Rattle.rex_safety.proofs.Leaders.{later_knows, earlier_knows}
use Rattle.rex_safety.proofs.Nodes.{node_put}
use Rattle.rex_safety.proofs.Worlds.{IsWorld, at_either, node_of_lead}
use Rattle.rex_safety.proofs.Steps.{step_ok, row_ok, beginning_ok}
use Rattle.rex_cluster.proofs.Saying.{Quiet, quiet_one, quiet_none, receive_says}
use Rattle.rex_safety.proofs.Agreeing.{known_begins, agreed_grows}
use Rattle.rex_cluster.proofs.Replies.{trace_both, stands_begins, StandsIn, replies_stand, SaysHere}

-- ---- a step

-- an answer to a client that reads is no release
pub read_quiet : (m client variable : ℕ) (a : Told) (c s : ℕ) (x : ℤ) → read_effect m client variable a ≡ effect.Released c s x → ⊥
read_quiet m client variable told.Down c s x e = cc
read_quiet m client variable told.Primary c s x e = cc
read_quiet m client variable (told.Behind have seen) c s x e = cc
read_quiet m client variable (told.Value value number) c s x e = cc

-- what it releases stands in what its node knows, and the node is there and active
pub record IsTrue (service : Declarations) (good : IsService service) (checked : IsChecked service) (n m : ℕ) (w : World) (effects : List Effect) : Type 0 where
  pub each : (c s : ℕ) (x : ℤ) → IsAmong (effect.Released c s x) effects → IsNode n m × (is_active (node_at w.nodes m).role ≡ true) × StandsIn service good checked (known_at w m) c s x

module _ (service : Declarations) (good : IsService service) (checked : IsChecked service) (seed n : ℕ) where
  quiet_true : (m : ℕ) (w : World) (effects : List Effect) → Quiet effects → IsTrue service good checked n m w effects
  quiet_true m w effects q = record { each = λ c s x h. absurd (q c s x h) }

  after_true : (w : World) → length w.nodes ≡ n → (m : ℕ) → IsNode n m → (d : CallHere) → SaysHere service good checked seed n m d → IsTrue service good checked n m (after w m d).world d.effects
  after_true w many m min d says = record {
    each = λ c s x h. let r = says.each c s x h in
        (min, subst (λ (y : Here). is_active y.role ≡ true) (sym place) r.0, subst (λ (y : Here). StandsIn service good checked (known y.log) c s x) (sym place) r.1);
  }
    where
      place : node_at (put w.nodes m d.node) m ≡ d.node
      place = node_put w.nodes m d.node m (subst (λ k. IsNode k m) (sym many) min) ∙ ap (λ t. cond t d.node (node_at w.nodes m)) (eq-eqb m m refl)

  at_node_true : (w : World) → length w.nodes ≡ n → (m : ℕ) (call : CallHere → CallHere) → ((d : CallHere) → Quiet d.effects → SaysHere service good checked seed n m (call d)) → IsTrue service good checked n m (at_node w m call).world (at_node w m call).effects
  at_node_true w many m call says =
      at_either n w many m call (λ r. IsTrue service good checked n m r.world r.effects) (quiet_true m w (effect.IsDown m ∷ []) (quiet_one (effect.IsDown m) (λ c s x e. cc)))
      (λ min. after_true w many m min (call (begin (node_at w.nodes m))) (says (begin (node_at w.nodes m)) quiet_none))

  first_true : (m : ℕ) (e : Effect) (r : Row) → ((c s : ℕ) (x : ℤ) → e ≡ effect.Released c s x → ⊥) → IsTrue service good checked n m r.world r.effects → IsTrue service good checked n m (first_told e r).world (first_told e r).effects
  first_true m e r o h = record { each = λ c s x. elim [ inl y ↦ absurd (o c s x y) | inr y ↦ h.each c s x y ] }

  deliver_true : (w : World) → length w.nodes ≡ n → (number : ℕ) (o : Option (Message Value)) → IsTrue service good checked n (receiver_of o) (deliver_found service seed n w number o).world (deliver_found service seed n w number o).effects
  deliver_true w many number None = quiet_true 0 w (effect.NoMessage number ∷ []) (quiet_one (effect.NoMessage number) (λ c s x e. cc))
  deliver_true w many number (Some y) =
      first_true y.to (effect.Delivered number (kind_of y.content) y.from y.to) (at_node (with_handed w number) y.to (receive n (service_of service seed) y.to y.from y.content)) (λ c s x e. cc)
      (at_node_true (with_handed w number) many y.to (receive n (service_of service seed) y.to y.from y.content)
      (λ d q. receive_says n (service_of service seed) y.to (StandsIn service good checked) (replies_stand service good checked) y.from y.content d q))

  -- an answer to a client that reads releases nothing
  read_true : (w : World) (m client variable : ℕ) (a : Told) → IsTrue service good checked n m (read_row w m client variable a).world (read_row w m client variable a).effects
  read_true w m client variable a = quiet_true m (read_row w m client variable a).world (read_row w m client variable a).effects (quiet_one (read_effect m client variable a) (read_quiet m client variable a))

  pub step_true : (requests : List Request) → All (RequestFits service) requests → (w : World) → length w.nodes ≡ n → (x : ScheduleLine) → IsTrue service good checked n (node_in w x) (step service requests seed n w x).world (step service requests seed n w x).effects
  step_true requests fit w many x =
      of_step service requests seed n w (λ y r. IsTrue service good checked n (node_in w y) r.world r.effects)
      (record {
        calls = λ y m call k. subst (λ q. IsTrue service good checked n q (at_node w m call).world (at_node w m call).effects) (sym k.node) (at_node_true w many m call (k.says good checked fit));
        silent = λ y m call k s. quiet_true (node_in w y) (after w m (call (begin (node_at w.nodes m)))).world (call (begin (node_at w.nodes m))).effects (s.quiet (node_at w.nodes m));
        is_up = λ m. quiet_true m w (effect.IsUp m ∷ []) (quiet_one (effect.IsUp m) (λ c s x e. cc));
        delivers = λ number. deliver_true w many number (message_at w.messages number);
        flush = quiet_true 0 w (effect.Nothing ∷ []) (quiet_one effect.Nothing (λ c s x e. cc));
        reads = λ m client variable. read_true w m client variable (read_at service (node_at w.nodes m) variable (get_or w.seen client 0));
      }) x

-- ---- the moments of a run

module _ (service : Declarations) (good : IsService service) (checked : IsChecked service) (requests : List Request) (fit : All (RequestFits service) requests) (seed n : ℕ) (few : n ≤ most_nodes) where
  abbrev sv : Service Value StateValue
  sv = service_of service seed

  -- each moment keeps the invariant, grows from the one before, and releases what stands
  pub record IsMoment (L : Logs Value StateValue) (x : Moment) : Type 0 where
    pub ok : IsWorld n sv x.world
    pub grows : Grows L (logs x.world)
    pub true_of : IsTrue service good checked n x.node x.world x.effects

  abbrev pub AreMoments : Logs Value StateValue → List Moment → Type 0
  AreMoments L [] = Unit {0}
  AreMoments L (x ∷ xs) = IsMoment L x × AreMoments (logs x.world) xs

  weaker : (L M : Logs Value StateValue) (x : Moment) → Grows L M → IsMoment M x → IsMoment L x
  weaker L M x g h = record { ok = h.ok; grows = grows_trans g h.grows; true_of = h.true_of }

  pub step_moments_are : (number : ℕ) (w : World) (xs : List ScheduleLine) (rest : List Moment) → IsWorld n sv w → AreMoments (logs (steps service requests seed n w xs).world) rest → AreMoments (logs w) (step_moments service requests seed n number w xs ++ rest)
  step_moments_are number w [] rest ok h = h
  step_moments_are number w (x ∷ xs) rest ok h =
      let r = step_ok service requests seed n few w x ok in (
        record { ok = r.0; grows = r.1; true_of = step_true service good checked seed n requests fit w ok.many x },
        step_moments_are number (step service requests seed n w x).world xs rest r.0 h,
      )

  moments_are : (w : World) (xs : List ScheduleLine) → IsWorld n sv w → AreMoments (logs w) (moments service requests seed n w xs)
  moments_are w [] ok = tt
  moments_are w (x ∷ xs) ok = step_moments_are (w.done + 1) w (steps_of w x) (moments service requests seed n (row service requests seed n w x).world xs) ok (moments_are (row service requests seed n w x).world xs (row_ok service requests seed n few w x ok).0)

  pub one_at : (L : Logs Value StateValue) (ms : List Moment) (i : ℕ) (x : Moment) → AreMoments L ms → slice_get ms i ≡ Some x → IsMoment L x
  one_at L [] i x h e = absurd (cc)
  one_at L (y ∷ ys) zero x h e = subst (IsMoment L) (same_Some y x e) h.0
  one_at L (y ∷ ys) (suc i) x h e = weaker L (logs y.world) x h.0.grows (one_at (logs y.world) ys i x h.1 e)

  pub two_at : (L : Logs Value StateValue) (ms : List Moment) (i j : ℕ) (x y : Moment) → AreMoments L ms → slice_get ms i ≡ Some x → slice_get ms j ≡ Some y → i ≤ j → Grows (logs x.world) (logs y.world)
  two_at L [] i j x y h e f l = absurd (cc)
  two_at L (z ∷ zs) zero zero x y h e f l = subst (λ (u : Moment). Grows (logs x.world) (logs u.world)) (sym (same_Some z x e) ∙ same_Some z y f) (grows_same (logs x.world))
  two_at L (z ∷ zs) zero (suc j) x y h e f l = subst (λ (u : Moment). Grows (logs u.world) (logs y.world)) (same_Some z x e) (one_at (logs z.world) zs j y h.1 f).grows
  two_at L (z ∷ zs) (suc i) zero x y h e f l = absurd (omega arith)
  two_at L (z ∷ zs) (suc i) (suc j) x y h e f l = two_at (logs z.world) zs i j x y h.1 e f (omega arith)

  -- ---- leaders

  -- an active node's role
  leads_of : (r : Role Value) → is_active r ≡ true → (l : Lead Value) × (r ≡ Leads l) × (l.active ≡ true)
  leads_of Follower e = absurd (false≢true e)
  leads_of (Leads l) e = (l, refl, e)

  pub lead_ok : (w : World) → IsWorld n sv w → (m : ℕ) → IsNode n m → (l : Lead Value) → (node_at w.nodes m).role ≡ Leads l → LeadsRightly n (logs w) (logs w m) m l
  lead_ok w ok m min l e = subst (λ r. IsRightRole n (logs w) (logs w m) m r) e (ok.cluster.roles m min)

  longer_stands : (w v : World) (a m c s : ℕ) (x : ℤ) → Begins (known_at w a) (known_at v m) → Stands (trace_of (known_at w a)) c s x → Stands (node_trace (node_at v.nodes m)) c s x
  longer_stands w v a m c s x b h =
      stands_more (trace_of (known_at v m)) (node_at v.nodes m).work.live c s x
      (subst (λ vs. Stands (trace_of vs) c s x) b.1 (subst (λ es. Stands es c s x) (sym (trace_both (known_at w a) b.0)) (stands_more (trace_of (known_at w a)) (trace_of b.0) c s x h)))

  pub known_run : (w : World) → IsWorld n sv w → (m : ℕ) → IsNode n m → values_fit service (known_at w m) ≡ true
  known_run w ok m min = subst (λ vs. values_fit service vs ≡ true) (whole (known_at w m)) (fits_front n sv (logs w) ok.cluster.safe (known_at w m) (ok.cluster.safe.knows m min) refl (length (known_at w m)))
    where
      whole : (vs : List Value) → take (length vs) vs ≡ vs
      whole [] = refl
      whole (v ∷ vs) = ap (λ xs. v ∷ xs) (whole vs)

  -- each reply that is released at one of these moments stands in the trace of every later leader
  pub moments_stand : (L : Logs Value StateValue) (ms : List Moment) → AreMoments L ms → ReleasesStand ms
  moments_stand L ms all i j release lead ei ej ballot c s x rel m later ldr is_later = by is_later
    where
      mr : IsMoment L release
      mr = one_at L ms i release all ei

      ml : IsMoment L lead
      ml = one_at L ms j lead all ej

      t : IsNode n release.node × (is_active (node_at release.world.nodes release.node).role ≡ true) × StandsIn service good checked (known_at release.world release.node) c s x
      t = mr.true_of.each c s x rel.among

      k : (l : Lead Value) × ((node_at release.world.nodes release.node).role ≡ Leads l) × (l.active ≡ true)
      k = leads_of (node_at release.world.nodes release.node).role t.1

      kb : k.0.ballot ≡ ballot
      kb = sym (ap own_ballot k.1) ∙ rel.leader

      here : Stands (trace_of (known_at release.world release.node)) c s x
      here = t.2 (known_run release.world mr.ok release.node t.0)

      min : IsNode n m
      min = node_of_lead n sv lead.world ml.ok m ldr.lead ldr.role

      okk : LeadsRightly n (logs release.world) (logs release.world release.node) release.node k.0
      okk = lead_ok release.world mr.ok release.node t.0 k.0 k.1

      okl : LeadsRightly n (logs lead.world) (logs lead.world m) m ldr.lead
      okl = lead_ok lead.world ml.ok m min ldr.lead ldr.role

      forward : i ≤ j → k.0.ballot ≤ ldr.lead.ballot → Stands (node_trace (node_at lead.world.nodes m)) c s x
      forward l b =
          longer_stands release.world lead.world release.node m c s x
          (later_knows n sv (logs release.world) (logs lead.world) release.node m k.0 ldr.lead mr.ok.cluster.safe ml.ok.cluster.safe
          (two_at L ms i j release lead all ei ej l) t.0 min okk k.2 okl ldr.active b) here

      backward : j ≤ i → k.0.ballot < ldr.lead.ballot → Stands (node_trace (node_at lead.world.nodes m)) c s x
      backward l b =
          longer_stands release.world lead.world release.node m c s x
          (earlier_knows n sv (logs lead.world) (logs release.world) release.node m k.0 ldr.lead ml.ok.cluster.safe mr.ok.cluster.safe
          (two_at L ms j i lead release all ej ei l) t.0 min okl ldr.active okk k.2 b) here

      by : IsLater i ballot j later → Stands (node_trace (node_at lead.world.nodes m)) c s x
      by (inr h) = forward h.1 (omega (arith, kb, ldr.ballot_is, h.0))
      by (inl h) = order (cases_lt i j)
        where
          order : (i < j) ⊎ (j ≤ i) → Stands (node_trace (node_at lead.world.nodes m)) c s x
          order (inl l) = forward (omega arith) (omega (arith, kb, ldr.ballot_is, h))
          order (inr l) = backward l (omega (arith, kb, ldr.ballot_is, h))

  -- each reply that is released at one of these moments stands in the agreed trace from then on
  pub moments_agreed : (L : Logs Value StateValue) (ms : List Moment) → AreMoments L ms → ReleasesAreAgreed ms
  moments_agreed L ms all i j release later ei ej l c s x among =
      stands_begins (agreed release.world) (agreed later.world) c s x (agreed_grows n sv release.world later.world mr.ok ml.ok (two_at L ms i j release later all ei ej l))
      (stands_begins (known_at release.world release.node) (agreed release.world) c s x (known_begins n sv release.world mr.ok release.node t.0) (t.2 (known_run release.world mr.ok release.node t.0)))
    where
      mr : IsMoment L release
      mr = one_at L ms i release all ei

      ml : IsMoment L later
      ml = one_at L ms j later all ej

      t : IsNode n release.node × (is_active (node_at release.world.nodes release.node).role ≡ true) × StandsIn service good checked (known_at release.world release.node) c s x
      t = mr.true_of.each c s x among

  pub replies_stand_later : (lines : List ScheduleLine) → ReleasesStand (moments service requests seed n (beginning n) lines)
  replies_stand_later lines = moments_stand (logs (beginning n)) (moments service requests seed n (beginning n) lines) (moments_are (beginning n) lines (beginning_ok service requests seed n few))
