-- The test of a value that may be known next.
use Rattle.std.proofs.Common.{◌≡◌, ℕ, zero, suc, ◌+◌, Bool, true, false, not, ◌&&◌, List, [], ◌∷◌, ◌++◌, length, Option, Some, None, Result, Ok, Err, IfOk, refl, sym, ◌∙◌, ap, subst, arith, length-append}
use Rattle.std.specs.Prelude.{nat_lt}
use Rattle.std.specs.declared.alloc.AllocError.{AllocError}
use Rattle.std.proofs.lemmas.Bool.{false≢true}
use Rattle.rex_msg.specs.declared.message.Content.{Content}
use Rattle.rex_msg.specs.declared.message.Content.TheVariants as sent
use Rattle.rex_syntax.specs.declared.service.Declarations.{Declarations}
use Rattle.rex_syntax.specs.Service.{IsService}
use Rattle.rex_syntax.specs.Check.{IsChecked}
use Rattle.rex_event.specs.declared.event.Event.{Event}
use Rattle.rex_report.specs.declared.effect.Role.{Role as RoleName}
use Rattle.rex_state.specs.Value.{StateValue}
use Rattle.rex_state.specs.Sound.{IsSound}
use Rattle.rex_state.specs.Start.{start_of}
use Rattle.rex_state.specs.Machine.{run}
use Rattle.rex_state.proofs.Run.{run-then}
use Rattle.rex_state.proofs.Sounds.{run_keeps, start_keeps}
use Rattle.rex_cluster.specs.Records.{Proposal, known}
use Rattle.rex_cluster.specs.Node.{Role, is_active, lead_name, role_name}
use Rattle.rex_cluster.specs.Node.Role.{Follower, Leads}
use Rattle.rex_cluster.specs.Values.{Value, events_of, trace_of, values_fit}
use Rattle.rex_cluster.specs.Lanes.{Here}
use Rattle.rex_cluster.proofs.Replies.{trace_push}
use Rattle.rex_log.specs.Log.{first}
use Rattle.rex_log.specs.Messages.{content_in}
use Rattle.rex_node.specs.Checkpointing.{replayed_state}
use Rattle.rex_node.specs.Parts.{IsNode, NodeValue, count_of, here_of, knows}
use Rattle.rex_processes.specs.Tested.{MayBeHeard}
use Rattle.rex_processes.proofs.Testing.{next_fits_where}
use Rattle.rex_fits.specs.Applied.{AppliedValue, HasTaken, fits_after}
use Rattle.rex_process.specs.declared.hearing.Test.{Test}
use Rattle.rex_process.specs.declared.hearing.Test.TheVariants as test
use Rattle.rex_process.specs.Hearing.{IsTestOf, IsTestOfNext}
use Rattle.rex_process.specs.Process.{ProcessValue, IsProcess, IsTest, here, is_behind, is_named_active}
use Rattle.rex_process.proofs.Standing.{replayed_runs, up_is}

-- ---- how far a node is

first_many : (k : ℕ) (vs : List Value) → length (first k vs) ≡ k
first_many zero vs = refl
first_many (suc k) [] = ap suc (first_many k [])
first_many (suc k) (v ∷ vs) = ap suc (first_many k vs)

-- it knows as many values as its records say
pub many_known : {K : Type 0} → (records : K → List (List ℕ)) (service : Declarations) (x : NodeValue K) → IsNode records service [] x → x.up ≡ true → count_of x ≡ length (known (here_of records service [] x).log)
many_known records service x node up =
    let e : knows [] x ≡ known (here_of records service [] x).log = (node.up up).known in
    omega (arith, length-append (first x.offset []) x.known, first_many x.offset [], ap length e)

named_active : (r : Role Value) → is_named_active (role_name r) ≡ is_active r
named_active Follower = refl
named_active (Leads l) = by l.active l.proposal
  where
    by : (a : Bool) (o : Option (Proposal Value)) → is_named_active (lead_name a o) ≡ a
    by true o = refl
    by false None = refl
    by false (Some p) = refl

-- whether it is behind shows in these
pub behind_is : {K : Type 0} → (records : K → List (List ℕ)) (service : Declarations) (x : NodeValue K) → IsNode records service [] x → (name : RoleName) (r k : ℕ) → name ≡ role_name (here_of records service [] x).role → r ≡ x.replayed → k ≡ count_of x
    → (x.up && (not (is_named_active name) && nat_lt r k)) ≡ is_behind (here_of records service [] x)
behind_is records service x node name r k named replayed counted = by x.up refl
  where
    by : (t : Bool) → x.up ≡ t → (t && (not (is_named_active name) && nat_lt r k)) ≡ (t && (not (is_active (here_of records service [] x).role) && nat_lt x.replayed (length (known (here_of records service [] x).log))))
    by false e = refl
    by true e = ap₃ (λ (a : Bool) (i j : ℕ). not a && nat_lt i j) (ap is_named_active named ∙ named_active (here_of records service [] x).role) replayed (counted ∙ many_known records service x node e)
      where
        ap₃ : {A B C D : Type 0} (f : A → B → C → D) {a a' : A} {b b' : B} {c c' : C} → a ≡ a' → b ≡ b' → c ≡ c' → f a b c ≡ f a' b' c'
        ap₃ f p q r = rw (p, q, r) refl

-- ---- the test

module _ {K : Type 0} (records : K → List (List ℕ)) (faults : K → ℕ) (p : ProcessValue K) (good : IsService p.service) (checked : IsChecked p.service) (process : IsProcess records faults p) (up : p.node.up ≡ true) (v : Value) where
  abbrev x : Here
  x = here records p

  abbrev s : StateValue
  s = replayed_state p.node

  -- the state that the node has replayed is the one after all that it knows
  pub leads : run p.service (start_of p.service) (trace_of (known x.log)) ≡ Some s
  leads = replayed_runs records p.service p.node process.node process.plain up (process.up up).caught_up

  pub sound : IsSound p.service s
  sound = run_keeps p.service (start_of p.service) s (trace_of (known x.log)) good (start_keeps p.service good checked) leads

  fit : values_fit p.service (known x.log) ≡ true
  fit = let u = up_is records p.service p.node process.node process.plain up in subst (λ (vs : List Value). values_fit p.service vs ≡ true) u.known u.fits

  next : values_fit p.service (known x.log ++ v ∷ []) ≡ fits_after p.service s v
  next = next_fits_where p.service (known x.log) v s fit leads

  pub passes : (after : AppliedValue) → fits_after p.service s v ≡ true → HasTaken p.service (record { state = s; clock = p.clock }) v after → IsTest p.service p.clock x v (Some after)
  passes after e h = record {
    fits = next ∙ e;
    runs = ap (λ (es : List Event). run p.service (start_of p.service) es) (trace_push (known x.log) v) ∙ (run-then p.service (start_of p.service) s (trace_of (known x.log)) (events_of v) leads ∙ h.runs);
    clock_is = h.clock;
  }

  pub fails : fits_after p.service s v ≡ false → IsTest p.service p.clock x v None
  fails e fits = false≢true (sym e ∙ (sym next ∙ fits))

-- ---- a value that is told as chosen

module _ {K : Type 0} (records : K → List (List ℕ)) (faults : K → ℕ) (p : ProcessValue K) (process : IsProcess records faults p) (up : p.node.up ≡ true) (i many : ℕ) (v : Value) (c : Content) (chosen : c ≡ sent.Chosen i v) (counted : many ≡ count_of p.node) where
  -- the number after those that the node knows is the next instance
  next_is : many + 1 ≡ suc (length (known (here records p).log))
  next_is = let e : count_of p.node ≡ length (known (here records p).log) = many_known records p.service p.node process.node up in omega (arith, counted, e)

  -- that of the next instance is tested
  pub next_tested : i ≡ many + 1 → (outcome : Result Test AllocError) → IfOk outcome (IsTestOfNext p.service p.clock (here records p) v) → IfOk outcome (IsTestOf records p c)
  next_tested is (Err e) h = tt
  next_tested is (Ok t) h = subst (λ (x : Content). IsTestOf records p x t) (sym chosen) (by t h)
    where
      by : (t : Test) → IsTestOfNext p.service p.clock (here records p) v t → IsTestOf records p (sent.Chosen i v) t
      by test.Passed h = absurd h
      by (test.Known a) h = (λ e. h.fits, (is ∙ next_is, h))
      by test.Unfit h = λ may. h (may (is ∙ next_is))

  -- that of another one may be heard
  pub other_passes : (i ≡ many + 1 → ⊥) → MayBeHeard p.service (here records p) (content_in [] c)
  other_passes not = subst (λ (x : Content). MayBeHeard p.service (here records p) (content_in [] x)) (sym chosen) (λ e. absurd (not (e ∙ sym next_is)))
