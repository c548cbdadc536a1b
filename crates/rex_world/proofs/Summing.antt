-- The agreed trace runs, and its state has the variables of the summary.
use Rattle.rex_world.proofs.Common.{◌≡◌, ℕ, ℤ, suc, true, List, [], ◌∷◌, length, Option, refl, sym, ap, subst, ◌∙◌, IsSome, unwrap_or, Declarations, StateValue, start_of, run, Effect, Scenario, Value, trace_of, state_after, values_fit, agreed, beginning, after_lines, World, IsRunning, releases_from, messages_of, nodes_of, world_of}
use Rattle.std.specs.Prelude.{Some}
use Rattle.rex_cluster.specs.Quorum.{IsNode}
use Rattle.rex_safety.specs.Keeping.{KeptValuesFit}
use Rattle.rex_world.specs.declared.summary.Summary.{Summary}
use Rattle.rex_world.specs.Summaries.{last_world, summary_of}
use Rattle.rex_cluster.proofs.Replies.{fits_run as fit_run}
use Rattle.rex_world.proofs.Agreeing.{holds_of_longest}

-- the agreed values of a running world fit
agreed_fit : {S : Type 0} → KeptValuesFit → {service : Declarations} {w : World S} → IsRunning service w → values_fit service (agreed (world_of service w)) ≡ true
agreed_fit law {service} {w} h =
    holds_of_longest (λ values. values_fit service values ≡ true) _ refl
    (λ m there. (law service w.seed (nodes_of w) (world_of service w) h.service_is h.checked h.kept).next.known m (subst (λ n. IsNode n m) h.kept.world.many there))

some_is : {A : Type 0} {o : Option A} {x : A} → o ≡ Some x → IsSome o
some_is h = rw h refl

-- values that are the agreed ones run from the start
pub agreed_runs : {S : Type 0} → KeptValuesFit → {service : Declarations} {w : World S} {values : List Value} {start : StateValue} → IsRunning service w → values ≡ agreed (world_of service w) → start ≡ start_of service → IsSome (run service start (trace_of values))
agreed_runs law {service} {w} {values} {start} h is at =
    let r = fit_run service _ (agreed_fit law h) in
    some_is
    (ap (λ s. run service s (trace_of values)) at ∙ ap (λ vs. run service (start_of service) (trace_of vs)) is ∙ r.1)

-- as many messages as the network has bytes of
as_many : (past : List Value) (net : List (List ℕ)) → length (messages_of past net) ≡ length net
as_many past [] = refl
as_many past (bytes ∷ rest) = ap suc (as_many past rest)

-- the numbers of a run are those of its last world
pub summary_is : {S : Type 0} → (service : Declarations) (s : Scenario) (first last : World S) {values : List Value} {releases : List Effect} {start state : StateValue} {lines messages known_ones released : ℕ} {variables : List ℤ}
    → world_of service first ≡ beginning s.nodes → world_of service last ≡ after_lines service s.requests s.seed s.nodes (world_of service first) s.schedule
    → releases ≡ releases_from service s (world_of service first) s.schedule → values ≡ agreed (world_of service last) → start ≡ start_of service → run service start (trace_of values) ≡ Some state
    → lines ≡ length s.schedule → messages ≡ length last.net → known_ones ≡ length values → released ≡ length releases → variables ≡ state.variables
    → ◌≡◌ {A = Summary} (record { lines = lines; messages = messages; known = known_ones; released = released; variables = variables }) (summary_of service s)
summary_is service s first last {values} {state} {lines} {messages} {known_ones} {released} {variables} first_is last_is releases_are values_are start_is ran lines_is messages_is known_is released_is variables_are =
    same lines_is
    (messages_is ∙ sym (as_many _ last.net) ∙ ap (λ w. length w.messages) ended)
    (known_is ∙ ap length agreed_is)
    (released_is ∙ ap length (releases_are ∙ ap (λ w. releases_from service s w s.schedule) first_is))
    (variables_are ∙ ap (λ x. x.variables) (sym after) ∙ ap (λ vs. (state_after service (trace_of vs)).variables) agreed_is)
  where
    ended : world_of service last ≡ last_world service s
    ended = last_is ∙ ap (λ w. after_lines service s.requests s.seed s.nodes w s.schedule) first_is

    agreed_is : values ≡ agreed (last_world service s)
    agreed_is = values_are ∙ ap agreed ended

    after : state_after service (trace_of values) ≡ state
    after = ap (λ o. unwrap_or o (start_of service)) (ap (λ x. run service x (trace_of values)) (sym start_is) ∙ ran)

    same : {a b c d : ℕ} {e : List ℤ} → lines ≡ a → messages ≡ b → known_ones ≡ c → released ≡ d → variables ≡ e
        → ◌≡◌ {A = Summary} (record { lines = lines; messages = messages; known = known_ones; released = released; variables = variables }) (record { lines = a; messages = b; known = c; released = d; variables = e })
    same p q r t u = rw (p, q, r, t, u) refl
