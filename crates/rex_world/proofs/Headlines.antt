-- What holds of every run of a scenario.
use Rattle.rex_world.proofs.Common.{◌≡◌, inl, inr, ℕ, zero, suc, ◌≤◌, List, [], ◌∷◌, ◌++◌, length, ◌^◌, refl, sym, ap, subst, arith, length-append, All, All-nil, All-cons, All-head, All-tail, most_nodes, Request, Declarations, IsService, IsChecked, start_of, ScheduleLine, RequestFits, LineFits, Value, runs, trace_of, agreed, IsIn}
use Rattle.std.specs.Prelude.{take, map}
use Rattle.rex_syntax.specs.Typed.{ServiceIsTyped, RequestIsTyped}
use Rattle.rex_cluster.specs.Agreed.{world_after}
use Rattle.rex_safety.proofs.Agreeing.{agreed_fits, is_one_list}
use Rattle.rex_safety.proofs.Steps.{reached_ok}
use Rattle.rex_safety.proofs.Caused.{agreed_cuts, agreed_least}
use Rattle.rex_safety.proofs.Requests.{agreed_once}
use Rattle.rex_safety.proofs.Moments.{replies_stand_later}
use Rattle.rex_safety.proofs.Readings.{never_back, reports, tells_agreed}
use Rattle.rex_safety.proofs.Showing.{replies_agreed, replies_show, told_shows}
use Rattle.rex_safety.proofs.Faithfuls.{lines_faithful}
use Rattle.rex_safety.proofs.Raising.{rounds_left}
use Rattle.rex_event.specs.Cuts.{AreNumbered, IsConsistent}
use Rattle.rex_event.specs.Causes.{AreRight}
use Rattle.rex_state.specs.Counts.{counts_of}
use Rattle.rex_state.proofs.Counts.{runs_count_on}
use Rattle.rex_state.proofs.Sounds.{start_keeps}
use Rattle.rex_cluster.specs.Values.{delta_of}
use Rattle.rex_order.specs.Edges.{joined, HasEdge, AllRight}
use Rattle.rex_order.specs.Laws.{AllowExtensions}
use Rattle.rex_order.proofs.Extensions.{cuts_run_alike}
use Rattle.rex_order.proofs.Edges.{deltas_allow_extensions}
use Rattle.rex_cluster.proofs.Replies.{fits_run}
use Rattle.rex_world.specs.Laws.{Headline, StaysFaithful}

joined_trace : (values : List Value) → joined (map delta_of values) ≡ trace_of values
joined_trace [] = refl
joined_trace (v ∷ values) = ap (λ es. (delta_of v).events ++ es) (joined_trace values)

all_right : (values : List Value) → ((v : Value) → IsIn v values → AreRight (delta_of v).events (delta_of v).causes) → AllRight (map delta_of values)
all_right [] h = tt
all_right (v ∷ values) h = (h v (inl refl), all_right values (λ w i. h w (inr i)))

in_take : (k : ℕ) (values : List Value) (v : Value) → IsIn v (take k values) → IsIn v values
in_take zero values v i = absurd i
in_take (suc k) [] v i = absurd i
in_take (suc k) (w ∷ values) v (inl e) = inl e
in_take (suc k) (w ∷ values) v (inr i) = inr (in_take k values v i)

-- what holds of every run of a checked service
pub headline : {service : Declarations} {requests : List Request} {seed n : ℕ} {lines : List ScheduleLine} → n ≤ most_nodes → IsService service → IsChecked service
    → All (RequestFits service) requests → Headline service requests seed n lines
headline {service} {requests} {seed} {n} {lines} few good checked fit = record {
  prefix = λ earlier later rest is a b la lb. is_one_list service requests seed n earlier later few a b la lb;
  runs = λ front rest is k. fits_run service _
      (agreed_fits n _ _ (reached_ok service requests seed n few front) refl k);
  cuts = λ front rest is k cut c. agreed_cuts service requests seed n front few good checked k cut c;
  orders = λ front rest is k cut c.
      let r = fits_run service _ (agreed_fits n _ _ (reached_ok service requests seed n few front) refl k) in
      cuts_run_alike service _ r.0 _ cut good (start_keeps service good checked) r.1 c;
  edges = λ front rest is k cut c.
      let vs = take k (agreed (world_after service requests seed n front)) in
      let r = fits_run service vs (agreed_fits n _ _ (reached_ok service requests seed n few front) refl k) in
      let counts = (runs_count_on service _ r.0 _ r.1).numbered in
      let right = all_right vs (λ v i. (agreed_least service requests seed n front few good checked v (in_take k _ v i)).right) in
      subst (λ es. AllowExtensions (HasEdge (map delta_of vs)) es cut) (joined_trace vs)
      (deltas_allow_extensions _ _ cut (subst (AreNumbered (counts_of (start_of service))) (sym (joined_trace vs)) counts) right (subst (λ es. IsConsistent es cut) (sym (joined_trace vs)) c));
  causes = λ front rest is v i. agreed_least service requests seed n front few good checked v i;
  once = λ front rest is. agreed_once service requests seed n front few good checked;
  stands = λ front rest is i j release lead ei ej ballot client sequence value released m later leads after.
      replies_stand_later service good checked requests fit seed n few front i j release lead ei ej ballot client sequence value released m later leads after;
  released = λ front rest is client sequence value h. replies_agreed service good checked requests fit seed n few front client sequence value h;
  reads = λ front rest is. tells_agreed service seed n _ (reached_ok service requests seed n few front);
  reported = λ front rest is. reports service n _;
  forward = λ earlier later rest m client variable is l value number. never_back service requests seed n earlier later m client variable value number l;
  shown = λ front rest is client sequence reply l h.
      told_shows service _ client sequence reply (replies_show service good checked requests fit seed n few front client sequence reply h) l;
  rounds = λ short. rounds_left service requests seed n few lines short;
}

-- what holds of all lines holds of those of a front
all_in_front : {X : Type 0} (P : X → Type 0) (front rest : List X) → All P (front ++ rest) → All P front
all_in_front P [] rest h = All-nil P
all_in_front P (x ∷ front) rest h = All-cons P x front (All-head P x (front ++ rest) h) (all_in_front P front rest (All-tail P x (front ++ rest) h))

-- each cut of a run is faithful, where its lines name what is there and its numbers are of 64 bits
pub stays_faithful : {service : Declarations} {requests : List Request} {seed n : ℕ} {lines : List ScheduleLine} → n ≤ most_nodes → IsService service → IsChecked service → ServiceIsTyped service
    → All (RequestFits service) requests → All RequestIsTyped requests → All (LineFits n (length requests) service.lanes) lines → length lines ≤ 2 ^ 63 → StaysFaithful service requests seed n lines
stays_faithful {service} {requests} {seed} {n} few good checked numbers fit typed there short = record {
  cuts = λ front rest is.
      let here : All (LineFits n (length requests) service.lanes) front = all_in_front (LineFits n (length requests) service.lanes) front rest (subst (All (LineFits n (length requests) service.lanes)) is there) in
      let fewer : length front ≤ 2 ^ 63 = omega (arith, short, ap length is, length-append front rest) in
      lines_faithful service good checked numbers requests seed n few front fit typed here fewer;
}
