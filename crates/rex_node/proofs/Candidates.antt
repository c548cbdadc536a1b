-- A node that asks to lead does as the model's.
use Rattle.rex_node.proofs.Common.{◌-◌, ◌^◌, MaySettle, ◌≡◌, ℕ, suc, ◌+◌, ◌*◌, ◌<◌, ◌≤◌, Bool, true, false, cond, List, [], ◌∷◌, ◌++◌, length, take, Result, Ok, Err, Option, Some, None, inr, refl, sym, ap, subst, ◌∙◌, arith, le_refl, map, nat_lt, IfOk, OnErr, AllocError, false≢true, length-map, All-filter, Kept, IsValue, promising, IsOneOf, counted_none, counted_push, Declarations, StateValue, start_of, run, HasSpelling, record_bytes, Answer, Rec, Proposal, promise, accepted, from_on, known, Promised, ballot_above, round_of, Failure, Lead, Follower, Leading, Prepare, LeadFits, append, begin, elect, enough, logged, others, own_reports, say, send, settle, stand, with_role, Value, service_of, trace_of, Here, CallHere, length_push, Going, On, Down, Draft, content_in, message_in, Refusal, Step, armed_with, if_up, Appends, Ends, Finishes, IsStuck, Leads, LosesFirst, RunsOn, above, so_far, log_of, proposal_in, NodeValue, IsKept, IsResting, IsSame, IsUp, Proposes, here_of, lead_of, Service}
use Rattle.std.proofs.Common.{add-one}
use Rattle.rex_ballot.specs.Ballot.{IsLeastAbove, ballot_left}
use Rattle.rex_msg.specs.declared.message.Content.TheVariants as sent
use Rattle.rex_paxos.specs.Proposer.{IsOwnBallot}
use Rattle.rex_durable.specs.declared.records.Rec.TheVariants as kept
use Rattle.rex_report.specs.declared.effect.Effect.TheVariants as effect
use Rattle.rex_cluster.specs.Calls.{candidacy}
use Rattle.rex_cluster.proofs.Lists.{in_from_on}
use Rattle.rex_cluster.proofs.Ranged.{accepted_fit}
use Rattle.rex_node.specs.Electing.{candidate_of, standing}
use Rattle.rex_node.proofs.Appended.{Beside, IsLogged, appended_here, appended_leads, appended_log, ballot_fits, beside_of, call_at, logged_of, logged_promised, up_of, logged_as}
use Rattle.rex_log.proofs.Proposers.{left_is}
use Rattle.rex_node.proofs.Continuing.{ends_if}
use Rattle.rex_node.proofs.Stuck.{breaks_after, settle_loses}
use Rattle.rex_node.proofs.Ending.{HasCome}
use Rattle.rex_node.proofs.Following.{far, follower_here}
use Rattle.rex_node.proofs.GoingLemmas.{leads_same, leads_then}
use Rattle.rex_node.proofs.Grows.{rest_runs}
use Rattle.rex_log.proofs.Accepting.{from_kept}
use Rattle.rex_node.proofs.Leaving.{replayed_from, replayed_to, state_left}
use Rattle.rex_node.proofs.Recorded.{recorded_down, recorded_stuck}
use Rattle.rex_cluster.proofs.CallLaws.{IsQuiet, replies_quiet}
use Rattle.rex_cluster.proofs.Quiet.{elect_well}

-- no more proposals are past an instance than there are
pub above_most : (k : ℕ) (ps : List Kept) → above k ps ≤ length ps
above_most k [] = le_refl _
above_most k (p ∷ ps) = go (nat_lt k p.instance) (above_most k ps)
  where
    go : (t : Bool) → above k ps ≤ length ps → cond t (suc (above k ps)) (above k ps) ≤ suc (length ps)
    go true h = omega arith
    go false h = omega arith

module _ {K : Type 0} {records : K → List (List ℕ)} (gives : K → List ℕ → Answer → K → Type 0) (faults : K → ℕ) {service : Declarations} {past : List Value} {x : NodeValue K} (node : IsResting records service past x) (up : x.up ≡ true)
    {b : ℕ} (left : ballot_left x.id x.acceptor.promised ≡ Some b) (least : IsLeastAbove x.id x.acceptor.promised b) where
  u : IsUp service x (here_of records service past x)
  u = node.up up

  abbrev log : List (Rec Value StateValue)
  log = log_of service past (records x.keeper)

  abbrev sv : Service Value StateValue
  sv = service_of service x.seed

  abbrev whole : CallHere → CallHere
  whole = elect x.nodes sv x.id

  -- it asks for promises once its own is written
  abbrev asks : CallHere → CallHere
  asks e = send (say (effect.Candidate x.id b) (with_role (Leading (candidacy x.id b log)) e)) (others x.nodes x.id (Prepare b (suc (length (known log)))))

  -- what is left of the call then
  abbrev then_on : CallHere → CallHere
  then_on e = settle (enough (own_reports log)) x.nodes sv x.id (asks e)

  few_nodes : x.id < 16
  few_nodes = let most = node.id.1 in let nine = node.few in omega arith

  -- the ballot is the model's
  elect_is : (f : Option Failure) (d : CallHere) → d.node.log ≡ log → whole d ≡ stand x.nodes sv x.id b d
  elect_is f d e =
      let l = left_is _ few_nodes left in
      let promised : x.acceptor.promised ≡ promise d.node.log = u.promised ∙ ap promise (sym e) in
      ap (λ p. cond (nat_lt 4294967296 (round_of (ballot_above x.id p))) (say (effect.Spent x.id) d) (stand x.nodes sv x.id (ballot_above x.id p) d)) (sym promised)
      ∙ ap (λ t. cond t (say (effect.Spent x.id) d) (stand x.nodes sv x.id (ballot_above x.id x.acceptor.promised) d)) l.1
      ∙ ap (λ c. stand x.nodes sv x.id c d) (sym l.0)

  pub stand_own : IsOwnBallot x.nodes b
  stand_own = record { few = node.few; own = subst (IsOneOf x.nodes) (sym least.own) (record { first = node.id.0; last = node.id.1 }) }

  spelled : HasSpelling (kept.Promised b)
  spelled = record { in_range = least.is }

  module _ (before : Draft) where
    abbrev begun : CallHere
    begun = so_far records service past x before

    then_loses : LosesFirst then_on
    then_loses d = settle_loses _ x.nodes x.id _ (asks d)

    appends_is : (f : Option Failure) → whole (armed_with f begun) ≡ append f x.id (Promised b) (armed_with f begun) then_on
    appends_is f = elect_is f _ refl

    module _ (y : NodeValue K) (mid : Draft) where
      pub stand_down : Appends records faults gives x y before mid (record_bytes (kept.Promised b)) Down → Ends records gives faults service past whole x y before mid Down
      stand_down h = recorded_down gives faults y before mid node up spelled tt refl refl appends_is h

      module _ (h : Appends records faults gives x y before mid (record_bytes (kept.Promised b)) On) where
        pub stand_stuck : {z : NodeValue K} → z.keeper ≡ y.keeper → z.base ≡ y.base → IsStuck records gives faults service past whole x z before
        stand_stuck {z} keeper based = recorded_stuck gives faults y before mid node up spelled tt refl refl appends_is h then_loses keeper based

        abbrev z_at : NodeValue K
        z_at = record (standing x b) { keeper = y.keeper }

        log_is : log_of service past (records y.keeper) ≡ Promised b ∷ log
        log_is = appended_log records gives faults service past x y before mid spelled tt refl h

        promised_here : IsLogged service (record x { acceptor = promising x.acceptor b }) (Promised b ∷ log)
        promised_here = logged_promised (logged_of records service past x u) (ballot_fits least.is)

        z_logged : IsLogged service z_at (log_of service past (records y.keeper))
        z_logged = subst (IsLogged service z_at) (sym log_is) (logged_as refl promised_here)

        -- it reports what it accepted for the instances that it doesn't know
        reports_are : map proposal_in (candidate_of x b).reported ≡ own_reports log
        reports_are =
            from_kept (length x.known + 1) x.acceptor.accepted
            ∙ ap (from_on (length x.known + 1)) u.accepted
            ∙ ap (λ n. from_on n (accepted log)) (add-one (length x.known))
            ∙ ap (λ vs. from_on (suc (length vs)) (accepted log)) u.known

        lead_is : lead_of (promising x.acceptor b) (candidate_of x b) false ≡ candidacy x.id b log
        lead_is = ap (λ ps. record (candidacy x.id b log) { reported = ps }) reports_are

        lead_fits : LeadFits (length x.known) (candidacy x.id b log)
        lead_fits = record {
          ballot = ballot_fits least.is;
          reported = λ p i. accepted_fit log u.numbers.log p (in_from_on _ p _ i);
          next = λ p e. absurd (none p e);
        }
          where
            none : (p : Proposal Value) → None ≡ Some p → ⊥
            none p e = cc

        proposes : Proposes x.nodes x.id (promising x.acceptor b) (candidate_of x b)
        proposes = record {
          nodes_are = refl;
          own = least.own;
          ballot = let more = least.above in omega arith;
          once = record {
            own = stand_own;
            promises = counted_push x.nodes [] x.id (counted_none x.nodes) (record { first = node.id.0; last = node.id.1 }) refl;
            acceptances = counted_none x.nodes;
          };
          short = All-filter _ (λ q. IsValue q.value) x.acceptor.accepted u.short;
          counted = λ _. refl;
          open_one = tt;
        }

        z_beside : Beside records service past z_at
        z_beside =
            let o = beside_of records service past x u in
            record {
              based = replayed_from x.acting o.based;
              replayed = replayed_to x.acting o.based o.replayed;
              ahead = λ _. state_left (λ n s. run service (start_of service) (trace_of (take n x.known)) ≡ Some s) x.acting x.ahead u.start u.ahead;
              caught_up = λ t. absurd (false≢true t);
              proposer = proposes;
              acting = tt;
              stamped = tt;
              role = subst (LeadFits (length x.known)) (sym lead_is) lead_fits;
            }

        z_kept : IsKept records service past z_at
        z_kept = record { id = node.id; few = node.few; up = λ t. up_of records service past z_at z_logged z_beside; reached = node.reached; decoded = node.decoded }

        module _ {z : NodeValue K} (z_is : z ≡ standing y b) where
          all : z ≡ z_at
          all = z_is ∙ ap (λ n. standing n b) h.0.parts

          module _ {turns : ℕ} (turns_are : turns ≡ 2 * length (candidate_of y b).reported + 3) where
            turns_here : turns ≡ 2 * length (candidate_of x b).reported + 3
            turns_here = turns_are ∙ ap (λ n. 2 * length (candidate_of n b).reported + 3) h.0.parts

            module _ (after : Draft) (effects : after.effects.items ≡ mid.effects.items ++ effect.Candidate y.id b ∷ [])
                (sends : map (message_in past) after.sends.items ≡ map (message_in past) mid.sends.items ++ others y.nodes y.id (content_in past (sent.Prepare b (length y.known + 1)))) where
              enough_is : enough (own_reports log) ≡ turns
              enough_is = ap (λ ps. 2 * length ps + 3) (sym reports_are) ∙ ap (λ n. 2 * n + 3) (length-map (candidate_of x b).reported proposal_in) ∙ sym turns_here

              here_is : here_of records service past z_at ≡ (with_role (Leading (candidacy x.id b log)) (logged (Promised b) None begun)).node
              here_is =
                  ap (λ (n : Here). record n { role = Leading (lead_of (promising x.acceptor b) (candidate_of x b) false) })
                  (follower_here node up y.keeper {a = promising x.acceptor b} log_is refl
                  promised_here
                  (le_refl _) (λ n l. refl) (map (message_in past) before.sends.items) before.effects.items)
                  ∙ ap (λ (l : Lead Value). record (with_role Follower (logged (Promised b) None begun)).node { role = Leading l }) lead_is

              sends_here : map (message_in past) after.sends.items ≡ map (message_in past) before.sends.items ++ others x.nodes x.id (Prepare b (suc (length (known log))))
              sends_here =
                  sends
                  ∙ ap (λ n. map (message_in past) mid.sends.items ++ others n.nodes n.id (Prepare b (length n.known + 1))) h.0.parts
                  ∙ ap (λ ms. map (message_in past) ms ++ others x.nodes x.id (Prepare b (length x.known + 1))) h.2
                  ∙ ap (λ n. map (message_in past) before.sends.items ++ others x.nodes x.id (Prepare b n)) (add-one (length x.known) ∙ ap (λ vs. suc (length vs)) u.known)

              effects_here : after.effects.items ≡ before.effects.items ++ effect.Candidate x.id b ∷ []
              effects_here = effects ∙ ap (λ n. mid.effects.items ++ effect.Candidate n.id b ∷ []) h.0.parts ∙ ap (λ es. es ++ effect.Candidate x.id b ∷ []) h.1

              stands_as : so_far records service past z_at after ≡ asks (logged (Promised b) None begun)
              stands_as =
                  far records service past z_at after effects_here sends_here
                  ∙ ap (λ n. call_at n (map (message_in past) before.sends.items ++ others x.nodes x.id (Prepare b (suc (length (known log))))) (before.effects.items ++ effect.Candidate x.id b ∷ [])) here_is

              abbrev rest : CallHere → CallHere
              rest = settle turns x.nodes sv x.id

              stand_leads : Leads records gives faults service whole rest x.keeper z_at.keeper begun (so_far records service past z_at after)
              stand_leads =
                  leads_then (appended_leads records gives faults service past x y before mid spelled tt refl appends_is h)
                  (leads_same refl comes)
                where
                  comes : (f : Option Failure) → then_on (armed_with f (so_far records service past y mid)) ≡ rest (armed_with f (so_far records service past z_at after))
                  comes f =
                      ap (λ d. then_on (armed_with f d)) (appended_here records gives faults service past x y before mid spelled tt refl h)
                      ∙ ap (λ n. settle n x.nodes sv x.id (armed_with f (asks (logged (Promised b) None begun)))) enough_is
                      ∙ ap (λ d. rest (armed_with f d)) (sym stands_as)

              -- it may go on
              pub stand_may : RunsOn service whole begun → faults x.keeper < 2 ^ 64 - 1 → MaySettle records faults service past turns z after
              stand_may runs count =
                  subst (λ n. MaySettle records faults service past turns n after) (sym all)
                  (record {
                    kept = z_kept;
                    up = up;
                    free = (refl, λ t. absurd (false≢true t));
                    enough = omega (arith, above_most (length x.known) (candidate_of x b).reported, turns_here);
                    runs = rest_runs past x z_at before after stand_leads runs;
                    count = subst (λ n. n < 2 ^ 64 - 1) (sym h.0.faults) count;
                  })

              pub stand_short : (w : NodeValue K) (end : Result Going AllocError) → OnErr end (IsStuck records gives faults service past (settle turns z.nodes (service_of service z.seed) z.id) z w after) → OnErr end (IsStuck records gives faults service past whole x w before)
              stand_short w (Ok going) s = tt
              stand_short w (Err e) s =
                  inr (breaks_after z_at w after stand_leads (omega (arith, ap length h.0.records, length_push (records x.keeper) (record_bytes (kept.Promised b)))) (z_kept.up up).base
                  (settle_loses turns x.nodes x.id sv)
                  (subst (λ n. IsStuck records gives faults service past (settle turns n.nodes (service_of service n.seed) n.id) n w after) all s))

              pub stand_ends : (w : NodeValue K) (final : Draft) (end : Result Going AllocError) → IfOk end (Ends records gives faults service past (settle turns z.nodes (service_of service z.seed) z.id) z w after final)
                  → IfOk end (Ends records gives faults service past whole x w before final)
              stand_ends w final end e =
                  ends_if past x z_at w before after final end refl stand_leads
                  (subst (λ n. IfOk end (Ends records gives faults service past (settle turns n.nodes (service_of service n.seed) n.id) n w after final)) all e)

-- ---- the end of an election

up_when : (up : Bool) → if_up up None ≡ None → up ≡ true
up_when true e = refl
up_when false e = absurd (cc)

-- a ballot is left where the node takes one
module _ {K : Type 0} (records : K → List (List ℕ)) (gives : K → List ℕ → Answer → K → Type 0) (faults : K → ℕ) (service : Declarations) (past : List Value) (x y z : NodeValue K) (before : ℕ) (first draft : Draft) where
  abbrev elects : CallHere → CallHere
  elects = elect x.nodes (service_of service x.seed) x.id

  pub elected : {end : Result Going AllocError} {result : Result Step Refusal} → IsResting records service past x → if_up x.up None ≡ None → before ≡ length (records x.keeper) → first.effects.items ≡ [] → first.sends.items ≡ []
      → IfOk end (Ends records gives faults service past elects x y first draft) → OnErr end (IsStuck records gives faults service past elects x y first) → IsSame x y → Finishes records before draft end y z result
      → HasCome records gives faults service past elects x y z before first draft end result
  elected node up many effects sends ends stuck same finishes = record {
    node = node;
    up = up_when x.up up;
    many = many;
    effects = effects;
    sends = sends;
    ends = ends;
    stuck = stuck;
    same = same;
    finishes = finishes;
  }

  -- it doesn't tell that its node is down where no append fails
  pub elect_quiet : IsQuiet (elects (begin (here_of records service past x))).effects
  elect_quiet =
      (elect_well x.nodes (service_of service x.seed) x.id (replies_quiet service x.seed) (begin (here_of records service past x)) (record { armed = refl; quiet = λ id h. h })).quiet
