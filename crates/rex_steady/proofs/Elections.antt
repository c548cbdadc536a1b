-- What a leader and its followers are at rest, and that an election leads there.
use Rattle.std.proofs.Common.{◌≡◌, ℕ, zero, suc, ◌<◌, ◌≤◌, ◌⊎◌, inl, inr, true, false, cond, List, [], ◌∷◌, length, None, eqb, refl, subst, arith, eq-eqb}
use Rattle.std.specs.Prelude.{◌+◌, ◌-◌, replicate}
use Rattle.std.proofs.lemmas.Bool.{cases_eq, ne_eqb}
use Rattle.std.proofs.lemmas.List.{length-replicate}
use Rattle.rand_pcg.specs.Lcg.{Lcg}
use Rattle.rex_syntax.specs.declared.request.Request.{Request}
use Rattle.rex_syntax.specs.declared.service.Declarations.{Declarations}
use Rattle.rex_event.specs.declared.event.Event.{Event}
use Rattle.rex_state.specs.Value.{StateValue}
use Rattle.rex_schedule.specs.declared.scenario.ScheduleLine.TheVariants.{Elect, Flush}
use Rattle.rex_cluster.specs.Records.{promise, last_accepted, offset, known}
use Rattle.rex_cluster.specs.Records.Rec.{Promised}
use Rattle.rex_cluster.specs.Node.{Message, new_node, dice_of}
use Rattle.rex_cluster.specs.Node.Content.{Prepare, Promise}
use Rattle.rex_cluster.specs.Calls.{begin, others, elect, has_last}
use Rattle.rex_cluster.specs.Values.{Value, service_of}
use Rattle.rex_cluster.specs.Lanes.{Here}
use Rattle.rex_cluster.specs.World.{World, node_at, beginning, row}
use Rattle.rex_cluster.specs.Takes.{after_doings}
use Rattle.rex_steady.specs.Schedule.{election}
use Rattle.rex_steady.proofs.Phases.{Holds, each_other, Answered, tell, answer, call_first}
use Rattle.rex_steady.proofs.Shapes.{Log, lead_role, lead_node, follow_node, prepared, prepared_sends, Standing, Elected, elected_up, stands, stands_sends, hears_on, active_node}
use Rattle.rex_steady.proofs.Shapes.Standing.{Asks, Acts}

-- node 1 leads, knows these values, and has these live events; the others know the same, and follow its ballot; nothing waits
pub record Rests (n : ℕ) (values : List Value) (live : List Event) (w : World) : Type 0 where
  pub counted : List ℕ
  pub log : Log
  pub dice : Lcg
  pub follows : Log
  pub holds : Holds n w (lead_node log (lead_role counted None [] true) live dice (length values)) (follow_node follows) []
  pub knows : known log ≡ values
  pub told : known follows ≡ values
  pub promised : promise follows ≡ 17
  pub whole : offset follows ≡ 0
  pub fresh : (i : ℕ) → length values < i → has_last 17 i (last_accepted follows) ≡ false

new_at : (n q : ℕ) → 0 < q → q ≤ n → node_at {V = Value} {S = StateValue} (replicate n new_node) q ≡ new_node
new_at zero q l m = absurd (omega (arith, l, m))
new_at (suc n) q l m = go (cases_eq q 1) (new_at n (q - 1))
  where
    go : (q ≡ 1) ⊎ (q ≡ 1 → ⊥) → (0 < q - 1 → q - 1 ≤ n → node_at {V = Value} {S = StateValue} (replicate n new_node) (q - 1) ≡ new_node)
        → cond (eqb q 1) new_node (node_at {V = Value} {S = StateValue} (replicate n new_node) (q - 1)) ≡ new_node
    go (inl e) ih = rw (eq-eqb q 1 e) refl
    go (inr d) ih = rw (ne_eqb q 1 d) (ih (omega (arith, d, l)) (omega (arith, d, m)))

starts : (n : ℕ) → 1 ≤ n → Holds n (beginning n) new_node new_node []
starts n some = record {
  nodes = record { many = length-replicate n new_node; first = new_at n 1 (omega arith) some; others = λ q l m. new_at n q (omega (arith, l)) m };
  waits = record { old = []; messages = refl; handed = refl };
}

-- after the election node 1 leads, and knows nothing yet
pub elects : (service : Declarations) (requests : List Request) (seed n : ℕ) → 1 ≤ n → Rests n [] [] (after_doings service requests seed n (beginning n) election)
elects service requests seed n some = by (answer service requests seed n promised (Promise 17 []) (Elected service seed n) (elected_up service seed n) (hears_on service seed n) second stood some asked (stands service seed n some))
  where
    promised : Here
    promised = follow_node (Promised 17 ∷ [])

    stood : Here
    stood = (elect n (service_of service seed) 1 (begin new_node)).node

    first : World
    first = (row service requests seed n (beginning n) (Elect 1)).world

    second : World
    second = (row service requests seed n (row service requests seed n (beginning n) (Elect 1)).world Flush).world

    asks : Holds n (row service requests seed n (beginning n) (Elect 1)).world (elect n (service_of service seed) 1 (begin new_node)).node new_node (others n 1 (Prepare 17 1))
    asks =
        subst (Holds n (row service requests seed n (beginning n) (Elect 1)).world (elect n (service_of service seed) 1 (begin new_node)).node new_node) (stands_sends service seed n some)
        (call_first n (beginning n) new_node new_node (elect n (service_of service seed) 1) ((beginning n).done + 1) some refl (starts n some))

    asked : Holds n second stood promised (each_other n (λ q. record { from = q; to = 1; content = Promise 17 [] } ∷ []))
    asked =
        tell service requests seed n stood new_node promised (Prepare 17 1) (λ q. record { from = q; to = 1; content = Promise 17 [] } ∷ []) refl
        (prepared service seed n) (prepared_sends service seed n) first some asks

    by : Answered service requests seed n promised (Promise 17 []) (Elected service seed n) (elected_up service seed n) (hears_on service seed n) (row service requests seed n second Flush).world → Rests n [] [] (row service requests seed n second Flush).world
    by h = go h.leads.standing
      where
        go : Standing service seed n n h.x → Rests n [] [] (row service requests seed n second Flush).world
        go (Asks l e) = absurd (omega (arith, l, some))
        go (Acts l counted e) = record {
          counted = counted;
          log = Promised 17 ∷ [];
          dice = dice_of seed 17;
          follows = Promised 17 ∷ [];
          holds =
              subst (λ (ms : List (Message Value)). Holds n (row service requests seed n second Flush).world (active_node service seed n counted) promised ms) h.leads.quiet
              (subst (λ (x : Here). Holds n (row service requests seed n second Flush).world x promised h.sends) e h.holds);
          knows = refl;
          told = refl;
          promised = refl;
          whole = refl;
          fresh = λ i l. refl;
        }
