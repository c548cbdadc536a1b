-- Rounds in which each lane has a turn.
use Rattle.std.proofs.Common.{arith, ℤ, ◌≡◌, ℕ, ◌+◌, ◌<◌, pos, Bool, true, false, List, [], ◌∷◌, ◌++◌, length, fold, Option, None, Some, refl, sym, ◌∙◌, ap, subst, add-zero, below_more}
use Rattle.std.specs.Int.{int_max}
use Rattle.std.specs.List.{All}
use Rattle.std.proofs.lemmas.List.Elements.{All-nil, All-cons, All-append}
use Rattle.std.proofs.lemmas.List.Sums.{fold-append}
use Rattle.rex_report.specs.declared.effect.Effect.TheVariants.{NotActive}
use Rattle.rex_report.specs.declared.effect.Role.{Role as RoleName}
use Rattle.rex_report.specs.declared.effect.Role.TheVariants.{Active}
use Rattle.rex_syntax.specs.declared.service.Declarations.{Declarations}
use Rattle.rex_cluster.specs.Records.{Proposal}
use Rattle.rex_cluster.specs.Node.{Role, is_active, lead_name, role_name}
use Rattle.rex_cluster.specs.Node.Role.{Follower, Leads}
use Rattle.rex_cluster.specs.Calls.{begin}
use Rattle.rex_cluster.specs.Values.{Value}
use Rattle.rex_cluster.specs.Lanes.{Here, active_only, lane_turn}
use Rattle.rex_process.specs.Process.{ProcessValue, IsProcess, IsUpProcess, here}
use Rattle.rex_process.specs.Running.{HasRun, turn_of}
use Rattle.rex_process.specs.declared.running.Ran.TheVariants.{Made, Refused}
use Rattle.rex_process.specs.Going.{HasMade, HasRound, HasStopped, HasTurned, IsStill}

-- ---- what stays

-- what is still so of a process, and then of that one
pub still_then : {K : Type 0} → (records : K → List (List ℕ)) (faults : K → ℕ) (p q r : ProcessValue K) → IsStill records faults p q → IsStill records faults q r → IsStill records faults p r
still_then records faults p q r h k = record {
  process = k.process;
  up = k.up;
  same = record {
    service = k.same.service ∙ h.same.service;
    id = k.same.id ∙ h.same.id;
    nodes = k.same.nodes ∙ h.same.nodes;
    seed = k.same.seed ∙ h.same.seed;
  };
  clock = k.clock ∙ h.clock;
  keeper = k.keeper ∙ h.keeper;
  role = k.role ∙ h.role;
}

-- ---- turns

module _ {K : Type 0} (records : K → List (List ℕ)) (faults : K → ℕ) where
  -- a turn depends on nothing of the process but its service
  same_turn : (p q : ProcessValue K) → q.service ≡ p.service → (reads : ℕ) (x : Here) (lane : ℕ) → turn_of q reads x lane ≡ turn_of p reads x lane
  same_turn p q e reads x lane = ap (λ (s : Declarations). (active_only (is_active x.role) (begin x) (lane_turn s reads lane (begin x))).node) e

  -- nor do many
  same_turns : (p q : ProcessValue K) → q.service ≡ p.service → (reads : ℕ) (x : Here) (lanes : List ℕ) → fold (turn_of q reads) x lanes ≡ fold (turn_of p reads) x lanes
  same_turns p q e reads x lanes = ap (λ (s : Declarations). fold (λ (y : Here) (lane : ℕ). (active_only (is_active y.role) (begin y) (lane_turn s reads lane (begin y))).node) x lanes) e

  -- no lane had a turn
  pub none_turned : (p : ProcessValue K) → HasTurned records p p 0
  none_turned p = record {
    lanes = [];
    there = All-nil (λ (lane : ℕ). lane < p.service.lanes);
    turns = λ reads clock. refl;
    made = sym (add-zero (length (here records p).work.live));
  }

  -- turns, and then more turns
  turned_then : (p q r : ProcessValue K) (some more : ℕ) → IsStill records faults p q → HasTurned records p q some → HasTurned records q r more → HasTurned records p r (some + more)
  turned_then p q r some more still h k = record {
    lanes = h.lanes ++ k.lanes;
    there = All-append (λ (lane : ℕ). lane < p.service.lanes) h.lanes k.lanes h.there (subst (λ (s : Declarations). All (λ (lane : ℕ). lane < s.lanes) k.lanes) still.same.service k.there);
    turns = λ reads clock.
        k.turns reads (still.clock ∙ clock)
        ∙ same_turns p q still.same.service reads (here records q) k.lanes
        ∙ ap (λ (x : Here). fold (turn_of p reads) x k.lanes) (h.turns reads clock)
        ∙ sym (fold-append (turn_of p reads) (here records p) h.lanes k.lanes);
    made = k.made ∙ omega (arith, h.made);
  }

  -- the turn of one lane
  one_turned : (p q : ProcessValue K) (lane events : ℕ) → lane < p.service.lanes → HasMade records p q lane events → HasTurned records p q events
  one_turned p q lane events there h = record {
    lanes = lane ∷ [];
    there = All-cons (λ (l : ℕ). l < p.service.lanes) lane [] there (All-nil (λ (l : ℕ). l < p.service.lanes));
    turns = h.turned;
    made = h.made;
  }

  -- ---- rounds

  -- a round begins
  pub none_round : (p : ProcessValue K) → HasRound records p p 0 0
  none_round p = record { turned = none_turned p; idle = λ e. refl; rest = λ e reads clock lane lt. absurd (omega (arith, lt)) }

  -- one lane more has its turn in a round
  pub more_round : (p q r : ProcessValue K) (many some more : ℕ) → many < p.service.lanes → IsStill records faults p q → HasRound records p q many some → HasMade records q r many more → HasRound records p r (many + 1) (some + more)
  more_round p q r many some more there still h k = record {
    turned = turned_then p q r some more still h.turned (one_turned q r many more (subst (λ (s : Declarations). many < s.lanes) (sym still.same.service) there) k);
    idle = idle;
    rest = λ e reads clock. below_more (λ (lane : ℕ). turn_of p reads (here records p) lane ≡ here records p) many (h.rest (omega (arith, e)) reads clock) (last e reads clock);
  }
    where
      idle : some + more ≡ 0 → here records r ≡ here records p
      idle e = k.idle (omega (arith, e)) ∙ h.idle (omega (arith, e))

      last : some + more ≡ 0 → (reads : ℕ) → p.clock ≡ pos reads → turn_of p reads (here records p) many ≡ here records p
      last e reads clock =
          sym (same_turn p q still.same.service reads (here records p) many)
          ∙ ap (λ (x : Here). turn_of q reads x many) (sym (h.idle (omega (arith, e))))
          ∙ sym (k.turned reads (still.clock ∙ clock))
          ∙ idle e

  -- a round in which no event was made is the last one
  pub stopped : (p q r : ProcessValue K) (events : ℕ) → IsStill records faults p q → HasTurned records p q events → HasRound records q r q.service.lanes 0 → HasStopped records p r events
  stopped p q r events still h k = record {
    turned = record { lanes = h.lanes; there = h.there; turns = λ reads clock. k.idle refl ∙ h.turns reads clock; made = ap (λ (x : Here). length x.work.live) (k.idle refl) ∙ h.made };
    rest = λ reads clock lane there.
        sym (same_turn p q still.same.service reads (here records r) lane)
        ∙ ap (λ (x : Here). turn_of q reads x lane) (k.idle refl)
        ∙ k.rest refl reads (still.clock ∙ clock) lane (subst (λ (s : Declarations). lane < s.lanes) (sym still.same.service) there)
        ∙ sym (k.idle refl);
  }

  -- after another one there may be more
  pub round_then : (p q r : ProcessValue K) (some many more : ℕ) → IsStill records faults p q → HasTurned records p q some → HasRound records q r many more → HasTurned records p r (some + more)
  round_then p q r some many more still h k = turned_then p q r some more still h k.turned

  -- ---- the run

  module _ (first p : ProcessValue K) (clock : ℤ) (process : IsProcess records faults p) (up : p.node.up ≡ true) (raised : p ≡ record first { clock = int_max first.clock clock }) where
    -- what is kept of it while it is up
    is_up : IsUpProcess records faults p
    is_up = process.up up

    -- its clock is the greater one, and all else is as before
    clocks : p.clock ≡ int_max first.clock clock
    clocks = ap (λ (x : ProcessValue K). x.clock) raised

    service_is : p.service ≡ first.service
    service_is = ap (λ (x : ProcessValue K). x.service) raised

    here_is : here records p ≡ here records first
    here_is = ap (λ (x : ProcessValue K). here records x) raised

    -- all turns, from the process whose clock was raised, are those from the process before
    pub has_run : (q : ProcessValue K) (events : ℕ) → is_active (here records p).role ≡ true → IsStill records faults p q → HasStopped records p q events → HasRun records first q clock (Made events)
    has_run q events active still h = record {
      reads = is_up.reads;
      greatest = sym is_up.clock ∙ clocks;
      raised = still.clock ∙ clocks;
      came = record {
        active = ap (λ (x : Here). is_active x.role) (sym here_is) ∙ active;
        lanes = h.turned.lanes;
        there = subst (λ (s : Declarations). All (λ (lane : ℕ). lane < s.lanes) h.turned.lanes) service_is h.turned.there;
        turns =
            h.turned.turns is_up.reads is_up.clock
            ∙ same_turns first p service_is is_up.reads (here records p) h.turned.lanes
            ∙ ap (λ (x : Here). fold (turn_of first is_up.reads) x h.turned.lanes) here_is;
        made = h.turned.made ∙ ap (λ (x : Here). length x.work.live + events) here_is;
        rest = λ lane there.
            sym (same_turn first p service_is is_up.reads (here records q) lane)
            ∙ h.rest is_up.reads is_up.clock lane (subst (λ (s : Declarations). lane < s.lanes) (sym service_is) there);
      };
    }

    -- a node that isn't active has none
    pub has_none : (name : RoleName) → name ≡ role_name (here records p).role → HasRun records first p clock (Refused (NotActive name))
    has_none name e = record {
      reads = is_up.reads;
      greatest = sym is_up.clock ∙ clocks;
      raised = clocks;
      came = record { inactive = ap NotActive (e ∙ ap (λ (x : Here). role_name x.role) here_is); same = ap (λ (x : ProcessValue K). x.node) raised };
    }

-- a role that is called active is
pub active_is : (role : Role Value) → role_name role ≡ Active → is_active role ≡ true
active_is Follower e = cc
active_is (Leads l) e = by l.active l.proposal e
  where
    by : (t : Bool) (o : Option (Proposal Value)) → lead_name t o ≡ Active → t ≡ true
    by true o e = refl
    by false None e = cc
    by false (Some x) e = cc
