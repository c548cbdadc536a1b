-- A leader at rest leads its live events to agreement.
use Rattle.std.proofs.Common.{◌≡◌, ℕ, suc, ◌<◌, ◌≤◌, Bool, true, false, cond, List, [], ◌∷◌, ◌++◌, length, None, eqb, refl, sym, ◌∙◌, ap, subst, inl, arith, length-append}
use Rattle.std.specs.Prelude.{◌+◌, ◌||◌, max, Some, nat_le, nat_lt}
use Rattle.std.specs.List.{All}
use Rattle.std.proofs.lemmas.Bool.{and_parts, lt-leb, ne_eqb}
use Rattle.rex_ballot.specs.Limits.{most_nodes}
use Rattle.rex_syntax.specs.declared.request.Request.{Request}
use Rattle.rex_syntax.specs.declared.service.Declarations.{Declarations}
use Rattle.rex_syntax.specs.Service.{IsService}
use Rattle.rex_syntax.specs.Check.{IsChecked}
use Rattle.rex_event.specs.declared.event.Event.{Event}
use Rattle.rex_event.specs.Cuts.{below, beyond}
use Rattle.rex_cut.specs.Greatest.{greatest_cut}
use Rattle.rex_delta.specs.Spelling.{HasTypedKind}
use Rattle.rex_state.specs.Value.{StateValue}
use Rattle.rex_state.specs.Start.{start_of}
use Rattle.rex_state.specs.Machine.{run}
use Rattle.rex_state.specs.Counts.{counts_of}
use Rattle.rex_report.specs.declared.effect.Effect.TheVariants.{Proposes, Ended, Nothing}
use Rattle.rex_schedule.specs.Fits.{RequestFits, LineFits}
use Rattle.rex_schedule.specs.declared.scenario.ScheduleLine.{ScheduleLine}
use Rattle.rex_schedule.specs.declared.scenario.ScheduleLine.TheVariants.{Cut, Flush}
use Rattle.rex_cluster.specs.Records.{Proposal, proposal_of, placed, last_accepted, accepted, from_on, offset, known}
use Rattle.rex_cluster.specs.Records.Rec.{Accepted, Known}
use Rattle.rex_cluster.specs.Node.{Message}
use Rattle.rex_cluster.specs.Node.Content.{Accept, Accepted as Voted, Chosen as Chose}
use Rattle.rex_cluster.specs.Calls.{begin, say, others, propose, settle, has_last}
use Rattle.rex_cluster.specs.Values.{Value, events_of, trace_of, state_after, still_live, service_of}
use Rattle.rex_cluster.specs.Same.{same_events}
use Rattle.rex_cluster.specs.Lanes.{Here, CallHere, value_at, is_faithful, no_limits, cut, cut_live, propose_cut}
use Rattle.rex_cluster.specs.World.{World, row}
use Rattle.rex_safety.specs.Kept.{IsKept}
use Rattle.rex_safety.specs.Keeping.{AreCounts}
use Rattle.rex_cluster.specs.Takes.{after_doings}
use Rattle.rex_safety.proofs.Keeps.{row_kept}
use Rattle.rex_cluster.proofs.Replies.{run_split, state_is, trace_push}
use Rattle.rex_cluster.proofs.Sames.{events_are}
use Rattle.rex_safety.proofs.Spelled.{kept_faithful}
use Rattle.rex_steady.specs.Schedule.{agreement}
use Rattle.rex_steady.proofs.Phases.{Holds, each_other, each_none, Answered, tell, answer, call_first}
use Rattle.rex_steady.proofs.Shapes.{Log, lead_of, lead_role, lead_node, follow_node, accepts, accepts_sends, learns, learns_sends, known_node, Agreed, agreed_up, counts_on, proposes, proposes_sends}
use Rattle.rex_steady.proofs.Shapes.Agreed.{Waits, Knows}
use Rattle.rex_steady.proofs.Elections.{Rests}
use Rattle.rex_steady.proofs.Wholes.{AllBelow, all_below, whole, none_beyond, greatest_all}

-- ---- acceptances of an instance

module _ (b j : ℕ) where
  cons_last : (p : Proposal Value) (ps : List (Proposal Value)) → eqb p.instance j ≡ false → has_last b j ps ≡ false → has_last b j (p ∷ ps) ≡ false
  cons_last p ps e h = go (eqb p.ballot b)
    where
      go : (t : Bool) → cond t (eqb p.instance j || has_last b j ps) (has_last b j ps) ≡ false
      go true = ap (λ (s : Bool). s || has_last b j ps) e ∙ h
      go false = h

  tail_last : (p : Proposal Value) (ps : List (Proposal Value)) → has_last b j (p ∷ ps) ≡ false → has_last b j ps ≡ false
  tail_last p ps h = go (eqb p.ballot b) (eqb p.instance j) (has_last b j ps) h
    where
      go : (t s r : Bool) → cond t (s || r) r ≡ false → r ≡ false
      go true true r e = absurd (cc)
      go true false r e = e
      go false s r e = e

  with_last : (q : Proposal Value) (ps qs : List (Proposal Value)) → has_last b j (q ∷ ps) ≡ false → has_last b j qs ≡ false → has_last b j (q ∷ qs) ≡ false
  with_last q ps qs h k = go (eqb q.ballot b) (eqb q.instance j) (has_last b j ps) (has_last b j qs) h k
    where
      go : (t s r u : Bool) → cond t (s || r) r ≡ false → u ≡ false → cond t (s || u) u ≡ false
      go true true r u e f = absurd (cc)
      go true false r u e f = f
      go false s r u e f = f

  -- those from an instance on
  front_last : (first : ℕ) (ps : List (Proposal Value)) → has_last b j ps ≡ false → has_last b j (from_on first ps) ≡ false
  front_last first [] h = h
  front_last first (q ∷ qs) h = go (nat_le first q.instance) (front_last first qs (tail_last q qs h))
    where
      go : (t : Bool) → has_last b j (from_on first qs) ≡ false → has_last b j (cond t (q ∷ from_on first qs) (from_on first qs)) ≡ false
      go true ih = with_last q qs (from_on first qs) h ih
      go false ih = ih

  -- a proposal of another instance in its place
  placed_last : (p : Proposal Value) (ps : List (Proposal Value)) → eqb p.instance j ≡ false → has_last b j ps ≡ false → has_last b j (placed p ps) ≡ false
  placed_last p [] e h = cons_last p [] e h
  placed_last p (q ∷ qs) e h = go (eqb p.instance q.instance) (nat_lt p.instance q.instance) (placed_last p qs e (tail_last q qs h))
    where
      go : (t s : Bool) → has_last b j (placed p qs) ≡ false → has_last b j (cond t (p ∷ qs) (cond s (p ∷ q ∷ qs) (q ∷ placed p qs))) ≡ false
      go true s ih = cons_last p qs e (tail_last q qs h)
      go false true ih = cons_last p (q ∷ qs) e h
      go false false ih = with_last q qs (placed p qs) h ih

-- ---- the cut

-- a cut of all live events is proposed where it is faithful
cut_is : (service : Declarations) (seed n : ℕ) (log : Log) (counted : List ℕ) (counts : List ℕ) (x : Event) (xs : List Event) (dice : _) (replayed : ℕ)
    → nat_le 65535 (length (known log)) ≡ false → greatest_cut counts (x ∷ xs) ≡ counts → below counts (x ∷ xs) ≡ x ∷ xs → is_faithful service seed (known log) counts (x ∷ xs) ≡ true
    → cut service seed n 1 counts (begin (lead_node log (lead_role counted None [] true) (x ∷ xs) dice replayed)) ≡ propose_cut service seed n 1 counts (lead_of counted) (begin (lead_node log (lead_role counted None [] true) (x ∷ xs) dice replayed))
cut_is service seed n log counted counts x xs dice replayed room greatest all faithful =
    ap (λ (t : Bool). cond t (say Ended (begin (lead_node log (lead_role counted None [] true) (x ∷ xs) dice replayed))) (cut_live service seed n 1 (greatest_cut counts (x ∷ xs)) (lead_of counted) (below (greatest_cut counts (x ∷ xs)) (x ∷ xs)) (begin (lead_node log (lead_role counted None [] true) (x ∷ xs) dice replayed)))) room
    ∙ (ap (λ (c : List ℕ). cut_live service seed n 1 c (lead_of counted) (below c (x ∷ xs)) (begin (lead_node log (lead_role counted None [] true) (x ∷ xs) dice replayed))) greatest
    ∙ (ap (λ (es : List Event). cut_live service seed n 1 counts (lead_of counted) es (begin (lead_node log (lead_role counted None [] true) (x ∷ xs) dice replayed))) all
    ∙ ap (λ (t : Bool). cond t (propose_cut service seed n 1 counts (lead_of counted) (begin (lead_node log (lead_role counted None [] true) (x ∷ xs) dice replayed))) (say Nothing (begin (lead_node log (lead_role counted None [] true) (x ∷ xs) dice replayed)))) faithful))

-- ---- the agreement

module _ (service : Declarations) (requests : List Request) (seed n : ℕ) (some : 1 ≤ n) (few : n ≤ most_nodes) (good : IsService service) (checked : IsChecked service) (fit : All (RequestFits service) requests) where
  -- after the agreement the value of these live events is known, and they are its events
  pub record AgreesOn (values : List Value) (live : List Event) (s : StateValue) (w : World) : Type 0 where
    pub rests : Rests n (values ++ value_at (counts_of s) live ∷ []) [] (after_doings service requests seed n w agreement)
    pub kept : IsKept service seed n (after_doings service requests seed n w agreement)
    pub events : events_of (value_at (counts_of s) live) ≡ live

  module _ (values : List Value) (x : Event) (xs : List Event) (s : StateValue) (w : World) (h : Rests n values (x ∷ xs) w) (k : IsKept service seed n w) (room : length values < 65535)
      (runs : run service (start_of service) (trace_of values ++ (x ∷ xs)) ≡ Some s) (typed : All HasTypedKind (x ∷ xs)) where
    abbrev counts : List ℕ
    counts = counts_of s

    abbrev v : Value
    v = value_at (counts_of s) (x ∷ xs)

    abbrev i : ℕ
    i = suc (length (known h.log))

    abbrev leader : Here
    leader = lead_node h.log (lead_role h.counted None [] true) (x ∷ xs) h.dice (length values)

    long : length (known h.log) ≡ length values
    long = ap length h.knows

    -- ---- its cut is of all live events

    all : AllBelow (counts_of s) (x ∷ xs)
    all = let split = run_split service (start_of service) s (trace_of values) (x ∷ xs) runs in all_below service split.0 s (x ∷ xs) split.2

    counts_are : no_limits service leader ≡ counts_of s
    counts_are = ap (λ (vs : List Value). counts_of (state_after service (trace_of vs ++ (x ∷ xs)))) h.knows ∙ ap counts_of (state_is service (trace_of values ++ (x ∷ xs)) s runs)

    abbrev CutsFaithfully : Here → Type 0
    CutsFaithfully y =
        (cs : List ℕ) → AreCounts service y cs → 0 < length (below (greatest_cut cs y.work.live) y.work.live) → All HasTypedKind (below (greatest_cut cs y.work.live) y.work.live)
        → is_faithful service seed (known y.log) (greatest_cut cs y.work.live) y.work.live ≡ true

    faithfully : CutsFaithfully leader
    faithfully = subst CutsFaithfully h.holds.nodes.first (λ cs are. kept_faithful service good checked seed n w k 1 (lead_of h.counted) (ap (λ (y : Here). y.role) h.holds.nodes.first) refl cs are)

    faithful : is_faithful service seed (known h.log) (counts_of s) (x ∷ xs) ≡ true
    faithful =
        let g : greatest_cut (counts_of s) (x ∷ xs) ≡ counts_of s = greatest_all (counts_of s) (x ∷ xs) all in
        let b : below (greatest_cut (counts_of s) (x ∷ xs)) (x ∷ xs) ≡ x ∷ xs = ap (λ (c : List ℕ). below c (x ∷ xs)) g ∙ whole (counts_of s) (x ∷ xs) all in
        subst (λ (c : List ℕ). is_faithful service seed (known h.log) c (x ∷ xs) ≡ true) g
        (faithfully (counts_of s) (inl (sym counts_are)) (subst (λ (es : List Event). 0 < length es) (sym b) (omega arith)) (subst (All HasTypedKind) (sym b) typed))

    events : events_of v ≡ x ∷ xs
    events =
        events_are (events_of v) (below (counts_of s) (x ∷ xs)) (and_parts ((service_of service seed).fits (known h.log ++ v ∷ [])) (same_events (events_of v) (below (counts_of s) (x ∷ xs))) faithful).1
        ∙ whole (counts_of s) (x ∷ xs) all

    -- ---- after its value none is live

    state : state_after service (trace_of (known h.log ++ v ∷ [])) ≡ s
    state =
        ap (state_after service) (trace_push (known h.log) v ∙ (ap (λ (es : List Event). trace_of (known h.log) ++ es) events ∙ ap (λ (vs : List Value). trace_of vs ++ (x ∷ xs)) h.knows))
        ∙ state_is service (trace_of values ++ (x ∷ xs)) s runs

    none : still_live service (known h.log ++ v ∷ []) (x ∷ xs) ≡ []
    none = ap (λ (t : StateValue). beyond (counts_of t) (x ∷ xs)) state ∙ none_beyond (counts_of s) (x ∷ xs) all

    replayed : i ≡ length (values ++ v ∷ [])
    replayed = omega (arith, long, length-append values (v ∷ []))

    -- ---- the messages

    abbrev proposed : CallHere
    proposed = propose n 1 (Proposes 1 i (length (below (counts_of s) (x ∷ xs)))) (begin leader) (lead_of h.counted) i v (settle 3 n (service_of service seed) 1)

    cuts : cut service seed n 1 (no_limits service leader) (begin leader) ≡ proposed
    cuts =
        ap (λ (cs : List ℕ). cut service seed n 1 cs (begin leader)) counts_are
        ∙ cut_is service seed n h.log h.counted (counts_of s) x xs h.dice (length values) (lt-leb 65535 (length (known h.log)) (omega (arith, long, room)))
        (greatest_all (counts_of s) (x ∷ xs) all) (whole (counts_of s) (x ∷ xs) all) faithful

    abbrev first : World
    first = (row service requests seed n w (Cut 1)).world

    abbrev second : World
    second = (row service requests seed n first Flush).world

    abbrev third : World
    third = (row service requests seed n second Flush).world

    abbrev fourth : World
    fourth = (row service requests seed n third Flush).world

    asks : Holds n first proposed.node (follow_node h.follows) (others n 1 (Accept 17 i v))
    asks =
        subst (Holds n first proposed.node (follow_node h.follows)) (proposes_sends service seed n h.log i v h.counted (x ∷ xs) h.dice (length values) (Proposes 1 i (length (below (counts_of s) (x ∷ xs)))) some)
        (subst (λ (d : CallHere). Holds n first d.node (follow_node h.follows) d.sends) cuts
        (call_first n w leader (follow_node h.follows) (λ (d : CallHere). cut service seed n 1 (no_limits service d.node) d) (w.done + 1) some refl h.holds))

    new : has_last 17 i (accepted h.follows) ≡ false
    new = front_last 17 i (suc (offset h.follows)) (last_accepted h.follows) (h.fresh i (omega (arith, long)))

    held : nat_le i (offset h.follows) ≡ false
    held = lt-leb i (offset h.follows) (omega (arith, h.whole))

    asked : Holds n second proposed.node (follow_node (Accepted 17 i v ∷ h.follows)) (each_other n (λ q. record { from = q; to = 1; content = Voted 17 i } ∷ []))
    asked =
        tell service requests seed n proposed.node (follow_node h.follows) (follow_node (Accepted 17 i v ∷ h.follows)) (Accept 17 i v) (λ q. record { from = q; to = 1; content = Voted 17 i } ∷ []) refl
        (accepts service seed n h.follows i v h.promised held new) (accepts_sends service seed n h.follows i v h.promised held new) first some asks

    abbrev Deciding : ℕ → Here → List (Message Value) → Type 0
    Deciding = Agreed service seed n h.log i v h.counted (x ∷ xs) h.dice (length values)

    abbrev decided_node : Here
    decided_node = known_node service seed n h.log i v h.counted (x ∷ xs) h.dice (length values)

    decided : Holds n third decided_node (follow_node (Accepted 17 i v ∷ h.follows)) (others n 1 (Chose i v))
    decided =
        by (answer service requests seed n (follow_node (Accepted 17 i v ∷ h.follows)) (Voted 17 i) Deciding
        (agreed_up service seed n h.log i v h.counted (x ∷ xs) h.dice (length values))
        (counts_on service seed n h.log i v h.counted (x ∷ xs) h.dice (length values)) second proposed.node some asked
        (proposes service seed n h.log i v h.counted (x ∷ xs) h.dice (length values) (Proposes 1 i (length (below (counts_of s) (x ∷ xs)))) some))
      where
        go : (y : Here) (sends : List (Message Value)) → Deciding n y sends → Holds n third y (follow_node (Accepted 17 i v ∷ h.follows)) sends → Holds n third decided_node (follow_node (Accepted 17 i v ∷ h.follows)) (others n 1 (Chose i v))
        go y sends (Waits l e q) g = absurd (omega (arith, l, some))
        go y sends (Knows l e q) g =
            subst (λ (ms : List (Message Value)). Holds n third decided_node (follow_node (Accepted 17 i v ∷ h.follows)) ms) q
            (subst (λ (y : Here). Holds n third y (follow_node (Accepted 17 i v ∷ h.follows)) sends) e g)

        by : Answered service requests seed n (follow_node (Accepted 17 i v ∷ h.follows)) (Voted 17 i) Deciding
            (agreed_up service seed n h.log i v h.counted (x ∷ xs) h.dice (length values))
            (counts_on service seed n h.log i v h.counted (x ∷ xs) h.dice (length values)) third → Holds n third decided_node (follow_node (Accepted 17 i v ∷ h.follows)) (others n 1 (Chose i v))
        by a = go a.x a.sends a.leads a.holds

    same : i ≡ suc (length (known h.follows))
    same = ap (λ (vs : List Value). suc (length vs)) (h.knows ∙ sym h.told)

    learned : Holds n fourth decided_node (follow_node (Known i v ∷ Accepted 17 i v ∷ h.follows)) []
    learned =
        subst (Holds n fourth decided_node (follow_node (Known i v ∷ Accepted 17 i v ∷ h.follows))) (each_none n)
        (tell service requests seed n decided_node (follow_node (Accepted 17 i v ∷ h.follows)) (follow_node (Known i v ∷ Accepted 17 i v ∷ h.follows)) (Chose i v) (λ q. []) refl
        (learns service seed n (Accepted 17 i v ∷ h.follows) i v same) (learns_sends service seed n (Accepted 17 i v ∷ h.follows) i v same) third some decided)

    rests_again : Rests n (values ++ v ∷ []) [] fourth
    rests_again = record {
      counted = h.counted;
      log = Known i v ∷ Accepted 17 i v ∷ h.log;
      dice = h.dice;
      follows = Known i v ∷ Accepted 17 i v ∷ h.follows;
      holds =
          subst (λ (k : ℕ). Holds n fourth (lead_node (Known i v ∷ Accepted 17 i v ∷ h.log) (lead_role h.counted None [] true) [] h.dice k) (follow_node (Known i v ∷ Accepted 17 i v ∷ h.follows)) []) replayed
          (subst (λ (es : List Event). Holds n fourth (lead_node (Known i v ∷ Accepted 17 i v ∷ h.log) (lead_role h.counted None [] true) es h.dice i) (follow_node (Known i v ∷ Accepted 17 i v ∷ h.follows)) []) none learned);
      knows = ap (λ (vs : List Value). vs ++ v ∷ []) h.knows;
      told = ap (λ (vs : List Value). vs ++ v ∷ []) h.told;
      promised = ap (λ (p : ℕ). max 17 p) h.promised;
      whole = h.whole;
      fresh = λ j l.
          placed_last 17 j (proposal_of 17 i v) (last_accepted h.follows) (ne_eqb i j (λ e. omega (arith, e, l, replayed)))
          (h.fresh j (omega (arith, l, length-append values (v ∷ []))));
    }

    pub agrees : AgreesOn values (x ∷ xs) s w
    agrees = record {
      rests = rests_again;
      kept = kept third Flush tt (kept second Flush tt (kept first Flush tt (kept w (Cut 1) (omega arith, some) k)));
      events = events;
    }
      where
        kept : (u : World) (line : ScheduleLine) → LineFits n (length requests) service.lanes line → IsKept service seed n u → IsKept service seed n (row service requests seed n u line).world
        kept u line l k = row_kept service good checked requests fit seed n few u line l k
