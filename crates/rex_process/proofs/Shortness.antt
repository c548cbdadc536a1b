-- No value that a node sends is too long, if none is that it accepted, knows, was reported or has open.
use Rattle.std.proofs.Common.{◌≡◌, ◌⊎◌, ◌&&◌, ◌||◌, ℕ, zero, suc, ◌≤◌, Bool, true, false, cond, List, [], ◌∷◌, ◌++◌, length, Option, Some, None, leb, eqb, inl, inr, refl, sym, subst, leb-true}
use Rattle.std.specs.Prelude.{take, ◌==◌, nat_lt, nat_le}
use Rattle.std.specs.List.{list_all}
use Rattle.std.proofs.lemmas.Option.{same_Some}
use Rattle.rex_syntax.specs.declared.service.Declarations.{Declarations}
use Rattle.rex_event.specs.declared.event.Event.{Event}
use Rattle.rex_event.specs.Cuts.{below}
use Rattle.rex_cut.specs.Greatest.{greatest_cut}
use Rattle.rex_report.specs.declared.effect.Effect.{Effect}
use Rattle.rex_report.specs.declared.effect.Effect.TheVariants as effect
use Rattle.rex_state.specs.Value.{StateValue}
use Rattle.rex_delta.specs.Reading.{delta_in}
use Rattle.rex_cluster.specs.Records.{Rec, Proposal, promise, accepted, from_on, offset, known}
use Rattle.rex_cluster.specs.Records.Rec.{Promised, Accepted, Known}
use Rattle.rex_cluster.specs.Quorum.{ballot_above, is_in, is_majority, round_of}
use Rattle.rex_cluster.specs.Node.{Service, Content, Message, Lead, Role, Failure, is_active}
use Rattle.rex_cluster.specs.Node.Failure.{After}
use Rattle.rex_cluster.specs.Node.Content.{Prepare, Promise, Accept, Accepted as Voted, Chosen as Chose, Nack, Ask, Snapshot}
use Rattle.rex_cluster.specs.Node.Role.{Follower, Leads}
use Rattle.rex_cluster.specs.Invariant.{IsIn}
use Rattle.rex_cluster.specs.Calls.{append, logged, send, others, answer, follow, propose, decide, best, choose, lead, turn, settle, enough, own_reports, stand, elect, on_prepare, heard, on_own_promise, on_promise, has_last, on_accept, voted, on_own_vote, on_voted, on_nack, on_ask, tell, receive}
use Rattle.rex_cluster.specs.Telling.{TellsNoState}
use Rattle.rex_cluster.specs.Values.{Value, greatest_value, is_byte, is_piece, may_be_value, runs, service_of, spells, trace_of, values_fit}
use Rattle.rex_cluster.specs.Lanes.{CallHere, active_only, cut, cut_lead, cut_live, cut_role, is_faithful, lane_turn, no_limits, submit_request, value_at}
use Rattle.rex_cluster.proofs.Calls.{if_good}
use Rattle.rex_cluster.proofs.Lists.{best_ok, BestOk, in_cases, in_from_on, in_right}
use Rattle.rex_processes.specs.Processes.{Task, call_for}
use Rattle.rex_processes.specs.Processes.Task.{Elect, Submit, Turn, Cut, Hear, Ask as AskOther, Replay, Save, Forget}
use Rattle.rex_process.specs.Sending.{AreShort, MayBeTold, TellsShort}

-- ---- values that fit

-- both of two tests hold
and_parts : (p q : Bool) → (p && q) ≡ true → (p ≡ true) × (q ≡ true)
and_parts true true e = (refl, refl)
and_parts true false e = absurd (cc)
and_parts false q e = absurd (cc)

-- what spells a delta isn't too long
spelled_short : (service : Declarations) (v : Value) → spells service v ≡ true → length v ≤ greatest_value
spelled_short service v h = leb-true (length v) 4194304 (and_parts (nat_le (length v) 4194304) (list_all is_byte v) (and_parts (may_be_value v) (is_piece service (delta_in v)) h).0).0

-- none of these is too long
abbrev pub ValuesShort : List Value → Type 0
ValuesShort vs = (v : Value) → IsIn v vs → length v ≤ greatest_value

-- nor is any of those that spell deltas, or that fit
all_short : (service : Declarations) (vs : List Value) → list_all (spells service) vs ≡ true → ValuesShort vs
all_short service [] h v i = absurd i
all_short service (w ∷ vs) h v (inl e) = subst (λ (u : Value). length u ≤ greatest_value) (sym e) (spelled_short service w (and_parts (spells service w) (list_all (spells service) vs) h).0)
all_short service (w ∷ vs) h v (inr i) = all_short service vs (and_parts (spells service w) (list_all (spells service) vs) h).1 v i

pub fitting_short : (service : Declarations) (vs : List Value) → values_fit service vs ≡ true → ValuesShort vs
fitting_short service vs h = all_short service vs (and_parts (list_all (spells service) vs) (runs service (trace_of vs)) h).0

-- ---- a call

-- no value is too long that was reported to a node that leads, or that it has open
pub record LeadShort (l : Lead Value) : Type 0 where
  pub reported : AreShort l.reported
  pub open_one : (p : Proposal Value) → l.proposal ≡ Some p → length p.value ≤ greatest_value

-- the same of any role
abbrev pub RoleShort : Role Value → Type 0
RoleShort Follower = Unit {0}
RoleShort (Leads l) = LeadShort l

-- no value is too long that it accepted, knows, was reported or has open
pub record HasShort (d : CallHere) : Type 0 where
  pub accepted_ones : AreShort (accepted d.node.log)
  pub known_ones : ValuesShort (known d.node.log)
  pub role : RoleShort d.node.role

-- nothing is open
none_open : (q : Proposal Value) → None ≡ Some q → length q.value ≤ greatest_value
none_open q x = absurd (cc)

module _ (service : Declarations) (seed n m : ℕ) where
  abbrev sv : Service Value StateValue
  sv = service_of service seed

  abbrev AllShort : List (Message Value) → Type 0
  AllShort xs = (x : Message Value) → IsIn x xs → TellsShort x.content

  -- no value is too long that is reported or open, or was sent so far
  pub record Shorts (d : CallHere) : Type 0 where
    pub role : RoleShort d.node.role
    pub sends : AllShort d.sends

  -- ---- what is sent

  -- of two lists of messages, of one answer, of the same to all others, of values that are told, and of as many as are told at once
  both : (xs ys : List (Message Value)) → AllShort xs → AllShort ys → AllShort (xs ++ ys)
  both xs ys p q x h = go (in_cases x xs ys h)
    where
      go : IsIn x xs ⊎ IsIn x ys → TellsShort x.content
      go (inl k) = p x k
      go (inr k) = q x k

  one : (to : ℕ) (c : Content Value) → TellsShort c → AllShort (answer m to c)
  one to c h x (inl e) = subst (λ (y : Message Value). TellsShort y.content) (sym e) h
  one to c h x (inr k) = absurd k

  to_others : (k : ℕ) (c : Content Value) → TellsShort c → AllShort (others k m c)
  to_others zero c h x i = absurd i
  to_others (suc k) c h x i = go (eqb (suc k) m) (to_others k c h) x i
    where
      go : (t : Bool) → AllShort (others k m c) → AllShort (cond t (others k m c) (others k m c ++ record { from = m; to = suc k; content = c } ∷ []))
      go true rest = rest
      go false rest = both (others k m c) (answer m (suc k) c) rest (one (suc k) c h)

  told : (to first i : ℕ) (vs : List Value) → ValuesShort vs → AllShort (tell m to first i vs)
  told to first i [] s x h = absurd h
  told to first i (v ∷ vs) s x h = go (leb first i) (told to first (suc i) vs (λ w k. s w (inr k))) x h
    where
      go : (t : Bool) → AllShort (tell m to first (suc i) vs) → AllShort (cond t (record { from = m; to = to; content = Chose i v } ∷ tell m to first (suc i) vs) (tell m to first (suc i) vs))
      go true rest x (inl e) = subst (λ (y : Message Value). TellsShort y.content) (sym e) (s v (inl refl))
      go true rest x (inr k) = rest x k
      go false rest x k = rest x k

  taken : (k : ℕ) (xs : List (Message Value)) → AllShort xs → AllShort (take k xs)
  taken zero [] h x y = absurd y
  taken zero (z ∷ zs) h x y = absurd y
  taken (suc k) [] h x y = absurd y
  taken (suc k) (z ∷ zs) h x (inl e) = h x (inl e)
  taken (suc k) (z ∷ zs) h x (inr y) = taken k zs (λ u i. h u (inr i)) x y

  sent : (d : CallHere) (to : ℕ) (c : Content Value) → TellsShort c → Shorts d → Shorts (send d (answer m to c))
  sent d to c h g = record { role = g.role; sends = both d.sends (answer m to c) g.sends (one to c h) }

  -- ---- a node that leads goes on

  -- a record is appended
  append_short : (a : Option Failure) (r : Rec Value StateValue) (d : CallHere) (k : CallHere → CallHere) → ((b : Option Failure) → Shorts (k (logged r b d))) → Shorts (append a m r d k)
  append_short None r d k c = c None
  append_short (Some (After (suc before) kept)) r d k c = c (Some (After before kept))
  append_short (Some (After zero true)) r d k c = record { role = tt; sends = λ x i. absurd i }
  append_short (Some (After zero false)) r d k c = record { role = tt; sends = λ x i. absurd i }

  -- a value is proposed, or known
  propose_short : (e : Effect) (d : CallHere) (l : Lead Value) (i : ℕ) (v : Value) (k : CallHere → CallHere) → Shorts d → LeadShort l → length v ≤ greatest_value → ((x : CallHere) → Shorts x → Shorts (k x)) → Shorts (propose n m e d l i v k)
  propose_short e d l i v k g s few c =
      append_short d.node.armed (Accepted l.ballot i v) d _
      (λ b. c _ (record {
        role = record { reported = s.reported; open_one = λ p x. subst (λ (q : Proposal Value). length q.value ≤ greatest_value) (same_Some _ _ x) few };
        sends = both d.sends (others n m (Accept l.ballot i v)) g.sends (to_others n (Accept l.ballot i v) few);
      }))

  decide_short : (d : CallHere) (l : Lead Value) (p : Proposal Value) (k : CallHere → CallHere) → Shorts d → LeadShort l → l.proposal ≡ Some p → ((x : CallHere) → Shorts x → Shorts (k x)) → Shorts (decide n sv m d l p.instance p.value k)
  decide_short d l p k g s e c =
      append_short d.node.armed (Known p.instance p.value) d _
      (λ b. c _ (record {
        role = record { reported = s.reported; open_one = none_open };
        sends = both d.sends (others n m (Chose p.instance p.value)) g.sends (to_others n (Chose p.instance p.value) (s.open_one p e));
      }))

  choose_short : (d : CallHere) (l : Lead Value) (i : ℕ) (o : Option (Proposal Value)) (k : CallHere → CallHere) → Shorts d → LeadShort l → BestOk i l.reported o → ((x : CallHere) → Shorts x → Shorts (k x)) → Shorts (choose n sv m d l i o k)
  choose_short d l i None k g s b c = record { role = record { reported = s.reported; open_one = none_open }; sends = g.sends }
  choose_short d l i (Some p) k g s b c = propose_short (effect.Adopts m i (sv.size p.value)) d l i p.value k g s (s.reported p b.0) c

  lead_short : (d : CallHere) (l : Lead Value) (o : Option (Proposal Value)) (k : CallHere → CallHere) → l.proposal ≡ o → Shorts d → LeadShort l → ((x : CallHere) → Shorts x → Shorts (k x)) → Shorts (lead n sv m d l o k)
  lead_short d l (Some p) k e g s c = if_good Shorts (is_majority n l.accepted_by) (λ _. decide_short d l p k g s e c) (λ _. g)
  lead_short d l None k e g s c =
      if_good Shorts l.active (λ _. g)
      (λ _. if_good Shorts (is_majority n l.counted)
      (λ _. choose_short d l (suc (length (known d.node.log))) (best (suc (length (known d.node.log))) l.reported) k g s (best_ok (suc (length (known d.node.log))) l.reported) c) (λ _. g))

  turn_short : (d : CallHere) (r : Role Value) (k : CallHere → CallHere) → Shorts d → RoleShort r → ((x : CallHere) → Shorts x → Shorts (k x)) → Shorts (turn n sv m d r k)
  turn_short d Follower k g s c = g
  turn_short d (Leads l) k g s c = lead_short d l l.proposal k refl g s c

  -- it goes on as far as it can
  settle_short : (f : ℕ) (d : CallHere) → Shorts d → Shorts (settle f n sv m d)
  settle_short zero d g = g
  settle_short (suc f) d g = turn_short d d.node.role (settle f n sv m) g g.role (settle_short f)

  -- ---- what it does

  module _ (d : CallHere) (has : HasShort d) (none : AllShort d.sends) where
    -- as it begins
    begun : Shorts d
    begun = record { role = has.role; sends = none }

    -- it asks to lead
    elect_short : Shorts (elect n sv m d)
    elect_short =
        if_good Shorts (nat_lt 4294967296 (round_of (ballot_above m (promise d.node.log)))) (λ _. record { role = has.role; sends = none })
        (λ _. stands (ballot_above m (promise d.node.log)))
      where
        stands : (b : ℕ) → Shorts (stand n sv m b d)
        stands b =
            append_short d.node.armed (Promised b) d _
            (λ a. settle_short (enough (own_reports d.node.log)) _ (record {
              role = record { reported = λ p i. has.accepted_ones p (in_from_on (suc (length (known d.node.log))) p (accepted d.node.log) i); open_one = none_open };
              sends = both d.sends (others n m (Prepare b (suc (length (known d.node.log))))) none (to_others n (Prepare b (suc (length (known d.node.log)))) tt);
            }))

    -- a cut is proposed only where it fits, and so isn't too long
    cut_short : (counts : List ℕ) → Shorts (cut service seed n m counts d)
    cut_short counts = by d.node.role has.role
      where
        fits : (v : Value) (t : Bool) → (values_fit service (known d.node.log ++ v ∷ []) && t) ≡ true → length v ≤ greatest_value
        fits v t e =
            fitting_short service (known d.node.log ++ v ∷ []) (and_parts (values_fit service (known d.node.log ++ v ∷ [])) t e).0 v (in_right v (known d.node.log) (v ∷ []) (inl refl))

        live : (c : List ℕ) (l : Lead Value) → LeadShort l → (es : List Event) → Shorts (cut_live service seed n m c l es d)
        live c l s [] = record { role = has.role; sends = none }
        live c l s (y ∷ ys) =
            if_good Shorts (is_faithful service seed (known d.node.log) c d.node.work.live)
            (λ e. propose_short _ d l (suc (length (known d.node.log))) (value_at c d.node.work.live) _ begun s (fits (value_at c d.node.work.live) _ e) (settle_short (enough l.reported)))
            (λ _. record { role = has.role; sends = none })

        leads : (l : Lead Value) → LeadShort l → (o : Option (Proposal Value)) → Shorts (cut_lead service seed n m counts l o d)
        leads l s (Some p) = record { role = has.role; sends = none }
        leads l s None =
            if_good Shorts (nat_le 65535 (length (known d.node.log))) (λ _. record { role = has.role; sends = none })
            (λ _. live (greatest_cut counts d.node.work.live) l s (below (greatest_cut counts d.node.work.live) d.node.work.live))

        active : (l : Lead Value) → LeadShort l → (t : Bool) → Shorts (active_only t d (cut_lead service seed n m counts l l.proposal d))
        active l s true = leads l s l.proposal
        active l s false = record { role = has.role; sends = none }

        by : (r : Role Value) → RoleShort r → Shorts (cut_role service seed n m counts r d)
        by Follower s = record { role = has.role; sends = none }
        by (Leads l) s = active l s l.active

    -- ---- messages

    prepare_short : (from b first : ℕ) → Shorts (on_prepare m from b first d)
    prepare_short from b first =
        if_good Shorts (nat_lt b (promise d.node.log)) (λ _. sent d from (Nack b (promise d.node.log)) tt begun)
        (λ _. if_good Shorts (nat_le first (offset d.node.log)) (λ _. sent d from (Snapshot _) tt begun)
        (λ _. if_good Shorts (nat_lt (promise d.node.log) b)
        (λ _. append_short d.node.armed (Promised b) d _
        (λ a. sent (follow m (effect.Promised m b ∷ []) (logged (Promised b) a d)) from (Promise b (from_on first (accepted (Promised b ∷ d.node.log)))) those (record { role = tt; sends = none })))
        (λ _. sent d from (Promise b (from_on first (accepted d.node.log))) those begun)))
      where
        those : AreShort (from_on first (accepted d.node.log))
        those p i = has.accepted_ones p (in_from_on first p (accepted d.node.log) i)

    promise_short : (from b : ℕ) (ps : List (Proposal Value)) → AreShort ps → (r : Role Value) → RoleShort r → Shorts (on_promise n sv m from b ps d r)
    promise_short from b ps s Follower k = record { role = has.role; sends = none }
    promise_short from b ps s (Leads l) k = if_good Shorts (l.ballot == b) (λ _. own l.proposal) (λ _. record { role = has.role; sends = none })
      where
        said : (p : Proposal Value) → IsIn p l.reported ⊎ IsIn p ps → length p.value ≤ greatest_value
        said p (inl x) = k.reported p x
        said p (inr x) = s p x

        counted : LeadShort (heard l from ps)
        counted = record { reported = λ p x. said p (in_cases p l.reported ps x); open_one = none_open }

        own : (o : Option (Proposal Value)) → Shorts (on_own_promise n sv m from ps d l o)
        own (Some p) = record { role = has.role; sends = none }
        own None =
            if_good Shorts l.active (λ _. record { role = has.role; sends = none }) (λ _. if_good Shorts (is_in from l.counted) (λ _. record { role = has.role; sends = none }) (λ _.
            if_good Shorts (is_majority n (heard l from ps).counted) (λ _. settle_short (enough (heard l from ps).reported) _ (record { role = counted; sends = none })) (λ _. record { role = counted; sends = none })))

    accept_short : (from b i : ℕ) (v : Value) → Shorts (on_accept m from b i v d)
    accept_short from b i v =
        if_good Shorts (nat_lt b (promise d.node.log)) (λ _. sent d from (Nack b (promise d.node.log)) tt begun)
        (λ _. if_good Shorts (nat_le i (offset d.node.log)) (λ _. sent d from (Snapshot _) tt begun)
        (λ _. if_good Shorts (has_last b i (accepted d.node.log)) (λ _. sent d from (Voted b i) tt begun)
        (λ _. append_short d.node.armed (Accepted b i v) d _
        (λ a. sent (follow m (effect.Accepted m b i ∷ []) (logged (Accepted b i v) a d)) from (Voted b i) tt (record { role = tt; sends = none })))))

    vote_short : (from b i : ℕ) (r : Role Value) → RoleShort r → Shorts (on_voted n sv m from b i d r)
    vote_short from b i Follower k = record { role = has.role; sends = none }
    vote_short from b i (Leads l) k = if_good Shorts (l.ballot == b) (λ _. own l.proposal refl) (λ _. record { role = has.role; sends = none })
      where
        counted : (p : Proposal Value) → l.proposal ≡ Some p → LeadShort (voted l from p)
        counted p e = record { reported = k.reported; open_one = λ q x. subst (λ (z : Proposal Value). length z.value ≤ greatest_value) (same_Some p q x) (k.open_one p e) }

        own : (o : Option (Proposal Value)) → l.proposal ≡ o → Shorts (on_own_vote n sv m from i d l o)
        own None e = record { role = has.role; sends = none }
        own (Some p) e =
            if_good Shorts (p.instance == i) (λ _. if_good Shorts (is_in from l.accepted_by) (λ _. record { role = has.role; sends = none }) (λ _.
            if_good Shorts (is_majority n (voted l from p).accepted_by) (λ _. settle_short (enough (voted l from p).reported) _ (record { role = counted p e; sends = none })) (λ _. record { role = counted p e; sends = none })))
            (λ _. record { role = has.role; sends = none })

    nack_short : (p : ℕ) (r : Role Value) → Shorts (on_nack m p d r)
    nack_short p Follower = record { role = has.role; sends = none }
    nack_short p (Leads l) = if_good Shorts (nat_lt l.ballot p) (λ _. record { role = tt; sends = none }) (λ _. record { role = has.role; sends = none })

    asked_short : (from first : ℕ) → Shorts (on_ask m from first d)
    asked_short from first =
        if_good Shorts (nat_le first (offset d.node.log)) (λ _. sent d from (Snapshot _) tt begun)
        (λ _. if_good Shorts (nat_lt (length (known d.node.log)) first) (λ _. record { role = has.role; sends = none })
        (λ _. record {
          role = has.role;
          sends = both d.sends (take 64 (tell m from first 1 (known d.node.log))) none (taken 64 (tell m from first 1 (known d.node.log)) (told from first 1 (known d.node.log) has.known_ones));
        }))

    receive_short : (from : ℕ) (c : Content Value) → TellsNoState c → TellsShort c → Shorts (receive n sv m from c d)
    receive_short from (Prepare b first) s k = prepare_short from b first
    receive_short from (Promise b ps) s k = promise_short from b ps k d.node.role has.role
    receive_short from (Accept b i v) s k = accept_short from b i v
    receive_short from (Voted b i) s k = vote_short from b i d.node.role has.role
    receive_short from (Chose i v) s k =
        if_good Shorts (i == suc (length (known d.node.log))) (λ _. append_short d.node.armed (Known i v) d _ (λ a. record { role = tt; sends = none })) (λ _. record { role = has.role; sends = none })
    receive_short from (Nack b p) s k = nack_short p d.node.role
    receive_short from (Ask first) s k = asked_short from first
    receive_short from (Snapshot values) s k = absurd s

    -- only where it is active
    idle_short : (t : Bool) (e : CallHere) → AllShort e.sends → AllShort (active_only t d e).sends
    idle_short true e k = k
    idle_short false e k = none

    -- what it replays it reports alone
    replay_short : (t : Bool) (e f : CallHere) → AllShort e.sends → AllShort f.sends → AllShort (cond t e f).sends
    replay_short true e f k l = k
    replay_short false e f k l = l

    -- whatever it may be told
    pub call_short : (task : Task) → MayBeTold n m task → AllShort (call_for service seed n m task d).sends
    call_short Elect a = elect_short.sends
    call_short (Submit r) a = idle_short (is_active d.node.role) (submit_request service (Some r) d) none
    call_short (Turn lane clock) a = idle_short (is_active d.node.role) (lane_turn service clock lane d) none
    call_short Cut a = (cut_short (no_limits service d.node)).sends
    call_short (Hear x) a = (receive_short x.from x.content a.stateless a.short).sends
    call_short (AskOther other) a = (sent d other (Ask (suc (length (known d.node.log)))) tt begun).sends
    call_short Replay a = replay_short (is_active d.node.role || d.node.replayed == length (known d.node.log)) _ _ none none
    call_short (Save version) a = absurd a
    call_short Forget a = absurd a
