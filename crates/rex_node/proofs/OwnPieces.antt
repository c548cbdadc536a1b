-- A node proposes the piece that it has made.
use Rattle.rex_node.proofs.Common.{◌≡◌, ℕ, suc, ◌+◌, ◌<◌, true, false, cond, List, [], ◌∷◌, ◌++◌, length, Option, Some, None, Result, Ok, Err, inl, inr, refl, sym, ap, subst, ◌∙◌, arith, IfSome, IfOk, OnErr, is_some, nat_le, option_map, false≢true, lt-leb, Declarations, IsService, Event, below, greatest_cut, ProposerValue, Answer, known, Lead, Failure, enough, propose, say, settle, Value, service_of, values_fit, CallHere, active_only, cut_lead, cut_live, cut_role, is_faithful, value_at, Going, Piece, Draft, armed_with, counts_for, BreaksOff, Ends, IsStuck, LeadsOn, so_far, FromLead, IsOwnCut, IsIdle, IsPieceOf, ProposesCut, ProposesCutShort, ProposesPiece, ProposesPieceShort, counts_in, cut_in, ActingValue, NodeValue, Executes, IsCutAt, IsResting, IsUp, Stands, here_of, lead_of, open_of, role_of, work_of}
use Rattle.std.specs.Prelude.{is_err}
use Rattle.rex_report.specs.declared.effect.Effect.TheVariants as effect
use Rattle.rex_cluster.specs.Lanes as lanes
use Rattle.rex_cluster.specs.Lanes.{propose_cut}
use Rattle.rex_node.specs.Cutting.{HasPiece, IsOwnPiece, cut_at, cut_before, with_cut}
use Rattle.rex_node.proofs.Continuing.{ends_then}
use Rattle.rex_node.proofs.Dues.{counts_are}
use Rattle.rex_node.proofs.Executing.{executes}
use Rattle.rex_node.proofs.GoingLemmas.{leads_same}
use Rattle.rex_node.proofs.Stuck.{breaks_as, breaks_kept, breaks_later, stands_back}
use Rattle.rex_node.proofs.Openings.{from_lead, lead_from}
use Rattle.rex_node.proofs.ProposedCuts.{idle_leads}
use Rattle.rex_node.proofs.Proposing.{piece_cut, piece_faithful, piece_fits}

add_one : {n : ℕ} → suc n ≡ n + 1
add_one = omega arith

-- what is executed, and the piece of it
own_piece : (w : Option ActingValue) (limits : Option (List ℕ)) {p : Piece} → IsOwnPiece w limits p → (a : ActingValue) × (w ≡ Some a) × IsPieceOf a (cut_in a limits) p
own_piece None limits h = absurd h
own_piece (Some a) limits h = (a, refl, h)

module _ {K : Type 0} {records : K → List (List ℕ)} {service : Declarations} {past : List Value} {x : NodeValue K} (node : IsResting records service past x) {p : Piece} (has : HasPiece service x p) where
  is_up : IsUp service x (here_of records service past x)
  is_up = node.up has.can.up

  -- what is executed
  abbrev one : (a : ActingValue) × (x.acting ≡ Some a) × IsPieceOf a (cut_in a has.limits) p
  one = own_piece x.acting _ has.can.piece

  runs : Executes service x.known one.0
  runs = executes service x.known x.acceptor _ x.acting one.0 is_up.acting one.1

  -- the value of the piece runs on after what is known
  pub own_fits : IsService service → {vs : List Value} {v : Value} → vs ≡ x.known → v ≡ p.value → values_fit service (vs ++ v ∷ []) ≡ true
  own_fits good {v} vs_are v_is =
      subst (λ ws. values_fit service (ws ++ v ∷ []) ≡ true) (sym vs_are)
      (subst (λ w. values_fit service (x.known ++ w ∷ []) ≡ true) (sym v_is) (piece_fits good runs is_up.fits _ has.many one.2))

  -- and it is the cut that the node proposed last, once that is the piece's
  pub own_cut : IsService service → {y : NodeValue K} {v : Value} → y ≡ with_cut x p.cut.counts → v ≡ p.value → IsOwnCut service y v
  own_cut good {v} y_is v_is =
      subst (λ z. IsOwnCut service z v) (sym y_is)
      (subst (λ w. IfSome (option_map (cut_at p.cut.counts) w) (λ a. IsCutAt service x.known a v)) (sym one.1)
      (subst (λ w. IsCutAt service x.known (cut_at p.cut.counts one.0) w) (sym v_is) (piece_cut good runs is_up.fits _ has.many one.2)))

  -- ---- the call

  module _ (gives : K → List ℕ → Answer → K → Type 0) (faults : K → ℕ) where
    abbrev cut : List ℕ
    cut = p.cut.counts

    abbrev at : NodeValue K
    at = with_cut x cut

    -- the model sees nothing of the cut that was proposed last
    here_with : (w : Option ActingValue) → here_of records service past (record x { acting = option_map (cut_at cut) w }) ≡ here_of records service past (record x { acting = w })
    here_with None = refl
    here_with (Some a) = refl

    draft_with : (before : Draft) → so_far records service past at before ≡ so_far records service past x before
    draft_with before = ap (λ h. record (so_far records service past x before) { node = h }) (here_with x.acting)

    active_same : (w : Option ActingValue) → is_some (option_map (cut_at cut) w) ≡ is_some w
    active_same None = refl
    active_same (Some a) = refl

    -- the call that proposes a value of so many events
    abbrev proposes : ℕ → Value → Lead Value → CallHere → CallHere
    proposes events v l d = propose x.nodes x.id (effect.Proposes x.id (length x.known + 1) events) d l (length x.known + 1) v (settle (enough l.reported) x.nodes (service_of service x.seed) x.id)

    -- it is the one that proposes the cut
    module _ (before : Draft) (l : Lead Value) (armed : Option Failure) where
      abbrev now : CallHere
      now = armed_with armed (so_far records service past x before)

      abbrev of_parts : ℕ → ℕ → Value → CallHere
      of_parts i events v = propose x.nodes x.id (effect.Proposes x.id i events) now l i v (settle (enough l.reported) x.nodes (service_of service x.seed) x.id)

      abbrev of_live : ℕ → List ℕ → List Event → CallHere
      of_live i c live = of_parts i (length (below c live)) (value_at c live)

      same_call : propose_cut service x.seed x.nodes x.id cut l now ≡ proposes p.events p.value l now
      same_call =
          ap (λ vs. of_live (suc (length vs)) cut (work_of x.acting).live) (sym is_up.known)
          ∙ ap (λ i. of_live i cut (work_of x.acting).live) (add_one)
          ∙ ap (λ w. of_live (length x.known + 1) cut (work_of w).live) one.1
          ∙ ap (λ c. of_live (length x.known + 1) c one.0.recorder.live) one.2.cut_is
          ∙ ap (λ e. of_parts (length x.known + 1) e (value_at (cut_in one.0 has.limits) one.0.recorder.live)) (sym one.2.events)
          ∙ ap (λ v. of_parts (length x.known + 1) p.events v) (sym one.2.value)

    module _ (y : NodeValue K) (before after : Draft) where
      abbrev EndsBy : (CallHere → CallHere) → NodeValue K → Going → Type 0
      EndsBy whole z going = Ends records gives faults service past whole z y before after going

      -- a call of the node with this cut is one of the node
      to_proposes : (l : Lead Value) → LeadsOn records gives faults service (propose_cut service x.seed x.nodes x.id cut l) (proposes p.events p.value l) x.keeper at.keeper (so_far records service past x before) (so_far records service past at before)
      to_proposes l = leads_same refl (λ f. same_call before l f ∙ ap (λ d. proposes p.events p.value l (armed_with f d)) (sym (draft_with before)))

      pub piece_ends : {mid : NodeValue K} → mid ≡ with_cut x p.cut.counts → {value : Value} → value ≡ p.value → (going : Going)
          → ProposesCut records gives faults service past p.events value mid y before after going → ProposesPiece records gives faults service past p.cut.counts x y before after going
      piece_ends {mid} mid_is value_is going h =
          from_lead x (λ l. EndsBy (propose_cut service x.seed x.nodes x.id cut l) x going)
          (λ q leads. ends_then x at before before after going refl (to_proposes (lead_of x.acceptor q (is_some x.acting)))
          (subst (λ t. EndsBy (proposes p.events p.value (lead_of x.acceptor q t)) at going) (active_same x.acting)
          (lead_from at (λ l. EndsBy (proposes p.events p.value l) at going) q leads h_at)))
        where
          h_at : ProposesCut records gives faults service past p.events p.value at y before after going
          h_at =
              subst (λ z. ProposesCut records gives faults service past p.events p.value z y before after going) mid_is
              (subst (λ v. ProposesCut records gives faults service past p.events v mid y before after going) value_is h)

      -- ---- memory was short, and the cut that was proposed last is the one before

      cut_back : (w : Option ActingValue) → option_map (cut_at (cut_before w cut)) (option_map (cut_at cut) w) ≡ w
      cut_back None = refl
      cut_back (Some a) = refl

      short_back : {mid z : NodeValue K} → mid ≡ with_cut x cut → {counts : List ℕ} → counts ≡ cut_before x.acting cut → z ≡ with_cut y counts → Stands records faults gives mid y → Stands records faults gives x z
      short_back {mid} {z} mid_is {counts} counts_are z_is s =
          stands_back (ap (λ n. n.keeper) mid_is)
          (z_is
          ∙ ap (λ n. with_cut n counts) s.parts
          ∙ ap (λ n. with_cut (record n { keeper = y.keeper }) counts) mid_is
          ∙ ap (λ c. with_cut (record (with_cut x cut) { keeper = y.keeper }) c) counts_are
          ∙ ap (λ w. record x { keeper = y.keeper; acting = w }) (cut_back x.acting))
          s

      abbrev BreaksBy : (CallHere → CallHere) → NodeValue K → Type 0
      BreaksBy whole z = BreaksOff records gives faults service past whole z y before

      abbrev ProposesAt : ℕ → Value → NodeValue K → Type 0
      ProposesAt events v n =
          FromLead n (λ l. BreaksOff records gives faults service past (λ d. propose n.nodes n.id (effect.Proposes n.id (length n.known + 1) events) d l (length n.known + 1) v (settle (enough l.reported) n.nodes (service_of service n.seed) n.id)) n y before)

      pub piece_short : {mid z : NodeValue K} → mid ≡ with_cut x p.cut.counts → {value : Value} → value ≡ p.value → {counts : List ℕ} → counts ≡ cut_before x.acting p.cut.counts → z ≡ with_cut y counts
          → ProposesCutShort records gives faults service past p.events value mid y before → ProposesPieceShort records gives faults service past p.cut.counts x z before
      piece_short {mid} {z} mid_is value_is {counts} counts_are z_is (inl s) = inl (short_back mid_is counts_are z_is s)
      piece_short {mid} {z} mid_is value_is counts_are z_is (inr b) =
          inr (from_lead x (λ l. BreaksOff records gives faults service past (propose_cut service x.seed x.nodes x.id cut l) x z before)
          (λ q leads. breaks_kept (ap (λ n. n.keeper) z_is) (ap (λ n. n.base) z_is)
          (breaks_later at y before (to_proposes (lead_of x.acceptor q (is_some x.acting)))
          (subst (λ t. BreaksBy (proposes p.events p.value (lead_of x.acceptor q t)) at) (active_same x.acting)
          (lead_from at (λ l. BreaksBy (proposes p.events p.value l) at) q leads b_at)))))
        where
          b_at : ProposesAt p.events p.value at
          b_at = subst (λ n. ProposesAt p.events p.value n) mid_is (subst (λ v. ProposesAt p.events v mid) value_is b)

-- a result that is an error says nothing
pub if_error : {A E : Type 0} (P : A → Type 0) (r : Result A E) → is_err r ≡ true → IfOk r P
if_error P (Ok x) e = absurd (false≢true e)
if_error P (Err e) h = tt

-- one that is none says nothing of errors
pub on_ok : {A E : Type 0} (P : Type 0) (r : Result A E) → is_err r ≡ false → OnErr r P
on_ok P (Ok x) e = tt
on_ok P (Err a) e = absurd (false≢true (sym e))

pub if_then : {A E : Type 0} (P Q : A → Type 0) (r : Result A E) → ((x : A) → P x → Q x) → IfOk r P → IfOk r Q
if_then P Q (Ok x) f h = f x h
if_then P Q (Err e) f h = tt

-- ---- the whole call

module _ {K : Type 0} (records : K → List (List ℕ)) (service : Declarations) (past : List Value) (x : NodeValue K) (node : IsResting records service past x) (p : Piece) (has : HasPiece service x p) (good : IsService service) (q : ProposerValue) (leads : x.proposer ≡ Some q) (first : Draft) (armed : Option Failure) where
  up_now : IsUp service x (here_of records service past x)
  up_now = is_up node has

  abbrev has_one : (a : ActingValue) × (x.acting ≡ Some a) × IsPieceOf a (cut_in a has.limits) p
  has_one = one node has

  abbrev a : ActingValue
  a = has_one.0

  abbrev counts : List ℕ
  counts = counts_for service (here_of records service past x) has.limits

  abbrev d : CallHere
  d = armed_with armed (so_far records service past x first)

  abbrev l : Lead Value
  l = lead_of x.acceptor q (is_some x.acting)

  abbrev live : List Event
  live = (work_of x.acting).live

  counts_of_it : counts ≡ counts_in a has.limits
  counts_of_it = counts_are node has.can.up has_one.1 _

  -- what is computed from the node's counts and live events is computed from what it executes
  there : {T : Type 0} (f : List ℕ → List Event → T) → f counts live ≡ f (counts_in a has.limits) a.recorder.live
  there f = ap (λ w. f counts (work_of w).live) has_one.1 ∙ ap (λ cs. f cs a.recorder.live) counts_of_it

  faithful : is_faithful service x.seed (known d.node.log) (greatest_cut counts live) live ≡ true
  faithful =
      ap (λ vs. is_faithful service x.seed vs (greatest_cut counts live) live) (sym up_now.known)
      ∙ there (λ cs es. is_faithful service x.seed x.known (greatest_cut cs es) es)
      ∙ piece_faithful good (executes service x.known x.acceptor _ x.acting a up_now.acting has_one.1) up_now.fits _ has.many has_one.2 x.seed

  some : 0 < length (below (greatest_cut counts live) live)
  some = subst (λ n. 0 < n) (sym (there (λ cs es. length (below (greatest_cut cs es) es)))) has_one.2.some

  idle : open_of x.acceptor q.open_instance ≡ None
  idle = subst (IsIdle x.acceptor) leads has.can.idle

  left : nat_le 65535 (length (known d.node.log)) ≡ false
  left = lt-leb 65535 (length (known d.node.log)) (subst (λ vs. length vs < 65535) up_now.known has.can.left)

  proposes_some : (es : List Event) → 0 < length es → cut_live service x.seed x.nodes x.id (greatest_cut counts live) l es d ≡ propose_cut service x.seed x.nodes x.id (greatest_cut counts live) l d
  proposes_some [] h = absurd (omega arith)
  proposes_some (e ∷ es) h = ap (λ t. cond t (propose_cut service x.seed x.nodes x.id (greatest_cut counts live) l d) (say effect.Nothing d)) faithful

  -- the call of a cut proposes the piece
  pub cuts_piece : lanes.cut service x.seed x.nodes x.id counts d ≡ propose_cut service x.seed x.nodes x.id p.cut.counts l d
  cuts_piece =
      ap (λ o. cut_role service x.seed x.nodes x.id counts (role_of x.acceptor o (is_some x.acting)) d) leads
      ∙ ap (λ w. active_only (is_some w) d (cut_lead service x.seed x.nodes x.id counts l l.proposal d)) has_one.1
      ∙ ap (λ o. cut_lead service x.seed x.nodes x.id counts l o d) idle
      ∙ ap (λ t. cond t (say effect.Ended d) (cut_live service x.seed x.nodes x.id (greatest_cut counts live) l (below (greatest_cut counts live) live) d)) left
      ∙ proposes_some _ some
      ∙ ap (λ c. propose_cut service x.seed x.nodes x.id c l d) (there greatest_cut ∙ sym has_one.2.cut_is)

module _ {K : Type 0} (records : K → List (List ℕ)) (gives : K → List ℕ → Answer → K → Type 0) (faults : K → ℕ) (service : Declarations) (past : List Value) where
  -- a cut ends as its piece is proposed
  pub cut_ends : {x : NodeValue K} (node : IsResting records service past x) (p : Piece) (has : HasPiece service x p) → IsService service → {y : NodeValue K} (first draft : Draft) (going : Going)
      → ProposesPiece records gives faults service past p.cut.counts x y first draft going
      → Ends records gives faults service past (lanes.cut service x.seed x.nodes x.id (counts_for service (here_of records service past x) has.limits)) x y first draft going
  cut_ends {x} node p has good {y} first draft going h =
      let o = idle_leads x.acceptor _ has.can.idle in
      ends_then x x first first draft going refl
      (leads_same refl (λ f. cuts_piece records service past x node p has good o.0 o.1 first f))
      (lead_from x (λ l. Ends records gives faults service past (propose_cut service x.seed x.nodes x.id p.cut.counts l) x y first draft going) o.0 o.1 h)

  pub cut_short : {x : NodeValue K} (node : IsResting records service past x) (p : Piece) (has : HasPiece service x p) → IsService service → {y : NodeValue K} {first : Draft}
      → ProposesPieceShort records gives faults service past p.cut.counts x y first
      → IsStuck records gives faults service past (lanes.cut service x.seed x.nodes x.id (counts_for service (here_of records service past x) has.limits)) x y first
  cut_short node p has good (inl s) = inl s
  cut_short {x} node p has good {y} {first} (inr b) =
      let o = idle_leads x.acceptor _ has.can.idle in
      inr (breaks_as
      (λ f. cuts_piece records service past x node p has good o.0 o.1 first f)
      (lead_from x (λ l. BreaksOff records gives faults service past (propose_cut service x.seed x.nodes x.id p.cut.counts l) x y first) o.0 o.1 b))
