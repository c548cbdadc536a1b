-- What a node can propose, and why it proposes nothing.
use Rattle.rex_node.proofs.Common.{◌≡◌, ℕ, ◌<◌, true, List, [], ◌∷◌, ◌++◌, length, Option, Some, None, Result, Ok, Err, refl, sym, ap, subst, ◌∙◌, arith, IfSome, Declarations, Event, below, greatest_cut, counts_of, known, Value, trace_of, state_after, limits_between, Piece, Refusal, RefusesThen, counts_for, refusal_of_none, counts_in, ActingValue, NodeValue, Executes, IsResting, IsUp, here_of, work_of}
use Rattle.rex_node.specs.declared.refusal.Refusal.TheVariants as why
use Rattle.rex_node.specs.Calls.{CanBeCut, CutIsSpelled}
use Rattle.rex_node.specs.Cutting.{CanMakePiece, MakesPiece, MakesPieceOf}
use Rattle.rex_node.proofs.Executing.{executes, live_state_is, start_is}

none_where_some : (es : List Event) → 0 < length es → refusal_of_none es ≡ None
none_where_some [] h = absurd (omega arith)
none_where_some (e ∷ es) h = refl

-- what is refused where there is no piece
refuses : (a : ActingValue) (cut : List ℕ) (result : Result Piece Refusal) → MakesPiece a cut result → RefusesThen None (refusal_of_none (below cut a.recorder.live)) result
refuses a cut (Ok p) h = none_where_some _ h.some
refuses a cut (Err why.Nothing) h = ap refusal_of_none h
refuses a cut (Err why.OutOfMemory) h = tt
refuses a cut (Err _) h = absurd h

module _ {K : Type 0} {records : K → List (List ℕ)} {service : Declarations} {past : List Value} {x : NodeValue K} (node : IsResting records service past x) (up : x.up ≡ true) where
  is_up : IsUp service x (here_of records service past x)
  is_up = node.up up

  abbrev knows : List Value
  knows = known (here_of records service past x).log

  -- the counts below which a cut is made are those of what is executed
  pub counts_are : {a : ActingValue} → x.acting ≡ Some a → (limits : Option (List ℕ)) → counts_for service (here_of records service past x) limits ≡ counts_in a limits
  counts_are {a} e limits = by limits
    where
      has : Executes service x.known a
      has = executes service x.known x.acceptor _ x.acting a is_up.acting e

      live : state_after service (trace_of knows ++ (work_of x.acting).live) ≡ a.recorder.state
      live = live_state_is has is_up.known e

      first : state_after service (trace_of knows) ≡ a.recorder.start
      first = ap (λ vs. state_after service (trace_of vs)) (sym is_up.known) ∙ start_is has

      by : (limits : Option (List ℕ)) → counts_for service (here_of records service past x) limits ≡ counts_in a limits
      by None = ap counts_of live
      by (Some limits) =
          ap (λ s. limits_between (counts_of s) (counts_of (state_after service (trace_of knows ++ (work_of x.acting).live))) limits) first
          ∙ ap (λ s. limits_between (counts_of a.recorder.start) (counts_of s) limits) live

  pub can_make : (limits : Option (List ℕ)) → CanBeCut (here_of records service past x) (counts_for service (here_of records service past x) limits) → IfSome x.acting (CanMakePiece limits)
  can_make limits h = by x.acting refl
    where
      P : List ℕ → List Event → Type 0
      P counts live = 0 < length (below (greatest_cut counts live) live) → CutIsSpelled live (greatest_cut counts live)

      by : (w : Option ActingValue) → x.acting ≡ w → IfSome w (CanMakePiece limits)
      by None e = tt
      by (Some a) e =
          subst (λ counts. P counts a.recorder.live) (counts_are e limits)
          (subst (λ w. P (counts_for service (here_of records service past x) limits) (work_of w).live) e h)

  pub refuses_node : (limits : Option (List ℕ)) (result : Result Piece Refusal) → MakesPieceOf x.acting limits result
      → RefusesThen None (refusal_of_none (below (greatest_cut (counts_for service (here_of records service past x) limits) (work_of x.acting).live) (work_of x.acting).live)) result
  refuses_node limits result h = by x.acting refl h
    where
      late : List ℕ → List Event → Option Refusal
      late counts live = refusal_of_none (below (greatest_cut counts live) live)

      by : (w : Option ActingValue) → x.acting ≡ w → MakesPieceOf w limits result → RefusesThen None (late (counts_for service (here_of records service past x) limits) (work_of x.acting).live) result
      by None e k = absurd k
      by (Some a) e k =
          subst (λ o. RefusesThen None o result)
          (sym (ap (λ w. late (counts_for service (here_of records service past x) limits) (work_of w).live) e ∙ ap (λ counts. late counts a.recorder.live) (counts_are e limits)))
          (refuses a _ result k)
