-- Reduced causes are among any right ones.
use Rattle.std.proofs.Common.{◌≡◌, ◌≢◌, inl, inr, ⊎_elim, ℕ, ◌≤◌, List, [], ◌∷◌, ◌++◌, length, reverse, refl, sym, ◌∙◌, subst, arith}
use Rattle.std.specs.List.{All, AllZip}
use Rattle.std.proofs.lemmas.List.Elements.{All-nil, All-cons}
use Rattle.rex_event.specs.declared.event.Event.{Event}
use Rattle.rex_event.specs.declared.delta.Cause.{Cause}
use Rattle.rex_event.specs.Order.{Has, Precedes, Chain}
use Rattle.rex_event.specs.Cuts.{counted, AreNumbered}
use Rattle.rex_event.specs.Causes.{cause_of, HasCauses, IsCauseOf, StepsTo, AreRight}
use Rattle.rex_clocks.proofs.Numbered.{numbered_later}
use Rattle.rex_clocks.proofs.Past.{reverse_more}
use Rattle.rex_reduce.specs.Reduced.{AreAmong, RiseByLane}
use Rattle.rex_reduce.specs.Reduction.{reduced_causes, reduced_from}
use Rattle.rex_reduce.proofs.Beneath.{stands}
use Rattle.rex_event.specs.declared.event.TheConstants.{LANES}
use Rattle.rex_reduce.specs.Direct.{IsDirect}
use Rattle.rex_reduce.proofs.Direct.{cause_direct, causes_rising}

-- ---- what right causes say of an event with nothing between

direct_chain : (es : List Event) (others : List (List Cause)) (d : Event) (via : List Event) (e : Event) → AreRight es others → IsDirect es d e → d.lane ≢ e.lane → Chain (StepsTo es others) d via e → IsCauseOf es others d e
direct_chain es others d [] e r h o c =
    ⊎_elim (λ (s : Precedes d e es × (d.lane ≡ e.lane)). absurd (o s.1)) (λ (s : IsCauseOf es others d e). s) c
direct_chain es others d (y ∷ via) e r h o c = absurd (h.next y (r.sound d y ([], c.0)) (r.sound y e (via, c.1)))

direct_named : (es : List Event) (others : List (List Cause)) (d e : Event) → AreRight es others → IsDirect es d e → d.lane ≢ e.lane → IsCauseOf es others d e
direct_named es others d e r h o = let l = r.complete d e h.before in direct_chain es others d l.0 e r h o l.1

-- ---- an event has its causes once

has_event : (e : Event) (list : List Cause) (es : List Event) (causes : List (List Cause)) → HasCauses e list es causes → Has e es
has_event e list [] causes h = absurd h
has_event e list (y ∷ es) [] h = absurd h
has_event e list (y ∷ es) (c ∷ causes) (inl h) = inl h.0
has_event e list (y ∷ es) (c ∷ causes) (inr h) = inr (has_event e list es causes h)

not_again : (counts : List ℕ) (y : Event) (es : List Event) → AreNumbered counts (y ∷ es) → Has y es → ⊥
not_again counts y es n h = let l = numbered_later counts y es y n h refl in absurd (omega arith)

causes_once : (counts : List ℕ) (es : List Event) (causes : List (List Cause)) (e : Event) (list other : List Cause) → AreNumbered counts es → HasCauses e list es causes → HasCauses e other es causes → list ≡ other
causes_once counts [] causes e list other n h k = absurd h
causes_once counts (y ∷ es) [] e list other n h k = absurd h
causes_once counts (y ∷ es) (c ∷ causes) e list other n (inl h) (inl k) = sym h.1 ∙ k.1
causes_once counts (y ∷ es) (c ∷ causes) e list other n (inl h) (inr k) =
    absurd (not_again counts y es n (subst (λ (x : Event). Has x es) (sym h.0) (has_event e other es causes k)))
causes_once counts (y ∷ es) (c ∷ causes) e list other n (inr h) (inl k) =
    absurd (not_again counts y es n (subst (λ (x : Event). Has x es) (sym k.0) (has_event e list es causes h)))
causes_once counts (y ∷ es) (c ∷ causes) e list other n (inr h) (inr k) = causes_once (counted counts y) es causes e list other n.2 h k

-- ---- place by place

among_at : (bases : List ℕ) (es past rest : List Event) (others : List (List Cause)) (e : Event) (own : List Cause) → length bases ≤ LANES → AreNumbered bases es → es ≡ reverse past ++ e ∷ rest → AreRight es others → HasCauses e own es others → AreAmong (reduced_causes bases past e) own
among_at bases es past rest others e own few n q r h = record {
  each = λ c k.
      let f = cause_direct bases es past rest e c (stands bases es past rest e few n q) k in
      let i = direct_named es others f.event e r f.direct f.other in
      subst (λ (x : Cause). Has x own) f.is (subst (Has (cause_of f.event)) (causes_once bases es others e i.list own n i.is h) i.named);
}

among_from : (bases : List ℕ) (es : List Event) (others : List (List Cause)) (past ys : List Event) (rest : List (List Cause)) → length bases ≤ LANES → AreNumbered bases es → AreRight es others → es ≡ reverse past ++ ys → length rest ≡ length ys → ((e : Event) (list : List Cause) → HasCauses e list ys rest → HasCauses e list es others) → AllZip AreAmong (reduced_from bases past ys) rest
among_from bases es others past [] [] few n r q l h = tt
among_from bases es others past [] (o ∷ rest) few n r q l h = absurd (omega arith)
among_from bases es others past (y ∷ ys) [] few n r q l h = absurd (omega arith)
among_from bases es others past (y ∷ ys) (o ∷ rest) few n r q l h = (
  among_at bases es past ys others y o few n q r (h y o (inl (refl, refl))),
  among_from bases es others (y ∷ past) ys rest few n r (q ∙ sym (reverse_more y past ys)) (omega arith) (λ e list k. h e list (inr k)),
)

pub reduced_among : (bases : List ℕ) (es : List Event) (others : List (List Cause)) → length bases ≤ LANES → AreNumbered bases es → AreRight es others → AllZip AreAmong (reduced_from bases [] es) others
reduced_among bases es others few n r = among_from bases es others [] es others few n r refl r.long (λ e list k. k)

pub reduced_rising : (bases : List ℕ) (past es : List Event) → All RiseByLane (reduced_from bases past es)
reduced_rising bases past [] = All-nil RiseByLane
reduced_rising bases past (e ∷ es) =
    All-cons RiseByLane (reduced_causes bases past e) (reduced_from bases (e ∷ past) es) (record { rising = causes_rising bases past e }) (reduced_rising bases (e ∷ past) es)
