-- The definitions at work: small traces, with the causes that they come to.
use Rattle.std.proofs.Common.{◌≡◌, ℕ, ◌≤◌, Bool, true, ◌&&◌, List, [], ◌∷◌, length, refl, arith}
use Rattle.std.specs.Prelude.{nat_eq, nat_lt}
use Rattle.std.specs.List.{All}
use Rattle.std.proofs.lemmas.Bool.{and_parts, eqb-true, ltb-true}
use Rattle.std.proofs.lemmas.List.Elements.{All-nil, All-cons}
use Rattle.rex_event.specs.declared.event.Event.{Event}
use Rattle.rex_event.specs.declared.delta.Cause.{Cause}
use Rattle.rex_event.specs.Cuts.{count_at, counted, AreNumbered}
use Rattle.rex_event.specs.declared.event.TheConstants.{LANES}
use Rattle.rex_reduce.specs.Reduced.{IsTrace, HasNext}
use Rattle.rex_reduce.specs.Reduction.{reduced}
use Rattle.rex_reduce.specs.Traces.{in_turn, shared, tried, signalled, handed}

abbrev cause : ℕ → ℕ → Cause
cause lane index = record { lane = lane; index = index }

-- ---- they are traces

abbrev are_numbered : List ℕ → List Event → Bool
are_numbered counts [] = true
are_numbered counts (e ∷ es) = nat_lt e.lane (length counts) && (nat_eq e.index (count_at counts e.lane) && (nat_lt e.index 4294967295 && are_numbered (counted counts e) es))

numbered : (counts : List ℕ) (es : List Event) → are_numbered counts es ≡ true → AreNumbered counts es × All HasNext es
numbered counts [] h = (tt, All-nil HasNext)
numbered counts (e ∷ es) h =
    let a = and_parts _ _ h in
    let b = and_parts _ _ a.1 in
    let c = and_parts _ _ b.1 in
    let r = numbered (counted counts e) es c.1 in
    ((ltb-true _ _ a.0, eqb-true _ _ b.0, r.0), All-cons HasNext e es (record { index = ltb-true _ _ c.0 }) r.1)

trace : (bases : List ℕ) (es : List Event) → length bases ≤ LANES → are_numbered bases es ≡ true → IsTrace es × All HasNext es
trace bases es few h = let n = numbered bases es h in (record { bases = bases; few = few; numbered = n.0 }, n.1)

pub in_turn_numbered : AreNumbered (0 ∷ 0 ∷ 0 ∷ []) in_turn
in_turn_numbered = (numbered (0 ∷ 0 ∷ 0 ∷ []) in_turn refl).0

pub in_turn_trace : IsTrace in_turn × All HasNext in_turn
in_turn_trace = trace (0 ∷ 0 ∷ 0 ∷ []) in_turn (omega arith) refl

pub shared_trace : IsTrace shared × All HasNext shared
shared_trace = trace (0 ∷ 0 ∷ 0 ∷ []) shared (omega arith) refl

pub tried_trace : IsTrace tried × All HasNext tried
tried_trace = trace (0 ∷ 0 ∷ []) tried (omega arith) refl

pub signalled_trace : IsTrace signalled × All HasNext signalled
signalled_trace = trace (0 ∷ 0 ∷ []) signalled (omega arith) refl

pub handed_trace : IsTrace handed × All HasNext handed
handed_trace = trace (4 ∷ 7 ∷ []) handed (omega arith) refl

-- ---- causes

-- the third lane's acquire needs the second's release, which needs the first's
reduced_in_turn : reduced in_turn ≡ [] ∷ [] ∷ [] ∷ [] ∷ [] ∷ (cause 0 2 ∷ []) ∷ [] ∷ [] ∷ [] ∷ (cause 1 2 ∷ []) ∷ [] ∷ [] ∷ []
reduced_in_turn = refl

-- the readers have no edge between them, and the last one needs the writer's release
reduced_shared : reduced shared ≡ [] ∷ [] ∷ [] ∷ [] ∷ [] ∷ [] ∷ [] ∷ (cause 0 2 ∷ cause 1 2 ∷ []) ∷ [] ∷ (cause 2 2 ∷ []) ∷ []
reduced_shared = refl

-- a `try` that finds its lock held needs nothing
reduced_tried : reduced tried ≡ [] ∷ [] ∷ [] ∷ [] ∷ [] ∷ [] ∷ [] ∷ [] ∷ []
reduced_tried = refl

-- the wake needs the release, and through it the signal
reduced_signalled : reduced signalled ≡ [] ∷ [] ∷ [] ∷ [] ∷ (cause 0 2 ∷ []) ∷ [] ∷ [] ∷ (cause 1 3 ∷ []) ∷ []
reduced_signalled = refl

-- the acquire needs the release only through the reply before the begin
reduced_handed : reduced handed ≡ [] ∷ [] ∷ (cause 0 5 ∷ []) ∷ [] ∷ []
reduced_handed = refl
