-- Values that are tested one after another.
use Rattle.std.proofs.Common.{◌≡◌, ℕ, ◌+◌, ◌<◌, true, false, pos, List, [], ◌∷◌, ◌++◌, length, get_or, take, refl, sym, ◌∙◌, ap}
use Rattle.std.specs.Prelude.{ℤ}
use Rattle.std.proofs.lemmas.List.{take_more}
use Rattle.std.proofs.lemmas.List.Sums.{fold_push}
use Rattle.rex_syntax.specs.declared.service.Declarations.{Declarations}
use Rattle.rex_state.specs.Start.{start_of}
use Rattle.rex_state.specs.Machine.{run}
use Rattle.rex_state.specs.Sound.{IsSound}
use Rattle.rex_state.proofs.Run.{run-then}
use Rattle.rex_cluster.specs.Values.{Value, events_of, trace_of, values_fit}
use Rattle.rex_cluster.proofs.Replies.{trace_push}
use Rattle.rex_processes.proofs.Testing.{next_fits_where}
use Rattle.rex_fits.specs.Applied.{AppliedValue, HasTaken, clock_after, fits_after, greatest_clock}
use Rattle.rex_process.specs.Starting.{AreApplied, IsFirstUnfit}

-- so many first values fit, and this is what they come to
pub record IsFar (service : Declarations) (values : List Value) (many : ℕ) (a : AppliedValue) : Type 0 where
  pub sound : IsSound service a.state
  pub applied : AreApplied service (take many values) a

-- no first value is none
take_none : (values : List Value) → take 0 values ≡ []
take_none [] = refl
take_none (v ∷ values) = refl

module _ (service : Declarations) (values : List Value) where
  module _ (many : ℕ) (a : AppliedValue) (far : IsFar service values many a) (v : Value) (there : many < length values) (is : v ≡ get_or values many v) where
    -- the next one comes behind those
    next_is : take (many + 1) values ≡ take many values ++ v ∷ []
    next_is = take_more values many v there ∙ ap (λ (x : Value). take many values ++ x ∷ []) (sym is)

    -- whether the values fit with the next one is whether that fits after the state
    fits_is : values_fit service (take (many + 1) values) ≡ fits_after service a.state v
    fits_is = ap (values_fit service) next_is ∙ next_fits_where service (take many values) v a.state far.applied.fit far.applied.runs

    -- with one value more
    pub far_more : (b : AppliedValue) → fits_after service a.state v ≡ true → HasTaken service a v b → IsSound service b.state → IsFar service values (many + 1) b
    far_more b good taken sound = record {
      sound = sound;
      applied = record {
        fit = fits_is ∙ good;
        runs =
            ap (λ (vs : List Value). run service (start_of service) (trace_of vs)) next_is
            ∙ ap (run service (start_of service)) (trace_push (take many values) v)
            ∙ run-then service (start_of service) a.state (trace_of (take many values)) (events_of v) far.applied.runs
            ∙ taken.runs;
        clock_is =
            taken.clock ∙ ap (λ (c : ℤ). greatest_clock c (events_of v)) far.applied.clock_is
            ∙ sym (ap (clock_after (pos 0)) next_is ∙ fold_push (λ (c : ℤ) (value : Value). greatest_clock c (events_of value)) (pos 0) (take many values) v);
      };
    }

    -- the next one doesn't fit
    pub unfit_next : fits_after service a.state v ≡ false → IsFirstUnfit service values (many + 1)
    unfit_next bad = record { before = many; numbered = refl; there = there; fit = far.applied.fit; unfit = fits_is ∙ bad }
