-- A delta that has a spelling: its events are a trace, each leaves room for the next one, and its bytes are a value.
use Rattle.std.proofs.Common.{◌≡◌, ℕ, ◌+◌, ◌^◌, ◌<◌, true, List, [], ◌∷◌, length, refl, sym, ap, subst, ◌∙◌, arith, le-leb}
use Rattle.std.specs.Prelude.{ℤ, Bool, false, Some, None, Result, Ok, if◌then◌else◌, ◌&&◌}
use Rattle.std.specs.List.{All}
use Rattle.std.proofs.lemmas.Bool.{and_from}
use Rattle.std.proofs.lemmas.List.Elements.{All-weaker}
use Rattle.rex_syntax.specs.declared.service.Declarations.{Declarations}
use Rattle.rex_event.specs.declared.event.Event.{Event}
use Rattle.rex_event.specs.declared.delta.Cause.{Cause}
use Rattle.rex_event.specs.declared.delta.Delta.{Delta}
use Rattle.rex_event.specs.Cuts.{AreNumbered, counted}
use Rattle.rex_delta.specs.Spelling.{EventsFit, HasSpelling, delta_bytes}
use Rattle.rex_delta.specs.Reading.{delta_in}
use Rattle.rex_reduce.specs.Reduced.{HasNext, IsTrace}
use Rattle.rex_state.specs.Value.{StateValue}
use Rattle.rex_state.specs.Machine.{run}
use Rattle.rex_cluster.specs.Values.{Value, events_of, is_piece, may_be_value, read_delta, spells}
use Rattle.rex_cluster.proofs.Bytes.{delta_bytes_are}
use Rattle.rex_cluster.proofs.Spelled.{spelled_counted}
use Rattle.rex_fits.specs.Applied.{AppliedValue, HasTaken, greatest_clock, spelled_events}

-- ---- its events

numbered_of : (bases counts : List ℕ) (es : List Event) (lists : List (List Cause)) → EventsFit bases counts es lists → AreNumbered counts es
numbered_of bases counts [] lists h = tt
numbered_of bases counts (e ∷ es) [] h = absurd h
numbered_of bases counts (e ∷ es) (causes ∷ lists) h = (h.0.lane, h.0.index, numbered_of bases (counted counts e) es lists h.1)

pub trace_of_delta : (d : Delta) → HasSpelling d → IsTrace d.events
trace_of_delta d h = record { bases = d.bases; few = h.delta.lanes.1; numbered = numbered_of d.bases d.bases d.events d.causes h.delta.events }

pub room_of_delta : (d : Delta) → HasSpelling d → All HasNext d.events
room_of_delta d h = All-weaker (λ (e : Event). e.index + 1 < 2 ^ 32) HasNext (λ e k. record { index = omega (arith, k) }) d.events (spelled_counted h).each

-- ---- its bytes

-- a value that spells it spells a delta of the service where it is one
pub delta_spells : (service : Declarations) (value : Value) (d : Delta) → HasSpelling d → value ≡ delta_bytes d → delta_in value ≡ Ok d → spells service value ≡ is_piece service (Ok d)
delta_spells service value d has bytes read =
    ap (λ (b : Bool). b && is_piece service (delta_in value)) may ∙ ap (is_piece service) read
  where
    may : may_be_value value ≡ true
    may =
        let b = delta_bytes_are d has.delta in
        subst (λ (v : Value). may_be_value v ≡ true) (sym bytes) (and_from _ _ (le-leb (length (delta_bytes d)) 4194304 b.few) b.each)

-- ---- the events that were found

-- they are those of a delta of the service
pub found_events : (service : Declarations) (value : Value) (d : Delta) → HasSpelling d → value ≡ delta_bytes d → delta_in value ≡ Ok d → is_piece service (Ok d) ≡ true → spelled_events service value ≡ Some d.events
found_events service value d has bytes read good =
    ap (λ (b : Bool). if b then Some (events_of value) else None) (delta_spells service value d has bytes read ∙ good)
    ∙ ap (λ (r : Result Delta ℕ). Some (read_delta r).events) read

by_test : {A : Type 0} (b : Bool) (x y : A) → (if b then Some x else None) ≡ Some y → (b ≡ true) × (x ≡ y)
by_test true x y h = (refl, cc)
by_test false x y h = absurd (cc)

-- a value whose events ran is taken
pub has_taken : (service : Declarations) (a : AppliedValue) (value : Value) (es : List Event) (s : StateValue) (clock : ℤ) → spelled_events service value ≡ Some es → run service a.state es ≡ Some s
    → clock ≡ greatest_clock a.clock es → HasTaken service a value (record { state = s; clock = clock })
has_taken service a value es s clock found runs rises =
    let same = (by_test (spells service value) (events_of value) es found).1 in
    record { runs = ap (run service a.state) same ∙ runs; clock = rises ∙ ap (greatest_clock a.clock) (sym same) }
