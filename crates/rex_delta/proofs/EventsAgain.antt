-- Events, their causes and deltas are read again from their spelling.
use Rattle.std.proofs.Common.{◌≡◌, ◌≢◌, ℕ, ◌+◌, ◌-◌, ◌<◌, ◌≤◌, ◌^◌, true, List, [], ◌∷◌, ◌++◌, length, Ok, refl, sym, ap, subst, arith, inl, inr, length-set}
use Rattle.std.specs.Prelude.{not, nat_le, nat_eq, nat_lt}
use Rattle.std.specs.Int.{w8, w16, w32, to_be_bytes}
use Rattle.std.specs.List.{flat_map, All}
use Rattle.std.proofs.lemmas.Bool.{cases_lt, le-leb, lt-ltb}
use Rattle.std.proofs.lemmas.List.{get_or_past}
use Rattle.std.proofs.lemmas.List.Elements.{All-head, All-tail}
use Rattle.rex_event.specs.declared.event.Kind.{Kind}
use Rattle.rex_event.specs.declared.event.Event.{Event}
use Rattle.rex_event.specs.declared.delta.Cause.{Cause}
use Rattle.rex_event.specs.declared.delta.Delta.{Delta}
use Rattle.rex_event.specs.Limits.{most_lanes}
use Rattle.rex_event.specs.Cuts.{count_at, counted}
use Rattle.rex_wire.specs.Reading.{Left, Reading, ◌>>=◌, allowed_at}
use Rattle.rex_wire.specs.Spelling.{byte}
use Rattle.rex_wire.proofs.Fields.{IsRead, IsRead-none, IsRead-then, IsRead-last}
use Rattle.rex_wire.proofs.Numbers.{wide8, wide16, wide32, allowed_again}
use Rattle.rex_wire.proofs.Whole.{whole_again, begins_no_other}
use Rattle.rex_wire.proofs.Ranges.{between-is}
use Rattle.rex_wire.proofs.Lists.{same}
use Rattle.rex_wire.proofs.Lists.{AreEach, AreEach-from_all, list_again}
use Rattle.rex_delta.specs.Spelling.{is_between, IsBetween, greatest_base, code_of, version_of, has_event, cause_bytes, event_bytes, events_bytes, delta_bytes, others_below, CauseFits, AreRising, EventFits, EventsFit, IsTyped, HasTypedKind, HasSpelling}
use Rattle.rex_delta.specs.Reading.{may_be_cause, may_be_index, cause_at, causes_at, event_at, Before, least_kind, first_before, after_event, next_event_at, events_at, bases_at, kind_at, delta_at, delta_in}
use Rattle.rex_delta.specs.Laws.{NoSpellingBeginsAnother}
use Rattle.rex_delta.proofs.Lists.{base_at, bases_in, bases_repeated, after_cause, causes_in, causes_repeated}
use Rattle.rex_delta.proofs.KindLaws.{kind_bytes, kind_again}
use Rattle.rex_delta.proofs.Counting.{counted-small, others_few}
use Rattle.rex_delta.proofs.Versions.{Suits, suits_range, suits_rest, version_between, version_suits}
use Rattle.rex_delta.proofs.EventLaws.{IsCauseFrom, event_parts, delta_parts}

-- counts at which causes can be spelled: few lanes, none above a limit
pub record AreCounts (limit : ℕ) (counts : List ℕ) : Type 0 where
  pub few : length counts ≤ most_lanes
  pub small : All (λ n. n ≤ limit) counts

small_at : (limit : ℕ) (counts : List ℕ) (lane : ℕ) → All (λ n. n ≤ limit) counts → count_at counts lane ≤ limit
small_at limit counts lane small =
    elim (cases_lt lane (length counts)) [
      | inl lt ↦ small lane 0 lt
      | inr le ↦ rw (get_or_past counts lane 0 le) (omega arith)
    ]

-- ---- causes

not_same : (a b : ℕ) → a ≢ b → not (nat_eq (a + 1) (b + 1)) ≡ true
not_same a b ne = grind arith

may_be : (bases counts : List ℕ) (lane above : ℕ) (c : Cause) → IsCauseFrom bases counts lane above c → may_be_cause bases counts lane above (c.lane + 1) ≡ true
may_be bases counts lane above c h =
    let back : (c.lane + 1) - 1 ≡ c.lane = omega arith in
    let has : has_event bases counts c.lane ≡ true = lt-ltb _ _ (omega (arith, h.fits.from, h.fits.earlier)) in
    let range = between-is (above + 1) (length counts) (c.lane + 1) (omega (arith, h.rises), omega (arith, h.fits.there)) in
    let other = not_same c.lane lane h.fits.other in
    rw (range, other, back, has) refl

index_may_be : (bases counts : List ℕ) (c : Cause) → count_at bases c.lane ≤ c.index → c.index < count_at counts c.lane → may_be_index bases counts ((c.lane + 1) - 1) c.index ≡ true
index_may_be bases counts c from earlier =
    let back : (c.lane + 1) - 1 ≡ c.lane = omega arith in
    let first : nat_le (count_at bases c.lane) c.index ≡ true = le-leb _ _ from in
    let second : nat_lt c.index (count_at counts c.lane) ≡ true = lt-ltb _ _ earlier in
    rw (back, first, second) refl

cause_again : (limit : ℕ) (bases counts : List ℕ) (lane above : ℕ) (c : Cause) → limit < 2 ^ 32 → AreCounts limit counts → IsCauseFrom bases counts lane above c → IsRead (cause_at bases counts lane above) (cause_bytes c) c
unfolding cause_at
cause_again limit bases counts lane above c below are h =
    let back : (c.lane + 1) - 1 ≡ c.lane = omega arith in
    let narrow : c.lane + 1 < 256 = omega (arith, h.fits.there, are.few) in
    let low : c.index < 2 ^ 32 = omega (arith, h.fits.earlier, small_at limit counts c.lane are.small) in
    let read : Cause = record { lane = (c.lane + 1) - 1; index = c.index } in
    let same_cause : read ≡ c = ap (λ (k : ℕ). let d : Cause = record { lane = k; index = c.index } in d) back in
    subst (λ (d : Cause). IsRead (cause_at bases counts lane above) (cause_bytes c) d) same_cause
    (IsRead-then (allowed_at w8 (may_be_cause bases counts lane above)) _ (byte (c.lane + 1)) (to_be_bytes w32 c.index) (c.lane + 1) read
    (allowed_again wide8 (may_be_cause bases counts lane above) (c.lane + 1) narrow (may_be bases counts lane above c h))
    (IsRead-last (allowed_at w32 (may_be_index bases counts ((c.lane + 1) - 1))) (λ index. let d : Cause = record { lane = (c.lane + 1) - 1; index = index } in d) (to_be_bytes w32 c.index) c.index
    (allowed_again wide32 (may_be_index bases counts ((c.lane + 1) - 1)) c.index low (index_may_be bases counts c h.fits.from h.fits.earlier))))

each_cause : (bases counts : List ℕ) (lane above : ℕ) (cs : List Cause) → AreRising above cs → All (CauseFits bases counts lane) cs → AreEach after_cause (IsCauseFrom bases counts lane) above cs
each_cause bases counts lane above [] rising all = tt
each_cause bases counts lane above (c ∷ cs) rising all = (record { fits = All-head (CauseFits bases counts lane) c cs all; rises = rising.0 }, each_cause bases counts lane (c.lane + 1) cs rising.1 (All-tail (CauseFits bases counts lane) c cs all))

causes_again : (limit : ℕ) (bases counts : List ℕ) (lane : ℕ) (cs : List Cause) → limit < 2 ^ 32 → AreCounts limit counts → AreRising 0 cs → All (CauseFits bases counts lane) cs → IsRead (causes_at bases counts lane (length cs) 0) (flat_map cause_bytes cs) cs
causes_again limit bases counts lane cs below are rising all =
    list_again (cause_at bases counts lane) after_cause (causes_in bases counts lane) (causes_repeated bases counts lane) cause_bytes (IsCauseFrom bases counts lane)
    (λ above c h. cause_again limit bases counts lane above c below are h) 0 cs (each_cause bases counts lane 0 cs rising all)

-- ---- events

-- what is read of an event after its lane
abbrev causes_then : List ℕ → List ℕ → ℕ → Kind → ℕ × Left → Reading (Event × List Cause)
causes_then bases counts lane kind count = causes_at bases counts lane count.0 0 count.1 >>= λ causes. Ok ((record { lane = lane; index = count_at counts lane; kind = kind }, causes.0), causes.1)

abbrev event_then : List ℕ → List ℕ → ℕ → ℕ → ℕ → Left → Reading (Event × List Cause)
event_then bases counts least most lane l = kind_at (length counts) least most l >>= λ kind. allowed_at w8 (λ n. nat_le n (others_below bases counts lane (length counts))) kind.1 >>= causes_then bases counts lane kind.0

then_again : (limit : ℕ) (bases counts : List ℕ) (least most : ℕ) (e : Event) (causes : List Cause) → limit < 2 ^ 32 → AreCounts limit counts → IsBetween least most (code_of e.kind) → EventFits bases counts e causes → IsTyped e.kind → IsRead (event_then bases counts least most e.lane) (kind_bytes e.kind ++ (byte (length causes) ++ flat_map cause_bytes causes)) (e, causes)
then_again limit bases counts least most e causes below are range fits typed =
    let lanes = length counts in
    let made : ℕ → Event = λ index. record { lane = e.lane; index = index; kind = e.kind } in
    let narrow : length causes < 256 = omega (arith, fits.few, others_few bases counts e.lane lanes, are.few) in
    let last = byte (length causes) ++ flat_map cause_bytes causes in
    subst (λ (index : ℕ). IsRead (event_then bases counts least most e.lane) (kind_bytes e.kind ++ last) (made index, causes)) (sym fits.index)
    (IsRead-then (kind_at lanes least most) _ (kind_bytes e.kind) last e.kind (made (count_at counts e.lane), causes) (kind_again lanes least most e.kind are.few range fits.kind typed)
    (IsRead-then (allowed_at w8 (λ n. nat_le n (others_below bases counts e.lane lanes))) (causes_then bases counts e.lane e.kind) (byte (length causes)) (flat_map cause_bytes causes) (length causes) (made (count_at counts e.lane), causes)
    (allowed_again wide8 _ (length causes) narrow (le-leb _ _ fits.few))
    (IsRead-last (causes_at bases counts e.lane (length causes) 0) (λ cs. (made (count_at counts e.lane), cs)) (flat_map cause_bytes causes) causes (causes_again limit bases counts e.lane causes below are fits.rising fits.each))))

event_again : (limit : ℕ) (bases counts : List ℕ) (least most : ℕ) (e : Event) (causes : List Cause) → limit < 2 ^ 32 → AreCounts limit counts → IsBetween least most (code_of e.kind) → EventFits bases counts e causes → IsTyped e.kind → IsRead (event_at bases counts least most) (event_bytes e causes) (e, causes)
unfolding event_at
event_again limit bases counts least most e causes below are kinds fits typed =
    let back : (e.lane + 1) - 1 ≡ e.lane = omega arith in
    let narrow : e.lane + 1 < 256 = omega (arith, fits.lane, are.few) in
    let range = between-is 1 (length counts) (e.lane + 1) (omega arith, omega (arith, fits.lane)) in
    let last = kind_bytes e.kind ++ (byte (length causes) ++ flat_map cause_bytes causes) in
    let others = subst (λ (lane : ℕ). IsRead (event_then bases counts least most lane) last (e, causes)) (sym back) (then_again limit bases counts least most e causes below are kinds fits typed) in
    subst (λ (text : List ℕ). IsRead (event_at bases counts least most) text (e, causes)) (sym (event_parts e causes))
    (IsRead-then (allowed_at w8 (is_between 1 (length counts))) (λ number. event_then bases counts least most (number.0 - 1) number.1) (byte (e.lane + 1)) last (e.lane + 1) (e, causes)
    (allowed_again wide8 (is_between 1 (length counts)) (e.lane + 1) narrow range) others)

counts_more : (limit : ℕ) (bases counts : List ℕ) (e : Event) (causes : List Cause) → AreCounts limit counts → EventFits bases counts e causes → AreCounts (limit + 1) (counted counts e)
counts_more limit bases counts e causes are fits = record {
  few = omega (arith, length-set counts e.lane (e.index + 1), are.few);
  small = counted-small counts limit (limit + 1) e.lane e.index refl are.small fits.lane fits.index;
}

pub events_again : (bases : List ℕ) (es : List Event) (lists : List (List Cause)) (limit : ℕ) (b : Before) → limit + length es < 2 ^ 32 → AreCounts limit b.counts → b.later ≡ length es - 1 → Suits b.most b.due es → EventsFit bases b.counts es lists → All HasTypedKind es
    → IsRead (events_at bases b (length es)) (events_bytes es lists) (es, lists)
unfolding events_at
events_again bases [] [] limit b below are later suits fit typed = IsRead-none ([], [])
events_again bases [] (cs ∷ lists) limit b below are later suits fit typed = absurd fit
events_again bases (e ∷ es) [] limit b below are later suits fit typed = absurd fit
events_again bases (e ∷ es) (cs ∷ lists) limit b below are later suits fit typed =
    let here : IsTyped e.kind = (All-head HasTypedKind e es typed).kind in
    let room : limit < 2 ^ 32 = omega arith in
    let more : (limit + 1) + length es < 2 ^ 32 = omega arith in
    let kinds = suits_range b.most b.due b.later e es (omega (arith, later)) suits in
    IsRead-then (next_event_at bases b) _ (event_bytes e cs) (events_bytes es lists) (e, cs) (e ∷ es, cs ∷ lists) (event_again limit bases b.counts (least_kind b.due b.later) b.most e cs room are kinds fit.0 here)
    (IsRead-last (events_at bases (after_event b e) (length es)) (λ p. (e ∷ p.0, cs ∷ p.1)) (events_bytes es lists) (es, lists)
    (events_again bases es lists (limit + 1) (after_event b e) more (counts_more limit bases b.counts e cs are fit.0) (omega (arith, later)) (suits_rest b.most b.due e es suits) fit.1 (All-tail HasTypedKind e es typed)))

-- ---- a delta

base_again : (s : Unit {0}) (base : ℕ) → base ≤ greatest_base → IsRead (base_at s) (to_be_bytes w32 base) base
base_again s base le = allowed_again wide32 (λ n. nat_le n greatest_base) base (omega arith) (le-leb base greatest_base le)

bases_again : (bases : List ℕ) → All (λ base. base ≤ greatest_base) bases → IsRead (bases_at (length bases)) (flat_map (to_be_bytes w32) bases) bases
bases_again bases small = list_again base_at same bases_in bases_repeated (to_be_bytes w32) (λ _ base. base ≤ greatest_base) base_again (tt {0}) bases (AreEach-from_all (λ base. base ≤ greatest_base) (tt {0}) bases small)

pub delta_again : (d : Delta) → HasSpelling d → IsRead delta_at (delta_bytes d) d
unfolding delta_at
delta_again d h =
    let few = h.delta.lanes in
    let some = h.delta.some in
    let lanes = length d.bases in
    let count = length d.events in
    let version = version_of d.events in
    let versions = version_between d.events in
    let b : Before = first_before version d.bases count in
    let t4 = to_be_bytes w16 count ++ events_bytes d.events d.causes in
    let t3 = flat_map (to_be_bytes w32) d.bases ++ t4 in
    let t2 = byte lanes ++ t3 in
    subst (λ (text : List ℕ). IsRead delta_at text d) (sym (delta_parts d))
    (IsRead-then (allowed_at w8 (is_between 1 2)) _ (byte version) t2 version d (allowed_again wide8 (is_between 1 2) version (omega (arith, versions.1)) (between-is 1 2 version versions))
    (IsRead-then (allowed_at w8 (is_between 1 most_lanes)) _ (byte lanes) t3 lanes d (allowed_again wide8 (is_between 1 most_lanes) lanes (omega (arith, few.1)) (between-is 1 most_lanes lanes few))
    (IsRead-then (bases_at lanes) _ (flat_map (to_be_bytes w32) d.bases) t4 d.bases d (bases_again d.bases h.delta.bases)
    (IsRead-then (allowed_at w16 (is_between 1 4096)) _ (to_be_bytes w16 count) (events_bytes d.events d.causes) count d (allowed_again wide16 (is_between 1 4096) count (omega (arith, some.1)) (between-is 1 4096 count some))
    (IsRead-last (events_at d.bases b count) (λ p. let x : Delta = record { bases = d.bases; events = p.0; causes = p.1 } in x) (events_bytes d.events d.causes) (d.events, d.causes)
    (events_again d.bases d.events d.causes greatest_base b (omega (arith, some.1)) (record { few = few.1; small = h.delta.bases }) refl (version_suits d.events) h.delta.events h.typed))))))

pub delta_read : (d : Delta) → HasSpelling d → delta_in (delta_bytes d) ≡ Ok d
unfolding delta_in
delta_read d h = whole_again (delta_again d h)

pub another : NoSpellingBeginsAnother
another d e rest hd he same_bytes = begins_no_other (delta_again d hd) (delta_again e he) rest same_bytes
