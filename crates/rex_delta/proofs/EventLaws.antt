-- Events and their causes: what is read is spelled so.
use Rattle.std.proofs.Common.{◌≡◌, ℕ, zero, suc, ◌+◌, ◌-◌, ◌<◌, ◌≤◌, true, List, [], ◌∷◌, ◌++◌, length, Result, Ok, refl, sym, ap, subst, arith, append_assoc}
use Rattle.std.specs.Prelude.{◌==◌, nat_le, IfOk}
use Rattle.std.specs.Int.{w16, w32, to_be_bytes}
use Rattle.std.specs.List.{flat_map, All}
use Rattle.std.proofs.lemmas.Bool.{leb-true}
use Rattle.std.proofs.lemmas.List.Elements.{All-cons, All-nil}
use Rattle.rex_event.specs.declared.event.Kind.{Kind}
use Rattle.rex_event.specs.declared.event.Event.{Event}
use Rattle.rex_event.specs.declared.delta.Cause.{Cause}
use Rattle.rex_event.specs.declared.delta.Delta.{Delta}
use Rattle.rex_event.specs.Limits.{most_lanes}
use Rattle.rex_event.specs.Cuts.{count_at}
use Rattle.rex_wire.specs.Reading.{Left}
use Rattle.rex_wire.specs.Spelling.{byte}
use Rattle.rex_wire.specs.Decoding.{Gives}
use Rattle.rex_wire.specs.declared.fault.DecodeError.{DecodeError}
use Rattle.rex_wire.proofs.Fields.{IsBytes, is_taken, Takes, Takes-none, Takes-then, IsSpelled, IsSpelled-weaker, step}
use Rattle.rex_wire.proofs.Numbers.{wide8, wide16, wide32, allowed_spelled}
use Rattle.rex_wire.proofs.Whole.{IsFound, whole_found, is_found}
use Rattle.rex_wire.proofs.Ranges.{is_between-true}
use Rattle.rex_wire.proofs.Lists.{same}
use Rattle.rex_wire.proofs.Lists.{AreEach, AreEach-to_all, list_spelled}
use Rattle.rex_delta.specs.Spelling.{is_between, IsBetween, greatest_base, code_of, content, cause_bytes, event_bytes, events_bytes, has_counting, version_of, delta_bytes, others_below, CauseFits, AreRising, EventFits, EventsFit, HasTypedKind, HasSpelling}
use Rattle.rex_delta.specs.Reading.{may_be_cause, may_be_index, cause_at, causes_at, event_at, Before, least_kind, most_kind, first_before, after_event, events_at, bases_at, delta_at, delta_in}
use Rattle.rex_delta.proofs.Allowed.{may_be_cause-true, may_be_index-true}
use Rattle.rex_delta.proofs.Lists.{base_at, bases_in, bases_repeated, after_cause, causes_in, causes_repeated}
use Rattle.rex_delta.proofs.KindLaws.{kind_bytes, IsKindOf, kind_spelled}
use Rattle.rex_delta.proofs.Versions.{Suits, least_some, most_few, some_counts, version_is}

-- a cause that may follow the lanes below a number
pub record IsCauseFrom (bases counts : List ℕ) (lane above : ℕ) (c : Cause) : Type 0 where
  pub fits : CauseFits bases counts lane c
  pub rises : above ≤ c.lane

cause_spelled : (bases counts : List ℕ) (lane above : ℕ) → IsSpelled (cause_at bases counts lane above) cause_bytes (IsCauseFrom bases counts lane above)
unfolding cause_at
cause_spelled bases counts lane above = record {
  takes = λ l x bytes e.
      let of = step (allowed_spelled wide8 (may_be_cause bases counts lane above)) l _ x bytes e in
      let index = step (allowed_spelled wide32 (may_be_index bases counts (of.value - 1))) of.left _ x of.takes.bytes of.next in
      let number = may_be_cause-true bases counts lane above of.value of.may in
      let place = may_be_index-true bases counts (of.value - 1) index.value index.may in
      let back : (of.value - 1) + 1 ≡ of.value = omega (arith, number.above_it) in
      let first : Takes l (byte ((of.value - 1) + 1)) of.left = rw back of.takes in
      let c : Cause = record { lane = of.value - 1; index = index.value } in
      let is : IsCauseFrom bases counts lane above c = record {
        fits = record { other = λ same. number.other (omega (arith, same, back)); there = omega (arith, back, number.lane_is); from = place.from; earlier = place.earlier };
        rises = omega (arith, back, number.above_it);
      } in
      is_taken cause_bytes (IsCauseFrom bases counts lane above) l (c, index.left) x index.next (Takes-then l of.left index.left _ _ first index.takes, is);
}

each_fits : (bases counts : List ℕ) (lane above : ℕ) (cs : List Cause) → AreEach after_cause (IsCauseFrom bases counts lane) above cs → All (CauseFits bases counts lane) cs
each_fits bases counts lane above [] each = All-nil (CauseFits bases counts lane)
each_fits bases counts lane above (c ∷ cs) each = All-cons (CauseFits bases counts lane) c cs each.0.fits (each_fits bases counts lane (c.lane + 1) cs each.1)

are_rising : (bases counts : List ℕ) (lane above : ℕ) (cs : List Cause) → AreEach after_cause (IsCauseFrom bases counts lane) above cs → AreRising above cs
are_rising bases counts lane above [] each = tt
are_rising bases counts lane above (c ∷ cs) each = (each.0.rises, are_rising bases counts lane (c.lane + 1) cs each.1)

causes_spelled : (bases counts : List ℕ) (lane n above : ℕ) → IsSpelled (causes_at bases counts lane n above) (flat_map cause_bytes) (λ cs. AreEach after_cause (IsCauseFrom bases counts lane) above cs × (length cs ≡ n))
causes_spelled bases counts lane n above = list_spelled (cause_at bases counts lane) after_cause (causes_in bases counts lane) (causes_repeated bases counts lane) cause_bytes (IsCauseFrom bases counts lane) (cause_spelled bases counts lane) n above

-- ---- events

-- an event and its causes, which a kind of its types' numbers has
pub record IsEventAfter (bases counts : List ℕ) (least most : ℕ) (x : Event × List Cause) : Type 0 where
  pub code : IsBetween least most (code_of x.0.kind)
  pub fits : EventFits bases counts x.0 x.1
  pub typed : HasTypedKind x.0

abbrev pub pair_bytes : Event × List Cause → List ℕ
pair_bytes x = event_bytes x.0 x.1

-- an event as it was read
abbrev event_of : List ℕ → ℕ → Kind → Event
event_of counts number kind = record { lane = number - 1; index = count_at counts (number - 1); kind = kind }

pub event_parts : (e : Event) (causes : List Cause) → event_bytes e causes ≡ byte (e.lane + 1) ++ (kind_bytes e.kind ++ (byte (length causes) ++ flat_map cause_bytes causes))
event_parts e causes = ap (λ (t : List ℕ). (e.lane + 1) ∷ code_of e.kind ∷ t) (append_assoc (content e.kind) (byte (length causes)) (flat_map cause_bytes causes))

event_taken : (bases counts : List ℕ) (l a b c d : Left) (number count : ℕ) (kind : Kind) (causes : List Cause) → Takes l (byte number) a → Takes a (kind_bytes kind) b → Takes b (byte count) c → Takes c (flat_map cause_bytes causes) d → 1 ≤ number → length causes ≡ count → Takes l (event_bytes (event_of counts number kind) causes) d
event_taken bases counts l a b c d number count kind causes first second third fourth least long =
    let back : (number - 1) + 1 ≡ number = omega arith in
    let lane : Takes l (byte ((number - 1) + 1)) a = rw back first in
    let counted : Takes b (byte (length causes)) c = rw long third in
    let t = Takes-then l a d _ _ lane (Takes-then a b d _ _ second (Takes-then b c d _ _ counted fourth)) in
    subst (λ (text : List ℕ). Takes l text d) (sym (event_parts (event_of counts number kind) causes)) t

event_after : (bases counts : List ℕ) (least most number count : ℕ) (kind : Kind) (causes : List Cause) → IsBetween 1 (length counts) number → IsKindOf (length counts) least most kind → count ≤ others_below bases counts (number - 1) (length counts) → AreEach after_cause (IsCauseFrom bases counts (number - 1)) 0 causes → length causes ≡ count → IsEventAfter bases counts least most (event_of counts number kind, causes)
event_after bases counts least most number count kind causes range is few each long = record {
  code = is.code;
  fits = record {
    lane = omega (arith, range.0, range.1);
    index = refl;
    kind = is.fits;
    few = rw long few;
    each = each_fits bases counts (number - 1) 0 causes each;
    rising = are_rising bases counts (number - 1) 0 causes each;
  };
  typed = record { kind = is.typed };
}

pub event_spelled : (bases counts : List ℕ) (least most : ℕ) → 1 ≤ least → most ≤ 16 → IsSpelled (event_at bases counts least most) pair_bytes (IsEventAfter bases counts least most)
unfolding event_at
event_spelled bases counts least most some few = record {
  takes = λ l x bytes e.
      let lanes = length counts in
      let number = step (allowed_spelled wide8 (is_between 1 lanes)) l _ x bytes e in
      let lane = number.value - 1 in
      let kind = step (kind_spelled lanes least most some few) number.left _ x number.takes.bytes number.next in
      let count = step (allowed_spelled wide8 (λ n. nat_le n (others_below bases counts lane lanes))) kind.left _ x kind.takes.bytes kind.next in
      let causes = step (causes_spelled bases counts lane count.value 0) count.left _ x count.takes.bytes count.next in
      let range = is_between-true 1 lanes number.value number.may in
      let taken = event_taken bases counts l number.left kind.left count.left causes.left number.value count.value kind.value causes.value number.takes kind.takes count.takes causes.takes range.0 causes.may.1 in
      let after = event_after bases counts least most number.value count.value kind.value causes.value range kind.may (leb-true _ _ count.may) causes.may.0 causes.may.1 in
      is_taken pair_bytes (IsEventAfter bases counts least most) l ((event_of counts number.value kind.value, causes.value), causes.left) x causes.next (taken, after);
}

abbrev pub listed_bytes : List Event × List (List Cause) → List ℕ
listed_bytes p = events_bytes p.0 p.1

-- so many events that fit one after the other, of kinds up to the greatest, with one on a semaphore where that is due
pub record AreEventsAfter (bases : List ℕ) (b : Before) (n : ℕ) (p : List Event × List (List Cause)) : Type 0 where
  pub fit : EventsFit bases b.counts p.0 p.1
  pub typed : All HasTypedKind p.0
  pub long : length p.0 ≡ n
  pub few : All (λ e. code_of e.kind ≤ b.most) p.0
  pub some : 0 < n → b.due ≡ true → has_counting p.0 ≡ true

pub events_spelled : (bases : List ℕ) (n : ℕ) (b : Before) → b.most ≤ 16 → b.later ≡ n - 1 → IsSpelled (events_at bases b n) listed_bytes (AreEventsAfter bases b n)
unfolding events_at
events_spelled bases zero b most later = record {
  takes = λ l x bytes e.
      is_taken listed_bytes (AreEventsAfter bases b 0) l (([], []), l) x e (
        Takes-none l bytes,
        record {
          fit = tt;
          typed = All-nil HasTypedKind;
          long = refl;
          few = All-nil (λ (e : Event). code_of e.kind ≤ b.most);
          some = λ lt. absurd (omega arith);
        },
      );
}
events_spelled bases (suc n) b most later = record {
  takes = λ l x bytes e.
      let first = step (event_spelled bases b.counts (least_kind b.due b.later) b.most (least_some b.due b.later) most) l _ x bytes e in
      let others = step (events_spelled bases n (after_event b first.value.0) most (omega (arith, later))) first.left _ x first.takes.bytes first.next in
      let all : List Event × List (List Cause) = (first.value.0 ∷ others.value.0, first.value.1 ∷ others.value.1) in
      let are : AreEventsAfter bases b (suc n) all = record {
        fit = (first.may.fits, others.may.fit);
        typed = All-cons HasTypedKind first.value.0 others.value.0 first.may.typed others.may.typed;
        long = ap suc others.may.long;
        few = All-cons (λ (e : Event). code_of e.kind ≤ b.most) first.value.0 others.value.0 first.may.code.1 others.may.few;
        some = λ lt d. some_counts b.due b.later first.value.0 others.value.0 first.may.code.0 (omega (arith, later, others.may.long)) (λ more. others.may.some (omega (arith, more, others.may.long))) d;
      } in
      is_taken listed_bytes (AreEventsAfter bases b (suc n)) l (all, others.left) x others.next (Takes-then l first.left others.left _ _ first.takes others.takes, are);
}

-- ---- a delta

base_spelled : (s : Unit {0}) → IsSpelled (base_at s) (to_be_bytes w32) (λ base. base ≤ greatest_base)
base_spelled s = IsSpelled-weaker (λ base. nat_le base greatest_base ≡ true) (λ base. base ≤ greatest_base) (λ base. leb-true base greatest_base) (allowed_spelled wide32 (λ base. nat_le base greatest_base))

bases_spelled : (n : ℕ) → IsSpelled (bases_at n) (flat_map (to_be_bytes w32)) (λ xs. AreEach same (λ _ base. base ≤ greatest_base) (tt {0}) xs × (length xs ≡ n))
bases_spelled n = list_spelled base_at same bases_in bases_repeated (to_be_bytes w32) (λ _ base. base ≤ greatest_base) base_spelled n (tt {0})

pub delta_parts : (d : Delta) → delta_bytes d ≡ byte (version_of d.events) ++ (byte (length d.bases) ++ (flat_map (to_be_bytes w32) d.bases ++ (to_be_bytes w16 (length d.events) ++ events_bytes d.events d.causes)))
delta_parts d = ap (λ (t : List ℕ). version_of d.events ∷ length d.bases ∷ t) (append_assoc (flat_map (to_be_bytes w32) d.bases) (to_be_bytes w16 (length d.events)) (events_bytes d.events d.causes))

delta_taken : (l a b c d f : Left) (version lanes count : ℕ) (delta : Delta) → Takes l (byte version) a → Takes a (byte lanes) b → Takes b (flat_map (to_be_bytes w32) delta.bases) c → Takes c (to_be_bytes w16 count) d → Takes d (events_bytes delta.events delta.causes) f → version ≡ version_of delta.events → length delta.bases ≡ lanes → length delta.events ≡ count → Takes l (delta_bytes delta) f
delta_taken l a b c d f version lanes count delta first second third fourth fifth one long many =
    let is_one : Takes l (byte (version_of delta.events)) a = subst (λ (n : ℕ). Takes l (byte n) a) one first in
    let counted : Takes a (byte (length delta.bases)) b = rw long second in
    let so_many : Takes c (to_be_bytes w16 (length delta.events)) d = subst (λ (n : ℕ). Takes c (to_be_bytes w16 n) d) (sym many) fourth in
    let t = Takes-then l a f _ _ is_one (Takes-then a b f _ _ counted (Takes-then b c f _ _ third (Takes-then c d f _ _ so_many fifth))) in
    subst (λ (text : List ℕ). Takes l text f) (sym (delta_parts delta)) t

delta_has : (version lanes count : ℕ) (bases : List ℕ) (events : List Event) (causes : List (List Cause)) → IsBetween 1 most_lanes lanes → length bases ≡ lanes → AreEach same (λ _ base. base ≤ greatest_base) (tt {0}) bases → IsBetween 1 4096 count → AreEventsAfter bases (first_before version bases count) count (events, causes) → HasSpelling (record { bases = bases; events = events; causes = causes })
delta_has version lanes count bases events causes few long small some are = record {
  delta = record {
    lanes = (omega (arith, few.0, long), omega (arith, few.1, long));
    bases = AreEach-to_all (λ base. base ≤ greatest_base) (tt {0}) bases small;
    some = (omega (arith, some.0, are.long), omega (arith, some.1, are.long));
    events = are.fit;
  };
  typed = are.typed;
}

pub delta_spelled : IsSpelled delta_at delta_bytes HasSpelling
unfolding delta_at
delta_spelled = record {
  takes = λ l x bytes e.
      let version = step (allowed_spelled wide8 (is_between 1 2)) l _ x bytes e in
      let lanes = step (allowed_spelled wide8 (is_between 1 most_lanes)) version.left _ x version.takes.bytes version.next in
      let bases = step (bases_spelled lanes.value) lanes.left _ x lanes.takes.bytes lanes.next in
      let count = step (allowed_spelled wide16 (is_between 1 4096)) bases.left _ x bases.takes.bytes bases.next in
      let events = step (events_spelled bases.value count.value (first_before version.value bases.value count.value) (most_few version.value) refl) count.left _ x count.takes.bytes count.next in
      let d : Delta = record { bases = bases.value; events = events.value.0; causes = events.value.1 } in
      let some = is_between-true 1 4096 count.value count.may in
      let suits : Suits (most_kind version.value) (version.value == 2) events.value.0 = record { few = events.may.few; some = events.may.some (omega (arith, some.0)) } in
      let taken = delta_taken l version.left lanes.left bases.left count.left events.left version.value lanes.value count.value d version.takes lanes.takes bases.takes count.takes events.takes (version_is version.value events.value.0 (is_between-true 1 2 version.value version.may) suits) bases.may.1 events.may.long in
      let has = delta_has version.value lanes.value count.value bases.value events.value.0 events.value.1 (is_between-true 1 most_lanes lanes.value lanes.may) bases.may.1 bases.may.0 some events.may in
      is_taken delta_bytes HasSpelling l (d, events.left) x events.next (taken, has);
}

-- what is read of all of the bytes is spelled so
pub delta_found : (bytes : List ℕ) (d : Delta) → IsBytes bytes → delta_in bytes ≡ Ok d → IsFound delta_bytes HasSpelling bytes d
unfolding delta_in
delta_found bytes d fits e = whole_found delta_spelled bytes d fits e

pub delta_is_found : (bytes : List ℕ) (r : Result Delta DecodeError) → IsBytes bytes → Gives r (delta_in bytes) → IfOk r (λ d. HasSpelling d × (bytes ≡ delta_bytes d))
unfolding delta_in
delta_is_found bytes r fits given = is_found delta_spelled bytes r fits given
