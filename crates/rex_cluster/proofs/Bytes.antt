-- The bytes of a delta in its ranges: each number is one, and they are few.
use Rattle.std.proofs.Common.{◌≡◌, ℕ, zero, suc, ◌+◌, ◌*◌, ◌<◌, ◌≤◌, true, List, [], ◌∷◌, length, get_or, refl, sym, subst, arith, ltb-true, false}
use Rattle.std.specs.Prelude.{nat_le, Result, Ok, Err}
use Rattle.std.specs.List.{list_all, flat_map}
use Rattle.std.specs.Int.{w16, w32, to_be_bytes}
use Rattle.std.proofs.lemmas.Bool.{and_parts, false≢true}
use Rattle.rex_event.specs.declared.event.Event.{Event}
use Rattle.rex_event.specs.declared.event.Kind.{Kind}
use Rattle.rex_event.specs.declared.delta.Cause.{Cause}
use Rattle.rex_event.specs.declared.delta.Delta.{Delta}
use Rattle.rex_event.specs.Limits.{most_lanes}
use Rattle.rex_event.specs.Cuts.{counted}
use Rattle.rex_clocks.proofs.Numbered.{counted_long}
use Rattle.rex_delta.specs.Spelling.{code_of, content, cause_bytes, event_bytes, events_bytes, version_of, delta_bytes, EventFits, EventsFit, IsDelta, HasSpelling}
use Rattle.rex_delta.proofs.Counting.{others_few}
use Rattle.rex_delta.proofs.Bytes.{AreBytes, more, both, one, each_piece, number16, number32}
use Rattle.rex_delta.proofs.KindLaws.{code_between, content_bytes}
use Rattle.rex_delta.proofs.Versions.{version_between}
use Rattle.rex_delta.proofs.EventLaws.{event_parts, delta_parts, delta_found}
use Rattle.rex_delta.specs.Reading.{delta_in, delta_at}
use Rattle.rex_syntax.specs.declared.service.Declarations.{Declarations}
use Rattle.rex_cluster.specs.Values.{Value, IsBytes, read_delta, delta_of, is_piece, is_byte, may_be_value, spells}

code_small : (kind : Kind) → code_of kind < 256
code_small kind = omega (arith, (code_between kind).1)

-- ---- events

cause_are : (counts : List ℕ) (c : Cause) → c.lane < length counts → length counts ≤ most_lanes → AreBytes 5 (cause_bytes c)
cause_are counts c there few = both 1 4 ((c.lane + 1) ∷ []) (to_be_bytes w32 c.index) (one (c.lane + 1) (omega arith)) (number32 c.index)

event_are : (bases counts : List ℕ) (e : Event) (causes : List Cause) → length counts ≤ most_lanes → EventFits bases counts e causes → AreBytes 363 (event_bytes e causes)
event_are bases counts e causes few h =
    more (1 + (1 + (40 + (1 + 5 * length causes)))) 363 (event_bytes e causes) (omega (arith, many))
    (subst (AreBytes (1 + (1 + (40 + (1 + 5 * length causes))))) (sym (event_parts e causes))
    (both 1 (1 + (40 + (1 + 5 * length causes))) ((e.lane + 1) ∷ []) _ (one (e.lane + 1) (omega (arith, h.lane)))
    (both 1 (40 + (1 + 5 * length causes)) (code_of e.kind ∷ []) _ (one (code_of e.kind) (code_small e.kind))
    (both 40 (1 + 5 * length causes) (content e.kind) _ (content_bytes (length counts) e.kind few h.kind)
    (both 1 (5 * length causes) (length causes ∷ []) _ (one (length causes) (omega (arith, many)))
    (each_piece cause_bytes 5 causes (λ k d l. cause_are counts (get_or causes k d) (h.each k d l).there few)))))))
  where
    many : length causes ≤ most_lanes
    many = omega (arith, h.few, others_few bases counts e.lane (length counts))

events_are_bytes : (bases counts : List ℕ) (es : List Event) (lists : List (List Cause)) → length counts ≤ most_lanes → EventsFit bases counts es lists → AreBytes (363 * length es) (events_bytes es lists)
events_are_bytes bases counts [] lists few h = record { each = refl; few = omega arith }
events_are_bytes bases counts (e ∷ es) [] few h = absurd h
events_are_bytes bases counts (e ∷ es) (causes ∷ lists) few h =
    more (363 + 363 * length es) (363 * suc (length es)) (events_bytes (e ∷ es) (causes ∷ lists)) (omega arith)
    (both 363 (363 * length es) (event_bytes e causes) (events_bytes es lists) (event_are bases counts e causes few h.0)
    (events_are_bytes bases (counted counts e) es lists (omega (arith, counted_long counts e)) h.1))

-- ---- the delta

pub delta_bytes_are : (d : Delta) → IsDelta d → AreBytes 4194304 (delta_bytes d)
delta_bytes_are d h =
    more (1 + (1 + (4 * length d.bases + (2 + 363 * length d.events)))) 4194304 (delta_bytes d) (omega (arith, h.lanes.1, h.some.1))
    (subst (AreBytes (1 + (1 + (4 * length d.bases + (2 + 363 * length d.events))))) (sym (delta_parts d))
    (both 1 (1 + (4 * length d.bases + (2 + 363 * length d.events))) (version_of d.events ∷ []) _ (one (version_of d.events) (omega (arith, (version_between d.events).1)))
    (both 1 (4 * length d.bases + (2 + 363 * length d.events)) (length d.bases ∷ []) _ (one (length d.bases) (omega (arith, h.lanes.1)))
    (both (4 * length d.bases) (2 + 363 * length d.events) (flat_map (to_be_bytes w32) d.bases) _ (each_piece (to_be_bytes w32) 4 d.bases (λ k x l. number32 (get_or d.bases k x)))
    (both 2 (363 * length d.events) (to_be_bytes w16 (length d.events)) (events_bytes d.events d.causes) (number16 (length d.events))
    (events_are_bytes d.bases d.bases d.events d.causes h.lanes.1 h.events))))))

-- ---- values that spell a delta

bytes_at : (v : Value) → list_all is_byte v ≡ true → IsBytes v
bytes_at [] h i = omega arith
bytes_at (x ∷ xs) h zero = ltb-true x 256 (and_parts _ _ h).0
bytes_at (x ∷ xs) h (suc i) = bytes_at xs (and_parts _ _ h).1 i

pub spelled_bytes : (service : Declarations) (v : Value) → spells service v ≡ true → IsBytes v
spelled_bytes service v h = bytes_at v (and_parts (nat_le (length v) 4194304) (list_all is_byte v) (and_parts (may_be_value v) (is_piece service (delta_in v)) h).0).1

pub spelled_delta : (service : Declarations) (v : Value) → spells service v ≡ true → HasSpelling (delta_of v)
spelled_delta service v h = go (delta_in v) refl (and_parts (may_be_value v) (is_piece service (delta_in v)) h).1
  where
    go : (r : Result Delta ℕ) → delta_in v ≡ r → is_piece service r ≡ true → HasSpelling (read_delta r)
    go (Ok d) e k = (delta_found v d (spelled_bytes service v h) e).has
    go (Err at) e k = absurd (false≢true k)

-- no bytes spell no delta
pub nothing_spelled : (service : Declarations) → spells service [] ≡ true → ⊥
unfolding delta_in delta_at
nothing_spelled service e = absurd (let no : false ≡ true = e in cc)
