-- The number of events of a delta, and its events, are found without the rest.
use Rattle.std.proofs.Common.{◌≡◌, ℕ, zero, suc, Bool, true, false, cond, min, arith, List, [], ◌∷◌, ◌++◌, length, take, Result, Ok, Err, refl, sym, ap, ◌∙◌}
use Rattle.std.specs.Prelude.{◌==◌, is_err, IfOk}
use Rattle.std.proofs.lemmas.Bool.{false≢true}
use Rattle.std.proofs.lemmas.List.{length-take, take-append-le}
use Rattle.std.specs.Int.{w8, w16}
use Rattle.arrayvec.specs.ArrayVec.{ArrayVec}
use Rattle.rex_event.specs.declared.event.Event.{Event}
use Rattle.rex_event.specs.declared.delta.Delta.{Delta}
use Rattle.rex_event.specs.Limits.{most_lanes}
use Rattle.rex_wire.specs.Reading.{Left, Reading, ◌>>=◌, allowed_at, all_left, whole}
use Rattle.rex_wire.specs.Decoding.{Gives}
use Rattle.rex_wire.specs.declared.fault.DecodeError.{DecodeError}
use Rattle.rex_wire.proofs.Fields.{IsBytes, bind_ok, ok_is}
use Rattle.rex_delta.specs.Spelling.{is_between, HasSpelling, delta_bytes}
use Rattle.rex_delta.specs.Reading.{Before, first_before, after_event, next_event_at, events_at, bases_at, delta_at, delta_in}
use Rattle.rex_delta.specs.Parts.{GivesInto, passed, into_array}
use Rattle.rex_delta.specs.Counts.{count_of, count_in, counted_at}
use Rattle.rex_delta.specs.Alone.{events_of, events_in, alone, behind, behind_at, behind_of}
use Rattle.rex_delta.proofs.Lists.{Listed}
use Rattle.rex_delta.proofs.EventLaws.{delta_found}

-- as many events are read as are to be
events_long : (bases : List ℕ) (n : ℕ) (b : Before) (l : Left) (x : Listed × Left) → events_at bases b n l ≡ Ok x → length x.0.0 ≡ n
unfolding events_at
events_long bases zero b l x e = ap (λ (y : Listed × Left). length y.0.0) (sym (ok_is (([], []), l) x e))
events_long bases (suc n) b l x e =
    let first = bind_ok (next_event_at bases b l) _ x e in
    let others = bind_ok (events_at bases (after_event b first.0.0.0) n first.0.1) _ x first.2 in
    let all : Listed × Left = ((first.0.0.0 ∷ others.0.0.0, first.0.0.1 ∷ others.0.0.1), others.0.1) in
    ap (λ (y : Listed × Left). length y.0.0) (sym (ok_is all x others.2)) ∙ ap suc (events_long bases n (after_event b first.0.0.0) first.0.1 others.0 others.1)

abbrev made : List ℕ → Listed × Left → Reading Delta
made bases x = Ok (record { bases = bases; events = x.0.0; causes = x.0.1 }, x.1)

-- reading a delta of which a part is kept
module _ {B : Type 0} (part : Delta → B) where
  abbrev kept : Delta × Left → Reading B
  kept d = Ok (part d.0, d.1)

  field_kept : (r : Reading ℕ) (f : ℕ × Left → Reading B) (g : ℕ × Left → Reading Delta) → ((x : ℕ × Left) → f x ≡ (g x >>= kept)) → (r >>= f) ≡ ((r >>= g) >>= kept)
  field_kept (Ok x) f g same = same x
  field_kept (Err at) f g same = refl

  bases_kept : (r : Reading (List ℕ)) (f : ArrayVec ℕ × Left → Reading B) (g : List ℕ × Left → Reading Delta) → ((x : List ℕ × Left) → f (record { items = x.0 }, x.1) ≡ (g x >>= kept)) → (into_array r >>= f) ≡ ((r >>= g) >>= kept)
  bases_kept (Ok x) f g same = same x
  bases_kept (Err at) f g same = refl

  abbrev part_of : Result Delta ℕ → Result B ℕ
  part_of (Ok d) = Ok (part d)
  part_of (Err at) = Err at

  end_kept : (b : Bool) (d : Delta) (at : ℕ) → cond b (Ok (part d)) (Err at) ≡ part_of (cond b (Ok d) (Err at))
  end_kept true d at = refl
  end_kept false d at = refl

  whole_kept : (r : Reading Delta) → ((r >>= kept) >>= λ x. cond (length x.1.rest == 0) (Ok x.0) (Err x.1.at)) ≡ part_of (r >>= λ x. cond (length x.1.rest == 0) (Ok x.0) (Err x.1.at))
  whole_kept (Ok d) = end_kept (length d.1.rest == 0) d.0 d.1.at
  whole_kept (Err at) = refl

-- ---- the number of events

abbrev how_many : Delta → ℕ
how_many d = length d.events

number_kept : (r : Reading Listed) (n : ℕ) (bases : List ℕ) → ((x : Listed × Left) → r ≡ Ok x → length x.0.0 ≡ n) → (passed r >>= λ events. Ok (n, events.1)) ≡ ((r >>= made bases) >>= kept how_many)
number_kept (Ok x) n bases long = ap (λ (m : ℕ). let r : Reading ℕ = Ok (m, x.1) in r) (sym (long x refl))
number_kept (Err at) n bases long = refl

delta_counted : (l : Left) → counted_at l ≡ (delta_at l >>= kept how_many)
unfolding counted_at delta_at
delta_counted l =
    field_kept how_many (allowed_at w8 (is_between 1 2) l) _ _ (λ version.
    field_kept how_many (allowed_at w8 (is_between 1 most_lanes) version.1) _ _ (λ lanes.
    bases_kept how_many (bases_at lanes.0 lanes.1) _ _ (λ bases.
    field_kept how_many (allowed_at w16 (is_between 1 4096) bases.1) _ _ (λ count.
    number_kept (events_at bases.0 (first_before version.0 bases.0 count.0) count.0 count.1) count.0 bases.0
    (events_long bases.0 count.0 (first_before version.0 bases.0 count.0) count.1)))))

count_is : (r : Result Delta ℕ) → part_of how_many r ≡ count_of r
count_is (Ok d) = refl
count_is (Err at) = refl

pub counted_whole : (bytes : List ℕ) → whole counted_at bytes ≡ count_in bytes
unfolding delta_in
counted_whole bytes = ap (λ (r : Reading ℕ). r >>= λ x. cond (length x.1.rest == 0) (Ok x.0) (Err x.1.at)) (delta_counted (all_left bytes)) ∙ whole_kept how_many (delta_at (all_left bytes)) ∙ count_is (delta_in bytes)

-- ---- the events, behind others

module _ (before : List Event) where
  abbrev with_events : Delta → List Event
  with_events d = before ++ d.events

  events_kept : (r : Reading Listed) (bases : List ℕ) → behind before (alone r) ≡ ((r >>= made bases) >>= kept with_events)
  events_kept (Ok x) bases = refl
  events_kept (Err at) bases = refl

  delta_behind : (l : Left) → behind_at before l ≡ (delta_at l >>= kept with_events)
  unfolding behind_at delta_at
  delta_behind l =
      field_kept with_events (allowed_at w8 (is_between 1 2) l) _ _ (λ version.
      field_kept with_events (allowed_at w8 (is_between 1 most_lanes) version.1) _ _ (λ lanes.
      bases_kept with_events (bases_at lanes.0 lanes.1) _ _ (λ bases.
      field_kept with_events (allowed_at w16 (is_between 1 4096) bases.1) _ _ (λ count.
      events_kept (events_at bases.0 (first_before version.0 bases.0 count.0) count.0 count.1) bases.0))))

  events_are : (r : Result Delta ℕ) → part_of with_events r ≡ behind_of before r
  events_are (Ok d) = refl
  events_are (Err at) = refl

  pub behind_whole : (bytes : List ℕ) → whole (behind_at before) bytes ≡ behind_of before (delta_in bytes)
  unfolding delta_in
  behind_whole bytes =
      ap (λ (r : Reading (List Event)). r >>= λ x. cond (length x.1.rest == 0) (Ok x.0) (Err x.1.at)) (delta_behind (all_left bytes))
      ∙ whole_kept with_events (delta_at (all_left bytes)) ∙ events_are (delta_in bytes)

-- what stands in front stays there when one more goes behind
pub keep_front : (before es : List Event) (e : Event) → take (length before) es ≡ before → take (length before) (es ++ e ∷ []) ≡ before
keep_front before es e front =
    let long : length (take (length before) es) ≡ length before = ap (λ (xs : List Event). length xs) front in
    let least : length (take (length before) es) ≡ min (length before) (length es) = length-take (length before) es in
    take-append-le (length before) es (e ∷ []) (omega (arith, long, least)) ∙ front

-- an error is given whatever was lent
pub error_given : (r : Result (Unit {0}) DecodeError) (xs ys : List Event) (read : Result (List Event) ℕ) → is_err r ≡ true → GivesInto r xs read → GivesInto r ys read
error_given (Ok done) xs ys read err given = absurd (false≢true err)
error_given (Err e) xs ys read err given = given

found_by : (bytes : List ℕ) (read : Result Delta ℕ) (es : List Event) → IsBytes bytes → delta_in bytes ≡ read → events_of read ≡ Ok es → (d : Delta) × HasSpelling d × (bytes ≡ delta_bytes d) × (es ≡ d.events)
found_by bytes (Ok d) es fits is e = let f = delta_found bytes d fits is in (d, f.has, f.bytes_are, cc)
found_by bytes (Err at) es fits is e = absurd cc

pub events_found : (bytes : List ℕ) (r : Result (List Event) DecodeError) → IsBytes bytes → Gives r (events_in bytes) → IfOk r (λ es. (d : Delta) × HasSpelling d × (bytes ≡ delta_bytes d) × (es ≡ d.events))
events_found bytes (Ok es) fits given = found_by bytes (delta_in bytes) es fits refl given
events_found bytes (Err e) fits given = tt
