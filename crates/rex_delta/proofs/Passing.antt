-- Reading of which only what is left is kept.
use Rattle.std.proofs.Common.{◌≡◌, ℕ, List, [], ◌∷◌, Ok, Err, refl, ap, ◌∙◌, append_assoc}
use Rattle.std.proofs.lemmas.List.{append-nil}
use Rattle.rex_event.specs.declared.event.Event.{Event}
use Rattle.rex_event.specs.declared.delta.Cause.{Cause}
use Rattle.rex_wire.specs.Reading.{Left, Reading, ◌>>=◌}
use Rattle.rex_wire.specs.Decoding.{Fails}
use Rattle.rex_wire.specs.declared.fault.DecodeError.{DecodeError}
use Rattle.rex_wire.specs.declared.fault.DecodeError.TheVariants.{Bad, OutOfMemory}
use Rattle.rex_wire.proofs.Fields.{ok_is}
use Rattle.rex_wire.proofs.Repeated.{IsRepeated}
use Rattle.rex_delta.specs.Reading.{cause_at, Before, next_event_at, events_at}
use Rattle.rex_delta.specs.Parts.{passed}
use Rattle.rex_delta.specs.Alone.{alone as alone_kept}
use Rattle.rex_delta.proofs.Lists.{argument_at, arguments_in, arguments_repeated, after_cause, causes_in, causes_repeated, Listed, after_pair, none_listed, one_listed, both_listed, events_repeated}
use Rattle.rex_wire.proofs.Lists.{same, alone, joined}

abbrev pub Nothing : Type 0
Nothing = Unit {0}

abbrev pub no_one : {A : Type 0} → A → Nothing
no_one x = tt

abbrev pub neither : Nothing → Nothing → Nothing
neither a b = tt

-- the value that was let go
pub record WasRead {A : Type 0} (r : Reading A) (l : Left) : Type 0 where
  pub value : A
  pub is : r ≡ Ok (value, l)

pub was_read : {A : Type 0} (r : Reading A) (l : Left) → passed r ≡ Ok (tt, l) → WasRead r l
was_read {A} (Ok x) l e =
    let same : x.1 ≡ l = ap (λ (y : Nothing × Left). y.1) (ok_is (tt, x.1) (tt, l) e) in
    record { value = x.0; is = ap (λ (m : Left). let r : Reading A = Ok (x.0, m) in r) same }
was_read {A} (Err at) l e = absurd cc

-- what fails so fails
pub passed_fails : {A : Type 0} (e : DecodeError) (r : Reading A) → Fails e (passed r) → Fails e r
passed_fails (Bad at) (Ok x) bad = absurd cc
passed_fails (Bad at) (Err place) bad = cc
passed_fails OutOfMemory r bad = tt

-- what is read becomes something else, by a map that keeps how it is joined
module _ {S A M N : Type 0} (read : S → Left → Reading A) (next : S → A → S) (none : M) (one : A → M) (join : M → M → M) (all : S → ℕ → Left → Reading M) (h : IsRepeated read next none one join all)
    (map : M → N) (joining : N → N → N) (joins : (a b : M) → map (join a b) ≡ joining (map a) (map b)) (nothing : (m : N) → joining m (map none) ≡ m) (regroups : (a b c : N) → joining (joining a b) c ≡ joining a (joining b c)) where
  abbrev pub mapped : Reading M → Reading N
  mapped r = r >>= λ x. Ok (map x.0, x.1)

  abbrev pub mapped_all : S → ℕ → Left → Reading N
  mapped_all s n l = mapped (all s n l)

  abbrev pub mapped_one : A → N
  mapped_one x = map (one x)

  abbrev others_then : A → M × Left → Reading M
  others_then x y = Ok (join (one x) y.0, y.1)

  abbrev mapped_then : A → N × Left → Reading N
  mapped_then x y = Ok (joining (mapped_one x) y.0, y.1)

  others_map : (x : A) (r : Reading M) → mapped (r >>= others_then x) ≡ (mapped r >>= mapped_then x)
  others_map x (Ok y) = ap (λ (m : N). let r : Reading N = Ok (m, y.1) in r) (joins (one x) y.0)
  others_map x (Err at) = refl

  first_map : (n : ℕ) (s : S) (r : Reading A) → mapped (r >>= λ x. all (next s x.0) n x.1 >>= others_then x.0) ≡ (r >>= λ x. mapped_all (next s x.0) n x.1 >>= mapped_then x.0)
  first_map n s (Ok x) = others_map x.0 (all (next s x.0) n x.1)
  first_map n s (Err at) = refl

  pub mapped_repeated : IsRepeated read next (map none) mapped_one joining mapped_all
  mapped_repeated = record {
    at_zero = λ s l. ap (λ (r : Reading M). mapped r) (h.at_zero s l);
    at_suc = λ s n l. ap (λ (r : Reading M). mapped r) (h.at_suc s n l) ∙ first_map n s (read s l);
    nothing = nothing;
    joined = regroups;
  }

-- ---- arguments, causes and events

abbrev pub pass_arguments_in : Unit {0} → ℕ → Left → Reading Nothing
pass_arguments_in s n l = passed (arguments_in s n l)

pub arguments_pass : IsRepeated argument_at same tt no_one neither pass_arguments_in
arguments_pass = mapped_repeated argument_at same [] alone joined arguments_in arguments_repeated no_one neither (λ a b. refl) (λ m. refl) (λ a b c. refl)

abbrev pub pass_causes_in : List ℕ → List ℕ → ℕ → ℕ → ℕ → Left → Reading Nothing
pass_causes_in bases counts lane above n l = passed (causes_in bases counts lane above n l)

pub causes_pass : (bases counts : List ℕ) (lane : ℕ) → IsRepeated (cause_at bases counts lane) after_cause tt no_one neither (pass_causes_in bases counts lane)
causes_pass bases counts lane = mapped_repeated (cause_at bases counts lane) after_cause [] alone joined (causes_in bases counts lane) (causes_repeated bases counts lane) no_one neither (λ a b. refl) (λ m. refl) (λ a b c. refl)

abbrev pub pass_events_in : List ℕ → Before → ℕ → Left → Reading Nothing
pass_events_in bases b n l = passed (events_at bases b n l)

pub events_pass : (bases : List ℕ) → IsRepeated (next_event_at bases) after_pair tt no_one neither (pass_events_in bases)
events_pass bases = mapped_repeated (next_event_at bases) after_pair none_listed one_listed both_listed (events_at bases) (events_repeated bases) no_one neither (λ a b. refl) (λ m. refl) (λ a b c. refl)

-- events are kept without their causes
abbrev pub events_kept : Listed → List Event
events_kept p = p.0

abbrev pub one_kept : Event × List Cause → List Event
one_kept x = x.0 ∷ []

abbrev pub alone_in : List ℕ → Before → ℕ → Left → Reading (List Event)
alone_in bases b n l = alone_kept (events_at bases b n l)

pub events_are_kept : (bases : List ℕ) → IsRepeated (next_event_at bases) after_pair [] one_kept joined (alone_in bases)
events_are_kept bases = mapped_repeated (next_event_at bases) after_pair none_listed one_listed both_listed (events_at bases) (events_repeated bases) events_kept joined (λ a b. refl) (λ m. append-nil m) (λ a b c. append_assoc a b c)
