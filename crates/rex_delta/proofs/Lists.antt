-- Lists that are read by one value at a time.
use Rattle.std.proofs.Common.{◌≡◌, ℕ, ℤ, ◌+◌, ◌-◌, Bool, List, [], ◌∷◌, ◌++◌, length, Ok, Err, refl, sym, ap, subst, ◌∙◌, append_assoc, arith}
use Rattle.std.specs.Prelude.{◌&&◌, not, is_some, nat_le}
use Rattle.std.specs.Int.{w8, w32}
use Rattle.std.proofs.lemmas.List.{append-nil}
use Rattle.rex_event.specs.declared.event.Kind.{Kind}
use Rattle.rex_event.specs.declared.event.Event.{Event}
use Rattle.rex_event.specs.declared.delta.Cause.{Cause}
use Rattle.rex_event.specs.Conflict.{named_semaphore}
use Rattle.rex_event.specs.Cuts.{count_at, counted}
use Rattle.rex_wire.specs.Reading.{Left, Reading, ◌>>=◌, signed_at, allowed_at}
use Rattle.rex_wire.specs.Decoding.{Fails}
use Rattle.rex_wire.specs.declared.fault.DecodeError.{DecodeError}
use Rattle.rex_wire.specs.declared.fault.DecodeError.TheVariants.{Bad, OutOfMemory}
use Rattle.rex_wire.proofs.Repeated.{IsRepeated}
use Rattle.rex_wire.proofs.Ranges.{allowed_is}
use Rattle.rex_wire.proofs.Lists.{alone, joined, same}
use Rattle.rex_delta.specs.Spelling.{is_between, greatest_base}
use Rattle.rex_delta.specs.Reading.{arguments_at, bases_at, kind_at, cause_at, causes_at, event_at, Before, most_kind, after_event, next_event_at, events_at, may_be_cause, may_be_index}
use Rattle.rex_delta.specs.Parts.{head_at, cause_count_at, all_causes_at}
use Rattle.rex_delta.proofs.Allowed.{may_be_cause-true}

-- ---- lists

abbrev pub argument_at : Unit {0} → Left → Reading ℤ
argument_at s l = signed_at l

abbrev pub arguments_in : Unit {0} → ℕ → Left → Reading (List ℤ)
arguments_in s n l = arguments_at n l

pub arguments_repeated : IsRepeated argument_at same [] alone joined arguments_in
unfolding arguments_at
arguments_repeated = record {
  at_zero = λ s l. refl;
  at_suc = λ s n l. refl;
  nothing = λ xs. append-nil xs;
  joined = λ a b c. append_assoc a b c;
}

abbrev pub base_at : Unit {0} → Left → Reading ℕ
base_at s l = allowed_at w32 (λ base. nat_le base greatest_base) l

abbrev pub bases_in : Unit {0} → ℕ → Left → Reading (List ℕ)
bases_in s n l = bases_at n l

pub bases_repeated : IsRepeated base_at same [] alone joined bases_in
unfolding bases_at
bases_repeated = record {
  at_zero = λ s l. refl;
  at_suc = λ s n l. refl;
  nothing = λ xs. append-nil xs;
  joined = λ a b c. append_assoc a b c;
}

-- ---- causes

abbrev pub cause_of_number : ℕ → ℕ → Cause
cause_of_number n index = record { lane = n - 1; index = index }

abbrev first_then : Cause → List Cause × Left → Reading (List Cause)
first_then c others = Ok (c ∷ others.0, others.1)

abbrev cause_then : ℕ → ℕ × Left → Reading Cause
cause_then n index = Ok (cause_of_number n index.0, index.1)

index_first : (r : Reading ℕ) (n : ℕ) (others : ℕ → Left → Reading (List Cause)) → (n - 1) + 1 ≡ n
    → (r >>= λ i. others n i.1 >>= first_then (cause_of_number n i.0)) ≡ ((r >>= cause_then n) >>= λ x. others (x.0.lane + 1) x.1 >>= first_then x.0)
index_first (Ok i) n others e = ap (λ (m : ℕ). others m i.1 >>= first_then (cause_of_number n i.0)) (sym e)
index_first (Err at) n others e = refl

number_first : (r : Reading ℕ) (index : ℕ → Left → Reading ℕ) (others : ℕ → Left → Reading (List Cause)) → ((x : ℕ × Left) → r ≡ Ok x → (x.0 - 1) + 1 ≡ x.0)
    → (r >>= λ of. index of.0 of.1 >>= λ i. others of.0 i.1 >>= first_then (cause_of_number of.0 i.0)) ≡ ((r >>= λ of. index of.0 of.1 >>= cause_then of.0) >>= λ x. others (x.0.lane + 1) x.1 >>= first_then x.0)
number_first (Ok of) index others h = index_first (index of.0 of.1) of.0 others (h of refl)
number_first (Err at) index others h = refl

abbrev pub after_cause : ℕ → Cause → ℕ
after_cause above c = c.lane + 1

abbrev pub causes_in : List ℕ → List ℕ → ℕ → ℕ → ℕ → Left → Reading (List Cause)
causes_in bases counts lane above n l = causes_at bases counts lane n above l

pub causes_repeated : (bases counts : List ℕ) (lane : ℕ) → IsRepeated (cause_at bases counts lane) after_cause [] alone joined (causes_in bases counts lane)
unfolding cause_at causes_at
causes_repeated bases counts lane = record {
  at_zero = λ above l. refl;
  at_suc = λ above n l. number_first (allowed_at w8 (may_be_cause bases counts lane above) l) (λ of. allowed_at w32 (may_be_index bases counts (of - 1))) (λ of. causes_at bases counts lane n of)
      (λ x e. let m = may_be_cause-true bases counts lane above x.0 (allowed_is w8 (may_be_cause bases counts lane above) l x e) in omega (arith, m.above_it));
  nothing = λ xs. append-nil xs;
  joined = λ a b c. append_assoc a b c;
}

-- ---- an event in its two parts

-- an event as it was read
abbrev pub event_of : List ℕ → ℕ → Kind → Event
event_of counts number kind = record { lane = number - 1; index = count_at counts (number - 1); kind = kind }

abbrev pub event_then : List ℕ → ℕ → Kind × Left → Reading Event
event_then counts number k = Ok (event_of counts number k.0, k.1)

abbrev pub with_causes : Event → List Cause × Left → Reading (Event × List Cause)
with_causes e cs = Ok ((e, cs.0), cs.1)

regrouped : {A B C : Type 0} (r : Reading A) (f : A × Left → Reading B) (g : B × Left → Reading C) → (r >>= λ x. f x >>= g) ≡ ((r >>= f) >>= g)
regrouped (Ok x) f g = refl
regrouped (Err at) f g = refl

kind_first : (k : Reading Kind) (number : ℕ) (counts : List ℕ) (count : ℕ → Left → Reading ℕ) (causes : ℕ → ℕ × Left → Reading (List Cause))
    → (k >>= λ kind. count (number - 1) kind.1 >>= λ n. causes (number - 1) n >>= with_causes (event_of counts number kind.0))
    ≡ ((k >>= event_then counts number) >>= λ h. (count h.0.lane h.1 >>= causes h.0.lane) >>= with_causes h.0)
kind_first (Ok k) number counts count causes = regrouped (count (number - 1) k.1) (causes (number - 1)) (with_causes (event_of counts number k.0))
kind_first (Err at) number counts count causes = refl

lane_first : (r : Reading ℕ) (counts : List ℕ) (kind : Left → Reading Kind) (count : ℕ → Left → Reading ℕ) (causes : ℕ → ℕ × Left → Reading (List Cause))
    → (r >>= λ number. kind number.1 >>= λ k. count (number.0 - 1) k.1 >>= λ n. causes (number.0 - 1) n >>= with_causes (event_of counts number.0 k.0))
    ≡ ((r >>= λ number. kind number.1 >>= event_then counts number.0) >>= λ h. (count h.0.lane h.1 >>= causes h.0.lane) >>= with_causes h.0)
lane_first (Ok x) counts kind count causes = kind_first (kind x.1) x.0 counts count causes
lane_first (Err at) counts kind count causes = refl

pub event_in_parts : (bases counts : List ℕ) (least most : ℕ) (l : Left) → event_at bases counts least most l ≡ (head_at counts least most l >>= λ h. all_causes_at bases counts h.0.lane h.1 >>= with_causes h.0)
unfolding event_at head_at all_causes_at
event_in_parts bases counts least most l =
    lane_first (allowed_at w8 (is_between 1 (length counts)) l) counts (kind_at (length counts) least most) (λ lane. cause_count_at bases counts lane) (λ lane n. causes_at bases counts lane n.0 0 n.1)

-- a first step that fails
first_fails : {A B : Type 0} (e : DecodeError) (r : Reading A) (f : A × Left → Reading B) → Fails e r → Fails e (r >>= f)
first_fails (Bad at) r f bad = ap (λ x. x >>= f) bad
first_fails OutOfMemory r f bad = tt

pub head_fails : (e : DecodeError) (bases counts : List ℕ) (least most : ℕ) (l : Left) → Fails e (head_at counts least most l) → Fails e (event_at bases counts least most l)
head_fails e bases counts least most l bad =
    subst (Fails e) (sym (event_in_parts bases counts least most l)) (first_fails e (head_at counts least most l) (λ h. all_causes_at bases counts h.0.lane h.1 >>= with_causes h.0) bad)

after_head : (bases counts : List ℕ) (least most : ℕ) (l after : Left) (head : Event) → head_at counts least most l ≡ Ok (head, after) → event_at bases counts least most l ≡ (all_causes_at bases counts head.lane after >>= with_causes head)
after_head bases counts least most l after head e = event_in_parts bases counts least most l ∙ ap (λ (r : Reading Event). r >>= λ h. all_causes_at bases counts h.0.lane h.1 >>= with_causes h.0) e

pub causes_fail : (e : DecodeError) (bases counts : List ℕ) (least most : ℕ) (l after : Left) (head : Event) → head_at counts least most l ≡ Ok (head, after) → Fails e (all_causes_at bases counts head.lane after) → Fails e (event_at bases counts least most l)
causes_fail e bases counts least most l after head first bad =
    subst (Fails e) (sym (after_head bases counts least most l after head first)) (first_fails e (all_causes_at bases counts head.lane after) (with_causes head) bad)

pub event_is : (bases counts : List ℕ) (least most : ℕ) (l after end : Left) (head : Event) (causes : List Cause) → head_at counts least most l ≡ Ok (head, after) → all_causes_at bases counts head.lane after ≡ Ok (causes, end) → event_at bases counts least most l ≡ Ok ((head, causes), end)
event_is bases counts least most l after end head causes first second =
    after_head bases counts least most l after head first ∙ ap (λ (r : Reading (List Cause)). r >>= with_causes head) second

-- ---- events, each with its causes

abbrev pub Listed : Type 0
Listed = List Event × List (List Cause)

abbrev pub none_listed : Listed
none_listed = ([], [])

abbrev pub one_listed : Event × List Cause → Listed
one_listed x = (x.0 ∷ [], x.1 ∷ [])

abbrev pub both_listed : Listed → Listed → Listed
both_listed p q = (p.0 ++ q.0, p.1 ++ q.1)

abbrev pub after_pair : Before → Event × List Cause → Before
after_pair b x = after_event b x.0

-- what is known before the event at a place, of so many in this version
abbrev pub before_of : ℕ → List ℕ → Bool → ℕ → ℕ → Before
before_of version counts due count place = record { counts = counts; most = most_kind version; due = due; later = count - 1 - place }

-- after an event, what is known before the next one
pub before_next : (version : ℕ) (counts : List ℕ) (due next : Bool) (count place : ℕ) (e : Event) → next ≡ (due && not (is_some (named_semaphore e.kind))) → after_event (before_of version counts due count place) e ≡ before_of version (counted counts e) next count (place + 1)
before_next version counts due next count place e is =
    let fewer : count - 1 - place - 1 ≡ count - 1 - (place + 1) = omega arith in
    let make : Bool → ℕ → Before = λ d n. record { counts = counted counts e; most = most_kind version; due = d; later = n } in
    ap (make (due && not (is_some (named_semaphore e.kind)))) fewer ∙ ap (λ (d : Bool). make d (count - 1 - (place + 1))) (sym is)

pub pair_is : {A B : Type 0} (a c : A) (b d : B) → a ≡ c → b ≡ d → (let p : A × B = (a, b) in p) ≡ (c, d)
pair_is a c b d e f = cc

pub events_repeated : (bases : List ℕ) → IsRepeated (next_event_at bases) after_pair none_listed one_listed both_listed (events_at bases)
unfolding events_at
events_repeated bases = record {
  at_zero = λ b l. refl;
  at_suc = λ b n l. refl;
  nothing = λ p. pair_is _ _ _ _ (append-nil p.0) (append-nil p.1);
  joined = λ p q r. pair_is _ _ _ _ (append_assoc p.0 q.0 r.0) (append_assoc p.1 q.1 r.1);
}
