-- A node over one record, which says that a value is known.
use Rattle.std.proofs.Common.{◌≡◌, ℕ, Bool, true, List, [], ◌∷◌, ◌++◌, refl, ap, sym, subst}
use Rattle.std.specs.Prelude.{◌==◌, ◌&&◌, nat_eq, Ok, Some, None, is_some, if◌then◌else◌}
use Rattle.std.proofs.lemmas.Bool.{and_from}
use Rattle.rex_syntax.specs.declared.service.Declarations.{Declarations}
use Rattle.rex_event.specs.declared.event.Event.{Event}
use Rattle.rex_event.specs.declared.event.Kind.TheVariants.{Begin}
use Rattle.rex_event.specs.declared.delta.Delta.{Delta}
use Rattle.rex_wire.specs.Reading.{value_at}
use Rattle.rex_delta.specs.Reading as reading
use Rattle.rex_durable.specs.Reading as records
use Rattle.rex_reduce.specs.Reduction.{reduced}
use Rattle.rex_state.specs.Value.{StateValue}
use Rattle.rex_state.specs.Start.{start_of}
use Rattle.rex_state.specs.Machine.{lane_of, enabled, after, run, run_from}
use Rattle.rex_cluster.specs.Same.{same_lists}
use Rattle.rex_cluster.specs.Records.{known}
use Rattle.rex_cluster.specs.Records.Rec.{Known}
use Rattle.rex_cluster.specs.Values.{Value, read_delta, trace_of, is_piece, values_fit}
use Rattle.rex_log.specs.Log.{log_of}
use Rattle.rex_node.specs.Restarting.{HasForgotten, HasRightBase}

-- the first request of client 1 begins
abbrev begun : Event
begun = record { lane = 0; index = 0; kind = Begin 1 1 0 [] }

-- a value of 19 bytes, and the record that says that it is the first one known
abbrev value : Value
value = 1 ∷ 1 ∷ 0 ∷ 0 ∷ 0 ∷ 0 ∷ 0 ∷ 1 ∷ 1 ∷ 1 ∷ 0 ∷ 1 ∷ 0 ∷ 0 ∷ 0 ∷ 1 ∷ 1 ∷ 0 ∷ 0 ∷ []

abbrev pub kept : List ℕ
kept = 3 ∷ 0 ∷ 0 ∷ 0 ∷ 1 ∷ 0 ∷ 0 ∷ 0 ∷ 19 ∷ 1 ∷ 1 ∷ 0 ∷ 0 ∷ 0 ∷ 0 ∷ 0 ∷ 1 ∷ 1 ∷ 1 ∷ 0 ∷ 1 ∷ 0 ∷ 0 ∷ 0 ∷ 1 ∷ 1 ∷ 0 ∷ 0 ∷ []

abbrev delta : Delta
delta = record { bases = 0 ∷ []; events = begun ∷ []; causes = [] ∷ [] }

-- the value spells the delta with this event
spelled : reading.delta_in value ≡ Ok delta
unfolding reading.delta_in reading.delta_at reading.bases_at reading.events_at reading.event_at reading.kind_at reading.begin_at reading.place_at reading.arguments_at reading.causes_at
spelled = refl

said : (service : Declarations) → log_of service [] (kept ∷ []) ≡ Known 1 value ∷ []
unfolding records.record_in records.record_at records.known_at value_at
said service = refl

events : trace_of (value ∷ []) ≡ begun ∷ []
events = ap (λ (d : Delta). d.events ++ []) (ap read_delta spelled)

is_whole : (service : Declarations) → service.lanes ≡ 1 → is_piece service (Ok delta) ≡ true
is_whole service one = subst (λ (n : ℕ). (1 == n && same_lists delta.causes (reduced delta.events)) ≡ true) (sym one) refl

goes : (service : Declarations) (s : StateValue) → (lane_of s 0).done ≡ 0 → enabled service 0 begun.kind s ≡ true → is_some (run service s (begun ∷ [])) ≡ true
goes service s none can =
    let both : (nat_eq (lane_of s 0).done 0 && enabled service 0 begun.kind s) ≡ true = and_from _ _ (subst (λ (n : ℕ). nat_eq n 0 ≡ true) (sym none) refl) can in
    subst (λ (b : Bool). is_some (run_from service (if b then Some (after service 0 begun.kind s) else None) []) ≡ true) (sym both) refl

fits : (service : Declarations) → service.lanes ≡ 1 → (lane_of (start_of service) 0).done ≡ 0 → enabled service 0 begun.kind (start_of service) ≡ true → values_fit service (value ∷ []) ≡ true
fits service one none can =
    and_from _ _ (and_from _ _ (and_from _ _ refl (subst (λ d. is_piece service d ≡ true) (sym spelled) (is_whole service one))) refl)
    (subst (λ (es : List Event). is_some (run service (start_of service) es) ≡ true) (sym events) (goes service (start_of service) none can))

right : (service : Declarations) → HasRightBase service (Known 1 value ∷ [])
right service s h = absurd (cc)

-- the record's value fits, its base is right, and nothing is forgotten
pub record SaysAll (service : Declarations) (lists : List (List ℕ)) : Type 0 where
  pub fit : values_fit service (known (log_of service [] lists)) ≡ true
  pub base : HasRightBase service (log_of service [] lists)
  pub forgotten : HasForgotten [] (log_of service [] lists)

pub says_all : (service : Declarations) → service.lanes ≡ 1 → (lane_of (start_of service) 0).done ≡ 0 → enabled service 0 begun.kind (start_of service) ≡ true → SaysAll service (kept ∷ [])
says_all service one none can = record {
  fit = subst (λ log. values_fit service (known log) ≡ true) (sym (said service)) (fits service one none can);
  base = subst (HasRightBase service) (sym (said service)) (right service);
  forgotten = subst (HasForgotten []) (sym (said service)) refl;
}
