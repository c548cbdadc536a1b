-- The first request that may begin is the least of the places that are noted for the clients.
use Rattle.std.proofs.Common.{◌≡◌, ◌⊎◌, inl, inr, ℕ, ◌+◌, ◌<◌, ◌≤◌, Bool, true, false, List, length, refl, ap, sym, ◌∙◌, subst, arith}
use Rattle.std.specs.Prelude.{None, ◌&&◌, nat_eq, nat_lt, slice_get}
use Rattle.std.specs.List.{position_or_len}
use Rattle.std.proofs.lemmas.Bool.{cases_Bool, cases_lt, lt-ltb, ltb-true}
use Rattle.std.proofs.lemmas.List.Folds.{find_at}
use Rattle.std.proofs.lemmas.List.Sums.{position_or_len_is}
use Rattle.rex_syntax.specs.declared.request.Request.{Request}
use Rattle.rex_syntax.specs.declared.service.Declarations.{Declarations}
use Rattle.rex_state.specs.declared.lane.Entry.{Entry}
use Rattle.rex_state.specs.Value.{StateValue}
use Rattle.rex_state.specs.Machine.{frame_at, entry_at, can_begin, enabled}
use Rattle.rex_record.specs.Turn.{begin_of}
use Rattle.rex_live.specs.Floor.{is_open, first_open}
use Rattle.rex_live.specs.Places.{no_request, request_at, place_at, last_of, is_next, is_wanted, IsWantedAt, ArePlaces, may_begin, IsOffered, IsLeastBelow}
use Rattle.rex_live.proofs.Same.{find_alike, enabled_open}

-- ---- tests

all_four : (a l b m : Bool) → (a && b) ≡ true → l ≡ true → m ≡ true → (a && (l && (b && m))) ≡ true
all_four true true true true h k n = refl
all_four true true true false h k n = n
all_four true false b m h k n = absurd (cc)
all_four true true false m h k n = absurd (cc)
all_four false l b m h k n = absurd (cc)

not_wanted : (a l b m : Bool) → (a && b) ≡ false → (a && (l && (b && m))) ≡ false
not_wanted true true true m h = absurd (cc)
not_wanted true true false m h = refl
not_wanted true false b m h = refl
not_wanted false l b m h = refl

not_last : (a l b m : Bool) → m ≡ false → (a && (l && (b && m))) ≡ false
not_last true true true m h = h
not_last true true false m h = refl
not_last true false b m h = refl
not_last false l b m h = refl

not_known : (a l b m : Bool) → l ≡ false → (a && (l && (b && m))) ≡ false
not_known true true b m h = absurd (cc)
not_known true false b m h = refl
not_known false l b m h = refl

not_below : (a b : ℕ) (t : Bool) → nat_lt a b ≡ t → b ≤ a → t ≡ false
not_below a b true e h = absurd (let below : a < b = ltb-true a b e in omega arith)
not_below a b false e h = refl

module _ (service : Declarations) (requests : List Request) (clients : List Entry) (nexts passed wanted : List ℕ) (places : ArePlaces service requests clients nexts passed wanted) (long : length clients ≡ 257)
    (place : ℕ) (least : IsLeastBelow clients wanted (length requests) 257 place) where
  -- what is offered is open
  offered : (o : IsOffered clients wanted place) → place < length requests → is_open service clients (request_at requests place) ≡ true
  offered o below =
      let w : IsWantedAt service requests clients o.client place = subst (IsWantedAt service requests clients o.client) (sym o.is) (places.are o.client o.known) in
      let own : (request_at requests place).client ≡ o.client = w.own below in
      let known : (request_at requests place).client < length clients = (let k : o.client < 257 = o.known in omega arith) in
      all_four (can_begin service (begin_of (request_at requests place))) _ (nat_eq (request_at requests place).sequence (last_of clients (request_at requests place).client + 1)) (may_begin (entry_at clients (request_at requests place).client)) (w.is below) (lt-ltb _ _ known)
      (ap (λ (c : ℕ). may_begin (entry_at clients c)) own ∙ o.may)

  -- what stands before it is not
  shut_by : (j : ℕ) → j < place → ((request_at requests j).client < 257) ⊎ (257 ≤ (request_at requests j).client) → (may_begin (entry_at clients (request_at requests j).client) ≡ true) ⊎ (may_begin (entry_at clients (request_at requests j).client) ≡ false)
      → is_open service clients (request_at requests j) ≡ false
  shut_by j before (inr unknown) may =
      not_known (can_begin service (begin_of (request_at requests j))) _ (nat_eq (request_at requests j).sequence (last_of clients (request_at requests j).client + 1)) (may_begin (entry_at clients (request_at requests j).client)) (not_below (request_at requests j).client (length clients) (nat_lt (request_at requests j).client (length clients)) refl (omega arith))
  shut_by j before (inl known) (inr closed) = not_last (can_begin service (begin_of (request_at requests j))) (nat_lt (request_at requests j).client (length clients)) (nat_eq (request_at requests j).sequence (last_of clients (request_at requests j).client + 1)) (may_begin (entry_at clients (request_at requests j).client)) closed
  shut_by j before (inl known) (inl may) =
      let past : place ≤ place_at wanted (request_at requests j).client = least.least (request_at requests j).client known may in
      not_wanted (can_begin service (begin_of (request_at requests j))) (nat_lt (request_at requests j).client (length clients)) (nat_eq (request_at requests j).sequence (last_of clients (request_at requests j).client + 1)) (may_begin (entry_at clients (request_at requests j).client))
      ((places.are (request_at requests j).client known).first j (omega arith) refl)

  first_place : position_or_len (λ request. is_open service clients request) requests ≡ place
  first_place =
      position_or_len_is (λ request. is_open service clients request) requests place no_request least.most
      (λ j before. shut_by j before (cases_lt (request_at requests j).client 257) (cases_Bool _))
      (λ below. offered (least.is below) below)

-- the request there is the first that the state allows an idle lane to begin
pub first_open_is : (service : Declarations) (requests : List Request) (s : StateValue) (lane : ℕ) (nexts passed wanted : List ℕ) → ArePlaces service requests s.clients nexts passed wanted → length s.clients ≡ 257
    → (place : ℕ) → IsLeastBelow s.clients wanted (length requests) 257 place → lane < length s.lanes → frame_at s lane ≡ None → slice_get requests place ≡ first_open service s lane requests
first_open_is service requests s lane nexts passed wanted places long place least there idle =
    sym (find_alike (λ request. enabled service lane (begin_of request) s) (λ request. is_open service s.clients request) requests (λ r. enabled_open service s lane r there idle)
    ∙ find_at (λ request. is_open service s.clients request) requests
    ∙ ap (λ (i : ℕ). slice_get requests i) (first_place service requests s.clients nexts passed wanted places long place least))

-- ---- events

-- the first wanted request of a client with the same last sequence is the same
pub wanted_kept : (service : Declarations) (requests : List Request) (before later : List Entry) (client place : ℕ) → last_of later client ≡ last_of before client → IsWantedAt service requests before client place
    → IsWantedAt service requests later client place
wanted_kept service requests before later client place h w =
    let same : (j : ℕ) → (request_at requests j).client ≡ client → is_wanted service later (request_at requests j) ≡ is_wanted service before (request_at requests j) =
    λ j own. ap (λ (n : ℕ). is_next service n (request_at requests j)) (ap (last_of later) own ∙ h ∙ ap (last_of before) (sym own)) in
    record {
      own = w.own;
      is = λ below. same place (w.own below) ∙ w.is below;
      first = λ j earlier own. same j own ∙ w.first j earlier own;
    }
