-- Where the clients' requests stand among those that were handed in.
use Rattle.std.specs.Prelude.{◌≡◌, ◌≢◌, ℕ, ◌+◌, ◌<◌, ◌≤◌, ◌&&◌, ◌||◌, Bool, true, false, List, [], length, slice_index_or, nat_eq}
use Rattle.rex_syntax.specs.declared.request.Request.{Request}
use Rattle.rex_syntax.specs.declared.service.Declarations.{Declarations}
use Rattle.rex_event.specs.declared.event.Kind.{Kind}
use Rattle.rex_event.specs.declared.event.TheConstants.{CLIENT_ENTRIES}
use Rattle.rex_state.specs.declared.lane.Entry.{Entry}
use Rattle.rex_state.specs.Machine.{is_replied, entry_at, can_begin, client_allows, clients_after}
use Rattle.rex_record.specs.Turn.{begin_of}
use Rattle.rex_live.specs.declared.places.Places.{Places}

-- no request
abbrev pub no_request : Request
no_request = record { client = 0; sequence = 0; handler = 0; arguments = [] }

-- the request at a place
abbrev pub request_at : List Request → ℕ → Request
request_at requests place = slice_index_or requests place no_request

-- the place that is noted for a client or a request
abbrev pub place_at : List ℕ → ℕ → ℕ
place_at places i = slice_index_or places i 0

-- the last sequence of a client
abbrev pub last_of : List Entry → ℕ → ℕ
last_of clients client = (entry_at clients client).sequence

-- at the place is a request of the client, or none
abbrev pub IsOf : List Request → ℕ → ℕ → Type 0
IsOf requests client place = place < length requests → (request_at requests place).client ≡ client

-- from one place up to another there is no request of the client
abbrev pub NoneOf : List Request → ℕ → ℕ → ℕ → Type 0
NoneOf requests client from till = (place : ℕ) → from ≤ place → place < till → (request_at requests place).client ≢ client

-- what is noted for a request is the place of its client's next one, if there is one
pub record IsNextPlace (requests : List Request) (place next : ℕ) : Type 0 where
  pub later : place < next
  pub own : (request_at requests place).client < CLIENT_ENTRIES → IsOf requests (request_at requests place).client next
  pub between : (request_at requests place).client < CLIENT_ENTRIES → NoneOf requests (request_at requests place).client (place + 1) next

-- so it is for the requests from a place on, and for each client the place of its first one of these is noted
pub record IsLinkedFrom (requests : List Request) (from : ℕ) (nexts firsts : List ℕ) : Type 0 where
  pub long : length nexts ≡ length requests
  pub clients : length firsts ≡ CLIENT_ENTRIES
  pub nexts_are : (place : ℕ) → from ≤ place → place < length requests → IsNextPlace requests place (place_at nexts place)
  pub firsts_past : (client : ℕ) → client < CLIENT_ENTRIES → from ≤ place_at firsts client
  pub firsts_own : (client : ℕ) → client < CLIENT_ENTRIES → IsOf requests client (place_at firsts client)
  pub firsts_are : (client : ℕ) → client < CLIENT_ENTRIES → NoneOf requests client from (place_at firsts client)

-- so it is for all requests
pub record IsLinked (requests : List Request) (nexts : List ℕ) : Type 0 where
  pub long : length nexts ≡ length requests
  pub nexts_are : (place : ℕ) → place < length requests → IsNextPlace requests place (place_at nexts place)

-- the request has the sequence after this last one, and its handler takes its arguments
abbrev pub is_next : Declarations → ℕ → Request → Bool
is_next service last request = can_begin service (begin_of request) && nat_eq request.sequence (last + 1)

-- the request has the sequence after its client's last one, and its handler takes its arguments
abbrev pub is_wanted : Declarations → List Entry → Request → Bool
is_wanted service clients request = is_next service (last_of clients request.client) request

-- the client's requests before a place have no later sequence than its last one
abbrev pub ArePassed : List Request → List Entry → ℕ → ℕ → Type 0
ArePassed requests clients client passed = (place : ℕ) → place < passed → (request_at requests place).client ≡ client → (request_at requests place).sequence ≤ last_of clients client

-- the place is that of the client's first request that is wanted, if there is one
pub record IsWantedAt (service : Declarations) (requests : List Request) (clients : List Entry) (client wanted : ℕ) : Type 0 where
  pub own : IsOf requests client wanted
  pub is : wanted < length requests → is_wanted service clients (request_at requests wanted) ≡ true
  pub first : (place : ℕ) → place < wanted → (request_at requests place).client ≡ client → is_wanted service clients (request_at requests place) ≡ false

-- for each client it is noted from which place on its requests aren't passed
pub record AreNoted (requests : List Request) (clients : List Entry) (passed : List ℕ) : Type 0 where
  pub long : length passed ≡ CLIENT_ENTRIES
  pub own : (client : ℕ) → client < CLIENT_ENTRIES → IsOf requests client (place_at passed client)
  pub are : (client : ℕ) → client < CLIENT_ENTRIES → ArePassed requests clients client (place_at passed client)

-- for each client these places are noted, and for each request the next one's
pub record ArePlaces (service : Declarations) (requests : List Request) (clients : List Entry) (nexts passed wanted : List ℕ) : Type 0 where
  pub linked : IsLinked requests nexts
  pub noted : AreNoted requests clients passed
  pub long : length wanted ≡ CLIENT_ENTRIES
  pub are : (client : ℕ) → client < CLIENT_ENTRIES → IsWantedAt service requests clients client (place_at wanted client)

-- the client may begin a request: it has sent nothing, or its last request is replied to
abbrev pub may_begin : Entry → Bool
may_begin entry = nat_eq entry.sequence 0 || is_replied entry.reply

-- a client that may begin a request, and the place that is noted for it
pub record IsOffered (clients : List Entry) (wanted : List ℕ) (place : ℕ) : Type 0 where
  pub client : ℕ
  pub known : client < CLIENT_ENTRIES
  pub may : may_begin (entry_at clients client) ≡ true
  pub is : place ≡ place_at wanted client

-- the client may not begin a request, or no place before this one is noted for it
abbrev pub IsPast : List Entry → List ℕ → ℕ → ℕ → Type 0
IsPast clients wanted place client = client < CLIENT_ENTRIES → may_begin (entry_at clients client) ≡ true → place ≤ place_at wanted client

-- the least of the places that are noted for the first clients, of those that may begin a request; the end, where there is none
pub record IsLeastBelow (clients : List Entry) (wanted : List ℕ) (end bound place : ℕ) : Type 0 where
  pub most : place ≤ end
  pub is : place < end → IsOffered clients wanted place
  pub least : (client : ℕ) → client < bound → may_begin (entry_at clients client) ≡ true → place ≤ place_at wanted client

-- the places that are kept are these, and the first request that may begin stands at the least of those of clients that may begin one
pub record HasPlaces (service : Declarations) (requests : List Request) (clients : List Entry) (p : Places) : Type 0 where
  pub are : ArePlaces service requests clients p.nexts.items p.passed.items p.wanted.items
  pub entries : length clients ≡ CLIENT_ENTRIES
  pub open_at : IsLeastBelow clients p.wanted.items (length requests) CLIENT_ENTRIES p.open_at

-- these places were kept before an event, after which the entries are these
pub record HadPlaces (service : Declarations) (requests : List Request) (kind : Kind) (clients : List Entry) (p : Places) : Type 0 where
  pub before : List Entry
  pub had : HasPlaces service requests before p
  pub allowed : client_allows kind before ≡ true
  pub after : clients ≡ clients_after kind before
