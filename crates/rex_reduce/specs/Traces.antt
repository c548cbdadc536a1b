-- Small traces that examples and tests read.
use Rattle.std.specs.Prelude.{ℕ, pos, List, [], ◌∷◌, Some}
use Rattle.rex_event.specs.declared.event.Event.{Event}
use Rattle.rex_event.specs.declared.event.Kind.{Kind}
use Rattle.rex_event.specs.declared.event.Kind.TheVariants.{Begin, AcqEx, AcqSh, RelEx, RelSh, TryBusy, Wait, Wake, Signal, Clock, Reply}

-- a lane's event of this index
abbrev pub at : ℕ → ℕ → Kind → Event
at lane index kind = record { lane = lane; index = index; kind = kind }

-- a client's first request begins, to handler 0 with no arguments
abbrev pub begin : ℕ → Kind
begin client = Begin client 1 0 []

-- a client's request is replied to
abbrev pub reply : ℕ → Kind
reply client = Reply client (pos 5)

-- three lanes take a lock, one after another
abbrev pub in_turn : List Event
in_turn =
    at 0 0 (begin 1) ∷ at 0 1 (AcqEx 0) ∷ at 0 2 (RelEx 0) ∷ at 0 3 (reply 1)
    ∷ at 1 0 (begin 2) ∷ at 1 1 (AcqEx 0) ∷ at 1 2 (RelEx 0) ∷ at 1 3 (reply 2)
    ∷ at 2 0 (begin 3) ∷ at 2 1 (AcqEx 0) ∷ at 2 2 (RelEx 0) ∷ at 2 3 (reply 3) ∷ []

-- two lanes share a lock and release it, a third takes it, and the first shares it again
abbrev pub shared : List Event
shared =
    at 0 0 (begin 1) ∷ at 0 1 (AcqSh 0) ∷ at 1 0 (begin 2) ∷ at 1 1 (AcqSh 0) ∷ at 2 0 (begin 3)
    ∷ at 0 2 (RelSh 0) ∷ at 1 2 (RelSh 0) ∷ at 2 1 (AcqEx 0) ∷ at 2 2 (RelEx 0) ∷ at 0 3 (AcqSh 0) ∷ []

-- a lane holds a lock while another one tries it
abbrev pub tried : List Event
tried =
    at 0 0 (begin 1) ∷ at 0 1 (AcqEx 0) ∷ at 1 0 (begin 2) ∷ at 1 1 (TryBusy 0) ∷ at 0 2 (Clock (pos 7)) ∷ at 1 2 (reply 2)
    ∷ at 0 3 (RelEx 0) ∷ at 0 4 (reply 1) ∷ []

-- a lane waits, and another signals it
abbrev pub signalled : List Event
signalled =
    at 0 0 (begin 1) ∷ at 0 1 (AcqEx 0) ∷ at 0 2 (Wait 0 0) ∷ at 1 0 (begin 2) ∷ at 1 1 (AcqEx 0)
    ∷ at 1 2 (Signal 0 (Some 0)) ∷ at 1 3 (RelEx 0) ∷ at 0 3 (Wake 0 0) ∷ []

-- two lanes that did 4 and 7 events: the first replies to a client whose next request the second begins
abbrev pub handed : List Event
handed = at 0 4 (RelEx 0) ∷ at 0 5 (reply 9) ∷ at 1 7 (Begin 9 2 0 []) ∷ at 1 8 (AcqEx 0) ∷ []
