-- What is known of clients once deltas are noted.
use Rattle.std.specs.Prelude.{ℕ, List, [], ◌∷◌, ◌++◌, Option}
use Rattle.rex_event.specs.declared.event.Event.{Event}
use Rattle.rex_event.specs.declared.delta.Delta.{Delta}
use Rattle.rex_state.specs.declared.lane.Entry.{Entry}
use Rattle.rex_state.specs.Machine.{clients_after}
use Rattle.rex_state.specs.Start.{no_entries}
use Rattle.rex_gate.specs.declared.numbers.Stamp.{Stamp}
use Rattle.rex_gate.specs.Numbers.{no_numbers, numbers_of_state, numbered, number_at, next_number}

-- the entries once these events are known too: begins and replies change them as they change a state's
abbrev pub noted : List Entry → List Event → List Entry
noted clients [] = clients
noted clients (e ∷ es) = noted (clients_after e.kind clients) es

-- the entries once these deltas are known too
abbrev pub noted_all : List Entry → List Delta → List Entry
noted_all clients [] = clients
noted_all clients (d ∷ ds) = noted_all (noted clients d.events) ds

-- the events of deltas, one delta after the other
abbrev pub joined : List Delta → List Event
joined [] = []
joined (d ∷ ds) = d.events ++ joined ds

-- the entries that a table holds, which is empty until something is known
abbrev pub entries_in : List Entry → List Entry
entries_in [] = no_entries
entries_in (e ∷ es) = e ∷ es

-- ---- answers

-- the clients' entries, the number of the delta with each one's last reply, and that of the last delta
pub record AnswersValue : Type 0 where
  pub entries : List Entry
  pub numbers : List Stamp
  pub count : ℕ

-- before any delta is known
abbrev pub no_answers : AnswersValue
no_answers = record { entries = no_entries; numbers = no_numbers; count = 0 }

-- from a state on, where the deltas after so many are to be numbered
abbrev pub answers_at : List Entry → ℕ → AnswersValue
answers_at clients count = record { entries = clients; numbers = numbers_of_state clients; count = count }

-- once the replies of the next delta are numbered: the entries are as they were, being those of a state that has them already
abbrev pub numbering : AnswersValue → List Event → AnswersValue
numbering a es = record { entries = a.entries; numbers = numbered (next_number a.count) a.numbers es; count = next_number a.count }

-- once the events of the next delta are known too
abbrev pub noting : AnswersValue → List Event → AnswersValue
noting a es = record { entries = noted a.entries es; numbers = numbered (next_number a.count) a.numbers es; count = next_number a.count }

-- the number of the delta with a client's last reply
abbrev pub stamp_of : AnswersValue → ℕ → Option ℕ
stamp_of a client = number_at a.numbers client

-- so it is of deltas, one after another
abbrev pub numbering_all : AnswersValue → List Delta → AnswersValue
numbering_all a [] = a
numbering_all a (d ∷ ds) = numbering_all (numbering a d.events) ds

abbrev pub noting_all : AnswersValue → List Delta → AnswersValue
noting_all a [] = a
noting_all a (d ∷ ds) = noting_all (noting a d.events) ds
