-- Answers, tried on examples.
use Rattle.std.proofs.Common.{◌≡◌, refl, List, [], ◌∷◌}
use Rattle.std.specs.Prelude.{ℕ, pos, Some, None}
use Rattle.rex_event.specs.declared.event.Event.{Event}
use Rattle.rex_event.specs.declared.event.Kind.{Kind}
use Rattle.rex_event.specs.declared.event.Kind.TheVariants.{Begin, AcqEx, RelEx, Reply}
use Rattle.rex_state.specs.declared.lane.Entry.{Entry}
use Rattle.rex_state.specs.Machine.{no_entry, entry_at}
use Rattle.rex_state.specs.Start.{no_entries}
use Rattle.rex_gate.specs.declared.answer.Answer.TheVariants.{Queued, Waiting, Released, Old, Gap}
use Rattle.rex_gate.specs.Noted.{noted}
use Rattle.rex_gate.specs.Answer.{answer_of}

abbrev event : ℕ → Kind → Event
event index kind = record { lane = 0; index = index; kind = kind }

-- client 1 adds 5 to a counter that was 0
abbrev added : List Event
added = event 0 (Begin 1 1 0 (pos 5 ∷ [])) ∷ event 1 (AcqEx 0) ∷ event 2 (RelEx 0) ∷ event 3 (Reply 1 (pos 5)) ∷ []

abbrev begun : Entry
begun = record { sequence = 1; reply = None }

abbrev replied : Entry
replied = record { sequence = 1; reply = Some (pos 5) }

-- its events leave its reply, and what is known of others as it was
after_adding : entry_at (noted no_entries added) 1 ≡ replied
after_adding = refl

others_after_adding : entry_at (noted no_entries added) 2 ≡ no_entry
others_after_adding = refl

-- a begin alone leaves no reply, also where an older request was replied to
after_begin : entry_at (noted (noted no_entries added) (event 4 (Begin 1 2 0 (pos 1 ∷ [])) ∷ [])) 1 ≡ record { sequence = 2; reply = None }
after_begin = refl

-- the first request of a client, or a later one too early
first_is_queued : answer_of 1 None no_entry no_entry ≡ Queued
first_is_queued = refl

second_is_early : answer_of 2 None no_entry no_entry ≡ Gap 1
second_is_early = refl

-- the same request again: while it is queued, while it runs, once its reply is live, and once it is known
again_while_queued : answer_of 1 (Some 1) no_entry no_entry ≡ Waiting
again_while_queued = refl

again_while_it_runs : answer_of 1 None begun begun ≡ Waiting
again_while_it_runs = refl

again_while_live : answer_of 1 None replied begun ≡ Waiting
again_while_live = refl

again_once_known : answer_of 1 None replied replied ≡ Released (pos 5)
again_once_known = refl

-- after the first reply the third request is too early, the second joins the queue, and then the first is an old one
third_is_early : answer_of 3 None replied replied ≡ Gap 2
third_is_early = refl

second_is_queued : answer_of 2 None replied replied ≡ Queued
second_is_queued = refl

first_is_old : answer_of 1 (Some 2) replied replied ≡ Old 2
first_is_old = refl

-- while the second runs its reply isn't that to the first, and a third has to wait for it
second_waits : answer_of 2 None (record { sequence = 2; reply = None }) replied ≡ Waiting
second_waits = refl

third_waits : answer_of 3 None (record { sequence = 2; reply = None }) replied ≡ Gap 2
third_waits = refl
