-- A Prepare of node 1 to node 2, spelled and read; and bytes that are none, with the offset of the first bad field.
use Rattle.std.proofs.Common.{◌≡◌, ℕ, List, [], ◌∷◌, ◌++◌, set, take, Ok, Err, refl}
use Rattle.rex_wire.specs.Reading.{value_at, list_at}
use Rattle.rex_msg.specs.declared.message.Content.TheVariants.{Prepare, Promise, Accept, Accepted, Chosen, Nack, Ask, Snapshot}
use Rattle.rex_msg.specs.declared.message.Content.{Content}
use Rattle.rex_msg.specs.declared.message.Message.{Message}
use Rattle.rex_msg.specs.Spelling.{spelling_of}
use Rattle.rex_msg.specs.Reading.{proposal_at, prepare_at, promise_at, snapshot_at, message_at, message_in}

abbrev prepare : Message
prepare = record { from = 1; to = 2; content = Prepare 17 1 }

abbrev prepare_text : List ℕ
prepare_text = 1 ∷ 1 ∷ 1 ∷ 2 ∷ 0 ∷ 0 ∷ 0 ∷ 0 ∷ 0 ∷ 0 ∷ 0 ∷ 17 ∷ 0 ∷ 0 ∷ 0 ∷ 1 ∷ []

spelled : spelling_of prepare ≡ prepare_text
spelled = refl

read : message_in prepare_text ≡ Ok prepare
unfolding prepare_at message_at message_in
read = refl

-- no node sends it
no_sender : message_in (set prepare_text 2 0) ≡ Err 2
unfolding prepare_at message_at message_in
no_sender = refl

-- it goes to its sender
to_itself : message_in (set prepare_text 3 1) ≡ Err 3
unfolding prepare_at message_at message_in
to_itself = refl

-- 16 is no ballot
no_ballot : message_in (set prepare_text 11 16) ≡ Err 4
unfolding prepare_at message_at message_in
no_ballot = refl

-- instances are numbered from 1
no_instance : message_in (set prepare_text 15 0) ≡ Err 12
unfolding prepare_at message_at message_in
no_instance = refl

cut_short : message_in (take 15 prepare_text) ≡ Err 12
unfolding prepare_at message_at message_in
cut_short = refl

one_byte_more : message_in (prepare_text ++ 0 ∷ []) ≡ Err 16
unfolding prepare_at message_at message_in
one_byte_more = refl

-- a promise reports proposals rising by instance: here of instances 3 and 5, whose values are one byte and none
abbrev promise : Message
promise = record { from = 2; to = 1; content = Promise 33 ((record { instance = 3; ballot = 17; value = 9 ∷ [] }) ∷ (record { instance = 5; ballot = 18; value = [] }) ∷ []) }

abbrev promise_text : List ℕ
promise_text = 1 ∷ 2 ∷ 2 ∷ 1 ∷ 0 ∷ 0 ∷ 0 ∷ 0 ∷ 0 ∷ 0 ∷ 0 ∷ 33 ∷ 0 ∷ 2 ∷ 0 ∷ 0 ∷ 0 ∷ 3 ∷ 0 ∷ 0 ∷ 0 ∷ 0 ∷ 0 ∷ 0 ∷ 0 ∷ 17 ∷ 0 ∷ 0 ∷ 0 ∷ 1 ∷ 9 ∷ 0 ∷ 0 ∷ 0 ∷ 5 ∷ 0 ∷ 0 ∷ 0 ∷ 0 ∷ 0 ∷ 0 ∷ 0 ∷ 18 ∷ 0 ∷ 0 ∷ 0 ∷ 0 ∷ []

promise_spelled : spelling_of promise ≡ promise_text
promise_spelled = refl

promise_read : message_in promise_text ≡ Ok promise
unfolding value_at list_at proposal_at promise_at message_at message_in
promise_read = refl

-- the second instance is the first again
no_rise : message_in (set promise_text 34 3) ≡ Err 31
unfolding value_at list_at proposal_at promise_at message_at message_in
no_rise = refl

-- ---- the other kinds

abbrev from_to : ℕ → ℕ → Content → Message
from_to from to content = record { from = from; to = to; content = content }

accept : spelling_of (from_to 1 3 (Accept 17 2 (7 ∷ 8 ∷ 9 ∷ []))) ≡ 1 ∷ 3 ∷ 1 ∷ 3 ∷ 0 ∷ 0 ∷ 0 ∷ 0 ∷ 0 ∷ 0 ∷ 0 ∷ 17 ∷ 0 ∷ 0 ∷ 0 ∷ 2 ∷ 0 ∷ 0 ∷ 0 ∷ 3 ∷ 7 ∷ 8 ∷ 9 ∷ []
accept = refl

accepted : spelling_of (from_to 3 1 (Accepted 17 2)) ≡ 1 ∷ 4 ∷ 3 ∷ 1 ∷ 0 ∷ 0 ∷ 0 ∷ 0 ∷ 0 ∷ 0 ∷ 0 ∷ 17 ∷ 0 ∷ 0 ∷ 0 ∷ 2 ∷ []
accepted = refl

chosen : spelling_of (from_to 1 9 (Chosen 65535 (42 ∷ []))) ≡ 1 ∷ 5 ∷ 1 ∷ 9 ∷ 0 ∷ 0 ∷ 255 ∷ 255 ∷ 0 ∷ 0 ∷ 0 ∷ 1 ∷ 42 ∷ []
chosen = refl

nack : spelling_of (from_to 2 1 (Nack 17 18)) ≡ 1 ∷ 6 ∷ 2 ∷ 1 ∷ 0 ∷ 0 ∷ 0 ∷ 0 ∷ 0 ∷ 0 ∷ 0 ∷ 17 ∷ 0 ∷ 0 ∷ 0 ∷ 0 ∷ 0 ∷ 0 ∷ 0 ∷ 18 ∷ []
nack = refl

ask : spelling_of (from_to 9 8 (Ask 65536)) ≡ 1 ∷ 7 ∷ 9 ∷ 8 ∷ 0 ∷ 1 ∷ 0 ∷ 0 ∷ []
ask = refl

-- the state after one value, in two bytes
abbrev snapshot : Message
snapshot = from_to 1 3 (Snapshot 1 (2 ∷ 3 ∷ []))

abbrev snapshot_text : List ℕ
snapshot_text = 1 ∷ 8 ∷ 1 ∷ 3 ∷ 0 ∷ 0 ∷ 0 ∷ 1 ∷ 0 ∷ 0 ∷ 0 ∷ 2 ∷ 2 ∷ 3 ∷ []

snapshot_spelled : spelling_of snapshot ≡ snapshot_text
snapshot_spelled = refl

snapshot_read : message_in snapshot_text ≡ Ok snapshot
unfolding value_at snapshot_at message_at message_in
snapshot_read = refl

-- there is no state after no value, nor one more kind
of_nothing : message_in (set snapshot_text 7 0) ≡ Err 4
unfolding value_at snapshot_at message_at message_in
of_nothing = refl

no_kind : message_in (set snapshot_text 1 9) ≡ Err 1
unfolding value_at snapshot_at message_at message_in
no_kind = refl
