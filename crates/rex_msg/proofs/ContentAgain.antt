-- What a message says is read again from its spelling.
use Rattle.std.proofs.Common.{ℕ, ◌<◌, ◌≤◌, ◌^◌, List, ◌++◌, length, arith}
use Rattle.std.specs.Prelude.{nat_lt}
use Rattle.std.specs.Int.{w16, w32, w64, to_be_bytes}
use Rattle.std.specs.List.{flat_map}
use Rattle.std.proofs.lemmas.Bool.{lt-ltb}
use Rattle.rex_ballot.specs.declared.proposal.Proposal.{Proposal}
use Rattle.rex_ballot.specs.Ballot.{IsBallot, IsInstance, is_ballot, is_instance}
use Rattle.rex_ballot.specs.Proposals.{IsValue}
use Rattle.rex_ballot.proofs.Numbers.{ballot-is, ballot-below, instance-is}
use Rattle.rex_wire.specs.Reading.{number_at, allowed_at, value_at}
use Rattle.rex_wire.specs.Spelling.{value_bytes}
use Rattle.rex_wire.proofs.Fields.{IsRead, IsRead-then, IsRead-last}
use Rattle.rex_wire.proofs.Numbers.{wide16, wide32, wide64, number_again, allowed_again}
use Rattle.rex_wire.proofs.Ranges.{between-is}
use Rattle.rex_wire.proofs.Values.{value_again}
use Rattle.rex_msg.specs.declared.message.Content.{Content}
use Rattle.rex_msg.specs.declared.message.Content.TheVariants.{Prepare, Promise, Accept, Accepted, Chosen, Nack, Ask, Snapshot}
use Rattle.rex_msg.specs.Spelling.{kind_of, content_bytes, proposal_bytes, IsFirst, AreReported, ContentFits, IsTyped}
use Rattle.rex_msg.specs.Reading.{is_first, proposals_at, prepare_at, promise_at, accept_at, accepted_at, chosen_at, nack_at, ask_at, snapshot_at, content_at}
use Rattle.rex_msg.proofs.Proposals.{proposals_again, reported_few}

-- ---- fields

ballot_again : (n : ℕ) → IsBallot n → IsRead (allowed_at w64 is_ballot) (to_be_bytes w64 n) n
ballot_again n h = allowed_again wide64 is_ballot n (ballot-below n h) (ballot-is n h)

instance_again : (n : ℕ) → IsInstance n → IsRead (allowed_at w32 is_instance) (to_be_bytes w32 n) n
instance_again n h = allowed_again wide32 is_instance n (omega (arith, h.last)) (instance-is n h)

first_again : (n : ℕ) → IsFirst n → IsRead (allowed_at w32 is_first) (to_be_bytes w32 n) n
first_again n h = allowed_again wide32 is_first n (omega (arith, h.1)) (between-is 1 65536 n h)

-- ---- contents

prepare_again : (ballot first : ℕ) → IsBallot ballot → IsFirst first → IsRead prepare_at (content_bytes (Prepare ballot first)) (Prepare ballot first)
unfolding prepare_at
prepare_again ballot first is from =
    IsRead-then (allowed_at w64 is_ballot) _ (to_be_bytes w64 ballot) (to_be_bytes w32 first) ballot (Prepare ballot first) (ballot_again ballot is)
    (IsRead-last (allowed_at w32 is_first) (Prepare ballot) (to_be_bytes w32 first) first (first_again first from))

promise_again : (ballot : ℕ) (accepted : List Proposal) → IsBallot ballot → AreReported accepted → IsRead promise_at (content_bytes (Promise ballot accepted)) (Promise ballot accepted)
unfolding promise_at
promise_again ballot accepted is reported =
    let content = Promise ballot accepted in
    let count = length accepted in
    let last = flat_map proposal_bytes accepted in
    IsRead-then (allowed_at w64 is_ballot) _ (to_be_bytes w64 ballot) (to_be_bytes w16 count ++ last) ballot content (ballot_again ballot is)
    (IsRead-then (number_at w16) _ (to_be_bytes w16 count) last count content (number_again wide16 count (reported_few accepted reported))
    (IsRead-last (proposals_at count) (Promise ballot) last accepted (proposals_again accepted reported)))

accept_again : (ballot instance : ℕ) (value : List ℕ) → IsBallot ballot → IsInstance instance → IsValue value → IsRead accept_at (content_bytes (Accept ballot instance value)) (Accept ballot instance value)
unfolding accept_at
accept_again ballot instance value is of few =
    let content = Accept ballot instance value in
    let last = value_bytes value in
    IsRead-then (allowed_at w64 is_ballot) _ (to_be_bytes w64 ballot) (to_be_bytes w32 instance ++ last) ballot content (ballot_again ballot is)
    (IsRead-then (allowed_at w32 is_instance) _ (to_be_bytes w32 instance) last instance content (instance_again instance of)
    (IsRead-last value_at (Accept ballot instance) last value (value_again value few.few)))

accepted_again : (ballot instance : ℕ) → IsBallot ballot → IsInstance instance → IsRead accepted_at (content_bytes (Accepted ballot instance)) (Accepted ballot instance)
unfolding accepted_at
accepted_again ballot instance is of =
    IsRead-then (allowed_at w64 is_ballot) _ (to_be_bytes w64 ballot) (to_be_bytes w32 instance) ballot (Accepted ballot instance) (ballot_again ballot is)
    (IsRead-last (allowed_at w32 is_instance) (Accepted ballot) (to_be_bytes w32 instance) instance (instance_again instance of))

chosen_again : (instance : ℕ) (value : List ℕ) → IsInstance instance → IsValue value → IsRead chosen_at (content_bytes (Chosen instance value)) (Chosen instance value)
unfolding chosen_at
chosen_again instance value of few =
    IsRead-then (allowed_at w32 is_instance) _ (to_be_bytes w32 instance) (value_bytes value) instance (Chosen instance value) (instance_again instance of)
    (IsRead-last value_at (Chosen instance) (value_bytes value) value (value_again value few.few))

nack_again : (ballot promised : ℕ) → IsBallot ballot → ballot < promised → promised < 2 ^ 64 → IsRead nack_at (content_bytes (Nack ballot promised)) (Nack ballot promised)
unfolding nack_at
nack_again ballot promised is above typed =
    IsRead-then (allowed_at w64 is_ballot) _ (to_be_bytes w64 ballot) (to_be_bytes w64 promised) ballot (Nack ballot promised) (ballot_again ballot is)
    (IsRead-last (allowed_at w64 (nat_lt ballot)) (Nack ballot) (to_be_bytes w64 promised) promised (allowed_again wide64 (nat_lt ballot) promised typed (lt-ltb ballot promised above)))

ask_again : (first : ℕ) → IsFirst first → IsRead ask_at (content_bytes (Ask first)) (Ask first)
unfolding ask_at
ask_again first from = IsRead-last (allowed_at w32 is_first) Ask (to_be_bytes w32 first) first (first_again first from)

snapshot_again : (deltas : ℕ) (snapshot : List ℕ) → IsInstance deltas → IsValue snapshot → IsRead snapshot_at (content_bytes (Snapshot deltas snapshot)) (Snapshot deltas snapshot)
unfolding snapshot_at
snapshot_again deltas snapshot of few =
    IsRead-then (allowed_at w32 is_instance) _ (to_be_bytes w32 deltas) (value_bytes snapshot) deltas (Snapshot deltas snapshot) (instance_again deltas of)
    (IsRead-last value_at (Snapshot deltas) (value_bytes snapshot) snapshot (value_again snapshot few.few))

pub content_again : (content : Content) → ContentFits content → IsTyped content → IsRead (content_at (kind_of content)) (content_bytes content) content
content_again (Prepare ballot first) fits typed = prepare_again ballot first fits.0 fits.1
content_again (Promise ballot accepted) fits typed = promise_again ballot accepted fits.0 fits.1
content_again (Accept ballot instance value) fits typed = accept_again ballot instance value fits.0 fits.1 fits.2
content_again (Accepted ballot instance) fits typed = accepted_again ballot instance fits.0 fits.1
content_again (Chosen instance value) fits typed = chosen_again instance value fits.0 fits.1
content_again (Nack ballot promised) fits typed = nack_again ballot promised fits.0 fits.1 typed
content_again (Ask first) fits typed = ask_again first fits
content_again (Snapshot deltas snapshot) fits typed = snapshot_again deltas snapshot fits.0 fits.1

pub kind_between : (content : Content) → (1 ≤ kind_of content) × (kind_of content ≤ 8)
kind_between (Prepare ballot first) = (omega arith, omega arith)
kind_between (Promise ballot accepted) = (omega arith, omega arith)
kind_between (Accept ballot instance value) = (omega arith, omega arith)
kind_between (Accepted ballot instance) = (omega arith, omega arith)
kind_between (Chosen instance value) = (omega arith, omega arith)
kind_between (Nack ballot promised) = (omega arith, omega arith)
kind_between (Ask first) = (omega arith, omega arith)
kind_between (Snapshot deltas snapshot) = (omega arith, omega arith)
