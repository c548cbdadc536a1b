-- Messages are read again from their spelling, and no spelling begins another.
use Rattle.std.proofs.Common.{◌≡◌, ◌++◌, Ok, refl, arith}
use Rattle.std.specs.Prelude.{◌==◌}
use Rattle.std.specs.Int.{w8}
use Rattle.rex_ballot.specs.Ballot.{is_node}
use Rattle.rex_ballot.proofs.Numbers.{node-is}
use Rattle.rex_wire.specs.Reading.{allowed_at}
use Rattle.rex_wire.specs.Spelling.{byte}
use Rattle.rex_wire.specs.Ranges.{is_between}
use Rattle.rex_wire.proofs.Fields.{IsRead, IsRead-then, IsRead-last}
use Rattle.rex_wire.proofs.Numbers.{wide8, allowed_again}
use Rattle.rex_wire.proofs.Ranges.{between-is}
use Rattle.rex_wire.proofs.Whole.{whole_again, begins_no_other}
use Rattle.rex_msg.specs.declared.message.Message.{Message}
use Rattle.rex_msg.specs.Laws.{NoSpellingBeginsAnother}
use Rattle.rex_msg.specs.Spelling.{kind_of, content_bytes, spelling_of, HasSpelling}
use Rattle.rex_msg.specs.Reading.{is_other_node, content_at, message_at, message_in}
use Rattle.rex_msg.proofs.Allowed.{other_node-is}
use Rattle.rex_msg.proofs.ContentAgain.{content_again, kind_between}

pub message_again : (m : Message) → HasSpelling m → IsRead message_at (spelling_of m) m
unfolding message_at
message_again m h =
    let kind = kind_of m.content in
    let range = kind_between m.content in
    let t4 = content_bytes m.content in
    let t3 = byte m.to ++ t4 in
    let t2 = byte m.from ++ t3 in
    let t1 = byte kind ++ t2 in
    IsRead-then (allowed_at w8 (λ n. n == 1)) _ (byte 1) t1 1 m (allowed_again wide8 (λ n. n == 1) 1 (omega arith) refl)
    (IsRead-then (allowed_at w8 (is_between 1 8)) _ (byte kind) t2 kind m (allowed_again wide8 (is_between 1 8) kind (omega (arith, range.1)) (between-is 1 8 kind range))
    (IsRead-then (allowed_at w8 is_node) _ (byte m.from) t3 m.from m (allowed_again wide8 is_node m.from (omega (arith, h.message.from.last)) (node-is m.from h.message.from))
    (IsRead-then (allowed_at w8 (is_other_node m.from)) _ (byte m.to) t4 m.to m (allowed_again wide8 (is_other_node m.from) m.to (omega (arith, h.message.to.last)) (other_node-is m.from m.to h.message.to h.message.another))
    (IsRead-last (content_at kind) (λ content. let n : Message = record { from = m.from; to = m.to; content = content } in n) t4 m.content (content_again m.content h.message.content h.typed)))))

pub message_read : (m : Message) → HasSpelling m → message_in (spelling_of m) ≡ Ok m
unfolding message_in
message_read m h = whole_again (message_again m h)

pub another : NoSpellingBeginsAnother
another m n rest hm hn same_bytes = begins_no_other (message_again m hm) (message_again n hn) rest same_bytes
