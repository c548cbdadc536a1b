-- Messages: what is read is spelled so.
use Rattle.std.proofs.Common.{◌≡◌, ℕ, List, Result, sym, subst}
use Rattle.std.specs.Prelude.{◌==◌, IfOk}
use Rattle.std.proofs.lemmas.Bool.{eqb-true}
use Rattle.rex_ballot.specs.Ballot.{is_node}
use Rattle.rex_ballot.proofs.Numbers.{is_node-true}
use Rattle.rex_wire.specs.Spelling.{byte}
use Rattle.rex_wire.specs.declared.fault.DecodeError.{DecodeError}
use Rattle.rex_wire.specs.Decoding.{Gives}
use Rattle.rex_wire.specs.Ranges.{is_between}
use Rattle.rex_wire.proofs.Fields.{IsBytes, is_taken, Takes, Takes-then, IsSpelled, step}
use Rattle.rex_wire.proofs.Numbers.{wide8, allowed_spelled}
use Rattle.rex_wire.proofs.Ranges.{is_between-true}
use Rattle.rex_wire.proofs.Whole.{is_found}
use Rattle.rex_msg.specs.declared.message.Message.{Message}
use Rattle.rex_msg.specs.Spelling.{kind_of, spelling_of, HasSpelling}
use Rattle.rex_msg.specs.Reading.{is_other_node, message_at, message_in}
use Rattle.rex_msg.proofs.Allowed.{is_other_node-true}
use Rattle.rex_msg.proofs.ContentLaws.{content_spelled}

pub message_spelled : IsSpelled message_at spelling_of HasSpelling
unfolding message_at
message_spelled = record {
  takes = λ l x bytes e.
      let version = step (allowed_spelled wide8 (λ n. n == 1)) l _ x bytes e in
      let kind = step (allowed_spelled wide8 (is_between 1 8)) version.left _ x version.takes.bytes version.next in
      let from = step (allowed_spelled wide8 is_node) kind.left _ x kind.takes.bytes kind.next in
      let to = step (allowed_spelled wide8 (is_other_node from.value)) from.left _ x from.takes.bytes from.next in
      let range = is_between-true 1 8 kind.value kind.may in
      let content = step (content_spelled kind.value range.0 range.1) to.left _ x to.takes.bytes to.next in
      let m : Message = record { from = from.value; to = to.value; content = content.value } in
      let first : Takes l (byte 1) version.left = subst (λ (n : ℕ). Takes l (byte n) version.left) (eqb-true version.value 1 version.may) version.takes in
      let second : Takes version.left (byte (kind_of content.value)) kind.left = subst (λ (n : ℕ). Takes version.left (byte n) kind.left) (sym content.may.kind_is) kind.takes in
      let t4 = Takes-then from.left to.left content.left _ _ to.takes content.takes in
      let t3 = Takes-then kind.left from.left content.left _ _ from.takes t4 in
      let t2 = Takes-then version.left kind.left content.left _ _ second t3 in
      let t1 = Takes-then l version.left content.left _ _ first t2 in
      let nodes = is_other_node-true from.value to.value to.may in
      let has : HasSpelling m = record { message = record { from = is_node-true from.value from.may; to = nodes.0; another = nodes.1; content = content.may.fits }; typed = content.may.typed } in
      is_taken spelling_of HasSpelling l (m, content.left) x content.next (t1, has);
}

-- what is read of all of the bytes is spelled so
pub message_is_found : (bytes : List ℕ) (r : Result Message DecodeError) → IsBytes bytes → Gives r (message_in bytes) → IfOk r (λ m. HasSpelling m × (bytes ≡ spelling_of m))
unfolding message_in
message_is_found bytes r fits given = is_found message_spelled bytes r fits given
