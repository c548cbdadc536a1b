-- How many values a node knows.
use Rattle.rex_world.proofs.Common.{◌≡◌, ◌+◌, true, List, length, sym, ◌∙◌, ap, length-append, Declarations, KeeperValue, known, Value, first, first_length, NodeValue, count_of, here_of, knows, records_of}
use Rattle.rex_node.specs.Parts.{IsNode}

count_knows : (past : List Value) (x : NodeValue KeeperValue) → count_of x ≡ length (knows past x)
count_knows past x = ap (λ n. n + length x.known) (sym (first_length x.offset past)) ∙ sym (length-append (first x.offset past) x.known)

-- a node that is up knows as many values as its records say
pub count_known : {service : Declarations} {past : List Value} (x : NodeValue KeeperValue) → IsNode records_of service past x → x.up ≡ true → count_of x ≡ length (known (here_of records_of service past x).log)
count_known {past} x node up = count_knows past x ∙ ap length (node.up up).known
