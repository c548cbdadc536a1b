-- What a client is told that reads a variable, and how far it has seen then.
use Rattle.std.specs.Prelude.{ℕ, ℤ, Bool, true, false, nat_lt, if◌then◌else◌}
use Rattle.rex_reads.specs.declared.seen.Read.{Read}
use Rattle.rex_reads.specs.declared.seen.Read.TheVariants.{Down, Primary, Behind, Value}

-- a node that has replayed fewer deltas than the client has seen tells it no value
abbrev pub told_at : ℕ → ℤ → ℕ → Read
told_at replayed value seen = if nat_lt replayed seen then Behind replayed seen else Value value replayed

-- nor does a node that leads
abbrev pub told_unless : Bool → ℕ → ℤ → ℕ → Read
told_unless true replayed value seen = Primary
told_unless false replayed value seen = told_at replayed value seen

-- nor one that is down: what a node answers that is up or down, leads or not, and has this value of the variable after so many replayed deltas
abbrev pub answered : Bool → Bool → ℕ → ℤ → ℕ → Read
answered false leads replayed value seen = Down
answered true leads replayed value seen = told_unless leads replayed value seen

-- a client that is told a value has seen as many deltas as it is told
abbrev pub seen_after : ℕ → Read → ℕ
seen_after seen (Value value number) = number
seen_after seen _ = seen
