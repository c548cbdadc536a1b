-- What words keep beside their table.
use Rattle.std.specs.Prelude.{◌≡◌, ◌+◌, ◌<◌, []}
use Rattle.atomic_table.specs.Seated.{TableId}
use Rattle.atomic_table.specs.declared.shared.Seat.{Seat}
use Rattle.rex_syntax.specs.declared.service.Declarations.{Declarations}
use Rattle.rex_words.specs.declared.assignment.Assignment.{Assignment}
use Rattle.rex_words.specs.declared.table.Words.{Words}
use Rattle.rex_words.specs.declared.view.View.{View}
use Rattle.rex_words.specs.declared.view.Role.TheVariants.{Host}
use Rattle.rex_words.specs.Alone.{service_of}
use Rattle.rex_words.specs.Moment.{locks_in, variables_in, IsAssignment}

-- what is recorded there
abbrev pub assignment_of : Words → Assignment
assignment_of w = w.table.shared.key

-- which table it is
abbrev pub table_of : Words → TableId
table_of w = w.table.shared.table_id

-- the words are for this assignment, one for each lock and each variable, and one more
pub record IsTableOf (r : Assignment) (z : TableId) (service : Declarations) : Type 0 where
  pub right : IsAssignment r
  pub words : locks_in r + variables_in r < z.words
  pub slots : z.slots ≡ 0
  pub service_is : service ≡ service_of r

-- so they are as they were made
pub record IsWords (w : Words) : Type 0 where
  pub whole : IsTableOf (assignment_of w) (table_of w) w.svc.now

-- the host has taken in no lane yet
pub record IsHosting (r : Assignment) (z : TableId) (s : Seat (Unit {0}) View) : Type 0 where
  pub table : s.table_id ≡ z
  pub role : s.me.0.role ≡ Host
  pub key : s.me.0.key ≡ r
  pub gathered : s.me.0.gathered ≡ []
  pub empty : s.me.1 ≡ []
