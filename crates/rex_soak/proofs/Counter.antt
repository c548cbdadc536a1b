-- The service of the generated scenarios: it counts under a lock.
use Rattle.std.proofs.Common.{◌≡◌, ℕ, true, List, [], ◌∷◌, Some, None, refl}
use Rattle.std.specs.Prelude.{codes, pos}
use Rattle.rex_syntax.specs.declared.expr.Operand.TheVariants.{Local, Variable}
use Rattle.rex_syntax.specs.declared.expr.Operator.TheVariants.{Add}
use Rattle.rex_syntax.specs.declared.line.Line.TheVariants as line
use Rattle.rex_syntax.specs.declared.request.Request.{Request}
use Rattle.rex_syntax.specs.declared.service.LockKind.TheVariants.{Plain}
use Rattle.rex_lockset.specs.Refusal.{refusal_of}
use Rattle.rex_parse.specs.After.{service_of}
use Rattle.rex_parse.specs.declared.language.Above.{Above}
use Rattle.rex_parse.specs.declared.language.Meaning.TheVariants as meaning
use Rattle.rex_schedule.specs.declared.scenario.ScheduleLine.{ScheduleLine}
use Rattle.rex_scenario.specs.declared.scenario.Sections.{Sections}
use Rattle.rex_scenario.specs.declared.scenario.Stage.TheVariants as stage

-- what the lines of the service declare, of which the first is the text's fourth
abbrev pub counter : Above
counter = record {
  lanes = Some 2;
  names = (record { name = codes "L"; meaning = meaning.Lock 0 }) ∷ (record { name = codes "a"; meaning = meaning.Variable 0 }) ∷ (record { name = codes "add"; meaning = meaning.Handler 0 }) ∷ [];
  locks = (record { name = codes "L"; kind = Plain }) ∷ [];
  semaphores = [];
  conditions = [];
  variables = (record { name = codes "a"; guard = 0; first = pos 0 }) ∷ [];
  handlers = (record {
    name = codes "add";
    line_number = 7;
    parameters = 1;
    locals = 2;
    lines =
        line.Acquire 0
        ∷ line.Set 0 (record { first = Variable 0; rest = (record { operator = Add; operand = Local 0 }) ∷ [] })
        ∷ line.Let 1 (record { first = Variable 0; rest = [] })
        ∷ line.Release 0
        ∷ line.Reply (record { first = Local 1; rest = [] })
        ∷ [];
    line_numbers = 8 ∷ 9 ∷ 10 ∷ 11 ∷ 12 ∷ [];
  }) ∷ [];
  locals = [];
  open_handler = None;
}

-- it passes the check
pub counter_passes : refusal_of (service_of counter) ≡ None
counter_passes = refl

-- three nodes, the seed, the service and these requests, and no schedule yet
abbrev pub requesting : ℕ → List Request → Sections
requesting seed requests = record { stage = stage.Requests; scheduled = true; nodes = 3; seed = seed; service = counter; requests = requests; schedule = []; beyond = None }

-- the same with this schedule
abbrev pub scheduling : ℕ → List Request → List ScheduleLine → Sections
scheduling seed requests schedule = record { stage = stage.Schedule; scheduled = true; nodes = 3; seed = seed; service = counter; requests = requests; schedule = schedule; beyond = None }
