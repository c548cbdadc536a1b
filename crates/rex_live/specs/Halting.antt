-- Why a lane makes no event.
use Rattle.std.specs.Prelude.{◌≡◌, true, List}
use Rattle.rex_syntax.specs.declared.request.Request.{Request}
use Rattle.rex_syntax.specs.declared.service.Declarations.{Declarations}
use Rattle.rex_live.specs.Floor.{IsOver}
use Rattle.rex_live.specs.Desk.{DeskValue, MayGoOn, IsAbsent, NoneIsAbsent}
use Rattle.rex_live.specs.declared.tries.Halt.{Halt}
use Rattle.rex_live.specs.declared.tries.Halt.TheVariants.{Absent, Stays, Over, GaveUp}

-- that lane may go on, whose thread hasn't begun; a lane may go on, and none whose thread hasn't begun; no lane can go on, or the history is as long as may be; a lane found no memory
abbrev pub Halts : Declarations → List Request → DeskValue → Halt → Type 0
Halts service requests d (Absent lane) = IsAbsent service requests d.floor d.out d.begun lane
Halts service requests d Stays = MayGoOn service requests d.floor d.out × NoneIsAbsent service requests d.floor d.out d.begun
Halts service requests d Over = IsOver service requests d.floor
Halts service requests d GaveUp = d.given_up ≡ true
