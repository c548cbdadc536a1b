-- Worlds before the first line, and where their nodes keep records.
use Rattle.std.specs.Prelude.{◌≡◌, Bool, true, false}
use Rattle.rex_syntax.specs.declared.service.Declarations.{Declarations}
use Rattle.rex_schedule.specs.declared.scenario.Scenario.{Scenario}
use Rattle.rex_cluster.specs.World.{beginning}
use Rattle.rex_world.specs.declared.world.World.{World}
use Rattle.rex_world.specs.Kept.{IsOf, IsRunning}
use Rattle.rex_world.specs.World.{world_of}
use Rattle.rex_cli.specs.declared.worlds.KeptWorld.{KeptWorld}
use Rattle.rex_cli.specs.declared.worlds.KeptWorld.TheVariants.{Lists, Journals}

-- the nodes' records are in journals
abbrev pub is_in_journals : KeptWorld → Bool
is_in_journals (Lists world) = false
is_in_journals (Journals world) = true

-- the world runs, and is that of the scenario before its first line
abbrev pub HasBegun : {S : Type 0} → Declarations → Scenario → World S → Type 0
HasBegun service s w = IsRunning service w × IsOf s w × (world_of service w ≡ beginning s.nodes)

-- the same of a world of either kind
abbrev pub IsBegun : Declarations → Scenario → KeptWorld → Type 0
IsBegun service s (Lists world) = HasBegun service s world
IsBegun service s (Journals world) = HasBegun service s world
