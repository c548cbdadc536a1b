-- Events that an active node is handed as a block.
use Rattle.std.specs.Prelude.{List, [], ◌∷◌}
use Rattle.rex_syntax.specs.declared.service.Declarations.{Declarations}
use Rattle.rex_event.specs.declared.event.Event.{Event}
use Rattle.rex_record.specs.Block.{taken_all}
use Rattle.rex_cluster.specs.Lanes.{CallHere}
use Rattle.rex_cluster.specs.Takes.{take_event}
use Rattle.rex_node.specs.Parts.{ActingValue}

-- the node is handed the events, one after the other
abbrev pub take_each : Declarations → List Event → CallHere → CallHere
take_each service [] d = d
take_each service (e ∷ es) d = take_each service es (take_event service e d)

-- those that are done join what is executed
abbrev pub given_all : Declarations → ActingValue → List Event → ActingValue
given_all service a es = record a { recorder = taken_all service a.recorder es }
