-- What a frame asks for, by its letter and what follows it.
use Rattle.std.specs.Prelude.{◌==◌, ◌||◌, Bool, false, ℕ, ℤ, ◌-◌, ◌<◌, ◌≤◌, ◌≢◌, FitsSigned, List, [], ◌∷◌, length, take, drop, nat_le, Option, Some, None, if◌then◌else◌}
use Rattle.std.specs.Option.{option_map_or}
use Rattle.std.specs.Int.{w16, w32, w64, from_be_bytes, cast_signed}
use Rattle.rex_wire.specs.Ranges.{is_between}
use Rattle.rex_event.specs.declared.event.TheConstants.{CLIENTS}
use Rattle.rex_syntax.specs.declared.service.Declarations.{Declarations}
use Rattle.rex_syntax.specs.Typed.{RequestIsTyped}
use Rattle.rex_schedule.specs.Fits.{IsNode, RequestFits}
use Rattle.rex_msg.specs.declared.message.Message.{Message}
use Rattle.rex_frames.specs.declared.asking.Asked.{Asked}
use Rattle.rex_frames.specs.declared.asking.Asked.TheVariants.{Elect, Submit, Run, Turn, Cut, Hear, Foretell, Ask, Read, Look, Nothing}
use Rattle.rex_frames.specs.declared.letters.TheConstants.{ELECT, SUBMIT, RUN, TURN, CUT, HEAR, FORETELL, ASK, READ, LOOK}
use Rattle.rex_frames.specs.Hearing.{HeardFits, heard_in, is_another}
use Rattle.rex_frames.specs.Requests.{request_in, variable_named}

-- ---- by each letter

-- what a letter asks for that nothing follows
abbrev pub asked_alone : ℕ → List ℕ → Asked
asked_alone letter content =
    if length content == 0 then (if letter == ELECT then Elect else if letter == CUT then Cut else if letter == LOOK then Look else Nothing) else Nothing

-- a request: its line
abbrev pub to_submit : Declarations → List ℕ → Asked
to_submit service line = option_map_or Submit (request_in service line) Nothing

-- a clock: eight bytes, and no more, in two's complement
abbrev pub clock_in : List ℕ → Option ℤ
clock_in content = if length content == 8 then Some (cast_signed w64 (from_be_bytes w64 content)) else None

-- turns of the lanes: a clock
abbrev pub to_run : List ℕ → Asked
to_run content = option_map_or Run (clock_in content) Nothing

-- a turn of a lane: its number from 1 in a byte, and a clock
abbrev pub to_turn : ℕ → List ℕ → Asked
to_turn lanes [] = Nothing
to_turn lanes (number ∷ rest) = if is_between 1 lanes number then option_map_or (Turn (number - 1)) (clock_in rest) Nothing else Nothing

-- another node, in a byte
abbrev pub to_ask : ℕ → ℕ → List ℕ → Asked
to_ask id nodes (to ∷ []) = if is_another id nodes to then Ask to else Nothing
to_ask id nodes _ = Nothing

-- what a client asks for that reads: its number is one of a client, and the name is a variable's
abbrev pub read_by : Declarations → ℕ → ℕ → List ℕ → Asked
read_by service client seen name = if is_between 1 CLIENTS client then option_map_or (λ variable. Read client variable seen) (variable_named service name) Nothing else Nothing

-- a read: a client in two bytes, how many agreed deltas it has seen in four, and a variable's name
abbrev pub to_read : Declarations → List ℕ → Asked
to_read service content =
    let rest : List ℕ = drop 2 content in
    if nat_le 6 (length content) then read_by service (from_be_bytes w16 (take 2 content)) (from_be_bytes w32 (take 4 rest)) (drop 4 rest) else Nothing

-- what is asked for of a message, by the letter before it
abbrev pub asked_with : ℕ → Message → Asked
asked_with letter message = if letter == HEAR then Hear message else Foretell message

-- a message that is for the node
abbrev pub to_hear : ℕ → ℕ → ℕ → List ℕ → Asked
to_hear id nodes letter content = option_map_or (asked_with letter) (heard_in id nodes content) Nothing

-- a message follows the letter
abbrev pub is_before_message : ℕ → Bool
is_before_message letter = letter == HEAR || letter == FORETELL

-- what starts with a letter has a message, where that is such a letter
abbrev pub has_message : Option ℕ → Bool
has_message None = false
has_message (Some letter) = is_before_message letter

-- ---- by a whole frame

-- what a letter asks for that no message follows, with what follows it
abbrev pub asked_by : Declarations → ℕ → ℕ → ℕ → List ℕ → Asked
asked_by service id nodes letter content =
    if letter == SUBMIT then to_submit service content
    else if letter == RUN then to_run content
    else if letter == TURN then to_turn service.lanes content
    else if letter == ASK then to_ask id nodes content
    else if letter == READ then to_read service content
    else asked_alone letter content

-- what a frame asks the node of a number for, of so many
unfoldable pub asked_in : Declarations → ℕ → ℕ → List ℕ → Asked
asked_in service id nodes [] = Nothing
asked_in service id nodes (letter ∷ content) =
    if is_before_message letter then to_hear id nodes letter content else asked_by service id nodes letter content

-- ---- what is there

-- a request fits the service, a lane and a variable are the service's, a client is one, a node is another one, a message is for this node, and numbers are of 64 bits
abbrev pub AskedFits : Declarations → ℕ → ℕ → Asked → Type 0
AskedFits service id nodes (Submit request) = RequestFits service request × RequestIsTyped request
AskedFits service id nodes (Run clock) = FitsSigned w64 clock
AskedFits service id nodes (Turn lane clock) = (lane < service.lanes) × FitsSigned w64 clock
AskedFits service id nodes (Hear message) = HeardFits id nodes message
AskedFits service id nodes (Foretell message) = HeardFits id nodes message
AskedFits service id nodes (Ask to) = IsNode nodes to × (to ≢ id)
AskedFits service id nodes (Read client variable seen) = (0 < client) × (client ≤ CLIENTS) × (variable < length service.variables)
AskedFits service id nodes _ = Unit {0}
