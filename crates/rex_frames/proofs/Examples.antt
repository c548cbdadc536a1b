-- Frames that are read, what they ask node 1 of three for, and frames that answer.
use Rattle.std.proofs.Common.{◌≡◌, ℕ, List, [], ◌∷◌, ◌++◌, pos, negsuc, map, refl}
use Rattle.std.specs.Prelude.{codes, drop}
use Rattle.std.specs.Fmt.{digits}
use Rattle.rex_syntax.specs.declared.service.LockKind.TheVariants.{Plain}
use Rattle.rex_syntax.specs.declared.service.Declarations.{Declarations}
use Rattle.rex_msg.specs.declared.message.Message.{Message}
use Rattle.rex_msg.specs.declared.message.Content.TheVariants as content
use Rattle.rex_msg.specs.Reading.{message_in, message_at, prepare_at, promise_at, snapshot_at}
use Rattle.rex_wire.specs.Reading.{value_at, list_at}
use Rattle.rex_report.specs.declared.effect.Effect.TheVariants.{Candidate, Queued, Released}
use Rattle.rex_report.specs.declared.effect.Role.TheVariants.{Active}
use Rattle.rex_frames.specs.declared.asking.Asked.{Asked}
use Rattle.rex_frames.specs.declared.asking.Asked.TheVariants.{Elect, Submit, Run, Turn, Cut, Hear, Foretell, Ask, Read, Look, Nothing}
use Rattle.rex_frames.specs.Frames.{joined_frames, front_of}
use Rattle.rex_frames.specs.Frames.AtFront.{Whole, More, TooLong}
use Rattle.rex_frames.specs.Asking.{asked_in}
use Rattle.rex_frames.specs.Answering.{effect_frame, message_frame, count_frame, letter_frame, status_frame}

-- ---- frames

two : joined_frames (codes "E" ∷ codes "C" ∷ []) ≡ 0 ∷ 0 ∷ 0 ∷ 1 ∷ 69 ∷ 0 ∷ 0 ∷ 0 ∷ 1 ∷ 67 ∷ []
two = refl

first : front_of (0 ∷ 0 ∷ 0 ∷ 1 ∷ 69 ∷ 0 ∷ 0 ∷ 0 ∷ 1 ∷ 67 ∷ []) ≡ Whole (codes "E") (0 ∷ 0 ∷ 0 ∷ 1 ∷ 67 ∷ [])
first = refl

fronts : map front_of ((0 ∷ 0 ∷ 0 ∷ []) ∷ (0 ∷ 0 ∷ 0 ∷ 2 ∷ 69 ∷ []) ∷ (16 ∷ 0 ∷ 0 ∷ 0 ∷ 69 ∷ []) ∷ (16 ∷ 0 ∷ 0 ∷ 1 ∷ 69 ∷ []) ∷ []) ≡ More ∷ More ∷ More ∷ TooLong ∷ []
fronts = refl

-- ---- what is asked for

-- two lanes, a lock, a variable and two handlers, whose lines say nothing here
service : Declarations
service = record {
  lanes = 2;
  locks = (record { name = codes "L"; kind = Plain }) ∷ [];
  semaphores = [];
  conditions = [];
  variables = (record { name = codes "a"; guard = 0; first = pos 0 }) ∷ [];
  handlers =
      (record { name = codes "get"; line_number = 4; parameters = 0; locals = 1; lines = []; line_numbers = [] })
      ∷ (record { name = codes "add"; line_number = 8; parameters = 1; locals = 2; lines = []; line_numbers = [] }) ∷ [];
}

asked : List ℕ → Asked
asked frame = asked_in service 1 3 frame

letters : map asked (codes "E" ∷ codes "C" ∷ codes "T" ∷ [] ∷ codes "X" ∷ codes "EE" ∷ codes "e" ∷ []) ≡ Elect ∷ Cut ∷ Look ∷ Nothing ∷ Nothing ∷ Nothing ∷ Nothing ∷ []
unfolding asked asked_in service digits
letters = refl

requests : map asked (codes "S1 2 add -5" ∷ codes "S256 1000000  get" ∷ []) ≡
    Submit (record { client = 1; sequence = 2; handler = 1; arguments = negsuc 4 ∷ [] })
    ∷ Submit (record { client = 256; sequence = 1000000; handler = 0; arguments = [] }) ∷ []
unfolding asked asked_in service digits
requests = refl

no_requests : map asked (codes "S" ∷ codes "S0 2 add 5" ∷ codes "S257 2 add 5" ∷ codes "S1 0 add 5" ∷ codes "S1 1000001 add 5" ∷ codes "S1 2 sub 5" ∷ codes "S1 2 add" ∷ codes "S1 2 add 5 5" ∷ codes "S1 2 add x" ∷ []) ≡
    Nothing ∷ Nothing ∷ Nothing ∷ Nothing ∷ Nothing ∷ Nothing ∷ Nothing ∷ Nothing ∷ Nothing ∷ []
unfolding asked asked_in service digits
no_requests = refl

-- seven bytes of a clock before its last
abbrev high : ℕ → List ℕ
high b = b ∷ b ∷ b ∷ b ∷ b ∷ b ∷ b ∷ []

turns : map asked ((82 ∷ high 255 ++ 255 ∷ []) ∷ (82 ∷ high 0) ∷ (82 ∷ high 0 ++ 5 ∷ 5 ∷ []) ∷ (76 ∷ 2 ∷ high 0 ++ 5 ∷ []) ∷ (76 ∷ 0 ∷ high 0 ++ 5 ∷ []) ∷ (76 ∷ 3 ∷ high 0 ++ 5 ∷ []) ∷ []) ≡
    Run (negsuc 0) ∷ Nothing ∷ Nothing ∷ Turn 1 (pos 5) ∷ Nothing ∷ Nothing ∷ []
unfolding asked asked_in service
turns = refl

nodes : map asked ((65 ∷ 2 ∷ []) ∷ (65 ∷ 1 ∷ []) ∷ (65 ∷ 0 ∷ []) ∷ (65 ∷ 4 ∷ []) ∷ (65 ∷ 2 ∷ 2 ∷ []) ∷ []) ≡ Ask 2 ∷ Nothing ∷ Nothing ∷ Nothing ∷ Nothing ∷ []
unfolding asked asked_in service
nodes = refl

reads : map asked ((81 ∷ 1 ∷ 0 ∷ 0 ∷ 0 ∷ 0 ∷ 7 ∷ 97 ∷ []) ∷ (81 ∷ 0 ∷ 0 ∷ 0 ∷ 0 ∷ 0 ∷ 7 ∷ 97 ∷ []) ∷ (81 ∷ 1 ∷ 1 ∷ 0 ∷ 0 ∷ 0 ∷ 7 ∷ 97 ∷ []) ∷ (81 ∷ 0 ∷ 1 ∷ 0 ∷ 0 ∷ 0 ∷ 7 ∷ 98 ∷ []) ∷ (81 ∷ 0 ∷ 1 ∷ 0 ∷ 0 ∷ 0 ∷ []) ∷ []) ≡
    Read 256 0 7 ∷ Nothing ∷ Nothing ∷ Nothing ∷ Nothing ∷ []
unfolding asked asked_in service
reads = refl

-- a prepare in a ballot below 256, from instance 1 on
abbrev prepare : ℕ → ℕ → ℕ → List ℕ
prepare from to ballot = 77 ∷ 1 ∷ 1 ∷ from ∷ to ∷ high 0 ++ ballot ∷ 0 ∷ 0 ∷ 0 ∷ 1 ∷ []

-- a promise in it that reports nothing
abbrev promise : ℕ → ℕ → ℕ → List ℕ
promise from to ballot = 77 ∷ 1 ∷ 2 ∷ from ∷ to ∷ high 0 ++ ballot ∷ 0 ∷ 0 ∷ []

-- node 2 asks in its own ballot and answers in the other's; another's node, a node that isn't there, ballots of others, a state, and no message at all
messages : map asked (prepare 2 1 18 ∷ promise 2 1 17 ∷ prepare 2 3 18 ∷ prepare 4 1 20 ∷ prepare 2 1 17 ∷ promise 2 1 18 ∷ (77 ∷ 1 ∷ 8 ∷ 2 ∷ 1 ∷ 0 ∷ 0 ∷ 0 ∷ 2 ∷ 0 ∷ 0 ∷ 0 ∷ 1 ∷ 42 ∷ []) ∷ codes "M" ∷ []) ≡
    Hear (record { from = 2; to = 1; content = content.Prepare 18 1 }) ∷ Hear (record { from = 2; to = 1; content = content.Promise 17 [] })
    ∷ Nothing ∷ Nothing ∷ Nothing ∷ Nothing ∷ Nothing ∷ Nothing ∷ []
unfolding asked asked_in service message_in message_at prepare_at promise_at snapshot_at value_at list_at
messages = refl

-- the same behind the letter that asks what it would release
foretold : map asked ((87 ∷ drop 1 (promise 2 1 17)) ∷ (87 ∷ drop 1 (promise 2 1 18)) ∷ []) ≡ Foretell (record { from = 2; to = 1; content = content.Promise 17 [] }) ∷ Nothing ∷ []
unfolding asked asked_in service message_in message_at promise_at list_at
foretold = refl

-- ---- answers

effects : effect_frame service (Candidate 1 17) ++ (effect_frame service Queued ++ effect_frame service (Released 1 2 (negsuc 4))) ≡
    (0 ∷ 0 ∷ 0 ∷ 27 ∷ codes "enode 1 candidate ballot 17") ++ ((0 ∷ 0 ∷ 0 ∷ 7 ∷ codes "equeued") ++ (0 ∷ 0 ∷ 0 ∷ 16 ∷ codes "ereleased 1 2 -5"))
unfolding service digits
effects = refl

-- node 1 asks node 2 what comes after three instances
sent : Message
sent = record { from = 1; to = 2; content = content.Ask 4 }

message : message_frame sent ≡ 0 ∷ 0 ∷ 0 ∷ 10 ∷ 116 ∷ 2 ∷ 1 ∷ 7 ∷ 1 ∷ 2 ∷ 0 ∷ 0 ∷ 0 ∷ 4 ∷ []
unfolding sent
message = refl

made : count_frame 300 ≡ 0 ∷ 0 ∷ 0 ∷ 5 ∷ 114 ∷ 0 ∷ 0 ∷ 1 ∷ 44 ∷ []
made = refl

unfit : letter_frame 118 ≡ 0 ∷ 0 ∷ 0 ∷ 1 ∷ 118 ∷ []
unfit = refl

status : status_frame (record { role = Active; promised = 17; known = 3; live = 4096 }) ≡ 0 ∷ 0 ∷ 0 ∷ 18 ∷ 122 ∷ 3 ∷ high 0 ++ 17 ∷ 0 ∷ 0 ∷ 0 ∷ 3 ∷ 0 ∷ 0 ∷ 16 ∷ 0 ∷ []
status = refl
