-- The frames by which a process answers.
use Rattle.std.specs.Prelude.{ℕ, List, [], ◌∷◌, ◌++◌, drop}
use Rattle.std.specs.Int.{w32, w64, to_be_bytes}
use Rattle.rex_msg.specs.declared.message.Message.{Message}
use Rattle.rex_msg.specs.Spelling.{spelling_of}
use Rattle.rex_report.specs.declared.effect.Effect.{Effect}
use Rattle.rex_report.specs.declared.effect.Role.{Role}
use Rattle.rex_report.specs.declared.effect.Role.TheVariants.{Follower, Candidate, Adopting, Active}
use Rattle.rex_report.specs.Pieces.{spaced}
use Rattle.rex_report.specs.Rows.{effect_words}
use Rattle.rex_syntax.specs.declared.service.Declarations.{Declarations}
use Rattle.rex_frames.specs.declared.answering.Status.{Status}
use Rattle.rex_frames.specs.declared.letters.TheConstants.{EFFECT, MADE, SEND, STATUS}
use Rattle.rex_frames.specs.Frames.{frame_of, framed}

-- the words of an effect with a space between each two
abbrev pub effect_text : Declarations → Effect → List ℕ
effect_text service effect = drop 1 (spaced (effect_words service effect))

-- an effect, as a report line tells it
abbrev pub effect_frame : Declarations → Effect → List ℕ
effect_frame service effect = frame_of (EFFECT ∷ effect_text service effect)

-- a message: the node that it goes to, and its bytes
abbrev pub message_frame : Message → List ℕ
message_frame m = frame_of (SEND ∷ m.to ∷ spelling_of m)

-- how many events the lanes made, in four bytes
abbrev pub count_frame : ℕ → List ℕ
count_frame events = framed (MADE ∷ to_be_bytes w32 events)

-- a letter alone
abbrev pub letter_frame : ℕ → List ℕ
letter_frame letter = framed (letter ∷ [])

-- a role's number
abbrev pub role_code : Role → ℕ
role_code Follower = 0
role_code Candidate = 1
role_code Adopting = 2
role_code Active = 3

-- a promise in eight bytes, and the numbers of known values and of live events in four each
abbrev pub status_numbers : Status → List ℕ
status_numbers s = to_be_bytes w64 s.promised ++ to_be_bytes w32 s.known ++ to_be_bytes w32 s.live

-- what a node is: its role, and these numbers
abbrev pub status_frame : Status → List ℕ
status_frame s = framed (STATUS ∷ role_code s.role ∷ status_numbers s)
