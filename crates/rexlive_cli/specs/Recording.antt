-- How the words of a command line have lanes record, and the histories that they record so.
use Rattle.std.specs.Prelude.{ℕ, List, [], ◌∷◌, Option, Some, None, codes, if◌then◌else◌}
use Rattle.std.specs.Str.{bytes_eq}
use Rattle.rex_syntax.specs.declared.request.Request.{Request}
use Rattle.rex_syntax.specs.declared.service.Declarations.{Declarations}
use Rattle.rex_event.specs.declared.event.Event.{Event}
use Rattle.rex_live.specs.Floor.{IsHistory, dice_of}
use Rattle.rex_words.specs.Histories.{IsRecording}
use Rattle.rexlive_cli.specs.declared.recording.Recording.{Recording}
use Rattle.rexlive_cli.specs.declared.recording.Recording.TheVariants.{Floor, Words}

-- the word after the program's name
abbrev pub recording_named : List ℕ → Option Recording
recording_named word = if bytes_eq word (codes "--words") then Some Words else None

-- the words are the program's name, which no one looks at, alone or with one word
abbrev pub recording_of : List (List ℕ) → Option Recording
recording_of (name ∷ []) = Some Floor
recording_of (name ∷ word ∷ []) = recording_named word
recording_of _ = None

-- the service's lanes recorded this history of the requests so: on a floor, with dice of the seed, or by lock words
abbrev pub IsHistoryBy : Recording → Declarations → List Request → ℕ → List Event → Type 0
IsHistoryBy Floor service requests seed history = IsHistory service requests (dice_of seed) history
IsHistoryBy Words service requests seed history = IsRecording service requests seed history
