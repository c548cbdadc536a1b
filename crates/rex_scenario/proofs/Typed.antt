-- Each number of the service and of the requests that a text says is one of 64 bits.
use Rattle.std.proofs.Common.{◌≡◌, ℕ, ◌+◌, Bool, true, false, List, [], ◌∷◌, length, map, Option, Some, None, Result, Ok, Err, refl, subst, w64}
use Rattle.std.specs.Prelude.{FitsSigned, nat_lt, if◌then◌else◌}
use Rattle.std.specs.List.{All}
use Rattle.std.proofs.lemmas.List.Elements.{All-nil, All-cons, All-push}
use Rattle.rex_text.specs.Text.{Word, words_of, lines_of, numbered, is_skipped}
use Rattle.rex_syntax.specs.declared.request.Request.{Request}
use Rattle.rex_syntax.specs.Typed.{RequestIsTyped}
use Rattle.rex_parse.specs.After.{service_of}
use Rattle.rex_parse.specs.declared.language.Above.{Above}
use Rattle.rex_parse.proofs.Typed.{AboveIsTyped, number_fits, nothing_typed, raw_typed, service_typed}
use Rattle.rex_schedule.specs.Typed.{ScenarioIsTyped}
use Rattle.rex_scenario.specs.Headings.{is_heading, begun, after_heading, next_stage}
use Rattle.rex_scenario.specs.Requests.{argument_of, request_of}
use Rattle.rex_scenario.specs.Reading.{start, service_line_after, other_line_after, after_words, after_in, line_code, line_after, end_of, or_next, answer_from, scenario_of}
use Rattle.rex_scenario.specs.Law.{ScenariosAreTyped}
use Rattle.rex_scenario.specs.declared.scenario.ScenarioCode.{ScenarioCode}
use Rattle.rex_scenario.specs.declared.scenario.ScenarioCode.TheVariants.{TooLong}
use Rattle.rex_scenario.specs.declared.scenario.Sections.{Sections}
use Rattle.rex_scenario.specs.declared.scenario.Stage.{Stage}
use Rattle.rex_scenario.specs.declared.scenario.Stage.TheVariants as stage

-- ---- requests

arguments_typed : (ws : List Word) → All (FitsSigned w64) (map argument_of ws)
arguments_typed [] = All-nil (FitsSigned w64)
arguments_typed (w ∷ ws) = All-cons (FitsSigned w64) (argument_of w) (map argument_of ws) (number_fits w) (arguments_typed ws)

request_typed : (a : Above) (ws : List Word) → RequestIsTyped (request_of a ws)
request_typed a [] = record { arguments = All-nil (FitsSigned w64) }
request_typed a (c ∷ []) = record { arguments = All-nil (FitsSigned w64) }
request_typed a (c ∷ s ∷ []) = record { arguments = All-nil (FitsSigned w64) }
request_typed a (c ∷ s ∷ h ∷ ws) = record { arguments = arguments_typed ws }

-- ---- what was said

-- each number of what is declared, and of requests, is of 64 bits
record AreTyped (a : Above) (requests : List Request) : Type 0 where
  declared : AboveIsTyped a
  arguments : All RequestIsTyped requests

abbrev SectionsAreTyped : Sections → Type 0
SectionsAreTyped s = AreTyped s.service s.requests

begun_typed : (s : Sections) (o : Option Stage) (ws : List Word) → SectionsAreTyped s → SectionsAreTyped (begun s o ws)
begun_typed s None ws t = t
begun_typed s (Some next) ws t = t

heading_typed : (s : Sections) (ws : List Word) → SectionsAreTyped s → SectionsAreTyped (after_heading s ws)
heading_typed s [] t = t
heading_typed s (w ∷ ws) t = begun_typed s (next_stage s.stage w) ws t

service_line_typed : (s : Sections) (number : ℕ) (line : List ℕ) (heading : Bool) → is_heading (words_of line) ≡ heading → SectionsAreTyped s → SectionsAreTyped (service_line_after s number line)
service_line_typed s number line true h t = rw h (heading_typed s (words_of line) t)
service_line_typed s number line false h t = rw h (record { declared = raw_typed s.service number line t.declared; arguments = t.arguments })

words_typed : (st : Stage) (s : Sections) (ws : List Word) → SectionsAreTyped s → SectionsAreTyped (after_words s st ws)
words_typed stage.Requests s ws t = record { declared = t.declared; arguments = All-push RequestIsTyped s.requests (request_of s.service ws) t.arguments (request_typed s.service ws) }
words_typed stage.Schedule s ws t = t
words_typed stage.Start s ws t = t
words_typed stage.Nodes s ws t = t
words_typed stage.Seed s ws t = t
words_typed stage.Service s ws t = t

other_line_typed : (s : Sections) (line : List ℕ) (skipped heading : Bool) → is_skipped (words_of line) ≡ skipped → is_heading (words_of line) ≡ heading → SectionsAreTyped s → SectionsAreTyped (other_line_after s line)
other_line_typed s line true heading k h t = rw k t
other_line_typed s line false true k h t = rw (k, h) (heading_typed s (words_of line) t)
other_line_typed s line false false k h t = rw (k, h) (words_typed s.stage s (words_of line) t)

typed_in : (st : Stage) (s : Sections) (number : ℕ) (line : List ℕ) → SectionsAreTyped s → SectionsAreTyped (after_in st s number line)
typed_in stage.Service s number line t = service_line_typed s number line _ refl t
typed_in stage.Start s number line t = other_line_typed s line _ _ refl refl t
typed_in stage.Nodes s number line t = other_line_typed s line _ _ refl refl t
typed_in stage.Seed s number line t = other_line_typed s line _ _ refl refl t
typed_in stage.Requests s number line t = other_line_typed s line _ _ refl refl t
typed_in stage.Schedule s number line t = other_line_typed s line _ _ refl refl t

-- ---- whole texts

good_next : (o : Option ScenarioCode) (number : ℕ) (next : Result Sections (ℕ × ScenarioCode)) (t : Sections) → or_next o number next ≡ Ok t → next ≡ Ok t
good_next (Some c) number next t e = absurd cc
good_next None number next t e = e

answer_typed : (s u : Sections) (next : ℕ) (lines : List (ℕ × List ℕ)) → SectionsAreTyped s → answer_from s next lines ≡ Ok u → SectionsAreTyped u
unfolding answer_from
answer_typed s u next [] t e =
    let ok : (let r : Result Sections (ℕ × ScenarioCode) = Ok s in r) ≡ Ok u = good_next (end_of s s.stage) next (Ok s) u e in
    let same : s ≡ u = cc in
    subst SectionsAreTyped same t
answer_typed s u next (l ∷ rest) t e =
    answer_typed (line_after s l.0 l.1) u (l.0 + 1) rest (typed_in s.stage s l.0 l.1 t) (good_next (line_code s l.1) l.0 (answer_from (line_after s l.0 l.1) (l.0 + 1) rest) u e)

-- the scenario of a good text
pub scenario_typed : (scheduled : Bool) (bytes : List ℕ) (s : Sections) → answer_from (start scheduled) 1 (numbered 1 (lines_of bytes)) ≡ Ok s → ScenarioIsTyped (service_of s.service) (scenario_of s)
scenario_typed scheduled bytes s e =
    let t = answer_typed (start scheduled) s 1 (numbered 1 (lines_of bytes)) (record { declared = nothing_typed; arguments = All-nil RequestIsTyped }) e in
    record { numbers = service_typed s.service t.declared; arguments = t.arguments }

by_length : (long : Bool) (other : ℕ × ScenarioCode) (r : Result Sections (ℕ × ScenarioCode)) (s : Sections) → (if long then Err other else r) ≡ Ok s → r ≡ Ok s
by_length true other r s e = absurd cc
by_length false other r s e = e

pub scenarios_typed : ScenariosAreTyped
scenarios_typed scheduled bytes s e =
    scenario_typed scheduled bytes s (by_length (nat_lt 4194304 (length bytes)) (0, TooLong) (answer_from (start scheduled) 1 (numbered 1 (lines_of bytes))) s e)
