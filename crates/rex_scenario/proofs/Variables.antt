-- A variable that a good line reads is there.
use Rattle.std.proofs.Common.{◌≡◌, ℕ, ◌<◌, List, [], ◌∷◌, length, Option, Some, None, Bool, true, false, cond}
use Rattle.std.specs.Prelude.{◌&&◌, codes, find, nat_le, option_map, option_and_then, if◌then◌else◌}
use Rattle.std.specs.Str.{bytes_eq}
use Rattle.std.specs.List.{All}
use Rattle.std.proofs.lemmas.Bool.{and_parts, false≢true}
use Rattle.std.proofs.lemmas.List.Elements.{All-append, All-head, All-tail}
use Rattle.rex_text.specs.Text.{Word}
use Rattle.rex_text.specs.Numbers.{u64_at}
use Rattle.rex_parse.specs.Above.{meaning_in}
use Rattle.rex_parse.specs.Good.{IsGood, MeaningFits}
use Rattle.rex_parse.specs.Table.{in_range}
use Rattle.rex_parse.specs.Words.{is_name}
use Rattle.rex_parse.specs.declared.language.Above.{Above}
use Rattle.rex_parse.specs.declared.language.Entry.{Entry}
use Rattle.rex_parse.specs.declared.language.Meaning.{Meaning}
use Rattle.rex_parse.specs.declared.language.Meaning.TheVariants as meaning
use Rattle.rex_scenario.specs.Requests.{client_of}
use Rattle.rex_schedule.specs.Fits.{VariableFits}
use Rattle.rex_scenario.specs.Schedule.{short_step, long_step, kept_at, limits_at, with_limits, cut_step, longer_step, variable_meant, variable_named, read_of, reading, plain_step, step_of, is_there, has_limits, has_form, line_of, step_code, with_step}
use Rattle.rex_schedule.specs.declared.scenario.ScheduleLine.{ScheduleLine}
use Rattle.rex_scenario.specs.declared.schedule.Step.{Step}
use Rattle.rex_scenario.specs.declared.schedule.Step.TheVariants as step
use Rattle.rex_scenario.proofs.Placed.{All-one, no_code}

-- a variable that was found is one of so many
abbrev IsThere : ℕ → Option ℕ → Type 0
IsThere many None = Unit {0}
IsThere many (Some variable) = variable < many

abbrev StepReads : ℕ → Step → Type 0
StepReads many (step.ReadVariable n client found) = IsThere many found
StepReads many _ = Unit {0}

abbrev Reads : ℕ → Option Step → Type 0
Reads many None = Unit {0}
Reads many (Some s) = StepReads many s

-- ---- the name

meant : (a : Above) (m : Meaning) → MeaningFits a m → IsThere (length a.variables) (variable_meant (Some m))
meant a (meaning.Variable n) fit = fit
meant a (meaning.Lock n) fit = tt
meant a (meaning.Semaphore n) fit = tt
meant a (meaning.Condition n) fit = tt
meant a (meaning.Handler n) fit = tt

found_step : (many : ℕ) (b : Bool) (e : Entry) (rest : Option Entry) → IsThere many (variable_meant (Some e.meaning)) → IsThere many (variable_meant (option_map meaning_in rest))
    → IsThere many (variable_meant (option_map meaning_in (cond b (Some e) rest)))
found_step many true e rest here there = here
found_step many false e rest here there = there

found : (a : Above) (p : Entry → Bool) (names : List Entry) → All (λ (e : Entry). MeaningFits a e.meaning) names → IsThere (length a.variables) (variable_meant (option_map meaning_in (find p names)))
found a p [] all = tt
found a p (e ∷ names) all =
    found_step (length a.variables) (p e) e (find p names) (meant a e.meaning (All-head (λ (x : Entry). MeaningFits a x.meaning) e names all))
    (found a p names (All-tail (λ (x : Entry). MeaningFits a x.meaning) e names all))

named : (a : Above) (w : Word) → IsGood a → IsThere (length a.variables) (variable_named a w)
named a w good = found a (λ (e : Entry). bytes_eq e.name w) a.names good.names

-- ---- the words

either : (many : ℕ) (b : Bool) (x y : Option Step) → Reads many x → Reads many y → Reads many (if b then x else y)
either many true x y h k = h
either many false x y h k = k

short : (many : ℕ) (w : Word) (o : Option ℕ) → Reads many (option_and_then (short_step w) o)
short many w None = tt
short many w (Some n) =
    either many (bytes_eq w (codes "elect")) _ _ tt
    (either many (bytes_eq w (codes "cut")) _ _ tt
    (either many (bytes_eq w (codes "deliver")) _ _ tt
    (either many (bytes_eq w (codes "replay")) _ _ tt
    (either many (bytes_eq w (codes "checkpoint")) _ _ tt
    (either many (bytes_eq w (codes "drop")) _ _ tt
    (either many (bytes_eq w (codes "stop")) _ _ tt
    (either many (bytes_eq w (codes "start")) _ _ tt tt)))))))

long : (many : ℕ) (w : Word) (n : ℕ) (o : Option ℕ) → Reads many (option_and_then (long_step w n) o)
long many w n None = tt
long many w n (Some m) = either many (bytes_eq w (codes "submit")) _ _ tt (either many (bytes_eq w (codes "lane")) _ _ tt (either many (bytes_eq w (codes "ask")) _ _ tt tt))

kept : (many n : ℕ) (o : Option Bool) → Reads many (option_map (step.KeepFail n) o)
kept many n None = tt
kept many n (Some b) = tt

longer : (many : ℕ) (w : Word) (o : Option ℕ) (u : Word) → Reads many (option_and_then (λ n. longer_step w n u) o)
longer many w None u = tt
longer many w (Some n) u =
    either many (bytes_eq w (codes "keepfail")) _ _ (kept many n (kept_at u))
    (either many (bytes_eq w (codes "checkpoint")) _ _ (either many (bytes_eq u (codes "old")) _ _ tt tt) (long many w n (u64_at u)))

limited : (many : ℕ) (o : Option ℕ) (l : Option (List ℕ)) → Reads many (with_limits o l)
limited many None l = tt
limited many (Some n) None = tt
limited many (Some n) (Some limits) = tt

cut_words : (many : ℕ) (w v : Word) (us : List Word) → Reads many (cut_step w v us)
cut_words many w v us = either many (bytes_eq w (codes "cut")) _ _ (limited many (u64_at v) (limits_at us)) tt

plain : (many : ℕ) (ws : List Word) → Reads many (plain_step ws)
plain many [] = tt
plain many (w ∷ []) = either many (bytes_eq w (codes "flush")) _ _ tt tt
plain many (w ∷ v ∷ []) = short many w (u64_at v)
plain many (w ∷ v ∷ u ∷ []) = either many (bytes_eq w (codes "cut")) _ _ (cut_words many w v (u ∷ [])) (longer many w (u64_at v) u)
plain many (w ∷ v ∷ u ∷ t ∷ us) = cut_words many w v (u ∷ t ∷ us)

read_by : (many : ℕ) (node client : Option ℕ) (b : Bool) (found : Option ℕ) → IsThere many found → Reads many (read_of node client b found)
read_by many None client b found h = tt
read_by many (Some n) None b found h = tt
read_by many (Some n) (Some client) false found h = tt
read_by many (Some n) (Some client) true found h = h

read : (a : Above) (ws : List Word) → IsGood a → Reads (length a.variables) (reading a ws)
read a [] good = tt
read a (v ∷ []) good = tt
read a (v ∷ u ∷ []) good = tt
read a (v ∷ u ∷ t ∷ []) good = read_by (length a.variables) (u64_at v) (client_of u) (is_name t) (variable_named a t) (named a t good)
read a (v ∷ u ∷ t ∷ s ∷ ws) good = tt

step_reads : (a : Above) (ws : List Word) → IsGood a → Reads (length a.variables) (step_of a ws)
step_reads a [] good = tt
step_reads a (w ∷ ws) good = either (length a.variables) (bytes_eq w (codes "read")) _ _ (read a ws good) (plain (length a.variables) (w ∷ ws))

-- ---- the line

line_reads : (many nodes requests lanes : ℕ) (s : Step) → StepReads many s → is_there nodes requests lanes s ≡ true → VariableFits many (line_of s)
line_reads many nodes requests lanes (step.ReadVariable n client (Some variable)) h e = h
line_reads many nodes requests lanes (step.ReadVariable n client None) h e =
    let q = and_parts (in_range 1 nodes n) (in_range 1 256 client && false) e in
    let r = and_parts (in_range 1 256 client) false q.1 in
    absurd (false≢true r.1)
line_reads many nodes requests lanes _ h e = tt

more_reads : (many : ℕ) (scheduled : Bool) (nodes requests lanes : ℕ) (old : Bool) (earlier : List ScheduleLine) (o : Option Step) → Reads many o → step_code scheduled nodes requests lanes old (length earlier) o ≡ None → All (VariableFits many) earlier
    → All (VariableFits many) (with_step earlier o)
more_reads many scheduled nodes requests lanes old earlier None h e fit = absurd cc
more_reads many scheduled nodes requests lanes old earlier (Some s) h e fit =
    let good = no_code scheduled (nat_le 100000 (length earlier)) (is_there nodes requests lanes s) (has_limits lanes s) (has_form old s) e in
    All-append (VariableFits many) earlier (line_of s ∷ []) fit (All-one (VariableFits many) (line_of s) (line_reads many nodes requests lanes s h good.1.1))

-- the schedule with a good line, where these lines of the service came before
pub variables_fit : (a : Above) (ws : List Word) (scheduled : Bool) (nodes requests lanes : ℕ) (old : Bool) (earlier : List ScheduleLine) → IsGood a
    → step_code scheduled nodes requests lanes old (length earlier) (step_of a ws) ≡ None → All (VariableFits (length a.variables)) earlier → All (VariableFits (length a.variables)) (with_step earlier (step_of a ws))
variables_fit a ws scheduled nodes requests lanes old earlier good e fit = more_reads (length a.variables) scheduled nodes requests lanes old earlier (step_of a ws) (step_reads a ws good) e fit
