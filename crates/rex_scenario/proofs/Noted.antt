-- A good text's first line beyond lock words is the one that was noted, and none was noted exactly where its service is plain.
use Rattle.std.proofs.Common.{◌≡◌, ℕ, ◌+◌, Bool, true, false, not, cond, List, [], ◌∷◌, Option, Some, None, Result, Ok, codes, refl, sym, ap, subst, ◌∙◌, inl, inr, ◌⊎◌, ◌↔◌, eqb}
use Rattle.std.specs.Prelude.{◌||◌, find, option_map, option_and_then, is_some, slice_index}
use Rattle.std.specs.Fmt.{digits}
use Rattle.std.specs.Str.{bytes_eq}
use Rattle.std.proofs.lemmas.Bool.{false_from_ne_true}
use Rattle.std.proofs.lemmas.Slice.Eq.{bytes_eq-Decides}
use Rattle.rex_text.specs.Text.{Word, lines_of, words_of, numbered, is_skipped}
use Rattle.rex_text.specs.Numbers.{u64_at}
use Rattle.rex_parse.specs.After.{service_of}
use Rattle.rex_parse.specs.Reading.{raw_code}
use Rattle.rex_scenario.specs.Beyond.{is_beyond, declares_beyond, beyond_words, beyond_after, IsPlain}
use Rattle.rex_scenario.specs.Headings.{is_heading, begun, after_heading, next_stage}
use Rattle.rex_scenario.specs.Requests.{client_of, is_request}
use Rattle.rex_parse.specs.declared.language.Above.{Above}
use Rattle.rex_scenario.specs.Schedule.{lone_step, short_step, long_step, longer_step, plain_step, step_of}
use Rattle.rex_scenario.specs.Reading.{start, is_clean, service_line_code, service_line_after, other_line_code, other_line_after, words_code, after_words, code_in, after_in, line_code, line_after, end_of, or_next, answer_from}
use Rattle.rex_scenario.specs.declared.scenario.ScenarioCode.{ScenarioCode}
use Rattle.rex_scenario.specs.declared.scenario.Sections.{Sections}
use Rattle.rex_scenario.specs.declared.scenario.Stage.{Stage}
use Rattle.rex_scenario.specs.declared.scenario.Stage.TheVariants as stage
use Rattle.rex_scenario.proofs.Fitting.{good_service}
use Rattle.rex_scenario.proofs.Plainness.{is_plain, raw_plain, plain_if, if_plain}

-- ---- the three words

one_of : (a b c : Bool) → (a || (b || c)) ≡ true → (a ≡ true) ⊎ ((b ≡ true) ⊎ (c ≡ true))
one_of true b c e = inl refl
one_of false true c e = inr (inl refl)
one_of false false c e = inr (inr e)

for_each : (P : Word → Type 0) → P (codes "rwlock") → P (codes "cond") → P (codes "sem") → (w : Word) → is_beyond w ≡ true → P w
for_each P r c s w e = by (one_of (bytes_eq w (codes "rwlock")) (bytes_eq w (codes "cond")) (bytes_eq w (codes "sem")) e)
  where
    by : (bytes_eq w (codes "rwlock") ≡ true) ⊎ ((bytes_eq w (codes "cond") ≡ true) ⊎ (bytes_eq w (codes "sem") ≡ true)) → P w
    by (inl h) = subst P (sym ((bytes_eq-Decides w (codes "rwlock")).0 h)) r
    by (inr (inl h)) = subst P (sym ((bytes_eq-Decides w (codes "cond")).0 h)) c
    by (inr (inr h)) = subst P (sym ((bytes_eq-Decides w (codes "sem")).0 h)) s

-- ---- none of them begins a line of another section

no_comment : (w : Word) → is_beyond w ≡ true → eqb (slice_index w 0) 35 ≡ false
no_comment = for_each (λ w. eqb (slice_index w 0) 35 ≡ false) refl refl refl

no_heading : (w : Word) → is_beyond w ≡ true → eqb (slice_index w 0) 37 ≡ false
no_heading = for_each (λ w. eqb (slice_index w 0) 37 ≡ false) refl refl refl

no_client : (w : Word) → is_beyond w ≡ true → is_some (client_of w) ≡ false
unfolding digits
no_client = for_each (λ w. is_some (client_of w) ≡ false) refl refl refl

skipped_differs : (ws : List Word) → is_skipped ws ≡ true → declares_beyond ws ≡ false
skipped_differs [] e = refl
skipped_differs (w ∷ ws) e = false_from_ne_true (is_beyond w) (λ b. let n : eqb (slice_index w 0) 35 ≡ false = no_comment w b in absurd cc)

heading_differs : (ws : List Word) → is_heading ws ≡ true → declares_beyond ws ≡ false
heading_differs [] e = refl
heading_differs (w ∷ ws) e = false_from_ne_true (is_beyond w) (λ b. let n : eqb (slice_index w 0) 37 ≡ false = no_heading w b in absurd cc)

no_request : (w : Word) (ws : List Word) → is_some (client_of w) ≡ false → is_request (w ∷ ws) ≡ false
no_request w [] e = refl
no_request w (s ∷ []) e = refl
no_request w (s ∷ h ∷ ws) e = rw e refl

none_then : {A B : Type 0} (f : A → Option B) (o : Option A) → ((x : A) → f x ≡ None) → option_and_then f o ≡ None
none_then f None h = refl
none_then f (Some x) h = h x

-- a first word that begins no schedule line
record IsNoStep (w : Word) : Type 0 where
  lone : lone_step w ≡ None
  short : (n : ℕ) → short_step w n ≡ None
  longer : (n : ℕ) (u : Word) → longer_step w n u ≡ None
  cut : bytes_eq w (codes "cut") ≡ false
  read : bytes_eq w (codes "read") ≡ false

no_step : (w : Word) → is_beyond w ≡ true → IsNoStep w
no_step = for_each IsNoStep
    (record { lone = refl; short = λ n. refl; longer = λ n u. none_then (long_step (codes "rwlock") n) (u64_at u) (λ m. refl); cut = refl; read = refl })
    (record { lone = refl; short = λ n. refl; longer = λ n u. none_then (long_step (codes "cond") n) (u64_at u) (λ m. refl); cut = refl; read = refl })
    (record { lone = refl; short = λ n. refl; longer = λ n u. none_then (long_step (codes "sem") n) (u64_at u) (λ m. refl); cut = refl; read = refl })

spells_none : (w : Word) (ws : List Word) → IsNoStep w → plain_step (w ∷ ws) ≡ None
spells_none w [] h = h.lone
spells_none w (v ∷ []) h = none_then (short_step w) (u64_at v) h.short
spells_none w (v ∷ u ∷ []) h = rw h.cut (none_then (λ n. longer_step w n u) (u64_at v) (λ n. h.longer n u))
spells_none w (v ∷ u ∷ t ∷ us) h = rw h.cut refl

spells_no_step : (a : Above) (w : Word) (ws : List Word) → IsNoStep w → step_of a (w ∷ ws) ≡ None
spells_no_step a w ws h = rw h.read (spells_none w ws h)

words_differ : (st : Stage) (s : Sections) (ws : List Word) → words_code s st ws ≡ None → declares_beyond ws ≡ false
words_differ stage.Requests s [] e = refl
words_differ stage.Requests s (w ∷ ws) e = false_from_ne_true (is_beyond w) (λ b. absurd (let f = rw (no_request w ws (no_client w b)) at e in cc))
words_differ stage.Schedule s [] e = refl
words_differ stage.Schedule s (w ∷ ws) e = false_from_ne_true (is_beyond w) (λ b. absurd (let f = rw (spells_no_step s.service w ws (no_step w b)) at e in cc))
words_differ stage.Start s ws e = absurd cc
words_differ stage.Nodes s ws e = absurd cc
words_differ stage.Seed s ws e = absurd cc
words_differ stage.Service s ws e = absurd cc

-- ---- what a good line notes

-- the sections declare what others do, and have noted the same
record AreBeside (s t : Sections) : Type 0 where
  service : t.service ≡ s.service
  beyond : t.beyond ≡ s.beyond

begun_beside : (s : Sections) (o : Option Stage) (ws : List Word) → AreBeside s (begun s o ws)
begun_beside s None ws = record { service = refl; beyond = refl }
begun_beside s (Some next) ws = record { service = refl; beyond = refl }

heading_beside : (s : Sections) (ws : List Word) → AreBeside s (after_heading s ws)
heading_beside s [] = record { service = refl; beyond = refl }
heading_beside s (w ∷ ws) = begun_beside s (next_stage s.stage w) ws

words_beside : (st : Stage) (s : Sections) (ws : List Word) → AreBeside s (after_words s st ws)
words_beside stage.Requests s ws = record { service = refl; beyond = refl }
words_beside stage.Schedule s ws = record { service = refl; beyond = refl }
words_beside stage.Start s ws = record { service = refl; beyond = refl }
words_beside stage.Nodes s ws = record { service = refl; beyond = refl }
words_beside stage.Seed s ws = record { service = refl; beyond = refl }
words_beside stage.Service s ws = record { service = refl; beyond = refl }

-- what was noted says whether the service is plain
abbrev IsTold : Sections → Type 0
IsTold s = not (is_some s.beyond) ≡ is_plain s.service

-- a line's words are noted where they declare, and what was noted still says whether the service is plain
record IsNoted (s : Sections) (n : ℕ) (ws : List Word) (t : Sections) : Type 0 where
  beyond : t.beyond ≡ beyond_after s.beyond n ws
  told : IsTold s → IsTold t

unnoted : (o : Option ℕ) (n : ℕ) (ws : List Word) → declares_beyond ws ≡ false → o ≡ beyond_after o n ws
unnoted (Some l) n ws e = refl
unnoted None n ws e = rw e refl

told_beside : (s t : Sections) → AreBeside s t → IsTold s → IsTold t
told_beside s t h told = ap (λ o. not (is_some o)) h.beyond ∙ told ∙ ap is_plain (sym h.service)

-- a line that declares nothing, and leaves what was declared and noted
noted_beside : (s : Sections) (n : ℕ) (ws : List Word) (t : Sections) → AreBeside s t → declares_beyond ws ≡ false → IsNoted s n ws t
noted_beside s n ws t h e = record { beyond = h.beyond ∙ unnoted s.beyond n ws e; told = told_beside s t h }

noted_or_none : (o : Option ℕ) (n : ℕ) (ws : List Word) (b : Bool) → declares_beyond ws ≡ b → not (is_some (beyond_after o n ws)) ≡ cond b false (not (is_some o))
noted_or_none (Some l) n ws true e = refl
noted_or_none (Some l) n ws false e = refl
noted_or_none None n ws true e = rw e refl
noted_or_none None n ws false e = rw e refl

service_noted : (s : Sections) (n : ℕ) (line : List ℕ) (b : Bool) → is_heading (words_of line) ≡ b → service_line_code s line ≡ None → IsNoted s n (words_of line) (service_line_after s n line)
service_noted s n line true h e = rw h (noted_beside s n (words_of line) (after_heading s (words_of line)) (heading_beside s (words_of line)) (heading_differs (words_of line) h))
service_noted s n line false h e =
    let code : raw_code s.service line ≡ None = good_service (raw_code s.service line) (rw h at e) in
    rw h (record {
      beyond = refl;
      told = λ told.
          noted_or_none s.beyond n (words_of line) (declares_beyond (words_of line)) refl
          ∙ ap (λ b. cond (declares_beyond (words_of line)) false b) told
          ∙ sym (raw_plain s.service n line (skipped_differs (words_of line)) code);
    })

other_noted : (s : Sections) (n : ℕ) (line : List ℕ) (clean skipped heading : Bool) → is_clean line ≡ clean → is_skipped (words_of line) ≡ skipped → is_heading (words_of line) ≡ heading
    → other_line_code s line ≡ None → IsNoted s n (words_of line) (other_line_after s line)
other_noted s n line false skipped heading c k h e = absurd (let f = rw c at e in cc)
other_noted s n line true true heading c k h e = rw k (noted_beside s n (words_of line) s (record { service = refl; beyond = refl }) (skipped_differs (words_of line) k))
other_noted s n line true false true c k h e =
    rw (k, h) (noted_beside s n (words_of line) (after_heading s (words_of line)) (heading_beside s (words_of line)) (heading_differs (words_of line) h))
other_noted s n line true false false c k h e =
    let f = rw (c, k, h) at e in
    rw (k, h) (noted_beside s n (words_of line) (after_words s s.stage (words_of line)) (words_beside s.stage s (words_of line)) (words_differ s.stage s (words_of line) f))

noted_in : (st : Stage) (s : Sections) (n : ℕ) (line : List ℕ) → code_in st s line ≡ None → IsNoted s n (words_of line) (after_in st s n line)
noted_in stage.Service s n line e = service_noted s n line (is_heading (words_of line)) refl e
noted_in stage.Start s n line e = other_noted s n line _ _ _ refl refl refl e
noted_in stage.Nodes s n line e = other_noted s n line _ _ _ refl refl refl e
noted_in stage.Seed s n line e = other_noted s n line _ _ _ refl refl refl e
noted_in stage.Requests s n line e = other_noted s n line _ _ _ refl refl refl e
noted_in stage.Schedule s n line e = other_noted s n line _ _ _ refl refl refl e

noted : (s : Sections) (n : ℕ) (line : List ℕ) → line_code s line ≡ None → IsNoted s n (words_of line) (line_after s n line)
noted s n line e = noted_in s.stage s n line e

-- ---- all lines

good_next : (o : Option ScenarioCode) (number : ℕ) (next : Result Sections (ℕ × ScenarioCode)) (t : Sections) → or_next o number next ≡ Ok t → (o ≡ None) × (next ≡ Ok t)
good_next (Some c) number next t e = absurd cc
good_next None number next t e = (refl, e)

-- what was noted, or else the first of numbered lines that declares
abbrev noted_or_first : Option ℕ → List (ℕ × List ℕ) → Option ℕ
noted_or_first (Some l) lines = Some l
noted_or_first None lines = option_map (λ (line : ℕ × List ℕ). line.0) (find (λ (line : ℕ × List ℕ). declares_beyond (words_of line.1)) lines)

first_none : (o : Option ℕ) → o ≡ noted_or_first o []
first_none None = refl
first_none (Some l) = refl

first_more : (o : Option ℕ) (line : ℕ × List ℕ) (rest : List (ℕ × List ℕ)) (b : Bool) → declares_beyond (words_of line.1) ≡ b → noted_or_first (beyond_after o line.0 (words_of line.1)) rest ≡ noted_or_first o (line ∷ rest)
first_more (Some l) line rest b e = refl
first_more None line rest true e = rw e refl
first_more None line rest false e = rw e refl

-- at the end of a good text the first line that declares was noted, and it says whether the service is plain
record IsNotedOf (s : Sections) (lines : List (ℕ × List ℕ)) (t : Sections) : Type 0 where
  beyond : t.beyond ≡ noted_or_first s.beyond lines
  told : IsTold s → IsTold t

all_noted : (s t : Sections) (next : ℕ) (lines : List (ℕ × List ℕ)) → answer_from s next lines ≡ Ok t → IsNotedOf s lines t
unfolding answer_from
all_noted s t next [] e =
    let h = good_next (end_of s s.stage) next (Ok s) t e in
    let ok : (let r : Result Sections (ℕ × ScenarioCode) = Ok s in r) ≡ Ok t = h.1 in
    let same : s ≡ t = cc in
    subst (IsNotedOf s []) same (record { beyond = first_none s.beyond; told = λ told. told })
all_noted s t next (line ∷ rest) e =
    let h = good_next (line_code s line.1) line.0 (answer_from (line_after s line.0 line.1) (line.0 + 1) rest) t e in
    let here = noted s line.0 line.1 h.0 in
    let later = all_noted (line_after s line.0 line.1) t (line.0 + 1) rest h.1 in
    record {
      beyond = later.beyond ∙ ap (λ o. noted_or_first o rest) here.beyond ∙ first_more s.beyond line rest (declares_beyond (words_of line.1)) refl;
      told = λ told. later.told (here.told told);
    }

-- ---- a good text

pub noted_first : (scheduled : Bool) (bytes : List ℕ) (t : Sections) → answer_from (start scheduled) 1 (numbered 1 (lines_of bytes)) ≡ Ok t → t.beyond ≡ beyond_words bytes
noted_first scheduled bytes t e = (all_noted (start scheduled) t 1 (numbered 1 (lines_of bytes)) e).beyond

none_if : (o : Option ℕ) (b : Bool) → not (is_some o) ≡ b → (o ≡ None) ↔ (b ≡ true)
none_if None b e = (λ _. sym e, λ _. refl)
none_if (Some l) b e = (λ n. absurd cc, λ t. absurd cc)

pub noted_plain : (scheduled : Bool) (bytes : List ℕ) (t : Sections) → answer_from (start scheduled) 1 (numbered 1 (lines_of bytes)) ≡ Ok t → (t.beyond ≡ None) ↔ IsPlain (service_of t.service)
noted_plain scheduled bytes t e =
    let told = (all_noted (start scheduled) t 1 (numbered 1 (lines_of bytes)) e).told refl in
    let both = none_if t.beyond (is_plain t.service) told in
    (λ n. plain_if t.service (both.0 n), λ h. both.1 (if_plain t.service h))
