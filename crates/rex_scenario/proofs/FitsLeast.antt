-- The code answered for a line of a scenario is the least of those that fit it.
use Rattle.std.proofs.Common.{◌≡◌, ◌≢◌, ℕ, ◌≤◌, ◌⊎◌, List, [], ◌∷◌, Some, None, Bool, true, false, refl, sym, ap, subst, ◌∙◌, arith, inl, inr}
use Rattle.std.specs.Prelude.{◌==◌, not, slice_index, if◌then◌else◌}
use Rattle.std.specs.Bool.{IsFalse}
use Rattle.std.specs.List.{AllPass, Any}
use Rattle.std.proofs.lemmas.Bool.Decides.{nat_tests}
use Rattle.std.proofs.lemmas.List.Sums.{AllPass-from_list_all}
use Rattle.rex_text.specs.Text.{Word, words_of, is_skipped, is_allowed}
use Rattle.rex_parse.specs.Words as words
use Rattle.rex_parse.specs.Fitting as service
use Rattle.rex_parse.specs.Reading.{raw_code, end_code}
use Rattle.rex_parse.specs.declared.language.ServiceCode.{ServiceCode}
use Rattle.rex_parse.proofs.WeighsBy.{by_same, weighs_by}
use Rattle.rex_parse.proofs.FitsLeast as fits_least
use Rattle.rex_scenario.specs.Headings.{is_heading, heading_code}
use Rattle.rex_scenario.specs.Requests.{or_code}
use Rattle.rex_scenario.specs.Reading.{is_clean, of_service, service_end_code, words_code, other_line_code, code_in, line_code, end_of}
use Rattle.rex_scenario.specs.Fitting.{IsBeforeService, FitsStage, FitsWords, Fits, FitsEnd}
use Rattle.rex_scenario.specs.LeastCode.{rank, LinesGetTheLeast, EndsGetTheLeast}
use Rattle.rex_scenario.specs.declared.scenario.ScenarioCode.{ScenarioCode}
use Rattle.rex_scenario.specs.declared.scenario.ScenarioCode.TheVariants.{Service, TooLong, BadByte, OutOfPlace, BadHeading}
use Rattle.rex_scenario.specs.declared.scenario.Sections.{Sections}
use Rattle.rex_scenario.specs.declared.scenario.Stage.{Stage}
use Rattle.rex_scenario.specs.declared.scenario.Stage.TheVariants as stage
use Rattle.rex_scenario.proofs.Weighed.{Weighs, weighs_first, OfService, weighs_service, least_of, service_rank, clash}
use Rattle.rex_scenario.proofs.PartsWeighed.{FitsHeading, heading_weighed, request_weighed, step_weighed}

-- ---- the words of a line

-- of a heading
heading_to : (s : Sections) (w : Word) (ws : List Word) → is_heading (w ∷ ws) ≡ true → (c : ScenarioCode) → FitsHeading s.stage w ws c → FitsWords s w ws c
heading_to s w ws t OutOfPlace h = inl (t, h)
heading_to s w ws t BadHeading h = (t, h.0, h.1, h.2)
heading_to s w ws t _ h = absurd h

heading_from : (s : Sections) (w : Word) (ws : List Word) → is_heading (w ∷ ws) ≡ true → (c : ScenarioCode) → FitsWords s w ws c → FitsHeading s.stage w ws c
heading_from s w ws t OutOfPlace (inl h) = h.1
heading_from s w ws t OutOfPlace (inr h) = absurd (clash (is_heading (w ∷ ws)) t h.0)
heading_from s w ws t BadHeading h = (h.1, h.2, h.3)
heading_from s w ws t _ h = absurd (clash (is_heading (w ∷ ws)) t h.0)

heading_words : (s : Sections) (w : Word) (ws : List Word) → is_heading (w ∷ ws) ≡ true → Weighs (FitsWords s w ws) (heading_code s.stage (w ∷ ws))
heading_words s w ws t = by_same rank (FitsHeading s.stage w ws) (FitsWords s w ws) _ (heading_to s w ws t) (heading_from s w ws t) (heading_weighed s.stage w ws)

-- of another line, in the requests or the schedule
stage_to : (s : Sections) (w : Word) (ws : List Word) (st : Stage) → s.stage ≡ st → is_heading (w ∷ ws) ≡ false → ¬ (FitsStage s st (w ∷ ws) OutOfPlace) → ¬ (FitsStage s st (w ∷ ws) BadHeading)
    → (c : ScenarioCode) → FitsStage s st (w ∷ ws) c → FitsWords s w ws c
stage_to s w ws st at f place heading OutOfPlace h = absurd (place h)
stage_to s w ws st at f place heading BadHeading h = absurd (heading h)
stage_to s w ws st at f place heading c h = (f, subst (λ (x : Stage). FitsStage s x (w ∷ ws) c) (sym at) h)

stage_from : (s : Sections) (w : Word) (ws : List Word) (st : Stage) → s.stage ≡ st → is_heading (w ∷ ws) ≡ false → ¬ (IsBeforeService st) → (c : ScenarioCode) → FitsWords s w ws c → FitsStage s st (w ∷ ws) c
stage_from s w ws st at f later OutOfPlace (inl h) = absurd (clash (is_heading (w ∷ ws)) h.0 f)
stage_from s w ws st at f later OutOfPlace (inr h) = absurd (later (subst IsBeforeService at h.1))
stage_from s w ws st at f later BadHeading h = absurd (clash (is_heading (w ∷ ws)) h.0 f)
stage_from s w ws st at f later c h = subst (λ (x : Stage). FitsStage s x (w ∷ ws) c) at h.1

-- before the service nothing but S3 fits
before_none : (s : Sections) (st : Stage) → IsBeforeService st → (ws : List Word) (c : ScenarioCode) → ¬ (FitsStage s st ws c)
before_none s stage.Start b ws c h = h
before_none s stage.Nodes b ws c h = h
before_none s stage.Seed b ws c h = h
before_none s _ b ws c h = b

before_least : (s : Sections) (w : Word) (ws : List Word) → IsBeforeService s.stage → (d : ScenarioCode) → FitsWords s w ws d → rank OutOfPlace ≤ rank d
before_least s w ws b (Service c) h = absurd (before_none s s.stage b (w ∷ ws) (Service c) h.1)
before_least s w ws b TooLong h = absurd (before_none s s.stage b (w ∷ ws) TooLong h.1)
before_least s w ws b BadByte h = absurd (before_none s s.stage b (w ∷ ws) BadByte h.1)
before_least s w ws b _ h = omega arith

early : (s : Sections) (w : Word) (ws : List Word) → is_heading (w ∷ ws) ≡ false → IsBeforeService s.stage → Weighs (FitsWords s w ws) (Some OutOfPlace)
early s w ws f b = (inr (f, b), before_least s w ws b)

never : ⊥ → ⊥
never h = h

stage_words : (s : Sections) (w : Word) (ws : List Word) (st : Stage) → s.stage ≡ st → st ≢ stage.Service → is_heading (w ∷ ws) ≡ false → Weighs (FitsWords s w ws) (words_code s st (w ∷ ws))
stage_words s w ws stage.Start at other f = early s w ws f (subst IsBeforeService (sym at) tt)
stage_words s w ws stage.Nodes at other f = early s w ws f (subst IsBeforeService (sym at) tt)
stage_words s w ws stage.Seed at other f = early s w ws f (subst IsBeforeService (sym at) tt)
stage_words s w ws stage.Service at other f = absurd (other refl)
stage_words s w ws stage.Requests at other f =
    by_same rank (FitsStage s stage.Requests (w ∷ ws)) (FitsWords s w ws) _ (stage_to s w ws stage.Requests at f never never) (stage_from s w ws stage.Requests at f never) (request_weighed s.service s.requests (w ∷ ws))
stage_words s w ws stage.Schedule at other f =
    by_same rank (FitsStage s stage.Schedule (w ∷ ws)) (FitsWords s w ws) _ (stage_to s w ws stage.Schedule at f never never) (stage_from s w ws stage.Schedule at f never) (step_weighed s (w ∷ ws))

words_by : (s : Sections) (w : Word) (ws : List Word) (t : Bool) → s.stage ≢ stage.Service → is_heading (w ∷ ws) ≡ t → Weighs (FitsWords s w ws) (if t then heading_code s.stage (w ∷ ws) else words_code s s.stage (w ∷ ws))
words_by s w ws true other e = heading_words s w ws e
words_by s w ws false other e = stage_words s w ws s.stage refl other e

-- ---- a line

-- no words fit a code of the service, S1 or S2
stage_service : (s : Sections) (st : Stage) (ws : List Word) (c : ServiceCode) → ¬ (FitsStage s st ws (Service c))
stage_service s stage.Requests ws c h = h
stage_service s stage.Schedule ws c h = h
stage_service s _ ws c h = h

stage_long : (s : Sections) (st : Stage) (ws : List Word) → ¬ (FitsStage s st ws TooLong)
stage_long s stage.Requests ws h = h
stage_long s stage.Schedule ws h = h
stage_long s _ ws h = h

stage_byte : (s : Sections) (st : Stage) (ws : List Word) → ¬ (FitsStage s st ws BadByte)
stage_byte s stage.Requests ws h = h
stage_byte s stage.Schedule ws h = h
stage_byte s _ ws h = h

line_to : (s : Sections) (line : List ℕ) (w : Word) (ws : List Word) → service.HasWords line w ws → (c : ScenarioCode) → FitsWords s w ws c → Fits s line c
line_to s line w ws h (Service c) f = absurd (stage_service s s.stage (w ∷ ws) c f.1)
line_to s line w ws h TooLong f = absurd (stage_long s s.stage (w ∷ ws) f.1)
line_to s line w ws h BadByte f = absurd (stage_byte s s.stage (w ∷ ws) f.1)
line_to s line w ws h _ f = (w, ws, h, f)

moved : (s : Sections) (line : List ℕ) (w v : Word) (ws vs : List Word) (c : ScenarioCode) → service.HasWords line w ws → service.HasWords line v vs → FitsWords s v vs c → FitsWords s w ws c
moved s line w v ws vs c h g f =
    let same : (v ≡ w) × (vs ≡ ws) = fits_least.one_line line w v ws vs h.words g in
    subst (λ (x : Word). FitsWords s x ws c) same.0 (subst (λ (xs : List Word). FitsWords s v xs c) same.1 f)

-- ---- outside the service

outside_from : (s : Sections) (line : List ℕ) (w : Word) (ws : List Word) → s.stage ≢ stage.Service → service.HasWords line w ws → (c : ScenarioCode) → Fits s line c → FitsWords s w ws c
outside_from s line w ws other h (Service c) f = absurd (other f.0)
outside_from s line w ws other h TooLong f = absurd f
outside_from s line w ws other h BadByte f = absurd (fits_least.none_bad line h.allowed f.1)
outside_from s line w ws other h c (v, vs, g, f) = moved s line w v ws vs c h g f

bad_outside : (s : Sections) (line : List ℕ) → s.stage ≢ stage.Service → (d : ScenarioCode) → Fits s line d → rank BadByte ≤ rank d
bad_outside s line other (Service c) f = absurd (other f.0)
bad_outside s line other TooLong f = absurd f
bad_outside s line other _ f = omega arith

skipped_none : (s : Sections) (line : List ℕ) → s.stage ≢ stage.Service → AllPass is_allowed line → is_skipped (words_of line) ≡ true → (d : ScenarioCode) → ¬ (Fits s line d)
skipped_none s line other all e (Service c) f = other f.0
skipped_none s line other all e TooLong f = f
skipped_none s line other all e BadByte f = fits_least.none_bad line all f.1
skipped_none s line other all e _ f = clash (is_skipped (words_of line)) e f.2.meant

read_by : (s : Sections) (line : List ℕ) (ws : List Word) → s.stage ≢ stage.Service → AllPass is_allowed line → is_skipped (words_of line) ≡ false → words_of line ≡ ws
    → Weighs (Fits s line) (if is_heading ws then heading_code s.stage ws else words_code s s.stage ws)
read_by s line [] other all e is = let empty : is_skipped (words_of line) ≡ true = ap is_skipped is in absurd (clash (is_skipped (words_of line)) empty e)
read_by s line (w ∷ ws) other all e is =
    let h : service.HasWords line w ws = record { allowed = all; meant = e; words = is } in
    by_same rank (FitsWords s w ws) (Fits s line) _ (line_to s line w ws h) (outside_from s line w ws other h) (words_by s w ws (is_heading (w ∷ ws)) other refl)

skip_by : (s : Sections) (line : List ℕ) (t : Bool) → s.stage ≢ stage.Service → AllPass is_allowed line → is_skipped (words_of line) ≡ t
    → Weighs (Fits s line) (if t then None else if is_heading (words_of line) then heading_code s.stage (words_of line) else words_code s s.stage (words_of line))
skip_by s line true other all e = skipped_none s line other all e
skip_by s line false other all e = read_by s line (words_of line) other all e refl

clean_by : (s : Sections) (line : List ℕ) (t : Bool) → s.stage ≢ stage.Service → is_clean line ≡ t
    → Weighs (Fits s line) (if not t then Some BadByte else if is_skipped (words_of line) then None else if is_heading (words_of line) then heading_code s.stage (words_of line) else words_code s s.stage (words_of line))
clean_by s line true other e = skip_by s line (is_skipped (words_of line)) other (AllPass-from_list_all is_allowed line e) refl
clean_by s line false other e = ((inl other, fits_least.any_bad line e), bad_outside s line other)

outside : (s : Sections) (line : List ℕ) → s.stage ≢ stage.Service → Weighs (Fits s line) (other_line_code s line)
outside s line other = clean_by s line (is_clean line) other refl

-- ---- in the service

abbrev OfLine : Sections → List ℕ → ScenarioCode → Type 0
OfLine s line c = OfService (service.Fits s.service line) c

inside_to : (s : Sections) (line : List ℕ) → s.stage ≡ stage.Service → is_heading (words_of line) ≡ false → (c : ScenarioCode) → OfLine s line c → Fits s line c
inside_to s line at f (Service c) h = (at, inr (f, h))
inside_to s line at f _ h = absurd h

no_heading : (line : List ℕ) (w : Word) (ws : List Word) → service.HasWords line w ws → is_heading (words_of line) ≡ false → is_heading (w ∷ ws) ≡ false
no_heading line w ws h f = ap is_heading (sym h.words) ∙ f

service_none : (s : Sections) (st : Stage) (w : Word) (ws : List Word) → st ≡ stage.Service → (c : ScenarioCode) → ¬ (FitsStage s st (w ∷ ws) c)
service_none s st w ws at c h = subst (λ (x : Stage). FitsStage s x (w ∷ ws) c) at h

inside_words : (s : Sections) (w : Word) (ws : List Word) → s.stage ≡ stage.Service → is_heading (w ∷ ws) ≡ false → (c : ScenarioCode) → ¬ (FitsWords s w ws c)
inside_words s w ws at f OutOfPlace (inl h) = clash (is_heading (w ∷ ws)) h.0 f
inside_words s w ws at f OutOfPlace (inr h) = subst IsBeforeService at h.1
inside_words s w ws at f BadHeading h = clash (is_heading (w ∷ ws)) h.0 f
inside_words s w ws at f c h = service_none s s.stage w ws at c h.1

inside_from : (s : Sections) (line : List ℕ) → s.stage ≡ stage.Service → is_heading (words_of line) ≡ false → (c : ScenarioCode) → Fits s line c → OfLine s line c
inside_from s line at f (Service c) h = elim h.1 [ inl x ↦ absurd (clash (is_heading (words_of line)) x.0 f) | inr y ↦ y.1 ]
inside_from s line at f TooLong h = h
inside_from s line at f BadByte h = elim h.0 [ inl other ↦ other at | inr t ↦ clash (is_heading (words_of line)) t f ]
inside_from s line at f c h = absurd (inside_words s h.0 h.1 at (no_heading line h.0 h.1 h.2 f) c h.3)

inside : (s : Sections) (line : List ℕ) → s.stage ≡ stage.Service → is_heading (words_of line) ≡ false → Weighs (Fits s line) (of_service (raw_code s.service line))
inside s line at f =
    by_same rank (OfLine s line) (Fits s line) _ (inside_to s line at f) (inside_from s line at f)
    (weighs_service (service.Fits s.service line) (raw_code s.service line) (weighs_by words.rank (service.Fits s.service line) (raw_code s.service line) (fits_least.lines_get_the_least s.service line)))

-- ---- a heading that ends the service

abbrev OfEnd : Sections → ScenarioCode → Type 0
OfEnd s c = OfService (service.FitsEnd s.service) c

end_weighed : (s : Sections) → Weighs (OfEnd s) (of_service (end_code s.service))
end_weighed s = weighs_service (service.FitsEnd s.service) (end_code s.service) (weighs_by words.rank (service.FitsEnd s.service) (end_code s.service) (fits_least.ends_get_the_least s.service))

end_first : (s : Sections) (Q : ScenarioCode → Type 0) → ((d : ScenarioCode) → Q d → 15 ≤ rank d) → (c d : ScenarioCode) → OfEnd s c → Q d → rank c ≤ rank d
end_first s Q late (Service c) d p q = let low : rank (Service c) ≤ 14 = service_rank c in let high : 15 ≤ rank d = late d q in omega arith
end_first s Q late _ d p q = absurd p

abbrev BadOne : List ℕ → ScenarioCode → Type 0
BadOne line c = (c ≡ BadByte) × Any (λ b. IsFalse (is_allowed b)) line

bad_one : (line : List ℕ) → is_clean line ≡ false → Weighs (BadOne line) (Some BadByte)
bad_one line e = ((refl, fits_least.any_bad line e), λ d h. rw h.0 (omega arith))

bad_late : (line : List ℕ) (d : ScenarioCode) → BadOne line d → 15 ≤ rank d
bad_late line d h = rw h.0 (omega arith)

unclean : (line : List ℕ) → is_clean line ≡ false → ¬ (AllPass is_allowed line)
unclean line e all = fits_least.none_bad line all (fits_least.any_bad line e)

bad_to : (s : Sections) (line : List ℕ) → s.stage ≡ stage.Service → is_heading (words_of line) ≡ true → (c : ScenarioCode) → OfEnd s c ⊎ BadOne line c → Fits s line c
bad_to s line at t (Service c) (inl h) = (at, inl (t, h))
bad_to s line at t c (inr h) = subst (Fits s line) (sym h.0) (inr t, h.1)
bad_to s line at t _ (inl h) = absurd h

bad_from : (s : Sections) (line : List ℕ) → is_heading (words_of line) ≡ true → is_clean line ≡ false → (c : ScenarioCode) → Fits s line c → OfEnd s c ⊎ BadOne line c
bad_from s line t e (Service c) (at, inl h) = inl h.1
bad_from s line t e (Service c) (at, inr h) = absurd (clash (is_heading (words_of line)) t h.0)
bad_from s line t e TooLong h = absurd h
bad_from s line t e BadByte h = inr (refl, h.1)
bad_from s line t e _ h = absurd (unclean line e h.2.allowed)

good_late : (s : Sections) (w : Word) (ws : List Word) (d : ScenarioCode) → FitsWords s w ws d → 15 ≤ rank d
good_late s w ws (Service c) h = absurd (stage_service s s.stage (w ∷ ws) c h.1)
good_late s w ws _ h = omega arith

good_to : (s : Sections) (line : List ℕ) (w : Word) (ws : List Word) → s.stage ≡ stage.Service → is_heading (words_of line) ≡ true → service.HasWords line w ws → (c : ScenarioCode) → OfEnd s c ⊎ FitsWords s w ws c → Fits s line c
good_to s line w ws at t h (Service c) (inl f) = (at, inl (t, f))
good_to s line w ws at t h c (inr f) = line_to s line w ws h c f
good_to s line w ws at t h _ (inl f) = absurd f

good_from : (s : Sections) (line : List ℕ) (w : Word) (ws : List Word) → is_heading (words_of line) ≡ true → service.HasWords line w ws → (c : ScenarioCode) → Fits s line c → OfEnd s c ⊎ FitsWords s w ws c
good_from s line w ws t h (Service c) f = elim f.1 [ inl x ↦ inl x.1 | inr y ↦ absurd (clash (is_heading (words_of line)) t y.0) ]
good_from s line w ws t h TooLong f = absurd f
good_from s line w ws t h BadByte f = absurd (fits_least.none_bad line h.allowed f.1)
good_from s line w ws t h c f = inr (moved s line w f.0 ws f.1 c h f.2 f.3)

-- a word that begins with '%' doesn't begin with '#'
percent : (n : ℕ) → (n == 37) ≡ true → (n == 35) ≡ false
percent n h = grind (arith, nat_tests)

heading_meant : (ws : List Word) → is_heading ws ≡ true → is_skipped ws ≡ false
heading_meant [] h = absurd cc
heading_meant (w ∷ ws) h = percent (slice_index w 0) h

good_by : (s : Sections) (line : List ℕ) (ws : List Word) → s.stage ≡ stage.Service → is_heading (words_of line) ≡ true → is_clean line ≡ true → words_of line ≡ ws
    → Weighs (Fits s line) (or_code (of_service (end_code s.service)) (heading_code stage.Service ws))
good_by s line [] at t e is = absurd (let none : is_heading (words_of line) ≡ false = ap is_heading is in clash (is_heading (words_of line)) t none)
good_by s line (w ∷ ws) at t e is =
    let h : service.HasWords line w ws = record { allowed = AllPass-from_list_all is_allowed line e; meant = heading_meant (words_of line) t; words = is } in
    let here : is_heading (w ∷ ws) ≡ true = ap is_heading (sym is) ∙ t in
    by_same rank (λ c. OfEnd s c ⊎ FitsWords s w ws c) (Fits s line) _ (good_to s line w ws at t h) (good_from s line w ws t h)
    (weighs_first (OfEnd s) (FitsWords s w ws) (of_service (end_code s.service)) (heading_code stage.Service (w ∷ ws)) (end_first s (FitsWords s w ws) (good_late s w ws)) (end_weighed s)
    (subst (λ (st : Stage). Weighs (FitsWords s w ws) (heading_code st (w ∷ ws))) at (heading_words s w ws here)))

ending_by : (s : Sections) (line : List ℕ) (t : Bool) → s.stage ≡ stage.Service → is_heading (words_of line) ≡ true → is_clean line ≡ t
    → Weighs (Fits s line) (or_code (of_service (end_code s.service)) (or_code (if t then None else Some BadByte) (heading_code stage.Service (words_of line))))
ending_by s line true at h e = good_by s line (words_of line) at h e refl
ending_by s line false at h e =
    by_same rank (λ c. OfEnd s c ⊎ BadOne line c) (Fits s line) _ (bad_to s line at h) (bad_from s line h e)
    (weighs_first (OfEnd s) (BadOne line) (of_service (end_code s.service)) (Some BadByte) (end_first s (BadOne line) (bad_late line)) (end_weighed s) (bad_one line e))

service_by : (s : Sections) (line : List ℕ) (t : Bool) → s.stage ≡ stage.Service → is_heading (words_of line) ≡ t → Weighs (Fits s line) (if t then service_end_code s line else of_service (raw_code s.service line))
service_by s line true at h = ending_by s line (is_clean line) at h refl
service_by s line false at h = inside s line at h

-- ---- all lines

other_stage : (st : Stage) (s : Sections) → s.stage ≡ st → st ≢ stage.Service → s.stage ≢ stage.Service
other_stage st s at other e = other (sym at ∙ e)

line_by : (s : Sections) (line : List ℕ) (st : Stage) → s.stage ≡ st → Weighs (Fits s line) (code_in st s line)
line_by s line stage.Service at = service_by s line (is_heading (words_of line)) at refl
line_by s line stage.Start at = outside s line (other_stage stage.Start s at (λ e. cc))
line_by s line stage.Nodes at = outside s line (other_stage stage.Nodes s at (λ e. cc))
line_by s line stage.Seed at = outside s line (other_stage stage.Seed s at (λ e. cc))
line_by s line stage.Requests at = outside s line (other_stage stage.Requests s at (λ e. cc))
line_by s line stage.Schedule at = outside s line (other_stage stage.Schedule s at (λ e. cc))

pub lines_get_the_least : LinesGetTheLeast
lines_get_the_least s line = least_of (Fits s line) (line_code s line) (line_by s line s.stage refl)

-- ---- the end of a text

late_to : (s : Sections) → s.stage ≡ stage.Service → (c : ScenarioCode) → OfEnd s c ⊎ (c ≡ OutOfPlace) → FitsEnd s c
late_to s at (Service c) (inl h) = (at, h)
late_to s at c (inr h) = subst (FitsEnd s) (sym h) (λ e. let same : stage.Service ≡ stage.Schedule = sym at ∙ e in cc)
late_to s at _ (inl h) = absurd h

late_from : (s : Sections) (c : ScenarioCode) → FitsEnd s c → OfEnd s c ⊎ (c ≡ OutOfPlace)
late_from s (Service c) h = inl h.1
late_from s OutOfPlace h = inr refl
late_from s _ h = absurd h

whole_none : (s : Sections) → s.stage ≡ stage.Schedule → (c : ScenarioCode) → ¬ (FitsEnd s c)
whole_none s at (Service c) h = let same : stage.Schedule ≡ stage.Service = sym at ∙ h.0 in cc
whole_none s at OutOfPlace h = h at
whole_none s at _ h = h

short_least : (s : Sections) → s.stage ≢ stage.Service → (c : ScenarioCode) → FitsEnd s c → rank OutOfPlace ≤ rank c
short_least s other (Service c) h = absurd (other h.0)
short_least s other OutOfPlace h = omega arith
short_least s other _ h = absurd h

short : (s : Sections) (st : Stage) → s.stage ≡ st → st ≢ stage.Service → st ≢ stage.Schedule → Weighs (FitsEnd s) (Some OutOfPlace)
short s st at service schedule = (λ e. schedule (sym at ∙ e), short_least s (other_stage st s at service))

end_by : (s : Sections) (st : Stage) → s.stage ≡ st → Weighs (FitsEnd s) (end_of s st)
end_by s stage.Schedule at = whole_none s at
end_by s stage.Service at =
    by_same rank (λ c. OfEnd s c ⊎ (c ≡ OutOfPlace)) (FitsEnd s) _ (late_to s at) (late_from s)
    (weighs_first (OfEnd s) (λ c. c ≡ OutOfPlace) (of_service (end_code s.service)) (Some OutOfPlace) (end_first s (λ c. c ≡ OutOfPlace) (λ d h. rw h (omega arith))) (end_weighed s) (refl, λ d h. rw h (omega arith)))
end_by s stage.Start at = short s stage.Start at (λ e. cc) (λ e. cc)
end_by s stage.Nodes at = short s stage.Nodes at (λ e. cc) (λ e. cc)
end_by s stage.Seed at = short s stage.Seed at (λ e. cc) (λ e. cc)
end_by s stage.Requests at = short s stage.Requests at (λ e. cc) (λ e. cc)

pub ends_get_the_least : EndsGetTheLeast
ends_get_the_least s = least_of (FitsEnd s) (end_of s s.stage) (end_by s s.stage refl)
