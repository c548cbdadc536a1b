-- The least of the codes that fit a heading, a request, or a schedule line.
use Rattle.std.proofs.Common.{◌≡◌, ℕ, ◌≤◌, List, [], ◌∷◌, length, Option, Some, None, Bool, true, false, refl, sym, ap, subst, ◌∙◌, arith, inl, inr}
use Rattle.std.specs.Prelude.{◌&&◌, ◌==◌, not, nat_le, is_some, unwrap_or, if◌then◌else◌}
use Rattle.std.specs.Bool.{Decides, IsFalse}
use Rattle.std.specs.List.{Any, list_any, list_all}
use Rattle.std.proofs.lemmas.Bool.{le-leb, leb-true}
use Rattle.std.proofs.lemmas.Bool.Decides.{Decides-eqb}
use Rattle.rex_text.specs.Text.{Word}
use Rattle.rex_syntax.specs.declared.request.Request.{Request}
use Rattle.rex_syntax.specs.Versions.{is_old_size}
use Rattle.rex_parse.specs.Words.{is_name}
use Rattle.rex_parse.specs.declared.language.Above.{Above}
use Rattle.rex_scenario.specs.Headings.{begun_by, is_due, if_due, is_whole, begin_code, heading_code}
use Rattle.rex_scenario.specs.Requests.{or_code, client_of, sequence_of, is_argument, is_request, is_call, request_of, is_repeated, place_code, request_code}
use Rattle.rex_scenario.specs.Schedule.{step_of, is_there, has_limits, has_form, step_code}
use Rattle.rex_scenario.specs.Reading.{words_code}
use Rattle.rex_scenario.specs.Fitting.{Begins, IsRepeated, FitsRequest, lanes_of, IsBadLine, NamesNothing, HasWrongLimits, HasNoOldForm, FitsStep}
use Rattle.rex_scenario.specs.LeastCode.{rank}
use Rattle.rex_scenario.specs.declared.scenario.ScenarioCode.{ScenarioCode}
use Rattle.rex_scenario.specs.declared.scenario.ScenarioCode.TheVariants.{Service, TooLong, BadByte, OutOfPlace, BadHeading, BadRequest, BadCall, Repeated, BadLine, TooManyLines, NotThere, TooManyRequests, WrongLimits, NoOldForm}
use Rattle.rex_scenario.specs.declared.scenario.Sections.{Sections}
use Rattle.rex_scenario.specs.declared.scenario.Stage.{Stage}
use Rattle.rex_scenario.specs.declared.scenario.Stage.TheVariants as stage
use Rattle.rex_scenario.specs.declared.schedule.Step.{Step}
use Rattle.rex_scenario.proofs.Weighed.{Weighs, clash, any_test}

-- ---- headings

-- a code fits a heading
abbrev pub FitsHeading : Stage → Word → List Word → ScenarioCode → Type 0
FitsHeading now w ws OutOfPlace = (next : Stage) → ¬ (Begins now w next)
FitsHeading now w ws BadHeading = (next : Stage) × Begins now w next × IsFalse (is_whole next ws)
FitsHeading now w ws _ = ⊥

pub after_stages : (now : Stage) (w : Word) (ws : List Word) (d : ScenarioCode) → FitsHeading now w ws d → 17 ≤ rank d
after_stages now w ws OutOfPlace h = omega arith
after_stages now w ws BadHeading h = omega arith
after_stages now w ws _ h = absurd h

after_due : (now : Stage) (w : Word) (ws : List Word) → ¬ ((next : Stage) → ¬ (Begins now w next)) → (d : ScenarioCode) → FitsHeading now w ws d → 18 ≤ rank d
after_due now w ws due OutOfPlace h = absurd (due h)
after_due now w ws due BadHeading h = omega arith
after_due now w ws due _ h = absurd h

one_stage : (now : Stage) (w : Word) (next other : Stage) → begun_by w ≡ Some next → Begins now w other → other ≡ next
one_stage now w next other e b = let same : Some next ≡ Some other = sym e ∙ b.named in cc

whole_by : (now : Stage) (w : Word) (ws : List Word) (next : Stage) (t : Bool) → Begins now w next → is_whole next ws ≡ t → Weighs (FitsHeading now w ws) (if t then None else Some BadHeading)
whole_by now w ws next false b e = ((next, b, e), after_due now w ws (λ none. none next b))
whole_by now w ws next true b e = whole now w ws next b e
  where
    whole : (n : Stage) (v : Word) (vs : List Word) (m : Stage) → Begins n v m → is_whole m vs ≡ true → (d : ScenarioCode) → ¬ (FitsHeading n v vs d)
    whole n v vs m x t OutOfPlace h = h m x
    whole n v vs m x t BadHeading h = clash (is_whole h.0 vs) (subst (λ (k : Stage). is_whole k vs ≡ true) (sym (one_stage n v m h.0 x.named h.1)) t) h.2
    whole n v vs m x t _ h = h

due_by : (now : Stage) (w : Word) (ws : List Word) (next : Stage) (t : Bool) → begun_by w ≡ Some next → is_due now next ≡ t → Weighs (FitsHeading now w ws) (begin_code (if t then Some next else None) ws)
due_by now w ws next true e due = whole_by now w ws next (is_whole next ws) (record { named = e; due = due }) refl
due_by now w ws next false e due = (λ other b. clash (is_due now other) b.due (subst (λ (k : Stage). is_due now k ≡ false) (sym (one_stage now w next other e b)) due), after_stages now w ws)

begun_stage : (now : Stage) (w : Word) (ws : List Word) (o : Option Stage) → begun_by w ≡ o → Weighs (FitsHeading now w ws) (begin_code (if_due now o) ws)
begun_stage now w ws (Some next) e = due_by now w ws next (is_due now next) e refl
begun_stage now w ws None e = (λ other b. let same : None ≡ Some other = sym e ∙ b.named in cc, after_stages now w ws)

pub heading_weighed : (now : Stage) (w : Word) (ws : List Word) → Weighs (FitsHeading now w ws) (heading_code now (w ∷ ws))
heading_weighed now w ws = begun_stage now w ws (begun_by w) refl

-- ---- requests

is_after_five : (a : Above) (earlier : List Request) (ws : List Word) (d : ScenarioCode) → FitsRequest a earlier ws d → 19 ≤ rank d
is_after_five a earlier ws (Service c) h = absurd h
is_after_five a earlier ws TooLong h = absurd h
is_after_five a earlier ws BadByte h = absurd h
is_after_five a earlier ws OutOfPlace h = absurd h
is_after_five a earlier ws BadHeading h = absurd h
is_after_five a earlier ws _ h = omega arith

is_after_six : (a : Above) (earlier : List Request) (ws : List Word) → is_request ws ≡ true → (d : ScenarioCode) → FitsRequest a earlier ws d → 20 ≤ rank d
is_after_six a earlier ws r (Service c) h = absurd h
is_after_six a earlier ws r TooLong h = absurd h
is_after_six a earlier ws r BadByte h = absurd h
is_after_six a earlier ws r OutOfPlace h = absurd h
is_after_six a earlier ws r BadHeading h = absurd h
is_after_six a earlier ws r BadRequest h = absurd (clash (is_request ws) r h)
is_after_six a earlier ws r _ h = omega arith

is_after_seven : (a : Above) (earlier : List Request) (ws : List Word) → is_request ws ≡ true → is_call a ws ≡ true → (d : ScenarioCode) → FitsRequest a earlier ws d → 21 ≤ rank d
is_after_seven a earlier ws r k (Service c) h = absurd h
is_after_seven a earlier ws r k TooLong h = absurd h
is_after_seven a earlier ws r k BadByte h = absurd h
is_after_seven a earlier ws r k OutOfPlace h = absurd h
is_after_seven a earlier ws r k BadHeading h = absurd h
is_after_seven a earlier ws r k BadRequest h = absurd (clash (is_request ws) r h)
is_after_seven a earlier ws r k BadCall h = absurd (clash (is_call a ws) k h)
is_after_seven a earlier ws r k _ h = omega arith

is_after_eleven : (a : Above) (earlier : List Request) (ws : List Word) → is_request ws ≡ true → is_call a ws ≡ true → ¬ (IsRepeated earlier ws) → (d : ScenarioCode) → FitsRequest a earlier ws d → 25 ≤ rank d
is_after_eleven a earlier ws r k new BadRequest h = absurd (clash (is_request ws) r h)
is_after_eleven a earlier ws r k new BadCall h = absurd (clash (is_call a ws) k h)
is_after_eleven a earlier ws r k new Repeated h = absurd (new h)
is_after_eleven a earlier ws r k new TooManyRequests h = omega arith
is_after_eleven a earlier ws r k new _ h = absurd h

good_request : (a : Above) (earlier : List Request) (ws : List Word) → is_request ws ≡ true → is_call a ws ≡ true → ¬ (IsRepeated earlier ws) → ¬ (65536 ≤ length earlier) → (d : ScenarioCode) → ¬ (FitsRequest a earlier ws d)
good_request a earlier ws r k new room BadRequest h = clash (is_request ws) r h
good_request a earlier ws r k new room BadCall h = clash (is_call a ws) k h
good_request a earlier ws r k new room Repeated h = new h
good_request a earlier ws r k new room TooManyRequests h = room h
good_request a earlier ws r k new room _ h = h

both_test : (b c : Bool) (P Q : Type 0) → Decides b P → Decides c Q → Decides (b && c) (P × Q)
both_test true c P Q p q = (λ e. (p.0 refl, q.0 e), λ h. q.1 h.1)
both_test false c P Q p q = (λ e. absurd cc, λ h. p.1 h.0)

some_test : (m n : ℕ) → Decides (m == n) (Some n ≡ Some m)
some_test m n = (λ e. ap (λ (k : ℕ). Some k) (sym ((Decides-eqb m n).0 e)), λ e. (Decides-eqb m n).1 cc)

repeated_by : (earlier : List Request) (oc os : Option ℕ) → is_some oc ≡ true → is_some os ≡ true
    → Decides (list_any (λ (q : Request). (q.client == unwrap_or oc 0) && (q.sequence == unwrap_or os 0)) earlier) (Any (λ (q : Request). (oc ≡ Some q.client) × (os ≡ Some q.sequence)) earlier)
repeated_by earlier None os c s = absurd cc
repeated_by earlier (Some n) None c s = absurd cc
repeated_by earlier (Some n) (Some m) c s =
    any_test (λ (q : Request). (q.client == n) && (q.sequence == m)) (λ (q : Request). (Some n ≡ Some q.client) × (Some m ≡ Some q.sequence)) earlier
    (λ q. both_test (q.client == n) (q.sequence == m) _ _ (some_test q.client n) (some_test q.sequence m))

both_first : (b c : Bool) → (b && c) ≡ true → b ≡ true
both_first true c e = refl
both_first false c e = absurd cc

both_second : (b c : Bool) → (b && c) ≡ true → c ≡ true
both_second true c e = e
both_second false c e = absurd cc

repeated_test : (a : Above) (earlier : List Request) (ws : List Word) → is_request ws ≡ true → Decides (is_repeated earlier (request_of a ws)) (IsRepeated earlier ws)
repeated_test a earlier [] r = absurd cc
repeated_test a earlier (c ∷ []) r = absurd cc
repeated_test a earlier (c ∷ s ∷ []) r = absurd cc
repeated_test a earlier (c ∷ s ∷ h ∷ ws) r =
    repeated_by earlier (client_of c) (sequence_of s) (both_first (is_some (client_of c)) _ r)
    (both_first (is_some (sequence_of s)) (is_name h && list_all is_argument ws) (both_second (is_some (client_of c)) (is_some (sequence_of s) && (is_name h && list_all is_argument ws)) r))

room_by : (a : Above) (earlier : List Request) (ws : List Word) (t : Bool) → is_request ws ≡ true → is_call a ws ≡ true → ¬ (IsRepeated earlier ws) → nat_le 65536 (length earlier) ≡ t
    → Weighs (FitsRequest a earlier ws) (if t then Some TooManyRequests else None)
room_by a earlier ws true r k new e = (leb-true _ _ e, is_after_eleven a earlier ws r k new)
room_by a earlier ws false r k new e = good_request a earlier ws r k new (λ h. clash (nat_le 65536 (length earlier)) (le-leb _ _ h) e)

place_by : (a : Above) (earlier : List Request) (ws : List Word) (t : Bool) → is_request ws ≡ true → is_call a ws ≡ true → is_repeated earlier (request_of a ws) ≡ t
    → Weighs (FitsRequest a earlier ws) (if t then Some Repeated else if nat_le 65536 (length earlier) then Some TooManyRequests else None)
place_by a earlier ws true r k e = ((repeated_test a earlier ws r).0 e, is_after_seven a earlier ws r k)
place_by a earlier ws false r k e =
    room_by a earlier ws (nat_le 65536 (length earlier)) r k (λ h. clash (is_repeated earlier (request_of a ws)) ((repeated_test a earlier ws r).1 h) e) refl

call_by : (a : Above) (earlier : List Request) (ws : List Word) (r k : Bool) → is_request ws ≡ r → is_call a ws ≡ k
    → Weighs (FitsRequest a earlier ws) (or_code (if not r then Some BadRequest else if not k then Some BadCall else None) (place_code earlier (request_of a ws)))
call_by a earlier ws false k r c = (r, is_after_five a earlier ws)
call_by a earlier ws true false r c = (c, is_after_six a earlier ws r)
call_by a earlier ws true true r c = place_by a earlier ws (is_repeated earlier (request_of a ws)) r c refl

pub request_weighed : (a : Above) (earlier : List Request) (ws : List Word) → Weighs (FitsRequest a earlier ws) (request_code a earlier ws)
request_weighed a earlier ws = call_by a earlier ws (is_request ws) (is_call a ws) refl refl

-- ---- schedule lines

is_after_eight : (s : Sections) (ws : List Word) (d : ScenarioCode) → FitsStep s ws d → 22 ≤ rank d
is_after_eight s ws BadLine h = omega arith
is_after_eight s ws TooManyLines h = omega arith
is_after_eight s ws NotThere h = omega arith
is_after_eight s ws WrongLimits h = omega arith
is_after_eight s ws NoOldForm h = omega arith
is_after_eight s ws _ h = absurd h

is_after_nine : (s : Sections) (ws : List Word) → ¬ (IsBadLine s ws) → (d : ScenarioCode) → FitsStep s ws d → 23 ≤ rank d
is_after_nine s ws l BadLine h = absurd (l h)
is_after_nine s ws l TooManyLines h = omega arith
is_after_nine s ws l NotThere h = omega arith
is_after_nine s ws l WrongLimits h = omega arith
is_after_nine s ws l NoOldForm h = omega arith
is_after_nine s ws l _ h = absurd h

is_after_ten : (s : Sections) (ws : List Word) → ¬ (IsBadLine s ws) → ¬ (100000 ≤ length s.schedule) → (d : ScenarioCode) → FitsStep s ws d → 24 ≤ rank d
is_after_ten s ws l m BadLine h = absurd (l h)
is_after_ten s ws l m TooManyLines h = absurd (m h)
is_after_ten s ws l m NotThere h = omega arith
is_after_ten s ws l m WrongLimits h = omega arith
is_after_ten s ws l m NoOldForm h = omega arith
is_after_ten s ws l m _ h = absurd h

is_after_twelve : (s : Sections) (ws : List Word) → ¬ (IsBadLine s ws) → ¬ (100000 ≤ length s.schedule) → ¬ (NamesNothing s ws) → (d : ScenarioCode) → FitsStep s ws d → 26 ≤ rank d
is_after_twelve s ws l m n BadLine h = absurd (l h)
is_after_twelve s ws l m n TooManyLines h = absurd (m h)
is_after_twelve s ws l m n NotThere h = absurd (n h)
is_after_twelve s ws l m n WrongLimits h = omega arith
is_after_twelve s ws l m n NoOldForm h = omega arith
is_after_twelve s ws l m n _ h = absurd h

is_after_thirteen : (s : Sections) (ws : List Word) → ¬ (IsBadLine s ws) → ¬ (100000 ≤ length s.schedule) → ¬ (NamesNothing s ws) → ¬ (HasWrongLimits s ws) → (d : ScenarioCode) → FitsStep s ws d → 27 ≤ rank d
is_after_thirteen s ws l m n w BadLine h = absurd (l h)
is_after_thirteen s ws l m n w TooManyLines h = absurd (m h)
is_after_thirteen s ws l m n w NotThere h = absurd (n h)
is_after_thirteen s ws l m n w WrongLimits h = absurd (w h)
is_after_thirteen s ws l m n w NoOldForm h = omega arith
is_after_thirteen s ws l m n w _ h = absurd h

good_step : (s : Sections) (ws : List Word) → ¬ (IsBadLine s ws) → ¬ (100000 ≤ length s.schedule) → ¬ (NamesNothing s ws) → ¬ (HasWrongLimits s ws) → ¬ (HasNoOldForm s ws) → (d : ScenarioCode) → ¬ (FitsStep s ws d)
good_step s ws l m n w o BadLine h = l h
good_step s ws l m n w o TooManyLines h = m h
good_step s ws l m n w o NotThere h = n h
good_step s ws l m n w o WrongLimits h = w h
good_step s ws l m n w o NoOldForm h = o h
good_step s ws l m n w o _ h = h

-- of the one step that words spell a test fails, where it fails of one
one_step : (a : Above) (ws : List Word) (st : Step) (p : Step → Bool) → step_of a ws ≡ Some st → p st ≡ true → ¬ ((other : Step) × (step_of a ws ≡ Some other) × IsFalse (p other))
one_step a ws st p e t (other, is, f) = let same : Some st ≡ Some other = sym e ∙ is in clash (p other) (subst (λ (x : Step). p x ≡ true) (let one : st ≡ other = cc in one) t) f

form_by : (s : Sections) (ws : List Word) (st : Step) (t : Bool) → step_of s.service ws ≡ Some st → ¬ (IsBadLine s ws) → ¬ (100000 ≤ length s.schedule) → ¬ (NamesNothing s ws) → ¬ (HasWrongLimits s ws)
    → has_form (is_old_size (lanes_of s) (length s.service.variables)) st ≡ t → Weighs (FitsStep s ws) (if t then None else Some NoOldForm)
form_by s ws st true e l m n w t = good_step s ws l m n w (one_step s.service ws st (has_form (is_old_size (lanes_of s) (length s.service.variables))) e t)
form_by s ws st false e l m n w t = ((st, e, t), is_after_thirteen s ws l m n w)

limits_by : (s : Sections) (ws : List Word) (st : Step) (t : Bool) → step_of s.service ws ≡ Some st → ¬ (IsBadLine s ws) → ¬ (100000 ≤ length s.schedule) → ¬ (NamesNothing s ws) → has_limits (lanes_of s) st ≡ t
    → Weighs (FitsStep s ws) (if not t then Some WrongLimits else if has_form (is_old_size (lanes_of s) (length s.service.variables)) st then None else Some NoOldForm)
limits_by s ws st true e l m n t =
    form_by s ws st (has_form (is_old_size (lanes_of s) (length s.service.variables)) st) e l m n (one_step s.service ws st (has_limits (lanes_of s)) e t) refl
limits_by s ws st false e l m n t = ((st, e, t), is_after_twelve s ws l m n)

there_by : (s : Sections) (ws : List Word) (st : Step) (t : Bool) → step_of s.service ws ≡ Some st → ¬ (IsBadLine s ws) → ¬ (100000 ≤ length s.schedule) → is_there s.nodes (length s.requests) (lanes_of s) st ≡ t
    → Weighs (FitsStep s ws) (if not t then Some NotThere else if not (has_limits (lanes_of s) st) then Some WrongLimits else if has_form (is_old_size (lanes_of s) (length s.service.variables)) st then None else Some NoOldForm)
there_by s ws st true e l m t = limits_by s ws st (has_limits (lanes_of s) st) e l m (one_step s.service ws st (is_there s.nodes (length s.requests) (lanes_of s)) e t) refl
there_by s ws st false e l m t = ((st, e, t), is_after_ten s ws l m)

many_by : (s : Sections) (ws : List Word) (st : Step) (t : Bool) → step_of s.service ws ≡ Some st → ¬ (IsBadLine s ws) → nat_le 100000 (length s.schedule) ≡ t
    → Weighs (FitsStep s ws) (if t then Some TooManyLines else if not (is_there s.nodes (length s.requests) (lanes_of s) st) then Some NotThere else if not (has_limits (lanes_of s) st) then Some WrongLimits else if has_form (is_old_size (lanes_of s) (length s.service.variables)) st then None else Some NoOldForm)
many_by s ws st true e l t = (leb-true _ _ t, is_after_nine s ws l)
many_by s ws st false e l t = there_by s ws st (is_there s.nodes (length s.requests) (lanes_of s) st) e l (λ h. clash (nat_le 100000 (length s.schedule)) (le-leb _ _ h) t) refl

scheduled_by : (s : Sections) (ws : List Word) (st : Step) (t : Bool) → step_of s.service ws ≡ Some st → s.scheduled ≡ t
    → Weighs (FitsStep s ws) (step_code t s.nodes (length s.requests) (lanes_of s) (is_old_size (lanes_of s) (length s.service.variables)) (length s.schedule) (Some st))
scheduled_by s ws st false e t = (inl t, is_after_eight s ws)
scheduled_by s ws st true e t =
    many_by s ws st (nat_le 100000 (length s.schedule)) e (λ h. elim h [ inl f ↦ clash s.scheduled t f | inr none ↦ let same : Some st ≡ None = sym e ∙ none in cc ]) refl

step_by : (s : Sections) (ws : List Word) (o : Option Step) → step_of s.service ws ≡ o
    → Weighs (FitsStep s ws) (step_code s.scheduled s.nodes (length s.requests) (lanes_of s) (is_old_size (lanes_of s) (length s.service.variables)) (length s.schedule) o)
step_by s ws None e = (inr e, is_after_eight s ws)
step_by s ws (Some st) e = scheduled_by s ws st s.scheduled e refl

pub step_weighed : (s : Sections) (ws : List Word) → Weighs (FitsStep s ws) (words_code s stage.Schedule ws)
step_weighed s ws = step_by s ws (step_of s.service ws) refl
