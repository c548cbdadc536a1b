-- The code answered for a line is the least of those that fit it.
use Rattle.std.proofs.Common.{◌≡◌, length, ℕ, ◌≤◌, ◌⊎◌, List, [], ◌∷◌, Option, Some, None, Bool, true, false, refl, sym, ap, subst, ◌∙◌, arith, inl, inr}
use Rattle.std.specs.Prelude.{◌==◌, ◌||◌, ◌&&◌, not, if◌then◌else◌}
use Rattle.std.specs.Bool.{IsFalse}
use Rattle.std.specs.List.{AllPass, Any, list_all}
use Rattle.std.proofs.lemmas.Bool.Decides.{Decides-eqb}
use Rattle.std.proofs.lemmas.List.Sums.{AllPass-from_list_all}
use Rattle.rex_text.specs.Text.{Word, words_of, is_skipped, is_allowed}
use Rattle.rex_parse.specs.Words.{least, rank}
use Rattle.rex_parse.specs.Above.{is_open, innermost}
use Rattle.rex_parse.specs.Table.{form_of, is_inside, suits, slots, is_placed, is_misshapen, slots_code, limit_code, order_code, found_code, line_code}
use Rattle.rex_parse.specs.Reading.{raw_code, end_code}
use Rattle.rex_parse.specs.Fitting.{Place, places_of, LacksName, LacksNumber, SpoilsExpression, IsUndeclared, IsOfWrongKind, IsTaken, FitsForm, Fill, StandsAs, FitsWords, HasWords, Fits, FitsEnd}
use Rattle.rex_parse.specs.LeastCode.{LinesGetTheLeast, EndsGetTheLeast}
use Rattle.rex_parse.specs.declared.language.Above.{Above}
use Rattle.rex_parse.specs.declared.language.Form.{Form}
use Rattle.rex_parse.specs.declared.language.ServiceCode.{ServiceCode}
use Rattle.rex_parse.specs.declared.language.ServiceCode.TheVariants.{BadByte, Misplaced, BadForm, NoName, NoNumber, BadExpression, Undeclared, WrongKind, Taken, TooDeep, TooMany, LanesFirst, ReplyInBlock, Unended}
use Rattle.rex_parse.proofs.Weighed.{Weighs, weighs_same, weighs_both, least_of, Somewhere, any_from, any_to}
use Rattle.rex_parse.proofs.PlacesWeighed.{FitsPlace, FitsPlaces}
use Rattle.rex_parse.proofs.Filled.{placed_is, placed_of, fill_of, shape_of}
use Rattle.rex_parse.proofs.SlotsWeighed.{slots_weighed}
use Rattle.rex_parse.proofs.LimitsWeighed.{FitsLimits, limits_weighed, FitsOrder, order_weighed}

-- ---- a line of a form

abbrev Parts : Above → Form → List Word → ServiceCode → Type 0
Parts a f ws c = FitsPlaces a (places_of f ws) c ⊎ (FitsLimits a f ws c ⊎ FitsOrder a f c)

no_place : (a : Above) (c : ServiceCode) → ((p : Place) → ¬ (FitsPlace a p c)) → (spots : List Place) → ¬ (FitsPlaces a spots c)
no_place a c none [] h = h
no_place a c none (p ∷ spots) (inl h) = none p h
no_place a c none (p ∷ spots) (inr h) = no_place a c none spots h

of_places : (a : Above) (f : Form) (ws : List Word) (c : ServiceCode) → FitsPlaces a (places_of f ws) c → FitsForm a f ws c
of_places a f ws NoName h = any_from LacksName (places_of f ws) h
of_places a f ws NoNumber h = any_from LacksNumber (places_of f ws) h
of_places a f ws BadExpression h = any_from SpoilsExpression (places_of f ws) h
of_places a f ws Undeclared h = any_from (IsUndeclared a) (places_of f ws) h
of_places a f ws WrongKind h = any_from (IsOfWrongKind a) (places_of f ws) h
of_places a f ws Taken h = any_from (IsTaken a) (places_of f ws) h
of_places a f ws BadByte h = no_place a BadByte (λ p x. x) (places_of f ws) h
of_places a f ws Misplaced h = no_place a Misplaced (λ p x. x) (places_of f ws) h
of_places a f ws BadForm h = no_place a BadForm (λ p x. x) (places_of f ws) h
of_places a f ws TooDeep h = absurd (no_place a TooDeep (λ p x. x) (places_of f ws) h)
of_places a f ws TooMany h = absurd (no_place a TooMany (λ p x. x) (places_of f ws) h)
of_places a f ws LanesFirst h = absurd (no_place a LanesFirst (λ p x. x) (places_of f ws) h)
of_places a f ws ReplyInBlock h = absurd (no_place a ReplyInBlock (λ p x. x) (places_of f ws) h)
of_places a f ws Unended h = no_place a Unended (λ p x. x) (places_of f ws) h

of_limits : (a : Above) (f : Form) (ws : List Word) (c : ServiceCode) → FitsLimits a f ws c → FitsForm a f ws c
of_limits a f ws TooDeep h = h
of_limits a f ws TooMany h = h
of_limits a f ws ReplyInBlock h = h
of_limits a f ws _ h = absurd h

form_to : (a : Above) (f : Form) (ws : List Word) (c : ServiceCode) → Parts a f ws c → FitsForm a f ws c
form_to a f ws c (inl h) = of_places a f ws c h
form_to a f ws c (inr (inl h)) = of_limits a f ws c h
form_to a f ws c (inr (inr h)) = subst (FitsForm a f ws) (sym h.0) h.1

form_from : (a : Above) (f : Form) (ws : List Word) (c : ServiceCode) → FitsForm a f ws c → Parts a f ws c
form_from a f ws NoName h = inl (any_to LacksName (places_of f ws) h)
form_from a f ws NoNumber h = inl (any_to LacksNumber (places_of f ws) h)
form_from a f ws BadExpression h = inl (any_to SpoilsExpression (places_of f ws) h)
form_from a f ws Undeclared h = inl (any_to (IsUndeclared a) (places_of f ws) h)
form_from a f ws WrongKind h = inl (any_to (IsOfWrongKind a) (places_of f ws) h)
form_from a f ws Taken h = inl (any_to (IsTaken a) (places_of f ws) h)
form_from a f ws TooDeep h = inr (inl h)
form_from a f ws TooMany h = inr (inl h)
form_from a f ws ReplyInBlock h = inr (inl h)
form_from a f ws LanesFirst h = inr (inr (refl, h))
form_from a f ws _ h = absurd h

form_weighed : (a : Above) (f : Form) (ws : List Word) → Weighs (FitsForm a f ws) (least (slots_code a (slots f) ws) (least (limit_code a f ws) (order_code a f)))
form_weighed a f ws =
    weighs_same (Parts a f ws) (FitsForm a f ws) _ (form_to a f ws) (form_from a f ws)
    (weighs_both _ _ (slots_code a (slots f) ws) (least (limit_code a f ws) (order_code a f)) (slots_weighed a (slots f) ws)
    (weighs_both _ _ (limit_code a f ws) (order_code a f) (limits_weighed a f ws) (order_weighed a f)))

-- ---- words

-- a word has one form
pub one_form : (a : Above) (w : Word) (f g : Form) → form_of w ≡ Some f → StandsAs a w g → g ≡ f
one_form a w f g e s = let same : Some f ≡ Some g = sym e ∙ s.known in cc

clash : (b : Bool) → b ≡ true → b ≡ false → ⊥
clash b t f = let u : true ≡ false = sym t ∙ f in cc

-- a word that gives no form that may stand there fits P2 alone
misplaced_alone : (a : Above) (w : Word) (ws : List Word) → ((f : Form) → ¬ (StandsAs a w f)) → (d : ServiceCode) → FitsWords a w ws d → rank Misplaced ≤ rank d
misplaced_alone a w ws none BadByte h = absurd (none h.0 h.1)
misplaced_alone a w ws none _ h = omega arith

bad_alone : (a : Above) (w : Word) (ws : List Word) (f : Form) → StandsAs a w f → (d : ServiceCode) → FitsWords a w ws d → rank BadForm ≤ rank d
bad_alone a w ws f s BadByte h = absurd h.3
bad_alone a w ws f s Misplaced h = absurd (h f s)
bad_alone a w ws f s _ h = omega arith

words_to : (a : Above) (w : Word) (ws : List Word) (f : Form) → StandsAs a w f → Fill (slots f) ws → (c : ServiceCode) → FitsForm a f ws c → FitsWords a w ws c
words_to a w ws f s m Misplaced h = absurd h
words_to a w ws f s m BadForm h = absurd h
words_to a w ws f s m _ h = (f, s, m, h)

words_from : (a : Above) (w : Word) (ws : List Word) (f : Form) → form_of w ≡ Some f → StandsAs a w f → Fill (slots f) ws → (c : ServiceCode) → FitsWords a w ws c → FitsForm a f ws c
words_from a w ws f e s m Misplaced h = h f s
words_from a w ws f e s m BadForm h = h.2 (subst (λ (g : Form). Fill (slots g) ws) (sym (one_form a w f h.0 e h.1)) m)
words_from a w ws f e s m c h = subst (λ (g : Form). FitsForm a g ws c) (one_form a w f h.0 e h.1) h.3

shape_by : (a : Above) (w : Word) (ws : List Word) (f : Form) (m : Bool) → form_of w ≡ Some f → StandsAs a w f → is_misshapen (slots f) ws ≡ m
    → Weighs (FitsWords a w ws) (if m then Some BadForm else least (slots_code a (slots f) ws) (least (limit_code a f ws) (order_code a f)))
shape_by a w ws f true e s m = ((f, s, λ h. clash (is_misshapen (slots f) ws) m (shape_of (slots f) ws h)), bad_alone a w ws f s)
shape_by a w ws f false e s m =
    let shaped : Fill (slots f) ws = fill_of (slots f) ws m in
    weighs_same (FitsForm a f ws) (FitsWords a w ws) _ (words_to a w ws f s shaped) (words_from a w ws f e s shaped) (form_weighed a f ws)

stands : (a : Above) (w : Word) (f : Form) → form_of w ≡ Some f → is_placed a f ≡ true → StandsAs a w f
stands a w f e p = let parts : (is_inside f ≡ is_open a) × (suits f (innermost a) ≡ true) = placed_is a f p in record { known = e; side = parts.0; block = parts.1 }

unplaced : (a : Above) (w : Word) (f : Form) → form_of w ≡ Some f → is_placed a f ≡ false → (g : Form) → ¬ (StandsAs a w g)
unplaced a w f e p g s = clash (is_placed a g) (placed_of a g s.side s.block) (subst (λ (x : Form). is_placed a x ≡ false) (sym (one_form a w f g e s)) p)

place_by : (a : Above) (w : Word) (ws : List Word) (f : Form) (p : Bool) → form_of w ≡ Some f → is_placed a f ≡ p
    → Weighs (FitsWords a w ws) (if not p then Some Misplaced else if is_misshapen (slots f) ws then Some BadForm else least (slots_code a (slots f) ws) (least (limit_code a f ws) (order_code a f)))
place_by a w ws f true e p = shape_by a w ws f (is_misshapen (slots f) ws) e (stands a w f e p) refl
place_by a w ws f false e p = let none : (g : Form) → ¬ (StandsAs a w g) = unplaced a w f e p in (none, misplaced_alone a w ws none)

unknown : (a : Above) (w : Word) → form_of w ≡ None → (g : Form) → ¬ (StandsAs a w g)
unknown a w e g s = let same : None ≡ Some g = sym e ∙ s.known in cc

found_by : (a : Above) (w : Word) (ws : List Word) (o : Option Form) → form_of w ≡ o → Weighs (FitsWords a w ws) (found_code a o ws)
found_by a w ws (Some f) e = place_by a w ws f (is_placed a f) e refl
found_by a w ws None e = let none : (g : Form) → ¬ (StandsAs a w g) = unknown a w e in (none, misplaced_alone a w ws none)

words_weighed : (a : Above) (w : Word) (ws : List Word) → Weighs (FitsWords a w ws) (line_code a (w ∷ ws))
words_weighed a w ws = found_by a w ws (form_of w) refl

-- ---- lines

bad_by : (b : ℕ) (bs : List ℕ) (t : Bool) → is_allowed b ≡ t → (t && list_all is_allowed bs) ≡ false → (list_all is_allowed bs ≡ false → Somewhere (λ x. IsFalse (is_allowed x)) bs) → Somewhere (λ x. IsFalse (is_allowed x)) (b ∷ bs)
bad_by b bs true e h more = inr (more h)
bad_by b bs false e h more = inl e

some_bad : (bs : List ℕ) → list_all is_allowed bs ≡ false → Somewhere (λ b. IsFalse (is_allowed b)) bs
some_bad [] h = absurd cc
some_bad (b ∷ bs) h = bad_by b bs (is_allowed b) refl h (some_bad bs)

pub any_bad : (line : List ℕ) → list_all is_allowed line ≡ false → Any (λ b. IsFalse (is_allowed b)) line
any_bad line h = any_from (λ b. IsFalse (is_allowed b)) line (some_bad line h)

pub none_bad : (line : List ℕ) → AllPass is_allowed line → ¬ (Any (λ b. IsFalse (is_allowed b)) line)
none_bad line all (k, b, lt, e, bad) = clash (is_allowed b) (subst (λ (x : ℕ). is_allowed x ≡ true) e (all k b lt)) bad

pub one_line : (line : List ℕ) (w v : Word) (ws vs : List Word) → words_of line ≡ w ∷ ws → HasWords line v vs → (v ≡ w) × (vs ≡ ws)
one_line line w v ws vs e h = let same : w ∷ ws ≡ v ∷ vs = sym e ∙ h.words in (cc, cc)

line_to : (a : Above) (line : List ℕ) (w : Word) (ws : List Word) → HasWords line w ws → (c : ServiceCode) → FitsWords a w ws c → Fits a line c
line_to a line w ws h BadByte f = absurd f.3
line_to a line w ws h _ f = (w, ws, h, f)

line_from : (a : Above) (line : List ℕ) (w : Word) (ws : List Word) → HasWords line w ws → (c : ServiceCode) → Fits a line c → FitsWords a w ws c
line_from a line w ws h BadByte f = absurd (none_bad line h.allowed f)
line_from a line w ws h c (v, vs, g, f) =
    let same : (v ≡ w) × (vs ≡ ws) = one_line line w v ws vs h.words g in
    subst (λ (x : Word). FitsWords a x ws c) same.0 (subst (λ (xs : List Word). FitsWords a v xs c) same.1 f)

skipped_none : (a : Above) (line : List ℕ) → AllPass is_allowed line → is_skipped (words_of line) ≡ true → (c : ServiceCode) → ¬ (Fits a line c)
skipped_none a line all s BadByte f = none_bad line all f
skipped_none a line all s c f = clash (is_skipped (words_of line)) s f.2.meant

read_by : (a : Above) (line : List ℕ) (ws : List Word) → AllPass is_allowed line → is_skipped (words_of line) ≡ false → words_of line ≡ ws → Weighs (Fits a line) (line_code a ws)
read_by a line [] all s e = let empty : is_skipped (words_of line) ≡ true = ap is_skipped e in absurd (clash (is_skipped (words_of line)) empty s)
read_by a line (w ∷ ws) all s e =
    let h : HasWords line w ws = record { allowed = all; meant = s; words = e } in
    weighs_same (FitsWords a w ws) (Fits a line) _ (line_to a line w ws h) (line_from a line w ws h) (words_weighed a w ws)

skip_by : (a : Above) (line : List ℕ) (s : Bool) → AllPass is_allowed line → is_skipped (words_of line) ≡ s → Weighs (Fits a line) (if s then None else line_code a (words_of line))
skip_by a line true all s = skipped_none a line all s
skip_by a line false all s = read_by a line (words_of line) all s refl

rank_above : (c : ServiceCode) → rank BadByte ≤ rank c
rank_above BadByte = omega arith
rank_above _ = omega arith

line_by : (a : Above) (line : List ℕ) (b : Bool) → list_all is_allowed line ≡ b → Weighs (Fits a line) (if not b then Some BadByte else if is_skipped (words_of line) then None else line_code a (words_of line))
line_by a line true e = skip_by a line (is_skipped (words_of line)) (AllPass-from_list_all is_allowed line e) refl
line_by a line false e = (any_bad line e, λ d h. rank_above d)

line_weighed : (a : Above) (line : List ℕ) → Weighs (Fits a line) (raw_code a line)
line_weighed a line = line_by a line (list_all is_allowed line) refl

pub lines_get_the_least : LinesGetTheLeast
lines_get_the_least a line = least_of (Fits a line) (raw_code a line) (line_weighed a line)

-- ---- the end

only_unended : (a : Above) (d : ServiceCode) → FitsEnd a d → rank Unended ≤ rank d
only_unended a Unended h = omega arith
only_unended a _ h = absurd h

neither : (a : Above) → ¬ (FitsEnd a Unended) → (d : ServiceCode) → ¬ (FitsEnd a d)
neither a none Unended h = none h
neither a none _ h = h

end_by : (a : Above) (o h : Bool) → is_open a ≡ o → (length a.handlers == 0) ≡ h → Weighs (FitsEnd a) (if o || h then Some Unended else None)
end_by a true h o e = (inl o, only_unended a)
end_by a false true o e = (inr ((Decides-eqb (length a.handlers) 0).0 e), only_unended a)
end_by a false false o e = neither a (λ h. elim h [ inl x ↦ clash (is_open a) x o | inr y ↦ clash (length a.handlers == 0) ((Decides-eqb (length a.handlers) 0).1 y) e ])

pub ends_get_the_least : EndsGetTheLeast
ends_get_the_least a = least_of (FitsEnd a) (end_code a) (end_by a (is_open a) (length a.handlers == 0) refl refl)
