-- P1, P2 and P3 fit alone.
use Rattle.std.proofs.Common.{◌≡◌, ℕ, List, refl, subst, arith}
use Rattle.rex_text.specs.Text.{Word}
use Rattle.rex_parse.specs.Table.{slots}
use Rattle.rex_parse.specs.Fitting.{Fill, IsMisplaced, IsBadForm, FitsWords, HasWords, Fits}
use Rattle.rex_parse.specs.LeastCode.{FirstThreeStandAlone}
use Rattle.rex_parse.specs.declared.language.Above.{Above}
use Rattle.rex_parse.specs.declared.language.Form.{Form}
use Rattle.rex_parse.specs.declared.language.ServiceCode.{ServiceCode}
use Rattle.rex_parse.specs.declared.language.ServiceCode.TheVariants.{BadByte, Misplaced, BadForm}
use Rattle.rex_parse.proofs.FitsLeast.{none_bad, one_line, one_form}

-- a line has one first word and one list of others
moved : (a : Above) (line : List ℕ) (w v : Word) (ws vs : List Word) (c : ServiceCode) → HasWords line w ws → HasWords line v vs → FitsWords a v vs c → FitsWords a w ws c
moved a line w v ws vs c h g f =
    let same : (v ≡ w) × (vs ≡ ws) = one_line line w v ws vs h.words g in
    subst (λ (x : Word). FitsWords a x ws c) same.0 (subst (λ (xs : List Word). FitsWords a v xs c) same.1 f)

byte_alone : (a : Above) (line : List ℕ) (d : ServiceCode) → Fits a line BadByte → Fits a line d → d ≡ BadByte
byte_alone a line BadByte bad h = refl
byte_alone a line _ bad h = absurd (none_bad line h.2.allowed bad)

misplaced_words : (a : Above) (w : Word) (ws : List Word) (d : ServiceCode) → IsMisplaced a w → FitsWords a w ws d → d ≡ Misplaced
misplaced_words a w ws Misplaced none h = refl
misplaced_words a w ws BadForm none h = absurd (none h.0 h.1)
misplaced_words a w ws _ none h = absurd (none h.0 h.1)

misplaced_alone : (a : Above) (line : List ℕ) (d : ServiceCode) → Fits a line Misplaced → Fits a line d → d ≡ Misplaced
misplaced_alone a line BadByte (w, ws, h, none) bad = absurd (none_bad line h.allowed bad)
misplaced_alone a line d (w, ws, h, none) (v, vs, g, f) = misplaced_words a w ws d none (moved a line w v ws vs d h g f)

bad_words : (a : Above) (w : Word) (ws : List Word) (d : ServiceCode) → IsBadForm a w ws → FitsWords a w ws d → d ≡ BadForm
bad_words a w ws Misplaced bad h = absurd (h bad.0 bad.1)
bad_words a w ws BadForm bad h = refl
bad_words a w ws _ bad h = absurd (bad.2 (subst (λ (g : Form). Fill (slots g) ws) (one_form a w bad.0 h.0 bad.1.known h.1) h.2))

bad_alone : (a : Above) (line : List ℕ) (d : ServiceCode) → Fits a line BadForm → Fits a line d → d ≡ BadForm
bad_alone a line BadByte (w, ws, h, f) bad = absurd (none_bad line h.allowed bad)
bad_alone a line d (w, ws, h, bad) (v, vs, g, f) = bad_words a w ws d bad (moved a line w v ws vs d h g f)

pub alone : FirstThreeStandAlone
alone a line BadByte d few h g = byte_alone a line d h g
alone a line Misplaced d few h g = misplaced_alone a line d h g
alone a line BadForm d few h g = bad_alone a line d h g
alone a line _ d few h g = absurd (omega arith)
