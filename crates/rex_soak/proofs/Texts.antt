-- What it is for a text to be read, and texts that are read one after the other.
use Rattle.std.proofs.Common.{◌≡◌, ℕ, suc, ◌+◌, ◌≤◌, Bool, true, false, List, [], ◌∷◌, ◌++◌, length, Option, Some, None, Result, Ok, refl, sym, ap, ◌∙◌, arith}
use Rattle.std.specs.Prelude.{if◌then◌else◌}
use Rattle.std.specs.List.{list_all}
use Rattle.std.proofs.lemmas.Bool.{le-ltb}
use Rattle.std.proofs.lemmas.List.{append_assoc, append-nil}
use Rattle.rex_text.specs.Text.{lines_of, numbered}
use Rattle.rex_scenario.specs.Reading.{line_code, line_after, or_next, answer_from, answer_of, start, end_of}
use Rattle.rex_scenario.specs.declared.scenario.ScenarioCode.{ScenarioCode}
use Rattle.rex_scenario.specs.declared.scenario.Sections.{Sections}
use Rattle.rex_soak.proofs.Lines.{is_plain, line_cut}

-- the answer to a text after these sections, whose first line has this number
abbrev pub answer_at : Sections → ℕ → List ℕ → Result Sections (ℕ × ScenarioCode)
answer_at s n text = answer_from s n (numbered n (lines_of text))

-- a text leads from sections and a line's number to others, whatever follows
pub record IsRead (s : Sections) (n : ℕ) (text : List ℕ) (t : Sections) (m : ℕ) : Type 0 where
  pub on : (rest : List ℕ) → answer_at s n (text ++ rest) ≡ answer_at t m rest

pub read_none : (s : Sections) (n : ℕ) → IsRead s n [] s n
read_none s n = record { on = λ rest. refl }

pub read_both : (s t u : Sections) (n m k : ℕ) (a b : List ℕ) → IsRead s n a t m → IsRead t m b u k → IsRead s n (a ++ b) u k
read_both s t u n m k a b f g = record { on = λ rest. ap (answer_at s n) (append_assoc a b rest) ∙ f.on (b ++ rest) ∙ g.on rest }

answer_line : (s : Sections) (n : ℕ) (line : List ℕ) (rest : List (ℕ × List ℕ)) → line_code s line ≡ None → answer_from s n ((n, line) ∷ rest) ≡ answer_from (line_after s n line) (n + 1) rest
unfolding answer_from
answer_line s n line rest good = ap (λ (o : Option ScenarioCode). or_next o n (answer_from (line_after s n line) (n + 1) rest)) good

-- a good line
pub read_line : (s : Sections) (n : ℕ) (line : List ℕ) → list_all is_plain line ≡ true → line_code s line ≡ None → IsRead s n (line ++ 10 ∷ []) (line_after s n line) (n + 1)
read_line s n line plain good = record {
  on = λ rest.
      ap (answer_at s n) (append_assoc line (10 ∷ []) rest)
      ∙ ap (λ ls. answer_from s n (numbered n ls)) (line_cut line rest plain)
      ∙ answer_line s n line (numbered (n + 1) (lines_of rest)) good;
}

-- ---- lines that are all known

-- lines as a text, each with a LF
abbrev pub text_of : List (List ℕ) → List ℕ
text_of [] = []
text_of (line ∷ lines) = (line ++ 10 ∷ []) ++ text_of lines

-- what comes next, where no code fits
abbrev pub where_good : Option ScenarioCode → Option Sections → Option Sections
where_good None next = next
where_good (Some c) next = None

-- the sections after lines, where each is plain and good
abbrev pub read_lines : Sections → ℕ → List (List ℕ) → Option Sections
read_lines s n [] = Some s
read_lines s n (line ∷ lines) = if list_all is_plain line then where_good (line_code s line) (read_lines (line_after s n line) (n + 1) lines) else None

next_good : (b : Bool) (o : Option ScenarioCode) (next : Option Sections) (t : Sections) → (if b then where_good o next else None) ≡ Some t → (b ≡ true) × ((o ≡ None) × (next ≡ Some t))
next_good true None next t e = (refl, (refl, e))
next_good true (Some c) next t e = absurd cc
next_good false o next t e = absurd cc

pub read_all : (s t : Sections) (n : ℕ) (lines : List (List ℕ)) → read_lines s n lines ≡ Some t → IsRead s n (text_of lines) t (n + length lines)
read_all s t n [] e = let same : s ≡ t = cc in let k : n + 0 ≡ n = omega arith in rw (← same, k) (read_none s n)
read_all s t n (line ∷ lines) e =
    let g = next_good (list_all is_plain line) (line_code s line) (read_lines (line_after s n line) (n + 1) lines) t e in
    let k : n + suc (length lines) ≡ n + 1 + length lines = omega arith in
    rw k (read_both s (line_after s n line) t n (n + 1) (n + 1 + length lines) (line ++ 10 ∷ []) (text_of lines) (read_line s n line g.0 g.1.0) (read_all (line_after s n line) t (n + 1) lines g.1.1))

-- ---- a whole text

answer_end : (t : Sections) (m : ℕ) → end_of t t.stage ≡ None → answer_at t m [] ≡ Ok t
unfolding answer_from
answer_end t m e = ap (λ (o : Option ScenarioCode). or_next o m (Ok t)) e

-- a text that is not too long, and leads to sections that may end
pub read_whole : (text : List ℕ) (t : Sections) (m : ℕ) → length text ≤ 4194304 → IsRead (start true) 1 text t m → end_of t t.stage ≡ None → answer_of text ≡ Ok t
read_whole text t m short h e =
    rw (le-ltb 4194304 (length text) short) (ap (answer_at (start true) 1) (sym (append-nil text)) ∙ h.on [] ∙ answer_end t m e)
