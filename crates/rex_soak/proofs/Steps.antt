-- Texts that add lines to the schedule.
use Rattle.std.proofs.Common.{◌≡◌, ℕ, ◌+◌, ◌*◌, ◌<◌, ◌≤◌, ◌^◌, Bool, true, false, eqb, List, [], ◌∷◌, ◌++◌, length, Some, None, refl, arith, length-append}
use Rattle.std.specs.Prelude.{slice_index, nat_le, if◌then◌else◌}
use Rattle.std.specs.Fmt.{decimal}
use Rattle.std.specs.List.{list_all}
use Rattle.std.proofs.lemmas.Bool.{lt-leb}
use Rattle.rex_text.specs.Text.{is_allowed, words_of}
use Rattle.rex_syntax.specs.declared.request.Request.{Request}
use Rattle.rex_gen.specs.Commands.{command}
use Rattle.rex_parse.specs.declared.language.Above.{Above}
use Rattle.rex_scenario.specs.Reading.{line_code, line_after}
use Rattle.rex_scenario.specs.Schedule.{schedule_code, step_of, line_of, with_step}
use Rattle.rex_schedule.specs.declared.scenario.ScheduleLine.{ScheduleLine}
use Rattle.rex_soak.proofs.Lines.{IsWord, AreWords, spaced, spaced_words, spaced_plain, plain_clean, size, length-spaced}
use Rattle.rex_soak.proofs.Numbers.{decimal_word, short_six}
use Rattle.rex_soak.proofs.Commands.{command_is}
use Rattle.rex_soak.proofs.Texts.{IsRead, read_none, read_line, read_both}
use Rattle.rex_soak.proofs.Counter.{scheduling}

-- a text is read, and makes a schedule longer by at most so many lines
pub record IsGrown (seed : ℕ) (requests : List Request) (schedule : List ScheduleLine) (n : ℕ) (text : List ℕ) (count : ℕ) : Type 0 where
  pub more : List ScheduleLine
  pub next : ℕ
  pub read : IsRead (scheduling seed requests schedule) n text (scheduling seed requests more) next
  pub few : length more ≤ length schedule + count

-- a text is read after each schedule that leaves room for so many lines, and has at most 50 bytes for each
pub record Adds (seed : ℕ) (requests : List Request) (text : List ℕ) (count : ℕ) : Type 0 where
  pub short : length text ≤ 50 * count
  pub grown : (schedule : List ScheduleLine) (n : ℕ) → length schedule + count ≤ 100000 → IsGrown seed requests schedule n text count

pub adds_none : (seed : ℕ) (requests : List Request) → Adds seed requests [] 0
adds_none seed requests = record {
  short = omega arith;
  grown = λ schedule n room. record { more = schedule; next = n; read = read_none (scheduling seed requests schedule) n; few = omega arith };
}

pub adds_both : (seed : ℕ) (requests : List Request) (a b : List ℕ) (i j : ℕ) → Adds seed requests a i → Adds seed requests b j → Adds seed requests (a ++ b) (i + j)
adds_both seed requests a b i j f g = record {
  short = omega (arith, length-append a b, f.short, g.short);
  grown = λ schedule n room.
      let x = f.grown schedule n (omega arith) in
      let y = g.grown x.more x.next (omega (arith, x.few)) in
      record { more = y.more; next = y.next; read = read_both _ _ _ n x.next y.next a b x.read y.read; few = omega (arith, x.few, y.few) };
}

pub adds_fewer : (seed : ℕ) (requests : List Request) (text : List ℕ) (i j : ℕ) → i ≤ j → Adds seed requests text i → Adds seed requests text j
adds_fewer seed requests text i j le f = record {
  short = omega (arith, f.short);
  grown = λ schedule n room. let x = f.grown schedule n (omega arith) in record { more = x.more; next = x.next; read = x.read; few = omega (arith, x.few) };
}

pub adds_if : (seed : ℕ) (requests : List Request) (b : Bool) (x y : List ℕ) (i : ℕ) → Adds seed requests x i → Adds seed requests y i → Adds seed requests (if b then x else y) i
adds_if seed requests true x y i f g = f
adds_if seed requests false x y i f g = g

-- ---- a line

-- a word that begins no comment and no heading
pub record IsFirst (w : List ℕ) : Type 0 where
  pub word : IsWord w
  pub short : length w ≤ 10
  pub no_comment : eqb (slice_index w 0) 35 ≡ false
  pub no_heading : eqb (slice_index w 0) 37 ≡ false

-- no code fits the words where so many requests are there, as long as there is room
abbrev pub Fits : ℕ → List (List ℕ) → Type 0
Fits requests words = (earlier : ℕ) (a : Above) → nat_le 100000 earlier ≡ false → schedule_code true 3 requests 2 true earlier a words ≡ None

good_line : (seed : ℕ) (requests : List Request) (schedule : List ScheduleLine) (n : ℕ) (line w : List ℕ) (ws : List (List ℕ)) → list_all is_allowed line ≡ true → words_of line ≡ w ∷ ws
    → eqb (slice_index w 0) 35 ≡ false → eqb (slice_index w 0) 37 ≡ false → schedule_code true 3 (length requests) 2 true (length schedule) (scheduling seed requests schedule).service (w ∷ ws) ≡ None
    → (line_code (scheduling seed requests schedule) line ≡ None) × (line_after (scheduling seed requests schedule) n line ≡ scheduling seed requests (with_step schedule (step_of (scheduling seed requests schedule).service (w ∷ ws))))
good_line seed requests schedule n line w ws clean words hash percent good =
    (rw (clean, words, hash, percent) good, rw (words, hash, percent) refl)

one_more : (schedule : List ScheduleLine) (a : Above) (ws : List (List ℕ)) → length (with_step schedule (step_of a ws)) ≤ length schedule + 1
one_more schedule a ws = elim (step_of a ws) as (λ o. length (with_step schedule o) ≤ length schedule + 1) [
  | None ↦ omega arith
  | Some s ↦ omega (arith, length-append schedule (line_of s ∷ []))
]

-- a line of words that no code fits
pub adds_line : (seed : ℕ) (requests : List Request) (w : List ℕ) (ws : List (List ℕ)) → IsFirst w → AreWords ws → Fits (length requests) (w ∷ ws) → size ws ≤ 39
    → Adds seed requests (spaced (w ∷ ws) ++ 10 ∷ []) 1
adds_line seed requests w ws first are fit small =
    let all : AreWords (w ∷ ws) = (first.word, are) in
    let plain = spaced_plain (w ∷ ws) all in
    record {
      short = omega (arith, length-spaced w ws, first.short);
      grown = λ schedule n room.
          let good = good_line seed requests schedule n (spaced (w ∷ ws)) w ws (plain_clean (spaced (w ∷ ws)) plain) (spaced_words (w ∷ ws) all) first.no_comment first.no_heading
          (fit (length schedule) (scheduling seed requests schedule).service (lt-leb 100000 (length schedule) (omega arith))) in
          record {
            more = with_step schedule (step_of (scheduling seed requests schedule).service (w ∷ ws));
            next = n + 1;
            read = rw (← good.1) (read_line (scheduling seed requests schedule) n (spaced (w ∷ ws)) plain good.0);
            few = one_more schedule (scheduling seed requests schedule).service (w ∷ ws);
          };
    }

-- ---- commands

-- a word and a number below 1,000,000
pub adds_short : (seed : ℕ) (requests : List Request) (w : List ℕ) (a : ℕ) → IsFirst w → a < 1000000 → Fits (length requests) (w ∷ decimal a ∷ []) → Adds seed requests (command w (a ∷ [])) 1
adds_short seed requests w a first lt fit =
    let wide : a < 2 ^ 64 = omega arith in
    rw (← command_is w (a ∷ [])) (adds_line seed requests w (decimal a ∷ []) first (decimal_word a wide, tt) fit (omega (arith, short_six a lt)))

-- a word and two numbers below 1,000,000
pub adds_long : (seed : ℕ) (requests : List Request) (w : List ℕ) (a b : ℕ) → IsFirst w → a < 1000000 → b < 1000000 → Fits (length requests) (w ∷ decimal a ∷ decimal b ∷ [])
    → Adds seed requests (command w (a ∷ b ∷ [])) 1
adds_long seed requests w a b first lt lt' fit =
    let wide : a < 2 ^ 64 = omega arith in
    let wide' : b < 2 ^ 64 = omega arith in
    rw (← command_is w (a ∷ b ∷ []))
    (adds_line seed requests w (decimal a ∷ decimal b ∷ []) first (decimal_word a wide, (decimal_word b wide', tt)) fit (omega (arith, short_six a lt, short_six b lt')))
